use Rattle.std.proofs.Common.{◌<◌, length, arith}
use Rattle.live_walk.proofs.States.{flag_more}
use Rattle.live_walk.proofs.walk.flags_of.Goals as goal

pub loop-hop-preserved : goal.loop-hop-preserved
loop-hop-preserved c =
    let here : c.loop-hop.hop-index < length c.args.hops.now = omega arith in
    flag_more c.args.modules.now c.args.hops.now c.args.sets.now c.loop-hop.hop-index c.hop-item.result
    c.module_of.result.now c.loop-hop.made c.push.new.self c.lets.result here c.hop-item.is c.module_of.ensures
    c.loop-hop.invariant c.lets.ensures c.in_ok-push.ensures.ok
