use Rattle.std.proofs.Common.{◌<◌, length, arith}
use Rattle.tree_print.proofs.Pieces.{push_more}
use Rattle.tree_print.proofs.pending.push_all.Goals as goal

pub loop-done-preserved : goal.loop-done-preserved
loop-done-preserved c =
    let here : c.loop-done.done < length c.args.places.now = omega arith in
    push_more c.args.stack.now c.loop-done.stack c.push.new.self c.args.depth c.loop-done.done c.args.places.now here c.loop-done.invariant c.in_ok-push.ensures.ok
