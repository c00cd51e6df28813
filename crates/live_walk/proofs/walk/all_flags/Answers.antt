use Rattle.std.proofs.Common.{◌<◌, length, ap, sym, ◌∙◌, arith}
use Rattle.live_walk.specs.Numbers.{lets_row}
use Rattle.live_walk.proofs.States.{flags_more}
use Rattle.live_walk.proofs.walk.all_flags.Goals as goal

pub loop-place-preserved : goal.loop-place-preserved
loop-place-preserved c =
    let in_out : c.loop-place.place < length c.args.out.now = omega arith in
    let in_table : c.loop-place.place < length c.args.table.now = omega arith in
    flags_more c.args.modules.now c.args.out.now c.args.table.now c.loop-place.place c.index-out-place.result
    c.index-table-place.result c.loop-place.made c.push.new.self c.in_ok-flags_of.field-0 in_out in_table
    c.index-out-place.is c.index-table-place.is c.loop-place.invariant (c.in_ok-flags_of.ensures
    ∙ (ap (λ hops. lets_row c.args.modules.now hops c.sets_in.result.now) c.as_slice-hops.ensures
    ∙ ap (λ sets. lets_row c.args.modules.now c.index-out-place.result sets) c.sets_in.ensures))
    c.in_ok-push.ensures.ok
