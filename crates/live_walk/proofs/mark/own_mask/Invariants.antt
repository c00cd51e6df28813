use Rattle.std.proofs.Common.{◌≡◌, drop}
use Rattle.live_walk.specs.Marks.{own_mask, left_by, mask_of}
use Rattle.live_walk.proofs.mark.own_mask.Given as goal

abbrev pub invariant-loop-rule : goal.invariant-loop-rule
invariant-loop-rule l = left_by mask_of l.mask (drop l.rule-index l.rules) ≡ own_mask l.rules
