use Rattle.std.proofs.Common.{◌≡◌, drop}
use Rattle.live_walk.specs.Marks.{cover_mask, left_by, cover_of}
use Rattle.live_walk.proofs.mark.cover_mask.Given as goal

abbrev pub invariant-loop-rule : goal.invariant-loop-rule
invariant-loop-rule l = left_by cover_of l.mask (drop l.rule-index l.rules) ≡ cover_mask l.rules
