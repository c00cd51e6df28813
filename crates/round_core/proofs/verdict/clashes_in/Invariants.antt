use Rattle.std.proofs.Common.{◌≡◌, take}
use Rattle.round_core.specs.Verdicts.{clashes_in}
use Rattle.round_core.proofs.verdict.clashes_in.Given as goal

abbrev pub invariant-loop-row : goal.invariant-loop-row
invariant-loop-row l = l.made ≡ clashes_in l.asked (take l.row-index l.rows)
