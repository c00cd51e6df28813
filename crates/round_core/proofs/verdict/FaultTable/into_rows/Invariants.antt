use Rattle.std.proofs.Common.{◌≡◌, ◌++◌, map}
use Rattle.round_core.specs.Verdicts.{fault_row}
use Rattle.round_core.proofs.verdict.FaultTable.into_rows.Given as goal

abbrev pub invariant-loop-coord : goal.invariant-loop-coord
invariant-loop-coord l = l.made ++ map fault_row l.coord-iterator ≡ map fault_row l.fn.self
