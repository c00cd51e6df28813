use Rattle.std.proofs.Common.{◌≡◌, drop}
use Rattle.round_core.specs.Steering.{with_rows}
use Rattle.round_core.proofs.steer.Steer.with_rows.Given as goal

abbrev pub invariant-loop-row : goal.invariant-loop-row
invariant-loop-row l = with_rows l.made (drop l.row-index l.rows) ≡ with_rows l.fn.self l.rows
