use Rattle.std.proofs.Common.{◌≡◌, drop}
use Rattle.disk_base.specs.Names.{run}
use Rattle.disk_base.specs.Tables.{names_in}
use Rattle.disk_base.proofs.rows.Table.follow.Given as goal

abbrev pub invariant-loop-step : goal.invariant-loop-step
invariant-loop-step l = run (drop l.step-index l.steps) (names_in l.self) ≡ run l.steps (names_in l.initial.self)
