use Rattle.std.proofs.Common.{◌≡◌, drop}
use Rattle.round_core.specs.Choices.{modules_of}
use Rattle.round_core.specs.Tables.{named}
use Rattle.round_core.proofs.reach.with_rows.Given as goal

abbrev pub invariant-loop-row : goal.invariant-loop-row
invariant-loop-row l = named l.made (modules_of (drop l.row-index l.rows)) ≡ named l.fn.table (modules_of l.rows)
