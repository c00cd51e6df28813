use Rattle.std.proofs.Common.{◌≡◌, ◌++◌, take}
use Rattle.std.specs.List.{flat_map}
use Rattle.verdict_print.specs.Lines.{failed_lines}
use Rattle.verdict_print.proofs.projects.failed_lines.Given as goal

abbrev pub invariant-loop-row : goal.invariant-loop-row
invariant-loop-row l = l.text ≡ l.initial.text ++ flat_map (failed_lines l.addresses) (take l.row-index l.rows)
