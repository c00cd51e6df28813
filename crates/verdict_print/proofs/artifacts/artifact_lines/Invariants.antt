use Rattle.std.proofs.Common.{◌≡◌, ◌++◌, take}
use Rattle.std.specs.List.{flat_map}
use Rattle.verdict_print.specs.Lines.{artifact_text}
use Rattle.verdict_print.proofs.artifacts.artifact_lines.Given as goal

abbrev pub invariant-loop-row : goal.invariant-loop-row
invariant-loop-row l = l.text ≡ l.initial.text ++ flat_map (artifact_text l.addresses) (take l.row-index l.rows)
