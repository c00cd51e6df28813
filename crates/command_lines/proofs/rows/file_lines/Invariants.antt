use Rattle.std.proofs.Common.{◌≡◌, ◌++◌, take}
use Rattle.std.specs.List.{flat_map}
use Rattle.command_lines.specs.Rendered.{file_line}
use Rattle.command_lines.proofs.rows.file_lines.Given as goal

abbrev pub invariant-loop-row : goal.invariant-loop-row
invariant-loop-row l = l.text ≡ l.initial.text ++ flat_map (file_line l.prefix) (take l.row-index l.files)
