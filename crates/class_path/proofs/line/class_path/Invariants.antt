use Rattle.std.proofs.Common.{◌≡◌, ◌++◌, take}
use Rattle.std.specs.List.{flat_map}
use Rattle.class_path.specs.Files.{next_entry}
use Rattle.class_path.proofs.line.class_path.Given as goal

abbrev pub invariant-loop-row : goal.invariant-loop-row
invariant-loop-row l = l.text ≡ l.initial.text ++ flat_map (next_entry l.prefix) (take l.row-index l.rest)
