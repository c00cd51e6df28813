use Rattle.std.proofs.Common.{◌≡◌, ◌++◌, take}
use Rattle.std.specs.List.{flat_map}
use Rattle.verdict_print.specs.Lines.{coord_entry}
use Rattle.verdict_print.proofs.projects.put_path.Given as goal

abbrev pub invariant-loop-coord : goal.invariant-loop-coord
invariant-loop-coord l = l.text ≡ l.initial.text ++ flat_map coord_entry (take l.coord-index l.path)
