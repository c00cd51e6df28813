use Rattle.std.proofs.Common.{◌≡◌, ◌∷◌, map, take, string_bytes}
use Rattle.case_words.specs.Names.{coord_word}
use Rattle.project_cases.proofs.effectives.path_line.Given as goal

abbrev pub invariant-loop-coord : goal.invariant-loop-coord
invariant-loop-coord l = map string_bytes l.words.items ≡ l.kind ∷ map coord_word (take l.coord-index l.path)
