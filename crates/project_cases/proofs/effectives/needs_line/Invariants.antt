use Rattle.std.proofs.Common.{◌≡◌, ◌∷◌, codes, map, take, string_bytes}
use Rattle.project_cases.specs.Effectives.{key_word}
use Rattle.project_cases.proofs.effectives.needs_line.Given as goal

abbrev pub invariant-loop-key : goal.invariant-loop-key
invariant-loop-key l = map string_bytes l.words.items ≡ codes "needs" ∷ map key_word (take l.key-index l.keys)
