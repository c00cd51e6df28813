use Rattle.std.proofs.Common.{◌≡◌, ◌∷◌, codes, map, take, string_bytes}
use Rattle.case_words.specs.HexWord.{hex_word}
use Rattle.project_cases.proofs.poms.listing_line.Given as goal

abbrev pub invariant-loop-version : goal.invariant-loop-version
invariant-loop-version l = map string_bytes l.words.items ≡ codes "ok" ∷ map hex_word (take l.version-index l.versions)
