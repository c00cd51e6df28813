-- Whether a member is the last.
use Rattle.std.proofs.Common.{◌≡◌, ◌==◌, ◌<◌, ◌+◌, ◌-◌, ℕ, List, length, drop, arith}
use Rattle.std.proofs.lemmas.Bool.Decides.{nat_tests}
use Rattle.std.proofs.lemmas.List.{length-drop, length-map}
use Rattle.std.specs.Borrow.{Bor}
use Rattle.word_values.specs.Members.{is_none_left}
use Rattle.word_values.specs.Split.{texts_of}

-- none is left behind the last
pub is_last : (texts : List (Bor (List ℕ))) (i : ℕ) → i < length texts → is_none_left (texts_of (drop (i + 1) texts)) ≡ (i + 1 == length texts)
is_last texts i within =
    let left : length (texts_of (drop (i + 1) texts)) ≡ length texts - (i + 1) = simp (length-map, length-drop) in
    grind (arith, nat_tests, left)
