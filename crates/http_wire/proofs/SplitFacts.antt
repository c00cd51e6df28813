-- The end of the head, piece after piece.
use Rattle.std.proofs.Common.{◌≡◌, [], ◌∷◌, ◌++◌, refl, sym, ap, ◌∙◌, append_assoc, append-nil}
use Rattle.http_wire.specs.Fields.{Bytes}
use Rattle.http_wire.specs.Splits.{Split, no_head, behind_head, split_after, split_from}

pub split-append : (split : Split) (xs ys : Bytes) → split_from split (xs ++ ys) ≡ split_from (split_from split xs) ys
split-append split [] ys = refl
split-append split (x ∷ xs) ys = split-append (split_after split x) xs ys

-- behind the head all bytes are those of the body
pub behind_by : (front rest xs : Bytes) → split_from (behind_head front rest) xs ≡ behind_head front (rest ++ xs)
behind_by front rest [] = ap (behind_head front) (sym (append-nil rest))
behind_by front rest (x ∷ xs) = behind_by front (rest ++ x ∷ []) xs
    ∙ ap (behind_head front) (append_assoc rest (x ∷ []) xs)

pub none_by : (xs : Bytes) → split_from no_head xs ≡ no_head
none_by [] = refl
none_by (x ∷ xs) = none_by xs
