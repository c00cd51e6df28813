-- Texts with separators between them.
use Rattle.std.proofs.Common.{◌≡◌, ◌∙◌, ◌≤◌, ◌<◌, ℕ, List, [], ◌∷◌, ◌++◌, length, get_or, map, ap, refl, sym, arith}
use Rattle.std.proofs.lemmas.List.{append-nil}
use Rattle.std.proofs.lemmas.List.Folds.{flat_map-map}
use Rattle.std.proofs.lemmas.List.Splits.{join_with_byte-slice_split}
use Rattle.std.specs.List.{join_by, join_with_byte}
use Rattle.std.specs.Borrow.{Bor}
use Rattle.case_words.specs.Words.{joined, pieces_of, texts_of}

pub join_by-map : {X : Type 0} (text : X → List ℕ) (separator : List ℕ) (words : List X) → join_by text separator words ≡ joined separator (map text words)
join_by-map text separator [] = refl
join_by-map text separator (w ∷ words) = ap (λ rest. text w ++ rest) (sym (flat_map-map (λ t. separator ++ t) text words))

pub joined-byte : (c : ℕ) (texts : List (List ℕ)) → joined (c ∷ []) texts ≡ join_with_byte c texts
joined-byte c [] = refl
joined-byte c (x ∷ []) = append-nil x
joined-byte c (x ∷ y ∷ rest) = ap (λ more. x ++ (c ∷ more)) (joined-byte c (y ∷ rest))

-- the pieces joined again
pub joined-pieces : (c : ℕ) (text : List ℕ) → joined (c ∷ []) (pieces_of c text) ≡ text
joined-pieces c text = joined-byte c (pieces_of c text) ∙ join_with_byte-slice_split c text

-- texts that are the pieces
pub pieces-joined : (c : ℕ) (text : List ℕ) (texts : List (List ℕ)) (pieces items : List (Bor (List ℕ))) → texts ≡ texts_of pieces → pieces ≡ items → texts_of items ≡ pieces_of c text
    → joined (c ∷ []) texts ≡ text
pieces-joined c text texts pieces items is_texts e h = ap (joined (c ∷ [])) (is_texts ∙ ap texts_of e ∙ h) ∙ joined-pieces c text

-- two pieces, which are all that stands in the text
pub two-pieces : (c : ℕ) (text : List ℕ) (pieces items : List (Bor (List ℕ))) (d : Bor (List ℕ)) (one other : List ℕ) → pieces ≡ items → texts_of items ≡ pieces_of c text
    → 2 ≤ length pieces → length pieces < 3 → one ≡ (get_or pieces 0 d).now → other ≡ (get_or pieces 1 d).now → one ++ c ∷ other ≡ text
two-pieces c text [] items d one other e h low high x y = absurd (omega (arith, low))
two-pieces c text (a ∷ []) items d one other e h low high x y = absurd (omega (arith, low))
two-pieces c text (a ∷ b ∷ []) items d one other e h low high x y =
    ap (λ o. o ++ c ∷ other) x
    ∙ ap (λ o. a.now ++ c ∷ o) (y ∙ sym (append-nil b.now))
    ∙ ap (λ ps. joined (c ∷ []) (texts_of ps)) e
    ∙ ap (joined (c ∷ [])) h
    ∙ joined-pieces c text
two-pieces c text (a ∷ b ∷ z ∷ rest) items d one other e h low high x y = absurd (omega (arith, high))

-- three pieces likewise
pub three-pieces : (c : ℕ) (text : List ℕ) (pieces items : List (Bor (List ℕ))) (d : Bor (List ℕ)) (one other last : List ℕ) → pieces ≡ items → texts_of items ≡ pieces_of c text
    → 3 ≤ length pieces → length pieces < 4 → one ≡ (get_or pieces 0 d).now → other ≡ (get_or pieces 1 d).now → last ≡ (get_or pieces 2 d).now → one ++ c ∷ (other ++ c ∷ last) ≡ text
three-pieces c text [] items d one other last e h low high x y z = absurd (omega (arith, low))
three-pieces c text (a ∷ []) items d one other last e h low high x y z = absurd (omega (arith, low))
three-pieces c text (a ∷ b ∷ []) items d one other last e h low high x y z = absurd (omega (arith, low))
three-pieces c text (a ∷ b ∷ v ∷ []) items d one other last e h low high x y z =
    ap (λ o. o ++ c ∷ (other ++ c ∷ last)) x
    ∙ ap (λ o. a.now ++ c ∷ (o ++ c ∷ last)) y
    ∙ ap (λ o. a.now ++ c ∷ (b.now ++ c ∷ o)) (z ∙ sym (append-nil v.now))
    ∙ ap (λ ps. joined (c ∷ []) (texts_of ps)) e
    ∙ ap (joined (c ∷ [])) h
    ∙ joined-pieces c text
three-pieces c text (a ∷ b ∷ v ∷ w ∷ rest) items d one other last e h low high x y z = absurd (omega (arith, high))
