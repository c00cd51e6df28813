-- When two lists of checks are one, place by place.
use Rattle.std.proofs.Common.{◌≡◌, ℕ, ◌+◌, ◌<◌, ◌≤◌, Bool, true, false, ◌&&◌, List, [], ◌∷◌, length, drop, get_or, refl, sym, ◌∙◌, ap, arith}
use Rattle.std.specs.Prelude.{nat_eq}
use Rattle.std.proofs.lemmas.Bool.{eq-eqb, ne_eqb}
use Rattle.std.proofs.lemmas.List.{drop_more, drop_all}
use Rattle.res_base.specs.declared.reading.Check.{Check}
use Rattle.cache_policy.specs.Decisions.{check_number, checks_eq}

same_first : (a b : Check) (xs ys : List Check) → check_number a ≡ check_number b
    → checks_eq (a ∷ xs) (b ∷ ys) ≡ checks_eq xs ys
same_first a b xs ys e = rw (eq-eqb (check_number a) (check_number b) e) refl

other_first : (a b : Check) (xs ys : List Check) → (check_number a ≡ check_number b → ⊥)
    → checks_eq (a ∷ xs) (b ∷ ys) ≡ false
other_first a b xs ys never = rw (ne_eqb (check_number a) (check_number b) never) refl

pub other_length : (xs ys : List Check) → (length xs ≡ length ys → ⊥) → checks_eq xs ys ≡ false
other_length [] [] never = absurd (never refl)
other_length [] (b ∷ ys) never = refl
other_length (a ∷ xs) [] never = refl
other_length (a ∷ xs) (b ∷ ys) never = by (nat_eq (check_number a) (check_number b)) (other_length xs ys
    (λ e. never (omega (arith, e))))
  where
    by : (same : Bool) → checks_eq xs ys ≡ false → (same && checks_eq xs ys) ≡ false
    by true e = e
    by false e = refl

pub same_at : (xs ys : List Check) (i : ℕ) (d : Check) → i < length xs → i < length ys
    → check_number (get_or xs i d) ≡ check_number (get_or ys i d)
    → checks_eq (drop i xs) (drop i ys) ≡ checks_eq (drop (i + 1) xs) (drop (i + 1) ys)
same_at xs ys i d p q e =
    ap (λ l. checks_eq l (drop i ys)) (drop_more xs i d p)
    ∙ ap (λ l. checks_eq (get_or xs i d ∷ drop (i + 1) xs) l) (drop_more ys i d q)
    ∙ same_first (get_or xs i d) (get_or ys i d) (drop (i + 1) xs) (drop (i + 1) ys) e

pub other_at : (xs ys : List Check) (i : ℕ) (d : Check) → i < length xs → i < length ys
    → (check_number (get_or xs i d) ≡ check_number (get_or ys i d) → ⊥)
    → checks_eq (drop i xs) (drop i ys) ≡ false
other_at xs ys i d p q never =
    ap (λ l. checks_eq l (drop i ys)) (drop_more xs i d p)
    ∙ ap (λ l. checks_eq (get_or xs i d ∷ drop (i + 1) xs) l) (drop_more ys i d q)
    ∙ other_first (get_or xs i d) (get_or ys i d) (drop (i + 1) xs) (drop (i + 1) ys) never

pub same_to_end : (xs ys : List Check) (i : ℕ) → length xs ≤ i → length ys ≤ i
    → checks_eq (drop i xs) (drop i ys) ≡ true
same_to_end xs ys i p q = ap (λ l. checks_eq l (drop i ys)) (drop_all i xs p)
    ∙ ap (λ l. checks_eq [] l) (drop_all i ys q)
