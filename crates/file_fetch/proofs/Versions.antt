-- The segment before the last one, found from the left.
use Rattle.std.proofs.Common.{◌≡◌, ◌+◌, ◌<◌, ℕ, List, [], ◌∷◌, length, get_or, drop, refl, sym, ap, ◌∙◌, arith}
use Rattle.std.proofs.lemmas.List.{at_drop_more, at_drop_all}
use Rattle.pool_rules.specs.Plans.{last_but_one}

-- the part before the last one, where these two came before
abbrev pub before_last : List ℕ → List ℕ → List (List ℕ) → List ℕ
before_last earlier last [] = earlier
before_last earlier last (part ∷ parts) = before_last last part parts

two_before : (earlier last : List ℕ) (parts : List (List ℕ))
    → before_last earlier last parts ≡ last_but_one (earlier ∷ last ∷ parts)
two_before earlier last [] = refl
two_before earlier last (part ∷ parts) = two_before last part parts

pub none_before : (parts : List (List ℕ)) → before_last [] [] parts ≡ last_but_one parts
none_before [] = refl
none_before (only ∷ []) = refl
none_before (first ∷ second ∷ parts) = two_before first second parts

-- one more part
pub one_more : (parts : List (List ℕ)) (earlier last part version : List ℕ) (n m : ℕ)
    → (n < length parts) × (part ≡ get_or parts n part) → m ≡ n + 1
    → before_last earlier last (drop n parts) ≡ version → before_last last part (drop m parts) ≡ version
one_more parts earlier last part version n m turn more so_far =
    rw more (ap (λ (x : List ℕ). before_last last x (drop (n + 1) parts)) turn.1
    ∙ (sym (at_drop_more (before_last earlier last) parts n part turn.0) ∙ so_far))

-- no part is left
pub all_came : (parts : List (List ℕ)) (earlier last version : List ℕ) (n : ℕ) → n ≡ length parts
    → before_last earlier last (drop n parts) ≡ version → earlier ≡ version
all_came parts earlier last version n all so_far =
    sym (at_drop_all (before_last earlier last) parts n (omega (arith, all))) ∙ so_far
