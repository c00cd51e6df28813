-- How many places a few values fill.
use Rattle.std.proofs.Common.{◌≡◌, inl, inr, ℕ, suc, ◌+◌, ◌*◌, ◌≤◌, Bool, true, false, cond, not, List, [], ◌∷◌, refl, sym, ◌∙◌, ap, arith, length, true≢false, filter, ◌||◌}
use Rattle.std.specs.Prelude.{count_by}
use Rattle.std.specs.List.{list_any}
use Rattle.std.proofs.Math.Nat.{mul-suc}
use Rattle.std.proofs.lemmas.List.Sums.{sum_by-cons, length-filter}
use Rattle.res_base.specs.Members.{Among, each_once, unless_there}
use Rattle.res_base.proofs.Members.{Passed, among_filter}

count-cons : {A : Type 0} (p : A → Bool) (x : A) (xs : List A) → count_by p (x ∷ xs) ≡ cond (p x) 1 0 + count_by p xs
count-cons p x xs = sum_by-cons (λ y. cond (p y) 1 0) x xs

-- what passes and what does not are all
split_count : {A : Type 0} (p : A → Bool) (xs : List A) → length xs ≡ count_by p xs + count_by (λ x. not (p x)) xs
split_count p [] = refl
split_count p (x ∷ xs) =
    rw (count-cons p x xs, count-cons (λ y. not (p y)) x xs)
    (by (p x) (length xs) (count_by p xs) (count_by (λ y. not (p y)) xs) (split_count p xs))
  where
    by : (b : Bool) (m n k : ℕ) → m ≡ n + k → suc m ≡ (cond b 1 0 + n) + (cond (not b) 1 0 + k)
    by true m n k e = omega (arith, e)
    by false m n k e = omega (arith, e)

filter_count : {A : Type 0} (p q : A → Bool) (xs : List A) → count_by p (filter q xs) ≤ count_by p xs
filter_count p q [] = omega arith
filter_count p q (x ∷ xs) = rw (count-cons p x xs) (by (q x) (filter_count p q xs))
  where
    by : (b : Bool) → count_by p (filter q xs) ≤ count_by p xs
        → count_by p (cond b (x ∷ filter q xs) (filter q xs)) ≤ cond (p x) 1 0 + count_by p xs
    by true h = rw (count-cons p x (filter q xs)) (omega (arith, h))
    by false h = omega (arith, h)

-- where no member passes, none is counted
none_counted : {A : Type 0} (p : A → Bool) (xs : List A) → list_any p xs ≡ false → count_by p xs ≡ 0
none_counted p [] e = refl
none_counted p (x ∷ xs) e = rw (count-cons p x xs) (by (p x) e (none_counted p xs))
  where
    by : (b : Bool) → (b || list_any p xs) ≡ false → (list_any p xs ≡ false → count_by p xs ≡ 0)
        → cond b 1 0 + count_by p xs ≡ 0
    by true h later = absurd (true≢false h)
    by false h later = omega (arith, later h)

module _ {A : Type 0} (eq : A → A → Bool) (same : (a b : A) → eq a b ≡ true → a ≡ b)
    (itself : (a : A) → eq a a ≡ true) where
  -- values that are all among others, each at most so many times
  pub pigeons : (most : ℕ) (xs ys : List A) → ((x : A) → Among x xs → Among x ys)
      → ((x : A) → count_by (eq x) xs ≤ most) → length xs ≤ most * length ys
  pigeons most [] [] within few = omega arith
  pigeons most (x ∷ xs) [] within few = absurd (within x (inl refl))
  pigeons most xs (y ∷ ys) within few =
      let rest : List A = filter (λ x. not (eq y x)) xs in
      let later : length rest ≤ most * length ys =
      pigeons most rest ys
      (λ x h. let p : Passed (λ z. not (eq y z)) x xs =
      among_filter (λ z. not (eq y z)) x xs h in other x p.passes (within x p.member))
      (λ x. omega (arith, filter_count (eq x) (λ z. not (eq y z)) xs, few x)) in
      let all : length xs ≡ count_by (eq y) xs + count_by (λ x. not (eq y x)) xs = split_count (eq y) xs in
      let is : length rest ≡ count_by (λ x. not (eq y x)) xs = length-filter (λ x. not (eq y x)) xs in
      rw (mul-suc most (length ys)) (omega (arith, later, all, is, few y))
    where
      other : (x : A) → not (eq y x) ≡ true → Among x (y ∷ ys) → Among x ys
      other x e (inl is) = absurd (true≢false (sym e ∙ ap not (ap (eq y) is ∙ itself y)))
      other x e (inr h) = h

  -- a list without its repeats has each value at most once
  pub counted_once : (x : A) (xs : List A) → count_by (eq x) (each_once eq xs) ≤ 1
  counted_once x [] = omega arith
  counted_once x (y ∷ xs) = by (list_any (eq y) (each_once eq xs)) refl (counted_once x xs)
    where
      one : (b : Bool) → eq x y ≡ b → list_any (eq y) (each_once eq xs) ≡ false → count_by (eq x) (each_once eq xs) ≤ 1
          → cond b 1 0 + count_by (eq x) (each_once eq xs) ≤ 1
      one true e none h =
          let zero : count_by (eq x) (each_once eq xs) ≡ 0 = ap (λ z. count_by (eq z) (each_once eq xs)) (same x y e)
          ∙ none_counted (eq y) (each_once eq xs) none in
          omega (arith, zero)
      one false e none h = omega (arith, h)

      by : (b : Bool) → list_any (eq y) (each_once eq xs) ≡ b → count_by (eq x) (each_once eq xs) ≤ 1
          → count_by (eq x) (unless_there b y (each_once eq xs)) ≤ 1
      by true e h = h
      by false e h = rw (count-cons (eq x) y (each_once eq xs)) (one (eq x y) refl e h)
