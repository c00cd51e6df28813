-- Members of lists, and lists without repeats.
use Rattle.std.specs.Prelude.{ℕ, ◌≡◌, ◌⊎◌, Bool, true, false, List, [], ◌∷◌, length}
use Rattle.std.specs.List.{list_any}

abbrev pub Among : {A : Type 0} → A → List A → Type 0
Among x [] = ⊥
Among x (y ∷ ys) = (x ≡ y) ⊎ Among x ys

abbrev pub unless_there : {A : Type 0} → Bool → A → List A → List A
unless_there true x xs = xs
unless_there false x xs = x ∷ xs

-- each of these once, under a test of equality
abbrev pub each_once : {A : Type 0} → (A → A → Bool) → List A → List A
each_once eq [] = []
each_once eq (x ∷ xs) = unless_there (list_any (eq x) (each_once eq xs)) x (each_once eq xs)

-- how many different ones these are
abbrev pub number_of : {A : Type 0} → (A → A → Bool) → List A → ℕ
number_of eq xs = length (each_once eq xs)
