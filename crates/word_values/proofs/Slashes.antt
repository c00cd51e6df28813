-- Slashes at the end of a text.
use Rattle.std.proofs.Common.{◌≡◌, ◌≢◌, ◌++◌, ◌∷◌, [], ℕ, List, refl, ap, arith}
use Rattle.word_values.specs.Addresses.{before_end, without_slashes}

-- one slash more changes nothing
pub one_more : (text : List ℕ) → without_slashes (text ++ (47 ∷ [])) ≡ without_slashes text
one_more [] = refl
one_more (b ∷ text) = ap (before_end b) (one_more text)

last_stays : (b : ℕ) → ((front : List ℕ) → (b ∷ []) ≢ front ++ (47 ∷ [])) → before_end b [] ≡ b ∷ []
last_stays b other = grind (arith, other [])

-- a text that does not end in a slash stays
pub none_more : (text : List ℕ) → ((front : List ℕ) → text ≢ front ++ (47 ∷ [])) → without_slashes text ≡ text
none_more [] other = refl
none_more (b ∷ []) other = last_stays b other
none_more (b ∷ c ∷ text) other = ap (before_end b) (none_more (c ∷ text) (λ front is. other (b ∷ front) (ap (λ t. b ∷ t) is)))
