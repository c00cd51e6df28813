-- Dots that become slashes, up to the first dot.
use Rattle.std.proofs.Common.{◌≡◌, ℕ, ◌<◌, List, [], ◌∷◌, ◌++◌, length, arith, refl}
use Rattle.std.proofs.lemmas.Grind.{common_steps}
use Rattle.std.specs.List.{before_first, after_first, position_or_len}
use Rattle.res_base.specs.Plain.{is_dot}
use Rattle.res_base.specs.Paths.{slashed}

pub no_dot : (text : List ℕ) → position_or_len is_dot text ≡ length text → slashed text ≡ text
no_dot [] e = refl
no_dot (b ∷ text) e = grind (arith, common_steps, no_dot text)

pub first_dot : (text : List ℕ) → position_or_len is_dot text < length text
    → slashed text ≡ before_first is_dot text ++ 47 ∷ slashed (after_first is_dot text)
first_dot [] h = absurd (omega (arith, h))
first_dot (b ∷ text) h = grind (arith, common_steps, first_dot text)
