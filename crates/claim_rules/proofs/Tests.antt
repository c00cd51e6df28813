-- Tests that fail, and numbers that are compared.
use Rattle.std.proofs.Common.{◌≡◌, ℕ, ◌<◌, ◌≤◌, Bool, true, false, not, ◌&&◌, ◌||◌, refl, sym, ◌∙◌, true≢false, arith}
use Rattle.std.specs.Prelude.{nat_lt}
use Rattle.std.proofs.lemmas.Bool.Decides.{nat_tests}

pub not_true : (b : Bool) → not b ≡ true → b ≡ false
not_true true e = absurd (true≢false (sym e))
not_true false e = refl

pub not_false : (b : Bool) → b ≡ false → not b ≡ true
not_false true e = absurd (true≢false e)
not_false false e = refl

pub neither : (a b : Bool) → (a || b) ≡ false → (a ≡ false) × (b ≡ false)
neither true b e = absurd (true≢false e)
neither false b e = (refl, e)

pub or_true : (a b : Bool) → b ≡ true → (a || b) ≡ true
or_true true b e = refl
or_true false b e = e

pub and_no : (a b : Bool) → b ≡ false → (a && b) ≡ false
and_no true b e = e
and_no false b e = refl

-- what implies a failed test fails
pub fails_with : (a b : Bool) → (a ≡ true → b ≡ true) → b ≡ false → a ≡ false
fails_with true b implies e = absurd (true≢false (sym (implies refl) ∙ e))
fails_with false b implies e = refl

pub less : (a b : ℕ) → nat_lt a b ≡ true → a < b
less a b e = grind (arith, nat_tests)

pub is_less : (a b : ℕ) → a < b → nat_lt a b ≡ true
is_less a b e = grind (arith, nat_tests)

pub at_most : (a b : ℕ) → nat_lt a b ≡ false → b ≤ a
at_most a b e = grind (arith, nat_tests)

pub is_at_most : (a b : ℕ) → b ≤ a → nat_lt a b ≡ false
is_at_most a b e = grind (arith, nat_tests)
