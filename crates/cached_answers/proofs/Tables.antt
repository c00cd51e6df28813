-- What is used, by the table of decisions.
use Rattle.std.proofs.Common.{◌≡◌, ◌≢◌, ℕ, Bool, true, false, cond, not, ◌&&◌, ◌||◌, List, [], ◌∷◌, Option, Some, None, refl, sym, ◌∙◌, ap, subst, true≢false}
use Rattle.std.specs.Prelude.{nat_eq}
use Rattle.std.specs.Cmp.Lexicographic.{pointwise}
use Rattle.std.specs.Option.{option_map}
use Rattle.std.specs.Ordering.{on}
use Rattle.std.proofs.lemmas.Bool.{eqb-true}
use Rattle.cache_layout.specs.declared.record.Found.{Found}
use Rattle.cache_layout.specs.declared.record.Found.TheVariants.{Broken, Gone, Nothing, Whole}
use Rattle.cache_layout.specs.declared.record.Record.{Record}
use Rattle.cache_policy.specs.Decisions.{check_number, checks_eq, decision}
use Rattle.cache_policy.specs.declared.Decision.{Decision}
use Rattle.cache_policy.specs.declared.Decision.TheVariants.{Use, Ask, Unavailable}
use Rattle.cache_policy.specs.declared.Mode.{Mode}
use Rattle.cache_policy.specs.declared.Mode.TheVariants.{Missing, Offline, Refresh}
use Rattle.res_base.specs.declared.reading.Answer.{Answer}
use Rattle.res_base.specs.declared.reading.Check.{Check}
use Rattle.res_base.specs.declared.reading.Check.TheVariants.{Sha1, Md5, Sha256, NoCheck}
use Rattle.cached_answers.specs.Caches.{if_used}

is_use : Decision → Bool
is_use Use = true
is_use Ask = false
is_use Unavailable = false

ask_other : Ask ≡ Use → ⊥
unfolding is_use
ask_other e = true≢false (sym (ap is_use e))

unavailable_other : Unavailable ≡ Use → ⊥
unfolding is_use
unavailable_other e = true≢false (sym (ap is_use e))

-- something is used only where the table says so
pub if_used_some : (d : Decision) (o : Option Answer) (got : Answer) → if_used d o ≡ Some got → d ≡ Use
if_used_some Use o got e = refl
if_used_some Ask o got e = cc
if_used_some Unavailable o got e = cc

pub used_answer : (d : Decision) (o : Option Answer) → d ≡ Use → if_used d o ≡ o
used_answer Use o e = refl
used_answer Ask o e = absurd (ask_other e)
used_answer Unavailable o e = absurd (unavailable_other e)

pub unused_none : (d : Decision) (o : Option Answer) → d ≢ Use → if_used d o ≡ None
unused_none Use o never = absurd (never refl)
unused_none Ask o never = refl
unused_none Unavailable o never = refl

-- ---- data is used only where its checks are the wanted ones

nothing_used : (mode : Mode) (changing : Bool) (checks : List Check) (moment ttl : ℕ)
    → decision mode changing Nothing checks moment ttl ≡ Use → ⊥
nothing_used Missing changing checks moment ttl e = ask_other e
nothing_used Offline changing checks moment ttl e = unavailable_other e
nothing_used Refresh changing checks moment ttl e = ask_other e

pub used_checks : (mode : Mode) (changing : Bool) (entry : Record) (checks : List Check) (moment ttl : ℕ)
    → decision mode changing (Whole entry) checks moment ttl ≡ Use → checks_eq entry.checks checks ≡ true
used_checks mode changing entry checks moment ttl is = by (checks_eq entry.checks checks) refl
  where
    by : (b : Bool) → checks_eq entry.checks checks ≡ b → checks_eq entry.checks checks ≡ true
    by true same = same
    by false other = absurd (nothing_used mode changing checks moment ttl (rw other at is))

-- ---- lists of checks that are the same

check_of : ℕ → Check
check_of n = cond (nat_eq n 0) Sha1 (cond (nat_eq n 1) Md5 (cond (nat_eq n 2) Sha256 NoCheck))

of_number : (check : Check) → check_of (check_number check) ≡ check
unfolding check_of
of_number Sha1 = refl
of_number Md5 = refl
of_number Sha256 = refl
of_number NoCheck = refl

same_check : (a b : Check) → nat_eq (check_number a) (check_number b) ≡ true → a ≡ b
same_check a b e = sym (of_number a) ∙ ap check_of (eqb-true (check_number a) (check_number b) e) ∙ of_number b

both : (a b : Bool) → (a && b) ≡ true → (a ≡ true) × (b ≡ true)
both true b e = (refl, e)
both false b e = absurd (true≢false (sym e))

pub same_checks : (these those : List Check) → checks_eq these those ≡ true → these ≡ those
same_checks [] [] e = refl
same_checks [] (b ∷ those) e = absurd (true≢false (sym e))
same_checks (a ∷ these) [] e = absurd (true≢false (sym e))
same_checks (a ∷ these) (b ∷ those) e =
    let parts = both (nat_eq (check_number a) (check_number b)) (checks_eq these those) e in
    ap (λ c. c ∷ these) (same_check a b parts.0) ∙ ap (λ cs. b ∷ cs) (same_checks these those parts.1)
