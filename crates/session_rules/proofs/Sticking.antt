-- Sessions that are stuck.
use Rattle.std.proofs.Common.{◌≡◌, ◌⊎◌, inl, inr, ℕ, ◌+◌, ◌≤◌, Bool, true, false, cond, ◌&&◌, ◌||◌, [], ◌∷◌, refl, sym, ◌∙◌, ap, subst, true≢false, arith}
use Rattle.std.specs.Prelude.{count_by, nat_lt}
use Rattle.std.specs.List.{list_any}
use Rattle.std.proofs.lemmas.Bool.Decides.{nat_tests}
use Rattle.std.proofs.lemmas.List.Sums.{sum_by-cons}
use Rattle.cache_policy.specs.declared.Mode.TheVariants.{Offline}
use Rattle.claim_rules.specs.Claims.{IsStuck}
use Rattle.claim_rules.specs.Counts.{is_broken, is_lack, is_lacking, is_link_break, link_breaks}
use Rattle.claim_rules.specs.Histories.{Entry, History, key_in, known_in}
use Rattle.claim_rules.specs.Resolvers.{Resolver}
use Rattle.claim_rules.specs.Sessions.{needs}
use Rattle.claim_rules.specs.declared.settings.Settings.{Settings}
use Rattle.pool_rules.specs.Boards.{Desk, all_breaks, all_lacks}
use Rattle.pool_rules.specs.Counts.{Counts, RiseBeside}
use Rattle.pool_rules.specs.declared.finish.Finish.{Finish}
use Rattle.res_base.specs.Members.{Among}
use Rattle.res_base.specs.Names.{key_eq}
use Rattle.res_base.specs.declared.key.FileKey.{FileKey}
use Rattle.session_rules.specs.Outcomes.{FailedAt, IsServed}

-- ---- counts of entries

count-cons : (p : Entry → Bool) (e : Entry) (h : History) → count_by p (e ∷ h) ≡ cond (p e) 1 0 + count_by p h
count-cons p e h = sum_by-cons (λ x. cond (p x) 1 0) e h

count_and : (p q : Entry → Bool) (h : History) → count_by (λ e. p e && q e) h ≤ count_by p h
count_and p q [] = omega arith
count_and p q (e ∷ h) = rw (count-cons (λ x. p x && q x) e h, count-cons p e h) (by (p e) (q e) (count_and p q h))
  where
    by : (a b : Bool) → count_by (λ x. p x && q x) h ≤ count_by p h
        → cond (a && b) 1 0 + count_by (λ x. p x && q x) h ≤ cond a 1 0 + count_by p h
    by true true l = omega (arith, l)
    by true false l = omega (arith, l)
    by false b l = omega (arith, l)

none_and : (p q : Entry → Bool) (h : History) → count_by p h ≡ 0 → list_any (λ e. p e && q e) h ≡ false
none_and p q [] none = refl
none_and p q (e ∷ h) none = by (p e) (q e) (none_and p q h) (sym (count-cons p e h) ∙ none)
  where
    by : (a b : Bool) → (count_by p h ≡ 0 → list_any (λ x. p x && q x) h ≡ false) → cond a 1 0 + count_by p h ≡ 0
        → ((a && b) || list_any (λ x. p x && q x) h) ≡ false
    by true b later sum = absurd (omega (arith, sum))
    by false b later sum = later (omega (arith, sum))

pub breaks_within : (h : History) (key : FileKey) → link_breaks h key ≤ all_breaks h
breaks_within h key = count_and (λ (e : Entry). is_link_break e.what) (λ (e : Entry). key_eq (key_in e.what) key) h

pub none_lacks : (h : History) (key : FileKey) → all_lacks h ≡ 0 → is_lacking h key ≡ false
none_lacks h key none = none_and (λ (e : Entry). is_lack e.what) (λ (e : Entry). key_eq (key_in e.what) key) h none

pub broken_is : (retries : ℕ) (h : History) (key : FileKey) → is_broken retries h key ≡ true
    → (1 + retries ≤ link_breaks h key) ⊎ (is_lacking h key ≡ true)
broken_is retries h key broken = by (nat_lt retries (link_breaks h key)) refl broken
  where
    at : nat_lt retries (link_breaks h key) ≡ true → 1 + retries ≤ link_breaks h key
    at e = grind (arith, nat_tests)

    by : (b : Bool) → nat_lt retries (link_breaks h key) ≡ b → (b || is_lacking h key) ≡ true
        → (1 + retries ≤ link_breaks h key) ⊎ (is_lacking h key ≡ true)
    by true is all = inl (at is)
    by false is all = inr all

-- ---- a board that was worked through from nothing

module _ {V : Type 0} (r : Resolver V) (old new : Desk) (before now : Counts) (finish : Finish)
    (served : IsServed r old new before now finish) (key : FileKey)
    (stuck : IsStuck new.settings r new.history key) where
  retries_are : new.settings.retries ≡ old.settings.retries
  retries_are = ap (λ (s : Settings). s.retries) served.worked.works.job.settings

  pub no_breaks : old.plan.mode ≡ Offline → all_breaks new.history ≡ 0
  no_breaks off = served.worked.works.no_link off ∙ ap all_breaks served.first

  pub lacks_each : old.plan.mode ≡ Offline → (one : FileKey) → Among one (needs r (known_in new.history))
      → is_lacking new.history one ≡ true
  lacks_each off one need = by (broken_is new.settings.retries new.history one (stuck.broken one need))
    where
      by : (1 + new.settings.retries ≤ link_breaks new.history one) ⊎ (is_lacking new.history one ≡ true)
          → is_lacking new.history one ≡ true
      by (inl often) = absurd (omega (arith, often, breaks_within new.history one, no_breaks off))
      by (inr lacks) = lacks

  often : (old.plan.mode ≡ Offline → ⊥) → Among key (needs r (known_in new.history)) → 1 + old.settings.retries
      ≤ link_breaks new.history key
  often on need = by (broken_is new.settings.retries new.history key (stuck.broken key need))
    where
      none : is_lacking new.history key ≡ false
      none = none_lacks new.history key (served.worked.works.lacking on ∙ ap all_lacks served.first)

      by : (1 + new.settings.retries ≤ link_breaks new.history key) ⊎ (is_lacking new.history key ≡ true)
          → 1 + old.settings.retries ≤ link_breaks new.history key
      by (inl enough) = subst (λ n. 1 + n ≤ link_breaks new.history key) retries_are enough
      by (inr lacks) = absurd (true≢false (sym lacks ∙ none))

  rises : (n : ℕ) → n ≤ all_breaks new.history → RiseBeside before.faults now.faults 0 n
  rises n le = by served.worked.works.broken
    where
      none : all_breaks old.history ≡ 0
      none = ap all_breaks served.first

      by : RiseBeside before.faults now.faults (all_breaks old.history) (all_breaks new.history)
          → RiseBeside before.faults now.faults 0 n
      by (inl up) = inl (omega (arith, up, le, none))
      by (inr end) = inr end

  pub failed_at : (old.plan.mode ≡ Offline → ⊥) → Among key (needs r (known_in new.history))
      → FailedAt old.plan old.settings.retries key before now
  failed_at on need =
      let enough : 1 + old.settings.retries ≤ link_breaks new.history key = often on need in
      record {
        rose = rises (1 + old.settings.retries) (omega (arith, enough, breaks_within new.history key));
        urls = λ told.
            let none : link_breaks old.history key ≡ 0 = ap (λ h. link_breaks h key) served.first in
            omega (arith, enough, none, served.worked.works.urls key told);
      }
