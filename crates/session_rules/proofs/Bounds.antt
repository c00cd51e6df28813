-- How often a link is asked.
use Rattle.std.proofs.Common.{◌≡◌, inl, inr, ℕ, zero, suc, ◌+◌, ◌*◌, ◌≤◌, Bool, List, refl, ap, subst, arith, length}
use Rattle.std.proofs.Math.Nat.{mul-le-mul_right}
use Rattle.claim_rules.specs.Counts.{claims_of, claims_that, link_breaks}
use Rattle.claim_rules.specs.Histories.{History}
use Rattle.claim_rules.specs.Legal.{Legal, StopsFrom}
use Rattle.claim_rules.specs.Resolvers.{Resolver}
use Rattle.pool_rules.specs.Boards.{Desk, all_breaks}
use Rattle.pool_rules.specs.Counts.{Counts, RiseBeside}
use Rattle.pool_rules.specs.Plans.{files_in}
use Rattle.pool_rules.specs.Works.{AsksFor}
use Rattle.pool_rules.specs.declared.finish.Finish.{Finish}
use Rattle.res_base.specs.declared.key.FileKey.{FileKey}
use Rattle.session_rules.proofs.Sticking.{breaks_within}
use Rattle.session_rules.specs.Outcomes.{AsksFew, IsServed}

module _ {V : Type 0} (r : Resolver V) (old new : Desk) (before now : Counts) (finish : Finish)
    (served : IsServed r old new before now finish) where
  pub legal_by : Legal old.settings r new.history
  legal_by = subst (λ s. Legal s r new.history) served.worked.works.job.settings served.worked.legal

  pub stops_by : StopsFrom 0 new.history
  stops_by = subst (λ (h : History). StopsFrom (length h) new.history) served.first served.worked.stops

  pub asks_few : (may : FileKey → Bool) (times : ℕ) (due : List FileKey) → AsksFor may old new before now
      → claims_that may new.history ≤ times * length due → AsksFew times old.plan due before now
  asks_few may times due asks few =
      omega (arith, asks, mul-le-mul_right (files_in old.plan) few)

  no_rise : (n : ℕ) → RiseBeside before.faults now.faults 0 n → (RiseBeside before.faults now.faults 0 1 → ⊥) → n ≡ 0
  no_rise zero rose calm = refl
  no_rise (suc n) (inl up) calm = absurd (calm (inl (omega (arith, up))))
  no_rise (suc n) (inr end) calm = absurd (calm (inr end))

  pub no_breaks : (RiseBeside before.faults now.faults 0 1 → ⊥) → all_breaks new.history ≡ 0
  no_breaks calm =
      no_rise (all_breaks new.history)
      (subst (λ n. RiseBeside before.faults now.faults n (all_breaks new.history))
      (ap all_breaks served.first) served.worked.works.broken)
      calm

  pub once : (RiseBeside before.faults now.faults 0 1 → ⊥) → (key : FileKey) → claims_of new.history key
      ≤ 1 + link_breaks new.history key → claims_of new.history key ≤ 1
  once calm key few = omega (arith, few, breaks_within new.history key, no_breaks calm)
