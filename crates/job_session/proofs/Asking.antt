-- How often a link is asked in a session.
use Rattle.std.proofs.Common.{◌≡◌, ◌≤◌, ◌+◌, ℕ, Bool, true, List, inl, inr, refl, subst, arith}
use Rattle.arrival_core.specs.Resolving.{resolver_of}
use Rattle.claim_rules.specs.Histories.{known_in}
use Rattle.claim_rules.specs.Resolvers.{IsLawful, Resolver}
use Rattle.link_base.specs.Links.{Rows}
use Rattle.pool_rules.specs.Boards.{Desk}
use Rattle.pool_rules.specs.Counts.{Counts, RiseBeside}
use Rattle.pool_rules.specs.Ends.{IsWorked}
use Rattle.pool_rules.specs.Works.{AsksFor}
use Rattle.pool_rules.specs.Worlds.{StaysTrue, whole_of}
use Rattle.pool_rules.specs.declared.finish.Finish.{Finish}
use Rattle.res_base.specs.Causes.{Rose}
use Rattle.res_base.specs.Known.{Grows, Known}
use Rattle.res_base.specs.declared.key.FileKey.{FileKey}
use Rattle.resolution.specs.declared.ask.Ask.{Ask}
use Rattle.resolution.specs.declared.verdict.Verdict.{Verdict}
use Rattle.session_rules.specs.Outcomes.{AsksFew, HoldsDue, IsServed}
use Rattle.word_values.specs.declared.job.Job.{Job}
use Rattle.job_session.specs.Asks.{AsksWithin}
use Rattle.job_session.specs.Beginnings.{fresh_desk, plan_for}
use Rattle.job_session.proofs.Sessions.{none_known}

no_less : (n more : ℕ) → n ≤ n + more
no_less n more = omega arith

-- where nothing was asked
pub asks_none : (World : Rows → Type 0) (job : Job) (rose : Type 0) (asked : ℕ) → AsksWithin World job rose asked asked
asks_none World job rose asked =
    record {
      silent = λ offline. refl;
      retried = λ w here keys has. no_less asked _;
      calm = λ quiet w here keys has. no_less asked _;
    }

one_rose : (a b : ℕ) → RiseBeside a b 0 1 → Rose a b
one_rose a b (inl more) = grind arith
one_rose a b (inr end) = grind arith

-- what the laws of sessions and of rounds say of it
pub record FewAsked : Type 0 where
  pub lawful : (ask : Ask) → IsLawful (resolver_of ask)
  pub retried : (r : Resolver Verdict) → IsLawful r → (old new : Desk) (before now : Counts) (finish : Finish) (all : Known)
      → (may : FileKey → Bool) (due : List FileKey) → IsServed r old new before now finish → AsksFor may old new before now
      → Grows (known_in new.history) all → HoldsDue old.settings r all may due
      → AsksFew (1 + old.settings.retries) old.plan due before now
  pub calm : (r : Resolver Verdict) → IsLawful r → (old new : Desk) (before now : Counts) (finish : Finish) (all : Known)
      → (may : FileKey → Bool) (due : List FileKey) → IsServed r old new before now finish → AsksFor may old new before now
      → Grows (known_in new.history) all → HoldsDue old.settings r all may due
      → (RiseBeside before.faults now.faults 0 1 → ⊥) → AsksFew 1 old.plan due before now

module _ (few : FewAsked) (World : Rows → Type 0) (job : Job) (moment : ℕ) (new : Desk) (before now : Counts)
    (finish : Finish) where
  -- of a board that was fresh
  of_fresh : IsWorked (resolver_of job.ask) (fresh_desk job moment) new before now finish
      → AsksFor (λ key. true) (fresh_desk job moment) new before now
      → ((w : Rows) → World w → Grows (known_in new.history) (whole_of (plan_for job moment) w))
      → AsksWithin World job (Rose before.faults now.faults) before.asked now.asked
  of_fresh worked asks grows =
      record {
        silent = worked.works.later.silent;
        retried = λ w here keys has.
            few.retried (resolver_of job.ask) (few.lawful job.ask) (fresh_desk job moment) new before now finish
            (whole_of (plan_for job moment) w) (λ key. true) keys (record { first = refl; worked = worked }) asks (grows w here)
            (λ key member may. has key member);
        calm = λ quiet w here keys has.
            few.calm (resolver_of job.ask) (few.lawful job.ask) (fresh_desk job moment) new before now finish
            (whole_of (plan_for job moment) w) (λ key. true) keys (record { first = refl; worked = worked }) asks (grows w here)
            (λ key member may. has key member) (λ rise. quiet (one_rose before.faults now.faults rise));
      }

  pub few_within : (ask : Ask) (old : Desk) → ask ≡ job.ask → old ≡ fresh_desk job moment
      → IsWorked (resolver_of ask) old new before now finish → AsksFor (λ key. true) old new before now
      → ((w : Rows) → World w → StaysTrue (whole_of old.plan w) old.history new.history)
      → AsksWithin World job (Rose before.faults now.faults) before.asked now.asked
  few_within ask old is fresh worked asks stays =
      of_fresh
      (subst (λ (d : Desk). IsWorked (resolver_of job.ask) d new before now finish) fresh
      (subst (λ (a : Ask). IsWorked (resolver_of a) old new before now finish) is worked))
      (subst (λ (d : Desk). AsksFor (λ key. true) d new before now) fresh asks)
      (λ w here.
      subst (λ (d : Desk). StaysTrue (whole_of d.plan w) d.history new.history) fresh (stays w here)
      (none_known (whole_of (plan_for job moment) w)))
