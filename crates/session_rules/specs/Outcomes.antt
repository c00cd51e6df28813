-- What a session that was worked through from nothing comes to.
use Rattle.std.specs.Prelude.{ℕ, ◌≡◌, ◌≤◌, ◌+◌, ◌*◌, Bool, true, false, List, [], Option, Some, IsSome, length, map}
use Rattle.claim_rules.specs.Least.{least}
use Rattle.claim_rules.specs.Resolvers.{Resolver, given}
use Rattle.claim_rules.specs.Sessions.{is_over, needs, touched}
use Rattle.claim_rules.specs.declared.settings.Settings.{Settings}
use Rattle.pool_rules.specs.Boards.{Desk}
use Rattle.pool_rules.specs.Counts.{Counts, RiseBeside, urls_of}
use Rattle.pool_rules.specs.Ends.{IsWorked}
use Rattle.pool_rules.specs.Plans.{files_in}
use Rattle.pool_rules.specs.declared.finish.Finish.{Finish}
use Rattle.pool_rules.specs.declared.plan.Plan.{Plan}
use Rattle.res_base.specs.Known.{Known}
use Rattle.res_base.specs.Members.{Among}
use Rattle.res_base.specs.declared.key.FileKey.{FileKey}
use Rattle.res_base.specs.declared.reading.Reading.{Reading}

-- A board whose core knew nothing was worked through.
pub record IsServed {V : Type 0} (r : Resolver V) (old new : Desk) (before now : Counts)
    (finish : Finish) : Type 0 where
  pub first : old.history ≡ []
  pub worked : IsWorked r old new before now finish

-- over a map the session is over with this verdict, and these are the readings of the files that it wants
pub record IsSettled {V : Type 0} (r : Resolver V) (known : Known) (verdict : V) (readings : List
    (Option Reading)) : Type 0 where
  pub rounds : r.rounds known ≡ given verdict
  pub over : is_over r known ≡ true
  pub read : readings ≡ map known (r.files verdict)

-- over a map the session is not over, and this is the least of its needs
pub record IsLeastNeed {V : Type 0} (r : Resolver V) (known : Known) (key : FileKey) : Type 0 where
  pub going : is_over r known ≡ false
  pub first : least (needs r known) ≡ Some key

-- the link failed once more than there are retries, or its count is at its end; at URLs of this key, where it tells
-- them
pub record FailedAt (plan : Plan) (retries : ℕ) (key : FileKey) (before now : Counts) : Type 0 where
  pub rose : RiseBeside before.faults now.faults 0 (1 + retries)
  pub urls : IsSome before.failed → (1 + retries) + urls_of plan key before.failed ≤ urls_of plan key now.failed

-- all claims may be made, but for hints only half of them, and each key again up to three times
pub record HasTopLimits (s : Settings) : Type 0 where
  pub claims : 4194304 ≤ s.limits.claims
  pub hints : s.limits.hint_claims ≤ 2097152
  pub retries : s.retries ≤ 3

-- where these keys have all that are needed or hinted and may be asked for, the link is asked so often at most
abbrev pub HoldsDue : {V : Type 0} → Settings → Resolver V → Known → (FileKey → Bool) → List FileKey → Type 0
HoldsDue s r all may due = (key : FileKey) → Among key (touched s r all) → may key ≡ true → Among key due

abbrev pub AsksFew : ℕ → Plan → List FileKey → Counts → Counts → Type 0
AsksFew times plan due before now = now.asked ≤ before.asked + times * length due * files_in plan
