-- How work on a board ends, and what stands then.
use Rattle.std.specs.Prelude.{◌≡◌, true, false, Option, Some, None, IsSome, drop, fold, if◌then◌else◌, length}
use Rattle.claim_rules.specs.Claims.{claim_of}
use Rattle.claim_rules.specs.Counts.{gave_back}
use Rattle.claim_rules.specs.Histories.{What, claim, arrive, broke, give_back, Entry, History, any_in_flight}
use Rattle.claim_rules.specs.Legal.{Legal, StopsFrom}
use Rattle.claim_rules.specs.Resolvers.{Resolver}
use Rattle.claim_rules.specs.declared.claim.Claim.TheVariants as answers
use Rattle.claim_rules.specs.declared.why.Why.{Why}
use Rattle.pool_rules.specs.Boards.{Desk}
use Rattle.pool_rules.specs.Counts.{Counts}
use Rattle.pool_rules.specs.Works.{Works}
use Rattle.pool_rules.specs.declared.finish.EndCause.TheVariants as causes
use Rattle.pool_rules.specs.declared.finish.Finish.{Finish}
use Rattle.pool_rules.specs.declared.finish.Finish.TheVariants as finishes
use Rattle.res_base.specs.Causes.{Rose}
use Rattle.res_base.specs.Names.{key_eq}
use Rattle.res_base.specs.declared.key.FileKey.{FileKey}

-- why a claim of the key broke, by one more entry
abbrev pub why_after : FileKey → Option Why → What → Option Why
why_after key why (claim one) = why
why_after key why (arrive one reading) = why
why_after key why (broke one cause) = if key_eq one key then Some cause else why
why_after key why (give_back one) = why

-- why the last claim of the key that broke did so
abbrev pub last_why : History → FileKey → Option Why
last_why h key = fold (λ why (e : Entry). why_after key why e.what) None h

-- The finish is what a claim of the caught-up core answers, and nothing ended the work; or the disk failed, at this
-- call last; or memory was wanted.
abbrev pub IsFinish : {V : Type 0} → Resolver V → Desk → Counts → Counts → Finish → Type 0
IsFinish r desk before now finishes.Over =
    (claim_of desk.settings r desk.history ≡ answers.Over) × (desk.ended ≡ None) × (desk.caught_up ≡ true)
IsFinish r desk before now (finishes.Stuck key why) =
    (claim_of desk.settings r desk.history ≡ answers.Stuck key) × (desk.ended ≡ None)
    × (last_why desk.history key ≡ Some why)
IsFinish r desk before now finishes.TooMany =
    (claim_of desk.settings r desk.history ≡ answers.TooMany) × (desk.ended ≡ None)
IsFinish r desk before now (finishes.Disk call) =
    Rose before.disk_faults now.disk_faults × (now.disk_last ≡ Some call) × (desk.ended ≡ Some (causes.Disk call))
IsFinish r desk before now finishes.Memory = desk.ended ≡ Some causes.Memory

-- A board that was worked through: by lawful work along a legal history, after which nothing is in flight. A claim is
-- given back only where something ended the work, and after that nothing is claimed.
pub record IsWorked {V : Type 0} (r : Resolver V) (old new : Desk) (before now : Counts) (finish : Finish)
    : Type 0 where
  pub works : Works old new before now
  pub legal : Legal new.settings r new.history
  pub landed : any_in_flight new.history ≡ false
  pub given : gave_back (drop (length old.history) new.history) ≡ true → IsSome new.ended
  pub stops : StopsFrom (length old.history) new.history
  pub ends : IsFinish r new before now finish
