-- What work makes of a board.
use Rattle.std.specs.Prelude.{ℕ, ◌≡◌, ◌≤◌, ◌+◌, ◌*◌, ◌++◌, Bool, false, [], ◌∷◌, None, IsSome}
use Rattle.cache_policy.specs.declared.Mode.TheVariants.{Offline}
use Rattle.claim_rules.specs.Counts.{claims_that, is_claim, link_breaks}
use Rattle.claim_rules.specs.Histories.{What, claim, arrive, broke, give_back, Entry, History, any_in_flight, key_in}
use Rattle.claim_rules.specs.declared.why.Why.{Why}
use Rattle.claim_rules.specs.declared.why.Why.TheVariants.{Link, NotCached}
use Rattle.pool_rules.specs.Boards.{Desk, all_breaks, all_lacks, all_returns}
use Rattle.pool_rules.specs.Counts.{AreLater, Counts, FailsAt, RiseBeside, urls_of}
use Rattle.pool_rules.specs.Plans.{files_in}
use Rattle.pool_rules.specs.declared.plan.Plan.{Plan}
use Rattle.res_base.specs.declared.key.FileKey.{FileKey}

-- a history that goes on
abbrev pub GoesOn : History → History → Type 0
GoesOn old new = (more : History) × (new ≡ old ++ more)

-- the same settings and the same plan
pub record IsSameJob (old new : Desk) : Type 0 where
  pub settings : new.settings ≡ old.settings
  pub plan : new.plan ≡ old.plan

-- Lawful work: the history goes on. Links failed at least as often as claims broke by them, each time at a URL of the
-- key of the claim. No claim broke by a link in offline mode, and none for want of the file in the cache in another
-- mode. In offline mode nothing was asked.
pub record Works (old new : Desk) (before now : Counts) : Type 0 where
  pub job : IsSameJob old new
  pub goes_on : GoesOn old.history new.history
  pub later : AreLater old.plan before now
  pub broken : RiseBeside before.faults now.faults (all_breaks old.history) (all_breaks new.history)
  pub urls : (key : FileKey) → IsSome before.failed
      → link_breaks new.history key + urls_of old.plan key before.failed
      ≤ link_breaks old.history key + urls_of old.plan key now.failed
  pub no_link : old.plan.mode ≡ Offline → all_breaks new.history ≡ all_breaks old.history
  pub lacking : (old.plan.mode ≡ Offline → ⊥) → all_lacks new.history ≡ all_lacks old.history

-- work between two turns: no claim was given back, nothing is in flight, and nothing ended the work
pub record IsGoing (old new : Desk) (before now : Counts) : Type 0 where
  pub works : Works old new before now
  pub kept : all_returns new.history ≡ all_returns old.history
  pub landed : any_in_flight new.history ≡ false
  pub going : new.ended ≡ None

-- ---- one entry more

abbrev pub breaks_may : Plan → FileKey → Why → Counts → Counts → Type 0
breaks_may plan key Link before now = FailsAt plan key before now
breaks_may plan key NotCached before now = plan.mode ≡ Offline

-- what is so of the counts where this entry comes: a claim breaks by a link only where the link failed at a URL of its
-- key, and for want of the file in the cache only offline
abbrev pub costs : Plan → What → Counts → Counts → Type 0
costs plan (claim key) before now = Unit {0}
costs plan (arrive key reading) before now = Unit {0}
costs plan (broke key why) before now = breaks_may plan key why before now
costs plan (give_back key) before now = Unit {0}

abbrev pub by_seat : ℕ → What → Entry
by_seat seat what = record { seat = seat; what = what }

-- a history after one entry more
abbrev pub with_entry : History → ℕ → What → History
with_entry h seat what = h ++ by_seat seat what ∷ []

-- a history after a claim and its end
abbrev pub with_turn : History → ℕ → FileKey → What → History
with_turn h seat key what = with_entry (with_entry h seat (claim key)) seat what

-- the entry ends a claim of the key
pub record IsEndOf (key : FileKey) (what : What) : Type 0 where
  pub end : is_claim what ≡ false
  pub same : key_in what ≡ key

-- a board with one entry more, by a seat
pub record AddsEntry (old new : Desk) (seat : ℕ) (what : What) : Type 0 where
  pub job : IsSameJob old new
  pub history : new.history ≡ with_entry old.history seat what

-- a board after a claim and its end, by a seat
pub record AddsTurn (old new : Desk) (seat : ℕ) (key : FileKey) (what : What) : Type 0 where
  pub job : IsSameJob old new
  pub history : new.history ≡ with_turn old.history seat key what
  pub ends : IsEndOf key what

-- a board whose history is as before
pub record AddsNothing (old new : Desk) : Type 0 where
  pub job : IsSameJob old new
  pub history : new.history ≡ old.history

-- ---- what is asked, over the keys that may be asked for

-- the link was asked for so many files at most for each further claim of such a key
abbrev pub AsksFor : (FileKey → Bool) → Desk → Desk → Counts → Counts → Type 0
AsksFor may old new before now =
    now.asked + claims_that may old.history * files_in old.plan
    ≤ before.asked + claims_that may new.history * files_in old.plan
