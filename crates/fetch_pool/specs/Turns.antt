-- What work keeps of a board, of its link and of its disk, and what ends of claims and turns make of them.
use Rattle.std.specs.Prelude.{ℕ, ◌≡◌, ◌⊎◌, ◌<◌, ◌≤◌, ◌+◌, ◌*◌, false, true, max, List, Option, Some, None, IsSome}
use Rattle.cache_images.specs.Sound.{IsFaithful, IsSound}
use Rattle.cache_policy.specs.declared.Decision.TheVariants.{Unavailable}
use Rattle.cache_policy.specs.declared.Mode.TheVariants.{Offline}
use Rattle.cache_store.specs.Stands.{disk_of}
use Rattle.claim_rules.specs.Counts.{claims, is_lacking, is_return}
use Rattle.claim_rules.specs.Histories.{What, History}
use Rattle.claim_rules.specs.Legal.{StopsFrom}
use Rattle.claim_rules.specs.declared.settings.Settings.{Settings}
use Rattle.disk_base.specs.Images.{Image, IsImageOf}
use Rattle.disk_base.specs.Names.{Names, read_name}
use Rattle.disk_base.specs.Runs.{Keeps}
use Rattle.fetch_pool.specs.Boards.{desk_of}
use Rattle.fetch_pool.specs.Ends.{EndsBy}
use Rattle.fetch_pool.specs.declared.board.Board.{Board}
use Rattle.file_fetch.specs.Decided.{decided_in}
use Rattle.link_base.specs.Links.{LinkKept, Rows}
use Rattle.pool_rules.specs.Boards.{Desk, all_returns}
use Rattle.pool_rules.specs.Counts.{Counts}
use Rattle.pool_rules.specs.Plans.{files_in}
use Rattle.pool_rules.specs.Works.{IsEndOf, IsSameJob, Works, costs, with_entry}
use Rattle.pool_rules.specs.Worlds.{StaysTrue, whole_of}
use Rattle.pool_rules.specs.declared.finish.Finish.{Finish}
use Rattle.pool_rules.specs.declared.plan.Plan.{Plan}
use Rattle.res_base.specs.declared.key.FileKey.{FileKey}

-- each image that a crash may leave now has P
abbrev pub AllNow : {D : Type 0} → (D → Option Names) → (Image → Type 0) → D → Type 0
AllNow told P disk = (i : Image) → IsImageOf (told disk) i → P i

-- disks of this kind always tell their names
abbrev pub TellsNames : {D : Type 0} → (D → Option Names) → Type 0
TellsNames {D} told = (disk : D) → IsSome (told disk)

-- where the disk tells its names, the cache has nothing usable for each further key that it was said to lack
abbrev pub LacksOnly : Plan → Option Names → History → History → Type 0
LacksOnly plan told old new = (s : Names) → told ≡ Some s → (key : FileKey) → is_lacking new key ≡ true
    → (is_lacking old key ≡ true) ⊎ (decided_in plan key (read_name s) ≡ Unavailable)

-- The board is asked the same by the same plan, and has no other rows. The link keeps what every call of a link keeps. The
-- images of the disk stay sound, and faithful to each world that the link agrees with. What is known of such a world is true
-- of it, where all images were faithful to it. Offline the disk's names are as before, and only what the cache lacks broke.
pub record Kept {L D : Type 0} (agrees : L → Rows → Type 0) (faults asked : L → ℕ) (failed : L → Option (List (List ℕ)))
    (told : D → Option Names) (moment : D → ℕ) (since : D → ℕ → Image → Type 0)
    (old new : Board D) (before after : L) : Type 0 where
  pub ask : new.core.ask ≡ old.core.ask
  pub job : IsSameJob (desk_of old) (desk_of new)
  pub rows : new.parts ≡ old.parts
  pub link : LinkKept agrees faults asked failed before after
  pub sound : Keeps told moment since IsSound (disk_of old.store) (disk_of new.store)
  pub faithful : (w : Rows) → agrees before w → Keeps told moment since (IsFaithful w) (disk_of old.store) (disk_of new.store)
  pub known : (w : Rows) → agrees before w → TellsNames told → AllNow told (IsFaithful w) (disk_of old.store)
      → StaysTrue (whole_of old.plan w) old.core.history new.core.history
  pub still : old.plan.mode ≡ Offline → told (disk_of new.store) ≡ told (disk_of old.store)
  pub lacking : old.plan.mode ≡ Offline
      → LacksOnly old.plan (told (disk_of old.store)) old.core.history new.core.history

-- the claim of the key ended, at such counts, and the work goes on or ends so
pub record EndsClaim (old new : Desk) (seat : ℕ) (key : FileKey) (before now : Counts) (finish : Option Finish) : Type 0 where
  pub what : What
  pub end : IsEndOf key what
  pub history : new.history ≡ with_entry old.history seat what
  pub cost : costs old.plan what before now
  pub goes : finish ≡ None → (is_return what ≡ false) × (new.ended ≡ None)
  pub stops : (f : Finish) → finish ≡ Some f → EndsBy new.ended before now f

-- So many claims ended by lawful work, and none was made; for each the link was asked for the files of one key at most.
-- Where claims had stopped, they have.
pub record EndsSome (old new : Desk) (before now : Counts) (n : ℕ) : Type 0 where
  pub works : Works old new before now
  pub same : claims new.history ≡ claims old.history
  pub stops : (m : ℕ) → StopsFrom m old.history → StopsFrom m new.history
  pub few : now.asked ≤ before.asked + n * files_in old.plan

-- between two ends of claims the work goes on: nothing was given back
pub record GoesOnSo (old new : Desk) : Type 0 where
  pub kept : all_returns new.history ≡ all_returns old.history
  pub going : new.ended ≡ None

-- so many claims may be made
abbrev pub most_claims : Settings → ℕ
most_claims s = max s.limits.claims s.limits.hint_claims

-- more claims were made, and there was room for one
pub record AreMore (old new : Desk) : Type 0 where
  pub room : claims old.history < most_claims old.settings
  pub more : claims old.history < claims new.history
