-- Why a file was not got, and what the store is then.
use Rattle.std.specs.Prelude.{ℕ, ◌≡◌, ◌≤◌, ◌++◌, Bool, true, false, List, [], ◌∷◌, Option, Some, None, Result, Ok, Err}
use Rattle.std.specs.Option.{option_map}
use Rattle.cache_store.specs.declared.errors.StoreErr.{StoreErr}
use Rattle.cache_store.specs.declared.errors.StoreErr.TheVariants as stores
use Rattle.disk_base.specs.declared.disk_errors.DiskCall.{DiskCall}
use Rattle.file_answers.specs.Asking.{IsBeside}
use Rattle.link_base.specs.declared.link_errors.LinkErr.{LinkErr}
use Rattle.link_base.specs.declared.link_errors.LinkErr.TheVariants as links
use Rattle.res_base.specs.Causes.{Rose}
use Rattle.file_fetch.specs.declared.errors.GetErr.{GetErr}
use Rattle.file_fetch.specs.declared.errors.GetErr.TheVariants.{Link, NotCached, Disk, NoMemory}

abbrev pub link_fault : LinkErr → GetErr
link_fault links.Failed = Link
link_fault links.NoMemory = NoMemory

abbrev pub store_fault : StoreErr → GetErr
store_fault (stores.DiskFault call) = Disk call
store_fault stores.NoMemory = NoMemory
store_fault stores.Full = NoMemory
store_fault (stores.PartUnknown part) = NoMemory
store_fault (stores.Differs wanted got) = NoMemory

-- why a call gave no answer
abbrev pub failure : {T : Type 0} → Result T GetErr → Option GetErr
failure (Ok x) = None
failure (Err e) = Some e

-- the answer comes from the store
abbrev pub IsFromStore : GetErr → Type 0
IsFromStore Link = ⊥
IsFromStore NotCached = ⊥
IsFromStore (Disk call) = Unit {0}
IsFromStore NoMemory = Unit {0}

-- the answer comes from the link or the store
abbrev pub IsFromOutside : GetErr → Type 0
IsFromOutside Link = Unit {0}
IsFromOutside NotCached = ⊥
IsFromOutside (Disk call) = Unit {0}
IsFromOutside NoMemory = Unit {0}

-- a fault of the disk is told only where the disk's count rose, and names the disk's last failed call
pub record HasDiskFault (before now : ℕ) (last : Option DiskCall) (why : Option GetErr) : Type 0 where
  pub later : before ≤ now
  pub rose : (call : DiskCall) → why ≡ Some (Disk call) → Rose before now
  pub last_call : (call : DiskCall) → why ≡ Some (Disk call) → last ≡ Some call

-- a fault of the link is told only where the link's count rose; where there is an answer it did not
pub record HasLinkFault (before now : ℕ) (why : Option GetErr) : Type 0 where
  pub later : before ≤ now
  pub rose : why ≡ Some Link → Rose before now
  pub quiet : why ≡ None → now ≡ before

-- The failed URLs: where the link failed, that of the file or of one beside it was added; where there is an answer they
-- are as before.
pub record Failing (url : List ℕ) (before now : Option (List (List ℕ))) (why : Option GetErr) : Type 0 where
  pub added : why ≡ Some Link → (other : List ℕ) × IsBeside url other
      × (now ≡ option_map (λ urls. urls ++ (other ∷ [])) before)
  pub quiet : why ≡ None → now ≡ before

-- After a fault of the disk the store isn't live; want of memory may have come from the disk; else it stays live.
abbrev pub IsLiveAfter : Option GetErr → Bool → Type 0
IsLiveAfter None live = live ≡ true
IsLiveAfter (Some Link) live = live ≡ true
IsLiveAfter (Some NotCached) live = live ≡ true
IsLiveAfter (Some (Disk call)) live = live ≡ false
IsLiveAfter (Some NoMemory) live = Unit {0}

-- it is so unless the disk failed or memory was wanted, which end the work
abbrev pub UnlessEnded : Option GetErr → Type 0 → Type 0
UnlessEnded None P = P
UnlessEnded (Some Link) P = P
UnlessEnded (Some NotCached) P = P
UnlessEnded (Some (Disk call)) P = Unit {0}
UnlessEnded (Some NoMemory) P = Unit {0}
