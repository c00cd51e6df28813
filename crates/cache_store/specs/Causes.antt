-- Why a call of the store gave no answer, and whether the store is live afterwards.
use Rattle.std.specs.Prelude.{ℕ, ◌≡◌, ◌≤◌, Bool, true, false, Option, Some, None, Result, Ok, Err, IsErrOf}
use Rattle.disk_base.specs.declared.disk_errors.DiskCall.{DiskCall}
use Rattle.disk_base.specs.declared.disk_errors.DiskErr.{DiskErr}
use Rattle.disk_base.specs.declared.disk_errors.DiskErr.TheVariants.{Failed, NoMemory}
use Rattle.res_base.specs.Causes.{Rose}
use Rattle.cache_store.specs.declared.errors.StoreErr.{StoreErr}
use Rattle.cache_store.specs.declared.errors.StoreErr.TheVariants.{Full, PartUnknown, Differs, DiskFault, NoMemory as OutOfMemory}

abbrev pub fault_of : DiskCall → DiskErr → StoreErr
fault_of call Failed = DiskFault call
fault_of call NoMemory = OutOfMemory

-- a fault of the disk is told only where the disk's count rose, and names the disk's last failed call
pub record HasDiskCause {T : Type 0} (before now : ℕ) (last : Option DiskCall) (result : Result T StoreErr) : Type 0 where
  pub later : before ≤ now
  pub rose : (call : DiskCall) → IsErrOf result (DiskFault call) → Rose before now
  pub last_call : (call : DiskCall) → IsErrOf result (DiskFault call) → last ≡ Some call

-- the answer comes from a disk call
abbrev pub IsFromDisk : StoreErr → Type 0
IsFromDisk (DiskFault call) = Unit {0}
IsFromDisk OutOfMemory = Unit {0}
IsFromDisk Full = ⊥
IsFromDisk (PartUnknown part) = ⊥
IsFromDisk (Differs wanted got) = ⊥

-- that, or too many parts
abbrev pub IsFullOrFromDisk : StoreErr → Type 0
IsFullOrFromDisk (DiskFault call) = Unit {0}
IsFullOrFromDisk OutOfMemory = Unit {0}
IsFullOrFromDisk Full = Unit {0}
IsFullOrFromDisk (PartUnknown part) = ⊥
IsFullOrFromDisk (Differs wanted got) = ⊥

-- that, or a part that isn't open
abbrev pub IsPartOrFromDisk : StoreErr → Type 0
IsPartOrFromDisk (DiskFault call) = Unit {0}
IsPartOrFromDisk OutOfMemory = Unit {0}
IsPartOrFromDisk Full = ⊥
IsPartOrFromDisk (PartUnknown part) = Unit {0}
IsPartOrFromDisk (Differs wanted got) = ⊥

-- that, or another digest than the wanted one
abbrev pub IsSealRefusal : StoreErr → Type 0
IsSealRefusal (DiskFault call) = Unit {0}
IsSealRefusal OutOfMemory = Unit {0}
IsSealRefusal Full = ⊥
IsSealRefusal (PartUnknown part) = Unit {0}
IsSealRefusal (Differs wanted got) = Unit {0}

-- why a call gave no answer
abbrev pub failure : {T : Type 0} → Result T StoreErr → Option StoreErr
failure (Ok x) = None
failure (Err e) = Some e

abbrev pub LiveAfter : Option StoreErr → Bool → Type 0
LiveAfter None live = live ≡ true
LiveAfter (Some (DiskFault call)) live = live ≡ false
LiveAfter (Some OutOfMemory) live = Unit {0}
LiveAfter (Some Full) live = live ≡ true
LiveAfter (Some (PartUnknown part)) live = live ≡ true
LiveAfter (Some (Differs wanted got)) live = live ≡ true

-- After a fault of the disk the store isn't live; want of memory may have come from the disk; else it stays live.
abbrev pub IsLiveAfter : {T : Type 0} → Result T StoreErr → Bool → Type 0
IsLiveAfter result live = LiveAfter (failure result) live
