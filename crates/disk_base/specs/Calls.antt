-- Which calls failed.
use Rattle.std.specs.Prelude.{◌≡◌, Option, Some, Result, Ok, Err}
use Rattle.disk_base.specs.declared.disk_errors.DiskCall.{DiskCall}
use Rattle.disk_base.specs.declared.disk_errors.DiskErr.{DiskErr}
use Rattle.disk_base.specs.declared.disk_errors.DiskErr.TheVariants.{Failed, NoMemory}

-- where a call failed, its kind is now the last one that did; else that is as before
abbrev pub NamesLast : {T : Type 0} → DiskCall → Option DiskCall → Option DiskCall → Result T DiskErr → Type 0
NamesLast call before now (Ok x) = now ≡ before
NamesLast call before now (Err Failed) = now ≡ Some call
NamesLast call before now (Err NoMemory) = now ≡ before
