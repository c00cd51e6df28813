-- What a disk in memory tells.
use Rattle.std.specs.Prelude.{ℕ, ◌≡◌, ◌≤◌, List, [], ◌∷◌, Option}
use Rattle.std.proofs.Common.{subst, sym}
use Rattle.disk_base.specs.Images.{Image, IsImageOf}
use Rattle.disk_base.specs.MemoryDisks.{moment_in, since_in, told_in}
use Rattle.disk_base.specs.MemoryLaws.{counts_now_in, done_longer, only_now_in, ran_longer, ran_none, ran_same, with_step}
use Rattle.disk_base.specs.Names.{Names}
use Rattle.disk_base.specs.Runs.{Done, Ran}
use Rattle.disk_base.specs.declared.log.Log.{Log}
use Rattle.disk_base.specs.declared.memory_disk.MemDisk.{MemDisk}
use Rattle.disk_base.specs.declared.steps.DiskStep.{DiskStep}

abbrev pub log_of : MemDisk → Log
log_of disk = disk.log

abbrev pub told_of : MemDisk → Option Names
told_of disk = told_in disk.log

abbrev pub moment_of : MemDisk → ℕ
moment_of disk = moment_in disk.log

abbrev pub since_of : MemDisk → ℕ → Image → Type 0
since_of disk = since_in disk.log

pub counts_now_of : (disk : MemDisk) (t : ℕ) (i : Image) → t ≤ moment_of disk → IsImageOf (told_of disk) i
    → since_of disk t i
counts_now_of disk t i le h = counts_now_in disk.log t i le h

pub only_now_of : (disk : MemDisk) (i : Image) → since_of disk (moment_of disk) i → IsImageOf (told_of disk) i
only_now_of disk i h = only_now_in disk.log i h

lifted : (steps : List DiskStep) (old new : MemDisk) → Ran told_in moment_in since_in steps old.log new.log
    → Ran told_of moment_of since_of steps old new
lifted steps old new ran = record { later = ran.later; stands = ran.stands; each = ran.each }

pub ran_step : (old new : MemDisk) (x : DiskStep) → new.log ≡ with_step old.log x
    → Ran told_of moment_of since_of (x ∷ []) old new
ran_step old new x e =
    lifted (x ∷ []) old new
    (subst (λ (log : Log). Ran told_in moment_in since_in (x ∷ []) old.log log) (sym e) (ran_longer old.log x))

pub done_step : (old new : MemDisk) (x : DiskStep) → new.log ≡ with_step old.log x → Done told_of (x ∷ []) old new
done_step old new x e =
    record { names = (subst (λ (log : Log). Done told_in (x ∷ []) old.log log) (sym e) (done_longer old.log x)).names }

pub ran_still : (old new : MemDisk) (x : DiskStep) → new.log ≡ old.log → Ran told_of moment_of since_of (x ∷ []) old new
ran_still old new x e =
    lifted (x ∷ []) old new
    (subst (λ (log : Log). Ran told_in moment_in since_in (x ∷ []) old.log log) (sym e) (ran_same old.log x))

pub ran_read : (old new : MemDisk) → new.log ≡ old.log → Ran told_of moment_of since_of [] old new
ran_read old new e =
    lifted [] old new
    (subst (λ (log : Log). Ran told_in moment_in since_in [] old.log log) (sym e) (ran_none old.log))
