-- Counts of faults after an answer.
use Rattle.std.proofs.Common.{ℕ, ◌≡◌}
use Rattle.std.specs.Prelude.{Ok, IsErrOf}
use Rattle.disk_base.specs.declared.disk_errors.DiskErr.{DiskErr}
use Rattle.disk_base.specs.declared.disk_errors.DiskErr.TheVariants.{Failed}
use Rattle.res_base.specs.Causes.{HasCause}

never : {T : Type 0} (x : T) → IsErrOf {T = T} {E = DiskErr} (Ok x) Failed → ⊥
never x e = (cc)

-- an answer raises no count
pub quiet_ok : {T : Type 0} (before now : ℕ) (x : T) → HasCause {T = T} {E = DiskErr} Failed before now (Ok x)
    → now ≡ before
quiet_ok before now x cause = cause.quiet (λ e. never x e)
