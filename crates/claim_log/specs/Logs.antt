-- What contracts see of a log, and how an end is refused.
use Rattle.std.specs.Prelude.{◌≡◌, ℕ, ◌∷◌, [], ◌++◌, Some}
use Rattle.claim_log.specs.Told.{entry}
use Rattle.claim_log.specs.declared.log.AbsorbErr.{AbsorbErr}
use Rattle.claim_log.specs.declared.log.AbsorbErr.TheVariants.{NotClaimed, NoMemory}
use Rattle.claim_rules.specs.Histories.{What, History, holder}
use Rattle.res_base.specs.declared.key.FileKey.{FileKey}
use Rattle.res_base.specs.declared.reading.Reading.{Reading}

-- the number of repositories, and what happened
pub record Log : Type 0 where
  pub repos : ℕ
  pub history : History

-- with one entry more
abbrev pub then_by : Log → ℕ → What → Log
then_by log seat what = record log { history = log.history ++ entry seat what ∷ [] }

-- the reading comes back; the seat has no claim on the key, or it has one and memory ran out
abbrev pub IsRefusal : History → ℕ → FileKey → Reading → AbsorbErr → Type 0
IsRefusal h seat key reading (NotClaimed back) = (¬ (holder h key ≡ Some seat)) × (back ≡ reading)
IsRefusal h seat key reading (NoMemory back) = (holder h key ≡ Some seat) × (back ≡ reading)
