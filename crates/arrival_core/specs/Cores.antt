-- What contracts see of a core.
use Rattle.std.specs.Prelude.{◌≡◌, ⊤, ◌++◌, ℕ, ◌<◌, Bool, true, false, [], ◌∷◌, Option, Some, None}
use Rattle.claim_log.specs.Logs.{Log}
use Rattle.claim_log.specs.Told.{entry}
use Rattle.claim_rules.specs.Histories.{What, claim, History, holder, known_in}
use Rattle.claim_rules.specs.declared.claim.Claim.{Claim}
use Rattle.claim_rules.specs.declared.claim.Claim.TheVariants.{Over, Stuck, TooMany, Claimed, NoneNow}
use Rattle.claim_rules.specs.declared.settings.Settings.{Settings}
use Rattle.res_base.specs.declared.key.FileKey.{FileKey}
use Rattle.resolution.specs.declared.ask.Ask.{Ask}
use Rattle.resolution.specs.declared.progress.Progress.{Progress}
use Rattle.resolution.specs.declared.progress.Progress.TheVariants as progress
use Rattle.resolution.specs.declared.verdict.Verdict.{Verdict}
use Rattle.round_core.specs.Rounds.{rounds_of}

-- what is asked and with which settings, what happened, and how far the rounds are
pub record State : Type 0 where
  pub ask : Ask
  pub settings : Settings
  pub history : History
  pub caught_up : Bool
  pub progress : Progress

-- the rounds from nothing over all that is known
abbrev pub caught_up_from : State → State
caught_up_from core = record core { caught_up = true; progress = rounds_of (known_in core.history) core.ask }

-- with one entry more; whether it is caught up is said anew
abbrev pub then_by : State → ℕ → What → Bool → State
then_by core seat what caught_up =
    record core { history = core.history ++ entry seat what ∷ []; caught_up = caught_up }

-- only a claim of a key is an entry
abbrev pub history_after : History → ℕ → Claim → History
history_after h seat Over = h
history_after h seat (Stuck key) = h
history_after h seat TooMany = h
history_after h seat (Claimed key) = h ++ entry seat (claim key) ∷ []
history_after h seat NoneNow = h

abbrev pub after_claim : State → ℕ → Claim → State
after_claim core seat answer = record core { history = history_after core.history seat answer }

abbrev pub log_after : Log → ℕ → Claim → Log
log_after log seat answer = record log { history = history_after log.history seat answer }

-- a key that is claimed is of one of the repositories, and neither known nor in flight
pub record IsOpenKey (log : Log) (key : FileKey) : Type 0 where
  pub listed : key.repo < log.repos
  pub unknown : known_in log.history key ≡ None
  pub landed : holder log.history key ≡ None

abbrev pub MayNote : Log → Claim → Type 0
MayNote log Over = ⊤
MayNote log (Stuck key) = ⊤
MayNote log TooMany = ⊤
MayNote log (Claimed key) = IsOpenKey log key
MayNote log NoneNow = ⊤

-- a verdict stands where the core is caught up and the rounds are over
abbrev pub verdict_in : Bool → Progress → Option Verdict
verdict_in false progress = None
verdict_in true (progress.Waiting round choices needs) = None
verdict_in true (progress.Over verdict) = Some verdict
