-- How rounds end, told by the rounds that were done.
use Rattle.std.specs.Prelude.{◌≡◌, ℕ, ◌+◌, ◌<◌, ◌≤◌, true, List}
use Rattle.res_base.specs.Known.{Known}
use Rattle.res_base.specs.declared.key.FileKey.{FileKey}
use Rattle.resolution.specs.declared.ask.Ask.{Ask}
use Rattle.resolution.specs.declared.choices.ChoiceRow.{ChoiceRow}
use Rattle.resolution.specs.declared.choices.Choices.{Choices}
use Rattle.resolution.specs.declared.progress.Progress.{Progress}
use Rattle.resolution.specs.declared.progress.Progress.TheVariants.{Waiting, Over}
use Rattle.resolution.specs.declared.progress.RoundAnswer.TheVariants.{Needs, Next}
use Rattle.resolution.specs.declared.verdict.Verdict.TheVariants.{Unsettled}
use Rattle.round_core.specs.Choices.{choices_eq}
use Rattle.round_core.specs.Rounds.{Did, round_of}
use Rattle.round_core.specs.Verdicts.{verdict_of}

-- A round that may be done needs keys; or it gives the choices that it began with; or all were done that may be.
pub data IsEnding (known : Known) (ask : Ask) : Progress → Type 0 where
  waits : {done : ℕ} {chosen : List ChoiceRow} {keys : List FileKey} → done < ask.rounds → Did known ask done chosen
      → round_of known ask chosen ≡ Needs keys → IsEnding known ask (Waiting done (record { rows = chosen }) keys)
  settles : {done : ℕ} {chosen : List ChoiceRow} {later : Choices} → done < ask.rounds → Did known ask done chosen
      → round_of known ask chosen ≡ Next later → choices_eq chosen later.rows ≡ true
      → IsEnding known ask (Over (verdict_of known ask (done + 1) chosen))
  stops : {chosen : List ChoiceRow} → Did known ask ask.rounds chosen → IsEnding known ask (Over (Unsettled ask.rounds))

-- so many rounds were done, which may be, and gave these choices
pub record Waited (known : Known) (ask : Ask) (round : ℕ) (chosen : List ChoiceRow) : Type 0 where
  pub did : Did known ask round chosen
  pub few : round ≤ ask.rounds
