-- What is kept from call to call of a core.
use Rattle.std.specs.Prelude.{◌≡◌, Bool, true, List, Option, Some, None}
use Rattle.claim_agenda.specs.Agendas.{IsAgenda}
use Rattle.arrival_core.specs.Resolving.{resolver_of}
use Rattle.claim_agenda.specs.declared.agenda.Agenda.{Agenda}
use Rattle.claim_log.specs.Logs.{Log}
use Rattle.claim_rules.specs.Histories.{known_in}
use Rattle.claim_rules.specs.Legal.{Legal}
use Rattle.claim_rules.specs.declared.settings.Settings.{Settings}
use Rattle.resolution.specs.declared.ask.Ask.{Ask}
use Rattle.res_base.specs.Known.{Known}
use Rattle.resolution.specs.declared.progress.Progress.{Progress}
use Rattle.resolution.specs.declared.progress.Progress.TheVariants.{Waiting, Over}
use Rattle.round_core.specs.Earlier.{AreLasting}
use Rattle.round_core.specs.Endings.{Waited}
use Rattle.round_core.specs.Rounds.{rounds_of}
use Rattle.round_core.specs.declared.projects.ChosenProject.{ChosenProject}

abbrev pub Chosen : Type 0
Chosen = Option ChosenProject

-- How far the rounds came over some of what is known, and what they built: they can go on from there, or are over.
abbrev pub Stood : Ask → Known → Progress → List Chosen → Type 0
Stood ask known (Waiting round choices needs) built = Waited known ask round choices.rows × AreLasting known ask.repos built
Stood ask known (Over verdict) built = rounds_of known ask ≡ Over verdict

-- the rounds over all that is known, from where they stood; where they were over then, they are that
abbrev pub IsGoneOn : Ask → Known → Progress → Option (Progress × List Chosen) → Type 0
IsGoneOn ask known stood None = stood ≡ rounds_of known ask
IsGoneOn ask known stood (Some made) = (made.0 ≡ rounds_of known ask) × AreLasting known ask.repos made.1

pub record IsKept (ask : Ask) (s : Settings) (log : Log) (progress : Progress) (built : List Chosen) (a : Agenda) (caught_up : Bool) : Type 0 where
  pub repos : s.repos ≡ ask.repos
  pub log_repos : log.repos ≡ ask.repos
  pub legal : Legal s (resolver_of ask) log.history
  pub stood : Stood ask (known_in log.history) progress built
  pub scratch : caught_up ≡ true → progress ≡ rounds_of (known_in log.history) ask
  pub agenda : caught_up ≡ true → IsAgenda s (resolver_of ask) log.history a
