-- Where the rounds stood.
use Rattle.std.proofs.Common.{◌≡◌, ◌<◌, ℕ, true, List, [], length, refl, sym, ◌∙◌, ap, subst, arith}
use Rattle.arrival_core.specs.Kept.{Chosen, Stood}
use Rattle.res_base.specs.Known.{Grows, Known}
use Rattle.res_base.specs.declared.key.FileKey.{FileKey}
use Rattle.resolution.specs.declared.ask.Ask.{Ask}
use Rattle.resolution.specs.declared.choices.ChoiceRow.{ChoiceRow}
use Rattle.resolution.specs.declared.choices.Choices.{Choices}
use Rattle.resolution.specs.declared.progress.Progress.{Progress}
use Rattle.resolution.specs.declared.progress.Progress.TheVariants.{Over, Waiting}
use Rattle.round_core.specs.Earlier.{AreLasting}
use Rattle.round_core.specs.Endings.{Waited}
use Rattle.round_core.specs.Reads.{is_over}
use Rattle.round_core.specs.Rounds.{rounds_of}

pub none_last : (known : Known) (repos : ℕ) → AreLasting known repos []
none_last known repos i d h = absurd (omega (arith, h))

pub stood_grows : (ask : Ask) (before after : Known) (stood : Progress) (built : List Chosen) → Grows before after
    → ((round : ℕ) (chosen : List ChoiceRow) → Waited before ask round chosen → Waited after ask round chosen)
    → ((projects : List Chosen) → AreLasting before ask.repos projects → AreLasting after ask.repos projects)
    → (is_over (rounds_of before ask) ≡ true → rounds_of after ask ≡ rounds_of before ask)
    → Stood ask before stood built → Stood ask after stood built
stood_grows ask before after (Waiting round choices needs) built more waits lasts over is = (waits round choices.rows is.0, lasts built is.1)
stood_grows ask before after (Over verdict) built more waits lasts over is = over (ap is_over is) ∙ is

pub stood_made : (ask : Ask) (known : Known) (stood : Progress) (built : List Chosen) → stood ≡ rounds_of known ask
    → ((round : ℕ) (choices : Choices) (needs : List FileKey) → rounds_of known ask ≡ Waiting round choices needs → Waited known ask round choices.rows)
    → AreLasting known ask.repos built → Stood ask known stood built
stood_made ask known (Waiting round choices needs) built is waited lasting = (waited round choices needs (sym is), lasting)
stood_made ask known (Over verdict) built is waited lasting = sym is

pub stood_bare : (ask : Ask) (known : Known) (stood : Progress) (built : List Chosen) → Stood ask known stood built
    → Stood ask known stood []
stood_bare ask known (Waiting round choices needs) built is = (is.0, none_last known ask.repos)
stood_bare ask known (Over verdict) built is = is
