-- What one round leads to, as the code has it.
use Rattle.std.specs.Prelude.{◌≡◌, ⊤, ℕ, ◌+◌, List}
use Rattle.res_base.specs.Known.{Known}
use Rattle.resolution.specs.declared.ask.Ask.{Ask}
use Rattle.resolution.specs.declared.choices.ChoiceRow.{ChoiceRow}
use Rattle.resolution.specs.declared.progress.Progress.{Progress}
use Rattle.resolution.specs.declared.progress.Progress.TheVariants.{Over}
use Rattle.round_core.specs.Choices.{Rises, choices_eq, modules_of}
use Rattle.round_core.specs.Rounds.{after_last, after_round, round_of, settled_or, unless_settled}
use Rattle.round_core.specs.Verdicts.{verdict_of}
use Rattle.round_core.specs.declared.rounds.Turn.{Turn}
use Rattle.round_core.specs.declared.rounds.Turn.TheVariants.{Ends, On}

-- what is said in the end, where the next round's choices are given to a function
abbrev pub after_turn : Turn → (List ChoiceRow → Progress) → Progress
after_turn (Ends progress) further = progress
after_turn (On later) further = further later.rows

-- the choices with which the last round began
abbrev pub last_after : Turn → List ChoiceRow → (List ChoiceRow → List ChoiceRow) → List ChoiceRow
last_after (Ends progress) chosen further = chosen
last_after (On later) chosen further = further later.rows

pub record LeadsOn (chosen later : List ChoiceRow) (settled : Progress) (turn : Turn) : Type 0 where
  pub progress : (further : List ChoiceRow → Progress)
      → after_turn turn further ≡ settled_or (choices_eq chosen later) chosen later (λ rows. settled) further
  pub last : (further : List ChoiceRow → List ChoiceRow) → last_after turn chosen further
      ≡ unless_settled (choices_eq chosen later) chosen later further

pub record IsTurn (known : Known) (ask : Ask) (done : ℕ) (chosen : List ChoiceRow) (turn : Turn) : Type 0 where
  pub progress : (further : List ChoiceRow → Progress)
      → after_turn turn further
      ≡ after_round (round_of known ask chosen) done chosen
      (λ settled. Over (verdict_of known ask (done + 1) settled)) further
  pub last : (further : List ChoiceRow → List ChoiceRow) → last_after turn chosen further
      ≡ after_last (round_of known ask chosen) chosen further

-- the next round's choices rise
abbrev pub TurnRises : Turn → Type 0
TurnRises (Ends progress) = ⊤
TurnRises (On later) = Rises (modules_of later.rows)
