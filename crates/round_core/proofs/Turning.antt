-- The steps of rounds, one round further.
use Rattle.std.proofs.Common.{◌≡◌, ◌≤◌, ◌+◌, ◌-◌, ℕ, zero, suc, Bool, true, false, List, [], ◌∷◌, filter, length, map, refl, sym, ◌∙◌, ap, subst, arith}
use Rattle.res_base.specs.Known.{Known}
use Rattle.res_base.specs.declared.coord.Module.{Module}
use Rattle.res_base.specs.declared.key.FileKey.{FileKey}
use Rattle.resolution.specs.declared.ask.Ask.{Ask}
use Rattle.resolution.specs.declared.choices.ChoiceRow.{ChoiceRow}
use Rattle.resolution.specs.declared.choices.Choices.{Choices}
use Rattle.resolution.specs.declared.progress.Progress.{Progress}
use Rattle.resolution.specs.declared.progress.Progress.TheVariants.{Over, Waiting}
use Rattle.resolution.specs.declared.progress.RoundAnswer.TheVariants.{Needs, Next}
use Rattle.round_core.specs.Choices.{choices_eq}
use Rattle.round_core.specs.Counts.{built_count, is_built_in}
use Rattle.round_core.specs.Edges.{last_ones, target_of}
use Rattle.round_core.specs.Reaching.{project_for, reached_of}
use Rattle.round_core.specs.Rounds.{after_last, after_round, last_choices, last_from, round_of, rounds_from, settled_or, unless_settled}
use Rattle.round_core.specs.Tables.{named}
use Rattle.round_core.specs.Turns.{IsTurn, LeadsOn, after_turn, last_after}
use Rattle.round_core.specs.Verdicts.{verdict_of}
use Rattle.round_core.specs.declared.rounds.Turn.{Turn}
use Rattle.round_core.specs.declared.rounds.Turn.TheVariants.{Ends, On}

-- so many steps at the least, where the round before began with some choices
pub record Taken (known : Known) (ask : Ask) (left : ℕ) (chosen whole : List ChoiceRow)
    (before after : ℕ) : Type 0 where
  pub began : List ChoiceRow
  pub steps : before + built_count known ask began ≤ after
  pub last : last_from known ask left began chosen ≡ whole

module _ (known : Known) (ask : Ask) where
  none_built : (modules : List Module) → filter (λ m. is_built_in (project_for (reached_of known ask []) m)) modules
      ≡ []
  none_built [] = refl
  none_built (m ∷ modules) = none_built modules

  pub taken_first : (most steps : ℕ) → Taken known ask most [] (last_from known ask most [] []) steps steps
  taken_first most steps =
      let none : built_count known ask [] ≡ 0 =
      ap length (none_built (named [] (map target_of (last_ones known ask [])))) in
      record { began = []; steps = omega (arith, none); last = refl }

  module _ (left done : ℕ) (chosen : List ChoiceRow) (turn : Turn) (is : IsTurn known ask done chosen turn) where
    pub rounds_on : (n : ℕ) → n ≡ suc left → after_turn turn (rounds_from known ask left (done + 1))
        ≡ rounds_from known ask n done chosen
    rounds_on n more = is.progress (rounds_from known ask left (done + 1))
        ∙ sym (ap (λ k. rounds_from known ask k done chosen) more)

    pub last_on : (n : ℕ) (began : List ChoiceRow) → n ≡ suc left
        → last_after turn chosen (last_from known ask left chosen) ≡ last_from known ask n began chosen
    last_on n began more = is.last (last_from known ask left chosen)
        ∙ sym (ap (λ k. last_from known ask k began chosen) more)

-- ---- one turn

module _ (chosen : List ChoiceRow) (settled : Progress) where
  pub ends_lead : (later : List ChoiceRow) → choices_eq chosen later ≡ true
      → LeadsOn chosen later settled (Ends settled)
  ends_lead later e =
      record {
        progress = λ further. sym (ap (λ t. settled_or t chosen later (λ rows. settled) further) e);
        last =
            λ further. sym (ap (λ t. unless_settled t chosen later further) e);
      }

  pub on_leads : (later : Choices) → choices_eq chosen later.rows ≡ false → LeadsOn chosen later.rows settled (On later)
  on_leads later e =
      record {
        progress = λ further. sym (ap (λ t. settled_or t chosen later.rows (λ rows. settled) further) e);
        last =
            λ further. sym (ap (λ t. unless_settled t chosen later.rows further) e);
      }

settled_at : (t : Bool) (chosen later : List ChoiceRow) (settled further : List ChoiceRow → Progress)
    → settled_or t chosen later (λ rows. settled chosen) further ≡ settled_or t chosen later settled further
settled_at true chosen later settled further = refl
settled_at false chosen later settled further = refl

module _ (known : Known) (ask : Ask) (done : ℕ) (chosen : List ChoiceRow) where
  pub turn_next : (later : Choices) (turn : Turn) → round_of known ask chosen ≡ Next later
      → LeadsOn chosen later.rows (Over (verdict_of known ask (done + 1) chosen)) turn
      → IsTurn known ask done chosen turn
  turn_next later turn e leads =
      record {
        progress = λ further.
            leads.progress further
            ∙ settled_at (choices_eq chosen later.rows) chosen later.rows
            (λ settled. Over (verdict_of known ask (done + 1) settled)) further
            ∙ sym (ap (λ a.
            after_round a done chosen (λ settled. Over (verdict_of known ask (done + 1) settled)) further) e);
        last = λ further. leads.last further ∙ sym (ap (λ a. after_last a chosen further) e);
      }

  pub turn_needs : (keys : List FileKey) → round_of known ask chosen ≡ Needs keys
      → IsTurn known ask done chosen (Ends (Waiting done (record { rows = chosen }) keys))
  turn_needs keys e =
      record {
        progress =
            λ further. sym
            (ap (λ a. after_round a done chosen (λ settled. Over (verdict_of known ask (done + 1) settled)) further) e);
        last = λ further. sym (ap (λ a. after_last a chosen further) e);
      }
