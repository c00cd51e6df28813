-- The rows of a walk.
use Rattle.std.proofs.Common.{◌≡◌, Bool, true, false, List, [], refl, sym, ◌∙◌, ap, subst}
use Rattle.std.specs.List.{list_any}
use Rattle.res_base.specs.Known.{Known}
use Rattle.res_base.specs.declared.coord.Module.{Module}
use Rattle.resolution.specs.declared.ask.Ask.{Ask}
use Rattle.resolution.specs.declared.choices.ChoiceRow.{ChoiceRow}
use Rattle.resolution.specs.declared.progress.RequestRow.{RequestRow}
use Rattle.resolution.specs.declared.progress.Walk.{Walk}
use Rattle.resolution.specs.declared.progress.Walk.TheVariants.{Needs, Requests}
use Rattle.round_core.specs.Choices.{Rises}
use Rattle.round_core.specs.Edges.{last_ones}
use Rattle.round_core.specs.Needs.{is_open}
use Rattle.round_core.specs.Reaching.{reached_of}
use Rattle.round_core.specs.Requests.{asked_by, asks_for, request_rows, requests_at, row_for, rows_modules}
use Rattle.round_core.specs.Rounds.{walk_by, walk_of}
use Rattle.round_core.specs.Steering.{Versions, steer}
use Rattle.round_core.specs.Tables.{has}
use Rattle.round_core.proofs.AskedFor.{keys_rows, row_asked, row_ends}
use Rattle.round_core.proofs.Rising.{asked_rises}

module _ (known : Known) (ask : Ask) (chosen : List ChoiceRow) (rows : List RequestRow) where
  abbrev versions : Versions
  versions = steer ask.roots (reached_of known ask chosen)

  abbrev rows_in : Walk → List RequestRow
  rows_in (Needs keys) = []
  rows_in (Requests asked) = asked

  walk_rows : walk_of known ask chosen ≡ Requests rows → request_rows ask.roots versions (last_ones known ask chosen)
      ≡ rows
  walk_rows h = by (is_open (reached_of known ask chosen)) h
    where
      by : (t : Bool) → walk_by t ask.roots (reached_of known ask chosen) ≡ Requests rows
          → request_rows ask.roots versions (last_ones known ask chosen) ≡ rows
      by true e = absurd (cc)
      by false e = ap rows_in e

  pub walk_requests : (m : Module) → walk_of known ask chosen ≡ Requests rows
      → row_for rows m ≡ requests_at known ask chosen m
  walk_requests m h = ap (λ z. row_for z m) (sym (walk_rows h))
      ∙ row_asked ask.roots versions (last_ones known ask chosen) m

  pub walk_ends : (m : Module) → walk_of known ask chosen ≡ Requests rows
      → has (rows_modules rows) m ≡ list_any (asks_for m) (last_ones known ask chosen)
  walk_ends m h = ap (λ z. has (rows_modules z) m) (sym (walk_rows h))
      ∙ row_ends ask.roots versions (last_ones known ask chosen) m

  pub walk_rises : walk_of known ask chosen ≡ Requests rows → Rises (rows_modules rows)
  walk_rises h =
      subst (λ z. Rises (rows_modules z)) (walk_rows h)
      (subst (λ z. Rises z) (sym (keys_rows (asked_by ask.roots versions (last_ones known ask chosen))))
      (asked_rises ask.roots versions [] (last_ones known ask chosen) tt))
