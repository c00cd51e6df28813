-- The choice for each requested module, or the key of the listing that it lacks.
use Rattle.std.specs.Prelude.{ℕ, Bool, true, false, Option, None, Some, List, [], ◌∷◌, if◌then◌else◌}
use Rattle.res_base.specs.Known.{Known}
use Rattle.res_base.specs.Names.{module_eq}
use Rattle.res_base.specs.declared.coord.Coord.{Coord}
use Rattle.res_base.specs.declared.coord.Module.{Module}
use Rattle.res_base.specs.declared.key.FileKey.{FileKey}
use Rattle.interval_sets.specs.declared.interval.Interval.{Interval}
use Rattle.reconcile_rules.specs.Choose.{choose_of}
use Rattle.reconcile_rules.specs.declared.request.Chosen.{Chosen}
use Rattle.reconcile_rules.specs.declared.request.Chosen.TheVariants as chosen
use Rattle.reconcile_rules.specs.declared.request.Clash.TheVariants.{NoneListed}
use Rattle.resolution.specs.declared.ask.Ask.{Ask}
use Rattle.resolution.specs.declared.choices.Choice.{Choice}
use Rattle.resolution.specs.declared.choices.Choice.TheVariants as choices
use Rattle.resolution.specs.declared.choices.ChoiceRow.{ChoiceRow}
use Rattle.resolution.specs.declared.progress.RequestRow.{RequestRow}
use Rattle.round_core.specs.Listings.{offer_of}
use Rattle.round_core.specs.declared.decide.Decision.{Decision}
use Rattle.round_core.specs.declared.decide.Decision.TheVariants.{Made, Lacks}
use Rattle.round_core.specs.declared.listings.Offer.{Offer}
use Rattle.round_core.specs.declared.listings.Offer.TheVariants.{Versions, Lacking}

abbrev pub forced_version : List Coord → Module → Option (List ℕ)
forced_version [] m = None
forced_version (c ∷ forced) m = if module_eq c.«module» m then Some c.version else forced_version forced m

-- Once the listed versions are there, none are needed.
abbrev pub choice_in : Chosen → Choice
choice_in (chosen.Version version) = choices.Version version
choice_in (chosen.Clash clash) = choices.Clash clash
choice_in (chosen.NeedsListing interval) = choices.Clash NoneListed

abbrev pub by_offer : Offer → (Option (List (List ℕ)) → Chosen) → Decision
by_offer (Versions versions) choose = Made (choice_in (choose (Some versions)))
by_offer (Lacking key) choose = Lacks key

-- listings are looked at only where no request names a version that will do
abbrev pub by_chosen : Chosen → (Interval (List ℕ) → Offer) → (Option (List (List ℕ)) → Chosen) → Decision
by_chosen (chosen.Version version) offers choose = Made (choices.Version version)
by_chosen (chosen.Clash clash) offers choose = Made (choices.Clash clash)
by_chosen (chosen.NeedsListing interval) offers choose = by_offer (offers interval) choose

abbrev pub chosen_for : Ask → RequestRow → Option (List (List ℕ)) → Chosen
chosen_for ask row = choose_of ask.rule (forced_version ask.forced row.«module») row.requests

abbrev pub decided : Known → Ask → RequestRow → Decision
decided known ask row = by_chosen (chosen_for ask row None) (offer_of known ask.repos row.«module») (chosen_for ask row)

abbrev pub is_lacking : Decision → Bool
is_lacking (Made choice) = false
is_lacking (Lacks key) = true

-- the key of a listing that is lacking
abbrev pub lacked_in : Decision → List FileKey
lacked_in (Made choice) = []
lacked_in (Lacks key) = key ∷ []

abbrev pub row_by : Module → Decision → List ChoiceRow
row_by m (Made choice) = record { «module» = m; choice = choice } ∷ []
row_by m (Lacks key) = []
