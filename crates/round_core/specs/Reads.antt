-- The keys that rounds look at, in order, known or not.
use Rattle.std.specs.Prelude.{ℕ, zero, suc, ◌+◌, Bool, true, false, Option, None, Some, List, [], ◌∷◌, ◌++◌, if◌then◌else◌}
use Rattle.std.specs.List.{flat_map}
use Rattle.interval_sets.specs.declared.interval.Interval.{Interval}
use Rattle.pom_build.specs.Reads.{effective_keys}
use Rattle.project_lookup.specs.Listings.{listing_of}
use Rattle.reconcile_rules.specs.declared.request.Chosen.{Chosen}
use Rattle.reconcile_rules.specs.declared.request.Chosen.TheVariants as chosen
use Rattle.res_base.specs.Builders.{key_of}
use Rattle.res_base.specs.Known.{Known}
use Rattle.res_base.specs.Paths.{listing_path_of}
use Rattle.res_base.specs.Plain.{is_plain_module}
use Rattle.res_base.specs.declared.coord.Module.{Module}
use Rattle.res_base.specs.declared.key.FileKey.{FileKey}
use Rattle.res_base.specs.declared.key.Role.TheVariants as roles
use Rattle.resolution.specs.declared.ask.Ask.{Ask}
use Rattle.resolution.specs.declared.choices.ChoiceRow.{ChoiceRow}
use Rattle.resolution.specs.declared.progress.Progress.{Progress}
use Rattle.resolution.specs.declared.progress.Progress.TheVariants.{Over, Waiting}
use Rattle.resolution.specs.declared.progress.RequestRow.{RequestRow}
use Rattle.resolution.specs.declared.progress.RoundAnswer.{RoundAnswer}
use Rattle.resolution.specs.declared.progress.RoundAnswer.TheVariants.{Needs, Next}
use Rattle.resolution.specs.declared.progress.Walk.{Walk}
use Rattle.resolution.specs.declared.progress.Walk.TheVariants as walks
use Rattle.resolution.specs.declared.verdict.Verdict.{Verdict}
use Rattle.resolution.specs.declared.verdict.Verdict.TheVariants.{Clashes, Failed, Settled, Unsettled}
use Rattle.artifact_files.specs.Files.{artifact_keys}
use Rattle.round_core.specs.Choices.{choices_eq}
use Rattle.round_core.specs.Decisions.{chosen_for}
use Rattle.round_core.specs.Listings.{offer_in}
use Rattle.round_core.specs.Needs.{at_end}
use Rattle.round_core.specs.Reaching.{reached_of}
use Rattle.round_core.specs.Rounds.{round_of, rounds_of, walk_of}
use Rattle.round_core.specs.declared.edges.RowEdge.{RowEdge}
use Rattle.round_core.specs.declared.listings.Offer.{Offer}
use Rattle.round_core.specs.declared.projects.ChosenProject.{ChosenProject}
use Rattle.round_core.specs.declared.reach.Reached.{Reached}

-- ---- of projects: those of the BOMs, and those at ends of live paths

abbrev pub project_keys : Known → ℕ → Option ChosenProject → List FileKey
project_keys known repos None = []
project_keys known repos (Some project) = effective_keys known repos project.coord

abbrev pub end_keys : Known → ℕ → Reached → RowEdge → List FileKey
end_keys known repos reached e = project_keys known repos (at_end reached e)

abbrev pub bom_keys : Known → ℕ → ChosenProject → List FileKey
bom_keys known repos project = project_keys known repos (Some project)

abbrev pub pom_reads : Known → ℕ → Reached → List FileKey
pom_reads known repos reached =
    flat_map (bom_keys known repos) reached.boms ++ flat_map (end_keys known repos reached) reached.last

-- ---- of listings, up to the first repository that offers some version

-- a module that is not plain has none
abbrev pub listing_keys : Module → ℕ → List FileKey
listing_keys m repo = if is_plain_module m then key_of repo roles.Listing (listing_path_of m) ∷ [] else []

abbrev pub behind_offer : Option Offer → List FileKey → List FileKey
behind_offer None later = later
behind_offer (Some offer) later = []

abbrev pub offer_keys_from : Known → Module → Interval (List ℕ) → ℕ → ℕ → List FileKey
offer_keys_from known m interval repo zero = []
offer_keys_from known m interval repo (suc left) =
    listing_keys m repo ++ behind_offer (offer_in interval (listing_of known m repo))
    (offer_keys_from known m interval (repo + 1) left)

abbrev pub offer_keys : Known → ℕ → Module → Interval (List ℕ) → List FileKey
offer_keys known repos m interval = offer_keys_from known m interval 0 repos

abbrev pub behind_chosen : Chosen → (Interval (List ℕ) → List FileKey) → List FileKey
behind_chosen (chosen.Version version) offers = []
behind_chosen (chosen.Clash clash) offers = []
behind_chosen (chosen.NeedsListing interval) offers = offers interval

abbrev pub decided_keys : Known → Ask → RequestRow → List FileKey
decided_keys known ask row = behind_chosen (chosen_for ask row None) (offer_keys known ask.repos row.«module»)

-- no listing is looked at while projects are needed
abbrev pub listing_reads : Known → Ask → Walk → List FileKey
listing_reads known ask (walks.Needs keys) = []
listing_reads known ask (walks.Requests rows) = flat_map (decided_keys known ask) rows

-- ---- of a round, and of all rounds

abbrev pub round_reads : Known → Ask → List ChoiceRow → List FileKey
round_reads known ask chosen =
    pom_reads known ask.repos (reached_of known ask chosen) ++ listing_reads known ask (walk_of known ask chosen)

abbrev pub unless_settled : Bool → List ChoiceRow → (List ChoiceRow → List FileKey) → List FileKey
unless_settled true later further = []
unless_settled false later further = further later

abbrev pub later_reads : RoundAnswer → List ChoiceRow → (List ChoiceRow → List FileKey) → List FileKey
later_reads (Needs keys) chosen further = []
later_reads (Next later) chosen further = unless_settled (choices_eq chosen later.rows) later.rows further

abbrev pub reads_from : Known → Ask → ℕ → List ChoiceRow → List FileKey
reads_from known ask zero chosen = []
reads_from known ask (suc left) chosen =
    round_reads known ask chosen ++ later_reads (round_of known ask chosen) chosen (reads_from known ask left)

abbrev pub reads_of : Known → Ask → List FileKey
reads_of known ask = reads_from known ask ask.rounds []

-- ---- needed keys: these, and where files are wanted those of the artifacts

abbrev pub files_if : Bool → Verdict → List FileKey
files_if false verdict = []
files_if true (Settled settled) = artifact_keys settled
files_if true (Clashes rows) = []
files_if true (Failed rows) = []
files_if true (Unsettled rounds) = []

abbrev pub files_of : Bool → Progress → List FileKey
files_of files (Waiting round choices needs) = []
files_of files (Over verdict) = files_if files verdict

abbrev pub needed_of : Known → Ask → List FileKey
needed_of known ask = reads_of known ask ++ files_of ask.files (rounds_of known ask)

-- the keys that the rounds wait for
abbrev pub needs_in : Progress → List FileKey
needs_in (Waiting round choices needs) = needs
needs_in (Over verdict) = []

abbrev pub is_over : Progress → Bool
is_over (Waiting round choices needs) = false
is_over (Over verdict) = true
