-- Rounds: from choices to the next choices, until nothing changes.
use Rattle.std.specs.Prelude.{◌≡◌, ℕ, zero, suc, ◌+◌, Bool, true, false, List, [], ◌∷◌, ◌++◌, fold}
use Rattle.std.specs.BTreeSet.{insert_key}
use Rattle.res_base.specs.Known.{Known}
use Rattle.res_base.specs.Names.{key_cmp}
use Rattle.res_base.specs.declared.coord.Coord.{Coord}
use Rattle.res_base.specs.declared.coord.Module.{Module}
use Rattle.res_base.specs.declared.key.FileKey.{FileKey}
use Rattle.resolution.specs.declared.ask.Ask.{Ask}
use Rattle.resolution.specs.declared.choices.ChoiceRow.{ChoiceRow}
use Rattle.resolution.specs.declared.progress.Progress.{Progress}
use Rattle.resolution.specs.declared.progress.Progress.TheVariants.{Waiting, Over}
use Rattle.resolution.specs.declared.progress.RequestRow.{RequestRow}
use Rattle.resolution.specs.declared.progress.RoundAnswer.{RoundAnswer}
use Rattle.resolution.specs.declared.progress.RoundAnswer.TheVariants.{Needs, Next}
use Rattle.resolution.specs.declared.progress.Walk.{Walk}
use Rattle.resolution.specs.declared.progress.Walk.TheVariants as walks
use Rattle.resolution.specs.declared.verdict.Verdict.TheVariants.{Unsettled}
use Rattle.round_core.specs.Choices.{choices_eq}
use Rattle.round_core.specs.Decisions.{decided}
use Rattle.round_core.specs.Needs.{is_open, open_keys}
use Rattle.round_core.specs.Reaching.{reached_of}
use Rattle.round_core.specs.Requests.{request_rows}
use Rattle.round_core.specs.Steering.{steer}
use Rattle.round_core.specs.Verdicts.{verdict_of}
use Rattle.round_core.specs.declared.decide.Decision.{Decision}
use Rattle.round_core.specs.declared.decide.Decision.TheVariants.{Made, Lacks}
use Rattle.round_core.specs.declared.reach.Reached.{Reached}
use Rattle.round_core.specs.declared.one_round.Gathered.{Gathered}
use Rattle.round_core.specs.declared.one_round.Gathered.TheVariants as gathered

-- ---- the walk

abbrev pub walk_by : Bool → List Coord → Reached → Walk
walk_by true roots reached = walks.Needs (open_keys reached)
walk_by false roots reached = walks.Requests (request_rows roots (steer roots reached) reached.last)

-- what is needed to build all projects, or else what is asked of each module
abbrev pub walk_in : Ask → Reached → Walk
walk_in ask reached = walk_by (is_open reached) ask.roots reached

abbrev pub walk_of : Known → Ask → List ChoiceRow → Walk
walk_of known ask chosen = walk_in ask (reached_of known ask chosen)

-- ---- a round

-- choices while no listing is lacking, and else the keys of all that are
abbrev pub with_decision : Gathered → Module → Decision → Gathered
with_decision (gathered.Rows rows) m (Made choice) =
    gathered.Rows (rows ++ record { «module» = m; choice = choice } ∷ [])
with_decision (gathered.Rows rows) m (Lacks key) = gathered.Keys (key ∷ [])
with_decision (gathered.Keys keys) m (Made choice) = gathered.Keys keys
with_decision (gathered.Keys keys) m (Lacks key) = gathered.Keys (insert_key key_cmp keys key)

abbrev pub with_decided : Known → Ask → Gathered → RequestRow → Gathered
with_decided known ask so_far row = with_decision so_far row.«module» (decided known ask row)

abbrev pub answer_by : Gathered → RoundAnswer
answer_by (gathered.Rows rows) = Next (record { rows = rows })
answer_by (gathered.Keys keys) = Needs keys

abbrev pub next_by : Known → Ask → List RequestRow → RoundAnswer
next_by known ask rows = answer_by (fold (with_decided known ask) (gathered.Rows []) rows)

abbrev pub round_by : Known → Ask → Walk → RoundAnswer
round_by known ask (walks.Needs keys) = Needs keys
round_by known ask (walks.Requests rows) = next_by known ask rows

abbrev pub round_in : Known → Ask → Reached → RoundAnswer
round_in known ask reached = round_by known ask (walk_in ask reached)

-- the keys of projects first, then those of listings, then the next choices
abbrev pub round_of : Known → Ask → List ChoiceRow → RoundAnswer
round_of known ask chosen = round_in known ask (reached_of known ask chosen)

-- ---- rounds

-- settled where the next choices are the choices
abbrev pub settled_or : Bool → List ChoiceRow → List ChoiceRow → (List ChoiceRow → Progress)
    → (List ChoiceRow → Progress) → Progress
settled_or true chosen later settled further = settled chosen
settled_or false chosen later settled further = further later

abbrev pub after_round : RoundAnswer → ℕ → List ChoiceRow → (List ChoiceRow → Progress) → (List ChoiceRow → Progress)
    → Progress
after_round (Needs keys) done chosen settled further = Waiting done (record { rows = chosen }) keys
after_round (Next later) done chosen settled further =
    settled_or (choices_eq chosen later.rows) chosen later.rows settled further

-- from these choices on, after so many rounds, where so many are left
abbrev pub rounds_from : Known → Ask → ℕ → ℕ → List ChoiceRow → Progress
rounds_from known ask zero done chosen = Over (Unsettled done)
rounds_from known ask (suc left) done chosen =
    after_round (round_of known ask chosen) done chosen (λ settled. Over (verdict_of known ask (done + 1) settled))
    (rounds_from known ask left (done + 1))

abbrev pub rounds_of : Known → Ask → Progress
rounds_of known ask = rounds_from known ask ask.rounds 0 []

-- the choices with which the last round began: of rounds from these choices on, after one that began with the choices
-- before
abbrev pub unless_settled : Bool → List ChoiceRow → List ChoiceRow → (List ChoiceRow → List ChoiceRow) → List ChoiceRow
unless_settled true chosen later further = chosen
unless_settled false chosen later further = further later

abbrev pub after_last : RoundAnswer → List ChoiceRow → (List ChoiceRow → List ChoiceRow) → List ChoiceRow
after_last (Needs keys) chosen further = chosen
after_last (Next later) chosen further = unless_settled (choices_eq chosen later.rows) chosen later.rows further

abbrev pub last_from : Known → Ask → ℕ → List ChoiceRow → List ChoiceRow → List ChoiceRow
last_from known ask zero before chosen = before
last_from known ask (suc left) before chosen =
    after_last (round_of known ask chosen) chosen (last_from known ask left chosen)

abbrev pub last_choices : Known → Ask → List ChoiceRow
last_choices known ask = last_from known ask ask.rounds [] []

-- so many rounds were done, none of which settled, and gave these choices
pub data Did (known : Known) (ask : Ask) : ℕ → List ChoiceRow → Type 0 where
  begun : Did known ask 0 []
  one_more : {n : ℕ} {chosen : List ChoiceRow} {later : List ChoiceRow} → Did known ask n chosen
      → round_of known ask chosen ≡ Next (record { rows = later }) → choices_eq chosen later ≡ false
      → Did known ask (suc n) later
