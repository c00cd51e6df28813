-- More known answers leave the rounds that were done as they were.
use Rattle.std.proofs.Common.{◌≡◌, ◌≤◌, ◌+◌, ℕ, zero, suc, Bool, true, false, cond, ◌&&◌, ◌||◌, ◌⊎◌, inl, inr, Option, None, Some, List, [], ◌∷◌, ◌++◌, length, map, refl, sym, ◌∙◌, ap, subst, arith}
use Rattle.std.specs.Prelude.{fold}
use Rattle.std.specs.Cmp.Lexicographic.{pointwise}
use Rattle.std.specs.List.{list_any}
use Rattle.std.specs.Map.{keys_of}
use Rattle.std.specs.Option.{option_map}
use Rattle.live_walk.specs.Graphs.{In, here, there}
use Rattle.live_walk.specs.Numbers.{AreDistinct}
use Rattle.live_walk.proofs.Members.{and_both, any_from_in}
use Rattle.live_walk.proofs.Modules.{module_same}
use Rattle.pom_build.specs.Effectives.{effective_of}
use Rattle.res_base.specs.Known.{Grows, Known}
use Rattle.res_base.specs.Names.{module_eq}
use Rattle.res_base.specs.declared.coord.Coord.{Coord}
use Rattle.res_base.specs.declared.coord.Module.{Module}
use Rattle.res_base.specs.declared.key.FileKey.{FileKey}
use Rattle.reconcile_rules.specs.declared.request.Request.{Request}
use Rattle.resolution.specs.declared.ask.Ask.{Ask}
use Rattle.resolution.specs.declared.choices.Choice.{Choice}
use Rattle.resolution.specs.declared.choices.ChoiceRow.{ChoiceRow}
use Rattle.resolution.specs.declared.choices.Choices.{Choices}
use Rattle.resolution.specs.declared.progress.Progress.{Progress}
use Rattle.resolution.specs.declared.progress.Progress.TheVariants.{Over, Waiting}
use Rattle.resolution.specs.declared.progress.RequestRow.{RequestRow}
use Rattle.resolution.specs.declared.progress.RoundAnswer.{RoundAnswer}
use Rattle.resolution.specs.declared.progress.RoundAnswer.TheVariants.{Needs, Next}
use Rattle.resolution.specs.declared.progress.Walk.TheVariants as walks
use Rattle.round_core.specs.Choices.{Rises, choice_eq, choices_eq, chosen_coord, coord_by, coord_in, modules_of, row_eq}
use Rattle.round_core.specs.Edges.{last_ones, target_of}
use Rattle.round_core.specs.Needs.{at_end, is_open, open_keys, waits_in}
use Rattle.round_core.specs.Projects.{project_at, project_in, projects_in, projects_of}
use Rattle.round_core.specs.Reaching.{project_for, reached_of}
use Rattle.round_core.specs.Reads.{is_over}
use Rattle.round_core.specs.Requests.{Asked, asked_by, request_row, request_rows}
use Rattle.round_core.specs.Rounds.{Did, after_round, answer_by, begun, next_by, one_more, round_by, round_of, rounds_from, rounds_of, settled_or, walk_by, walk_of}
use Rattle.round_core.specs.Steering as steering
use Rattle.round_core.specs.Verdicts.{verdict_in, verdict_of}
use Rattle.round_core.specs.declared.edges.RowEdge.{RowEdge}
use Rattle.round_core.specs.declared.one_round.Gathered.TheVariants.{Rows}
use Rattle.round_core.specs.declared.projects.ChosenProject.{ChosenProject}
use Rattle.round_core.specs.declared.reach.Reached.{Reached}
use Rattle.round_core.proofs.Below.{Below}
use Rattle.round_core.proofs.Decided.{next_grows, next_modules}
use Rattle.round_core.proofs.Ends.{SameEnds, last_same, project_is, walk_same}
use Rattle.round_core.proofs.Rising.{AtEnd, asked_ends, asked_rises, rising_distinct}
use Rattle.round_core.proofs.Seen.{own_choice}

pub or_none : (s t : Bool) → (s || t) ≡ false → (s ≡ false) × (t ≡ false)
or_none true t h = absurd (cc)
or_none false t h = (refl, h)

pub none_of : {A : Type 0} (test : A → Bool) (x : A) (xs : List A) → list_any test xs ≡ false → In x xs → test x ≡ false
none_of test x xs h m = by (test x) refl
  where
    by : (t : Bool) → test x ≡ t → test x ≡ false
    by false e = e
    by true e = absurd (let k : list_any test xs ≡ true = any_from_in test m e in cc)

-- ---- what the next choices are of

-- next choices are those of requests, where no project waits
pub record Steps (known : Known) (ask : Ask) (chosen : List ChoiceRow) (later : Choices) : Type 0 where
  pub closed : is_open (reached_of known ask chosen) ≡ false
  pub next : next_by known ask
      (request_rows ask.roots (steering.steer ask.roots (reached_of known ask chosen)) (last_ones known ask chosen))
      ≡ Next later

pub steps_of : (known : Known) (ask : Ask) (chosen : List ChoiceRow) (later : Choices)
    → round_of known ask chosen ≡ Next later → Steps known ask chosen later
steps_of known ask chosen later h = by (is_open (reached_of known ask chosen)) refl h
  where
    by : (t : Bool) → is_open (reached_of known ask chosen) ≡ t
        → round_by known ask (walk_by t ask.roots (reached_of known ask chosen)) ≡ Next later
        → Steps known ask chosen later
    by true e k = absurd (cc)
    by false e k = record { closed = e; next = k }

module _ (known : Known) (ask : Ask) (chosen : List ChoiceRow) (later : Choices)
    (steps : Steps known ask chosen later) where
  abbrev asked : Asked
  asked = asked_by ask.roots (steering.steer ask.roots (reached_of known ask chosen)) (last_ones known ask chosen)

  rows_keys : (entries : Asked) → map (λ (row : RequestRow). row.«module») (map request_row entries) ≡ keys_of entries
  rows_keys [] = refl
  rows_keys (e ∷ entries) = ap (λ z. e.0 ∷ z) (rows_keys entries)

  later_modules : modules_of later.rows ≡ keys_of asked
  later_modules =
      next_modules known ask []
      (request_rows ask.roots (steering.steer ask.roots (reached_of known ask chosen)) (last_ones known ask chosen))
      later steps.next ∙ rows_keys asked

  pub later_rises : Rises (modules_of later.rows)
  later_rises =
      subst (λ z. Rises z) (sym later_modules)
      (asked_rises ask.roots (steering.steer ask.roots (reached_of known ask chosen)) []
      (last_ones known ask chosen) tt)

  -- each of them is at the end of a live path
  pub later_ends : (m : Module) → In m (modules_of later.rows)
      → AtEnd ask.roots (steering.steer ask.roots (reached_of known ask chosen)) m (last_ones known ask chosen)
  later_ends m i =
      elim (asked_ends ask.roots (steering.steer ask.roots (reached_of known ask chosen)) []
      (last_ones known ask chosen) m (subst (λ z. In m z) later_modules i)) [
        | inl none ↦ elim none [ ]
        | inr a ↦ a
      ]

pub round_rises : (known : Known) (ask : Ask) (chosen : List ChoiceRow) (later : Choices)
    → round_of known ask chosen ≡ Next later → Rises (modules_of later.rows)
round_rises known ask chosen later h = later_rises known ask chosen later (steps_of known ask chosen later h)

-- equal choices are of the same modules
pub same_modules : (a b : List ChoiceRow) → choices_eq a b ≡ true → modules_of a ≡ modules_of b
same_modules [] [] h = refl
same_modules [] (y ∷ b) h = absurd (cc)
same_modules (x ∷ a) [] h = absurd (cc)
same_modules (x ∷ a) (y ∷ b) h =
    let both : (row_eq x y ≡ true) × (choices_eq a b ≡ true) = and_both (row_eq x y) (choices_eq a b) h in
    let first : (module_eq x.«module» y.«module» ≡ true) × (choice_eq x.choice y.choice ≡ true) = and_both _ _ both.0 in
    ap (λ z. z ∷ modules_of a) (module_same x.«module» y.«module» first.0)
    ∙ ap (λ z. y.«module» ∷ z) (same_modules a b both.1)

pub in_modules : (row : ChoiceRow) (rows : List ChoiceRow) → In row rows → In row.«module» (modules_of rows)
in_modules row [] h = elim h [ ]
in_modules row (r ∷ rows) here = here
in_modules row (r ∷ rows) (there h) = there (in_modules row rows h)

-- ---- what stays when nothing waits

-- two maps say the same of the projects of a round that is closed
pub record Alike (f g : Known) (ask : Ask) (chosen : List ChoiceRow) : Type 0 where
  pub boms : projects_of g ask.repos ask.boms ≡ projects_of f ask.repos ask.boms
  pub ends : (e : RowEdge) → In e (last_ones f ask chosen)
      → option_map (project_at g ask.repos) (chosen_coord chosen (target_of e))
      ≡ option_map (project_at f ask.repos) (chosen_coord chosen (target_of e))

pub alike_ends : (f g : Known) (ask : Ask) (chosen : List ChoiceRow) → Alike f g ask chosen → SameEnds f g ask chosen
alike_ends f g ask chosen alike =
    record {
      boms = alike.boms;
      ends = λ e m. project_is g ask chosen (target_of e) ∙ alike.ends e m
          ∙ sym (project_is f ask chosen (target_of e));
    }

module _ (laws : Below) (f g : Known) (more : Grows f g) (ask : Ask) where
  project_stays : (c : Option Coord) → waits_in (option_map (project_at f ask.repos) c) ≡ false
      → option_map (project_at g ask.repos) c ≡ option_map (project_at f ask.repos) c
  project_stays None e = refl
  project_stays (Some c) e = ap (λ b. Some (record { coord = c; build = b })) (laws.answer_grows f g ask.repos c more e)

  boms_stay : (boms : List Coord)
      → list_any (λ (project : ChosenProject). waits_in (Some project)) (projects_of f ask.repos boms) ≡ false
      → projects_of g ask.repos boms ≡ projects_of f ask.repos boms
  boms_stay [] e = refl
  boms_stay (c ∷ boms) e =
      let both : (waits_in (Some (project_at f ask.repos c)) ≡ false)
      × (list_any (λ (project : ChosenProject). waits_in (Some project)) (projects_of f ask.repos boms) ≡ false) =
      or_none _ _ e in
      ap (λ b. record { coord = c; build = b } ∷ projects_of g ask.repos boms)
      (laws.answer_grows f g ask.repos c more both.0)
      ∙ ap (λ z. project_at f ask.repos c ∷ z) (boms_stay boms both.1)

  pub closed_alike : (chosen : List ChoiceRow) → is_open (reached_of f ask chosen) ≡ false → Alike f g ask chosen
  closed_alike chosen closed =
      let both : (list_any (λ (project : ChosenProject). waits_in (Some project)) (projects_of f ask.repos ask.boms)
      ≡ false) × (list_any (λ (e : RowEdge). waits_in (at_end (reached_of f ask chosen) e)) (last_ones f ask chosen)
      ≡ false) = or_none _ _ closed in
      record {
        boms = boms_stay ask.boms both.0;
        ends = λ e m.
            project_stays (chosen_coord chosen (target_of e))
            (subst (λ z. waits_in z ≡ false) (project_is f ask chosen (target_of e))
            (none_of (λ (d : RowEdge). waits_in (at_end (reached_of f ask chosen) d)) e
            (last_ones f ask chosen) both.1 m));
      }

  pub round_grows : (chosen : List ChoiceRow) (later : Choices) → round_of f ask chosen ≡ Next later
      → round_of g ask chosen ≡ Next later
  round_grows chosen later h =
      let steps : Steps f ask chosen later = steps_of f ask chosen later h in
      let walk : walk_of g ask chosen ≡ walk_of f ask chosen =
      walk_same laws.sets f g ask chosen (alike_ends f g ask chosen (closed_alike chosen steps.closed)) in
      ap (round_by g ask) (walk ∙ ap (λ t. walk_by t ask.roots (reached_of f ask chosen)) steps.closed)
      ∙ next_grows laws f g more ask
      (request_rows ask.roots (steering.steer ask.roots (reached_of f ask chosen)) (last_ones f ask chosen)) later
      steps.next

-- ---- settled choices

-- where two maps are alike at a round that settles, all that is reached is the same
module _ (laws : Below) (f g : Known) (ask : Ask) (chosen : List ChoiceRow) (rises : Rises (modules_of chosen))
    (alike : Alike f g ask chosen) (later : Choices) (done : round_of f ask chosen
    ≡ Next later) (same : choices_eq chosen later.rows ≡ true) where
  row_same : (row : ChoiceRow) → In row chosen → project_in g ask.repos row ≡ project_in f ask.repos row
  row_same row m =
      let steps : Steps f ask chosen later = steps_of f ask chosen later done in
      let requested : In row.«module» (modules_of later.rows) =
      subst (λ z. In row.«module» z) (same_modules chosen later.rows same) (in_modules row chosen m) in
      let end : AtEnd ask.roots (steering.steer ask.roots (reached_of f ask chosen)) row.«module»
      (last_ones f ask chosen) = later_ends f ask chosen later steps row.«module» requested in
      let own : chosen_coord chosen row.«module» ≡ coord_in row =
      ap (λ c. coord_by row.«module» c) (own_choice chosen row (rising_distinct (modules_of chosen) rises) m) in
      let at : chosen_coord chosen (target_of end.edge) ≡ coord_in row = ap (chosen_coord chosen) end.at ∙ own in
      subst (λ c. option_map (project_at g ask.repos) c ≡ option_map (project_at f ask.repos) c) at
      (alike.ends end.edge end.member)

  rows_same : (rows : List ChoiceRow) → ((row : ChoiceRow) → In row rows → In row chosen) → projects_in g ask.repos rows
      ≡ projects_in f ask.repos rows
  rows_same [] all = refl
  rows_same (row ∷ rows) all = ap (λ z. z ∷ projects_in g ask.repos rows) (row_same row (all row here))
      ∙ ap (λ z. project_in f ask.repos row ∷ z) (rows_same rows (λ r m. all r (there m)))

  pub reached_same : reached_of g ask chosen ≡ reached_of f ask chosen
  reached_same =
      ap (λ z. record {
        table = modules_of chosen;
        projects = z;
        boms = projects_of g ask.repos ask.boms;
        last =
            last_ones g ask chosen;
      }) (rows_same chosen (λ row m. m))
      ∙ ap (λ z. record {
        table = modules_of chosen;
        projects = projects_in f ask.repos chosen;
        boms = z;
        last =
            last_ones g ask chosen;
      }) alike.boms
      ∙ ap (λ z. record {
        table = modules_of chosen;
        projects = projects_in f ask.repos chosen;
        boms =
            projects_of f ask.repos ask.boms;
        last = z;
      })
      (last_same laws.sets f g ask chosen (alike_ends f g ask chosen alike))

  pub verdict_same : (round : ℕ) → verdict_of g ask round chosen ≡ verdict_of f ask round chosen
  verdict_same round = ap (verdict_in ask.roots round chosen) reached_same

-- ---- all rounds

module _ (laws : Below) (f g : Known) (more : Grows f g) (ask : Ask) where
  settled_stays : (t : Bool) (chosen later : List ChoiceRow) (s s' k k' : List ChoiceRow → Progress)
      → (t ≡ true → s' chosen ≡ s chosen) → (t ≡ false → is_over (k later) ≡ true → k' later ≡ k later)
      → is_over (settled_or t chosen later s k) ≡ true → settled_or t chosen later s' k' ≡ settled_or t chosen later s k
  settled_stays true chosen later s s' k k' hs hk e = hs refl
  settled_stays false chosen later s s' k k' hs hk e = hk refl e

  after_stays : (a b : RoundAnswer) (done : ℕ) (chosen : List ChoiceRow) (s s' k k' : List ChoiceRow → Progress)
      → ((later : Choices) → a ≡ Next later → b ≡ Next later)
      → ((later : Choices) → a ≡ Next later → choices_eq chosen later.rows ≡ true → s' chosen ≡ s chosen)
      → ((later : Choices) → a ≡ Next later → is_over (k later.rows) ≡ true → k' later.rows ≡ k later.rows)
      → is_over (after_round a done chosen s k) ≡ true → after_round b done chosen s' k' ≡ after_round a done chosen s k
  after_stays (Needs keys) b done chosen s s' k k' hb hs hk e = absurd (cc)
  after_stays (Next later) b done chosen s s' k k' hb hs hk e =
      ap (λ z. after_round z done chosen s' k') (hb later refl)
      ∙ settled_stays (choices_eq chosen later.rows) chosen later.rows s s' k k' (hs later refl) (λ t. hk later refl) e

  pub rounds_from_grow : (left done : ℕ) (chosen : List ChoiceRow) → Rises (modules_of chosen)
      → is_over (rounds_from f ask left done chosen) ≡ true → rounds_from g ask left done chosen
      ≡ rounds_from f ask left done chosen
  rounds_from_grow zero done chosen r e = refl
  rounds_from_grow (suc left) done chosen r e =
      after_stays (round_of f ask chosen) (round_of g ask chosen) done chosen _ _ (rounds_from f ask left (done + 1))
      (rounds_from g ask left (done + 1)) (round_grows laws f g more ask chosen)
      (λ later h same.
      ap Over (verdict_same laws f g ask chosen r
      (closed_alike laws f g more ask chosen (steps_of f ask chosen later h).closed) later h same (done + 1)))
      (λ later h over. rounds_from_grow left (done + 1) later.rows (round_rises f ask chosen later h) over) e

  -- over stays over
  pub rounds_grow : is_over (rounds_of f ask) ≡ true → rounds_of g ask ≡ rounds_of f ask
  rounds_grow e = rounds_from_grow ask.rounds 0 [] tt e

  -- rounds that were done stay done
  pub did_grows : {n : ℕ} {chosen : List ChoiceRow} → Did f ask n chosen → Did g ask n chosen
  did_grows begun = begun
  did_grows (one_more {n} {chosen} {later} d e apart) =
      one_more (did_grows d) (round_grows laws f g more ask chosen (record { rows = later }) e) apart
