-- What is settled: each choice is a node, each edge is between nodes, and each node was found.
use Rattle.std.proofs.Common.{◌≡◌, ◌<◌, ◌+◌, ℕ, zero, suc, Bool, true, false, cond, ◌||◌, ◌⊎◌, inl, inr, Option, None, Some, List, [], ◌∷◌, ◌++◌, filter, length, map, refl, sym, ◌∙◌, ap, subst, arith}
use Rattle.std.specs.Prelude.{All, IsSome, fold, get_or, unwrap_or}
use Rattle.std.specs.BTreeMap.{insert_entry}
use Rattle.std.specs.List.{flat_map, list_any, position_from}
use Rattle.std.specs.Option.{option_map}
use Rattle.std.specs.Ordering.{match_ordering}
use Rattle.std.specs.declared.cmp.Ordering.{Ordering}
use Rattle.std.specs.declared.cmp.Ordering.TheVariants.{Equal, Greater, Less}
use Rattle.live_walk.specs.Graphs.{In, here, there}
use Rattle.live_walk.specs.Numbers.{AreDistinct}
use Rattle.live_walk.specs.Paths.{followed, is_followed, live_paths}
use Rattle.live_walk.proofs.Members.{FlatMapped, Mapped, Passed, any_from_in, from_filter, from_flat_map, from_map, in_either, in_flat_map, in_get, in_map, in_one}
use Rattle.live_walk.proofs.Modules.{module_itself}
use Rattle.pom_build.specs.Effectives.{effective_of}
use Rattle.pom_build.specs.FoundProjects.{IsFound}
use Rattle.pom_build.specs.declared.build.Build.{Build}
use Rattle.pom_build.specs.declared.build.Build.TheVariants as builds
use Rattle.pom_build.specs.declared.build.Effective.{Effective}
use Rattle.reconcile_rules.specs.declared.request.Asker.{Asker}
use Rattle.reconcile_rules.specs.declared.request.Asker.TheVariants.{Project, Root}
use Rattle.res_base.specs.Known.{Known}
use Rattle.res_base.specs.Names.{module_eq}
use Rattle.res_base.specs.Plain.{is_plain_coord}
use Rattle.res_base.specs.declared.coord.Coord.{Coord}
use Rattle.res_base.specs.declared.coord.Module.{Module}
use Rattle.res_base.specs.declared.pom.DepRecord.{DepRecord}
use Rattle.res_base.specs.declared.pom.Exclusion.{Exclusion}
use Rattle.resolution.specs.Settlements.{HasRepositories, IfSettled, IsEdgeOf, IsPlaceIn, IsSettlement}
use Rattle.resolution.specs.declared.ask.Ask.{Ask}
use Rattle.resolution.specs.declared.choices.Choice.{Choice}
use Rattle.resolution.specs.declared.choices.Choice.TheVariants as choices
use Rattle.resolution.specs.declared.choices.ChoiceRow.{ChoiceRow}
use Rattle.resolution.specs.declared.choices.Choices.{Choices}
use Rattle.resolution.specs.declared.settled.Edge.{Edge}
use Rattle.resolution.specs.declared.settled.Node.{Node}
use Rattle.resolution.specs.declared.settled.Settled.{Settled as Outcome}
use Rattle.resolution.specs.declared.verdict.ClashRow.{ClashRow}
use Rattle.resolution.specs.declared.verdict.FaultRow.{FaultRow}
use Rattle.resolution.specs.declared.verdict.Verdict.{Verdict}
use Rattle.resolution.specs.declared.progress.Progress.{Progress}
use Rattle.resolution.specs.declared.progress.Progress.TheVariants.{Over, Waiting}
use Rattle.resolution.specs.declared.progress.RequestRow.{RequestRow}
use Rattle.resolution.specs.declared.progress.RoundAnswer.TheVariants.{Next}
use Rattle.scope_rules.specs.declared.scopes.Configuration.{Configuration}
use Rattle.round_core.specs.Choices.{Rises, choice_of, choices_eq, chosen_coord, coord_at, coord_by, coord_in, modules_of}
use Rattle.round_core.specs.Edges.{edge_from, edges, edges_built, edges_in as edges_of_project, graph, is_edge, last_ones, root_edges, target_of}
use Rattle.round_core.specs.Endings.{IsEnding, settles, stops, waits}
use Rattle.round_core.specs.Needs.{at_end, is_open, waits_in}
use Rattle.round_core.specs.Projects.{project_at, project_in, projects_in}
use Rattle.round_core.specs.Reaching.{project_for, reached_of}
use Rattle.round_core.specs.Requests.{Asked, asked_by, asks_for, request_row, request_rows, rows_modules}
use Rattle.round_core.specs.Rounds.{Did, round_of, rounds_of}
use Rattle.round_core.specs.Steering.{Versions, steer}
use Rattle.round_core.specs.Tables.{has, number_in}
use Rattle.round_core.specs.Verdicts.{Faults, clash_at, clash_in, clashes_in, coord_cmp, edge_in, edges_in, fault_row, faults_in, node_in, nodes_in, place_in, settled_in, source_in, unless_clashes, unless_failed, verdict_in, verdict_of, with_chosen, with_fault, with_project}
use Rattle.round_core.specs.declared.edges.RowEdge.{RowEdge}
use Rattle.round_core.specs.declared.projects.ChosenProject.{ChosenProject}
use Rattle.round_core.specs.declared.reach.Reached.{Reached}
use Rattle.round_core.proofs.AskedFor.{row_ends}
use Rattle.round_core.proofs.Decided.{next_modules}
use Rattle.round_core.proofs.Ended.{did_rises, ends}
use Rattle.round_core.proofs.Ends.{project_is}
use Rattle.round_core.proofs.Grow.{Steps, in_modules, later_ends, none_of, or_none, same_modules, steps_of}
use Rattle.round_core.proofs.Named.{place_in_range, some_place}
use Rattle.round_core.proofs.Rising.{AtEnd, rising_distinct}
use Rattle.round_core.proofs.Seen.{own_choice}

-- ---- lists with some element

abbrev AreSome : {A : Type 0} → List A → Type 0
AreSome [] = ⊥
AreSome (x ∷ xs) = Unit {0}

none_some : {A : Type 0} (xs : List A) → xs ≡ [] → AreSome xs → ⊥
none_some [] e h = h
none_some (x ∷ xs) e h = absurd (cc)

some_map : {A B : Type 0} (f : A → B) (xs : List A) → AreSome xs → AreSome (map f xs)
some_map f [] h = h
some_map f (x ∷ xs) h = tt

-- where all lists together are empty, each of them is
each_empty : {A B : Type 0} (f : A → List B) (xs : List A) (x : A) → flat_map f xs ≡ [] → In x xs → AreSome (f x) → ⊥
each_empty {B = B} f xs x e m h = by (f x) refl h
  where
    by : (ys : List B) → f x ≡ ys → AreSome ys → ⊥
    by [] q k = k
    by (y ∷ ys) q k = elim (subst (λ z. In y z) e (in_flat_map f m (subst (λ z. In y z) (sym q) here))) [ ]

all_from_in : {A : Type 0} (P : A → Type 0) (xs : List A) → ((x : A) → In x xs → P x) → All P xs
all_from_in P xs each i d h = each (get_or xs i d) (in_get xs i d h)

-- ---- projects that are not there

abbrev IsFault : Build → Type 0
IsFault (builds.Built project) = ⊥
IsFault (builds.Needs keys) = ⊥
IsFault (builds.NotFound why) = Unit {0}
IsFault (builds.Refused fault) = Unit {0}

some_inserted : {V : Type 0} (faults : List (Coord × V)) (c : Coord) (v : V)
    → AreSome (insert_entry coord_cmp faults c v)
some_inserted [] c v = tt
some_inserted (f ∷ faults) c v = by (coord_cmp c f.0)
  where
    by : (o : Ordering)
        → AreSome (match_ordering o ((c, v) ∷ f ∷ faults) ((f.0, v) ∷ faults) (f ∷ insert_entry coord_cmp faults c v))
    by Less = tt
    by Equal = tt
    by Greater = tt

fault_kept : (faults : Faults) (c : Coord) (build : Build) → AreSome faults → AreSome (with_fault faults c build)
fault_kept faults c (builds.Built project) h = h
fault_kept faults c (builds.Needs keys) h = h
fault_kept faults c (builds.NotFound why) h = some_inserted faults c _
fault_kept faults c (builds.Refused fault) h = some_inserted faults c _

fault_new : (faults : Faults) (c : Coord) (build : Build) → IsFault build → AreSome (with_fault faults c build)
fault_new faults c (builds.Built project) h = absurd h
fault_new faults c (builds.Needs keys) h = absurd h
fault_new faults c (builds.NotFound why) h = some_inserted faults c _
fault_new faults c (builds.Refused fault) h = some_inserted faults c _

faults_kept : (faults : Faults) (projects : List (Option ChosenProject)) → AreSome faults
    → AreSome (fold with_chosen faults projects)
faults_kept faults [] h = h
faults_kept faults (None ∷ projects) h = faults_kept faults projects h
faults_kept faults (Some project ∷ projects) h =
    faults_kept (with_fault faults project.coord project.build) projects
    (fault_kept faults project.coord project.build h)

faults_new : (faults : Faults) (projects : List (Option ChosenProject)) (project : ChosenProject)
    → In (Some project) projects → IsFault project.build → AreSome (fold with_chosen faults projects)
faults_new faults [] project m h = elim m [ ]
faults_new faults (p ∷ projects) project here h =
    faults_kept (with_fault faults project.coord project.build) projects
    (fault_new faults project.coord project.build h)
faults_new faults (p ∷ projects) project (there m) h = faults_new (with_chosen faults p) projects project m h

-- ---- places

place_below : (names : List Module) (m : Module) → has names m ≡ true → unwrap_or (number_in names m) 0 < length names
place_below names m h = by (number_in names m) refl (some_place (module_eq m) 0 names h)
  where
    by : (found : Option ℕ) → number_in names m ≡ found → IsSome found → unwrap_or found 0 < length names
    by None e s = absurd (cc)
    by (Some place) e s =
        let l : place < 0 + length names = place_in_range (module_eq m) 0 names place e in
        let k : place < length names = omega (arith, l) in
        k

in_has : (m : Module) (names : List Module) → In m names → has names m ≡ true
in_has m names i = any_from_in (module_eq m) i (module_itself m)

-- ---- sources of edges

-- an edge comes from nothing, or from one of these modules
abbrev ComesFrom : List Module → Asker → Type 0
ComesFrom names (Root place) = Unit {0}
ComesFrom names (Project c) = has names c.«module» ≡ true

root_source : (excludes : List Exclusion) (place : ℕ) (roots : List Coord) (e : RowEdge) (names : List Module)
    → In e (root_edges excludes place roots) → ComesFrom names e.source
root_source excludes place [] e names h = elim h [ ]
root_source excludes place (c ∷ roots) e names here = tt
root_source excludes place (c ∷ roots) e names (there h) = root_source excludes (place + 1) roots e names h

built_source : (configuration : Configuration) (c : Coord) (build : Build) (e : RowEdge)
    → In e (edges_built configuration c build) → e.source ≡ Project c
built_source configuration c (builds.Built project) e h =
    let m : Mapped (edge_from c) e (filter (is_edge configuration c) project.deps) =
    from_map (edge_from c) e (filter (is_edge configuration c) project.deps) h in ap (λ (d : RowEdge). d.source) m.is
built_source configuration c (builds.Needs keys) e h = elim h [ ]
built_source configuration c (builds.NotFound why) e h = elim h [ ]
built_source configuration c (builds.Refused fault) e h = elim h [ ]

module _ (known : Known) (ask : Ask) (chosen : List ChoiceRow) where
  edge_source : (k : Module) (e : RowEdge) → In e (edges known ask chosen k)
      → (c : Coord) × (e.source ≡ Project c) × (c.«module» ≡ k)
  edge_source k e h = by (choice_of chosen k) h
    where
      by : (choice : Option Choice)
          → In e (edges_of_project ask.configuration (option_map (project_at known ask.repos) (coord_by k choice)))
          → (c : Coord) × (e.source ≡ Project c) × (c.«module» ≡ k)
      by None m = elim m [ ]
      by (Some (choices.Clash clash)) m = elim m [ ]
      by (Some (choices.Version version)) m = (
        record { «module» = k; version = version },
        built_source ask.configuration (record { «module» = k; version = version }) _ e m,
        refl,
      )

  last_source : (e : RowEdge) → In e (last_ones known ask chosen) → ComesFrom (modules_of chosen) e.source
  last_source e h =
      elim (in_either (root_edges ask.excludes 0 ask.roots) _ h) [
        | inl r ↦ root_source ask.excludes 0 ask.roots e (modules_of chosen) r
        | inr l ↦
            (let f : FlatMapped
            (followed (graph known ask chosen) (live_paths (graph known ask chosen) (length (modules_of chosen)))) e
            (modules_of chosen) = from_flat_map _ e (modules_of chosen) l in
            let p : Passed
            (is_followed (graph known ask chosen)
            (live_paths (graph known ask chosen) (length (modules_of chosen))) f.one) e
            (edges known ask chosen f.one) = from_filter _ e (edges known ask chosen f.one) f.inside in
            let s : (c : Coord) × (e.source ≡ Project c) × (c.«module» ≡ f.one) = edge_source f.one e p.member in
            subst (λ z. ComesFrom (modules_of chosen) z) (sym s.1)
            (subst (λ z. has (modules_of chosen) z ≡ true) (sym s.2) (in_has f.one (modules_of chosen) f.member)))
      ]

-- ---- choices that settle

module _ (found : (known : Known) (repos : ℕ) (c : Coord) (project : Effective)
    → effective_of known repos c ≡ builds.Built project → IsFound known repos c project)
    (known : Known) (ask : Ask) (chosen : List ChoiceRow) (rises : Rises (modules_of chosen)) (later : Choices)
    (answer : round_of known ask chosen ≡ Next later) (same : choices_eq chosen later.rows ≡ true) where
  abbrev reached : Reached
  reached = reached_of known ask chosen

  abbrev asked : Asked
  asked = asked_by ask.roots (steer ask.roots reached) (last_ones known ask chosen)

  steps : Steps known ask chosen later
  steps = steps_of known ask chosen later answer

  -- the modules that are asked for are those that are chosen
  abbrev rows : List RequestRow
  rows = request_rows ask.roots (steer ask.roots reached) (last_ones known ask chosen)

  asked_modules : rows_modules rows ≡ modules_of chosen
  asked_modules = sym (next_modules known ask [] rows later steps.next) ∙ sym (same_modules chosen later.rows same)

  target_chosen : (e : RowEdge) → In e (last_ones known ask chosen) → has (modules_of chosen) (target_of e) ≡ true
  target_chosen e m =
      subst (λ z. has z (target_of e) ≡ true) asked_modules
      (row_ends ask.roots (steer ask.roots reached) (last_ones known ask chosen) (target_of e)
      ∙ any_from_in (asks_for (target_of e)) m (module_itself (target_of e)))

  -- none of their projects waits
  row_closed : (row : ChoiceRow) → In row chosen → waits_in (project_in known ask.repos row) ≡ false
  row_closed row m =
      let requested : In row.«module» (modules_of later.rows) =
      subst (λ z. In row.«module» z) (same_modules chosen later.rows same) (in_modules row chosen m) in
      let end : AtEnd ask.roots (steer ask.roots reached) row.«module» (last_ones known ask chosen) =
      later_ends known ask chosen later steps row.«module» requested in
      let own : chosen_coord chosen row.«module» ≡ coord_in row =
      ap (λ c. coord_by row.«module» c) (own_choice chosen row (rising_distinct (modules_of chosen) rises) m) in
      let at : at_end reached end.edge ≡ project_in known ask.repos row =
      project_is known ask chosen (target_of end.edge)
      ∙ ap (option_map (project_at known ask.repos)) (ap (chosen_coord chosen) end.at ∙ own) in
      let both : (list_any (λ (project : ChosenProject). waits_in (Some project)) reached.boms ≡ false)
      × (list_any (λ (e : RowEdge). waits_in (at_end reached e)) (last_ones known ask chosen) ≡ false) =
      or_none _ _ steps.closed in
      subst (λ z. waits_in z
      ≡ false) at
      (none_of (λ (e : RowEdge). waits_in (at_end reached e)) end.edge
      (last_ones known ask chosen) both.1 end.member)

  module _ (no_clash : clashes_in asked chosen ≡ []) (no_fault : map fault_row (faults_in reached) ≡ []) where
    -- a choice whose project is built
    record IsBuiltRow (row : ChoiceRow) : Type 0 where
      pub coord : Coord
      pub project : Effective
      pub build : effective_of known ask.repos coord ≡ builds.Built project
      pub is : project_in known ask.repos row ≡ Some (record { coord = coord; build = builds.Built project })

    no_fault_in : (project : ChosenProject) → In (Some project) (projects_in known ask.repos chosen)
        → IsFault project.build → ⊥
    no_fault_in project m h =
        none_some (map fault_row (faults_in reached)) no_fault
        (some_map fault_row (faults_in reached)
        (faults_new (fold with_project [] reached.boms) (projects_in known ask.repos chosen) project m h))

    built_row : (row : ChoiceRow) → In row chosen → IsBuiltRow row
    built_row row m = by row.choice refl
      where
        at : (version : List ℕ) → row.choice ≡ choices.Version version → (build : Build)
            → effective_of known ask.repos (record { «module» = row.«module»; version = version }) ≡ build
            → IsBuiltRow row
        at version e build h = on build h
          where
            c : Coord
            c = record { «module» = row.«module»; version = version }

            is : (b : Build) → effective_of known ask.repos c ≡ b → project_in known ask.repos row
                ≡ Some (record { coord = c; build = b })
            is b g = ap (λ z. option_map (project_at known ask.repos) (coord_at row.«module» z)) e
                ∙ ap (λ z. Some (record { coord = c; build = z })) g

            fault : (b : Build) → effective_of known ask.repos c ≡ b → IsFault b → ⊥
            fault b g f =
                no_fault_in (record { coord = c; build = b })
                (subst (λ z. In z (projects_in known ask.repos chosen)) (is b g)
                (in_map (project_in known ask.repos) m)) f

            on : (b : Build) → effective_of known ask.repos c ≡ b → IsBuiltRow row
            on (builds.Built project) g =
                record { coord = c; project = project; build = g; is = is (builds.Built project) g }
            on (builds.Needs keys) g =
                absurd (let n : waits_in (project_in known ask.repos row) ≡ false =
                row_closed row m in let y : waits_in (project_in known ask.repos row) ≡ true =
                ap waits_in (is (builds.Needs keys) g) in cc)
            on (builds.NotFound why) g = absurd (fault (builds.NotFound why) g tt)
            on (builds.Refused why) g = absurd (fault (builds.Refused why) g tt)

        by : (choice : Choice) → row.choice ≡ choice → IsBuiltRow row
        by (choices.Clash clash) e =
            absurd (each_empty (clash_at asked) chosen row no_clash m
            (subst (λ z. AreSome (clash_in asked row.«module» z)) (sym e) tt))
        by (choices.Version version) e =
            at version e (effective_of known ask.repos (record { «module» = row.«module»; version = version })) refl

    -- each is a node
    one_node : (row : ChoiceRow) → IsBuiltRow row → (nodes : List Node)
        → length (node_in (project_in known ask.repos row) ++ nodes) ≡ suc (length nodes)
    one_node row b nodes = ap (λ p. length (node_in p ++ nodes)) b.is

    as_many : (some : List ChoiceRow) → ((row : ChoiceRow) → In row some → In row chosen)
        → length (flat_map node_in (projects_in known ask.repos some)) ≡ length (modules_of some)
    as_many [] all = refl
    as_many (row ∷ some) all =
        one_node row (built_row row (all row here)) (flat_map node_in (projects_in known ask.repos some))
        ∙ ap suc (as_many some (λ r m. all r (there m)))

    nodes_many : length (nodes_in reached) ≡ length (modules_of chosen)
    nodes_many = as_many chosen (λ row m. m)

    node_found : (node : Node) → In node (nodes_in reached)
        → (is_plain_coord node.coord ≡ true) × (node.repo < ask.repos)
    node_found node h =
        let f : FlatMapped node_in node (projects_in known ask.repos chosen) =
        from_flat_map node_in node (projects_in known ask.repos chosen) h in
        let r : Mapped (project_in known ask.repos) f.one chosen =
        from_map (project_in known ask.repos) f.one chosen f.member in
        let b : IsBuiltRow r.one = built_row r.one r.member in
        let i : IsFound known ask.repos b.coord b.project = found known ask.repos b.coord b.project b.build in
        let is : node ≡ record {
          coord = b.project.coord;
          repo = b.project.repo;
          packaging =
              b.project.packaging;
          moved = b.project.moved;
        } =
        in_one (subst (λ z. In node (node_in z)) (r.is ∙ b.is) f.inside)
        in (
          ap (λ (n : Node). is_plain_coord n.coord) is ∙ ap is_plain_coord i.coord ∙ i.plain,
          subst (λ (n : Node). n.repo < ask.repos) (sym is) i.listed,
        )

    edge_placed : (e : RowEdge) → In e (last_ones known ask chosen)
        → IsEdgeOf (length (nodes_in reached)) (edge_in ask.roots (steer ask.roots reached) reached e)
    edge_placed e m = (
      subst (λ n. place_in reached (target_of e) < n) (sym nodes_many)
          (place_below (modules_of chosen) (target_of e) (target_chosen e m)),
      by e.source (last_source known ask chosen e m),
    )
      where
        by : (source : Asker) → ComesFrom (modules_of chosen) source
            → IsPlaceIn (length (nodes_in reached)) (source_in reached source)
        by (Root place) h = tt
        by (Project c) h =
            subst (λ n. place_in reached c.«module» < n) (sym nodes_many) (place_below (modules_of chosen) c.«module» h)

    each_edge : (edge : Edge) → In edge (edges_in ask.roots (steer ask.roots reached) reached)
        → IsEdgeOf (length (nodes_in reached)) edge
    each_edge edge h =
        let r : Mapped (edge_in ask.roots (steer ask.roots reached) reached) edge (last_ones known ask chosen) =
        from_map _ edge (last_ones known ask chosen) h in
        subst (λ z. IsEdgeOf (length (nodes_in reached)) z) (sym r.is) (edge_placed r.one r.member)

    pub settled_well : (round : ℕ) → IsSettlement (settled_in ask.roots round reached)
    settled_well round =
        record {
          edges = all_from_in (λ (edge : Edge). IsEdgeOf (length (nodes_in reached)) edge)
              (edges_in ask.roots (steer ask.roots reached) reached) each_edge;
          coordinates =
              all_from_in (λ (node : Node). is_plain_coord node.coord
              ≡ true) (nodes_in reached) (λ node m. (node_found node m).0);
        }

    pub settled_listed : (round : ℕ) → HasRepositories ask.repos (settled_in ask.roots round reached)
    settled_listed round =
        all_from_in (λ (node : Node). node.repo < ask.repos) (nodes_in reached) (λ node m. (node_found node m).1)

  if_settled : (round : ℕ) (P : Outcome → Type 0)
      → (clashes_in asked chosen ≡ [] → map fault_row (faults_in reached) ≡ [] → P (settled_in ask.roots round reached))
      → IfSettled (verdict_of known ask round chosen) P
  if_settled round P holds = by (clashes_in asked chosen) refl
    where
      on : clashes_in asked chosen ≡ [] → (faults : List FaultRow) → map fault_row (faults_in reached) ≡ faults
          → IfSettled (unless_failed faults (settled_in ask.roots round reached)) P
      on none [] e = holds none e
      on none (fault ∷ faults) e = tt

      by : (clashes : List ClashRow) → clashes_in asked chosen ≡ clashes
          → IfSettled
          (unless_clashes clashes
          (unless_failed (map fault_row (faults_in reached)) (settled_in ask.roots round reached))) P
      by [] e = on e (map fault_row (faults_in reached)) refl
      by (clash ∷ clashes) e = tt

  pub verdict_well : (round : ℕ) → IfSettled (verdict_of known ask round chosen) IsSettlement
  verdict_well round = if_settled round IsSettlement (λ no_clash no_fault. settled_well no_clash no_fault round)

  pub verdict_listed : (round : ℕ) → IfSettled (verdict_of known ask round chosen) (HasRepositories ask.repos)
  verdict_listed round =
      if_settled round (HasRepositories ask.repos) (λ no_clash no_fault. settled_listed no_clash no_fault round)

-- ---- the verdict of rounds

module _ (found : (known : Known) (repos : ℕ) (c : Coord) (project : Effective)
    → effective_of known repos c ≡ builds.Built project
    → IsFound known repos c project) (known : Known) (ask : Ask) where
  abbrev IfOver : Progress → (Outcome → Type 0) → Type 0
  IfOver (Waiting round choices needs) P = Unit {0}
  IfOver (Over verdict) P = IfSettled verdict P

  well : {progress : Progress} → IsEnding known ask progress → IfOver progress IsSettlement
  well (waits h d e) = tt
  well (settles {done} {chosen} {later} h d e same) =
      verdict_well found known ask chosen (did_rises known ask d) later e same (done + 1)
  well (stops d) = tt

  listed : {progress : Progress} → IsEnding known ask progress → IfOver progress (HasRepositories ask.repos)
  listed (waits h d e) = tt
  listed (settles {done} {chosen} {later} h d e same) =
      verdict_listed found known ask chosen (did_rises known ask d) later e same (done + 1)
  listed (stops d) = tt

  pub rounds_well : (verdict : Verdict) → rounds_of known ask ≡ Over verdict → IfSettled verdict IsSettlement
  rounds_well verdict h = subst (λ z. IfOver z IsSettlement) h (well (ends known ask))

  pub rounds_listed : (verdict : Verdict) → rounds_of known ask ≡ Over verdict
      → IfSettled verdict (HasRepositories ask.repos)
  rounds_listed verdict h = subst (λ z. IfOver z (HasRepositories ask.repos)) h (listed (ends known ask))
