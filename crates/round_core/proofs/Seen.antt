-- The walk over numbered modules finds the last edges of live paths.
use Rattle.std.proofs.Common.{◌≡◌, ◌<◌, ◌+◌, ℕ, zero, suc, Bool, true, false, cond, not, ◌||◌, Option, None, Some, List, [], ◌∷◌, ◌++◌, filter, length, map, refl, sym, ◌∙◌, ap, subst, arith}
use Rattle.std.specs.Prelude.{⊤, fold, slice_get, unwrap_or}
use mathlib.Core.Path.{fun_ext}
use Rattle.std.specs.List.{flat_map, list_any}
use Rattle.std.specs.Option.{option_map}
use Rattle.res_base.specs.Known.{Known}
use Rattle.res_base.specs.Names.{module_eq}
use Rattle.res_base.specs.declared.coord.Coord.{Coord}
use Rattle.res_base.specs.declared.coord.Module.{Module}
use Rattle.res_base.specs.declared.pom.Exclusion.{Exclusion}
use Rattle.exclusion_sets.specs.declared.excl_set.ExclSet.{ExclSet}
use Rattle.live_walk.specs.Graphs.{Graph, HasEdges, In, Lawful, here, there}
use Rattle.live_walk.specs.Numbers.{AreDistinct, AreOther, Step, followed_by, row_at, step_graph}
use Rattle.live_walk.specs.Paths.{followed, is_followed, live_paths}
use Rattle.live_walk.proofs.Answered.{followed_any}
use Rattle.live_walk.proofs.Members.{filter_same}
use Rattle.live_walk.proofs.Modules.{SetLaws, module_itself, module_same}
use Rattle.live_walk.proofs.Renamed.{followed_seen}
use Rattle.resolution.specs.declared.ask.Ask.{Ask}
use Rattle.resolution.specs.declared.choices.Choice.{Choice}
use Rattle.resolution.specs.declared.choices.ChoiceRow.{ChoiceRow}
use Rattle.round_core.specs.Choices.{choice_of, chosen_coord, coord_by, coord_in, modules_of}
use Rattle.round_core.specs.Edges.{all_edges, edges, edges_in, exclusions_of, graph, last_ones, root_edges, target_of}
use Rattle.round_core.specs.Projects.{project_at, project_in, projects_in}
use Rattle.round_core.specs.Reaching.{all_kept, all_kept_from, kept, kept_from, kept_if, names_of, roots_of, seen_graph, seen_last, step_of, with_targets}
use Rattle.round_core.specs.Tables.{has, named}
use Rattle.round_core.specs.declared.edges.RowEdge.{RowEdge}
use Rattle.round_core.proofs.Named.{Extends, extends-trans, extends_itself, extends_named, has-append, named_distinct}

-- ---- names

fold_extends : (names : List Module) (lists : List (List RowEdge)) → Extends names (fold with_targets names lists)
fold_extends names [] = extends_itself names
fold_extends names (list ∷ lists) =
    extends-trans names (with_targets names list) _ (extends_named names (map target_of list))
    (fold_extends (with_targets names list) lists)

pub names_extend : (chosen : List ChoiceRow) (roots : List Coord) (lists : List (List RowEdge))
    → AreDistinct (modules_of chosen) → Extends (modules_of chosen) (names_of chosen roots lists)
names_extend chosen roots lists d =
    let start : named [] (modules_of chosen) ≡ modules_of chosen = named_distinct [] (modules_of chosen) d in
    subst (λ z. Extends z (names_of chosen roots lists)) start
    (extends-trans (named [] (modules_of chosen)) (named (named [] (modules_of chosen)) (roots_of roots))
    (names_of chosen roots lists)
    (extends_named (named [] (modules_of chosen)) (roots_of roots))
    (fold_extends (named (named [] (modules_of chosen)) (roots_of roots)) lists))

-- ---- flags at their places

module _ {A : Type 0} (d : A) where
  -- from a place on the list goes on with these
  abbrev pub Follow : List A → ℕ → List A → Type 0
  Follow xs place [] = ⊤
  Follow xs place (y ∷ ys) = (unwrap_or (slice_get xs place) d ≡ y) × Follow xs (place + 1) ys

  at_length : (before : List A) (y : A) (ys : List A) → unwrap_or (slice_get (before ++ y ∷ ys) (length before)) d ≡ y
  at_length [] y ys = refl
  at_length (x ∷ before) y ys = at_length before y ys

  append_assoc : (xs ys zs : List A) → (xs ++ ys) ++ zs ≡ xs ++ (ys ++ zs)
  append_assoc [] ys zs = refl
  append_assoc (x ∷ xs) ys zs = ap (λ z. x ∷ z) (append_assoc xs ys zs)

  length_more : (xs : List A) (y : A) → length (xs ++ y ∷ []) ≡ length xs + 1
  length_more [] y = omega arith
  length_more (x ∷ xs) y = let h : length (xs ++ y ∷ []) ≡ length xs + 1 = length_more xs y in omega (arith, h)

  follow_from : (before ys : List A) → Follow (before ++ ys) (length before) ys
  follow_from before [] = tt
  follow_from before (y ∷ ys) =
      let later : Follow ((before ++ y ∷ []) ++ ys) (length (before ++ y ∷ [])) ys =
      follow_from (before ++ y ∷ []) ys in (
        at_length before y ys,
        subst (λ z. Follow z (length before + 1) ys) (append_assoc before (y ∷ []) ys)
            (subst (λ n. Follow ((before ++ y ∷ []) ++ ys) n ys) (length_more before y) later),
      )

  pub follow : (before ys : List A) → Follow (before ++ ys) (length before) ys
  follow = follow_from

-- ---- choices

not_listed : (chosen : List ChoiceRow) (m : Module) → list_any (module_eq m) (modules_of chosen) ≡ false
    → choice_of chosen m ≡ None
not_listed [] m h = refl
not_listed (row ∷ rows) m h = by (not_listed rows m) (module_eq m row.«module») h
  where
    by : (list_any (module_eq m) (modules_of rows) ≡ false → choice_of rows m ≡ None) → (t : Bool)
        → (t || list_any (module_eq m) (modules_of rows)) ≡ false → cond t (Some row.choice) (choice_of rows m) ≡ None
    by later true e = absurd (cc)
    by later false e = later e

other_in : (k : Module) (rows : List ChoiceRow) (row : ChoiceRow) → AreOther k (modules_of rows) → In row rows
    → module_eq k row.«module» ≡ false
other_in k [] row o h = elim h [ ]
other_in k (r ∷ rows) row o here = o.0
other_in k (r ∷ rows) row o (there h) = other_in k rows row o.1 h

pub own_choice : (chosen : List ChoiceRow) (row : ChoiceRow) → AreDistinct (modules_of chosen) → In row chosen
    → choice_of chosen row.«module» ≡ Some row.choice
own_choice [] row d h = elim h [ ]
own_choice (r ∷ rows) row d here =
    ap (λ t. cond t (Some r.choice) (choice_of rows r.«module»)) (module_itself r.«module»)
own_choice (r ∷ rows) row d (there h) = by (own_choice rows row d.1 h) (module_eq row.«module» r.«module») refl
  where
    by : choice_of rows row.«module» ≡ Some row.choice → (t : Bool) → module_eq row.«module» r.«module» ≡ t
        → choice_of (r ∷ rows) row.«module» ≡ Some row.choice
    by later true e =
        absurd (let q : row.«module» ≡ r.«module» =
        module_same row.«module» r.«module» e in let n : module_eq r.«module» row.«module» ≡ false =
        other_in r.«module» rows row d.0 h in let y : module_eq r.«module» row.«module» ≡ true =
        rw q (module_itself r.«module») in cc)
    by later false e = rw e later

module _ (known : Known) (ask : Ask) where
  abbrev rows_of : List ChoiceRow → List (List RowEdge)
  rows_of chosen = all_edges ask.configuration (projects_in known ask.repos chosen)

  abbrev edges_by : Module → Option Choice → List RowEdge
  edges_by m choice = edges_in ask.configuration (option_map (project_at known ask.repos) (coord_by m choice))

  no_row : (more : List Module) (m : Module) → row_at {A = RowEdge} more [] m ≡ []
  no_row [] m = refl
  no_row (k ∷ more) m = refl

  -- the row of a module has its edges
  pub rows_are : (chosen : List ChoiceRow) (more : List Module) (m : Module)
      → row_at (modules_of chosen ++ more) (rows_of chosen) m ≡ edges_by m (choice_of chosen m)
  rows_are [] more m = no_row more m
  rows_are (row ∷ rows) more m = by (rows_are rows more m) (module_eq m row.«module») refl
    where
      by : row_at (modules_of rows ++ more) (rows_of rows) m ≡ edges_by m (choice_of rows m) → (t : Bool)
          → module_eq m row.«module» ≡ t
          → cond t (edges_in ask.configuration (project_in known ask.repos row))
          (row_at (modules_of rows ++ more) (rows_of rows) m)
          ≡ edges_by m (cond t (Some row.choice) (choice_of rows m))
      by later true e = let q : m ≡ row.«module» =
          module_same m row.«module» e in ap (λ z. edges_by z (Some row.choice)) (sym q)
      by later false e = later

  module _ (chosen : List ChoiceRow) where
    abbrev whole : Graph Module RowEdge ExclSet
    whole = graph known ask chosen

    pub lawful : SetLaws → Lawful (graph known ask chosen)
    lawful laws = record { decides = module_same; itself = module_itself; bars_join = laws.either }

    listed_edges : (k : Module) (e : RowEdge) → In e (edges known ask chosen k)
        → list_any (module_eq k) (modules_of chosen) ≡ true
    listed_edges k e m = by (list_any (module_eq k) (modules_of chosen)) refl
      where
        by : (t : Bool) → list_any (module_eq k) (modules_of chosen) ≡ t → list_any (module_eq k) (modules_of chosen)
            ≡ true
        by true q = q
        by false q = let none : In e (edges_by k None) =
            subst (λ z. In e (edges_by k z)) (not_listed chosen k q) m in elim none [ ]

    pub has_edges : HasEdges (graph known ask chosen) (modules_of chosen)
    has_edges = record { has = listed_edges }

    or_true : (s t : Bool) → s ≡ true → (s || t) ≡ true
    or_true s t h = rw h refl

    has_edges_too : (more : List Module) → HasEdges (graph known ask chosen) (modules_of chosen ++ more)
    has_edges_too more =
        record {
          has = λ k e m. has-append (modules_of chosen) more k
              ∙ or_true (has (modules_of chosen) k) (has more k) (listed_edges k e m);
        }

    root_steps : (excludes : List Exclusion) (place : ℕ) (roots : List Coord)
        → map (λ (c : Coord). record { target = c.«module»; excludes = record { rules = excludes } }) roots
        ≡ map step_of (root_edges excludes place roots)
    root_steps excludes place [] = refl
    root_steps excludes place (c ∷ roots) =
        ap (λ z. record { target = c.«module»; excludes = record { rules = excludes } } ∷ z)
        (root_steps excludes (place + 1) roots)

    -- the graph that is seen is the whole one, by targets and exclusions
    graph_seen : (more : List Module) → seen_graph (modules_of chosen ++ more) ask.excludes ask.roots (rows_of chosen)
        ≡ step_graph (map step_of (root_edges ask.excludes 0 ask.roots)) (λ m. map step_of (edges known ask chosen m))
    graph_seen more =
        ap (λ z. step_graph z (λ m. map step_of (row_at (modules_of chosen ++ more) (rows_of chosen) m)))
        (root_steps ask.excludes 0 ask.roots)
        ∙ ap (λ z. step_graph (map step_of (root_edges ask.excludes 0 ask.roots)) z)
        (fun_ext (λ m. ap (map step_of) (rows_are chosen more m)))

    kept_filter : (test : Step → Bool) (flags : List Bool) (place : ℕ) (es : List RowEdge)
        → Follow false flags place (map test (map step_of es))
        → kept_from flags place es ≡ filter (λ e. test (step_of e)) es
    kept_filter test flags place [] h = refl
    kept_filter test flags place (e ∷ es) h = ap (λ t. kept_if t e ++ kept_from flags (place + 1) es) h.0
        ∙ by (kept_filter test flags (place + 1) es h.1) (test (step_of e))
      where
        by : kept_from flags (place + 1) es ≡ filter (λ z. test (step_of z)) es → (t : Bool)
            → kept_if t e ++ kept_from flags (place + 1) es
            ≡ cond t (e ∷ filter (λ z. test (step_of z)) es) (filter (λ z. test (step_of z)) es)
        by later true = ap (λ z. e ∷ z) later
        by later false = later

    module _ (laws : SetLaws) (distinct : AreDistinct (modules_of chosen)) (more : List Module) where
      abbrev names : List Module
      names = modules_of chosen ++ more

      abbrev plain : Graph Module Step ExclSet
      plain = step_graph (map step_of (root_edges ask.excludes 0 ask.roots))
          (λ m. map step_of (edges known ask chosen m))

      abbrev flags : Module → List Bool
      flags m = map (is_followed plain (live_paths plain (length names)) m) (map step_of (edges known ask chosen m))

      one_kept : (m : Module) → kept (edges known ask chosen m) (flags m)
          ≡ followed (graph known ask chosen) (live_paths (graph known ask chosen) (length (modules_of chosen))) m
      one_kept m =
          kept_filter (is_followed plain (live_paths plain (length names)) m) (flags m) 0 (edges known ask chosen m)
          (follow false [] (flags m))
          ∙ filter_same _ _ (edges known ask chosen m)
          (λ e i. followed_seen target_of exclusions_of (root_edges ask.excludes 0 ask.roots) (edges known ask chosen)
          (length names) m e
          ∙ followed_any (graph known ask chosen) (lawful laws) names (modules_of chosen)
          (has_edges_too more) has_edges m e)

      own_edges : (row : ChoiceRow) → In row chosen → edges_in ask.configuration (project_in known ask.repos row)
          ≡ edges known ask chosen row.«module»
      own_edges row i = ap (edges_by row.«module») (sym (own_choice chosen row distinct i))

      rows_kept : (all_flags : List (List Bool)) (place : ℕ) (rows : List ChoiceRow)
          → ((row : ChoiceRow) → In row rows → In row chosen)
          → Follow [] all_flags place (map flags (modules_of rows ++ more))
          → all_kept_from all_flags place (rows_of rows)
          ≡ flat_map
          (followed (graph known ask chosen) (live_paths (graph known ask chosen) (length (modules_of chosen))))
          (modules_of rows)
      rows_kept all_flags place [] all h = refl
      rows_kept all_flags place (row ∷ rows) all h =
          ap (λ z. kept (edges_in ask.configuration (project_in known ask.repos row)) z
          ++ all_kept_from all_flags (place + 1) (rows_of rows)) h.0
          ∙ ap (λ z. z ++ all_kept_from all_flags (place + 1) (rows_of rows))
          (ap (λ z. kept z (flags row.«module»)) (own_edges row (all row here)) ∙ one_kept row.«module»)
          ∙ ap (λ z. followed (graph known ask chosen)
          (live_paths (graph known ask chosen) (length (modules_of chosen))) row.«module» ++ z)
          (rows_kept all_flags (place + 1) rows (λ r i. all r (there i)) h.1)

      pub last_seen : seen_last names ask.excludes ask.roots (rows_of chosen) ≡ last_ones known ask chosen
      last_seen =
          ap (λ z. root_edges ask.excludes 0 ask.roots ++ all_kept (rows_of chosen) (followed_by z names))
          (graph_seen more)
          ∙ ap (λ z. root_edges ask.excludes 0 ask.roots ++ z)
          (rows_kept (map flags names) 0 chosen (λ row i. i) (follow [] [] (map flags names)))

    -- what the walk over the names of an ask finds
    pub seen_is_last : SetLaws → AreDistinct (modules_of chosen)
        → seen_last (names_of chosen ask.roots (rows_of chosen)) ask.excludes ask.roots (rows_of chosen)
        ≡ last_ones known ask chosen
    seen_is_last laws distinct =
        let longer : Extends (modules_of chosen) (names_of chosen ask.roots (rows_of chosen)) =
        names_extend chosen ask.roots (rows_of chosen) distinct in
        ap (λ z. seen_last z ask.excludes ask.roots (rows_of chosen)) longer.is ∙ last_seen laws distinct longer.more
