-- A round rests on the projects of its BOMs and of the ends of its live paths alone.
use Rattle.std.proofs.Common.{◌≡◌, ℕ, ◌+◌, ◌-◌, ◌≤◌, zero, suc, Bool, true, false, cond, ◌||◌, Option, None, Some, List, [], ◌∷◌, ◌++◌, length, map, refl, sym, ◌∙◌, ap, subst, arith}
use Rattle.std.specs.Prelude.{fold, slice_get, unwrap_or}
use Rattle.std.specs.List.{flat_map, list_any, position_from}
use Rattle.std.specs.Option.{option_map}
use Rattle.res_base.specs.Known.{Known}
use Rattle.res_base.specs.Names.{module_eq}
use Rattle.res_base.specs.declared.coord.Coord.{Coord}
use Rattle.res_base.specs.declared.coord.Module.{Module}
use Rattle.res_base.specs.declared.pom.Exclusion.{Exclusion}
use Rattle.exclusion_sets.specs.declared.excl_set.ExclSet.{ExclSet}
use Rattle.live_walk.specs.Graphs.{In, here, there}
use Rattle.live_walk.specs.Paths.{Way, live_paths}
use Rattle.live_walk.proofs.Answered.{live_last}
use Rattle.live_walk.proofs.Enumerated.{live_from}
use Rattle.live_walk.proofs.Members.{in_front}
use Rattle.live_walk.proofs.Modules.{SetLaws, module_same}
use Rattle.resolution.specs.declared.ask.Ask.{Ask}
use Rattle.resolution.specs.declared.choices.ChoiceRow.{ChoiceRow}
use Rattle.resolution.specs.declared.progress.Walk.TheVariants as walks
use Rattle.round_core.specs.Choices.{choice_of, chosen_coord, coord_by, modules_of}
use Rattle.round_core.specs.Edges.{edges, edges_in, graph, last_ones, root_edges, target_of}
use Rattle.round_core.specs.Needs.{at_end, is_open, keys_in, open_keys, waits_in, with_bom, with_end, with_keys}
use Rattle.round_core.specs.Projects.{project_at, project_in, projects_in}
use Rattle.round_core.specs.Reaching.{by_number, project_for, reached_of}
use Rattle.round_core.specs.Requests.{request_rows}
use Rattle.round_core.specs.Rounds.{walk_by, walk_of}
use Rattle.round_core.specs.Steering as steering
use Rattle.round_core.specs.declared.edges.RowEdge.{RowEdge}
use Rattle.round_core.specs.declared.projects.ChosenProject.{ChosenProject}
use Rattle.round_core.specs.declared.reach.Reached.{Reached}
use Rattle.round_core.proofs.Named.{place_from}
use Rattle.round_core.proofs.SamePaths.{last_edges_same}
use Rattle.round_core.proofs.Seen.{has_edges, lawful}

-- ---- folds and tests of members

pub fold_on : {A B : Type 0} (f h : B → A → B) (xs : List A) → ((b : B) (x : A) → In x xs → f b x ≡ h b x) → (b : B)
    → fold f b xs ≡ fold h b xs
fold_on f h [] e b = refl
fold_on f h (x ∷ xs) e b = ap (λ z. fold f z xs) (e b x here) ∙ fold_on f h xs (λ c y m. e c y (there m)) (h b x)

pub any_on : {A : Type 0} (p q : A → Bool) (xs : List A) → ((x : A) → In x xs → p x ≡ q x)
    → list_any p xs ≡ list_any q xs
any_on p q [] e = refl
any_on p q (x ∷ xs) e = let a : p x ≡ q x = e x here in let b : list_any p xs ≡ list_any q xs =
    any_on p q xs (λ y m. e y (there m)) in rw (a, b) refl

-- ---- the project of a module, by its number or by its choice

module _ (known : Known) (repos : ℕ) where
  abbrev from_place : ℕ → List (Option ChosenProject) → Option ℕ → Option ChosenProject
  from_place i projects None = None
  from_place i projects (Some place) = unwrap_or (slice_get projects (place - i)) None

  by_place : (i : ℕ) (m : Module) (chosen : List ChoiceRow)
      → from_place i (projects_in known repos chosen) (position_from (module_eq m) i (modules_of chosen))
      ≡ option_map (project_at known repos) (coord_by m (choice_of chosen m))
  by_place i m [] = refl
  by_place i m (row ∷ rows) =
      by (by_place (i + 1) m rows) (place_from (module_eq m) (i + 1) (modules_of rows)) (module_eq m row.«module») refl
    where
      found : (place : Option ℕ) → place ≡ Some i
          → from_place i (project_in known repos row ∷ projects_in known repos rows) place ≡ project_in known repos row
      found place e = let none : i - i ≡ 0 =
          omega arith in rw e
          (ap (λ n. unwrap_or (slice_get (project_in known repos row ∷ projects_in known repos rows) n) None) none)

      later : (o : Option ℕ) → ((place : ℕ) → o ≡ Some place → i + 1 ≤ place)
          → from_place i (project_in known repos row ∷ projects_in known repos rows) o
          ≡ from_place (i + 1) (projects_in known repos rows) o
      later None low = refl
      later (Some place) low =
          let l : i + 1 ≤ place = low place refl in
          let next : place - i ≡ suc (place - (i + 1)) = omega (arith, l) in
          ap (λ n. unwrap_or (slice_get (project_in known repos row ∷ projects_in known repos rows) n) None) next

      by : from_place (i + 1) (projects_in known repos rows) (position_from (module_eq m) (i + 1) (modules_of rows))
          ≡ option_map (project_at known repos) (coord_by m (choice_of rows m))
          → ((place : ℕ) → position_from (module_eq m) (i + 1) (modules_of rows) ≡ Some place → i + 1 ≤ place)
          → (t : Bool) → module_eq m row.«module» ≡ t
          → from_place i (project_in known repos row ∷ projects_in known repos rows)
          (cond t (Some i) (position_from (module_eq m) (i + 1) (modules_of rows)))
          ≡ option_map (project_at known repos) (coord_by m (cond t (Some row.choice) (choice_of rows m)))
      by behind low true e = let q : m ≡ row.«module» = module_same m row.«module» e in found (Some i) refl
          ∙ ap (λ z. option_map (project_at known repos) (coord_by z (Some row.choice))) (sym q)
      by behind low false e = later (position_from (module_eq m) (i + 1) (modules_of rows)) low ∙ behind

  from_zero : (projects : List (Option ChosenProject)) (o : Option ℕ) → by_number projects o ≡ from_place 0 projects o
  from_zero projects None = refl
  from_zero projects (Some place) = let same : place - 0 ≡ place =
      omega arith in ap (λ n. unwrap_or (slice_get projects n) None) (sym same)

pub project_is : (known : Known) (ask : Ask) (chosen : List ChoiceRow) (m : Module)
    → project_for (reached_of known ask chosen) m ≡ option_map (project_at known ask.repos) (chosen_coord chosen m)
project_is known ask chosen m =
    from_zero known ask.repos (projects_in known ask.repos chosen) (position_from (module_eq m) 0 (modules_of chosen))
    ∙ by_place known ask.repos 0 m chosen

-- ---- the same at the BOMs and at the ends

pub record SameEnds (f g : Known) (ask : Ask) (chosen : List ChoiceRow) : Type 0 where
  pub boms : (reached_of g ask chosen).boms ≡ (reached_of f ask chosen).boms
  pub ends : (e : RowEdge) → In e (last_ones f ask chosen) → at_end (reached_of g ask chosen) e
      ≡ at_end (reached_of f ask chosen) e

-- each root is at the end of an edge
root_end : (excludes : List Exclusion) (place : ℕ) (roots : List Coord) (c : Coord) → In c roots
    → (e : RowEdge) × In e (root_edges excludes place roots) × (target_of e ≡ c.«module»)
root_end excludes place [] c h = elim h [ ]
root_end excludes place (d ∷ roots) c here = (_, here, refl)
root_end excludes place (d ∷ roots) c (there h) =
    let r : (e : RowEdge) × In e (root_edges excludes (place + 1) roots) × (target_of e ≡ c.«module») =
    root_end excludes (place + 1) roots c h in (r.0, there r.1, r.2)

module _ (laws : SetLaws) (f g : Known) (ask : Ask) (chosen : List ChoiceRow) (same : SameEnds f g ask chosen) where
  abbrev before : Reached
  before = reached_of f ask chosen

  abbrev after : Reached
  after = reached_of g ask chosen

  edges_same : (e : RowEdge) → In e (last_ones f ask chosen) → edges g ask chosen (target_of e)
      ≡ edges f ask chosen (target_of e)
  edges_same e m =
      ap (edges_in ask.configuration) (sym (project_is g ask chosen (target_of e)) ∙ same.ends e m
      ∙ project_is f ask chosen (target_of e))

  pub last_same : last_ones g ask chosen ≡ last_ones f ask chosen
  last_same =
      last_edges_same (graph f ask chosen) (edges g ask chosen) module_same (modules_of chosen)
      (λ p m. edges_same p.last
      (live_last (graph f ask chosen) (lawful f ask chosen laws) (modules_of chosen) (has_edges f ask chosen)
      (live_from (graph f ask chosen) (length (modules_of chosen)) p m)))

  pub open_same : is_open (reached_of g ask chosen) ≡ is_open (reached_of f ask chosen)
  open_same =
      ap (λ z. list_any (λ (project : ChosenProject). waits_in (Some project)) z
      || list_any (λ (e : RowEdge). waits_in (at_end (reached_of g ask chosen) e)) (last_ones g ask chosen))
      same.boms
      ∙ ap (λ z. list_any (λ (project : ChosenProject). waits_in (Some project)) (reached_of f ask chosen).boms
      || list_any (λ (e : RowEdge). waits_in (at_end (reached_of g ask chosen) e)) z) last_same
      ∙ ap (λ z. list_any (λ (project : ChosenProject). waits_in (Some project)) (reached_of f ask chosen).boms || z)
      (any_on _ _ (last_ones f ask chosen) (λ e m. ap waits_in (same.ends e m)))

  pub keys_same : open_keys (reached_of g ask chosen) ≡ open_keys (reached_of f ask chosen)
  keys_same =
      ap (λ z. fold (with_end (reached_of g ask chosen)) (fold with_bom [] z) (last_ones g ask chosen)) same.boms
      ∙ ap (λ z. fold (with_end (reached_of g ask chosen)) (fold with_bom [] (reached_of f ask chosen).boms) z)
      last_same
      ∙ fold_on (with_end (reached_of g ask chosen)) (with_end (reached_of f ask chosen)) (last_ones f ask chosen)
      (λ keys e m. ap (λ z. with_keys keys (keys_in z)) (same.ends e m))
      (fold with_bom [] (reached_of f ask chosen).boms)

  root_same : (c : Coord) → In c ask.roots → project_for (reached_of g ask chosen) c.«module»
      ≡ project_for (reached_of f ask chosen) c.«module»
  root_same c m =
      let r : (e : RowEdge) × In e (root_edges ask.excludes 0 ask.roots) × (target_of e ≡ c.«module») =
      root_end ask.excludes 0 ask.roots c m in
      subst (λ z. project_for (reached_of g ask chosen) z ≡ project_for (reached_of f ask chosen) z) r.2
      (same.ends r.0 (in_front _ r.1))

  pub steer_same : steering.steer ask.roots (reached_of g ask chosen)
      ≡ steering.steer ask.roots (reached_of f ask chosen)
  steer_same =
      ap (λ z. fold (steering.with_root (reached_of g ask chosen)) (fold steering.with_bom [] z) ask.roots) same.boms
      ∙ fold_on (steering.with_root (reached_of g ask chosen)) (steering.with_root (reached_of f ask chosen)) ask.roots
      (λ versions c m. ap (steering.with_project versions) (root_same c m))
      (fold steering.with_bom [] (reached_of f ask chosen).boms)

  pub rows_same : request_rows ask.roots (steering.steer ask.roots (reached_of g ask chosen)) (last_ones g ask chosen)
      ≡ request_rows ask.roots (steering.steer ask.roots (reached_of f ask chosen)) (last_ones f ask chosen)
  rows_same = ap (λ z. request_rows ask.roots z (last_ones g ask chosen)) steer_same
      ∙ ap (request_rows ask.roots (steering.steer ask.roots (reached_of f ask chosen))) last_same

  by_open : (t : Bool) → walk_by t ask.roots (reached_of g ask chosen) ≡ walk_by t ask.roots (reached_of f ask chosen)
  by_open true = ap walks.Needs keys_same
  by_open false = ap walks.Requests rows_same

  pub walk_same : walk_of g ask chosen ≡ walk_of f ask chosen
  walk_same = ap (λ t. walk_by t ask.roots (reached_of g ask chosen)) open_same
      ∙ by_open (is_open (reached_of f ask chosen))
