-- How many projects are built at the least.
use Rattle.std.proofs.Common.{◌≡◌, ◌≤◌, ◌+◌, ℕ, zero, suc, Bool, true, false, cond, ◌||◌, Option, None, Some, List, [], ◌∷◌, ◌++◌, filter, length, map, refl, sym, ◌∙◌, ap, subst, arith, sum_by}
use Rattle.std.specs.List.{list_any}
use Rattle.std.proofs.lemmas.List.Sums.{sum_by-cons}
use Rattle.std.specs.Option.{option_map}
use Rattle.live_walk.specs.Graphs.{In, here, there}
use Rattle.live_walk.specs.Numbers.{AreDistinct, AreOther}
use Rattle.live_walk.proofs.Distinct.{Distinct, no_more, none, one_more}
use Rattle.live_walk.proofs.Members.{Passed, any_from_in, from_filter}
use Rattle.live_walk.proofs.Modules.{module_itself, module_same}
use Rattle.pom_build.specs.Effectives.{steps_of}
use Rattle.pom_build.specs.declared.build.Build.{Build}
use Rattle.pom_build.specs.declared.build.Build.TheVariants.{Built, Needs, NotFound, Refused}
use Rattle.res_base.specs.Known.{Known}
use Rattle.res_base.specs.Names.{module_eq}
use Rattle.res_base.specs.declared.coord.Module.{Module}
use Rattle.resolution.specs.declared.ask.Ask.{Ask}
use Rattle.resolution.specs.declared.choices.Choice.{Choice}
use Rattle.resolution.specs.declared.choices.ChoiceRow.{ChoiceRow}
use Rattle.round_core.specs.Choices.{choice_of, chosen_coord, coord_by, coord_in, modules_of}
use Rattle.round_core.specs.Counts.{built_count, is_built, is_built_in}
use Rattle.round_core.specs.Edges.{last_ones, target_of}
use Rattle.round_core.specs.Projects.{project_at, project_in, projects_in, steps_in}
use Rattle.round_core.specs.Reaching.{project_for, reached_of}
use Rattle.round_core.specs.Tables.{named}
use Rattle.round_core.specs.declared.projects.ChosenProject.{ChosenProject}
use Rattle.round_core.proofs.Ends.{project_is}
use Rattle.round_core.proofs.Named.{distinct_named}

-- distinct modules, as a list of each once
none_other : (k : Module) (modules : List Module) → AreOther k modules → list_any (module_eq k) modules ≡ false
none_other k [] o = refl
none_other k (m ∷ modules) o = rw o.0 (none_other k modules o.1)

pub as_distinct : (modules : List Module) → AreDistinct modules → Distinct module_eq module_same module_itself modules
as_distinct [] d = none
as_distinct (m ∷ modules) d = one_more (none_other m modules d.0) (as_distinct modules d.1)

filter_other : (test : Module → Bool) (k : Module) (modules : List Module) → AreOther k modules
    → AreOther k (filter test modules)
filter_other test k [] o = tt
filter_other test k (m ∷ modules) o = by (filter_other test k modules o.1) (test m)
  where
    by : AreOther k (filter test modules) → (t : Bool)
        → AreOther k (cond t (m ∷ filter test modules) (filter test modules))
    by rest true = (o.0, rest)
    by rest false = rest

filter_distinct : (test : Module → Bool) (modules : List Module) → AreDistinct modules
    → AreDistinct (filter test modules)
filter_distinct test [] d = tt
filter_distinct test (m ∷ modules) d = by (filter_distinct test modules d.1) (test m)
  where
    by : AreDistinct (filter test modules) → (t : Bool)
        → AreDistinct (cond t (m ∷ filter test modules) (filter test modules))
    by rest true = (filter_other test m modules d.0, rest)
    by rest false = rest

-- ---- the built projects of rows

module _ (known : Known) (repos : ℕ) where
  abbrev built_row : ChoiceRow → Bool
  built_row row = is_built_in (project_in known repos row)

  abbrev built_modules : List ChoiceRow → List Module
  built_modules rows = modules_of (filter built_row rows)

  one_step : (project : Option ChosenProject) → cond (is_built_in project) 1 0 ≡ steps_in project
  one_step None = refl
  one_step (Some project) = by project.build
    where
      by : (build : Build) → cond (is_built build) 1 0 ≡ steps_of build
      by (Built effective) = refl
      by (Needs keys) = refl
      by (NotFound why) = refl
      by (Refused fault) = refl

  -- as many as steps
  pub built_steps : (rows : List ChoiceRow)
      → length (built_modules rows) ≡ sum_by steps_in (projects_in known repos rows)
  built_steps [] = refl
  built_steps (row ∷ rows) =
      by (is_built_in (project_in known repos row)) (one_step (project_in known repos row)) (built_steps rows)
      ∙ sym (sum_by-cons steps_in (project_in known repos row) (projects_in known repos rows))
    where
      by : (t : Bool) → cond t 1 0 ≡ steps_in (project_in known repos row)
          → length (built_modules rows) ≡ sum_by steps_in (projects_in known repos rows)
          → length (modules_of (cond t (row ∷ filter built_row rows) (filter built_row rows)))
          ≡ steps_in (project_in known repos row) + sum_by steps_in (projects_in known repos rows)
      by true step later = omega (arith, step, later)
      by false step later = omega (arith, step, later)

  -- a module whose chosen project is built is one of them
  pub built_listed : (rows : List ChoiceRow) (m : Module)
      → is_built_in (option_map (project_at known repos) (coord_by m (choice_of rows m))) ≡ true
      → list_any (module_eq m) (built_modules rows) ≡ true
  built_listed [] m h = absurd (cc)
  built_listed (row ∷ rows) m h = by (built_listed rows m) (module_eq m row.«module») refl h
    where
      or_later : (s t : Bool) → t ≡ true → (s || t) ≡ true
      or_later true t e = refl
      or_later false t e = e

      more : (t : Bool) → list_any (module_eq m) (built_modules rows) ≡ true
          → list_any (module_eq m) (modules_of (cond t (row ∷ filter built_row rows) (filter built_row rows))) ≡ true
      more true k = or_later (module_eq m row.«module») (list_any (module_eq m) (built_modules rows)) k
      more false k = k

      by : (is_built_in (option_map (project_at known repos) (coord_by m (choice_of rows m))) ≡ true
          → list_any (module_eq m) (built_modules rows) ≡ true) → (t : Bool) → module_eq m row.«module» ≡ t
          → is_built_in (option_map (project_at known repos) (coord_by m (cond t (Some row.choice) (choice_of rows m))))
          ≡ true → list_any (module_eq m) (built_modules (row ∷ rows)) ≡ true
      by later true e k =
          let q : m ≡ row.«module» = module_same m row.«module» e in
          let b : built_row row ≡ true =
          subst (λ z. is_built_in (option_map (project_at known repos) (coord_by z (Some row.choice)))
          ≡ true) q k in
          rw b (rw e refl)
      by later false e k = more (built_row row) (later k)

-- the modules at ends of live paths that are built are no more than the steps
pub built_few : (known : Known) (ask : Ask) (chosen : List ChoiceRow)
    → built_count known ask chosen ≤ sum_by steps_in (projects_in known ask.repos chosen)
built_few known ask chosen =
    let test : Module → Bool = λ m. is_built_in (project_for (reached_of known ask chosen) m) in
    let ends : List Module = named [] (map target_of (last_ones known ask chosen)) in
    let distinct : AreDistinct (filter test ends) =
    filter_distinct test ends (distinct_named [] (map target_of (last_ones known ask chosen)) tt) in
    let few : length (filter test ends) ≤ length (built_modules known ask.repos chosen) =
    no_more module_eq module_same module_itself (as_distinct (filter test ends) distinct)
    (built_modules known ask.repos chosen)
    (λ m i.
    let p : Passed test m ends = from_filter test m ends i in
    built_listed known ask.repos chosen m (subst (λ z. is_built_in z ≡ true) (project_is known ask chosen m) p.passes))
    in
    subst (λ n. length (filter test ends) ≤ n) (built_steps known ask.repos chosen) few
