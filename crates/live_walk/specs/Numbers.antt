-- The graph of the code, whose modules are numbered.
use Rattle.std.specs.Prelude.{◌≡◌, ⊤, ℕ, ◌<◌, Bool, false, not, ◌==◌, List, [], ◌∷◌, All, filter, length, map, slice_get, slice_index_or, unwrap_or, if◌then◌else◌}
use Rattle.std.specs.List.{list_any}
use Rattle.res_base.specs.Builders.{module_of}
use Rattle.res_base.specs.Names.{module_eq}
use Rattle.res_base.specs.declared.coord.Module.{Module}
use Rattle.exclusion_sets.specs.Exclusions.{is_excluded, join_of}
use Rattle.live_walk.specs.declared.least.LeastSets.{LeastSets}
use Rattle.exclusion_sets.specs.declared.excl_set.ExclSet.{ExclSet}
use Rattle.live_walk.specs.Graphs.{Graph}
use Rattle.live_walk.specs.Paths.{is_followed, live_paths}
use Rattle.live_walk.specs.Walks.{Item, State}
use Rattle.live_walk.specs.declared.hop.Hop.{Hop}
use Rattle.live_walk.specs.declared.walk.Work.{Work}

-- an edge, as far as live paths go: the module that it leads to, and what it excludes from there on
pub record Step : Type 0 where
  pub target : Module
  pub excludes : ExclSet

abbrev pub edge_graph : {E : Type 0} → (E → Module) → (E → ExclSet) → List E → (Module → List E)
    → Graph Module E ExclSet
edge_graph target excludes roots out =
    record {
      roots = roots;
      out = out;
      target = target;
      excludes = excludes;
      join = join_of;
      bars = is_excluded;
      same = module_eq;
    }

abbrev pub step_graph : List Step → (Module → List Step) → Graph Module Step ExclSet
step_graph = edge_graph (λ (e : Step). e.target) (λ (e : Step). e.excludes)

-- a graph whose edges are seen so
abbrev pub seen_by : {E : Type 0} → (E → Module) → (E → ExclSet) → E → Step
seen_by target excludes e = record { target = target e; excludes = excludes e }

abbrev pub seen_as : {E : Type 0} → (E → Module) → (E → ExclSet) → List E → (Module → List E)
    → Graph Module Step ExclSet
seen_as target excludes roots out =
    step_graph (map (seen_by target excludes) roots) (λ m. map (seen_by target excludes) (out m))

abbrev pub module_at : List Module → ℕ → Module
module_at modules place = slice_index_or modules place (module_of [] [])

-- the row of a module, where the modules stand beside the rows
abbrev pub row_at : {A : Type 0} → List Module → List (List A) → Module → List A
row_at [] rows m = []
row_at (k ∷ modules) [] m = []
row_at (k ∷ modules) (row ∷ rows) m = if module_eq m k then row else row_at modules rows m

-- no module stands twice
abbrev pub AreOther : Module → List Module → Type 0
AreOther k [] = ⊤
AreOther k (m ∷ modules) = (module_eq k m ≡ false) × AreOther k modules

abbrev pub AreDistinct : List Module → Type 0
AreDistinct [] = ⊤
AreDistinct (k ∷ modules) = AreOther k modules × AreDistinct modules

abbrev pub root_step : List Module → ExclSet → ℕ → Step
root_step modules excluded to = record { target = module_at modules to; excludes = excluded }

abbrev pub hop_step : List Module → Hop → Step
hop_step modules hop = record { target = module_at modules hop.to; excludes = hop.excluded }

-- the edges of each module
abbrev pub out_of : List Module → List (List Hop) → Module → List Step
out_of modules out m = map (hop_step modules) (row_at modules out m)

-- without its roots
abbrev pub out_graph : List Module → List (List Hop) → Graph Module Step ExclSet
out_graph modules out = step_graph [] (out_of modules out)

abbrev pub hop_graph : List Module → ExclSet → List ℕ → List (List Hop) → Graph Module Step ExclSet
hop_graph modules excluded roots out = step_graph (map (root_step modules excluded) roots) (out_of modules out)

-- whether each edge of each module is the last one of a live path
abbrev pub followed_by : Graph Module Step ExclSet → List Module → List (List Bool)
followed_by g modules = map (λ k. map (is_followed g (live_paths g (length modules)) k) (g.out k)) modules

-- what edges do to a state depends on none of the graph's own edges
abbrev pub bare_graph : Graph Module Step ExclSet
bare_graph = step_graph [] (λ m. [])

-- The state of the code.

abbrev pub sets_of : List LeastSets → List (List ExclSet)
sets_of table = map (λ (kept : LeastSets). kept.sets) table

abbrev pub item_of : List Module → Work → Item Module ExclSet
item_of modules work = record { place = module_at modules work.place; set = work.set }

abbrev pub table_of : List Module → List LeastSets → Module → List ExclSet
table_of modules table = row_at modules (sets_of table)

abbrev pub state_of : List Module → List LeastSets → List Work → State Module ExclSet
state_of modules table next = record { table = table_of modules table; next = map (item_of modules) next }

-- the modules are among so many
abbrev pub AreHops : ℕ → List Hop → Type 0
AreHops count hops = All (λ (hop : Hop). hop.to < count) hops

abbrev pub AreWork : ℕ → List Work → Type 0
AreWork count work = All (λ (item : Work). item.place < count) work

-- which edges of each module some kept set does not bar
abbrev pub lets_row : List Module → List Hop → List ExclSet → List Bool
lets_row modules hops sets =
    map (λ (hop : Hop). list_any (λ set. not (is_excluded set (module_at modules hop.to))) sets) hops

abbrev pub lets_of : List Module → List (List Hop) → List (List ExclSet) → List (List Bool)
lets_of modules [] table = []
lets_of modules (hops ∷ out) [] = []
lets_of modules (hops ∷ out) (sets ∷ table) = lets_row modules hops sets ∷ lets_of modules out table

-- The edges that paths can go on behind: a path over another edge ends there.

abbrev pub hops_at : List (List Hop) → ℕ → List Hop
hops_at out place = unwrap_or (slice_get out place) []

abbrev pub goes_on : List (List Hop) → ℕ → Bool
goes_on out place = not (length (hops_at out place) == 0)

abbrev pub inner_hops : List (List Hop) → List Hop → List Hop
inner_hops out hops = filter (λ (hop : Hop). goes_on out hop.to) hops

abbrev pub inner_out : List (List Hop) → List (List Hop)
inner_out out = map (inner_hops out) out
