-- The numbers of modules in a walk.
use Rattle.std.proofs.Common.{◌≡◌, ◌<◌, ◌≤◌, ◌+◌, ◌-◌, ℕ, zero, suc, Bool, true, false, cond, Option, None, Some, List, [], ◌∷◌, ◌++◌, length, map, refl, sym, ◌∙◌, ap, subst, arith}
use Rattle.std.specs.Prelude.{◌||◌, fold, get_or, replicate, slice_index_or}
use Rattle.std.specs.List.{list_any, position_from}
use mathlib.Core.Path.{fun_ext}
use Rattle.exclusion_sets.specs.declared.excl_set.ExclSet.{ExclSet}
use Rattle.live_walk.specs.Numbers.{AreDistinct, Step, hop_graph, hop_step, module_at, root_step, row_at, step_graph}
use Rattle.live_walk.specs.declared.hop.Hop.{Hop}
use Rattle.res_base.specs.Names.{module_eq}
use Rattle.res_base.specs.declared.coord.Coord.{Coord}
use Rattle.res_base.specs.declared.coord.Module.{Module}
use Rattle.res_base.specs.declared.pom.Exclusion.{Exclusion}
use Rattle.resolution.specs.declared.choices.ChoiceRow.{ChoiceRow}
use Rattle.round_core.specs.Choices.{modules_of}
use Rattle.round_core.specs.Edges.{target_of}
use Rattle.round_core.specs.Reaching.{names_of, roots_of, seen_graph, step_of, targets_of, with_targets}
use Rattle.round_core.specs.Tables.{has, named, number_in, once}
use Rattle.round_core.specs.declared.edges.RowEdge.{RowEdge}
use Rattle.round_core.proofs.Named.{Extends, at_place, distinct_named, has_named, once_has, place_in_range, some_place}
use Rattle.round_core.proofs.Seen.{names_extend}

-- ---- one module

pub record Placed (names : List Module) (m : Module) (place : ℕ) : Type 0 where
  pub at : module_at names place ≡ m
  pub below : place < length names

pub placed : (names : List Module) (m : Module) (place : ℕ) → number_in names m ≡ Some place → Placed names m place
placed names m place h =
    let below : place < 0 + length names = place_in_range (module_eq m) 0 names place h in
    let same : place ≡ 0 + place = omega arith in
    record { at = at_place m 0 names place (h ∙ ap Some same); below = omega (arith, below) }

-- ---- all names

fold_distinct : (names : List Module) (lists : List (List RowEdge)) → AreDistinct names
    → AreDistinct (fold with_targets names lists)
fold_distinct names [] d = d
fold_distinct names (list ∷ lists) d =
    fold_distinct (with_targets names list) lists (distinct_named names (targets_of list) d)

fold_has : (names : List Module) (lists : List (List RowEdge)) (m : Module) → has names m ≡ true
    → has (fold with_targets names lists) m ≡ true
fold_has names [] m h = h
fold_has names (list ∷ lists) m h = fold_has (with_targets names list) lists m (has_named names (targets_of list) m h)

pub names_distinct : (chosen : List ChoiceRow) (roots : List Coord) (lists : List (List RowEdge))
    → AreDistinct (names_of chosen roots lists)
names_distinct chosen roots lists =
    fold_distinct (named (named [] (modules_of chosen)) (roots_of roots)) lists
    (distinct_named (named [] (modules_of chosen)) (roots_of roots) (distinct_named [] (modules_of chosen) tt))

count_rows : (chosen : List ChoiceRow) → length (modules_of chosen) ≡ length chosen
count_rows [] = refl
count_rows (row ∷ rows) = ap suc (count_rows rows)

count_both : (xs ys : List Module) → length xs ≤ length (xs ++ ys)
count_both [] ys = omega arith
count_both (x ∷ xs) ys = let h : length xs ≤ length (xs ++ ys) = count_both xs ys in omega (arith, h)

pub names_count : (chosen : List ChoiceRow) (roots : List Coord) (lists : List (List RowEdge))
    → AreDistinct (modules_of chosen) → length chosen ≤ length (names_of chosen roots lists)
names_count chosen roots lists d =
    let longer : Extends (modules_of chosen) (names_of chosen roots lists) = names_extend chosen roots lists d in
    let all : length (modules_of chosen) ≤ length (modules_of chosen ++ longer.more) =
    count_both (modules_of chosen) longer.more in
    let count : length (modules_of chosen) ≡ length chosen = count_rows chosen in
    subst (λ z. length chosen ≤ length z) (sym longer.is)
    (subst (λ n. n ≤ length (modules_of chosen ++ longer.more)) count all)

root_in : (names : List Module) (roots : List Coord) (bigger : List Module)
    → ((m : Module) → has (named names (roots_of roots)) m ≡ true → has bigger m ≡ true)
    → (k : ℕ) (d : Coord) → k < length roots → has bigger (slice_index_or roots k d).«module» ≡ true
root_in names [] bigger more k d h = absurd (omega (arith, h))
root_in names (c ∷ roots) bigger more zero d h =
    more c.«module»
    (has_named (once module_eq names c.«module») (roots_of roots) c.«module» (once_has names c.«module»))
root_in names (c ∷ roots) bigger more (suc k) d h =
    root_in (once module_eq names c.«module») roots bigger more k d (omega (arith, h))

target_in : (names : List Module) (edges : List RowEdge) (bigger : List Module)
    → ((m : Module) → has (named names (targets_of edges)) m ≡ true → has bigger m ≡ true)
    → (k : ℕ) (d : RowEdge) → k < length edges → has bigger (target_of (slice_index_or edges k d)) ≡ true
target_in names [] bigger more k d h = absurd (omega (arith, h))
target_in names (e ∷ edges) bigger more zero d h =
    more (target_of e)
    (has_named (once module_eq names (target_of e)) (targets_of edges) (target_of e) (once_has names (target_of e)))
target_in names (e ∷ edges) bigger more (suc k) d h =
    target_in (once module_eq names (target_of e)) edges bigger more k d (omega (arith, h))

targets_in : (names : List Module) (lists : List (List RowEdge)) (bigger : List Module)
    → ((m : Module) → has (fold with_targets names lists) m ≡ true → has bigger m ≡ true)
    → (i : ℕ) (none : List RowEdge) → i < length lists → (k : ℕ) (d : RowEdge)
    → k < length (slice_index_or lists i none)
    → has bigger (target_of (slice_index_or (slice_index_or lists i none) k d)) ≡ true
targets_in names [] bigger more i none l k d h = absurd (omega (arith, l))
targets_in names (list ∷ lists) bigger more zero none l k d h =
    target_in names list bigger (λ m e. more m (fold_has (with_targets names list) lists m e)) k d h
targets_in names (list ∷ lists) bigger more (suc i) none l k d h =
    targets_in (with_targets names list) lists bigger more i none (omega (arith, l)) k d h

module _ (chosen : List ChoiceRow) (roots : List Coord) (lists : List (List RowEdge)) where
  pub names_roots : (k : ℕ) (d : Coord) → k < length roots
      → has (names_of chosen roots lists) (slice_index_or roots k d).«module» ≡ true
  names_roots =
      root_in (named [] (modules_of chosen)) roots (names_of chosen roots lists)
      (λ m h. fold_has (named (named [] (modules_of chosen)) (roots_of roots)) lists m h)

  pub names_targets : (i : ℕ) (none : List RowEdge) → i < length lists → (k : ℕ) (d : RowEdge)
      → k < length (slice_index_or lists i none)
      → has (names_of chosen roots lists) (target_of (slice_index_or (slice_index_or lists i none) k d)) ≡ true
  names_targets =
      targets_in (named (named [] (modules_of chosen)) (roots_of roots)) lists (names_of chosen roots lists) (λ m h. h)

-- ---- the graph of numbers

row_map : {A B : Type 0} (f : A → B) (names : List Module) (rows : List (List A)) (m : Module)
    → map f (row_at names rows m) ≡ row_at names (map (map f) rows) m
row_map f [] rows m = refl
row_map f (k ∷ names) [] m = refl
row_map f (k ∷ names) (row ∷ rows) m = by (row_map f names rows m) (module_eq m k)
  where
    by : map f (row_at names rows m) ≡ row_at names (map (map f) rows) m → (t : Bool)
        → map f (cond t row (row_at names rows m)) ≡ cond t (map f row) (row_at names (map (map f) rows) m)
    by later true = refl
    by later false = later

row_none : {A : Type 0} (names : List Module) (n : ℕ) (m : Module) → row_at {A = A} names (replicate n []) m ≡ []
row_none [] n m = refl
row_none (k ∷ names) zero m = refl
row_none {A = A} (k ∷ names) (suc n) m = by (row_none names n m) (module_eq m k)
  where
    by : row_at {A = A} names (replicate n []) m ≡ [] → (t : Bool) → cond t [] (row_at {A = A} names (replicate n []) m)
        ≡ []
    by later true = refl
    by later false = later

row_empty : {A : Type 0} (names : List Module) (m : Module) → row_at {A = A} names [] m ≡ []
row_empty [] m = refl
row_empty (k ∷ names) m = refl

row_padded : {A : Type 0} (names : List Module) (rows : List (List A)) (n : ℕ) (m : Module)
    → row_at names (rows ++ replicate n []) m ≡ row_at names rows m
row_padded [] rows n m = refl
row_padded (k ∷ names) [] n m = row_none (k ∷ names) n m
row_padded (k ∷ names) (row ∷ rows) n m = by (row_padded names rows n m) (module_eq m k)
  where
    by : row_at names (rows ++ replicate n []) m ≡ row_at names rows m → (t : Bool)
        → cond t row (row_at names (rows ++ replicate n []) m) ≡ cond t row (row_at names rows m)
    by later true = refl
    by later false = later

step_same : (names : List Module) (to : ℕ) (m : Module) → module_at names to ≡ m → (rules others : List Exclusion)
    → rules ≡ others → hop_step names (record { to = to; excluded = record { rules = rules } })
    ≡ record { target = m; excludes = record { rules = others } }
step_same names to m at rules others same =
    ap (λ (k : Module). record { target = k; excludes = record { rules = rules } }) at
    ∙ ap (λ (rs : List Exclusion). record { target = m; excludes = record { rules = rs } }) same

-- an edge whose end has a number
pub hop_is : (names : List Module) (e : RowEdge) (to : ℕ) (rules : List Exclusion) → number_in names (target_of e)
    ≡ Some to → rules ≡ e.row.exclusions → hop_step names (record { to = to; excluded = record { rules = rules } })
    ≡ step_of e
hop_is names e to rules found same =
    step_same names to (target_of e) ((placed names (target_of e) to found).at) rules e.row.exclusions same

abbrev step_to : ExclSet → Module → Step
step_to excluded m = record { target = m; excludes = excluded }

numbers_steps : (names : List Module) (excluded : ExclSet) (numbers : List ℕ) → map (root_step names excluded) numbers
    ≡ map (step_to excluded) (map (module_at names) numbers)
numbers_steps names excluded [] = refl
numbers_steps names excluded (n ∷ numbers) =
    ap (λ z. step_to excluded (module_at names n) ∷ z) (numbers_steps names excluded numbers)

roots_steps : (excluded : ExclSet) (roots : List Coord) → map (step_to excluded) (roots_of roots)
    ≡ map (λ (c : Coord). record { target = c.«module»; excludes = excluded }) roots
roots_steps excluded [] = refl
roots_steps excluded (c ∷ roots) = ap (λ z. step_to excluded c.«module» ∷ z) (roots_steps excluded roots)

pub roots_are : (names : List Module) (excluded : ExclSet) (numbers : List ℕ) (roots : List Coord)
    → map (module_at names) numbers ≡ roots_of roots → map (root_step names excluded) numbers
    ≡ map (λ (c : Coord). record { target = c.«module»; excludes = excluded }) roots
roots_are names excluded numbers roots same = numbers_steps names excluded numbers ∙ ap (map (step_to excluded)) same
    ∙ roots_steps excluded roots

pub graph_is : (names : List Module) (excluded : ExclSet) (excludes : List Exclusion) (numbers : List ℕ)
    (out : List (List Hop)) (n : ℕ) (roots : List Coord) (edges : List (List RowEdge))
    → excluded ≡ record { rules = excludes }
    → map (module_at names) numbers ≡ roots_of roots
    → map (map (hop_step names)) out ≡ map (map step_of) edges
    → hop_graph names excluded numbers (out ++ replicate n []) ≡ seen_graph names excludes roots edges
graph_is names excluded excludes numbers out n roots edges same nums outs =
    ap (λ z. hop_graph names z numbers (out ++ replicate n [])) same
    ∙ ap (λ z. step_graph z (λ m. map (hop_step names) (row_at names (out ++ replicate n []) m)))
    (roots_are names (record { rules = excludes }) numbers roots nums)
    ∙ ap (λ z.
    step_graph (map (λ (c : Coord). record { target = c.«module»; excludes = record { rules = excludes } }) roots)
    z) (fun_ext each)
  where
    each : (m : Module) → map (hop_step names) (row_at names (out ++ replicate n []) m)
        ≡ map step_of (row_at names edges m)
    each m =
        ap (map (hop_step names)) (row_padded names out n m)
        ∙ row_map (hop_step names) names out m
        ∙ ap (λ z. row_at names z m) outs
        ∙ sym (row_map step_of names edges m)
