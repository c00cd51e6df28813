-- The walk as a whole.
use Rattle.std.proofs.Common.{◌≡◌, ◌<◌, ℕ, zero, suc, Bool, true, false, not, List, [], ◌∷◌, map, length, get_or, refl, sym, ◌∙◌, ap, subst, arith}
use Rattle.std.specs.Prelude.{All, replicate}
use mathlib.Core.Path.{fun_ext}
use Rattle.std.specs.List.{list_any}
use Rattle.res_base.specs.Names.{module_eq}
use Rattle.res_base.specs.declared.coord.Module.{Module}
use Rattle.exclusion_sets.specs.Exclusions.{is_excluded, is_within}
use Rattle.live_walk.specs.declared.least.LeastSets.{LeastSets}
use Rattle.exclusion_sets.specs.declared.excl_set.ExclSet.{ExclSet}
use Rattle.live_walk.specs.Graphs.{Graph, HasEdges, In}
use Rattle.live_walk.specs.Numbers.{AreDistinct, AreHops, Step, bare_graph, followed_by, hop_graph, hop_step, inner_out, lets_of, lets_row, module_at, out_graph, out_of, root_step, row_at, sets_of, state_of, table_of}
use Rattle.live_walk.specs.Paths.{is_followed, live_paths}
use Rattle.live_walk.specs.Walks.{State, after_levels, after_roots, is_let, walked}
use Rattle.live_walk.specs.declared.hop.Hop.{Hop}
use Rattle.live_walk.proofs.Inside.{less_inside, lets_inner, more_inside}
use Rattle.live_walk.proofs.Members.{Mapped, from_map, map_same}
use Rattle.live_walk.proofs.Modules.{SetLaws, covers, lawful}
use Rattle.live_walk.proofs.Rows.{both_rows, by_rows, no_rows, row_listed}
use Rattle.live_walk.proofs.States.{length-map}

lets_rows : (modules : List Module) (out : List (List Hop)) (sets : List (List ExclSet))
    → both_rows (lets_row modules) out sets ≡ lets_of modules out sets
lets_rows modules [] sets = refl
lets_rows modules (hops ∷ out) [] = refl
lets_rows modules (hops ∷ out) (row ∷ sets) = ap (λ z. lets_row modules hops row ∷ z) (lets_rows modules out sets)

map-map : {A B C : Type 0} (f : B → C) (g : A → B) (xs : List A) → map f (map g xs) ≡ map (λ x. f (g x)) xs
map-map f g [] = refl
map-map f g (x ∷ xs) = ap (λ z. f (g x) ∷ z) (map-map f g xs)

none_at : (n place : ℕ) → get_or {A = List ExclSet} (replicate n []) place [] ≡ []
none_at zero place = refl
none_at (suc n) zero = refl
none_at (suc n) (suc place) = none_at n place

module _ (laws : SetLaws) (modules : List Module) (excluded : ExclSet) (roots : List ℕ) (out : List (List Hop)) where
  abbrev graph : Graph Module Step ExclSet
  graph = hop_graph modules excluded roots out

  has : HasEdges (hop_graph modules excluded roots out) modules
  has = record {
    has = λ k e m. let hop : Mapped (hop_step modules) e (row_at modules out k) =
        from_map (hop_step modules) e (row_at modules out k) m in row_listed modules out k hop.one hop.member;
  }

  pub whole : (made : List (List Bool)) (before after : List LeastSets)
      → made ≡ lets_of modules out (sets_of after)
      → length modules ≡ length before
      → length after ≡ length before
      → length out ≡ length modules
      → AreDistinct modules
      → All (λ hops. AreHops (length modules) hops) out
      → sets_of before ≡ replicate (length modules) []
      → table_of modules after
      ≡ (after_levels (out_graph modules (inner_out out)) is_within (length modules)
      (after_roots bare_graph is_within (state_of modules before [])
      (map (root_step modules excluded) roots))).table
      → made ≡ followed_by (hop_graph modules excluded roots out) modules
  whole made before after is same_many as_many rows apart fits empty levels =
      let none : table_of modules before ≡ (λ m. []) =
      ap (row_at modules) empty
      ∙ fun_ext (no_rows modules (replicate (length modules) []) (none_at (length modules))) in
      let table_is : table_of modules after
      ≡ (walked (hop_graph modules excluded roots (inner_out out)) is_within (length modules)).table =
      levels ∙ ap
      (λ t. (after_levels (hop_graph modules excluded roots (inner_out out)) is_within (length modules)
      (after_roots (hop_graph modules excluded roots (inner_out out)) is_within (record { table = t; next = [] })
      (map (root_step modules excluded) roots))).table) none
      in
      let many : length (sets_of after) ≡ length modules = length-map (λ (kept : LeastSets). kept.sets) after
      ∙ (as_many ∙ sym same_many) in
      let each : map (λ m. lets_row modules (row_at modules out m) (row_at modules (sets_of after) m)) modules
      ≡ lets_of modules out (sets_of after) =
      by_rows (lets_row modules) modules out (sets_of after) rows many apart ∙ lets_rows modules out (sets_of after)
      in
      let one : (m : Module) → lets_row modules (row_at modules out m) (row_at modules (sets_of after) m)
      ≡ map (is_followed (hop_graph modules excluded roots out)
      (live_paths (hop_graph modules excluded roots out) (length modules)) m) (out_of modules out m) =
      λ m.
      ap (λ t. lets_row modules (row_at modules out m) (t m)) table_is
      ∙ sym (map-map
      (is_let (hop_graph modules excluded roots out)
      (walked (hop_graph modules excluded roots (inner_out out)) is_within (length modules)).table m)
      (hop_step modules) (row_at modules out m))
      ∙ map_same _ _ (out_of modules out m)
      (λ e i.
      lets_inner (hop_graph modules excluded roots out) (out_of modules (inner_out out)) (less_inside modules out)
      (more_inside modules out rows apart fits)
      (lawful laws (map (root_step modules excluded) roots) (out_of modules out)) modules has is_within
      (covers laws (map (root_step modules excluded) roots) (out_of modules out)) m e i)
      in
      is ∙ sym each ∙ map_same _ _ modules (λ m i. one m)
