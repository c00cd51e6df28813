-- What is asked of each module, edge by edge, is what the edges that end there ask.
use Rattle.std.proofs.Common.{◌≡◌, ℕ, Bool, true, false, cond, ◌||◌, Option, None, Some, List, [], ◌∷◌, filter, map, refl, sym, ◌∙◌, ap, subst}
use Rattle.std.specs.Prelude.{fold, unwrap_or}
use Rattle.std.specs.BTreeMap.{insert_entry, is_at}
use Rattle.std.specs.List.{list_any}
use Rattle.std.specs.Map.{keys_of, lookup, remove_entry}
use Rattle.std.specs.Option.{is_some}
use Rattle.std.specs.Ordering.{is_eq, match_ordering}
use Rattle.std.specs.declared.cmp.Ordering.{Ordering}
use Rattle.std.specs.declared.cmp.Ordering.TheVariants.{Equal, Greater, Less}
use Rattle.live_walk.proofs.Modules.{module_itself, module_same}
use Rattle.res_base.specs.Names.{module_cmp, module_eq}
use Rattle.res_base.specs.declared.coord.Coord.{Coord}
use Rattle.res_base.specs.declared.coord.Module.{Module}
use Rattle.reconcile_rules.specs.declared.request.Request.{Request}
use Rattle.round_core.specs.Edges.{target_of}
use Rattle.round_core.specs.Requests.{Asked, asked_by, asks_for, request_eq, request_of, request_row, request_rows, requests_for, requests_in, row_for, rows_modules, with_edge, with_request}
use Rattle.round_core.specs.Steering.{Versions}
use Rattle.round_core.specs.Tables.{has, once}
use Rattle.round_core.specs.declared.edges.RowEdge.{RowEdge}
use Rattle.round_core.proofs.Named.{same_either_way}
use Rattle.round_core.proofs.Orders.{module_cmp_eq}

-- ---- one entry

at_itself : (m : Module) → is_at (module_cmp m) m ≡ true
at_itself m = module_cmp_eq m m ∙ module_itself m

not_at : (k m : Module) → module_eq m k ≡ false → is_at (module_cmp k) m ≡ false
not_at k m apart = module_cmp_eq k m ∙ same_either_way k m ∙ apart

same_end : (k m : Module) → module_eq m k ≡ false → (n : Module) → is_eq (module_cmp m n) ≡ true
    → is_at (module_cmp k) n ≡ false
same_end k m apart n h =
    let q : m ≡ n = module_same m n (sym (module_cmp_eq m n) ∙ h) in
    subst (λ z. is_at (module_cmp k) z ≡ false) q (not_at k m apart)

module _ {X : Type 0} where
  inserted : (m : Module) (v : X) (entries : List (Module × X))
      → lookup (is_at (module_cmp m)) (insert_entry module_cmp entries m v) ≡ Some v
  inserted m v [] = ap (λ t. cond t (Some v) None) (at_itself m)
  inserted m v (e ∷ entries) = by (inserted m v entries) (module_cmp m e.0) refl
    where
      by : lookup (is_at (module_cmp m)) (insert_entry module_cmp entries m v) ≡ Some v → (o : Ordering)
          → module_cmp m e.0 ≡ o
          → lookup (is_at (module_cmp m))
          (match_ordering o ((m, v) ∷ e ∷ entries) ((e.0, v) ∷ entries) (e ∷ insert_entry module_cmp entries m v))
          ≡ Some v
      by later Less h = ap (λ t. cond t (Some v) (lookup (is_at (module_cmp m)) (e ∷ entries))) (at_itself m)
      by later Equal h = ap (λ t. cond t (Some v) (lookup (is_at (module_cmp m)) entries)) (ap is_eq h)
      by later Greater h =
          ap (λ t. cond t (Some e.1) (lookup (is_at (module_cmp m)) (insert_entry module_cmp entries m v))) (ap is_eq h)
          ∙ later

  module _ (k m : Module) (apart : module_eq m k ≡ false) where
    not_inserted : (v : X) (entries : List (Module × X))
        → lookup (is_at (module_cmp k)) (insert_entry module_cmp entries m v) ≡ lookup (is_at (module_cmp k)) entries
    not_inserted v [] = ap (λ t. cond t (Some v) None) (not_at k m apart)
    not_inserted v (e ∷ entries) = by (not_inserted v entries) (module_cmp m e.0) refl
      where
        by : lookup (is_at (module_cmp k)) (insert_entry module_cmp entries m v) ≡ lookup (is_at (module_cmp k)) entries
            → (o : Ordering) → module_cmp m e.0 ≡ o
            → lookup (is_at (module_cmp k))
            (match_ordering o ((m, v) ∷ e ∷ entries) ((e.0, v) ∷ entries) (e ∷ insert_entry module_cmp entries m v))
            ≡ lookup (is_at (module_cmp k)) (e ∷ entries)
        by later Less h = ap (λ t. cond t (Some v) (lookup (is_at (module_cmp k)) (e ∷ entries))) (not_at k m apart)
        by later Equal h =
            let off : is_at (module_cmp k) e.0 ≡ false = same_end k m apart e.0 (ap is_eq h) in
            ap (λ t. cond t (Some v) (lookup (is_at (module_cmp k)) entries)) off
            ∙ sym (ap (λ t. cond t (Some e.1) (lookup (is_at (module_cmp k)) entries)) off)
        by later Greater h = ap (λ o. cond (is_at (module_cmp k) e.0) (Some e.1) o) later

    not_removed : (entries : List (Module × X))
        → lookup (is_at (module_cmp k)) (remove_entry (is_at (module_cmp m)) entries)
        ≡ lookup (is_at (module_cmp k)) entries
    not_removed [] = refl
    not_removed (e ∷ entries) = by (not_removed entries) (is_at (module_cmp m) e.0) refl
      where
        by : lookup (is_at (module_cmp k)) (remove_entry (is_at (module_cmp m)) entries)
            ≡ lookup (is_at (module_cmp k)) entries → (t : Bool) → is_at (module_cmp m) e.0 ≡ t
            → lookup (is_at (module_cmp k)) (cond t entries (e ∷ remove_entry (is_at (module_cmp m)) entries))
            ≡ lookup (is_at (module_cmp k)) (e ∷ entries)
        by later true h =
            sym (ap (λ t. cond t (Some e.1) (lookup (is_at (module_cmp k)) entries)) (same_end k m apart e.0 h))
        by later false h = ap (λ o. cond (is_at (module_cmp k) e.0) (Some e.1) o) later

-- ---- one edge more

-- what is asked of a module, or nothing
abbrev found_at : Asked → Module → Option (List Request)
found_at asked k = lookup (is_at (module_cmp k)) asked

abbrev or_nothing : Option (List Request) → List Request
or_nothing found = unwrap_or found []

request_found : (asked : Asked) (m k : Module) (r : Request) → found_at (with_request asked m r) k
    ≡ cond (module_eq m k) (Some (once request_eq (requests_in asked k) r)) (found_at asked k)
request_found asked m k r = by (module_eq m k) refl
  where
    by : (t : Bool) → module_eq m k ≡ t → found_at (with_request asked m r) k
        ≡ cond t (Some (once request_eq (requests_in asked k) r)) (found_at asked k)
    by true e =
        let q : m ≡ k = module_same m k e in
        subst (λ z. found_at (with_request asked m r) z ≡ Some (once request_eq (requests_in asked z) r)) q
        (inserted m (once request_eq (requests_in asked m) r) (remove_entry (is_at (module_cmp m)) asked))
    by false e =
        not_inserted k m e (once request_eq (requests_in asked m) r) (remove_entry (is_at (module_cmp m)) asked)
        ∙ not_removed k m e asked

module _ (roots : List Coord) (versions : Versions) (k : Module) where
  -- the edges that end at the module, as requests
  abbrev requests_to : List RowEdge → List Request
  requests_to last = map (request_of roots versions) (filter (asks_for k) last)

  edge_asked : (asked : Asked) (e : RowEdge) → requests_in (with_edge roots versions asked e) k
      ≡ cond (asks_for k e) (once request_eq (requests_in asked k) (request_of roots versions e)) (requests_in asked k)
  edge_asked asked e =
      ap or_nothing (request_found asked (target_of e) k (request_of roots versions e))
      ∙ ap (λ t.
      or_nothing
      (cond t (Some (once request_eq (requests_in asked k) (request_of roots versions e))) (found_at asked k)))
      (same_either_way (target_of e) k)
      ∙ by (asks_for k e)
    where
      by : (t : Bool)
          → or_nothing
          (cond t (Some (once request_eq (requests_in asked k) (request_of roots versions e))) (found_at asked k))
          ≡ cond t (once request_eq (requests_in asked k) (request_of roots versions e)) (requests_in asked k)
      by true = refl
      by false = refl

  all_asked : (asked : Asked) (last : List RowEdge) → requests_in (fold (with_edge roots versions) asked last) k
      ≡ fold (once request_eq) (requests_in asked k) (requests_to last)
  all_asked asked [] = refl
  all_asked asked (e ∷ last) =
      all_asked (with_edge roots versions asked e) last
      ∙ ap (λ rs. fold (once request_eq) rs (requests_to last)) (edge_asked asked e)
      ∙ by (asks_for k e)
    where
      by : (t : Bool)
          → fold (once request_eq)
          (cond t (once request_eq (requests_in asked k) (request_of roots versions e)) (requests_in asked k))
          (requests_to last)
          ≡ fold (once request_eq) (requests_in asked k)
          (map (request_of roots versions) (cond t (e ∷ filter (asks_for k) last) (filter (asks_for k) last)))
      by true = refl
      by false = refl

  pub asked_for : (last : List RowEdge) → requests_in (asked_by roots versions last) k
      ≡ requests_for roots versions last k
  asked_for last = all_asked [] last

  -- the module is asked for exactly where an edge ends there
  or_some : (t : Bool) (rs : List Request) (found : Option (List Request)) → is_some (cond t (Some rs) found)
      ≡ (t || is_some found)
  or_some true rs found = refl
  or_some false rs found = refl

  or_swap : (s t u : Bool) → (u || (s || t)) ≡ ((s || u) || t)
  or_swap true t true = refl
  or_swap true t false = refl
  or_swap false t true = refl
  or_swap false t false = refl

  found_ends : (asked : Asked) (last : List RowEdge) → is_some (found_at (fold (with_edge roots versions) asked last) k)
      ≡ (is_some (found_at asked k) || list_any (asks_for k) last)
  found_ends asked [] = sym (or_false (is_some (found_at asked k)))
    where
      or_false : (t : Bool) → (t || false) ≡ t
      or_false true = refl
      or_false false = refl
  found_ends asked (e ∷ last) =
      found_ends (with_edge roots versions asked e) last
      ∙ ap (λ t. t || list_any (asks_for k) last)
      (ap is_some (request_found asked (target_of e) k (request_of roots versions e))
      ∙ or_some (module_eq (target_of e) k) _ (found_at asked k)
      ∙ ap (λ t. t || is_some (found_at asked k)) (same_either_way (target_of e) k))
      ∙ sym (or_swap (asks_for k e) (list_any (asks_for k) last) (is_some (found_at asked k)))

-- ---- rows

row_found : (k : Module) (entries : Asked) → row_for (map request_row entries) k
    ≡ or_nothing (lookup (is_at (module_cmp k)) entries)
row_found k [] = refl
row_found k (e ∷ entries) =
    ap (λ t. cond t e.1 (row_for (map request_row entries) k)) (sym (module_cmp_eq k e.0))
    ∙ by (row_found k entries) (is_at (module_cmp k) e.0)
  where
    by : row_for (map request_row entries) k ≡ or_nothing (lookup (is_at (module_cmp k)) entries) → (t : Bool)
        → cond t e.1 (row_for (map request_row entries) k)
        ≡ or_nothing (cond t (Some e.1) (lookup (is_at (module_cmp k)) entries))
    by later true = refl
    by later false = later

row_among : (k : Module) (entries : Asked) → has (rows_modules (map request_row entries)) k
    ≡ is_some (lookup (is_at (module_cmp k)) entries)
row_among k [] = refl
row_among k (e ∷ entries) =
    ap (λ t. t || has (rows_modules (map request_row entries)) k) (sym (module_cmp_eq k e.0))
    ∙ by (row_among k entries) (is_at (module_cmp k) e.0)
  where
    by : has (rows_modules (map request_row entries)) k ≡ is_some (lookup (is_at (module_cmp k)) entries) → (t : Bool)
        → (t || has (rows_modules (map request_row entries)) k)
        ≡ is_some (cond t (Some e.1) (lookup (is_at (module_cmp k)) entries))
    by later true = refl
    by later false = later

pub keys_rows : (entries : Asked) → rows_modules (map request_row entries) ≡ keys_of entries
keys_rows [] = refl
keys_rows (e ∷ entries) = ap (λ z. e.0 ∷ z) (keys_rows entries)

module _ (roots : List Coord) (versions : Versions) (last : List RowEdge) (k : Module) where
  pub row_asked : row_for (request_rows roots versions last) k ≡ requests_for roots versions last k
  row_asked = row_found k (asked_by roots versions last) ∙ asked_for roots versions k last

  pub row_ends : has (rows_modules (request_rows roots versions last)) k ≡ list_any (asks_for k) last
  row_ends = row_among k (asked_by roots versions last) ∙ found_ends roots versions k [] last
