-- Lists of modules that rise.
use Rattle.std.proofs.Common.{◌≡◌, ◌≤◌, ℕ, Bool, true, false, cond, ◌⊎◌, inl, inr, List, [], ◌∷◌, ◌++◌, map, refl, sym, ◌∙◌, ap, subst}
use Rattle.std.specs.Prelude.{fold}
use Rattle.std.specs.BTreeMap.{insert_entry, is_at}
use Rattle.std.specs.Cmp.{IsTotalOrder}
use Rattle.std.specs.Map.{keys_of, remove_entry}
use Rattle.std.specs.Ordering.{is_eq, match_ordering, ordering_reverse}
use Rattle.std.specs.declared.cmp.Ordering.{Ordering}
use Rattle.std.specs.declared.cmp.Ordering.TheVariants.{Equal, Greater, Less}
use Rattle.std.proofs.lemmas.Cmp.{lists_total, nat_cmp_total, on_total, then_total}
use Rattle.live_walk.specs.Graphs.{In, here, there}
use Rattle.live_walk.specs.Numbers.{AreDistinct, AreOther}
use Rattle.live_walk.proofs.Members.{in_cons}
use Rattle.res_base.specs.Names.{module_cmp, module_eq}
use Rattle.res_base.specs.declared.coord.Coord.{Coord}
use Rattle.res_base.specs.declared.coord.Module.{Module}
use Rattle.reconcile_rules.specs.declared.request.Request.{Request}
use Rattle.round_core.specs.Choices.{IsBelow, Rises}
use Rattle.round_core.specs.Edges.{target_of}
use Rattle.round_core.specs.Requests.{Asked, asked_by, with_edge, with_request}
use Rattle.round_core.specs.Steering.{Versions}
use Rattle.round_core.specs.declared.edges.RowEdge.{RowEdge}
use Rattle.round_core.proofs.Orders.{module_cmp_eq}

pub module_total : IsTotalOrder module_cmp
module_total =
    then_total (on_total (λ (m : Module). m.org) (lists_total nat_cmp_total))
    (on_total (λ (m : Module). m.name) (lists_total nat_cmp_total))

above_is_below : (a b : Module) → module_cmp a b ≡ Greater → module_cmp b a ≡ Less
above_is_below a b h = module_total.antisymm b a ∙ ap ordering_reverse h

-- ---- rising modules are distinct

below_is_other : (m : Module) (modules : List Module) → IsBelow m modules → AreOther m modules
below_is_other m [] h = tt
below_is_other m (k ∷ modules) h = (sym (module_cmp_eq m k) ∙ ap is_eq h.0, below_is_other m modules h.1)

pub rising_distinct : (modules : List Module) → Rises modules → AreDistinct modules
rising_distinct [] h = tt
rising_distinct (m ∷ modules) h = (below_is_other m modules h.0, rising_distinct modules h.1)

-- ---- a module goes to its place

below_later : (a b : Module) (modules : List Module) → module_cmp a b ≡ Less → IsBelow b modules → IsBelow a modules
below_later a b [] h l = tt
below_later a b (k ∷ modules) h l = (module_total.trans a b k h l.0, below_later a b modules h l.1)

module _ {X : Type 0} where
  below_insert : (a m : Module) (v : X) (entries : List (Module × X)) → module_cmp a m ≡ Less
      → IsBelow a (keys_of entries) → IsBelow a (keys_of (insert_entry module_cmp entries m v))
  below_insert a m v [] h l = (h, tt)
  below_insert a m v (e ∷ entries) h l = by (below_insert a m v entries h l.1) (module_cmp m e.0)
    where
      by : IsBelow a (keys_of (insert_entry module_cmp entries m v)) → (o : Ordering)
          → IsBelow a
          (keys_of (match_ordering o ((m, v) ∷ e ∷ entries) ((e.0, v) ∷ entries)
          (e ∷ insert_entry module_cmp entries m v)))
      by later Less = (h, l)
      by later Equal = l
      by later Greater = (l.0, later)

  rises_insert : (m : Module) (v : X) (entries : List (Module × X)) → Rises (keys_of entries)
      → Rises (keys_of (insert_entry module_cmp entries m v))
  rises_insert m v [] r = (tt, tt)
  rises_insert m v (e ∷ entries) r = by (rises_insert m v entries r.1) (module_cmp m e.0) refl
    where
      by : Rises (keys_of (insert_entry module_cmp entries m v)) → (o : Ordering) → module_cmp m e.0 ≡ o
          → Rises (keys_of
          (match_ordering o ((m, v) ∷ e ∷ entries) ((e.0, v) ∷ entries) (e ∷ insert_entry module_cmp entries m v)))
      by later Less h = ((h, below_later m e.0 (keys_of entries) h r.0), r)
      by later Equal h = r
      by later Greater h = (below_insert e.0 m v entries (above_is_below m e.0 h) r.0, later)

  below_remove : (a : Module) (test : Module → Bool) (entries : List (Module × X)) → IsBelow a (keys_of entries)
      → IsBelow a (keys_of (remove_entry test entries))
  below_remove a test [] l = tt
  below_remove a test (e ∷ entries) l = by (below_remove a test entries l.1) (test e.0)
    where
      by : IsBelow a (keys_of (remove_entry test entries)) → (t : Bool)
          → IsBelow a (keys_of (cond t entries (e ∷ remove_entry test entries)))
      by later true = l.1
      by later false = (l.0, later)

  rises_remove : (test : Module → Bool) (entries : List (Module × X)) → Rises (keys_of entries)
      → Rises (keys_of (remove_entry test entries))
  rises_remove test [] r = tt
  rises_remove test (e ∷ entries) r = by (rises_remove test entries r.1) (test e.0)
    where
      by : Rises (keys_of (remove_entry test entries)) → (t : Bool)
          → Rises (keys_of (cond t entries (e ∷ remove_entry test entries)))
      by later true = r.1
      by later false = (below_remove e.0 test entries r.0, later)

  in_insert : (m k : Module) (v : X) (entries : List (Module × X))
      → In k (keys_of (insert_entry module_cmp entries m v)) → (k ≡ m) ⊎ In k (keys_of entries)
  in_insert m k v [] h = elim (in_cons k m [] h) [ inl q ↦ inl q | inr i ↦ elim i [ ] ]
  in_insert m k v (e ∷ entries) h = by (in_insert m k v entries) (module_cmp m e.0) h
    where
      last : (In k (keys_of (insert_entry module_cmp entries m v)) → (k ≡ m) ⊎ In k (keys_of entries))
          → (k ≡ e.0) ⊎ In k (keys_of (insert_entry module_cmp entries m v)) → (k ≡ m) ⊎ In k (e.0 ∷ keys_of entries)
      last later (inl q) = inr (subst (λ z. In z (e.0 ∷ keys_of entries)) (sym q) here)
      last later (inr i) = elim (later i) [ inl q ↦ inl q | inr l ↦ inr (there l) ]

      by : (In k (keys_of (insert_entry module_cmp entries m v)) → (k ≡ m) ⊎ In k (keys_of entries)) → (o : Ordering)
          → In k (keys_of
          (match_ordering o ((m, v) ∷ e ∷ entries) ((e.0, v) ∷ entries) (e ∷ insert_entry module_cmp entries m v)))
          → (k ≡ m) ⊎ In k (e.0 ∷ keys_of entries)
      by later Less i = in_cons k m (e.0 ∷ keys_of entries) i
      by later Equal i = inr i
      by later Greater i = last later (in_cons k e.0 (keys_of (insert_entry module_cmp entries m v)) i)

  in_remove : (k : Module) (test : Module → Bool) (entries : List (Module × X))
      → In k (keys_of (remove_entry test entries)) → In k (keys_of entries)
  in_remove k test [] h = elim h [ ]
  in_remove k test (e ∷ entries) h = by (in_remove k test entries) (test e.0) h
    where
      by : (In k (keys_of (remove_entry test entries)) → In k (keys_of entries)) → (t : Bool)
          → In k (keys_of (cond t entries (e ∷ remove_entry test entries))) → In k (e.0 ∷ keys_of entries)
      by later true i = there i
      by later false i =
          elim (in_cons k e.0 (keys_of (remove_entry test entries)) i) [
            | inl q ↦ subst
                (λ z. In z (e.0 ∷ keys_of entries)) (sym q) here
            | inr j ↦ there (later j)
          ]

-- ---- what is asked, by module

module _ (roots : List Coord) (versions : Versions) where
  pub asked_rises : (asked : Asked) (last : List RowEdge) → Rises (keys_of asked)
      → Rises (keys_of (fold (with_edge roots versions) asked last))
  asked_rises asked [] r = r
  asked_rises asked (e ∷ last) r =
      asked_rises (with_edge roots versions asked e) last
      (rises_insert (target_of e) _ (remove_entry (is_at (module_cmp (target_of e))) asked)
      (rises_remove (is_at (module_cmp (target_of e))) asked r))

  -- a module that is asked for is at the end of an edge
  pub record AtEnd (m : Module) (last : List RowEdge) : Type 0 where
    pub edge : RowEdge
    pub member : In edge last
    pub at : target_of edge ≡ m

  pub asked_ends : (asked : Asked) (last : List RowEdge) (m : Module)
      → In m (keys_of (fold (with_edge roots versions) asked last)) → In m (keys_of asked) ⊎ AtEnd m last
  asked_ends asked [] m h = inl h
  asked_ends asked (e ∷ last) m h =
      elim (asked_ends (with_edge roots versions asked e) last m h) [
        | inr a ↦ inr (record { edge = a.edge; member = there a.member; at = a.at })
        | inl i ↦
            elim (in_insert (target_of e) m _ (remove_entry (is_at (module_cmp (target_of e))) asked) i) [
              | inl q ↦ inr (record { edge = e; member = here; at = sym q })
              | inr j ↦ inl (in_remove m (is_at (module_cmp (target_of e))) asked j)
            ]
      ]
