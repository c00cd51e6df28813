-- The walk finds the last edges of live paths.
use Rattle.std.specs.Prelude.{◌≡◌, ◌↔◌, ℕ, zero, suc, ◌+◌, ◌≤◌, Bool, true, false, cond, not, ◌||◌, ◌&&◌, List, [], ◌∷◌, ◌++◌, length}
use Rattle.std.proofs.Common.{refl, sym, ◌∙◌, ap, subst, arith, inl, inr, ◌⊎◌}
use Rattle.std.specs.List.{list_any, filter, flat_map}
use Rattle.live_walk.specs.Graphs.{In, here, there, Graph}
use Rattle.live_walk.specs.Paths.{Way, IsLast, is_followed, Live, start, go, step, live_paths, ends_at, followed, last_edges}
use Rattle.live_walk.specs.Walks.{Item, State, is_let, walked}
use Rattle.live_walk.proofs.Members.{in_front, in_back, in_either, any_from_in, Passes, in_from_any, filter_same, both_ways, and_both, not_true, in_filter, in_flat_map, Passed, from_filter, FlatMapped, from_flat_map}
use Rattle.live_walk.specs.Graphs.{Lawful, HasEdges}
use Rattle.live_walk.proofs.Enumerated.{live_from, live_in, left_few}
use Rattle.live_walk.proofs.Cut.{Walk, Within, kept_out, Fresh, fresh_of, fresh_at, walk_of}
use Rattle.live_walk.proofs.Kept.{Covers, Kept, Ends, Level, walked_holds}

module _ {K E S : Type 0} (g : Graph K E S) (lawful : Lawful g) (ks : List K) (has : HasEdges g ks) where
  goes_on : K → E → Way K E S → Bool
  goes_on k e p = ends_at g k p && not (g.bars p.met (g.target e))

  and_true : (s t : Bool) → s ≡ true → t ≡ true → (s && t) ≡ true
  and_true s t a b = rw (a, b) refl

  -- a table whose sets come from walks, and which keeps a set for each walk that may go on and leaves no more modules
  -- than there are
  pub record Exact (within : S → S → Bool) (table : K → List S) : Type 0 where
    pub sound : (k : K) (set : S) → In set (table k) → Ends g within set k
    pub kept : (m : ℕ) (met : S) (e : E) → m ≤ length ks → Walk g m met e → (d : E) → In d (g.out (g.target e))
        → Kept g within table met (g.target e)

  module _ (within : S → S → Bool) (table : K → List S) (exact : Exact within table) where
    from_path : (k : K) (e : E) → In e (g.out k)
        → list_any (λ (p : Way K E S). ends_at g k p && not (g.bars p.met (g.target e))) (live_paths g (length ks))
        ≡ true
        → list_any (λ set. not (g.bars set (g.target e))) (table k) ≡ true
    from_path k e edge h =
        let p : Passes (λ (p : Way K E S). ends_at g k p && not (g.bars p.met (g.target e)))
        (live_paths g (length ks)) =
        in_from_any (λ (p : Way K E S). ends_at g k p && not (g.bars p.met (g.target e)))
        (live_paths g (length ks)) h in
        let live : Live g p.one = live_from g (length ks) p.one p.member in
        let both : (ends_at g k p.one ≡ true) × (not (g.bars p.one.met (g.target e)) ≡ true) =
        and_both (ends_at g k p.one) (not (g.bars p.one.met (g.target e))) p.passes in
        let ends : (g.same k (g.target p.one.last) ≡ true)
        × (not (list_any (g.same (g.target p.one.last)) p.one.left) ≡ true) = and_both _ _ both.0 in
        let at : k ≡ g.target p.one.last = lawful.decides k (g.target p.one.last) ends.0 in
        let v : Kept g within table p.one.met (g.target p.one.last) =
        exact.kept (length p.one.left) p.one.met p.one.last (left_few g lawful ks has live) (walk_of g live) e
        (subst (λ z. In e (g.out z)) at edge) in
        let free : g.bars v.set (g.target e) ≡ false =
        kept_out g lawful v.set p.one.met v.less (g.target e) (not_true _ both.1) in
        any_from_in (λ set. not (g.bars set (g.target e))) (subst (λ z. In v.set (table z)) (sym at) v.member)
        (rw free refl)

    from_set : (k : K) (e : E) → list_any (λ set. not (g.bars set (g.target e))) (table k) ≡ true
        → list_any (λ (p : Way K E S). ends_at g k p && not (g.bars p.met (g.target e))) (live_paths g (length ks))
        ≡ true
    from_set k e h =
        let p : Passes (λ set. not (g.bars set (g.target e))) (table k) =
        in_from_any (λ set. not (g.bars set (g.target e))) (table k) h in
        let ends : Ends g within p.one k = exact.sound k p.one p.member in
        let f : Fresh g p.one (g.target ends.last) = fresh_of g lawful ends.walk in
        let at : k ≡ g.target f.way.last = sym (f.at ∙ ends.at) in
        let free : g.bars f.way.met (g.target e) ≡ false =
        kept_out g lawful f.way.met p.one f.within (g.target e) (not_true _ p.passes) in
        let not_left : list_any (g.same (g.target f.way.last)) f.way.left ≡ false =
        subst (λ z. list_any (g.same z) f.way.left ≡ false) (sym f.at) f.not_left in
        let same : g.same k (g.target f.way.last) ≡ true = subst (λ z. g.same k z ≡ true) at (lawful.itself k) in
        any_from_in (λ (p : Way K E S). ends_at g k p && not (g.bars p.met (g.target e)))
        (live_in g lawful ks has f.live) (rw (same, not_left, free) refl)

    pub lets_exact : (k : K) (e : E) → In e (g.out k)
        → is_let g table k e ≡ is_followed g (live_paths g (length ks)) k e
    lets_exact k e edge = both_ways _ _ (from_set k e) (from_path k e edge)

  module _ (within : S → S → Bool) (covers : Covers g within) where
    -- the walk lets exactly the edges that live paths go on with
    pub lets_followed : (k : K) (e : E) → In e (g.out k) → is_let g (walked g within (length ks)).table k e
        ≡ is_followed g (live_paths g (length ks)) k e
    lets_followed =
        let level : Level g within lawful covers (length ks) (walked g within (length ks)) =
        walked_holds g within lawful covers (length ks) in
        lets_exact within (walked g within (length ks)).table (record {
          sound = level.sound;
          kept =
              λ m met e le w d i. level.kept m met e le w;
        })

  -- the list is that of the relation
  pub last_live : (e : E) → In e (last_edges g ks) → IsLast g e
  last_live e m =
      elim (in_either g.roots (flat_map (followed g (live_paths g (length ks))) ks) m) [
        | inl r ↦ record { way = _; live = start r; last = refl }
        | inr h ↦
            (let f : FlatMapped (followed g (live_paths g (length ks))) e ks =
            from_flat_map (followed g (live_paths g (length ks))) e ks h in
            let q : Passed
            (λ e. list_any (λ (p : Way K E S). ends_at g f.one p && not (g.bars p.met (g.target e)))
            (live_paths g (length ks))) e (g.out f.one) = from_filter _ e (g.out f.one) f.inside in
            let p : Passes (λ (p : Way K E S). ends_at g f.one p && not (g.bars p.met (g.target e)))
            (live_paths g (length ks)) = in_from_any _ (live_paths g (length ks)) q.passes in
            let both : (ends_at g f.one p.one ≡ true) × (not (g.bars p.one.met (g.target e)) ≡ true) =
            and_both _ _ p.passes in
            let ends : (g.same f.one (g.target p.one.last) ≡ true)
            × (not (list_any (g.same (g.target p.one.last)) p.one.left) ≡ true) = and_both _ _ both.0 in
            let at : f.one ≡ g.target p.one.last = lawful.decides f.one (g.target p.one.last) ends.0 in
            record {
              way = step g p.one e;
              live = go (live_from g (length ks) p.one p.member) (not_true _ ends.1)
                  (subst (λ z. In e (g.out z)) at q.member) (not_true _ both.1);
              last = refl;
            })
      ]

  pub live_last : {p : Way K E S} → Live g p → In p.last (last_edges g ks)
  live_last (start r) = in_front _ r
  live_last (go {p} {e} l fresh edge free) =
      let k : K = g.target p.last in
      let p' : Passes (g.same (g.target p.last)) ks =
      in_from_any (g.same (g.target p.last)) ks (has.has (g.target p.last) e edge) in
      let at : g.target p.last ≡ p'.one = lawful.decides (g.target p.last) p'.one p'.passes in
      let test : list_any (λ (q : Way K E S). ends_at g (g.target p.last) q && not (g.bars q.met (g.target e)))
      (live_paths g (length ks)) ≡ true =
      any_from_in (λ (q : Way K E S). ends_at g (g.target p.last) q && not (g.bars q.met (g.target e)))
      (live_in g lawful ks has l) (rw (lawful.itself (g.target p.last), fresh, free) refl)
      in
      in_back g.roots
      (in_flat_map (followed g (live_paths g (length ks))) p'.member
      (subst (λ z. In e (followed g (live_paths g (length ks)) z)) at (in_filter _ test edge)))

-- it does not matter how many modules are counted, so long as all with edges are
module _ {K E S : Type 0} (g : Graph K E S) (lawful : Lawful g) (ks ls : List K) (in_ks : HasEdges g ks)
    (in_ls : HasEdges g ls) where
  passed_on : (n : ℕ) (others : List K) → HasEdges g others → (k : K) (e : E) → is_followed g (live_paths g n) k e
      ≡ true → is_followed g (live_paths g (length others)) k e ≡ true
  passed_on n others in_others k e h =
      let test : Way K E S → Bool = λ (p : Way K E S). ends_at g k p && not (g.bars p.met (g.target e)) in
      let p : Passes test (live_paths g n) = in_from_any test (live_paths g n) h in
      any_from_in test (live_in g lawful others in_others (live_from g n p.one p.member)) p.passes

  pub followed_any : (k : K) (e : E) → is_followed g (live_paths g (length ks)) k e
      ≡ is_followed g (live_paths g (length ls)) k e
  followed_any k e = both_ways _ _ (passed_on (length ks) ls in_ls k e) (passed_on (length ls) ks in_ks k e)

-- an edge is in the list exactly where it is the last one of a live path
pub last_is : {K E S : Type 0} (g : Graph K E S) (ks : List K) (e : E) → Lawful g → HasEdges g ks
    → In e (last_edges g ks) ↔ IsLast g e
last_is g ks e lawful has = (
  last_live g lawful ks has e,
  λ last. subst (λ z. In z (last_edges g ks)) last.last (live_last g lawful ks has last.live),
)
