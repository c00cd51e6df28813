-- The enumeration by levels has exactly the live paths.
use Rattle.std.specs.Prelude.{◌≡◌, ℕ, zero, suc, ◌+◌, ◌≤◌, Bool, true, false, cond, not, ◌||◌, List, [], ◌∷◌, ◌++◌, map, length}
use Rattle.std.proofs.Common.{refl, sym, ◌∙◌, ap, subst, arith, inl, inr}
use Rattle.std.specs.List.{list_any, filter, flat_map}
use Rattle.live_walk.specs.Graphs.{In, here, there, Graph}
use Rattle.live_walk.specs.Paths.{returns, Way, begin, step, Live, start, go, longer, levels, live_paths}
use Rattle.live_walk.proofs.Members.{in_front, in_back, in_either, in_cons, in_filter, in_map, in_flat_map, Passed, from_filter, Mapped, from_map, FlatMapped, from_flat_map, not_true}
use Rattle.live_walk.specs.Graphs.{Lawful, HasEdges}
use Rattle.live_walk.proofs.Distinct.{Distinct, none, one_more, no_more}

module _ {K E S : Type 0} (g : Graph K E S) where
  abbrev level : ℕ → List (Way K E S) → List (Way K E S)
  level zero paths = paths
  level (suc n) paths = level n (flat_map (longer g) paths)

  level_behind : (n : ℕ) (paths : List (Way K E S)) → level (suc n) paths ≡ flat_map (longer g) (level n paths)
  level_behind zero paths = refl
  level_behind (suc n) paths = level_behind n (flat_map (longer g) paths)

  in_longer : (p : Way K E S) (e : E) → returns g p ≡ false → In e (g.out (g.target p.last))
      → g.bars p.met (g.target e) ≡ false → In (step g p e) (longer g p)
  in_longer p e fresh h free =
      rw fresh (in_map (step g p) (in_filter (λ e. not (g.bars p.met (g.target e))) (ap not free) h))

  at_level : {p : Way K E S} → Live g p → In p (level (length p.left) (map (begin g) g.roots))
  at_level (start h) = in_map (begin g) h
  at_level (go {p} {e} l fresh h free) =
      subst (λ ways. In (step g p e) ways) (sym (level_behind (length p.left) (map (begin g) g.roots)))
      (in_flat_map (longer g) (at_level l) (in_longer p e fresh h free))

  in_levels : {p : Way K E S} (k n : ℕ) (paths : List (Way K E S)) → k ≤ n → In p (level k paths)
      → In p (levels g n paths)
  in_levels zero zero paths h m = m
  in_levels zero (suc n) paths h m = in_front _ m
  in_levels (suc k) zero paths h m = absurd (omega (arith, h))
  in_levels (suc k) (suc n) paths h m = in_back paths (in_levels k n (flat_map (longer g) paths) (omega (arith, h)) m)

  -- each path that the enumeration has is live
  from_longer : (p q : Way K E S) → Live g p → In q (longer g p) → Live g q
  from_longer p q l h = by (returns g p) refl h
    where
      by : (t : Bool) → returns g p ≡ t
          → In q (cond t [] (map (step g p) (filter (λ e. not (g.bars p.met (g.target e))) (g.out (g.target p.last)))))
          → Live g q
      by true e m = elim m [ ]
      by false e m =
          let k : Mapped (step g p) q (filter (λ e. not (g.bars p.met (g.target e))) (g.out (g.target p.last))) =
          from_map (step g p) q _ m in
          let f : Passed (λ e. not (g.bars p.met (g.target e))) k.one (g.out (g.target p.last)) =
          from_filter (λ e. not (g.bars p.met (g.target e))) k.one _ k.member in
          subst (λ z. Live g z) (sym k.is) (go l e f.member (not_true (g.bars p.met (g.target k.one)) f.passes))

  from_levels : (n : ℕ) (paths : List (Way K E S)) → ((p : Way K E S) → In p paths → Live g p) → (q : Way K E S)
      → In q (levels g n paths) → Live g q
  from_levels zero paths all q m = all q m
  from_levels (suc n) paths all q m =
      elim (in_either paths (levels g n (flat_map (longer g) paths)) m) [
        | inl k ↦ all q k
        | inr k ↦
            from_levels n (flat_map (longer g) paths) (λ p h. let f : FlatMapped (longer g) p paths =
            from_flat_map (longer g) p paths h in from_longer f.one p (all f.one f.member) f.inside) q k
      ]

  pub live_from : (n : ℕ) (p : Way K E S) → In p (live_paths g n) → Live g p
  live_from n p h =
      from_levels n (map (begin g) g.roots) (λ q m. let f : Mapped (begin g) q g.roots =
      from_map (begin g) q g.roots m in subst (λ z. Live g z) (sym f.is) (start f.member)) p h

  module _ (lawful : Lawful g) (ks : List K) (has : HasEdges g ks) where
    left_distinct : {p : Way K E S} → Live g p → Distinct g.same lawful.decides lawful.itself p.left
    left_distinct (start h) = none
    left_distinct (go l fresh h free) = one_more fresh (left_distinct l)

    left_listed : {p : Way K E S} → Live g p → (k : K) → In k p.left → list_any (g.same k) ks ≡ true
    left_listed (start h) k m = elim m [ ]
    left_listed (go {p} {e} l fresh h free) k m =
        elim (in_cons k (g.target p.last) p.left m) [
          | inl q ↦ has.has k e
              (subst (λ z. In e (g.out z)) (sym q) h)
          | inr n ↦ left_listed l k n
        ]

    pub left_few : {p : Way K E S} → Live g p → length p.left ≤ length ks
    left_few {p} l = no_more g.same lawful.decides lawful.itself (left_distinct l) ks (left_listed l)

    pub live_in : {p : Way K E S} → Live g p → In p (live_paths g (length ks))
    live_in {p} l = in_levels (length p.left) (length ks) (map (begin g) g.roots) (left_few l) (at_level l)
