-- What the walk by levels keeps true.
use Rattle.std.specs.Prelude.{◌≡◌, ℕ, zero, suc, ◌+◌, ◌≤◌, ◌<◌, Bool, true, false, cond, not, ◌||◌, Option, None, Some, position, List, [], ◌∷◌, ◌++◌, length}
use Rattle.std.proofs.Common.{refl, sym, ◌∙◌, ap, subst, arith, inl, inr, ◌⊎◌}
use Rattle.std.specs.List.{list_any, filter}
use Rattle.live_walk.specs.Graphs.{In, here, there, Graph}
use Rattle.live_walk.specs.Walks.{Item, State, with_set, update, put_unless, put, after_roots, put_edge, after_edges, after_items, level, after_levels, walked}
use Rattle.live_walk.proofs.Members.{in_front, in_back, in_either, in_cons, in_one, in_filter, Passed, from_filter, Passes, in_from_position}
use Rattle.live_walk.specs.Graphs.{Lawful}
use Rattle.live_walk.proofs.Cut.{Walk, first, next, Within, kept_out, within-join, within-trans, within_itself}

-- what a test of covered sets has to say
pub record Covers {K E S : Type 0} (g : Graph K E S) (within : S → S → Bool) : Type 0 where
  pub bars_less : (a b : S) → within a b ≡ true → Within g a b

module _ {K E S : Type 0} (g : Graph K E S) (within : S → S → Bool) where
  -- a kept set that bars no more
  pub record Kept (table : K → List S) (met : S) (k : K) : Type 0 where
    pub set : S
    pub member : In set (table k)
    pub less : Within g set met

  pub record Ends (set : S) (k : K) : Type 0 where
    pub count : ℕ
    pub last : E
    pub at : g.target last ≡ k
    pub walk : Walk g count set last

  -- each edge that may follow leads to a kept set
  pub record Done (table : K → List S) (set : S) (k : K) : Type 0 where
    pub each : (e : E) → In e (g.out k) → g.bars set (g.target e) ≡ false
        → Kept table (g.join set (g.excludes e)) (g.target e)

  pub record Grows (s t : K → List S) : Type 0 where
    pub keeps : (met : S) (k : K) → Kept s met k → Kept t met k

  -- a set that serves a walk: it is still to be worked at, or is done
  pub record Served (work : List (Item K S)) (table : K → List S) (met : S) (k : K) : Type 0 where
    pub set : S
    pub how : In (record { place = k; set = set }) work ⊎ Done table set k
    pub less : Within g set met

  -- n: the walks of up to n edges are kept; work: what is left of this level; s: the table, and the work of the next
  -- level
  pub record Holds (n : ℕ) (work : List (Item K S)) (s : State K S) : Type 0 where
    pub sound : (k : K) (set : S) → In set (s.table k) → Ends set k
    pub sound_next : (it : Item K S) → In it s.next → Ends it.set it.place
    pub kept : (m : ℕ) (met : S) (e : E) → m ≤ n → Walk g m met e → Kept s.table met (g.target e)
    pub front : (k : K) (set : S) → In set (s.table k)
        → (In (record { place = k; set = set }) work ⊎ In (record { place = k; set = set }) s.next) ⊎ Done s.table set k
    pub served : (m : ℕ) (met : S) (e : E) → m ≤ n → Walk g m met e → Served work s.table met (g.target e)

  module _ (lawful : Lawful g) (covers : Covers g within) where
    pub wider : (table : K → List S) (a b : S) (k : K) → Within g a b → Kept table a k → Kept table b k
    wider table a b k w kept =
        record { set = kept.set; member = kept.member; less = within-trans g lawful kept.set a b kept.less w }

    grown : (s t : K → List S) (set : S) (k : K) → Grows s t → Done s set k → Done t set k
    grown s t set k grow d =
        record { each = λ e m free. grow.keeps (g.join set (g.excludes e)) (g.target e) (d.each e m free) }

    grows-trans : (s t u : K → List S) → Grows s t → Grows t u → Grows s u
    grows-trans s t u a b = record { keeps = λ met k h. b.keeps met k (a.keeps met k h) }

    grows_itself : (s : K → List S) → Grows s s
    grows_itself s = record { keeps = λ met k h. h }

    -- one set put in
    pub record Put (s t : State K S) (k : K) (set : S) : Type 0 where
      pub grows : Grows s.table t.table
      pub has : Kept t.table set k
      pub from : (j : K) (x : S) → In x (t.table j)
          → In x (s.table j) ⊎ ((j ≡ k) × (x ≡ set) × In (record { place = j; set = x }) t.next)
      pub old_next : (it : Item K S) → In it s.next → In it t.next
      pub new_next : (it : Item K S) → In it t.next → In it s.next ⊎ (it ≡ record { place = k; set = set })

    kept_among : (old : List S) (set met : S) (x : S) → In x old → Within g x met
        → (y : S) × In y (with_set within old set) × Within g y met
    kept_among old set met x m w = by (within set x) refl
      where
        by : (t : Bool) → within set x ≡ t → (y : S) × In y (with_set within old set) × Within g y met
        by true e = (
          set,
          in_back (filter (λ z. not (within set z)) old) here,
          within-trans g lawful set x met (covers.bars_less set x e) w,
        )
        by false e = (x, in_front (set ∷ []) (in_filter (λ z. not (within set z)) (ap not e) m), w)

    update_same : (table : K → List S) (k : K) (kept : List S) → update g.same table k kept k ≡ kept
    update_same table k kept = rw (lawful.itself k)

    put_put : (s : State K S) (k : K) (set : S) → Put s (put g.same within s k set) k set
    put_put s k set = by (position (λ old. within old set) (s.table k)) refl
      where
        added : State K S
        added = record {
          table = update g.same s.table k (with_set within (s.table k) set);
          next =
              s.next ++ record { place = k; set = set } ∷ [];
        }

        grows_at : (met : S) (j : K) → Kept s.table met j → (t : Bool) → g.same j k ≡ t
            → Kept (update g.same s.table k (with_set within (s.table k) set)) met j
        grows_at met j h true e =
            let q : j ≡ k = lawful.decides j k e in
            let y : (y : S) × In y (with_set within (s.table k) set) × Within g y met =
            kept_among (s.table k) set met h.set (subst (λ z. In h.set (s.table z)) q h.member) h.less in
            record { set = y.0; member = rw e (y.1); less = y.2 }
        grows_at met j h false e = record { set = h.set; member = rw e (h.member); less = h.less }

        from_at : (j : K) (x : S) (t : Bool) → g.same j k ≡ t
            → In x (cond (g.same j k) (with_set within (s.table k) set) (s.table j))
            → In x (s.table j)
            ⊎ ((j ≡ k) × (x ≡ set)
            × In (record { place = j; set = x }) (s.next ++ record { place = k; set = set } ∷ []))
        from_at j x true e m =
            let q : j ≡ k = lawful.decides j k e in
            elim (in_either (filter (λ z. not (within set z)) (s.table k)) (set ∷ []) (rw e at m)) [
              | inl h ↦ (let f : Passed (λ z. not (within set z)) x (s.table k) =
                  from_filter (λ z. not (within set z)) x (s.table k) h in inl
                  (subst (λ z. In x (s.table z)) (sym q) f.member))
              | inr h ↦ inr (q, in_one h, (let r : x ≡ set = in_one h in rw (q, r) (in_back s.next here)))
            ]
        from_at j x false e m = inl (rw e at m)

        by : (o : Option ℕ) → position (λ old. within old set) (s.table k) ≡ o
            → Put s (put_unless g.same within o s k set) k set
        by (Some place) e =
            let p : Passes (λ old. within old set) (s.table k) =
            in_from_position (λ old. within old set) (s.table k) place e in
            record {
              grows = grows_itself s.table;
              has = record { set = p.one; member = p.member; less = covers.bars_less p.one set p.passes };
              from = λ j x m. inl m;
              old_next = λ it m. m;
              new_next = λ it m. inl m;
            }
        by None e =
            record {
              grows = record { keeps = λ met j h. grows_at met j h (g.same j k) refl };
              has = record {
                set = set;
                member =
                    subst (λ z. In set z) (sym (update_same s.table k (with_set within (s.table k) set)))
                    (in_back (filter (λ z. not (within set z)) (s.table k)) here);
                less = within_itself g lawful set;
              };
              from = λ j x m. from_at j x (g.same j k) refl m;
              old_next = λ it m. in_front _ m;
              new_next = λ it m. elim (in_either s.next _ m) [ inl h ↦ inl h | inr h ↦ inr (in_one h) ];
            }

    put_holds : (n : ℕ) (work : List (Item K S)) (s t : State K S) (k : K) (x : S) → Put s t k x → Ends x k
        → Holds n work s → Holds n work t
    put_holds n work s t k x p ends h =
        record {
          sound = λ j y m. elim (p.from j y m) [
            | inl o ↦ h.sound j y o
            | inr q ↦ (let a : j ≡ k = q.0 in let b : y ≡ x =
                q.1 in rw (a, b) ends)
          ];
          sound_next =
              λ it m. elim
              (p.new_next it m) [
                | inl o ↦ h.sound_next it o
                | inr q ↦ subst (λ (z : Item K S). Ends z.set z.place)
                    (sym q) ends
              ];
          kept = λ m met e le w. p.grows.keeps met (g.target e) (h.kept m met e le w);
          front = λ j y m.
              elim (p.from j y m) [
                | inl o ↦ elim
                    (h.front j y o) [
                      | inl w ↦ inl
                          (elim w [ inl a ↦ inl a | inr b ↦ inr (p.old_next _ b) ])
                      | inr d ↦ inr
                          (grown s.table t.table y j p.grows d)
                    ]
                | inr q ↦ inl (inr q.2)
              ];
          served = λ m met e le w.
              let v : Served work s.table met (g.target e) = h.served m met e le w in
              record {
                set = v.set;
                how =
                    elim (v.how) [ inl a ↦ inl a | inr d ↦ inr (grown s.table t.table v.set (g.target e) p.grows d) ];
                less = v.less;
              };
        }

    record AfterEdge (n : ℕ) (work : List (Item K S)) (s t : State K S) (x : S) (e : E) : Type 0 where
      pub holds : Holds n work t
      pub grows : Grows s.table t.table
      pub has : g.bars x (g.target e) ≡ false → Kept t.table (g.join x (g.excludes e)) (g.target e)

    edge_holds : (n : ℕ) (work : List (Item K S)) (s : State K S) (k : K) (x : S) (e : E) → Ends x k → In e (g.out k)
        → Holds n work s → AfterEdge n work s (put_edge g within x s e) x e
    edge_holds n work s k x e ends m h = by (g.bars x (g.target e)) refl
      where
        by : (t : Bool) → g.bars x (g.target e) ≡ t
            → AfterEdge n work s (cond t s (put g.same within s (g.target e) (g.join x (g.excludes e)))) x e
        by true b = record { holds = h; grows = grows_itself s.table; has = λ free. absurd (cc) }
        by false b =
            let p : Put s (put g.same within s (g.target e) (g.join x (g.excludes e))) (g.target e)
            (g.join x (g.excludes e)) = put_put s (g.target e) (g.join x (g.excludes e)) in
            let further : Ends (g.join x (g.excludes e)) (g.target e) =
            record {
              count = suc ends.count;
              last = e;
              at = refl;
              walk =
                  next ends.walk (subst (λ z. In e (g.out z)) (sym ends.at) m) b;
            } in
            record {
              holds = put_holds n work s _ (g.target e) (g.join x (g.excludes e)) p further h;
              grows =
                  p.grows;
              has = λ free. p.has;
            }

    record AfterEdges (n : ℕ) (work : List (Item K S)) (s t : State K S) (x : S) (es : List E) : Type 0 where
      pub holds : Holds n work t
      pub grows : Grows s.table t.table
      pub has : (e : E) → In e es → g.bars x (g.target e) ≡ false → Kept t.table (g.join x (g.excludes e)) (g.target e)

    edges_hold : (n : ℕ) (work : List (Item K S)) (k : K) (x : S) → Ends x k → (es : List E)
        → ((e : E) → In e es → In e (g.out k)) → (s : State K S) → Holds n work s
        → AfterEdges n work s (after_edges g within x s es) x es
    edges_hold n work k x ends [] all s h = record { holds = h; grows = grows_itself s.table; has = λ e m. elim m [ ] }
    edges_hold n work k x ends (e ∷ es) all s h =
        let a : AfterEdge n work s (put_edge g within x s e) x e = edge_holds n work s k x e ends (all e here) h in
        let b : AfterEdges n work (put_edge g within x s e) (after_edges g within x (put_edge g within x s e) es) x es =
        edges_hold n work k x ends es (λ d m. all d (there m)) (put_edge g within x s e) a.holds in
        record {
          holds = b.holds;
          grows = grows-trans s.table _ _ a.grows b.grows;
          has = λ d m free.
              elim (in_cons d e es m) [
                | inl q ↦ subst
                    (λ z. Kept (after_edges g within x (put_edge g within x s e) es).table (g.join x (g.excludes z))
                    (g.target z)) (sym q)
                    (b.grows.keeps (g.join x (g.excludes e)) (g.target e)
                    (a.has (subst (λ z. g.bars x (g.target z) ≡ false) q free)))
                | inr o ↦ b.has d o free
              ];
        }

    item_holds : (n : ℕ) (it : Item K S) (work : List (Item K S)) (s : State K S) → Ends it.set it.place
        → Holds n (it ∷ work) s → Holds n work (after_edges g within it.set s (g.out it.place))
    item_holds n it work s ends h =
        let t : State K S = after_edges g within it.set s (g.out it.place) in
        let a : AfterEdges n (it ∷ work) s (after_edges g within it.set s (g.out it.place)) it.set (g.out it.place) =
        edges_hold n (it ∷ work) it.place it.set ends (g.out it.place) (λ e m. m) s h in
        let done : Done (after_edges g within it.set s (g.out it.place)).table it.set it.place =
        record { each = a.has } in
        record {
          sound = a.holds.sound;
          sound_next = a.holds.sound_next;
          kept = a.holds.kept;
          front = λ k x m.
              elim (a.holds.front k x m) [
                | inl w ↦
                    elim w [
                      | inl o ↦
                          elim (in_cons (record { place = k; set = x }) it work o) [
                            | inl q ↦ inr
                                (subst (λ (z : Item K S).
                                Done (after_edges g within it.set s (g.out it.place)).table z.set z.place) (sym q) done)
                            | inr later ↦ inl (inl later)
                          ]
                      | inr b ↦ inl (inr b)
                    ]
                | inr d ↦ inr d
              ];
          served = λ m met e le w.
              let v : Served (it ∷ work) (after_edges g within it.set s (g.out it.place)).table met (g.target e) =
              a.holds.served m met e le w in
              record {
                set = v.set;
                how =
                    elim (v.how) [
                      | inl o ↦
                          elim (in_cons (record { place = g.target e; set = v.set }) it work o) [
                            | inl q ↦ inr
                                (subst (λ (z : Item K S).
                                Done (after_edges g within it.set s (g.out it.place)).table z.set z.place) (sym q) done)
                            | inr later ↦ inl later
                          ]
                      | inr d ↦ inr d
                    ];
                less = v.less;
              };
        }

    items_hold : (n : ℕ) (work : List (Item K S)) → ((it : Item K S) → In it work → Ends it.set it.place)
        → (s : State K S) → Holds n work s → Holds n [] (after_items g within s work)
    items_hold n [] all s h = h
    items_hold n (it ∷ work) all s h =
        items_hold n work (λ i m. all i (there m)) (after_edges g within it.set s (g.out it.place))
        (item_holds n it work s (all it here) h)

    -- between two levels
    pub record Level (n : ℕ) (s : State K S) : Type 0 where
      pub sound : (k : K) (set : S) → In set (s.table k) → Ends set k
      pub sound_next : (it : Item K S) → In it s.next → Ends it.set it.place
      pub kept : (m : ℕ) (met : S) (e : E) → m ≤ n → Walk g m met e → Kept s.table met (g.target e)
      pub front : (k : K) (set : S) → In set (s.table k)
          → In (record { place = k; set = set }) s.next ⊎ Done s.table set k

    level_begins : (n : ℕ) (s : State K S) → Level n s → Holds n s.next (record { table = s.table; next = [] })
    level_begins n s l =
        record {
          sound = l.sound;
          sound_next = λ it m. elim m [ ];
          kept = l.kept;
          front = λ k x m. elim (l.front k x m) [ inl a ↦ inl (inl a) | inr d ↦ inr d ];
          served = λ m met e le w.
              let v : Kept s.table met (g.target e) = l.kept m met e le w in
              record { set = v.set; how = l.front (g.target e) v.set v.member; less = v.less };
        }

    one_more : (n : ℕ) (s : State K S) → Holds n [] s → (m : ℕ) (met : S) (e : E) → m ≤ suc n → Walk g m met e
        → Kept s.table met (g.target e)
    one_more n s h m met e le (first r) = h.kept 0 _ e (omega arith) (first r)
    one_more n s h m met e le (next {n = before} {met = old} {last} w edge free) =
        let few : before ≤ n = omega (arith, le) in
        let v : Served [] s.table old (g.target last) = h.served before old last few w in
        let d : Done s.table v.set (g.target last) = elim (v.how) [ inl o ↦ elim o [ ] | inr d ↦ d ] in
        wider s.table (g.join v.set (g.excludes e)) (g.join old (g.excludes e)) (g.target e)
        (within-join g lawful v.set old (g.excludes e) v.less)
        (d.each e edge (kept_out g lawful v.set old v.less (g.target e) free))

    level_ends : (n : ℕ) (s : State K S) → Holds n [] s → Level (suc n) s
    level_ends n s h =
        record {
          sound = h.sound;
          sound_next = h.sound_next;
          kept = λ m met e le w. one_more n s h m met e le w;
          front = λ k x m. elim
              (h.front k x m) [ inl w ↦ elim w [ inl o ↦ elim o [ ] | inr b ↦ inl b ] | inr d ↦ inr d ];
        }

    level_holds : (n : ℕ) (s : State K S) → Level n s → Level (suc n) (level g within s)
    level_holds n s l =
        level_ends n _ (items_hold n s.next l.sound_next (record { table = s.table; next = [] }) (level_begins n s l))

    pub levels_hold : (m n : ℕ) (s : State K S) → Level n s → Level (m + n) (after_levels g within m s)
    levels_hold zero n s l = subst (λ z. Level z s) (omega arith) l
    levels_hold (suc m) n s l =
        subst (λ z. Level z (after_levels g within m (level g within s))) (omega arith)
        (levels_hold m (suc n) (level g within s) (level_holds n s l))

    -- while the roots go in
    record Begun (s : State K S) : Type 0 where
      pub sound : (k : K) (set : S) → In set (s.table k) → Ends set k
      pub sound_next : (it : Item K S) → In it s.next → Ends it.set it.place
      pub front : (k : K) (set : S) → In set (s.table k) → In (record { place = k; set = set }) s.next

    put_begun : (s t : State K S) (k : K) (x : S) → Put s t k x → Ends x k → Begun s → Begun t
    put_begun s t k x p ends h =
        record {
          sound = λ j y m. elim (p.from j y m) [
            | inl o ↦ h.sound j y o
            | inr q ↦ (let a : j ≡ k = q.0 in let b : y ≡ x =
                q.1 in rw (a, b) ends)
          ];
          sound_next =
              λ it m. elim
              (p.new_next it m) [
                | inl o ↦ h.sound_next it o
                | inr q ↦ subst (λ (z : Item K S). Ends z.set z.place)
                    (sym q) ends
              ];
          front = λ j y m. elim (p.from j y m) [ inl o ↦ p.old_next _ (h.front j y o) | inr q ↦ q.2 ];
        }

    record AfterRoots (s t : State K S) (es : List E) : Type 0 where
      pub begun : Begun t
      pub grows : Grows s.table t.table
      pub has : (e : E) → In e es → Kept t.table (g.excludes e) (g.target e)

    roots_begin : (es : List E) → ((e : E) → In e es → In e g.roots) → (s : State K S) → Begun s
        → AfterRoots s (after_roots g within s es) es
    roots_begin [] all s h = record { begun = h; grows = grows_itself s.table; has = λ e m. elim m [ ] }
    roots_begin (e ∷ es) all s h =
        let p : Put s (put g.same within s (g.target e) (g.excludes e)) (g.target e) (g.excludes e) =
        put_put s (g.target e) (g.excludes e) in
        let ends : Ends (g.excludes e) (g.target e) =
        record { count = 0; last = e; at = refl; walk = first (all e here) } in
        let a : AfterRoots (put g.same within s (g.target e) (g.excludes e))
        (after_roots g within (put g.same within s (g.target e) (g.excludes e)) es) es =
        roots_begin es (λ d m. all d (there m)) (put g.same within s (g.target e) (g.excludes e))
        (put_begun s _ (g.target e) (g.excludes e) p ends h) in
        record {
          begun = a.begun;
          grows = grows-trans s.table _ _ p.grows a.grows;
          has = λ d m.
              elim (in_cons d e es m) [
                | inl q ↦ subst
                    (λ z. Kept (after_roots g within (put g.same within s (g.target e) (g.excludes e)) es).table
                    (g.excludes z) (g.target z)) (sym q) (a.grows.keeps (g.excludes e) (g.target e) p.has)
                | inr o ↦ a.has d o
              ];
        }

    walk_none : (s : State K S) → ((e : E) → In e g.roots → Kept s.table (g.excludes e) (g.target e))
        → (m : ℕ) (met : S) (e : E) → m ≤ 0 → Walk g m met e → Kept s.table met (g.target e)
    walk_none s has m met e le (first r) = has e r
    walk_none s has m met e le (next w edge free) = absurd (omega (arith, le))

    pub walked_holds : (n : ℕ) → Level n (walked g within n)
    walked_holds n =
        let begun : Begun (record { table = λ k. []; next = [] }) =
        record { sound = λ k x m. elim m [ ]; sound_next = λ it m. elim m [ ]; front = λ k x m. elim m [ ] } in
        let a : AfterRoots (record { table = λ k. []; next = [] })
        (after_roots g within (record { table = λ k. []; next = [] }) g.roots) g.roots =
        roots_begin g.roots (λ e m. m) (record { table = λ k. []; next = [] }) begun in
        let l : Level 0 (after_roots g within (record { table = λ k. []; next = [] }) g.roots) =
        record {
          sound = a.begun.sound;
          sound_next = a.begun.sound_next;
          kept =
              λ m met e le w. walk_none
              (after_roots g within (record { table = λ k. []; next = [] }) g.roots) a.has m met e le w;
          front =
              λ k x m. inl (a.begun.front k x m);
        }
        in subst (λ z. Level z (walked g within n)) (omega arith) (levels_hold n 0 _ l)
