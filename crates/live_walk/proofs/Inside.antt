-- Sets need be put only to modules where paths can go on.
use Rattle.std.specs.Prelude.{◌≡◌, ℕ, zero, suc, ◌<◌, Bool, true, false, cond, not, ◌==◌, List, [], ◌∷◌, All, filter, get_or, length, map}
use Rattle.std.proofs.Common.{refl, sym, ◌∙◌, ap, subst, arith, eqb-true}
use Rattle.res_base.specs.Names.{module_eq}
use Rattle.res_base.specs.declared.coord.Module.{Module}
use Rattle.exclusion_sets.specs.declared.excl_set.ExclSet.{ExclSet}
use Rattle.live_walk.specs.Graphs.{Graph, HasEdges, In, Lawful, here, there}
use Rattle.live_walk.specs.Numbers.{AreDistinct, AreHops, Step, goes_on, hop_step, hops_at, inner_hops, inner_out, module_at, out_of, row_at}
use Rattle.live_walk.specs.Paths.{is_followed, live_paths}
use Rattle.live_walk.specs.Walks.{is_let, walked}
use Rattle.live_walk.specs.declared.hop.Hop.{Hop}
use Rattle.live_walk.proofs.Answered.{lets_exact}
use Rattle.live_walk.proofs.Cut.{Walk, Within, first, next}
use Rattle.live_walk.proofs.Kept.{Covers, Ends, Kept, Level, walked_holds}
use Rattle.live_walk.proofs.Members.{Mapped, Passed, from_filter, from_map, in_filter, in_get, in_map}
use Rattle.live_walk.proofs.Rows.{row_here}

-- ---- a graph without edges at whose ends all paths end

module _ {K E S : Type 0} (g : Graph K E S) (inner : K → List E) where
  abbrev pub inside : Graph K E S
  inside = record g { out = inner }

  module _ (less : (k : K) (e : E) → In e (inner k) → In e (g.out k)) (more : (k : K) (e d : E) → In e (g.out k)
      → In d (g.out (g.target e)) → In e (inner k)) where
    outward : {n : ℕ} {met : S} {e : E} → Walk inside n met e → Walk g n met e
    outward (first r) = first r
    outward (next {n} {met} {last} {e} w edge free) = next (outward w) (less (g.target last) e edge) free

    inward : {n : ℕ} {met : S} {e : E} → Walk g n met e → (d : E) → In d (g.out (g.target e)) → Walk inside n met e
    inward (first r) d i = first r
    inward (next {n} {met} {last} {e} w edge free) d i = next (inward w e edge) (more (g.target last) e d edge i) free

    module _ (lawful : Lawful g) (ks : List K) (has : HasEdges g ks) (within : S → S
        → Bool) (covers : Covers g within) where
      lawful_inside : Lawful inside
      lawful_inside = record { decides = lawful.decides; itself = lawful.itself; bars_join = lawful.bars_join }

      covers_inside : Covers inside within
      covers_inside = record { bars_less = λ a b h. record { all = (covers.bars_less a b h).all } }

      pub lets_inner : (k : K) (e : E) → In e (g.out k) → is_let g (walked inside within (length ks)).table k e
          ≡ is_followed g (live_paths g (length ks)) k e
      lets_inner =
          let level : Level inside within lawful_inside covers_inside (length ks) (walked inside within (length ks)) =
          walked_holds inside within lawful_inside covers_inside (length ks) in
          lets_exact g lawful ks has within (walked inside within (length ks)).table
          (record {
            sound = λ k set m. let ends : Ends inside within set k =
                level.sound k set m in record {
                  count = ends.count;
                  last = ends.last;
                  at = ends.at;
                  walk =
                      outward ends.walk;
                };
            kept = λ m met e le w d i.
                let kept : Kept inside within (walked inside within (length ks)).table met (g.target e) =
                level.kept m met e le (inward w d i) in
                record { set = kept.set; member = kept.member; less = record { all = kept.less.all } };
          })

-- ---- lists

from_all : {A : Type 0} (P : A → Type 0) (xs : List A) → All P xs → (x : A) → In x xs → P x
from_all P [] all x h = elim h [ ]
from_all P (y ∷ xs) all x here = all 0 y (omega arith)
from_all P (y ∷ xs) all x (there h) = from_all P xs (λ i d l. all (suc i) d (omega (arith, l))) x h

to_all : {A : Type 0} (P : A → Type 0) (xs : List A) → ((x : A) → In x xs → P x) → All P xs
to_all P xs each i d l = each (get_or xs i d) (in_get xs i d l)

length-map : {A B : Type 0} (f : A → B) (xs : List A) → length (map f xs) ≡ length xs
length-map f [] = refl
length-map f (x ∷ xs) = ap suc (length-map f xs)

row_map : {A B : Type 0} (f : List A → List B) → f [] ≡ [] → (modules : List Module) (rows : List (List A)) (m : Module)
    → row_at modules (map f rows) m ≡ f (row_at modules rows m)
row_map f none [] rows m = sym none
row_map f none (k ∷ modules) [] m = sym none
row_map f none (k ∷ modules) (row ∷ rows) m = by (row_map f none modules rows m) (module_eq m k)
  where
    by : row_at modules (map f rows) m ≡ f (row_at modules rows m) → (t : Bool)
        → cond t (f row) (row_at modules (map f rows) m) ≡ f (cond t row (row_at modules rows m))
    by later true = refl
    by later false = later

-- a member of a module's row is one of some row
row_in : {A : Type 0} (modules : List Module) (rows : List (List A)) (m : Module) (x : A) → In x (row_at modules rows m)
    → (row : List A) × In row rows × In x row
row_in [] rows m x h = elim h [ ]
row_in (k ∷ modules) [] m x h = elim h [ ]
row_in {A = A} (k ∷ modules) (row ∷ rows) m x h = by (row_in modules rows m x) (module_eq m k) h
  where
    by : (In x (row_at modules rows m) → (r : List A) × In r rows × In x r) → (t : Bool)
        → In x (cond t row (row_at modules rows m)) → (r : List A) × In r (row ∷ rows) × In x r
    by later true i = (row, here, i)
    by later false i = let r : (r : List A) × In r rows × In x r = later i in (r.0, there r.1, r.2)

-- ---- the graph of the code

at_place : (out : List (List Hop)) (place : ℕ) → hops_at out place ≡ get_or out place []
at_place [] place = refl
at_place (hops ∷ out) zero = refl
at_place (hops ∷ out) (suc place) = at_place out place

some_hops : (hops : List Hop) (f : Hop → Step) (d : Step) → In d (map f hops) → not (length hops == 0) ≡ true
some_hops [] f d h = elim h [ ]
some_hops (hop ∷ hops) f d h = by (length (hop ∷ hops) == 0) refl
  where
    by : (t : Bool) → (length (hop ∷ hops) == 0) ≡ t → not t ≡ true
    by true e = absurd (let q : length (hop ∷ hops) ≡ 0 = eqb-true (length (hop ∷ hops)) 0 e in omega (arith, q))
    by false e = refl

module _ (modules : List Module) (out : List (List Hop)) where
  pub rows_inside : length out ≡ length modules → length (inner_out out) ≡ length modules
  rows_inside n = length-map (inner_hops out) out ∙ n

  pub hops_inside : (n : ℕ) → All (λ hops. AreHops n hops) out → All (λ hops. AreHops n hops) (inner_out out)
  hops_inside n fits =
      to_all (λ hops. AreHops n hops) (inner_out out)
      (λ row i.
      let m : Mapped (inner_hops out) row out = from_map (inner_hops out) row out i in
      subst (λ z. AreHops n z) (sym m.is)
      (to_all (λ (hop : Hop). hop.to < n) (inner_hops out m.one)
      (λ hop j.
      let p : Passed (λ (h : Hop). goes_on out h.to) hop m.one =
      from_filter (λ (h : Hop). goes_on out h.to) hop m.one j in
      from_all (λ (h : Hop). h.to < n) m.one (from_all (λ hops. AreHops n hops) out fits m.one m.member) hop p.member)))

  row_inside : (m : Module) → row_at modules (inner_out out) m ≡ inner_hops out (row_at modules out m)
  row_inside m = row_map (inner_hops out) refl modules out m

  pub less_inside : (k : Module) (e : Step) → In e (out_of modules (inner_out out) k) → In e (out_of modules out k)
  less_inside k e h =
      let m : Mapped (hop_step modules) e (inner_hops out (row_at modules out k)) =
      from_map (hop_step modules) e (inner_hops out (row_at modules out k))
      (subst (λ z. In e (map (hop_step modules) z)) (row_inside k) h) in
      let p : Passed (λ (hop : Hop). goes_on out hop.to) m.one (row_at modules out k) =
      from_filter (λ (hop : Hop). goes_on out hop.to) m.one (row_at modules out k) m.member in
      subst (λ z. In z (out_of modules out k)) (sym m.is) (in_map (hop_step modules) p.member)

  module _ (rows : length out ≡ length modules) (apart : AreDistinct modules)
      (fits : All (λ hops. AreHops (length modules) hops) out) where
    pub more_inside : (k : Module) (e d : Step) → In e (out_of modules out k) → In d (out_of modules out e.target)
        → In e (out_of modules (inner_out out) k)
    more_inside k e d h i =
        let m : Mapped (hop_step modules) e (row_at modules out k) =
        from_map (hop_step modules) e (row_at modules out k) h in
        let r : (row : List Hop) × In row out × In m.one row = row_in modules out k m.one m.member in
        let to : m.one.to < length modules =
        from_all (λ (hop : Hop). hop.to < length modules) r.0
        (from_all (λ hops. AreHops (length modules) hops) out fits r.0 r.1) m.one r.2 in
        let ends : row_at modules out (module_at modules m.one.to) ≡ hops_at out m.one.to =
        row_here modules out m.one.to (sym rows) apart (omega (arith, rows, to)) ∙ sym (at_place out m.one.to) in
        let there_is : In d (map (hop_step modules) (hops_at out m.one.to)) =
        subst (λ z. In d (map (hop_step modules) z)) ends
        (subst (λ (z : Step). In d (out_of modules out z.target)) m.is i) in
        let inner : In m.one (inner_hops out (row_at modules out k)) =
        in_filter (λ (hop : Hop). goes_on out hop.to)
        (some_hops (hops_at out m.one.to) (hop_step modules) d there_is) m.member in
        subst (λ z. In z (out_of modules (inner_out out) k)) (sym m.is)
        (subst (λ z. In (hop_step modules m.one) (map (hop_step modules) z)) (sym (row_inside k))
        (in_map (hop_step modules) inner))
