-- Live paths rest on the edges of the modules at their ends alone, and more edges only add to them.
use Rattle.std.proofs.Common.{◌≡◌, ℕ, zero, suc, Bool, true, false, cond, not, ◌||◌, ◌&&◌, List, [], ◌∷◌, ◌++◌, filter, length, map, refl, sym, ◌∙◌, ap, subst}
use Rattle.std.specs.List.{flat_map, list_any}
use Rattle.live_walk.specs.Graphs.{Graph, HasEdges, In, Lawful, here, there}
use Rattle.live_walk.specs.Paths.{IsLast, Live, Way, begin, end_of, ends_at, followed, go, is_followed, last_edges, levels, live_paths, longer, returns, start, step}
use Rattle.live_walk.proofs.Answered.{last_live, live_last}
use Rattle.live_walk.proofs.Members.{Passes, and_both, in_back, in_from_any, in_front}

pub flat_map_on : {A B : Type 0} (f h : A → List B) (xs : List A) → ((x : A) → In x xs → f x ≡ h x)
    → flat_map f xs ≡ flat_map h xs
flat_map_on f h [] e = refl
flat_map_on f h (x ∷ xs) e = let a : f x ≡ h x = e x here in let b : flat_map f xs ≡ flat_map h xs =
    flat_map_on f h xs (λ y m. e y (there m)) in rw (a, b) refl

filter_none : {A : Type 0} (test : A → Bool) → ((x : A) → test x ≡ false) → (xs : List A) → filter test xs ≡ []
filter_none test h [] = refl
filter_none test h (x ∷ xs) = rw (h x, filter_none test h xs) refl

none_of_both : {A : Type 0} (s t : A → Bool) (xs : List A) → list_any s xs ≡ false → list_any (λ x. s x && t x) xs
    ≡ false
none_of_both s t [] h = refl
none_of_both s t (x ∷ xs) h = by (none_of_both s t xs) (s x) refl h
  where
    by : (list_any s xs ≡ false → list_any (λ x. s x && t x) xs ≡ false) → (b : Bool) → s x ≡ b
        → (b || list_any s xs) ≡ false → ((s x && t x) || list_any (λ x. s x && t x) xs) ≡ false
    by later true e k = absurd (cc)
    by later false e k = rw e (later k)

module _ {K E S : Type 0} (g : Graph K E S) (other : K → List E) where
  abbrev pub but : Graph K E S
  but = record g { out = other }

  same_longer : (p : Way K E S) → other (end_of g p) ≡ g.out (end_of g p) → longer but p ≡ longer g p
  same_longer p e =
      ap (λ es. cond (returns g p) [] (map (step g p) (filter (λ d. not (g.bars p.met (g.target d))) es))) e

  levels_same : (n : ℕ) (paths : List (Way K E S))
      → ((p : Way K E S) → In p (levels g n paths) → other (end_of g p) ≡ g.out (end_of g p))
      → levels but n paths ≡ levels g n paths
  levels_same zero paths all = refl
  levels_same (suc n) paths all =
      ap (λ z. paths ++ levels but n z)
      (flat_map_on (longer but) (longer g) paths (λ p m. same_longer p (all p (in_front _ m))))
      ∙ ap (λ z. paths ++ z) (levels_same n (flat_map (longer g) paths) (λ p m. all p (in_back paths m)))

  module _ (decides : (k l : K) → g.same k l ≡ true → k ≡ l) where
    followed_same : (paths : List (Way K E S)) (k : K)
        → ((p : Way K E S) → In p paths → other (end_of g p) ≡ g.out (end_of g p))
        → followed but paths k ≡ followed g paths k
    followed_same paths k all = by (list_any (ends_at g k) paths) refl
      where
        by : (t : Bool) → list_any (ends_at g k) paths ≡ t → filter (is_followed g paths k) (other k)
            ≡ filter (is_followed g paths k) (g.out k)
        by true e =
            let p : Passes (ends_at g k) paths = in_from_any (ends_at g k) paths e in
            let at : k ≡ end_of g p.one =
            decides k (end_of g p.one) (and_both (g.same k (end_of g p.one)) _ p.passes).0 in
            ap (filter (is_followed g paths k)) (subst (λ z. other z ≡ g.out z) (sym at) (all p.one p.member))
        by false e =
            let none : (d : E) → is_followed g paths k d ≡ false =
            (λ d. none_of_both (ends_at g k) (λ (p : Way K E S). not (g.bars p.met (g.target d))) paths e) in
            filter_none _ none (other k) ∙ sym (filter_none _ none (g.out k))

    pub last_edges_same : (ks : List K)
        → ((p : Way K E S) → In p (live_paths g (length ks)) → other (end_of g p) ≡ g.out (end_of g p))
        → last_edges but ks ≡ last_edges g ks
    last_edges_same ks all =
        let paths : live_paths but (length ks) ≡ live_paths g (length ks) =
        levels_same (length ks) (map (begin g) g.roots) all in
        ap (λ z. g.roots ++ flat_map (followed but z) ks) paths
        ∙ ap (λ z. g.roots ++ z)
        (flat_map_on (followed but (live_paths g (length ks))) (followed g (live_paths g (length ks))) ks
        (λ k m. followed_same (live_paths g (length ks)) k all))

  module _ (more : (k : K) (e : E) → In e (g.out k) → In e (other k)) where
    more_live : {p : Way K E S} → Live g p → Live but p
    more_live (start r) = start r
    more_live (go {p} {e} l fresh edge free) = go (more_live l) fresh (more (end_of g p) e edge) free

    pub last_more : Lawful g → (ks : List K) → HasEdges g ks → HasEdges but ks → (e : E) → In e (last_edges g ks)
        → In e (last_edges but ks)
    last_more lawful ks has has_more e m =
        let last : IsLast g e = last_live g lawful ks has e m in
        let lawful_too : Lawful but =
        record { decides = lawful.decides; itself = lawful.itself; bars_join = lawful.bars_join } in
        subst (λ z. In z (last_edges but ks)) last.last (live_last but lawful_too ks has_more (more_live last.live))
