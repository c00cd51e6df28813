-- A walk that may leave a module twice ends where a live path does, which is barred from no more.
use Rattle.std.specs.Prelude.{◌≡◌, ℕ, zero, suc, ◌≤◌, Bool, true, false, cond, ◌||◌, List, [], ◌∷◌, length}
use Rattle.std.proofs.Common.{refl, sym, ◌∙◌, ap, subst, arith, inl, inr}
use Rattle.std.specs.List.{list_any}
use Rattle.live_walk.specs.Graphs.{In, here, there, Graph}
use Rattle.live_walk.specs.Paths.{returns, Way, begin, step, Live, start, go}
use Rattle.live_walk.specs.Graphs.{Lawful}

module _ {K E S : Type 0} (g : Graph K E S) where
  -- n edges after the root, the exclusions that were met, and the last edge
  pub data Walk : ℕ → S → E → Type 0 where
    first : {e : E} → In e g.roots → Walk 0 (g.excludes e) e
    next : {n : ℕ} {met : S} {last e : E} → Walk n met last → In e (g.out (g.target last))
        → g.bars met (g.target e) ≡ false → Walk (suc n) (g.join met (g.excludes e)) e

  -- where a bars, b does
  pub record Within (a b : S) : Type 0 where
    pub all : (m : K) → g.bars a m ≡ true → g.bars b m ≡ true

  pub record LiveTo (met : S) (e : E) : Type 0 where
    pub way : Way K E S
    pub live : Live g way
    pub last : way.last ≡ e
    pub within : Within way.met met

  -- a live path that has not left k, and ends there
  pub record Fresh (met : S) (k : K) : Type 0 where
    pub way : Way K E S
    pub live : Live g way
    pub at : g.target way.last ≡ k
    pub not_left : list_any (g.same k) way.left ≡ false
    pub within : Within way.met met

  module _ (lawful : Lawful g) where
    pub kept_out : (a b : S) → Within a b → (m : K) → g.bars b m ≡ false → g.bars a m ≡ false
    kept_out a b w m h = by (g.bars a m) refl
      where
        by : (t : Bool) → g.bars a m ≡ t → g.bars a m ≡ false
        by false e = e
        by true e = absurd (let k : g.bars b m ≡ true = w.all m e in cc)

    or_grows : (s t u : Bool) → (s ≡ true → t ≡ true) → (s || u) ≡ true → (t || u) ≡ true
    or_grows true t u f h = rw (f refl)
    or_grows false true u f h = refl
    or_grows false false u f h = h

    pub within-join : (a b c : S) → Within a b → Within (g.join a c) (g.join b c)
    within-join a b c w =
        record {
          all =
              λ m h. lawful.bars_join b c m
              ∙ or_grows (g.bars a m) (g.bars b m) (g.bars c m) (w.all m) (sym (lawful.bars_join a c m) ∙ h);
        }

    within-front : (a c : S) → Within a (g.join a c)
    within-front a c = record { all = λ m h. lawful.bars_join a c m ∙ rw h }

    pub within-trans : (a b c : S) → Within a b → Within b c → Within a c
    within-trans a b c v w = record { all = λ m h. w.all m (v.all m h) }

    pub within_itself : (a : S) → Within a a
    within_itself a = record { all = λ m h. h }

    widened : (a b : S) (k : K) → Within a b → Fresh a k → Fresh b k
    widened a b k w f =
        record {
          way = f.way;
          live = f.live;
          at = f.at;
          not_left = f.not_left;
          within =
              within-trans f.way.met a b f.within w;
        }

    -- cut back to where k was left
    cut_back : {p : Way K E S} → Live g p → (k : K) → list_any (g.same k) p.left ≡ true → Fresh p.met k
    cut_back (start r) k h = absurd (cc)
    cut_back (go {p} {e} l fresh edge free) k h = by (λ r. cut_back l k r) (g.same k (g.target p.last)) refl
      where
        by : (list_any (g.same k) p.left ≡ true → Fresh p.met k) → (t : Bool) → g.same k (g.target p.last) ≡ t
            → Fresh (g.join p.met (g.excludes e)) k
        by deeper true q =
            let at_k : k ≡ g.target p.last = lawful.decides k (g.target p.last) q in
            record {
              way = p;
              live = l;
              at = sym at_k;
              not_left =
                  subst (λ z. list_any (g.same z) p.left ≡ false) (sym at_k) fresh;
              within =
                  within-front p.met (g.excludes e);
            }
        by deeper false q =
            let deep : list_any (g.same k) p.left ≡ true = rw q at h in
            widened p.met (g.join p.met (g.excludes e)) k (within-front p.met (g.excludes e)) (deeper deep)

    -- where a live path ends at k, one that did not leave k does
    pub fresh_at : {p : Way K E S} → Live g p → Fresh p.met (g.target p.last)
    fresh_at {p} l = by (returns g p) refl
      where
        by : (t : Bool) → returns g p ≡ t → Fresh p.met (g.target p.last)
        by false e = record { way = p; live = l; at = refl; not_left = e; within = within_itself p.met }
        by true e = cut_back l (g.target p.last) e

    -- a module at which a walk ends has a live path to it that did not leave it
    pub fresh_of : {n : ℕ} {met : S} {e : E} → Walk n met e → Fresh met (g.target e)
    fresh_of (first r) = fresh_at (start r)
    fresh_of (next {n} {met} {last} {e} w edge free) =
        let f : Fresh met (g.target last) = fresh_of w in
        let l : Live g (step g f.way e) =
        go f.live (subst (λ z. list_any (g.same z) f.way.left ≡ false) (sym f.at) f.not_left)
        (subst (λ z. In e (g.out z)) (sym f.at) edge) (kept_out f.way.met met f.within (g.target e) free)
        in widened (g.join f.way.met (g.excludes e)) (g.join met (g.excludes e)) (g.target e)
        (within-join f.way.met met (g.excludes e) f.within) (fresh_at l)

  -- a live path is a walk
  pub walk_of : {p : Way K E S} → Live g p → Walk (length p.left) p.met p.last
  walk_of (start r) = first r
  walk_of (go l fresh edge free) = next (walk_of l) edge free
