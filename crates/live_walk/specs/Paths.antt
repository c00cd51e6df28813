-- Live paths: a root edge and the edges that follow it. No module is left twice, and no edge leads to a module that an
-- edge before it excludes.
use Rattle.std.specs.Prelude.{◌≡◌, ℕ, zero, suc, Bool, true, false, not, ◌&&◌, List, [], ◌∷◌, ◌++◌, filter, map, length, if◌then◌else◌}
use Rattle.std.specs.List.{list_any, flat_map}
use Rattle.live_walk.specs.Graphs.{Graph, In}

-- a path, by the modules that it left, the exclusions that it met, and its last edge
pub record Way (K E S : Type 0) : Type 0 where
  pub left : List K
  pub met : S
  pub last : E

module _ {K E S : Type 0} (g : Graph K E S) where
  -- the module at the end of a path
  abbrev pub end_of : Way K E S → K
  end_of p = g.target p.last

  abbrev pub begin : E → Way K E S
  begin e = record { left = []; met = g.excludes e; last = e }

  -- one edge more
  abbrev pub step : Way K E S → E → Way K E S
  step p e = record { left = end_of p ∷ p.left; met = g.join p.met (g.excludes e); last = e }

  -- the module at the end was left before
  abbrev pub returns : Way K E S → Bool
  returns p = list_any (g.same (end_of p)) p.left

  pub data Live : Way K E S → Type 0 where
    start : {e : E} → In e g.roots → Live (begin e)
    go : {p : Way K E S} {e : E} → Live p → returns p ≡ false → In e (g.out (end_of p))
        → g.bars p.met (g.target e) ≡ false → Live (step p e)

  -- The same as a list that can be computed: by the number of edges.

  abbrev pub longer : Way K E S → List (Way K E S)
  longer p = if returns p then [] else map (step p) (filter (λ e. not (g.bars p.met (g.target e))) (g.out (end_of p)))

  abbrev pub levels : ℕ → List (Way K E S) → List (Way K E S)
  levels zero paths = paths
  levels (suc more) paths = paths ++ levels more (flat_map longer paths)

  -- those of at most so many edges after the root edge
  abbrev pub live_paths : ℕ → List (Way K E S)
  live_paths n = levels n (map begin g.roots)

  -- the path ends at the module, and may go on
  abbrev pub ends_at : K → Way K E S → Bool
  ends_at k p = g.same k (end_of p) && not (returns p)

  -- some of these paths goes on with an edge of the module
  abbrev pub is_followed : List (Way K E S) → K → E → Bool
  is_followed paths k e = list_any (λ p. ends_at k p && not (g.bars p.met (g.target e))) paths

  abbrev pub followed : List (Way K E S) → K → List E
  followed paths k = filter (is_followed paths k) (g.out k)

  -- The last edges of live paths, where `ks` are the modules with edges: a path leaves each of these once.
  abbrev pub last_edges : List K → List E
  last_edges ks = g.roots ++ flat_map (followed (live_paths (length ks))) ks

  -- an edge is the last one of a live path
  pub record IsLast (e : E) : Type 0 where
    pub way : Way K E S
    pub live : Live way
    pub last : way.last ≡ e
