-- The walk by levels, which has no paths: for each module the least sets of exclusions under which it is reached.
use Rattle.std.specs.Prelude.{ℕ, zero, suc, Bool, not, Option, None, Some, List, [], ◌∷◌, ◌++◌, filter, fold, position, if◌then◌else◌}
use Rattle.std.specs.List.{list_any}
use Rattle.live_walk.specs.Graphs.{Graph}

-- a module that is reached under a set
pub record Item (K S : Type 0) : Type 0 where
  pub place : K
  pub set : S

-- the sets of each module, and what the next level begins with
pub record State (K S : Type 0) : Type 0 where
  pub table : K → List S
  pub next : List (Item K S)

-- the sets that the new one is not within, and then the new one
abbrev pub with_set : {S : Type 0} → (S → S → Bool) → List S → S → List S
with_set within kept set = filter (λ old. not (within set old)) kept ++ set ∷ []

abbrev pub update : {K S : Type 0} → (K → K → Bool) → (K → List S) → K → List S → K → List S
update same table k kept j = if same j k then kept else table j

module _ {K S : Type 0} (same : K → K → Bool) (within : S → S → Bool) where
  -- nothing is new where a kept set is within this one
  abbrev pub put_unless : Option ℕ → State K S → K → S → State K S
  put_unless None s k set =
      record {
        table = update same s.table k (with_set within (s.table k) set);
        next =
            s.next ++ record { place = k; set = set } ∷ [];
      }
  put_unless (Some place) s k set = s

  abbrev pub put : State K S → K → S → State K S
  put s k set = put_unless (position (λ old. within old set) (s.table k)) s k set

module _ {K E S : Type 0} (g : Graph K E S) (within : S → S → Bool) where
  abbrev pub put_root : State K S → E → State K S
  put_root s e = put g.same within s (g.target e) (g.excludes e)

  abbrev pub after_roots : State K S → List E → State K S
  after_roots s edges = fold put_root s edges

  abbrev pub put_edge : S → State K S → E → State K S
  put_edge set s e = if g.bars set (g.target e) then s else put g.same within s (g.target e) (g.join set (g.excludes e))

  abbrev pub after_edges : S → State K S → List E → State K S
  after_edges set s edges = fold (put_edge set) s edges

  abbrev pub after_item : State K S → Item K S → State K S
  after_item s item = after_edges item.set s (g.out item.place)

  abbrev pub after_items : State K S → List (Item K S) → State K S
  after_items s work = fold after_item s work

  abbrev pub level : State K S → State K S
  level s = after_items (record { table = s.table; next = [] }) s.next

  abbrev pub after_levels : ℕ → State K S → State K S
  after_levels zero s = s
  after_levels (suc n) s = after_levels n (level s)

  abbrev pub nothing_yet : State K S
  nothing_yet = record { table = λ k. []; next = [] }

  abbrev pub walked : ℕ → State K S
  walked n = after_levels n (after_roots nothing_yet g.roots)

-- some kept set of the module does not bar the edge's target
abbrev pub is_let : {K E S : Type 0} → Graph K E S → (K → List S) → K → E → Bool
is_let g table k e = list_any (λ set. not (g.bars set (g.target e))) (table k)
