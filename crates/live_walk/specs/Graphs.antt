-- Graphs whose edges exclude modules from there on.
use Rattle.std.specs.Prelude.{◌≡◌, Bool, true, ◌||◌, List, [], ◌∷◌}
use Rattle.std.specs.List.{list_any}

-- modules K, edges E, and sets of exclusions S
pub record Graph (K E S : Type 0) : Type 0 where
  pub roots : List E
  pub out : K → List E
  pub target : E → K
  pub excludes : E → S
  pub join : S → S → S
  pub bars : S → K → Bool
  pub same : K → K → Bool

pub data In {A : Type 0} (x : A) : List A → Type 0 where
  here : {xs : List A} → In x (x ∷ xs)
  there : {y : A} {xs : List A} → In x xs → In x (y ∷ xs)

-- modules are told apart, and a joined set bars what either bars
pub record Lawful {K E S : Type 0} (g : Graph K E S) : Type 0 where
  pub decides : (k l : K) → g.same k l ≡ true → k ≡ l
  pub itself : (k : K) → g.same k k ≡ true
  pub bars_join : (a b : S) (m : K) → g.bars (g.join a b) m ≡ (g.bars a m || g.bars b m)

-- each module with an edge is among these
pub record HasEdges {K E S : Type 0} (g : Graph K E S) (ks : List K) : Type 0 where
  pub has : (k : K) (e : E) → In e (g.out k) → list_any (g.same k) ks ≡ true
