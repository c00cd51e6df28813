-- What the stack of the code holds, its top last.
use Rattle.std.specs.Prelude.{◌≡◌, ◌<◌, ◌≤◌, ℕ, Bool, Option, Some, List, ◌∷◌, ◌++◌, All}
use Rattle.std.specs.Prelude.{length, map, reverse, slice_get}
use Rattle.resolution.specs.declared.settled.Edge.{Edge}
use Rattle.resolution.specs.declared.settled.Settled.{Settled}
use Rattle.tree_print.specs.Lines.{Branch, children, is_among, line_of}
use Rattle.tree_print.specs.Texts.{line_text}
use Rattle.tree_print.specs.declared.pending.Pending.{Pending}

abbrev pub pending_at : ℕ → ℕ → Pending
pending_at depth at = record { depth = depth; at = at }

abbrev pub found : List Edge → Pending → ℕ × Option Edge
found edges pending = (pending.depth, slice_get edges pending.at)

abbrev pub wanted : Branch → ℕ × Option Edge
wanted branch = (branch.depth, Some branch.edge)

-- which modules stand above
abbrev pub Marks : List Bool → List ℕ → Type 0
Marks marks above = (place : ℕ) → place < length marks → slice_get marks place ≡ Some (is_among above place)

-- marks for the modules above, and a stack of these branches
pub record IsState (edges : List Edge) (marks : List Bool) (stack : List Pending)
    (above : List ℕ) (branches : List Branch) : Type 0 where
  pub marked : Marks marks above
  pub held : map (found edges) (reverse stack) ≡ map wanted branches

-- how deep branches are at most
abbrev pub IsWithin : ℕ → List Branch → Type 0
IsWithin depth branches = All (λ (branch : Branch). branch.depth ≤ depth) branches

-- a line more in the text, a module more above, and its children on the stack
pub record IsStep (settled : Settled) (marks : List Bool) (stack : List Pending) (text : List ℕ)
    (marks' : List Bool) (stack' : List Pending) (text' : List ℕ) : Type 0 where
  pub line : (above : List ℕ) (branch : Branch) (branches : List Branch)
      → IsState settled.edges marks stack above (branch ∷ branches)
      → text' ≡ text ++ line_text settled.nodes (line_of above branch)
  pub rest : (above : List ℕ) (branch : Branch) (branches : List Branch)
      → IsState settled.edges marks stack above (branch ∷ branches)
      → IsState settled.edges marks' stack' (branch.edge.target ∷ above)
      (children settled.edges (is_among above branch.edge.target) branch ++ branches)
