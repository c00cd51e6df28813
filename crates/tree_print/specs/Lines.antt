-- The lines of the tree.
use Rattle.std.specs.Prelude.{ℕ, zero, suc, Bool, true, false, List, [], ◌∷◌, ◌++◌, length, map, nat_eq}
use Rattle.std.specs.List.{list_any}
use Rattle.node_edges.specs.Edges.{edges_of, root_edges}
use Rattle.resolution.specs.declared.settled.Edge.{Edge}

-- an edge that is to be printed, and its depth
pub record Branch : Type 0 where
  pub depth : ℕ
  pub edge : Edge

-- the line of an edge at its depth, and whether a line of the module that it leads to stands above
pub record Line : Type 0 where
  pub depth : ℕ
  pub edge : Edge
  pub above : Bool

abbrev pub branch_at : ℕ → Edge → Branch
branch_at depth e = record { depth = depth; edge = e }

abbrev pub line_at : ℕ → Edge → Bool → Line
line_at depth e above = record { depth = depth; edge = e; above = above }

-- whether a module is among those of the lines above
abbrev pub is_among : List ℕ → ℕ → Bool
is_among above target = list_any (nat_eq target) above

abbrev pub line_of : List ℕ → Branch → Line
line_of above branch = line_at branch.depth branch.edge (is_among above branch.edge.target)

-- a module's edges stand below its first line, one deeper
abbrev pub children : List Edge → Bool → Branch → List Branch
children edges true branch = []
children edges false branch = map (branch_at (suc branch.depth)) (edges_of edges branch.edge.target)

-- at most so many lines of these branches, where the lines above are of these modules: children follow their parent
-- at once
abbrev pub lines : List Edge → ℕ → List ℕ → List Branch → List Line
lines edges zero above branches = []
lines edges (suc left) above [] = []
lines edges (suc left) above (branch ∷ branches) =
    line_of above branch
    ∷ lines edges left (branch.edge.target ∷ above)
    (children edges (is_among above branch.edge.target) branch ++ branches)

abbrev pub root_branches : List Edge → List Branch
root_branches edges = map (branch_at 0) (root_edges edges)

-- the lines of the roots; there are no more lines than edges
abbrev pub tree_lines : List Edge → List Line
tree_lines edges = lines edges (length edges) [] (root_branches edges)
