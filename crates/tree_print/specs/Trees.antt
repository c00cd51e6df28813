-- What the lines of a tree are, by what stands below what.
use Rattle.std.specs.Prelude.{◌≡◌, ℕ, suc, true, false, List, [], ◌∷◌, ◌++◌}
use Rattle.node_edges.specs.Edges.{edges_of, root_edges}
use Rattle.resolution.specs.declared.settled.Edge.{Edge}
use Rattle.tree_print.specs.Lines.{Line, is_among, line_at}

-- `AreLines edges depth above wanted lines after`: below lines of the modules `above`, these are the lines of the
-- wanted edges at a depth; after them there are lines of the modules `after`.
pub data AreLines (edges : List Edge) : ℕ → List ℕ → List Edge → List Line → List ℕ → Type 0 where
  -- of no edge there is no line
  nothing : (depth : ℕ) (above : List ℕ) → AreLines edges depth above [] [] above
  -- an edge to a module with a line above has a line that says so, and nothing stands below it
  again : (depth : ℕ) (above : List ℕ) (e : Edge) (wanted : List Edge) (lines : List Line) (after : List ℕ)
      → is_among above e.target ≡ true
      → AreLines edges depth (e.target ∷ above) wanted lines after
      → AreLines edges depth above (e ∷ wanted) (line_at depth e true ∷ lines) after
  -- another edge has a line, and then come the lines of its module's edges, one deeper
  first : (depth : ℕ) (above : List ℕ) (e : Edge) (wanted : List Edge)
      → (below lines : List Line) (between after : List ℕ)
      → is_among above e.target ≡ false
      → AreLines edges (suc depth) (e.target ∷ above) (edges_of edges e.target) below between
      → AreLines edges depth between wanted lines after
      → AreLines edges depth above (e ∷ wanted) (line_at depth e false ∷ (below ++ lines)) after

-- the lines of the roots
abbrev pub IsTree : List Edge → List Line → Type 0
IsTree edges lines = (after : List ℕ) × AreLines edges 0 [] (root_edges edges) lines after
