-- What the table of edges holds.
use Rattle.std.specs.Prelude.{◌≡◌, ◌<◌, ℕ, Option, Some, List, [], length, map, slice_get, slice_index_or}
use Rattle.resolution.specs.declared.settled.Edge.{Edge}
use Rattle.node_edges.specs.Edges.{edges_of, root_edges}
use Rattle.node_edges.specs.declared.table.EdgeTable.{EdgeTable}

-- the row of a node
abbrev pub row_at : List (List ℕ) → ℕ → List ℕ
row_at rows place = slice_index_or rows place []

-- at these places stand these edges
abbrev pub ArePlaces : List Edge → List ℕ → List Edge → Type 0
ArePlaces edges places found = map (slice_get edges) places ≡ map (λ (e : Edge). Some e) found

-- a row for each of so many nodes, with the places of the node's edges
pub record IsTable (edges : List Edge) (count : ℕ) (table : EdgeTable) : Type 0 where
  pub size : length table.rows ≡ count
  pub roots : ArePlaces edges table.roots (root_edges edges)
  pub rows : (place : ℕ) → place < count → ArePlaces edges (row_at table.rows place) (edges_of edges place)
