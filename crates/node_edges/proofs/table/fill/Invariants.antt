use Rattle.std.proofs.Common.{◌≡◌, ◌<◌, ℕ, length, take}
use Rattle.node_edges.specs.Edges.{edges_of, root_edges}
use Rattle.node_edges.specs.Table.{ArePlaces, row_at}
use Rattle.node_edges.proofs.table.fill.Given as goal

abbrev pub invariant-loop-at : goal.invariant-loop-at
invariant-loop-at l =
    record {
      size : length l.rows ≡ length l.fn.rows;
      roots : ArePlaces l.edges l.roots (root_edges (take l.at l.edges));
      rows : (place : ℕ) → place < length l.fn.rows → ArePlaces l.edges (row_at l.rows place) (edges_of (take l.at l.edges) place);
    }
