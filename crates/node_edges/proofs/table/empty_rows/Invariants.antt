use Rattle.std.proofs.Common.{◌≡◌, ℕ, [], length}
use Rattle.node_edges.specs.Table.{row_at}
use Rattle.node_edges.proofs.table.empty_rows.Given as goal

abbrev pub invariant-loop-row : goal.invariant-loop-row
invariant-loop-row l = record { size : length l.made.items ≡ l._row; empty : (place : ℕ) → row_at l.made.items place ≡ [] }
