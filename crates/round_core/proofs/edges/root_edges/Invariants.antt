use Rattle.std.proofs.Common.{◌≡◌, ◌++◌, drop}
use Rattle.round_core.specs.Edges.{root_edges}
use Rattle.round_core.proofs.edges.root_edges.Given as goal

abbrev pub invariant-loop-place : goal.invariant-loop-place
invariant-loop-place l = l.made ++ root_edges l.excludes l.place (drop l.place l.roots)
    ≡ root_edges l.excludes 0 l.roots
