use Rattle.std.proofs.Common.{◌≡◌, take}
use Rattle.round_core.specs.Edges.{all_edges}
use Rattle.round_core.proofs.edges.all_edges.Given as goal

abbrev pub invariant-loop-project : goal.invariant-loop-project
invariant-loop-project l = l.made ≡ all_edges l.configuration (take l.project-index l.projects)
