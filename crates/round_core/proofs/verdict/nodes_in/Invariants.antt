use Rattle.std.proofs.Common.{◌≡◌, take}
use Rattle.std.specs.List.{flat_map}
use Rattle.round_core.specs.Verdicts.{node_in}
use Rattle.round_core.proofs.verdict.nodes_in.Given as goal

abbrev pub invariant-loop-project : goal.invariant-loop-project
invariant-loop-project l = l.made ≡ flat_map node_in (take l.project-index l.reached.projects)
