use Rattle.std.proofs.Common.{◌≡◌, drop, fold}
use Rattle.artifact_files.specs.Files.{files_of, with_edge}
use Rattle.artifact_files.proofs.files.FileTable.of.Given as goal

abbrev pub invariant-loop-edge : goal.invariant-loop-edge
invariant-loop-edge l = fold (with_edge l.settled.nodes) l.made (drop l.edge-index l.settled.edges) ≡ files_of l.settled
