use Rattle.std.proofs.Common.{◌≡◌, fold}
use Rattle.artifact_files.specs.Files.{artifact_keys, with_file}
use Rattle.artifact_files.proofs.files.artifacts.Given as goal

abbrev pub invariant-loop-file : goal.invariant-loop-file
invariant-loop-file l = (fold (with_file l.settled.nodes) l.made l.file-iterator).keys ≡ artifact_keys l.settled
