use Rattle.std.proofs.Common.{◌≡◌, ◌++◌, drop}
use Rattle.std.specs.List.{flat_map}
use Rattle.sample_world.specs.Projects.{dependency_text, head_text}
use Rattle.sample_world.proofs.projects.project.Given as goal

abbrev pub invariant-loop-release : goal.invariant-loop-release
invariant-loop-release l =
    l.text ++ flat_map dependency_text (drop l.release-index l.release-items) ≡ head_text l.fn.release ++ flat_map dependency_text l.release-items
