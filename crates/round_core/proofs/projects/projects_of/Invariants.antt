use Rattle.std.proofs.Common.{◌≡◌, ◌≤◌, take}
use Rattle.res_base.specs.Known.{known_of}
use Rattle.round_core.specs.Projects.{projects_of}
use Rattle.round_core.proofs.projects.projects_of.Given as goal

abbrev pub invariant-loop-coord : goal.invariant-loop-coord
invariant-loop-coord g l =
    record {
      value : l.made ≡ projects_of (known_of l.known.pairs) l.known.repos (take l.coord-index l.coords);
      steps : l.fn.steps ≤ l.steps;
    }
