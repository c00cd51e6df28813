use Rattle.std.proofs.Common.{◌≡◌, ◌+◌, take, sum_by}
use Rattle.res_base.specs.Known.{known_of}
use Rattle.round_core.specs.Earlier.{AreRight}
use Rattle.round_core.specs.Projects.{projects_in, steps_in}
use Rattle.round_core.proofs.projects.chosen_projects.Given as goal

abbrev pub invariant-loop-row : goal.invariant-loop-row
invariant-loop-row g l =
    record {
      right : AreRight (known_of l.known.pairs) l.known.repos l.left.projects.items;
      value : l.made ≡ projects_in (known_of l.known.pairs) l.known.repos (take l.row-index l.rows);
      steps : l.steps ≡ l.fn.steps + sum_by steps_in l.made;
    }
