use Rattle.std.proofs.Common.{◌≡◌, [], drop, fold}
use Rattle.round_core.specs.Verdicts.{faults_in, with_chosen, with_project}
use Rattle.round_core.proofs.verdict.FaultTable.of.Given as goal

abbrev pub invariant-loop-project : goal.invariant-loop-project
invariant-loop-project l = fold with_project l.made (drop l.project-index l.reached.boms)
    ≡ fold with_project [] l.reached.boms

abbrev pub invariant-loop-chosen : goal.invariant-loop-chosen
invariant-loop-chosen l = fold with_chosen l.made (drop l.chosen-index l.reached.projects) ≡ faults_in l.reached
