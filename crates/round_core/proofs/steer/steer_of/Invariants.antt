use Rattle.std.proofs.Common.{◌≡◌, [], drop, fold}
use Rattle.round_core.specs.Steering.{steer, with_bom, with_root}
use Rattle.round_core.proofs.steer.steer_of.Given as goal

abbrev pub invariant-loop-project : goal.invariant-loop-project
invariant-loop-project l = fold with_bom l.made (drop l.project-index l.reached.boms) ≡ fold with_bom [] l.reached.boms

abbrev pub invariant-loop-root : goal.invariant-loop-root
invariant-loop-root l = fold (with_root l.reached) l.made (drop l.root-index l.roots) ≡ steer l.roots l.reached
