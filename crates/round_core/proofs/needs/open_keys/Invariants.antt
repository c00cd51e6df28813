use Rattle.std.proofs.Common.{◌≡◌, [], drop, fold}
use Rattle.round_core.specs.Needs.{open_keys, with_bom, with_end}
use Rattle.round_core.proofs.needs.open_keys.Given as goal

abbrev pub invariant-loop-project : goal.invariant-loop-project
invariant-loop-project l = fold with_bom l.keys (drop l.project-index l.reached.boms) ≡ fold with_bom [] l.reached.boms

abbrev pub invariant-loop-edge : goal.invariant-loop-edge
invariant-loop-edge l = fold (with_end l.reached) l.keys (drop l.edge-index l.reached.last) ≡ open_keys l.reached
