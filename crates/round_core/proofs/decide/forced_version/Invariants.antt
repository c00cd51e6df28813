use Rattle.std.proofs.Common.{◌≡◌, drop}
use Rattle.round_core.specs.Decisions.{forced_version}
use Rattle.round_core.proofs.decide.forced_version.Given as goal

abbrev pub invariant-loop-coord : goal.invariant-loop-coord
invariant-loop-coord l = forced_version (drop l.coord-index l.forced) l.«module» ≡ forced_version l.forced l.«module»
