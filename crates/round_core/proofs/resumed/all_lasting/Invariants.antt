use Rattle.std.proofs.Common.{◌≡◌, map}
use Rattle.round_core.specs.Earlier.{lasting}
use Rattle.round_core.proofs.resumed.all_lasting.Given as goal

abbrev pub invariant-loop-project : goal.invariant-loop-project
invariant-loop-project l = l.made.items ≡ map lasting l.yielded
