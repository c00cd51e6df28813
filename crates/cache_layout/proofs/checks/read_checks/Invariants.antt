use Rattle.std.proofs.Common.{length, ◌-◌}
use Rattle.cache_layout.proofs.CheckLists.{IsSoFar}
use Rattle.cache_layout.proofs.checks.read_checks.Given as goal

abbrev pub invariant-parts : goal.invariant-parts
invariant-parts l = IsSoFar l.names l.at l.checks

abbrev pub decreases-parts : goal.decreases-parts
decreases-parts l = length l.names - l.at
