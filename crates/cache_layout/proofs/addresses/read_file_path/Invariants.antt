use Rattle.std.proofs.Common.{length, ◌-◌}
use Rattle.cache_layout.proofs.AddressParts.{IsSoFar}
use Rattle.cache_layout.proofs.addresses.read_file_path.Given as goal

abbrev pub invariant-parts : goal.invariant-parts
invariant-parts l = IsSoFar l.text l.at

abbrev pub decreases-parts : goal.decreases-parts
decreases-parts l = length l.text - l.at
