-- The table of a world is filled from the last row to the first.
use Rattle.std.proofs.Common.{◌≡◌}
use Rattle.link_base.proofs.world_files.WorldFiles.prepare.Given as goal

abbrev pub invariant-loop-self : goal.invariant-loop-self
invariant-loop-self l = l.self.world ≡ l.initial.self.world

abbrev pub decreases-loop-self : goal.decreases-loop-self
decreases-loop-self l = l.self.from
