use Rattle.std.proofs.Common.{◌≡◌, take}
use Rattle.live_walk.specs.Numbers.{lets_row}
use Rattle.live_walk.proofs.walk.flags_of.Given as goal

abbrev pub invariant-loop-hop : goal.invariant-loop-hop
invariant-loop-hop l = l.made ≡ lets_row l.modules (take l.hop-index l.hops) l.sets
