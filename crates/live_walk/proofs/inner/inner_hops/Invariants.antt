use Rattle.std.proofs.Common.{◌≡◌, take}
use Rattle.live_walk.specs.Numbers.{inner_hops}
use Rattle.live_walk.proofs.inner.inner_hops.Given as goal

abbrev pub invariant-loop-hop : goal.invariant-loop-hop
invariant-loop-hop l = l.made ≡ inner_hops l.out (take l.hop-index l.hops)
