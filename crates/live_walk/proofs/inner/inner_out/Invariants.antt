use Rattle.std.proofs.Common.{◌≡◌, map, take}
use Rattle.live_walk.specs.Numbers.{inner_hops}
use Rattle.live_walk.proofs.inner.inner_out.Given as goal

abbrev pub invariant-loop-hops : goal.invariant-loop-hops
invariant-loop-hops l = l.made ≡ map (inner_hops l.out) (take l.hops-index l.out)
