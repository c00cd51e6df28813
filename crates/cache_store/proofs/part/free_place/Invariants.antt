use Rattle.std.proofs.Common.{ℕ, ◌<◌, IsSome}
use Rattle.cache_store.specs.Parts.{part_at}
use Rattle.cache_store.proofs.part.free_place.Given as goal

abbrev pub invariant-loop-i : goal.invariant-loop-i
invariant-loop-i l = (j : ℕ) → j < l.i → IsSome (part_at l.fn.parts.items j)
