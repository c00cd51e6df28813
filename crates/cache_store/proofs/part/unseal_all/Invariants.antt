use Rattle.std.proofs.Common.{◌≡◌, ℕ, length, cond, ltb}
use Rattle.std.specs.Option.{option_map}
use Rattle.cache_store.specs.Parts.{part_at, unsealed}
use Rattle.cache_store.proofs.part.unseal_all.Given as goal

abbrev pub invariant-loop-i : goal.invariant-loop-i
invariant-loop-i l =
    (length l.parts.items ≡ length l.fn.parts.items)
    × ((j : ℕ) → part_at l.parts.items j
    ≡ cond (ltb j l.i) (option_map (unsealed l.name) (part_at l.fn.parts.items j)) (part_at l.fn.parts.items j))
