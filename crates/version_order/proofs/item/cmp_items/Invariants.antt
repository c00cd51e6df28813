use Rattle.std.proofs.Common.{◌≡◌, map, drop}
use Rattle.version_order.specs.Ranks.{ranks_cmp}
use Rattle.version_order.specs.Kept.{rank_at}
use Rattle.version_order.proofs.item.cmp_items.Given as goal

-- what is left decides
abbrev pub invariant-loop-place : goal.invariant-loop-place
invariant-loop-place l =
    ranks_cmp (drop l.place (map (rank_at l.left) l.xs)) (drop l.place (map (rank_at l.right) l.ys)) ≡ ranks_cmp
    (map (rank_at l.left) l.xs) (map (rank_at l.right) l.ys)
