-- The order by items, place by place.
use Rattle.std.proofs.Common.{◌≡◌, ℕ, zero, suc, List, [], ◌∷◌, get_or, map, refl, ◌∙◌, ap}
use Rattle.version_order.specs.declared.item.Item.{Item}
use Rattle.version_order.specs.Kept.{rank_at}
use Rattle.version_order.specs.Ranks.{empty_rank}

-- the rank of the item at a place
pub rank_at_place : (lowered : List ℕ) (items : List Item) (place : ℕ) (item : Item)
    → item ≡ get_or items place (record { class = 5; start = 0; end = 0 })
    → rank_at lowered item ≡ get_or (map (rank_at lowered) items) place empty_rank
rank_at_place lowered items place item e = ap (rank_at lowered) e ∙ by items place
  where
    by : (items : List Item) (place : ℕ)
        → rank_at lowered (get_or items place (record { class = 5; start = 0; end = 0 })) ≡ get_or
        (map (rank_at lowered) items) place empty_rank
    by [] place = refl
    by (item ∷ items) zero = refl
    by (item ∷ items) (suc place) = by items place
