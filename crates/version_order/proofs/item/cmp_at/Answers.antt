use Rattle.version_order.proofs.Places.{rank_at_place}
use Rattle.std.proofs.Common.{◌∙◌, ap}
use Rattle.version_order.specs.Ranks.{rank_cmp}
use Rattle.version_order.specs.Kept.{rank_at}
use Rattle.version_order.proofs.item.cmp_at.Goals as goal

pub returns : goal.returns
returns c =
    c.cmp_item.ensures
    ∙ ap (λ r. rank_cmp r (rank_at c.args.right.now c.item_at-2.result))
    (rank_at_place c.args.left.now c.args.xs.now c.args.place c.item_at.result c.item_at.ensures)
    ∙ ap (rank_cmp _) (rank_at_place c.args.right.now c.args.ys.now c.args.place c.item_at-2.result c.item_at-2.ensures)
