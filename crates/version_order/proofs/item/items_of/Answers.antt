use Rattle.std.proofs.Common.{rules, map, ap}
use Rattle.version_order.specs.Ranks.{rank}
use Rattle.version_order.proofs.Cutting.{items_cut}
use Rattle.version_order.proofs.item.items_of.Goals as goal

pub loop-i-init : goal.loop-i-init
loop-i-init c =
    record {
      begun = search rules;
      ranked = rw c.new-made.ensures.items (ap (map rank) (items_cut c.args.lowered.now));
      within = rw c.new-made.ensures.items (search rules);
      table = tt;
    }
