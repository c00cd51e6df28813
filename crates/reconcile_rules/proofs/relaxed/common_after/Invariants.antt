use Rattle.std.proofs.Common.{◌≡◌, false, drop, map}
use Rattle.std.specs.Prelude.{fold, filter}
use Rattle.std.specs.Option.{option_copied}
use Rattle.interval_sets.specs.Intervals.{between, is_empty}
use Rattle.version_order.specs.Ranks.{items_cmp}
use Rattle.reconcile_rules.specs.Apart.{common_of}
use Rattle.reconcile_rules.specs.Relaxed.{is_after}
use Rattle.reconcile_rules.proofs.relaxed.common_after.Given as goal

abbrev pub invariant-loop-request : goal.invariant-loop-request
invariant-loop-request l =
    (fold (between items_cmp) l.made (map (λ r. r.interval) (filter (is_after (option_copied l.dropped)) (drop l.request-index l.asked))) ≡ common_of (filter (is_after (option_copied l.dropped)) l.asked))
    × (is_empty items_cmp l.made ≡ false)
