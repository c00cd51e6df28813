use Rattle.std.proofs.Common.{◌++◌, map, slice_range, sym, ◌∙◌, ap}
use Rattle.version_order.specs.Ranks.{rank}
use Rattle.version_order.specs.Kept.{rank_at}
use Rattle.version_order.proofs.Steps.{separated, broken, grown, joined}
use Rattle.version_order.proofs.item.pass.Goals as goal

pub returns-then-is_separator-clause-value : goal.returns-then-is_separator-clause-value
returns-then-is_separator-clause-value c =
    let xs = c.args.lowered.now in
    let after = separated xs c.args.start c.args.i c.requires.begun c.requires.inside (sym c.is_separator.ensures ∙ c.if-is_separator.true) in
    joined _ _ (slice_range xs c.args.start c.args.i) _ _ c.in_ok-push_item.ensures.value after

pub returns-then-breaks_at-clause-value : goal.returns-then-breaks_at-clause-value
returns-then-breaks_at-clause-value c =
    let xs = c.args.lowered.now in
    let after = broken xs c.args.start c.args.i c.requires.begun c.requires.inside (sym c.is_separator.ensures ∙ c.if-is_separator.false) (sym c.breaks_at.ensures ∙ c.if-breaks_at.true) in
    joined _ _ (slice_range xs c.args.start c.args.i) _ _ c.in_ok-push_item-2.ensures.value after

pub returns-clause-value : goal.returns-clause-value
returns-clause-value c =
    let xs = c.args.lowered.now in
    ap (λ cut. map (rank_at xs) c.args.made.now.items ++ map rank cut)
    (grown xs c.args.start c.args.i c.requires.begun c.requires.inside (sym c.is_separator.ensures ∙ c.if-is_separator.false) (sym c.breaks_at.ensures ∙ c.if-breaks_at.false))
