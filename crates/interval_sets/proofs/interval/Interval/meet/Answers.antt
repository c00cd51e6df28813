use Rattle.std.proofs.Common.{◌≡◌, true, sym, ◌∙◌}
use Rattle.interval_sets.specs.Intervals.{between, is_empty}
use Rattle.interval_sets.proofs.Folds.{holds_between, holds_nothing}
use Rattle.interval_sets.proofs.interval.Interval.meet.Goals as goal

pub returns-then-leaves_nothing_to-clause-both : goal.returns-then-leaves_nothing_to-clause-both
returns-then-leaves_nothing_to-clause-both g c v =
    let nothing : is_empty g.V.Ranked.order (between g.V.Ranked.order c.args.self.now c.args.other.now) ≡ true =
    rw (← c.greater_lower-lower.ensures, ← c.lesser_upper-upper.ensures)
    (sym c.leaves_nothing_to.ensures ∙ c.if-leaves_nothing_to.true) in
    sym (holds_nothing g.met.V.Ranked.total (between g.V.Ranked.order c.args.self.now c.args.other.now) v nothing)
    ∙ holds_between g.met.V.Ranked.total c.args.self.now c.args.other.now v

pub returns-clause-both : goal.returns-clause-both
returns-clause-both g c v = rw (
  c.in_ok-copy.ensures,
  c.in_ok-copy-2.ensures,
  c.greater_lower-lower.ensures,
  c.lesser_upper-upper.ensures,
) (holds_between g.met.V.Ranked.total c.args.self.now c.args.other.now v)
