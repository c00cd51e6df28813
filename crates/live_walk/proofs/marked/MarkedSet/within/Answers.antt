use Rattle.std.proofs.Common.{◌≡◌, ◌∙◌, ap}
use Rattle.exclusion_sets.specs.declared.excl_set.ExclSet.{ExclSet}
use Rattle.live_walk.specs.Marks.{cover_mask, own_mask}
use Rattle.live_walk.proofs.Marks.{apart}
use Rattle.live_walk.proofs.marked.MarkedSet.within.Goals as goal

pub returns-then-self-other : goal.returns-then-self-other
returns-then-self-other c =
    let own : c.self.inside.own ≡ own_mask c.args.self.now.rules =
    c.self.invariant.0 ∙ ap (λ (set : ExclSet). own_mask set.rules) c.self.view_is in
    let cover : c.other.inside.cover ≡ cover_mask c.args.other.now.rules =
    c.other.invariant.1 ∙ ap (λ (set : ExclSet). cover_mask set.rules) c.other.view_is in
    apart c.args.self.now c.args.other.now c.self.inside.own c.other.inside.cover own cover
    (λ same. c.if-self-other.true same)
