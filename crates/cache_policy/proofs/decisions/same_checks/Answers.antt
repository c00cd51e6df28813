use Rattle.std.proofs.Common.{◌≡◌, ◌<◌, length, refl, sym, ◌∙◌, arith}
use Rattle.cache_policy.proofs.CheckPlaces.{other_at, other_length, same_at, same_to_end}
use Rattle.cache_policy.proofs.decisions.same_checks.Goals as goal

pub returns-then-checks-others : goal.returns-then-checks-others
returns-then-checks-others c = sym (other_length c.args.checks.now c.args.others.now c.if-checks-others.true)

pub loop-i-init : goal.loop-i-init
loop-i-init c = refl

pub loop-i-preserved : goal.loop-i-preserved
loop-i-preserved c =
    let inside = c.loop-i-test.true in
    let same = c.if-checks-others.false in
    c.loop-i.invariant
    ∙ same_at c.args.checks.now c.args.others.now c.loop-i.i _ inside (omega (arith, inside, same))
    (sym c.check_number-mine.ensures ∙ c.if-mine-other.false ∙ c.check_number-other.ensures)

pub returns-then-mine-other : goal.returns-then-mine-other
returns-then-mine-other c =
    let inside = c.loop-i-test.true in
    let same = c.if-checks-others.false in
    sym (c.loop-i.invariant
    ∙ other_at c.args.checks.now c.args.others.now c.loop-i.i _ inside (omega (arith, inside, same))
    (λ e. c.if-mine-other.true (c.check_number-mine.ensures ∙ e ∙ sym c.check_number-other.ensures)))

pub returns : goal.returns
returns c =
    let past = c.loop-i-test.false in
    let same = c.if-checks-others.false in
    sym (c.loop-i.invariant
    ∙ same_to_end c.args.checks.now c.args.others.now c.loop-i.i past (omega (arith, past, same)))
