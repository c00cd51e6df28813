use Rattle.std.proofs.Common.{◌≡◌, ◌≤◌, ◌||◌, ◌-◌, ◌+◌, Bool, List, ◌∷◌, ap, sym, ◌∙◌, subst, drop, get_or, length, arith}
use Rattle.std.specs.Prelude.{is_some}
use Rattle.version_order.specs.Ranks.{items_cmp}
use Rattle.interval_sets.specs.Intervals.{is_empty, greater_lower, lesser_upper}
use Rattle.reconcile_rules.specs.Apart.{first_apart, from_first_apart, greatest_lower, least_upper, has_empty}
use Rattle.reconcile_rules.proofs.Partners.{grown, told_by, found_here, found_later}
use Rattle.reconcile_rules.proofs.apart.place_of_first.Goals as goal
use Rattle.reconcile_rules.proofs.apart.place_of_first.Goals.{then-is_empty, else-is_empty, then-has_partner, else-has_partner}

pub loop-passed-preserved : goal.loop-passed-preserved
loop-passed-preserved c =
    let asked = c.args.asked.now in
    let passed = c.loop-passed.passed in
    let lt = c.loop-passed-test.true in
    let d = c.index-asked-place.result in
    let inv = c.loop-passed.invariant in
    let r = get_or asked (length asked - 1 - passed) d in
    let later = drop (length asked - passed) asked in
    let empty : c.if-is_empty.has_empty ≡ (is_empty items_cmp r.interval || has_empty later) =
    elim c.if-is_empty.branch [
      | then-is_empty w ↦ w.has_empty-is ∙ w.if-is_empty.true ∙ ap (λ t. t || c.loop-passed.has_empty) (sym (sym c.is_empty.ensures ∙ w.if-is_empty.true))
      | else-is_empty w ↦ w.has_empty-is ∙ ap (λ t. t || c.loop-passed.has_empty) (sym (sym c.is_empty.ensures ∙ w.if-is_empty.false))
    ]
    ∙ ap (λ t. is_empty items_cmp r.interval || t) inv.4 in
    let told : is_some (first_apart r.interval (r ∷ later)) ≡ c.has_partner.result =
    told_by asked passed lt d c.has_partner.result c.if-is_empty.has_empty c.loop-passed.lower.now c.loop-passed.upper.now empty inv.2 inv.3 c.has_partner.ensures in
    let within : c.if-has_partner.first ≤ length asked =
    elim c.if-has_partner.branch [
      | then-has_partner w ↦ subst (λ k. k ≤ length asked) (sym w.first-is) (omega arith)
      | else-has_partner w ↦ subst (λ k. k ≤ length asked) (sym w.first-is) inv.0
    ] in
    let rest : drop c.if-has_partner.first asked ≡ from_first_apart (drop (length asked - (passed + 1)) asked) =
    elim c.if-has_partner.branch [
      | then-has_partner w ↦ ap (λ k. drop k asked) w.first-is ∙ found_here asked passed lt d (told ∙ w.if-has_partner.true)
      | else-has_partner w ↦ ap (λ k. drop k asked) w.first-is ∙ found_later asked passed lt d c.loop-passed.first inv.1 (told ∙ w.if-has_partner.false)
    ] in
    let before = grown asked passed lt d in (
      within,
      rest,
      c.greater_lower-lower.ensures ∙ ap (λ l. greater_lower items_cmp l r.interval.lower) inv.2 ∙ sym
          (ap greatest_lower before),
      c.lesser_upper-upper.ensures ∙ ap (λ u. lesser_upper items_cmp u r.interval.upper) inv.3 ∙ sym
          (ap least_upper before),
      empty ∙ sym (ap has_empty before),
    )
