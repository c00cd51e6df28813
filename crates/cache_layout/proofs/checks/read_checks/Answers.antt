use Rattle.std.proofs.Common.{◌≡◌, ◌+◌, [], ◌∷◌, ◌++◌, length, drop, refl, subst, sym, ap, ◌∙◌}
use Rattle.std.proofs.lemmas.Bool.{eqb-false, eqb-true}
use Rattle.std.proofs.lemmas.List.{nil_from_length, take_rest}
use Rattle.fault_place.specs.Reader.{Accepts}
use Rattle.cache_layout.specs.Fields.{AreChecks}
use Rattle.cache_layout.specs.Lines.{checks_text}
use Rattle.cache_layout.proofs.CheckLists.{IsSoFar, so_far_bad, so_far_first, so_far_last, so_far_more}
use Rattle.cache_layout.proofs.Refused.{at_bad_line}
use Rattle.cache_layout.proofs.Words.{rest_some}
use Rattle.cache_layout.proofs.checks.read_checks.Goals as goal

pub parts-init : goal.parts-init
parts-init c = subst (IsSoFar c.args.names.now 0) (sym c.new-checks.ensures)
    (so_far_first c.args.names.now (λ e. eqb-false (length c.args.names.now) 0
    (sym c.is_empty.ensures ∙ c.if-is_empty.false) (ap (λ t. length t) e)))

pub returns-in-Err-clause-refused : goal.returns-in-Err-clause-refused
returns-in-Err-clause-refused c = λ n e.
    let cut = c.part-cut.result in
    at_bad_line (Accepts AreChecks) c.args.names.now (c.parts.at + c.in-Err.place) n e
    (so_far_bad c.args.names.now cut.first.now cut.rest.now c.parts.at c.in-Err.place c.parts.checks c.parts.invariant
    (sym (take_rest c.args.names.now c.parts.at) ∙ c.part-cut.ensures.whole) c.part-cut.ensures.before
    c.in-Err.ensures.refused)

pub parts-preserved : goal.parts-preserved
parts-preserved c =
    let cut = c.part-cut.result in
    let some = rest_some 124 cut.rest.now c.part-cut.ensures.before.begins
    (λ e. eqb-false (length cut.rest.now) 0 (sym c.is_empty-is_last.ensures ∙ c.if-is_last.false) (ap (λ t. length t) e)) in
    subst (IsSoFar c.args.names.now (c.parts.at + (length cut.first.now + 1))) (sym c.in_ok-push.ensures.ok)
    (so_far_more c.args.names.now cut.first.now cut.rest.now some.0 c.parts.at c.in-Ok.check c.parts.checks
    c.parts.invariant (sym (take_rest c.args.names.now c.parts.at) ∙ c.part-cut.ensures.whole) some.1
    c.in-Ok.ensures.read)

pub returns-then-is_empty-clause-read : goal.returns-then-is_empty-clause-read
returns-then-is_empty-clause-read c =
    nil_from_length c.args.names.now (eqb-true (length c.args.names.now) 0 (sym c.is_empty.ensures ∙ c.if-is_empty.true))
    ∙ ap checks_text (sym c.new-checks.ensures)

pub returns-then-is_last-clause-read : goal.returns-then-is_last-clause-read
returns-then-is_last-clause-read c =
    let cut = c.part-cut.result in
    let none : cut.rest.now ≡ [] = nil_from_length cut.rest.now
    (eqb-true (length cut.rest.now) 0 (sym c.is_empty-is_last.ensures ∙ c.if-is_last.true)) in
    so_far_last c.args.names.now cut.first.now cut.rest.now c.parts.at c.in-Ok.check c.parts.checks c.parts.invariant
    (sym (take_rest c.args.names.now c.parts.at) ∙ c.part-cut.ensures.whole) none c.in-Ok.ensures.read
    ∙ ap checks_text (sym c.in_ok-push.ensures.ok)
