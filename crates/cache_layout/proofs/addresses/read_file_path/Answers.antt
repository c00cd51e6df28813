use Rattle.std.proofs.Common.{◌≡◌, ◌++◌, [], length, drop, sym, ap, ◌∙◌}
use Rattle.std.proofs.lemmas.Bool.{eqb-false, eqb-true}
use Rattle.std.proofs.lemmas.List.{nil_from_length, take_rest}
use Rattle.cache_layout.proofs.AddressParts.{so_far_bad, so_far_first, so_far_last, so_far_more}
use Rattle.cache_layout.proofs.Words.{rest_some}
use Rattle.cache_layout.proofs.addresses.read_file_path.Goals as goal

pub parts-init : goal.parts-init
parts-init c = so_far_first c.args.text.now

pub returns-in-Err-clause-refused : goal.returns-in-Err-clause-refused
returns-in-Err-clause-refused c =
    let cut = c.part-cut.result in
    so_far_bad c.args.text.now cut.first.now cut.rest.now c.parts.at c.in-Err.place c.parts.invariant
    (sym (take_rest c.args.text.now c.parts.at) ∙ c.part-cut.ensures.whole) c.part-cut.ensures.before
    c.in-Err.ensures.refused

pub returns-then-is_empty-clause-read : goal.returns-then-is_empty-clause-read
returns-then-is_empty-clause-read c =
    let cut = c.part-cut.result in
    let none : cut.rest.now ≡ [] = nil_from_length cut.rest.now
    (eqb-true (length cut.rest.now) 0 (sym c.is_empty.ensures ∙ c.if-is_empty.true)) in
    so_far_last c.args.text.now cut.first.now cut.rest.now c.parts.at c.parts.invariant
    (sym (take_rest c.args.text.now c.parts.at) ∙ c.part-cut.ensures.whole) none c.in_default.ensures.read

pub parts-preserved : goal.parts-preserved
parts-preserved c =
    let cut = c.part-cut.result in
    let some = rest_some 47 cut.rest.now c.part-cut.ensures.before.begins
    (λ e. eqb-false (length cut.rest.now) 0 (sym c.is_empty.ensures ∙ c.if-is_empty.false) (ap (λ t. length t) e)) in
    so_far_more c.args.text.now cut.first.now cut.rest.now some.0 c.parts.at c.parts.invariant
    (sym (take_rest c.args.text.now c.parts.at) ∙ c.part-cut.ensures.whole) some.1 c.in_default.ensures.read
