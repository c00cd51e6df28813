use Rattle.std.proofs.Common.{◌+◌, Err, ap, length, arith, sym, ◌∙◌}
use Rattle.fault_place.specs.Reader.{Accepts}
use Rattle.cache_layout.specs.Fields.{IsFieldsText}
use Rattle.cache_layout.proofs.Refused.{at_bad_line, err_same, moved_from}
use Rattle.cache_layout.proofs.Tailed.{fields_tail}
use Rattle.cache_layout.proofs.Tails.{in_field, in_rest, no_space}
use Rattle.cache_layout.proofs.record_lines.read_fields.Goals as goal

pub returns-in_default-clause-refused : goal.returns-in_default-clause-refused
returns-in_default-clause-refused c = λ n e. at_bad_line (Accepts (IsFieldsText c.args.second)) c.args.text.now 0 n e
    (no_space (fields_tail c.args.second) c.args.text.now (λ rest. c.in_default.ensures.none rest))

pub moved-requires : goal.moved-requires
moved-requires c = λ n e.
    let within = (c.in-Err.ensures.refused n (ap Err e)).within in
    omega (arith, within)

pub returns-in-Err-clause-refused : goal.returns-in-Err-clause-refused
returns-in-Err-clause-refused c = λ n e.
    let cut = c.part-cut.result in
    let from = moved_from c.in-Err.refusal 1 n (sym c.moved.ensures ∙ err_same c.moved.result _ e) in
    let count = from.now in
    in_field (fields_tail c.args.second) c.args.text.now c.in-Some.after.now cut.first.now cut.rest.now
    from.place n c.in-Some.ensures.rest c.part-cut.ensures.whole
    c.part-cut.ensures.before (omega (arith, count)) (c.in-Err.ensures.refused from.place (ap Err from.was))

pub returns-in-Err-read_digests-clause-refused : goal.returns-in-Err-read_digests-clause-refused
returns-in-Err-read_digests-clause-refused c = λ n e.
    let cut = c.part-cut.result in
    at_bad_line (Accepts (IsFieldsText c.args.second)) c.args.text.now
    (1 + length cut.first.now + c.in-Err-read_digests.place) n e
    (in_rest (fields_tail c.args.second) c.args.text.now c.in-Some.after.now cut.first.now cut.rest.now c.in-Err-read_digests.place
    (1 + length cut.first.now + c.in-Err-read_digests.place) c.in-Some.ensures.rest c.part-cut.ensures.whole
    c.part-cut.ensures.before (omega arith) (c.in-Ok.checks, c.in-Ok.ensures.read) c.in-Err-read_digests.ensures.refused)
