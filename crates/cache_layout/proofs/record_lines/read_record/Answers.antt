use Rattle.std.proofs.Common.{◌≡◌, ◌++◌, Err, ap, arith, length, subst, sym, ◌∙◌}
use Rattle.std.proofs.lemmas.List.{length-append}
use Rattle.fault_place.specs.Place.{IsPlace}
use Rattle.fault_place.specs.Reader.{Accepts}
use Rattle.cache_layout.specs.Fields.{format_head}
use Rattle.cache_layout.specs.Lines.{IsRecordLine}
use Rattle.cache_layout.proofs.Heads.{head_line, leaves_head, leaves_heads}
use Rattle.cache_layout.proofs.LineLaws.{back, none_outside}
use Rattle.cache_layout.proofs.Refused.{at_bad_line, err_same, moved_from}
use Rattle.cache_layout.proofs.record_lines.read_record.Goals as goal

pub moved-requires : goal.moved-requires
moved-requires c = λ n e.
    let within = (c.in-Err.ensures.refused n (ap Err e)).within in
    let begin = format_head c.in-Some.head.second in
    let whole : length c.args.bytes.now ≡ length (begin ++ c.in-Some.head.rest.now) =
    ap (λ t. length t) c.in-Some.ensures.some in
    let parts = length-append begin c.in-Some.head.rest.now in
    omega (arith, within, whole, parts)

pub returns-in-None-clause-none : goal.returns-in-None-clause-none
returns-in-None-clause-none c = λ n e. none_outside c.args.bytes.now
    (leaves_heads c.args.bytes.now (λ rest. c.in-None.ensures.no_first rest)
    (λ rest. c.in-None.ensures.no_second rest)).outside

pub returns-in-None-clause-refused : goal.returns-in-None-clause-refused
returns-in-None-clause-refused c = λ n e.
    at_bad_line (Accepts IsRecordLine) c.args.bytes.now c.heads_end.result n e
    (subst (IsPlace (Accepts IsRecordLine) c.args.bytes.now) (sym c.heads_end.ensures)
    (leaves_heads c.args.bytes.now (λ rest. c.in-None.ensures.no_first rest)
    (λ rest. c.in-None.ensures.no_second rest)))

pub returns-in-Ok-clause-read : goal.returns-in-Ok-clause-read
returns-in-Ok-clause-read c = head_line c.in-Some.head.second c.args.bytes.now c.in-Some.head.rest.now c.in-Ok.entry
    c.in-Some.ensures.some c.in-Ok.ensures.read

pub returns-in-Ok-clause-value : goal.returns-in-Ok-clause-value
returns-in-Ok-clause-value c = back c.args.bytes.now c.in-Ok.entry
    (head_line c.in-Some.head.second c.args.bytes.now c.in-Some.head.rest.now c.in-Ok.entry
    c.in-Some.ensures.some c.in-Ok.ensures.read)

pub returns-in-Err-clause-refused : goal.returns-in-Err-clause-refused
returns-in-Err-clause-refused c = λ n e.
    let from = moved_from c.in-Err.refusal 16 n (sym c.moved.ensures ∙ err_same c.moved.result _ e) in
    leaves_head c.in-Some.head.second c.args.bytes.now c.in-Some.head.rest.now from.place n c.in-Some.ensures.some
    from.now (c.in-Err.ensures.refused from.place (ap Err from.was))

pub returns-in-Err-clause-none : goal.returns-in-Err-clause-none
returns-in-Err-clause-none c = λ n e.
    let from = moved_from c.in-Err.refusal 16 n (sym c.moved.ensures ∙ err_same c.moved.result _ e) in
    none_outside c.args.bytes.now
    (leaves_head c.in-Some.head.second c.args.bytes.now c.in-Some.head.rest.now from.place n c.in-Some.ensures.some
    from.now (c.in-Err.ensures.refused from.place (ap Err from.was))).outside
