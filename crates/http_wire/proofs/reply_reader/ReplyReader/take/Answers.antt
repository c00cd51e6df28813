use Rattle.std.proofs.Common.{◌++◌, ◌∙◌, ap, sym, subst, take, drop, take-append-drop, append_assoc, length, ◌-◌, length-drop, arith}
use Rattle.std.proofs.lemmas.List.{take_all}
use Rattle.http_wire.specs.Outcomes.{IsOutcome}
use Rattle.http_wire.specs.Readers.{Reads}
use Rattle.http_wire.proofs.ReaderFacts.{reads_still, reads_then}
use Rattle.http_wire.proofs.PartFacts.{parts_err, part_none, part_then}
use Rattle.http_wire.proofs.reply_reader.ReplyReader.take.Goals as goal

pub returns-clause-reads : goal.returns-clause-reads
returns-clause-reads c = λ limit bytes before h.
    let n = c.in_ok-count.count in
    let xs = c.args.piece.now in
    let into = c.args.into.now.items in
    let old = c.args.self.now in
    let r = reads_still old c.take_head.new.self limit bytes (take n xs) into before
    (c.in_ok-count.ensures.reads limit bytes before h) in
    let rest = take_all (length xs - n) (drop n xs) (omega (arith, length-drop n xs)) in
    subst (λ p. Reads old c.take_body.new.self limit bytes p before into c.take_body.new.into.items)
    (take-append-drop n xs)
    (reads_then old c.take_head.new.self c.take_body.new.self limit bytes (take n xs)
    (drop n xs) into into c.take_body.new.into.items before r
    (subst (λ p. Reads c.take_head.new.self c.take_body.new.self limit (bytes
    ++ take n xs) p r.after into c.take_body.new.into.items) rest (c.in_ok-take_body.ensures.reads limit (bytes
    ++ take n xs) r.after r.read)))

pub returns-in_err-count-clause-part : goal.returns-in_err-count-clause-part
returns-in_err-count-clause-part c = parts_err c.args.self.now c.args.piece.now c.args.into.now.items
    c.args.into.now.items _ (λ limit bytes before after h o.
    part_none c.args.self.now limit bytes c.args.piece.now c.args.into.now.items before after h o)

pub returns-in_err-take_body-clause-part : goal.returns-in_err-take_body-clause-part
returns-in_err-take_body-clause-part c = parts_err c.args.self.now c.args.piece.now c.args.into.now.items
    c.take_body.new.into.items _ (λ limit bytes before after h o.
    let n = c.in_ok-count.count in
    let xs = c.args.piece.now in
    let into = c.args.into.now.items in
    let old = c.args.self.now in
    let r = reads_still old c.take_head.new.self limit bytes (take n xs) into before
    (c.in_ok-count.ensures.reads limit bytes before h) in
    let rest = take_all (length xs - n) (drop n xs) (omega (arith, length-drop n xs)) in
    let same = ap (λ p. bytes ++ p) (sym (take-append-drop n xs)) ∙ sym (append_assoc bytes (take n xs) (drop n xs))
    ∙ ap (λ p. (bytes ++ take n xs) ++ p) (sym rest) in
    part_then old c.take_head.new.self limit bytes
    (take n xs) into into c.take_body.new.into.items before after.content r
    (c.in_err-take_body.ensures.part limit (bytes
    ++ take n xs) r.after after r.read (subst (λ all. IsOutcome limit all after) same o)))
