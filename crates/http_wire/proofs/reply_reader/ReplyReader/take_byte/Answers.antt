use Rattle.std.proofs.Common.{refl, sym, ap, ◌∙◌, length}
use Rattle.http_wire.proofs.ReaderFacts.{byte_ends, byte_long, byte_goes}
use Rattle.http_wire.proofs.reply_reader.ReplyReader.take_byte.Goals as goal

pub returns-then-as_slice-eq-HEAD_LIMIT : goal.returns-then-as_slice-eq-HEAD_LIMIT
returns-then-as_slice-eq-HEAD_LIMIT c = λ limit bytes before h.
    byte_long c.args.self.now _ limit bytes c.args.byte before c.args.line c.in-Some.next c.push.new.self.items h
    c.requires (sym c.in-Some.ensures) c.in_ok-push.ensures.items
    (ap length (sym c.as_slice.ensures.value)
    ∙ c.if-as_slice-eq-HEAD_LIMIT.true) c.refuse.ensures.limit c.refuse.ensures.head c.refuse.ensures.phase

pub returns-in_ok-begin_body-in-None : goal.returns-in_ok-begin_body-in-None
returns-in_ok-begin_body-in-None c = λ limit bytes before h.
    let b = c.in_ok-begin_body-in-None.ensures.begun in
    byte_ends c.args.self.now _ limit bytes c.args.byte before c.args.line c.push.new.self.items b.0 h c.requires
    (sym c.in-None.ensures) c.in_ok-push.ensures.items c.in_ok-begin_body-in-None.ensures.limit b.1 b.2 b.3

pub returns-else-as_slice-eq-HEAD_LIMIT : goal.returns-else-as_slice-eq-HEAD_LIMIT
returns-else-as_slice-eq-HEAD_LIMIT c = λ limit bytes before h.
    byte_goes c.args.self.now _ limit bytes c.args.byte before c.args.line c.in-Some.next c.push.new.self.items h
    c.requires (sym c.in-Some.ensures) c.in_ok-push.ensures.items
    (λ e. c.if-as_slice-eq-HEAD_LIMIT.false (ap length c.as_slice.ensures.value ∙ e)) refl refl refl refl
