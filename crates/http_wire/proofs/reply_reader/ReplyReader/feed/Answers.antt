use Rattle.std.proofs.Common.{sym, ◌∙◌, Err}
use Rattle.http_wire.proofs.ReaderFacts.{feeds_of, reads_refused}
use Rattle.http_wire.proofs.PartFacts.{part_none, part_all}
use Rattle.http_wire.proofs.reply_reader.ReplyReader.feed.Goals as goal

pub returns-in-Ok-clause-feeds : goal.returns-in-Ok-clause-feeds
returns-in-Ok-clause-feeds c = λ n limit bytes before h.
    feeds_of c.args.self.now c.take.new.self limit bytes c.args.piece.now c.args.into.now.items c.take.new.into.items
    before c.fed-in-Ok.result (c.in-Ok.ensures.reads limit bytes before h) c.fed-in-Ok.ensures

pub returns-in-Ok-clause-part : goal.returns-in-Ok-clause-part
returns-in-Ok-clause-part c = λ e limit bytes before after h o.
    part_all c.args.self.now c.take.new.self limit bytes c.args.piece.now c.args.into.now.items c.take.new.into.items
    before after (c.in-Ok.ensures.reads limit bytes before h) o

pub returns-in-Err-clause-feeds : goal.returns-in-Err-clause-feeds
returns-in-Err-clause-feeds c = λ n limit bytes before h.
    let refuses = sym c.fed.ensures ∙ c.in-Err.is in
    feeds_of c.args.self.now c.args.self.now limit bytes c.args.piece.now c.args.into.now.items c.args.into.now.items
    before (Err c.in-Err.refusal)
    (reads_refused c.args.self.now limit bytes c.args.piece.now c.args.into.now.items before c.in-Err.refusal refuses
    h) (sym refuses)

pub returns-in-Err-clause-part : goal.returns-in-Err-clause-part
returns-in-Err-clause-part c = λ e limit bytes before after h o.
    part_none c.args.self.now limit bytes c.args.piece.now c.args.into.now.items before after h o
