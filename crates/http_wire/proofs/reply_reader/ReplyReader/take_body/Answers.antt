use Rattle.std.proofs.Common.{refl, ap}
use Rattle.http_wire.specs.declared.reply_reader.Phase.TheVariants.{InBody}
use Rattle.http_wire.proofs.PartFacts.{parts_err, part_body}
use Rattle.http_wire.proofs.ReaderFacts.{reads_nothing, reads_body}
use Rattle.http_wire.proofs.reply_reader.ReplyReader.take_body.Goals as goal

pub returns-in-InHead-clause-reads : goal.returns-in-InHead-clause-reads
returns-in-InHead-clause-reads c = λ limit bytes before h.
    reads_nothing c.args.self.now limit bytes c.args.piece.now c.args.into.now.items before c.in-InHead.field-0
    c.in-InHead.is c.requires h

pub returns-in_ok-feed-in-InBody-clause-reads : goal.returns-in_ok-feed-in-InBody-clause-reads
returns-in_ok-feed-in-InBody-clause-reads c = λ limit bytes before h.
    reads_body c.args.self.now _ limit bytes c.args.piece.now c.args.into.now.items c.feed.new.into.items before
    c.in-InBody.body h c.in-InBody.is
    (ap InBody c.in_ok-feed-in-InBody.ensures.ok) refl refl c.in_ok-feed-in-InBody.ensures.given

pub returns-in_err-feed-in-InBody-clause-part : goal.returns-in_err-feed-in-InBody-clause-part
returns-in_err-feed-in-InBody-clause-part c = parts_err c.args.self.now c.args.piece.now c.args.into.now.items
    c.feed.new.into.items _ (λ limit bytes before after h o.
    part_body c.args.self.now limit bytes c.args.piece.now c.args.into.now.items c.feed.new.into.items
    c.in_err-feed-in-InBody.ensures.part.0 before after c.in-InBody.body h c.in-InBody.is o
    c.in_err-feed-in-InBody.ensures.part.1 c.in_err-feed-in-InBody.ensures.kept)
