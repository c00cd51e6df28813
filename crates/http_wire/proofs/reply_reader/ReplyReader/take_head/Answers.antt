use Rattle.std.proofs.Common.{[], sym, subst, arith, take}
use Rattle.std.proofs.lemmas.List.{take_more}
use Rattle.http_wire.specs.Readers.{Reads}
use Rattle.http_wire.proofs.ReaderFacts.{reads_none, reads_then}
use Rattle.http_wire.proofs.reply_reader.ReplyReader.take_head.Goals as goal

pub loop-at-init : goal.loop-at-init
loop-at-init c = record {
  within = omega arith;
  reads = λ limit bytes before h. reads_none c.args.self.now limit bytes [] before h;
}

pub loop-at-preserved : goal.loop-at-preserved
loop-at-preserved c = record {
  within = omega arith;
  reads = λ limit bytes before h.
      let r = c.loop-at.invariant.reads limit bytes before h in
      let at = c.loop-at.at in
      let xs = c.args.piece.now in
      subst (λ p. Reads c.args.self.now c.take_byte.new.self limit bytes p before [] []) (sym
      (take_more xs at 0 c.loop-at-test.true))
      (reads_then c.args.self.now c.loop-at.self c.take_byte.new.self limit bytes (take at xs) _ [] [] [] before r
      (c.in_ok-take_byte.ensures limit _ r.after r.read));
}
