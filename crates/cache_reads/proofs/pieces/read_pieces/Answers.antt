use Rattle.std.proofs.Common.{◌∙◌, arith}
use Rattle.cache_reads.proofs.Causes.{quiet_ok}
use Rattle.cache_reads.proofs.Piecewise.{few_more, so_far_end, so_far_more}
use Rattle.cache_reads.proofs.pieces.read_pieces.Goals as goal

pub pieces-preserved : goal.pieces-preserved
pieces-preserved g c =
    let inv = c.pieces.invariant in
    record {
      so = so_far_more g.D.Disk.told g.D.Disk.moment g.D.Disk.since c.args.name.now c.args.disk.now c.pieces.disk
          c.take_piece.new.disk (g.T.Taker.took c.args.taker.now) (g.T.Taker.took c.pieces.taker)
          (g.T.Taker.took c.take_piece.new.taker) c.pieces.at _ c.in_ok-count.count inv.so c.take_piece.ensures.ran
          c.in_ok-count.ensures.taken;
      room = c.take_piece.ensures.room ∙ inv.room;
      second = c.take_piece.ensures.second ∙ inv.second;
      faults = quiet_ok _ _ c.in_ok-count.count c.in_ok-count.ensures.cause ∙ inv.faults;
      last = c.in_ok-count.ensures.last ∙ inv.last;
      few = few_more c.pieces.at _ c.in_ok-count.count c.in_ok-count.ensures.within (omega (arith, inv.room, c.requires.few))
          (λ e. c.if-count-eq0.false e);
    }

pub returns-then-count-eq0-clause-read : goal.returns-then-count-eq0-clause-read
returns-then-count-eq0-clause-read g c =
    let inv = c.pieces.invariant in
    so_far_end g.D.Disk.told g.D.Disk.moment g.D.Disk.since c.args.name.now c.args.disk.now c.pieces.disk (g.T.Taker.took c.args.taker.now)
    (g.T.Taker.took c.pieces.taker) (g.T.Taker.took c.take_piece.new.taker) c.pieces.at _ c.in_ok-count.count inv.so
    c.in_ok-count.ensures.taken (omega (arith, inv.room, c.requires.some)) c.if-count-eq0.true
