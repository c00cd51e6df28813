use Rattle.std.proofs.Common.{◌-◌, length, rules, subst, sym}
use Rattle.std.specs.Io.KnownBytes.{Consumes}
use Rattle.std.proofs.KnownBytes.{Consumes-trans}
use Rattle.real_disk.proofs.Rooms.{filled_more}
use Rattle.real_disk.proofs.reads.fill.Goals as goal

pub loop-filled-preserved : goal.loop-filled-preserved
loop-filled-preserved g c =
    let filled = c.loop-filled.filled in
    let into = c.loop-filled.into in
    let bytes = rw c.in_ok-given.ensures.same at c.read.ensures.bytes in
    let bound = rw c.in_ok-given.ensures.same at c.read.ensures.bound in
    let part =
    filled_more filled (length into - filled) c.in_ok-given.given into c.read.new.buf c.loop-filled.invariant.few bound.0 in
    record {
      room = search rules;
      few = search (rules, bound.0);
      bytes = subst (Consumes _ _) (sym part) (Consumes-trans _ _ _ _ _ c.loop-filled.invariant.bytes bytes.0);
    }
