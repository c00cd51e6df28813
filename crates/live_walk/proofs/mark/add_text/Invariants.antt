use Rattle.std.proofs.Common.{◌≡◌, drop}
use Rattle.live_walk.specs.Marks.{added_text}
use Rattle.live_walk.proofs.mark.add_text.Given as goal

abbrev pub invariant-loop-byte : goal.invariant-loop-byte
invariant-loop-byte l = added_text l.sum (drop l.byte-index l.bytes) ≡ added_text l.start l.bytes
