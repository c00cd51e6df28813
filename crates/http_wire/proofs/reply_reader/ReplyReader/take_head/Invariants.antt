use Rattle.std.specs.Prelude.{ℕ, ◌≤◌, ◌-◌, [], length, take}
use Rattle.http_wire.specs.Fields.{Bytes}
use Rattle.http_wire.specs.Readers.{HasRead, Reads}
use Rattle.http_wire.specs.Outcomes.{Outcome}
use Rattle.http_wire.proofs.reply_reader.ReplyReader.take_head.Given as goal

abbrev pub invariant-loop-at : goal.invariant-loop-at
invariant-loop-at l = record {
  within : l.at ≤ length l.piece;
  reads : (limit : ℕ) (bytes : Bytes) (before : Outcome) → HasRead l.fn.self limit bytes before
      → Reads l.fn.self l.self limit bytes (take l.at l.piece) before [] [];
}

abbrev pub decreases-loop-at : goal.decreases-loop-at
decreases-loop-at l = length l.piece - l.at
