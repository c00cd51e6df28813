use Rattle.std.specs.Prelude.{ℕ, ◌≡◌, ◌≤◌, List, Option, [], length}
use Rattle.http_wire.specs.Fields.{Bytes}
use Rattle.http_wire.specs.Measures.{left_of}
use Rattle.http_wire.specs.Outcomes.{Outcome}
use Rattle.http_visits.specs.declared.pages.Page.{Page}
use Rattle.http_link.specs.Hearing.{IsHearing, IsToldOf, HasReadSome, HearsOn}
use Rattle.http_link.proofs.hear.hear_some.Given as goal

abbrev pub invariant-pieces : goal.invariant-pieces
invariant-pieces g l = record {
  empty : l.into.items ≡ [];
  same_room : length l.buffer ≡ length l.fn.buffer;
  pages : g.W.Wire.pages l.wire ≡ g.W.Wire.pages l.fn.wire;
  later : g.W.Wire.faults l.fn.wire ≤ g.W.Wire.faults l.wire;
  read : ¬ ¬ (HasReadSome l.reader);
  hears : (told : Option (List Page)) (limit : ℕ) (reply : Bytes) (before : Outcome)
      → IsToldOf told (g.W.Wire.pages l.fn.wire)
      → IsHearing told (g.W.Wire.connection l.fn.wire) l.fn.reader limit reply before
      → HearsOn told (g.W.Wire.connection l.wire) l.reader limit reply before l.fn.into.items l.into.items;
}

abbrev pub decreases-pieces : goal.decreases-pieces
decreases-pieces g l = left_of l.reader
