use Rattle.std.proofs.Common.{◌≡◌, ◌++◌, ℕ, List, length}
use Rattle.link_base.specs.Sinks.{gained}
use Rattle.line_streams.proofs.sinks.put_lines.Given as goal

abbrev pub decreases-loop-left : goal.decreases-loop-left
decreases-loop-left g l = length l.left

abbrev pub invariant-loop-left : goal.invariant-loop-left
invariant-loop-left g l = record {
  later : g.O.Sink.faults l.out ≡ g.O.Sink.faults l.initial.out;
  sent : (sent : List ℕ) × (l.text ≡ sent ++ l.left) × (g.O.Sink.written l.out ≡ gained (g.O.Sink.written l.initial.out) sent);
}
