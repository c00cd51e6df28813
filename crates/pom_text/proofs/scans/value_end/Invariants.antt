use Rattle.std.proofs.Common.{◌≡◌, ℕ, List, length, ◌-◌, ◌≤◌}
use Rattle.pom_grammar.specs.Document.{Quote, quote_byte}
use Rattle.pom_grammar.specs.Machine.{in_quotes}
use Rattle.pom_text.specs.Scans.{Runs}
use Rattle.pom_text.proofs.scans.value_end.Given as goal

abbrev pub invariant-loop-i : goal.invariant-loop-i
invariant-loop-i l =
    ((q : Quote) (name : List ℕ) → quote_byte q ≡ l.quote → Runs l.encoding l.bytes (in_quotes q name) l.at l.i)
    × (l.i ≤ length l.bytes)

abbrev pub decreases-loop-i : goal.decreases-loop-i
decreases-loop-i l = length l.initial.bytes - l.i
