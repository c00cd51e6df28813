use Rattle.std.proofs.Common.{◌≡◌, ◌≤◌, ◌-◌, drop, length}
use Rattle.reconcile_rules.specs.Apart.{from_first_apart, greatest_lower, least_upper, has_empty}
use Rattle.reconcile_rules.proofs.apart.place_of_first.Given as goal

abbrev pub invariant-loop-passed : goal.invariant-loop-passed
invariant-loop-passed l =
    (l.first ≤ length l.asked)
    × (drop l.first l.asked ≡ from_first_apart (drop (length l.asked - l.passed) l.asked))
    × (l.lower ≡ greatest_lower (drop (length l.asked - l.passed) l.asked))
    × (l.upper ≡ least_upper (drop (length l.asked - l.passed) l.asked))
    × (l.has_empty ≡ has_empty (drop (length l.asked - l.passed) l.asked))
