use Rattle.std.proofs.Common.{◌≡◌, ◌++◌, drop}
use Rattle.std.specs.List.{position_from}
use Rattle.reconcile_rules.specs.Asked.{constraints, is_bad, first_bad, plains, plains_from, intervals, intervals_from}
use Rattle.reconcile_rules.proofs.asked.read_all.Given as goal

abbrev pub invariant-loop-number : goal.invariant-loop-number
invariant-loop-number l =
    (position_from is_bad l.number (constraints (drop l.number l.requests)) ≡ first_bad (constraints l.requests))
    ×
    ((l.asked.plains.items ++ plains_from l.number (constraints (drop l.number l.requests)) ≡ plains (constraints l.requests))
    ×
    (l.asked.intervals.items ++ intervals_from l.number (constraints (drop l.number l.requests)) ≡ intervals (constraints l.requests)))
