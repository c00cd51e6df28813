use Rattle.std.proofs.Common.{◌≡◌}
use Rattle.round_cases.proofs.rounds.known_of.Given as goal

abbrev pub invariant-loop-field : goal.invariant-loop-field
invariant-loop-field l = l.known.repos ≡ l.repos
