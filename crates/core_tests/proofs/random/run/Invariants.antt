use Rattle.std.proofs.Common.{◌≡◌}
use Rattle.core_tests.proofs.random.run.Given as goal

abbrev pub invariant-loop-turn : goal.invariant-loop-turn
invariant-loop-turn g l = l.book.known.repos ≡ 3
