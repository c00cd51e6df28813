use Rattle.std.proofs.Common.{◌≡◌}
use Rattle.face_cases.proofs.samples.put_needs.Given as goal

abbrev pub invariant-loop-need : goal.invariant-loop-need
invariant-loop-need l = l.known.repos ≡ l.fn.known.repos
