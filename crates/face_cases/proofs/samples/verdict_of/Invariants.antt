use Rattle.std.proofs.Common.{◌≡◌}
use Rattle.face_cases.proofs.samples.verdict_of.Given as goal

abbrev pub invariant-loop-turn : goal.invariant-loop-turn
invariant-loop-turn l = l.known.repos ≡ 1

abbrev pub ghosts-counted : goal.ghosts-counted
ghosts-counted a = record { name = a.blank.name; parts = a.blank.parts }
