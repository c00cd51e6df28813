use Rattle.std.proofs.Common.{◌≡◌, drop}
use Rattle.round_core.specs.Choices.{choices_eq}
use Rattle.round_core.proofs.rounds.same_choices.Given as goal

abbrev pub invariant-loop-place : goal.invariant-loop-place
invariant-loop-place l = choices_eq (drop l.place l.a) (drop l.place l.b) ≡ choices_eq l.a l.b
