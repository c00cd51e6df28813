use Rattle.std.proofs.Common.{◌∙◌, inl, inr, refl}
use Rattle.std.proofs.lemmas.List.{drop_all}
use Rattle.file_answers.specs.declared.demand.Demand.TheVariants.{Undecided}
use Rattle.file_answers.proofs.Failing.{handed_on}
use Rattle.file_answers.proofs.checks.ask_checks.Goals as goal

pub returns-then-eq-clause-failed : goal.returns-then-eq-clause-failed
returns-then-eq-clause-failed g c = (_, inl refl, c.loop-check.invariant.failed)

pub returns-in_err-digest-clause-failed : goal.returns-in_err-digest-clause-failed
returns-in_err-digest-clause-failed g c =
    handed_on _ _ _ _ _ _ _ _ (inr (_, refl)) c.in_err-digest.ensures.failed c.loop-check.invariant.failed
    c.from_residual.ensures.1

pub returns-in-Some-clause-failed : goal.returns-in-Some-clause-failed
returns-in-Some-clause-failed g c =
    (_, inl refl, c.in_ok-digest.ensures.failed ∙ c.loop-check.invariant.failed)

pub returns-clause-kind : goal.returns-clause-kind
returns-clause-kind g c =
    let none = drop_all c.loop-check.check-index c.args.checks.now c.loop-check-test.false in
    c.loop-check.invariant.kind Undecided (rw none refl)

pub returns-clause-failed : goal.returns-clause-failed
returns-clause-failed g c = (_, inl refl, c.loop-check.invariant.failed)
