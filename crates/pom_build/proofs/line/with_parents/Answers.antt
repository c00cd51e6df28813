use Rattle.std.proofs.Common.{◌≡◌, ◌-◌, ◌+◌, suc, Some, arith, rules, sym, ◌∙◌, ap, subst}
use Rattle.std.specs.Option.{option_copied}
use Rattle.res_base.specs.Known.{known_of}
use Rattle.pom_build.specs.Climbs.{Resumes}
use Rattle.pom_build.specs.Lines.{climbed, line_from}
use Rattle.pom_build.specs.declared.line.Climb.TheVariants.{On}
use Rattle.pom_build.proofs.Climbing.{line_from-more}
use Rattle.pom_build.proofs.line.with_parents.Goals as goal

pub loop-done-preserved : goal.loop-done-preserved
loop-done-preserved c =
    let known = known_of c.args.known.now.pairs in
    let repos = c.args.known.now.repos in
    let left : c.args.most - c.loop-done._done ≡ suc (c.args.most - (c.loop-done._done + 1)) = omega (arith, c.loop-done-test.true) in
    let goes : Resumes (On c.in-On.longer c.in-On.after) (λ further. climbed known repos c.loop-done.line further c.in-Some.parent.now) = subst (λ climb. Resumes climb (λ further. climbed known repos c.loop-done.line further c.in-Some.parent.now)) c.in-On.is c.in_ok-outcome.ensures in
    let next : option_copied c.loop-done.next ≡ Some c.in-Some.parent.now = search rules in
    goes (line_from known repos (c.args.most - (c.loop-done._done + 1)))
    ∙ sym (line_from-more known repos (c.args.most - c.loop-done._done) (c.args.most - (c.loop-done._done + 1)) c.loop-done.line c.in-Some.parent.now left)
    ∙ ap (line_from known repos (c.args.most - c.loop-done._done) c.loop-done.line) (sym next)
    ∙ c.loop-done.invariant
