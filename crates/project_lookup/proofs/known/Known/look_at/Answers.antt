use Rattle.std.proofs.Common.{◌≡◌, ◌-◌, ◌+◌, suc, arith, sym, ◌∙◌, Some}
use Rattle.res_base.specs.Builders.{key_of}
use Rattle.res_base.specs.Known.{known_of}
use Rattle.res_base.specs.declared.key.Role.TheVariants.{Pom}
use Rattle.project_lookup.specs.Looks.{tried, refused}
use Rattle.project_lookup.proofs.LookLaws.{look_next}
use Rattle.project_lookup.proofs.known.Known.look_at.Goals as goal

pub loop-repo-preserved : goal.loop-repo-preserved
loop-repo-preserved c =
    let known = known_of c.args.self.now.pairs in
    let repo = c.loop-repo.repo in
    let count = c.repos-repos.result - repo in
    let rest = c.repos-repos.result - (repo + 1) in
    let reading = c.in-Some.reading.now in
    let one_less : count ≡ suc rest = omega arith in
    let at : known (key_of repo Pom c.args.path) ≡ Some reading =
    rw (← c.loop-repo.invariant.0, ← c.loop-repo.invariant.1) (sym c.in-Some.ensures) in
    let gives : tried reading ≡ refused c.in-Err.reason = c.in-Err.ensures in
    let step = look_next known c.args.path repo count rest c.loop-repo.reasons reading c.in-Err.reason one_less at gives in
    (c.loop-repo.invariant.0, c.loop-repo.invariant.1, rw c.in_ok-push-in-Err.ensures.ok (sym step ∙ c.loop-repo.invariant.2))
