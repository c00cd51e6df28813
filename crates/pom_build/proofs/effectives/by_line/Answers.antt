use Rattle.std.proofs.Common.{◌≡◌, ◌∷◌, [], List, IfOk, ap, ◌∙◌, subst}
use Rattle.res_base.specs.Known.{known_of}
use Rattle.res_base.specs.declared.coord.Coord.{Coord}
use Rattle.res_base.specs.declared.pom.DepRecord.{DepRecord}
use Rattle.pom_build.specs.Effectives.{effective_in}
use Rattle.pom_build.specs.Imports.{managed_from, managed_with}
use Rattle.pom_build.specs.Outcomes.{and_then, build_of}
use Rattle.pom_build.specs.declared.line.Line.{Line}
use Rattle.pom_build.specs.declared.outcome.Outcome.{Outcome}
use Rattle.pom_build.specs.declared.outcome.Outcome.TheVariants.{Built}
use Rattle.pom_build.proofs.effectives.by_line.Goals as goal

pub returns : goal.returns
returns c =
    let known = known_of c.args.known.now.pairs in
    let repos = c.args.known.now.repos in
    let managed : List Coord → Line → Outcome (List DepRecord) = λ chain line. managed_with (managed_from known repos c.args.most chain) line in
    let line : c.in_ok-named.named ≡ c.args.line = c.in_ok-named.ensures in
    let rows : c.in_ok-managed.managed ≡ managed (c.args.coord.now ∷ []) c.args.line = c.in_ok-managed.ensures ∙ ap (managed (c.args.coord.now ∷ [])) line in
    subst (λ outcome. IfOk c.by_managed.result (λ made. made ≡ build_of (and_then outcome (λ rows. Built (effective_in c.args.line rows))))) rows
    (subst (λ line. IfOk c.by_managed.result (λ made. made ≡ build_of (and_then c.in_ok-managed.managed (λ rows. Built (effective_in line rows))))) line c.by_managed.ensures)
