use Rattle.std.proofs.Common.{◌≡◌, IfOk, ap, ◌∙◌, subst}
use Rattle.property_text.specs.Filled.{filled}
use Rattle.property_text.specs.Values.{value_in}
use Rattle.pom_build.specs.Names.{fill_in, values_in}
use Rattle.pom_build.specs.declared.line.Line.{Line}
use Rattle.pom_build.proofs.names.NamedLine.fill.Goals as goal

pub returns : goal.returns
unfolding fill_in
returns c =
    subst (λ text. IfOk c.fill.result (λ made. made ≡ text))
    (ap (λ value_of. filled value_of c.args.text.now) (c.self.invariant ∙ ap (λ (line : Line). value_in (values_in line)) c.self.view_is)) c.fill.ensures
