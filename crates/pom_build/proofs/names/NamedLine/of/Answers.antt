use Rattle.std.proofs.Common.{◌∙◌, ap}
use Rattle.property_text.specs.Values.{value_in}
use Rattle.pom_build.proofs.Valued.{value_in-put_all}
use Rattle.pom_build.proofs.names.NamedLine.of.Goals as goal

pub invariant_of-result : goal.invariant_of-result
invariant_of-result c = ap value_in (c.in_ok-values.ensures ∙ c.in_ok-values_of.ensures) ∙ value_in-put_all c.args.line
