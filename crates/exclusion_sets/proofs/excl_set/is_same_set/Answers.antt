use Rattle.std.proofs.Common.{ap, sym, ◌∙◌, List}
use Rattle.res_base.specs.declared.pom.Exclusion.{Exclusion}
use Rattle.exclusion_sets.specs.declared.excl_set.ExclSet.{ExclSet}
use Rattle.exclusion_sets.proofs.excl_set.is_same_set.Goals as goal

pub returns : goal.returns
returns c =
    let one = c.as_slice.ensures in
    let other = c.as_slice-2.ensures in
    let made = λ (rules : List Exclusion). let set : ExclSet = record { rules = rules } in set in (
      λ true. ap made (sym one ∙ c.is_same_rules.ensures.0 true ∙ other),
      λ same. c.is_same_rules.ensures.1 (one ∙ ap (λ (set : ExclSet). set.rules) same ∙ sym other),
    )
