use Rattle.std.proofs.Common.{◌≡◌, sym, ◌∙◌, subst}
use Rattle.std.specs.Prelude.{IsSome}
use Rattle.res_base.specs.Names.{module_eq}
use Rattle.round_core.proofs.Named.{some_place}
use Rattle.round_core.proofs.Numbered.{placed}
use Rattle.round_core.proofs.reach.root_number.Goals as goal

pub unwrap-requires : goal.unwrap-requires
unwrap-requires c =
    subst (λ z. IsSome z) (sym c.number_of.ensures)
    (some_place (module_eq c.args.root.now.«module») 0 c.args.table.now c.requires)

pub returns-clause-names : goal.returns-clause-names
returns-clause-names c =
    (placed c.args.table.now c.args.root.now.«module» c.unwrap.result (sym c.number_of.ensures ∙ c.unwrap.ensures)).at

pub returns-clause-fits : goal.returns-clause-fits
returns-clause-fits c =
    (placed c.args.table.now c.args.root.now.«module» c.unwrap.result (sym c.number_of.ensures
    ∙ c.unwrap.ensures)).below
