use Rattle.std.proofs.Common.{◌≡◌, sym, ◌∙◌, subst}
use Rattle.std.specs.Prelude.{IsSome}
use Rattle.res_base.specs.Names.{module_eq}
use Rattle.round_core.specs.Edges.{target_of}
use Rattle.round_core.proofs.Named.{some_place}
use Rattle.round_core.proofs.Numbered.{hop_is, placed}
use Rattle.round_core.proofs.reach.hop_of.Goals as goal

pub unwrap-to-requires : goal.unwrap-to-requires
unwrap-to-requires c =
    subst (λ z. IsSome z) (sym c.number_of.ensures)
    (some_place (module_eq (target_of c.args.edge.now)) 0 c.args.table.now c.requires)

pub returns-clause-step : goal.returns-clause-step
returns-clause-step c =
    hop_is c.args.table.now c.args.edge.now c.unwrap-to.result c.in_ok-copy.field-0 (sym c.number_of.ensures
    ∙ c.unwrap-to.ensures) c.in_ok-copy.ensures

pub returns-clause-fits : goal.returns-clause-fits
returns-clause-fits c =
    (placed c.args.table.now (target_of c.args.edge.now) c.unwrap-to.result (sym c.number_of.ensures
    ∙ c.unwrap-to.ensures)).below
