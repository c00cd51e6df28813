use Rattle.std.proofs.Common.{◌∙◌, sym}
use Rattle.std.specs.Option.{option_copied}
use Rattle.reconcile_rules.proofs.KeptLemmas.{kept_found, kept_found_some}
use Rattle.reconcile_rules.proofs.relaxed.kept_common.Goals as goal

pub unreachable-requires : goal.unreachable-requires
unreachable-requires c =
    kept_found_some c.one_side.ensures.ends_total c.common.ensures.empty c.args.asked.now (option_copied c.args.last)
    (option_copied c.last_dropped-dropped.result) c.requires (c.last_dropped-dropped.ensures)
    (sym c.in-None.is ∙ c.in_ok-common.ensures)

pub returns : goal.returns
returns c =
    kept_found c.one_side.ensures.ends_total c.common.ensures.empty c.args.asked.now (option_copied c.args.last)
    (option_copied c.last_dropped-dropped.result) c.in-Some.common c.requires (c.last_dropped-dropped.ensures)
    (sym c.in-Some.is ∙ c.in_ok-common.ensures)
