use Rattle.std.proofs.Common.{◌∙◌, sym, ap}
use Rattle.arrival_core.proofs.Members.{ends_by}
use Rattle.arrival_core.specs.Resolving.{standing_of}
use Rattle.claim_rules.specs.Sessions.{is_known, is_over_at, needs_at}
use Rattle.resolution.specs.declared.progress.Progress.{Progress}
use Rattle.arrival_core.proofs.needs.is_over.Goals as goal

pub returns-in-Over : goal.returns-in-Over
returns-in-Over c files known is =
    ends_by (is_known known) (files c.in-Over.field-0) c.args.needs.now c.is_empty.result
    (is ∙ ap (λ (p : Progress). needs_at (standing_of p) files known) c.in-Over.is) c.is_empty.ensures
    ∙ sym (ap (λ (p : Progress). is_over_at (standing_of p) files known) c.in-Over.is)
