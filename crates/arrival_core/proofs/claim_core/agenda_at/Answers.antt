use Rattle.std.proofs.Common.{◌≡◌, ◌∙◌, ap}
use Rattle.arrival_core.proofs.Keeping.{plan_made}
use Rattle.arrival_core.specs.Resolving.{standing_of}
use Rattle.claim_rules.specs.Histories.{known_in}
use Rattle.claim_rules.specs.Sessions.{is_over_at, needs_at}
use Rattle.project_lookup.specs.KnownPairs.{KnownPairs}
use Rattle.res_base.specs.Known.{known_of}
use Rattle.round_core.specs.Reads.{files_if}
use Rattle.arrival_core.proofs.claim_core.agenda_at.Goals as goal

pub returns : goal.returns
returns c =
    let ask = c.args.ask.now in
    let s = c.args.settings.now in
    let h = c.args.log.now.history in
    let files = files_if ask.files in
    let progress = c.args.progress.now in
    let needed = c.in_ok-needs.needs.items in
    let first : known_of c.known.result.now.pairs ≡ known_in h = ap (λ (k : KnownPairs). known_of k.pairs) c.known.ensures in
    let need : needed ≡ needs_at (standing_of progress) files (known_in h) =
    c.in_ok-needs.ensures ∙ ap (λ known. needs_at (standing_of progress) files known) first in
    let end : c.is_over-ends.result ≡ is_over_at (standing_of progress) files (known_in h) =
    c.is_over-ends.ensures files (known_in h) (c.as_slice.ensures.value ∙ need) in
    c.agenda_laws.ensures.planned s _ h c.in_ok-agenda.agenda
    (plan_made ask s h progress needed c.is_over-ends.result c.in_ok-agenda.agenda c.requires.scratch need end c.in_ok-agenda.ensures)
