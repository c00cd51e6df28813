use Rattle.std.proofs.Common.{Ok, sym, ap, ◌∙◌, subst}
use Rattle.http_wire.specs.Readers.{IsShown}
use Rattle.http_link.proofs.HearFacts.{hearing_told}
use Rattle.http_link.proofs.pages.ask.Goals as goal

pub returns-clause-found : goal.returns-clause-found
returns-clause-found g c = λ told of.
    c.in_ok-found.ensures told _ c.args.limit _ _
    (λ seen shown. c.kind_of_head-kind.ensures seen (subst (IsShown seen) (sym c.head.ensures) shown))
    (c.in_ok-step.ensures.steps told c.args.limit _ _ (λ rows e. c.in_ok-reader.ensures.pages ∙ of rows e)
    (hearing_told told _ _ c.in_ok-reader.reader c.args.limit _ _ of c.in_ok-reader.ensures.hearing))
    (λ e. c.in_ok-step.ensures.some (ap Ok e))
