use Rattle.std.proofs.Common.{◌≡◌, ℕ, List, sym, ◌∙◌, ap, subst}
use Rattle.live_walk.proofs.States.{if_ok}
use Rattle.res_base.specs.Known.{known_of}
use Rattle.resolution.specs.declared.choices.ChoiceRow.{ChoiceRow}
use Rattle.resolution.specs.declared.progress.Progress.TheVariants.{Over}
use Rattle.resolution.specs.declared.progress.RoundAnswer.TheVariants.{Next}
use Rattle.round_core.specs.Reaching.{reached_of}
use Rattle.round_core.specs.Rounds.{round_in, round_of}
use Rattle.round_core.specs.Turns.{LeadsOn}
use Rattle.round_core.specs.Verdicts.{verdict_in}
use Rattle.round_core.specs.declared.reach.Reached.{Reached}
use Rattle.round_core.specs.declared.rounds.Turn.{Turn}
use Rattle.round_core.proofs.Grow.{round_rises}
use Rattle.round_core.proofs.Turning.{turn_next}
use Rattle.round_core.proofs.rounds.turn_over.Goals as goal

pub returns-in-Next-clause-value : goal.returns-in-Next-clause-value
returns-in-Next-clause-value c =
    let known = known_of c.args.known.now.pairs in
    let ask = c.args.ask.now in
    let rows : List ChoiceRow = c.args.choices.rows in
    let of_reached : c.args.reached.now ≡ reached_of known ask rows = c.requires.reached in
    let next : round_of known ask rows ≡ Next c.in-Next.later =
    sym (ap (λ (z : Reached). round_in known ask z) of_reached) ∙ sym c.in_ok-needs.ensures ∙ c.in-Next.is in
    if_ok c.turn_by.result
    (λ (turn : Turn)
    (leads : LeadsOn rows c.in-Next.later.rows
    (Over (verdict_in ask.roots c.args.round rows c.args.reached.now)) turn).
    turn_next known ask c.args.done rows c.in-Next.later turn next
    (subst (λ (n : ℕ). LeadsOn rows c.in-Next.later.rows
    (Over (verdict_in ask.roots n rows (reached_of known ask rows))) turn) c.requires.round
    (subst (λ (z : Reached). LeadsOn rows c.in-Next.later.rows (Over (verdict_in ask.roots c.args.round rows z)) turn)
    of_reached leads)))
    c.turn_by.ensures.value

pub returns-in-Next-clause-rises : goal.returns-in-Next-clause-rises
returns-in-Next-clause-rises c =
    let known = known_of c.args.known.now.pairs in
    let ask = c.args.ask.now in
    let rows : List ChoiceRow = c.args.choices.rows in
    let of_reached : c.args.reached.now ≡ reached_of known ask rows = c.requires.reached in
    let next : round_of known ask rows ≡ Next c.in-Next.later =
    sym (ap (λ (z : Reached). round_in known ask z) of_reached) ∙ sym c.in_ok-needs.ensures ∙ c.in-Next.is in
    c.turn_by.ensures.rises (round_rises known ask rows c.in-Next.later next)
