use Rattle.std.proofs.Common.{◌≡◌, ◌≤◌, ◌+◌, ℕ, List, sym, ◌∙◌, ap, subst, arith, sum_by}
use Rattle.live_walk.specs.Numbers.{AreDistinct}
use Rattle.res_base.specs.Known.{known_of}
use Rattle.resolution.specs.declared.choices.ChoiceRow.{ChoiceRow}
use Rattle.round_core.specs.Choices.{modules_of}
use Rattle.round_core.specs.Counts.{built_count}
use Rattle.round_core.specs.Earlier.{AreRight}
use Rattle.round_core.specs.Projects.{projects_in, steps_in}
use Rattle.round_core.specs.Reaching.{reached_of}
use Rattle.round_core.specs.declared.reach.Reached.{Reached}
use Rattle.round_core.proofs.Counted.{built_few}
use Rattle.round_core.proofs.Retaken.{right_in}
use Rattle.round_core.proofs.Rising.{rising_distinct}
use Rattle.round_core.proofs.rounds.take_turn.Goals as goal

pub reach_all-requires-clause-distinct : goal.reach_all-requires-clause-distinct
reach_all-requires-clause-distinct g c =
    subst (λ (rows : List ChoiceRow). AreDistinct (modules_of rows)) (sym c.as_slice.ensures)
    (rising_distinct (modules_of c.args.choices.rows) c.requires.rises)

pub turn_over-requires-clause-reached : goal.turn_over-requires-clause-reached
turn_over-requires-clause-reached g c =
    let known = known_of c.args.known.now.pairs in
    c.in_ok-reached.ensures.value
    ∙ ap (λ (rs : List ChoiceRow). reached_of known c.args.ask.now rs) c.as_slice.ensures

pub returns-clause-right : goal.returns-clause-right
returns-clause-right g c =
    let known = known_of c.args.known.now.pairs in
    let ask = c.args.ask.now in
    let rows : List ChoiceRow = c.args.choices.rows in
    let of_reached : c.in_ok-reached.reached ≡ reached_of known ask rows =
    c.in_ok-reached.ensures.value ∙ ap (λ (rs : List ChoiceRow). reached_of known ask rs) c.as_slice.ensures in
    let is : c.of.result.projects.items ≡ projects_in known c.args.known.now.repos rows =
    c.of.ensures ∙ ap (λ (z : Reached). z.projects) of_reached
    ∙ ap (λ (n : ℕ). projects_in known n rows) c.requires.repos in
    subst (λ z. AreRight known c.args.known.now.repos z) (sym is) (right_in known c.args.known.now.repos rows)

pub returns-clause-steps : goal.returns-clause-steps
returns-clause-steps g c =
    let known = known_of c.args.known.now.pairs in
    let ask = c.args.ask.now in
    let rows : List ChoiceRow = c.args.choices.rows in
    let of_reached : c.in_ok-reached.reached ≡ reached_of known ask rows =
    c.in_ok-reached.ensures.value ∙ ap (λ (rs : List ChoiceRow). reached_of known ask rs) c.as_slice.ensures in
    let is : c.in_ok-reached.reached.projects ≡ projects_in known ask.repos rows =
    ap (λ (z : Reached). z.projects) of_reached in
    let few : built_count known ask rows ≤ sum_by steps_in c.in_ok-reached.reached.projects =
    subst (λ z. built_count known ask rows ≤ sum_by steps_in z) (sym is) (built_few known ask rows) in
    let taken : c.args.steps.now + sum_by steps_in c.in_ok-reached.reached.projects ≤ c.reach_all.new.steps =
    c.in_ok-reached.ensures.steps in
    omega (arith, few, taken)
