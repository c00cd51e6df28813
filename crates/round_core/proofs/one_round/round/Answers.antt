use Rattle.std.proofs.Common.{◌≡◌, ◌≤◌, ◌+◌, ℕ, List, sym, ◌∙◌, ap, subst, arith, sum_by}
use Rattle.live_walk.specs.Numbers.{AreDistinct}
use Rattle.res_base.specs.Known.{known_of}
use Rattle.resolution.specs.declared.choices.ChoiceRow.{ChoiceRow}
use Rattle.round_core.specs.Choices.{modules_of}
use Rattle.round_core.specs.Counts.{built_count}
use Rattle.round_core.specs.Projects.{projects_in, steps_in}
use Rattle.round_core.specs.declared.reach.Reached.{Reached}
use Rattle.round_core.proofs.Counted.{built_few}
use Rattle.round_core.proofs.Reached.{if_any}
use Rattle.round_core.proofs.Rising.{rising_distinct}
use Rattle.round_core.proofs.one_round.round.Goals as goal

pub reach_all-requires-clause-distinct : goal.reach_all-requires-clause-distinct
reach_all-requires-clause-distinct g c =
    subst (λ (rows : List ChoiceRow). AreDistinct (modules_of rows)) (sym c.as_slice.ensures)
    (rising_distinct (modules_of c.args.choices.now.rows) c.requires.rises)

pub returns-clause-steps : goal.returns-clause-steps
returns-clause-steps g c =
    let known = known_of c.args.known.now.pairs in
    let rows : List ChoiceRow = c.args.choices.now.rows in
    let is : c.in_ok-reached.reached.projects ≡ projects_in known c.args.ask.now.repos rows =
    ap (λ (z : Reached). z.projects) c.in_ok-reached.ensures.value
    ∙ ap (λ (rs : List ChoiceRow). projects_in known c.args.ask.now.repos rs) c.as_slice.ensures in
    let few : built_count known c.args.ask.now rows ≤ sum_by steps_in c.in_ok-reached.reached.projects =
    subst (λ z. built_count known c.args.ask.now rows ≤ sum_by steps_in z) (sym is)
    (built_few known c.args.ask.now rows) in
    let taken : c.args.steps.now + sum_by steps_in c.in_ok-reached.reached.projects ≤ c.reach_all.new.steps =
    c.in_ok-reached.ensures.steps in
    if_any c.round_in.result (λ made. omega (arith, few, taken))
