use Rattle.std.proofs.Common.{◌≡◌, ◌<◌, ◌≤◌, ◌+◌, ◌-◌, ℕ, suc, List, sym, ◌∙◌, ap, subst, arith, map}
use Rattle.res_base.specs.Known.{known_of}
use Rattle.resolution.specs.declared.choices.ChoiceRow.{ChoiceRow}
use Rattle.round_core.specs.Earlier.{AreLasting, AreRight, lasting}
use Rattle.round_core.specs.Rounds.{rounds_from}
use Rattle.round_core.specs.Turns.{TurnRises, after_turn}
use Rattle.round_core.specs.declared.rounds.Turn.{Turn}
use Rattle.round_core.proofs.Ended.{did_rises, goes_on}
use Rattle.round_core.proofs.GoingOn.{all_last, right_of}
use Rattle.round_core.proofs.Turning.{rounds_on}
use Rattle.round_core.proofs.resumed.rounds_on.Goals as goal

pub loop-done-init : goal.loop-done-init
loop-done-init g c =
    let known = known_of c.args.known.now.pairs in
    let ask = c.args.ask.now in
    let repos : ℕ = c.args.known.now.repos in
    record {
      value = sym (goes_on known ask c.requires.waited.did c.requires.waited.few);
      few = c.requires.waited.few;
      rises = did_rises known ask c.requires.waited.did;
      right = right_of known repos c.built.inside.earlier.projects.items
          (subst (AreLasting known repos) (sym c.built.view_is) c.requires.lasting);
    }

pub returns-in-Ends-clause-value : goal.returns-in-Ends-clause-value
returns-in-Ends-clause-value g c =
    let known = known_of c.args.known.now.pairs in
    let ask = c.args.ask.now in
    let done : ℕ = c.loop-done.done in
    let rows : List ChoiceRow = c.loop-done.choices.rows in
    let left : ℕ = ask.rounds - (done + 1) in
    let below : done < ask.rounds = c.loop-done-test.true in
    let more : ask.rounds - done ≡ suc left = omega (arith, below) in
    sym (ap (λ (t : Turn). after_turn t (rounds_from known ask left (done + 1))) c.in-Ends.is)
    ∙ rounds_on known ask left done rows c.in_ok-progress.field-0 c.in_ok-progress.ensures.value (ask.rounds - done) more
    ∙ c.loop-done.invariant.value

pub returns-in-Ends-clause-lasting : goal.returns-in-Ends-clause-lasting
returns-in-Ends-clause-lasting g c =
    let known = known_of c.args.known.now.pairs in
    let repos : ℕ = c.args.known.now.repos in
    subst (AreLasting known repos) (sym c.in_ok-built_of-in-Ends.ensures)
    (all_last known repos c.take_turn.new.earlier.projects.items c.in_ok-progress.ensures.right)

pub loop-done-preserved : goal.loop-done-preserved
loop-done-preserved g c =
    let known = known_of c.args.known.now.pairs in
    let ask = c.args.ask.now in
    let done : ℕ = c.loop-done.done in
    let rows : List ChoiceRow = c.loop-done.choices.rows in
    let left : ℕ = ask.rounds - (done + 1) in
    let below : done < ask.rounds = c.loop-done-test.true in
    let more : ask.rounds - done ≡ suc left = omega (arith, below) in
    record {
      value =
          sym (ap (λ (t : Turn). after_turn t (rounds_from known ask left (done + 1))) c.in-On.is)
          ∙ rounds_on known ask left done rows c.in_ok-progress.field-0 c.in_ok-progress.ensures.value (ask.rounds - done) more
          ∙ c.loop-done.invariant.value;
      few = omega (arith, below);
      rises = subst (λ (t : Turn). TurnRises t) c.in-On.is c.in_ok-progress.ensures.rises;
      right = c.in_ok-progress.ensures.right;
    }

pub returns-clause-lasting : goal.returns-clause-lasting
returns-clause-lasting g c =
    let known = known_of c.args.known.now.pairs in
    let repos : ℕ = c.args.known.now.repos in
    subst (AreLasting known repos) (sym c.in_ok-built_of.ensures)
    (all_last known repos c.loop-done.earlier.projects.items c.loop-done.invariant.right)
