use Rattle.std.proofs.Common.{◌≡◌, ◌≤◌, ◌<◌, ◌+◌, ◌-◌, ℕ, suc, List, [], sym, ◌∙◌, ap, subst, arith}
use Rattle.res_base.specs.Known.{known_of}
use Rattle.resolution.specs.declared.choices.ChoiceRow.{ChoiceRow}
use Rattle.round_core.specs.Choices.{Rises, modules_of}
use Rattle.round_core.specs.Counts.{built_count}
use Rattle.round_core.specs.Earlier.{AreRight}
use Rattle.round_core.specs.Rounds.{last_from, rounds_from}
use Rattle.round_core.specs.Turns.{TurnRises, after_turn, last_after}
use Rattle.round_core.specs.declared.rounds.Turn.{Turn}
use Rattle.round_core.proofs.Retaken.{right_none}
use Rattle.round_core.proofs.Turning.{Taken, last_on, rounds_on, taken_first}
use Rattle.round_core.proofs.rounds.rounds_up_to.Goals as goal

pub loop-done-init : goal.loop-done-init
loop-done-init g c =
    let known = known_of c.args.known.now.pairs in
    let ask = c.args.ask.now in
    let most : ℕ = c.args.most in
    let s : ℕ = c.args.steps.now in
    let whole : List ChoiceRow = last_from known ask most [] [] in
    let all : most - 0 ≡ most = omega arith in
    record {
      value = ap (λ (n : ℕ). rounds_from known ask n 0 c.new.result) all
          ∙ ap (λ (rows : List ChoiceRow). rounds_from known ask most 0 rows) c.new.ensures;
      rises = subst (λ (rows : List ChoiceRow). Rises (modules_of rows)) (sym c.new.ensures) tt;
      right = subst (AreRight known c.args.known.now.repos) (sym c.new-earlier.ensures)
          (right_none known c.args.known.now.repos);
      steps = subst (λ (rows : List ChoiceRow). Taken known ask (most - 0) rows whole s s) (sym c.new.ensures)
          (subst (λ (n : ℕ). Taken known ask n [] whole s s) (sym all) (taken_first known ask most s));
    }

pub returns-in-Ends-clause-value : goal.returns-in-Ends-clause-value
returns-in-Ends-clause-value g c =
    let known = known_of c.args.known.now.pairs in
    let ask = c.args.ask.now in
    let done : ℕ = c.loop-done.done in
    let rows : List ChoiceRow = c.loop-done.choices.rows in
    let left : ℕ = c.args.most - (done + 1) in
    let below : done < c.args.most = c.loop-done-test.true in
    let more : c.args.most - done ≡ suc left = omega (arith, below) in
    sym (ap (λ (t : Turn). after_turn t (rounds_from known ask left (done + 1))) c.in-Ends.is)
    ∙ rounds_on known ask left done rows c.in_ok-progress.field-0 c.in_ok-progress.ensures.value
    (c.args.most - done) more
    ∙ c.loop-done.invariant.value

pub returns-in-Ends-clause-steps : goal.returns-in-Ends-clause-steps
returns-in-Ends-clause-steps g c =
    let known = known_of c.args.known.now.pairs in
    let ask = c.args.ask.now in
    let done : ℕ = c.loop-done.done in
    let rows : List ChoiceRow = c.loop-done.choices.rows in
    let left : ℕ = c.args.most - (done + 1) in
    let whole : List ChoiceRow = last_from known ask c.args.most [] [] in
    let before : Taken known ask (c.args.most - done) rows whole c.args.steps.now c.loop-done.steps =
    c.loop-done.invariant.steps in
    let below : done < c.args.most = c.loop-done-test.true in
    let more : c.args.most - done ≡ suc left = omega (arith, below) in
    let is_whole : rows ≡ whole =
    sym (ap (λ (t : Turn). last_after t rows (last_from known ask left rows)) c.in-Ends.is)
    ∙ last_on known ask left done rows c.in_ok-progress.field-0 c.in_ok-progress.ensures.value
    (c.args.most - done) before.began more
    ∙ before.last
    in
    let count : built_count known ask rows ≡ built_count known ask whole = ap (built_count known ask) is_whole in
    let begun : c.args.steps.now + built_count known ask before.began ≤ c.loop-done.steps = before.steps in
    let taken : c.loop-done.steps + built_count known ask rows ≤ c.take_turn.new.steps =
    c.in_ok-progress.ensures.steps in
    omega (arith, count, begun, taken)

pub loop-done-preserved : goal.loop-done-preserved
loop-done-preserved g c =
    let known = known_of c.args.known.now.pairs in
    let ask = c.args.ask.now in
    let done : ℕ = c.loop-done.done in
    let rows : List ChoiceRow = c.loop-done.choices.rows in
    let left : ℕ = c.args.most - (done + 1) in
    let whole : List ChoiceRow = last_from known ask c.args.most [] [] in
    let before : Taken known ask (c.args.most - done) rows whole c.args.steps.now c.loop-done.steps =
    c.loop-done.invariant.steps in
    let below : done < c.args.most = c.loop-done-test.true in
    let more : c.args.most - done ≡ suc left = omega (arith, below) in
    let begun : c.args.steps.now + built_count known ask before.began ≤ c.loop-done.steps = before.steps in
    let taken : c.loop-done.steps + built_count known ask rows ≤ c.take_turn.new.steps =
    c.in_ok-progress.ensures.steps in
    record {
      value =
          sym (ap (λ (t : Turn). after_turn t (rounds_from known ask left (done + 1))) c.in-On.is)
          ∙ rounds_on known ask left done rows c.in_ok-progress.field-0 c.in_ok-progress.ensures.value
          (c.args.most - done) more
          ∙ c.loop-done.invariant.value;
      rises = subst (λ (t : Turn). TurnRises t) c.in-On.is c.in_ok-progress.ensures.rises;
      right = c.in_ok-progress.ensures.right;
      steps =
          record {
            began = rows;
            steps = omega (arith, begun, taken);
            last =
                sym (ap (λ (t : Turn). last_after t rows (last_from known ask left rows)) c.in-On.is)
                ∙ last_on known ask left done rows c.in_ok-progress.field-0 c.in_ok-progress.ensures.value
                (c.args.most - done) before.began more
                ∙ before.last;
          };
    }
