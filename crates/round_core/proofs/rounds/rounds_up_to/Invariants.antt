use Rattle.std.proofs.Common.{◌≡◌, ◌-◌, []}
use Rattle.res_base.specs.Known.{known_of}
use Rattle.round_core.specs.Choices.{Rises, modules_of}
use Rattle.round_core.specs.Earlier.{AreRight}
use Rattle.round_core.specs.Rounds.{last_from, rounds_from}
use Rattle.round_core.proofs.Turning.{Taken}
use Rattle.round_core.proofs.rounds.rounds_up_to.Given as goal

abbrev pub invariant-loop-done : goal.invariant-loop-done
invariant-loop-done g l =
    record {
      value : rounds_from (known_of l.known.pairs) l.ask (l.most - l.done) l.done l.choices.rows
          ≡ rounds_from (known_of l.known.pairs) l.ask l.most 0 [];
      rises : Rises (modules_of l.choices.rows);
      right : AreRight (known_of l.known.pairs) l.known.repos l.earlier.projects.items;
      steps : Taken (known_of l.known.pairs) l.ask (l.most - l.done) l.choices.rows
          (last_from (known_of l.known.pairs) l.ask l.most [] []) l.fn.steps l.steps;
    }
