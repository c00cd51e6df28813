use Rattle.std.proofs.Common.{◌≡◌, ◌≤◌, ◌-◌}
use Rattle.res_base.specs.Known.{known_of}
use Rattle.round_core.specs.Choices.{Rises, modules_of}
use Rattle.round_core.specs.Earlier.{AreRight}
use Rattle.round_core.specs.Rounds.{rounds_from, rounds_of}
use Rattle.round_core.proofs.resumed.rounds_on.Given as goal

abbrev pub invariant-loop-done : goal.invariant-loop-done
invariant-loop-done g l =
    record {
      value : rounds_from (known_of l.known.pairs) l.ask (l.ask.rounds - l.done) l.done l.choices.rows
          ≡ rounds_of (known_of l.known.pairs) l.ask;
      few : l.done ≤ l.ask.rounds;
      rises : Rises (modules_of l.choices.rows);
      right : AreRight (known_of l.known.pairs) l.known.repos l.earlier.projects.items;
    }
