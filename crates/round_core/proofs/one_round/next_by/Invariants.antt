use Rattle.std.proofs.Common.{◌≡◌, [], drop, fold}
use Rattle.res_base.specs.Known.{known_of}
use Rattle.round_core.specs.Rounds.{with_decided}
use Rattle.round_core.specs.declared.one_round.Gathered.TheVariants.{Rows}
use Rattle.round_core.proofs.one_round.next_by.Given as goal

abbrev pub invariant-loop-row : goal.invariant-loop-row
invariant-loop-row l = fold (with_decided (known_of l.known.pairs) l.ask) l.gathered (drop l.row-index l.rows)
    ≡ fold (with_decided (known_of l.known.pairs) l.ask) (Rows []) l.rows
