use Rattle.std.proofs.Common.{◌≡◌, drop, fold}
use Rattle.round_core.specs.Requests.{asked_by, with_edge}
use Rattle.round_core.proofs.requests.AskedTable.of.Given as goal

abbrev pub invariant-loop-edge : goal.invariant-loop-edge
invariant-loop-edge l = fold (with_edge l.roots l.steer) l.made (drop l.edge-index l.last)
    ≡ asked_by l.roots l.steer l.last
