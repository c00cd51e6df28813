use Rattle.std.proofs.Common.{◌≡◌, drop}
use Rattle.round_core.specs.Reaching.{roots_of}
use Rattle.round_core.specs.Tables.{named}
use Rattle.round_core.proofs.reach.with_roots.Given as goal

abbrev pub invariant-loop-root : goal.invariant-loop-root
invariant-loop-root l = named l.made (roots_of (drop l.root-index l.roots)) ≡ named l.fn.table (roots_of l.roots)
