use Rattle.std.proofs.Common.{◌≡◌, ◌++◌, map, reverse, take}
use Rattle.tree_print.specs.Stacks.{pending_at}
use Rattle.tree_print.proofs.pending.push_all.Given as goal

abbrev pub invariant-loop-done : goal.invariant-loop-done
invariant-loop-done l = l.stack ≡ l.fn.stack ++ map (pending_at l.depth) (take l.done (reverse l.places))
