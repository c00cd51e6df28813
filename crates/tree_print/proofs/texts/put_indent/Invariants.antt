use Rattle.std.proofs.Common.{◌≡◌, ◌++◌, ◌-◌}
use Rattle.tree_print.specs.Texts.{indent}
use Rattle.tree_print.proofs.texts.put_indent.Given as goal

abbrev pub invariant-loop-step : goal.invariant-loop-step
invariant-loop-step l = l.text ++ indent (l.depth - l._step) ≡ l.fn.text ++ indent l.depth
