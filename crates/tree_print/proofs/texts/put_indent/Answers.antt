use Rattle.std.proofs.Common.{◌<◌, ◌++◌, arith}
use Rattle.tree_print.specs.Texts.{indent}
use Rattle.tree_print.proofs.Pieces.{indent_more}
use Rattle.tree_print.proofs.texts.put_indent.Goals as goal

pub loop-step-preserved : goal.loop-step-preserved
loop-step-preserved c =
    let here : c.loop-step._step < c.args.depth = omega arith in
    indent_more c.args.depth c.loop-step._step c.loop-step.text c.push_str.new.self (c.args.text.now ++ indent c.args.depth) here c.loop-step.invariant c.in_ok-push_str.ensures.ok
