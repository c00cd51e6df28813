use Rattle.std.proofs.Common.{◌≡◌, ◌++◌, drop}
use Rattle.verdict_print.specs.Lines.{reason_lines}
use Rattle.verdict_print.proofs.projects.put_reasons.Given as goal

abbrev pub invariant-loop-address : goal.invariant-loop-address
invariant-loop-address l =
    l.text ++ reason_lines (drop l.address-index l.addresses) l.left ≡ l.initial.text ++ reason_lines l.addresses l.reasons
