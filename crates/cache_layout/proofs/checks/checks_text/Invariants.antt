use Rattle.std.proofs.Common.{◌≡◌, take}
use Rattle.cache_layout.specs.Lines.{checks_text}
use Rattle.cache_layout.proofs.checks.checks_text.Given as goal

abbrev pub invariant-loop-check : goal.invariant-loop-check
invariant-loop-check l = l.text ≡ checks_text (take l.check-index l.checks)
