use Rattle.cache_layout.proofs.Decimals.{Before}
use Rattle.cache_layout.proofs.numbers.read_number.Given as goal

abbrev pub invariant-loop-i : goal.invariant-loop-i
invariant-loop-i l = Before l.least l.most l.text l.i l.number
