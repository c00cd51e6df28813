use Rattle.std.proofs.Common.{take}
use Rattle.property_text.specs.Cuts.{AreCut}
use Rattle.property_text.specs.Values.{seen}
use Rattle.property_text.proofs.values.Values.cuts.Given as goal

abbrev pub invariant-loop-pair : goal.invariant-loop-pair
invariant-loop-pair l = AreCut l.self (take l.pair-index (seen l.pairs)) l.cuts.items
