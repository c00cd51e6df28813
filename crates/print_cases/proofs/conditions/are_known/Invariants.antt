use Rattle.std.specs.List.{AllWithin}
use Rattle.std.specs.Prelude.{IsSome}
use Rattle.res_base.specs.Known.{known_of}
use Rattle.res_base.specs.declared.key.FileKey.{FileKey}
use Rattle.print_cases.proofs.conditions.are_known.Given as goal

abbrev pub invariant-loop-key : goal.invariant-loop-key
invariant-loop-key l = AllWithin (λ (key : FileKey). IsSome (known_of l.known.pairs key)) l.keys 0 l.key-index
