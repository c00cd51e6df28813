use Rattle.std.specs.List.{AllWithin}
use Rattle.cache_layout.specs.Addresses.{IsAddress}
use Rattle.print_cases.proofs.conditions.are_addresses.Given as goal

abbrev pub invariant-loop-address : goal.invariant-loop-address
invariant-loop-address l = AllWithin IsAddress l.addresses 0 l.address-index
