use Rattle.std.proofs.Common.{◌≡◌, ◌≤◌, true, take}
use Rattle.std.specs.List.{list_all}
use Rattle.cache_layout.specs.Fields.{is_small_digit}
use Rattle.cache_layout.proofs.digests.digits_fault.Given as goal

abbrev pub invariant-loop-i : goal.invariant-loop-i
invariant-loop-i l = (l.i ≤ l.digits) × (list_all is_small_digit (take l.i l.text) ≡ true)
