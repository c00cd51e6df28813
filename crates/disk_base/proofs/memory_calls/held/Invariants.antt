use Rattle.std.proofs.Common.{◌≡◌, take}
use Rattle.disk_base.specs.Selected.{held_in}
use Rattle.disk_base.specs.Tables.{names_in}
use Rattle.disk_base.proofs.memory_calls.held.Given as goal

abbrev pub invariant-loop-name : goal.invariant-loop-name
invariant-loop-name l = l.made ≡ held_in (names_in l.table) (take l.name-index l.names)
