use Rattle.std.proofs.Common.{◌≡◌, take}
use Rattle.disk_base.specs.Selected.{listed_in}
use Rattle.disk_base.specs.Tables.{names_in}
use Rattle.disk_base.proofs.memory_calls.listed.Given as goal

abbrev pub invariant-loop-name : goal.invariant-loop-name
invariant-loop-name l = l.made ≡ listed_in (names_in l.table) l.prefix (take l.name-index l.names)
