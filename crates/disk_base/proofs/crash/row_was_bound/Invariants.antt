use Rattle.std.proofs.Common.{◌≡◌, ◌||◌, take}
use Rattle.std.specs.Prelude.{is_some}
use Rattle.std.specs.List.{list_any}
use Rattle.disk_base.specs.Tables.{bindings_at}
use Rattle.disk_base.proofs.crash.row_was_bound.Given as goal

abbrev pub invariant-loop-content : goal.invariant-loop-content
invariant-loop-content l =
    l.found ≡ (is_some l.row.bindings.present || list_any is_some (take l.content-index (bindings_at l.turn l.row).before))
