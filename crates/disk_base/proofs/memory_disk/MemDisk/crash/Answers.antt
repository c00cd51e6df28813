use Rattle.disk_base.proofs.Replays.{crash_right, in_order}
use Rattle.disk_base.proofs.memory_disk.MemDisk.crash.Goals as goal

pub returns : goal.returns
returns c =
    crash_right c.args.picks.now c.names.new.self c.in_ok-names.names c.in_ok-names-2.names c.in_ok-pick_all.field-0
    c.new.result _ c.in_ok-names.ensures.order c.in_ok-names-2.ensures c.in_ok-pick_all.ensures c.new.ensures
    (in_order c.args.self.now.log c.in_ok-table.table c.names.new.self c.in_ok-table.ensures c.in_ok-names.ensures.same)
