use Rattle.disk_base.proofs.Replays.{in_order, list_right}
use Rattle.disk_base.proofs.memory_calls.MemDiskDisk.list.Goals as goal

pub returns-clause-answer : goal.returns-clause-answer
returns-clause-answer c s e =
    list_right c.names.new.self c.in_ok-names.names c.in_ok-names-2.names c.args.prefix.now _ s
    c.in_ok-names.ensures.order c.in_ok-names-2.ensures
    (in_order c.args.self.now.log c.in_ok-table.table c.names.new.self c.in_ok-table.ensures.names c.in_ok-names.ensures.same) e
