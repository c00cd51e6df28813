use Rattle.std.proofs.Common.{[], true}
use Rattle.cache_store.proofs.Changed.{opened_on, with_parts}
use Rattle.cache_store.proofs.store.Store.open.Goals as goal

pub returns-in-Ok-clause-stands : goal.returns-in-Ok-clause-stands
returns-in-Ok-clause-stands g c =
    with_parts g.D.Disk.told c.remove_parts.new.disk c.new.result [] true c.new.ensures.items
    (opened_on g.D.Disk.told c.remove_parts.new.disk c.in-Ok.ensures.settled)
