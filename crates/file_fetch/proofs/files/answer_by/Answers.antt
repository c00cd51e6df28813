use Rattle.std.proofs.Common.{sym}
use Rattle.file_fetch.proofs.Deciding.{asks_online}
use Rattle.file_fetch.proofs.Keeping.{store_any}
use Rattle.file_fetch.proofs.files.answer_by.Goals as goal

pub returns-in-Use-clause-store : goal.returns-in-Use-clause-store
returns-in-Use-clause-store g c = store_any g.D.Disk.told g.D.Disk.moment g.D.Disk.since _ _ _ c.use_found.ensures.store

pub returns-in-Ask-clause-online : goal.returns-in-Ask-clause-online
returns-in-Ask-clause-online g c = λ e off.
    asks_online c.args.plan.now c.args.key.now _ (sym (rw c.is_changing-changing.ensures at c.in-Ask.ensures.table)) off

pub returns-in-Use-clause-faithful : goal.returns-in-Use-clause-faithful
returns-in-Use-clause-faithful g c = λ w agrees. c.use_found.ensures.faithful w
