use Rattle.std.proofs.Common.{false}
use Rattle.disk_base.proofs.Composed.{told_read}
use Rattle.cache_store.proofs.Changed.{read_stands}
use Rattle.cache_store.proofs.Contents.{same_reads}
use Rattle.cache_store.proofs.Images.{images_read}
use Rattle.cache_store.proofs.store.Store.plan.Goals as goal

pub returns-in-Ok-clause-stands : goal.returns-in-Ok-clause-stands
returns-in-Ok-clause-stands g c st =
    read_stands g.D.Disk.told c.args.self.now c.plan_upgrade.new.disk c.args.self.now.live
    (told_read g.D.Disk.told g.D.Disk.moment g.D.Disk.since c.args.self.now.disk c.plan_upgrade.new.disk c.plan_upgrade.ensures.ran) st

pub returns-in-Ok-clause-images : goal.returns-in-Ok-clause-images
returns-in-Ok-clause-images g c =
    images_read g.D.Disk.told g.D.Disk.moment g.D.Disk.since c.args.self.now.disk c.plan_upgrade.new.disk c.plan_upgrade.ensures.ran

pub returns-in-Err-clause-stands : goal.returns-in-Err-clause-stands
returns-in-Err-clause-stands g c st =
    read_stands g.D.Disk.told c.args.self.now c.plan_upgrade.new.disk false
    (told_read g.D.Disk.told g.D.Disk.moment g.D.Disk.since c.args.self.now.disk c.plan_upgrade.new.disk c.plan_upgrade.ensures.ran) st

pub returns-in-Err-clause-images : goal.returns-in-Err-clause-images
returns-in-Err-clause-images g c =
    images_read g.D.Disk.told g.D.Disk.moment g.D.Disk.since c.args.self.now.disk c.plan_upgrade.new.disk c.plan_upgrade.ensures.ran

pub returns-in-Ok-clause-contents : goal.returns-in-Ok-clause-contents
returns-in-Ok-clause-contents g c =
    same_reads g.D.Disk.told c.args.self.now.disk c.plan_upgrade.new.disk
    (told_read g.D.Disk.told g.D.Disk.moment g.D.Disk.since c.args.self.now.disk c.plan_upgrade.new.disk c.plan_upgrade.ensures.ran)

pub returns-in-Err-clause-contents : goal.returns-in-Err-clause-contents
returns-in-Err-clause-contents g c =
    same_reads g.D.Disk.told c.args.self.now.disk c.plan_upgrade.new.disk
    (told_read g.D.Disk.told g.D.Disk.moment g.D.Disk.since c.args.self.now.disk c.plan_upgrade.new.disk c.plan_upgrade.ensures.ran)
