use Rattle.std.proofs.Common.{false, ap, ◌∙◌}
use Rattle.disk_base.proofs.Composed.{told_read}
use Rattle.disk_base.specs.Names.{read_name}
use Rattle.cache_reads.specs.Finds.{is_broken}
use Rattle.cache_store.proofs.Found.{found_bound, sound_found}
use Rattle.cache_store.proofs.Changed.{read_stands}
use Rattle.cache_store.proofs.Contents.{same_reads}
use Rattle.cache_store.proofs.Images.{images_read}
use Rattle.cache_store.proofs.store.Store.find.Goals as goal

pub returns-in-Ok-clause-stands : goal.returns-in-Ok-clause-stands
returns-in-Ok-clause-stands g c st =
    read_stands g.D.Disk.told c.args.self.now c.find.new.disk c.args.self.now.live
    (told_read g.D.Disk.told g.D.Disk.moment g.D.Disk.since c.args.self.now.disk c.find.new.disk c.find.ensures.ran) st

pub returns-in-Ok-clause-images : goal.returns-in-Ok-clause-images
returns-in-Ok-clause-images g c =
    images_read g.D.Disk.told g.D.Disk.moment g.D.Disk.since c.args.self.now.disk c.find.new.disk c.find.ensures.ran

pub returns-in-Err-clause-stands : goal.returns-in-Err-clause-stands
returns-in-Err-clause-stands g c st =
    read_stands g.D.Disk.told c.args.self.now c.find.new.disk false
    (told_read g.D.Disk.told g.D.Disk.moment g.D.Disk.since c.args.self.now.disk c.find.new.disk c.find.ensures.ran) st

pub returns-in-Err-clause-images : goal.returns-in-Err-clause-images
returns-in-Err-clause-images g c =
    images_read g.D.Disk.told g.D.Disk.moment g.D.Disk.since c.args.self.now.disk c.find.new.disk c.find.ensures.ran

pub returns-in-Ok-clause-sound : goal.returns-in-Ok-clause-sound
returns-in-Ok-clause-sound g c = λ s f sound.
    ap is_broken (c.in-Ok.ensures.found s f) ∙ sound_found (read_name s) c.args.name.now c.requires.named sound

pub returns-in-Ok-clause-bound : goal.returns-in-Ok-clause-bound
returns-in-Ok-clause-bound g c has =
    found_bound g.D.Disk.told g.D.Disk.moment g.D.Disk.since c.args.self.now.disk c.find.new.disk c.args.name.now
    c.in-Ok.found c.find.ensures.ran c.in-Ok.ensures.found has

pub returns-in-Ok-clause-contents : goal.returns-in-Ok-clause-contents
returns-in-Ok-clause-contents g c =
    same_reads g.D.Disk.told c.args.self.now.disk c.find.new.disk
    (told_read g.D.Disk.told g.D.Disk.moment g.D.Disk.since c.args.self.now.disk c.find.new.disk c.find.ensures.ran)

pub returns-in-Err-clause-contents : goal.returns-in-Err-clause-contents
returns-in-Err-clause-contents g c =
    same_reads g.D.Disk.told c.args.self.now.disk c.find.new.disk
    (told_read g.D.Disk.told g.D.Disk.moment g.D.Disk.since c.args.self.now.disk c.find.new.disk c.find.ensures.ran)
