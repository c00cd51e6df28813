use Rattle.std.proofs.Common.{[]}
use Rattle.std.proofs.lemmas.Result.{on_ok_weaker}
use Rattle.disk_base.proofs.Composed.{keeps_trans}
use Rattle.cache_images.specs.Sound.{IsFaithful}
use Rattle.cache_store.specs.Contents.{HasContent}
use Rattle.store_tests.proofs.runs.put.Goals as goal

pub returns-in_err-part_no-clause-faithful : goal.returns-in_err-part_no-clause-faithful
returns-in_err-part_no-clause-faithful g c w is = c.begin.ensures.images.faithful w

pub returns-in_err-append-clause-faithful : goal.returns-in_err-append-clause-faithful
returns-in_err-append-clause-faithful g c w is =
    keeps_trans (IsFaithful w) g.D.Disk.told g.D.Disk.moment g.D.Disk.since c.args.store.now.disk c.begin.new.self.disk
    c.append.new.self.disk (c.begin.ensures.images.faithful w) (c.append.ensures.images.faithful w)

pub returns-in_err-seal_record-clause-faithful : goal.returns-in_err-seal_record-clause-faithful
returns-in_err-seal_record-clause-faithful g c w is =
    keeps_trans (IsFaithful w) g.D.Disk.told g.D.Disk.moment g.D.Disk.since c.args.store.now.disk c.append.new.self.disk
    c.seal_record.new.self.disk
    (keeps_trans (IsFaithful w) g.D.Disk.told g.D.Disk.moment g.D.Disk.since c.args.store.now.disk c.begin.new.self.disk
    c.append.new.self.disk (c.begin.ensures.images.faithful w) (c.append.ensures.images.faithful w))
    (c.seal_record.ensures.images.faithful w)

pub returns-clause-faithful : goal.returns-clause-faithful
returns-clause-faithful g c w is =
    let number = c.in_ok-part_no.part_no.number in
    let bytes = c.args.bytes.now in
    let content : HasContent g.D.Disk.told c.seal_record.new.self.disk number bytes =
    c.in_ok-seal_record.ensures.contents number bytes c.in_ok-part_no.ensures.new.1
    (c.in_ok-append.ensures.content [] c.in_ok-part_no.ensures.content) in
    keeps_trans (IsFaithful w) g.D.Disk.told g.D.Disk.moment g.D.Disk.since c.args.store.now.disk
    c.seal_record.new.self.disk c.publish.new.self.disk
    (keeps_trans (IsFaithful w) g.D.Disk.told g.D.Disk.moment g.D.Disk.since c.args.store.now.disk c.append.new.self.disk
    c.seal_record.new.self.disk
    (keeps_trans (IsFaithful w) g.D.Disk.told g.D.Disk.moment g.D.Disk.since c.args.store.now.disk c.begin.new.self.disk
    c.append.new.self.disk (c.begin.ensures.images.faithful w) (c.append.ensures.images.faithful w))
    (c.seal_record.ensures.images.faithful w))
    (c.publish.ensures.worlds w
    record {
      name = c.args.name.now;
      bytes = bytes;
      checks = c.args.checks.now;
      moment = c.args.moment;
      sealed = c.in_ok-seal_record.ensures.sealed;
      content = content;
      recorded = c.in_ok-seal_record.ensures.recorded;
      worlds = is;
    })

pub returns-clause-kept : goal.returns-clause-kept
returns-clause-kept g c =
    let number = c.in_ok-part_no.part_no.number in
    let bytes = c.args.bytes.now in
    let content : HasContent g.D.Disk.told c.seal_record.new.self.disk number bytes =
    c.in_ok-seal_record.ensures.contents number bytes c.in_ok-part_no.ensures.new.1
    (c.in_ok-append.ensures.content [] c.in_ok-part_no.ensures.content) in
    on_ok_weaker c.publish.result (λ kept. kept c.args.name.now bytes c.in_ok-seal_record.ensures.sealed content)
    c.publish.ensures.kept

pub returns-clause-recorded : goal.returns-clause-recorded
returns-clause-recorded g c =
    on_ok_weaker c.publish.result
    (λ recorded. recorded c.args.name.now c.args.checks.now c.args.moment c.in_ok-seal_record.ensures.sealed
    c.in_ok-seal_record.ensures.recorded) c.publish.ensures.recorded
