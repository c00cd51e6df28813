use Rattle.std.proofs.Common.{◌≡◌, List, Some, ap, ◌∙◌, refl, subst}
use Rattle.disk_base.specs.Names.{read_name}
use Rattle.disk_base.specs.Runs.{Done, Ran}
use Rattle.disk_base.specs.declared.steps.DiskStep.{DiskStep}
use Rattle.cache_images.specs.Places.{gone_name, record_name}
use Rattle.cache_layout.specs.Readings.{record_in}
use Rattle.cache_store.proofs.CallNames.{upgrade_is}
use Rattle.cache_store.proofs.Changed.{on_parts, same_parts, upgraded_on, with_parts}
use Rattle.cache_store.proofs.Contents.{upgrade_reads}
use Rattle.cache_store.proofs.Upgrades.{PlansIn, images_upgraded, none_for, plans_from, reads_same, upgraded_as}
use Rattle.cache_layout.specs.declared.record.Record.{Record}
use Rattle.cache_reads.specs.declared.planning.Upgraded.TheVariants as kinds
use Rattle.cache_store.proofs.store.Store.put_newer.Goals as goal

one_done : (a b : Record) → kinds.Done a ≡ kinds.Done b → a ≡ b
one_done a b e = cc

pub returns-in-Err-clause-images : goal.returns-in-Err-clause-images
returns-in-Err-clause-images g c =
    let steps = upgrade_is c.in-Some.number c.args.name.now c.as_str.result.now c.as_str-2.result.now c.as_bytes.result.now
    (c.as_str.ensures ∙ c.in_ok-from.ensures) (c.as_str-2.ensures ∙ c.in_ok-entry.ensures) in
    let plans : PlansIn g.D.Disk.told c.args.self.now.disk c.args.name.now c.args.newer = λ s f.
    plans_from (read_name s c.args.name.now) (read_name s (record_name c.args.name.now)) (read_name s (gone_name c.args.name.now))
    c.args.newer (c.requires.plan s f) in
    let reads : record_in c.as_bytes.result.now ≡ Some c.args.newer =
    ap record_in c.as_bytes.ensures ∙ (c.record_lines_read.ensures c.in_ok-line.line c.args.newer).1 c.in_ok-line.ensures in
    let ran = subst (λ (xs : List DiskStep). Ran g.D.Disk.told g.D.Disk.moment g.D.Disk.since xs c.args.self.now.disk c.upgrade_files.new.disk) steps
    c.upgrade_files.ensures.ran in
    images_upgraded g.D.Disk.told g.D.Disk.moment g.D.Disk.since c.args.self.now.disk c.upgrade_files.new.disk c.in-Some.number
    c.args.name.now c.as_bytes.result.now c.args.newer c.requires.named plans reads ran

pub returns-clause-images : goal.returns-clause-images
returns-clause-images g c =
    let steps = upgrade_is c.in-Some.number c.args.name.now c.as_str.result.now c.as_str-2.result.now c.as_bytes.result.now
    (c.as_str.ensures ∙ c.in_ok-from.ensures) (c.as_str-2.ensures ∙ c.in_ok-entry.ensures) in
    let plans : PlansIn g.D.Disk.told c.args.self.now.disk c.args.name.now c.args.newer = λ s f.
    plans_from (read_name s c.args.name.now) (read_name s (record_name c.args.name.now)) (read_name s (gone_name c.args.name.now))
    c.args.newer (c.requires.plan s f) in
    let reads : record_in c.as_bytes.result.now ≡ Some c.args.newer =
    ap record_in c.as_bytes.ensures ∙ (c.record_lines_read.ensures c.in_ok-line.line c.args.newer).1 c.in_ok-line.ensures in
    let ran = subst (λ (xs : List DiskStep). Ran g.D.Disk.told g.D.Disk.moment g.D.Disk.since xs c.args.self.now.disk c.upgrade_files.new.disk) steps
    c.upgrade_files.ensures.ran in
    images_upgraded g.D.Disk.told g.D.Disk.moment g.D.Disk.since c.args.self.now.disk c.upgrade_files.new.disk c.in-Some.number
    c.args.name.now c.as_bytes.result.now c.args.newer c.requires.named plans reads ran

pub returns-clause-stands : goal.returns-clause-stands
returns-clause-stands g c live =
    let steps = upgrade_is c.in-Some.number c.args.name.now c.as_str.result.now c.as_str-2.result.now c.as_bytes.result.now
    (c.as_str.ensures ∙ c.in_ok-from.ensures) (c.as_str-2.ensures ∙ c.in_ok-entry.ensures) in
    let plans : PlansIn g.D.Disk.told c.args.self.now.disk c.args.name.now c.args.newer = λ s f.
    plans_from (read_name s c.args.name.now) (read_name s (record_name c.args.name.now)) (read_name s (gone_name c.args.name.now))
    c.args.newer (c.requires.plan s f) in
    let done = subst (λ (xs : List DiskStep). Done g.D.Disk.told xs c.args.self.now.disk c.upgrade_files.new.disk) steps c.in_default-upgrade_files.ensures.done in
    let parts = c.free_place.new.parts.items in
    let same = same_parts g.D.Disk.told c.args.self.now.disk c.args.self.now.parts.items parts
    (on_parts g.D.Disk.told c.args.self.now c.requires.stands) c.free_place.ensures.few c.free_place.ensures.same in
    with_parts g.D.Disk.told c.upgrade_files.new.disk c.free_place.new.parts parts c.args.self.now.live refl
    (upgraded_on g.D.Disk.told c.args.self.now.disk c.upgrade_files.new.disk parts c.in-Some.number c.args.name.now c.as_bytes.result.now c.requires.named same
    (λ s f j q here sealed. none_for g.D.Disk.told s parts c.args.name.now (plans s f).bytes (same.holds s f) (plans s f).has_data j q
    here sealed) done)

pub returns-clause-done : goal.returns-clause-done
returns-clause-done g c = λ entry is s f.
    let steps = upgrade_is c.in-Some.number c.args.name.now c.as_str.result.now c.as_str-2.result.now c.as_bytes.result.now
    (c.as_str.ensures ∙ c.in_ok-from.ensures) (c.as_str-2.ensures ∙ c.in_ok-entry.ensures) in
    let reads : record_in c.as_bytes.result.now ≡ Some c.args.newer =
    ap record_in c.as_bytes.ensures ∙ (c.record_lines_read.ensures c.in_ok-line.line c.args.newer).1 c.in_ok-line.ensures in
    let done = subst (λ (xs : List DiskStep). Done g.D.Disk.told xs c.args.self.now.disk c.upgrade_files.new.disk) steps c.in_default-upgrade_files.ensures.done in
    let same : c.args.newer ≡ entry = one_done c.args.newer entry is in (
      c.as_bytes.result.now,
      upgraded_as g.D.Disk.told c.args.self.now.disk c.upgrade_files.new.disk c.in-Some.number c.args.name.now c.as_bytes.result.now done s f,
      reads ∙ ap Some same,
    )

pub returns-clause-reads : goal.returns-clause-reads
returns-clause-reads g c = λ s after e f.
    let steps = upgrade_is c.in-Some.number c.args.name.now c.as_str.result.now c.as_str-2.result.now c.as_bytes.result.now
    (c.as_str.ensures ∙ c.in_ok-from.ensures) (c.as_str-2.ensures ∙ c.in_ok-entry.ensures) in
    let done = subst (λ (xs : List DiskStep). Done g.D.Disk.told xs c.args.self.now.disk c.upgrade_files.new.disk) steps c.in_default-upgrade_files.ensures.done in
    reads_same g.D.Disk.told c.args.self.now.disk c.upgrade_files.new.disk c.in-Some.number c.args.name.now c.as_bytes.result.now c.requires.named done s
    after e f

pub returns-clause-contents : goal.returns-clause-contents
returns-clause-contents g c =
    let steps = upgrade_is c.in-Some.number c.args.name.now c.as_str.result.now c.as_str-2.result.now c.as_bytes.result.now
    (c.as_str.ensures ∙ c.in_ok-from.ensures) (c.as_str-2.ensures ∙ c.in_ok-entry.ensures) in
    let done = subst (λ (xs : List DiskStep). Done g.D.Disk.told xs c.args.self.now.disk c.upgrade_files.new.disk) steps c.in_default-upgrade_files.ensures.done in
    upgrade_reads g.D.Disk.told c.in-Some.number c.args.name.now c.as_bytes.result.now c.args.self.now.disk
    c.upgrade_files.new.disk c.requires.named done

pub returns-in_err-number-clause-stands : goal.returns-in_err-number-clause-stands
returns-in_err-number-clause-stands g c live =
    with_parts g.D.Disk.told c.args.self.now.disk c.free_place.new.parts c.free_place.new.parts.items c.args.self.now.live refl
    (same_parts g.D.Disk.told c.args.self.now.disk c.args.self.now.parts.items c.free_place.new.parts.items
    (on_parts g.D.Disk.told c.args.self.now c.requires.stands) c.free_place.ensures.few c.free_place.ensures.same)

pub returns-in_err-line-clause-stands : goal.returns-in_err-line-clause-stands
returns-in_err-line-clause-stands g c live =
    with_parts g.D.Disk.told c.args.self.now.disk c.free_place.new.parts c.free_place.new.parts.items c.args.self.now.live refl
    (same_parts g.D.Disk.told c.args.self.now.disk c.args.self.now.parts.items c.free_place.new.parts.items
    (on_parts g.D.Disk.told c.args.self.now c.requires.stands) c.free_place.ensures.few c.free_place.ensures.same)

pub returns-in_err-from-clause-stands : goal.returns-in_err-from-clause-stands
returns-in_err-from-clause-stands g c live =
    with_parts g.D.Disk.told c.args.self.now.disk c.free_place.new.parts c.free_place.new.parts.items c.args.self.now.live refl
    (same_parts g.D.Disk.told c.args.self.now.disk c.args.self.now.parts.items c.free_place.new.parts.items
    (on_parts g.D.Disk.told c.args.self.now c.requires.stands) c.free_place.ensures.few c.free_place.ensures.same)

pub returns-in_err-entry-clause-stands : goal.returns-in_err-entry-clause-stands
returns-in_err-entry-clause-stands g c live =
    with_parts g.D.Disk.told c.args.self.now.disk c.free_place.new.parts c.free_place.new.parts.items c.args.self.now.live refl
    (same_parts g.D.Disk.told c.args.self.now.disk c.args.self.now.parts.items c.free_place.new.parts.items
    (on_parts g.D.Disk.told c.args.self.now c.requires.stands) c.free_place.ensures.few c.free_place.ensures.same)
