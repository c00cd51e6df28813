use Rattle.std.proofs.Common.{List, ap, ◌∙◌, refl, subst}
use Rattle.disk_base.specs.Runs.{Done, Ran}
use Rattle.disk_base.specs.declared.steps.DiskStep.{DiskStep}
use Rattle.cache_images.specs.Sound.{AnyLine, HasItsRecord, IsGoneIn, IsWorlds}
use Rattle.cache_layout.specs.Readings.{gone_in}
use Rattle.cache_store.proofs.Changed.{gone_on, on_parts, unbound_for_good, unsealed_on, with_parts}
use Rattle.cache_store.proofs.Contents.{gone_reads}
use Rattle.cache_store.proofs.Images.{gone_stay, images_gone}
use Rattle.cache_store.proofs.CallNames.{gone_is}
use Rattle.cache_store.proofs.Published.{told_as}
use Rattle.cache_store.proofs.Slots.{none_sealed}
use Rattle.cache_store.proofs.store.Store.put_gone.Goals as goal

pub returns-in-Err-clause-sound : goal.returns-in-Err-clause-sound
returns-in-Err-clause-sound g c =
    let clears = c.gone_files.ensures.clears in
    let steps = gone_is clears.there 0 c.args.name.now c.as_str.result.now c.as_str-2.result.now c.as_bytes.result.now
    (c.as_str.ensures ∙ c.in_ok-gone.ensures) (c.as_str-2.ensures ∙ c.in_ok-from.ensures) in
    let ran = subst (λ (xs : List DiskStep). Ran g.D.Disk.told g.D.Disk.moment g.D.Disk.since xs c.args.self.now.disk c.gone_files.new.disk) steps
    clears.ran in
    images_gone g.D.Disk.told g.D.Disk.moment g.D.Disk.since HasItsRecord AnyLine clears.there c.args.self.now.disk c.gone_files.new.disk 0 c.args.name.now
    c.as_bytes.result.now c.requires.named tt ran

pub returns-clause-sound : goal.returns-clause-sound
returns-clause-sound g c =
    let clears = c.gone_files.ensures.clears in
    let steps = gone_is clears.there 0 c.args.name.now c.as_str.result.now c.as_str-2.result.now c.as_bytes.result.now
    (c.as_str.ensures ∙ c.in_ok-gone.ensures) (c.as_str-2.ensures ∙ c.in_ok-from.ensures) in
    let ran = subst (λ (xs : List DiskStep). Ran g.D.Disk.told g.D.Disk.moment g.D.Disk.since xs c.args.self.now.disk c.gone_files.new.disk) steps
    clears.ran in
    images_gone g.D.Disk.told g.D.Disk.moment g.D.Disk.since HasItsRecord AnyLine clears.there c.args.self.now.disk c.gone_files.new.disk 0 c.args.name.now
    c.as_bytes.result.now c.requires.named tt ran

pub returns-in-Err-clause-faithful : goal.returns-in-Err-clause-faithful
returns-in-Err-clause-faithful g c w absent =
    let clears = c.gone_files.ensures.clears in
    let steps = gone_is clears.there 0 c.args.name.now c.as_str.result.now c.as_str-2.result.now c.as_bytes.result.now
    (c.as_str.ensures ∙ c.in_ok-gone.ensures) (c.as_str-2.ensures ∙ c.in_ok-from.ensures) in
    let ran = subst (λ (xs : List DiskStep). Ran g.D.Disk.told g.D.Disk.moment g.D.Disk.since xs c.args.self.now.disk c.gone_files.new.disk) steps
    clears.ran in
    images_gone g.D.Disk.told g.D.Disk.moment g.D.Disk.since (IsWorlds w) (IsGoneIn w) clears.there c.args.self.now.disk c.gone_files.new.disk 0 c.args.name.now
    c.as_bytes.result.now c.requires.named (λ url moment is reads. absent url is) ran

pub returns-clause-faithful : goal.returns-clause-faithful
returns-clause-faithful g c w absent =
    let clears = c.gone_files.ensures.clears in
    let steps = gone_is clears.there 0 c.args.name.now c.as_str.result.now c.as_str-2.result.now c.as_bytes.result.now
    (c.as_str.ensures ∙ c.in_ok-gone.ensures) (c.as_str-2.ensures ∙ c.in_ok-from.ensures) in
    let ran = subst (λ (xs : List DiskStep). Ran g.D.Disk.told g.D.Disk.moment g.D.Disk.since xs c.args.self.now.disk c.gone_files.new.disk) steps
    clears.ran in
    images_gone g.D.Disk.told g.D.Disk.moment g.D.Disk.since (IsWorlds w) (IsGoneIn w) clears.there c.args.self.now.disk c.gone_files.new.disk 0 c.args.name.now
    c.as_bytes.result.now c.requires.named (λ url moment is reads. absent url is) ran

pub returns-clause-stands : goal.returns-clause-stands
returns-clause-stands g c live =
    let clears = c.in_default.ensures.clears in
    let steps = gone_is clears.there 0 c.args.name.now c.as_str.result.now c.as_str-2.result.now c.as_bytes.result.now
    (c.as_str.ensures ∙ c.in_ok-gone.ensures) (c.as_str-2.ensures ∙ c.in_ok-from.ensures) in
    let done = subst (λ (xs : List DiskStep). Done g.D.Disk.told xs c.args.self.now.disk c.gone_files.new.disk) steps
    clears.done in
    let mid = c.unseal_all.new.parts.items in
    let st = unsealed_on g.D.Disk.told c.args.self.now.disk c.args.name.now c.args.self.now.parts.items mid
    c.unseal_all.ensures.each c.unseal_all.ensures.few (on_parts g.D.Disk.told c.args.self.now c.requires.stands) in
    let none = none_sealed c.args.name.now c.args.self.now.parts.items mid c.unseal_all.ensures.each in
    with_parts g.D.Disk.told c.gone_files.new.disk c.unseal_all.new.parts mid c.args.self.now.live refl
    (gone_on g.D.Disk.told clears.there c.args.self.now.disk c.gone_files.new.disk mid 0 c.args.name.now c.as_bytes.result.now
    c.requires.named st none done)

pub returns-clause-told : goal.returns-clause-told
returns-clause-told g c s e =
    let clears = c.in_default.ensures.clears in
    let steps = gone_is clears.there 0 c.args.name.now c.as_str.result.now c.as_str-2.result.now c.as_bytes.result.now
    (c.as_str.ensures ∙ c.in_ok-gone.ensures) (c.as_str-2.ensures ∙ c.in_ok-from.ensures) in
    let done = subst (λ (xs : List DiskStep). Done g.D.Disk.told xs c.args.self.now.disk c.gone_files.new.disk) steps
    clears.done in
    let is = told_as g.D.Disk.told clears.there c.args.self.now.disk c.gone_files.new.disk 0 c.args.name.now
    c.as_bytes.result.now c.requires.named
    (λ f. unbound_for_good g.D.Disk.told c.args.self.now.disk c.args.self.now.parts.items c.args.name.now c.requires.named
    (on_parts g.D.Disk.told c.args.self.now c.requires.stands) (clears.neither f).0) done s e in
    (is.0, (c.as_bytes.result.now, is.1, ap gone_in c.as_bytes.ensures ∙ (c.gone_lines_read.ensures c.in_ok-line.line c.args.moment).1 c.in_ok-line.ensures))

pub returns-in-Err-clause-stay : goal.returns-in-Err-clause-stay
returns-in-Err-clause-stay g c =
    let clears = c.gone_files.ensures.clears in
    let steps = gone_is clears.there 0 c.args.name.now c.as_str.result.now c.as_str-2.result.now c.as_bytes.result.now
    (c.as_str.ensures ∙ c.in_ok-gone.ensures) (c.as_str-2.ensures ∙ c.in_ok-from.ensures) in
    let ran = subst (λ (xs : List DiskStep). Ran g.D.Disk.told g.D.Disk.moment g.D.Disk.since xs c.args.self.now.disk c.gone_files.new.disk) steps
    clears.ran in
    gone_stay g.D.Disk.told g.D.Disk.moment g.D.Disk.since clears.there c.args.self.now.disk c.gone_files.new.disk 0
    c.args.name.now c.as_bytes.result.now ran

pub returns-clause-stay : goal.returns-clause-stay
returns-clause-stay g c =
    let clears = c.gone_files.ensures.clears in
    let steps = gone_is clears.there 0 c.args.name.now c.as_str.result.now c.as_str-2.result.now c.as_bytes.result.now
    (c.as_str.ensures ∙ c.in_ok-gone.ensures) (c.as_str-2.ensures ∙ c.in_ok-from.ensures) in
    let ran = subst (λ (xs : List DiskStep). Ran g.D.Disk.told g.D.Disk.moment g.D.Disk.since xs c.args.self.now.disk c.gone_files.new.disk) steps
    clears.ran in
    gone_stay g.D.Disk.told g.D.Disk.moment g.D.Disk.since clears.there c.args.self.now.disk c.gone_files.new.disk 0
    c.args.name.now c.as_bytes.result.now ran

pub returns-clause-contents : goal.returns-clause-contents
returns-clause-contents g c =
    let clears = c.in_default.ensures.clears in
    let steps = gone_is clears.there 0 c.args.name.now c.as_str.result.now c.as_str-2.result.now c.as_bytes.result.now
    (c.as_str.ensures ∙ c.in_ok-gone.ensures) (c.as_str-2.ensures ∙ c.in_ok-from.ensures) in
    let done = subst (λ (xs : List DiskStep). Done g.D.Disk.told xs c.args.self.now.disk c.gone_files.new.disk) steps
    clears.done in
    gone_reads g.D.Disk.told clears.there 0 c.args.name.now c.as_bytes.result.now c.args.self.now.disk c.gone_files.new.disk
    c.requires.named done
