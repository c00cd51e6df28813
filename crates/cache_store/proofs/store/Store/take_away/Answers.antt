use Rattle.std.proofs.Common.{List, ◌∙◌, refl, subst}
use Rattle.disk_base.specs.Runs.{Done, Ran}
use Rattle.disk_base.specs.declared.steps.DiskStep.{DiskStep}
use Rattle.cache_store.proofs.Changed.{clears_good, on_parts, taken_on, unsealed_on, with_parts}
use Rattle.cache_store.proofs.Contents.{take_reads}
use Rattle.cache_store.proofs.Images.{images_taken}
use Rattle.cache_store.proofs.CallNames.{take_is}
use Rattle.cache_store.proofs.Published.{taken_as}
use Rattle.cache_store.proofs.Slots.{none_sealed}
use Rattle.cache_store.proofs.store.Store.take_away.Goals as goal

pub returns-in-Err-clause-images : goal.returns-in-Err-clause-images
returns-in-Err-clause-images g c =
    let clears = c.take_file.ensures.clears in
    let steps = take_is clears.there c.args.name.now c.as_str.result.now (c.as_str.ensures ∙ c.in_ok-gone.ensures) in
    images_taken g.D.Disk.told g.D.Disk.moment g.D.Disk.since clears.there c.args.self.now.disk c.take_file.new.disk c.args.name.now c.requires.named
    (subst (λ (xs : List DiskStep). Ran g.D.Disk.told g.D.Disk.moment g.D.Disk.since xs c.args.self.now.disk c.take_file.new.disk) steps clears.ran)

pub returns-clause-images : goal.returns-clause-images
returns-clause-images g c =
    let clears = c.take_file.ensures.clears in
    let steps = take_is clears.there c.args.name.now c.as_str.result.now (c.as_str.ensures ∙ c.in_ok-gone.ensures) in
    images_taken g.D.Disk.told g.D.Disk.moment g.D.Disk.since clears.there c.args.self.now.disk c.take_file.new.disk c.args.name.now c.requires.named
    (subst (λ (xs : List DiskStep). Ran g.D.Disk.told g.D.Disk.moment g.D.Disk.since xs c.args.self.now.disk c.take_file.new.disk) steps clears.ran)

pub returns-clause-stands : goal.returns-clause-stands
returns-clause-stands g c live =
    let clears = c.in_default.ensures.clears in
    let steps = take_is clears.there c.args.name.now c.as_str.result.now (c.as_str.ensures ∙ c.in_ok-gone.ensures) in
    let done = subst (λ (xs : List DiskStep). Done g.D.Disk.told xs c.args.self.now.disk c.take_file.new.disk) steps
    clears.done in
    let mid = c.unseal_all.new.parts.items in
    let st = unsealed_on g.D.Disk.told c.args.self.now.disk c.args.name.now c.args.self.now.parts.items mid
    c.unseal_all.ensures.each c.unseal_all.ensures.few (on_parts g.D.Disk.told c.args.self.now c.requires.stands) in
    let none = none_sealed c.args.name.now c.args.self.now.parts.items mid c.unseal_all.ensures.each in
    with_parts g.D.Disk.told c.take_file.new.disk c.unseal_all.new.parts mid c.args.self.now.live refl
    (taken_on g.D.Disk.told clears.there c.args.self.now.disk c.take_file.new.disk mid c.args.name.now c.requires.named st none done)

pub returns-clause-taken : goal.returns-clause-taken
returns-clause-taken g c =
    let clears = c.in_default.ensures.clears in
    let steps = take_is clears.there c.args.name.now c.as_str.result.now (c.as_str.ensures ∙ c.in_ok-gone.ensures) in
    let done = subst (λ (xs : List DiskStep). Done g.D.Disk.told xs c.args.self.now.disk c.take_file.new.disk) steps
    clears.done in
    taken_as g.D.Disk.told clears.there c.args.self.now.disk c.take_file.new.disk c.args.name.now c.requires.named
    (clears_good g.D.Disk.told c.args.self.now.disk c.args.self.now.parts.items c.args.name.now c.as_str.result.now
    c.requires.named (c.as_str.ensures ∙ c.in_ok-gone.ensures)
    (on_parts g.D.Disk.told c.args.self.now c.requires.stands) clears.there clears.neither) done

pub returns-clause-contents : goal.returns-clause-contents
returns-clause-contents g c =
    let clears = c.in_default.ensures.clears in
    let steps = take_is clears.there c.args.name.now c.as_str.result.now (c.as_str.ensures ∙ c.in_ok-gone.ensures) in
    let done = subst (λ (xs : List DiskStep). Done g.D.Disk.told xs c.args.self.now.disk c.take_file.new.disk) steps
    clears.done in
    take_reads g.D.Disk.told clears.there c.args.name.now c.args.self.now.disk c.take_file.new.disk c.requires.named done
