use Rattle.std.proofs.Common.{◌≡◌, ℕ, List, Some, sym, ap, ◌∙◌, refl, arith, set, subst}
use Rattle.std.specs.Option.{option_map}
use Rattle.disk_base.specs.Runs.{Done, Ran}
use Rattle.disk_base.specs.declared.steps.DiskStep.{DiskStep}
use Rattle.cache_images.specs.Leaves.{IsFirmly}
use Rattle.cache_images.specs.Places.{record_name}
use Rattle.cache_images.specs.Sound.{RecordFits}
use Rattle.cache_store.proofs.Changed.{on_parts, sealed_on, unbound_for_good, unsealed_on, with_parts}
use Rattle.cache_store.proofs.Contents.{seal_recorded, sealed_reads}
use Rattle.cache_store.proofs.Images.{images_sealed}
use Rattle.cache_store.proofs.CallNames.{SealNames, seal_is}
use Rattle.cache_store.proofs.Slots.{none_sealed, others_unsealed, set_here, some_part, within}
use Rattle.cache_store.proofs.Stood.{part_bound}
use Rattle.cache_store.proofs.Tells.{held_bytes}
use Rattle.cache_store.specs.Parts.{HasBytes, part_at, sealed_as, unsealed}
use Rattle.cache_store.proofs.store.Store.seal_part.Goals as goal

pub seal_files-requires : goal.seal_files-requires
seal_files-requires g c =
    let opened = some_part (part_at c.args.self.now.parts.items c.args.number) c.requires.open in
    part_bound g.D.Disk.told c.args.self.now.disk c.args.self.now.parts.items c.args.number opened.0
    c.as_str.result.now c.requires.stands.holds opened.1 (c.as_str.ensures ∙ c.in_ok-own.ensures.part)

pub seal_at-requires : goal.seal_at-requires
seal_at-requires g c =
    let opened = some_part (part_at c.args.self.now.parts.items c.args.number) c.requires.open in
    let here : part_at c.unseal_all.new.parts.items c.args.number ≡ Some (unsealed c.args.name.now opened.0) =
    c.unseal_all.ensures.each c.args.number ∙ ap (option_map (unsealed c.args.name.now)) opened.1 in
    within c.unseal_all.new.parts.items c.args.number (unsealed c.args.name.now opened.0) here

pub returns-in-Err-clause-images : goal.returns-in-Err-clause-images
returns-in-Err-clause-images g c =
    let clears = c.seal_files.ensures.clears in
    let made = c.in_ok-own.ensures in
    let names : SealNames c.args.number c.args.name.now c.as_str.result.now c.as_str-2.result.now c.as_str-3.result.now
    c.as_str-4.result.now = record {
      from_is = c.as_str.ensures ∙ made.part;
      gone_is = c.as_str-2.ensures ∙ made.gone;
      record_from_is = c.as_str-3.ensures ∙ made.record_part;
      entry_is = c.as_str-4.ensures ∙ made.entry;
    } in
    let steps = seal_is clears.there c.args.number c.args.name.now c.as_str.result.now c.as_str-2.result.now
    c.as_str-3.result.now c.as_str-4.result.now c.as_bytes.result.now names in
    let ran = subst (λ (xs : List DiskStep). Ran g.D.Disk.told g.D.Disk.moment g.D.Disk.since xs c.args.self.now.disk
    c.seal_files.new.disk) steps clears.ran in
    images_sealed g.D.Disk.told g.D.Disk.moment g.D.Disk.since clears.there c.args.self.now.disk c.seal_files.new.disk
    c.args.number c.args.name.now c.as_bytes.result.now c.requires.named
    (λ e. unbound_for_good g.D.Disk.told c.args.self.now.disk c.args.self.now.parts.items c.args.name.now c.requires.named
    (on_parts g.D.Disk.told c.args.self.now c.requires.stands) (clears.neither e).0) ran

pub returns-clause-images : goal.returns-clause-images
returns-clause-images g c =
    let clears = c.seal_files.ensures.clears in
    let made = c.in_ok-own.ensures in
    let names : SealNames c.args.number c.args.name.now c.as_str.result.now c.as_str-2.result.now c.as_str-3.result.now
    c.as_str-4.result.now = record {
      from_is = c.as_str.ensures ∙ made.part;
      gone_is = c.as_str-2.ensures ∙ made.gone;
      record_from_is = c.as_str-3.ensures ∙ made.record_part;
      entry_is = c.as_str-4.ensures ∙ made.entry;
    } in
    let steps = seal_is clears.there c.args.number c.args.name.now c.as_str.result.now c.as_str-2.result.now
    c.as_str-3.result.now c.as_str-4.result.now c.as_bytes.result.now names in
    let ran = subst (λ (xs : List DiskStep). Ran g.D.Disk.told g.D.Disk.moment g.D.Disk.since xs c.args.self.now.disk
    c.seal_files.new.disk) steps clears.ran in
    images_sealed g.D.Disk.told g.D.Disk.moment g.D.Disk.since clears.there c.args.self.now.disk c.seal_files.new.disk
    c.args.number c.args.name.now c.as_bytes.result.now c.requires.named
    (λ e. unbound_for_good g.D.Disk.told c.args.self.now.disk c.args.self.now.parts.items c.args.name.now c.requires.named
    (on_parts g.D.Disk.told c.args.self.now c.requires.stands) (clears.neither e).0) ran

pub returns-clause-stands : goal.returns-clause-stands
returns-clause-stands g c live =
    let opened = some_part (part_at c.args.self.now.parts.items c.args.number) c.requires.open in
    let mid = c.unseal_all.new.parts.items in
    let p = unsealed c.args.name.now opened.0 in
    let here : part_at mid c.args.number ≡ Some p =
    c.unseal_all.ensures.each c.args.number ∙ ap (option_map (unsealed c.args.name.now)) opened.1 in
    let is : c.seal_at.new.parts.items ≡ set mid c.args.number (Some (sealed_as c.args.name.now p)) =
    c.seal_at.ensures p here
    ∙ ap (λ (name : List ℕ). set mid c.args.number (Some (sealed_as name p))) c.in_ok-own.ensures.own in
    let made = c.in_ok-own.ensures in
    let names : SealNames c.args.number c.args.name.now c.as_str.result.now c.as_str-2.result.now c.as_str-3.result.now
    c.as_str-4.result.now = record {
      from_is = c.as_str.ensures ∙ made.part;
      gone_is = c.as_str-2.ensures ∙ made.gone;
      record_from_is = c.as_str-3.ensures ∙ made.record_part;
      entry_is = c.as_str-4.ensures ∙ made.entry;
    } in
    let clears = c.in_default.ensures.clears in
    let steps = seal_is clears.there c.args.number c.args.name.now c.as_str.result.now c.as_str-2.result.now
    c.as_str-3.result.now c.as_str-4.result.now c.as_bytes.result.now names in
    let st = unsealed_on g.D.Disk.told c.args.self.now.disk c.args.name.now c.args.self.now.parts.items mid
    c.unseal_all.ensures.each c.unseal_all.ensures.few (on_parts g.D.Disk.told c.args.self.now c.requires.stands) in
    let fits : (bytes : List ℕ) → HasBytes p bytes → RecordFits c.as_bytes.result.now bytes = λ bytes has.
    subst (λ (line : List ℕ). RecordFits line bytes) (sym c.as_bytes.ensures.value)
    (c.requires.fits bytes (opened.0, opened.1, record { fed = has.fed; size = has.size })) in
    let done = subst (λ (xs : List DiskStep). Done g.D.Disk.told xs c.args.self.now.disk c.seal_files.new.disk) steps
    clears.done in
    with_parts g.D.Disk.told c.seal_files.new.disk c.seal_at.new.parts _ c.args.self.now.live is
    (sealed_on g.D.Disk.told clears.there c.args.self.now.disk c.seal_files.new.disk mid c.args.number c.args.name.now
    c.as_bytes.result.now p c.requires.named st here
    (none_sealed c.args.name.now c.args.self.now.parts.items mid c.unseal_all.ensures.each) fits
    (λ e. (clears.neither e).0) done)

pub returns-clause-sealed : goal.returns-clause-sealed
returns-clause-sealed g c =
    let opened = some_part (part_at c.args.self.now.parts.items c.args.number) c.requires.open in
    let mid = c.unseal_all.new.parts.items in
    let p = unsealed c.args.name.now opened.0 in
    let here : part_at mid c.args.number ≡ Some p =
    c.unseal_all.ensures.each c.args.number ∙ ap (option_map (unsealed c.args.name.now)) opened.1 in
    let is : c.seal_at.new.parts.items ≡ set mid c.args.number (Some (sealed_as c.args.name.now p)) =
    c.seal_at.ensures p here
    ∙ ap (λ (name : List ℕ). set mid c.args.number (Some (sealed_as name p))) c.in_ok-own.ensures.own in (
      sealed_as c.args.name.now p,
      set_here mid c.seal_at.new.parts.items c.args.number _ is (within mid c.args.number p here),
      refl,
    )

pub returns-clause-others : goal.returns-clause-others
returns-clause-others g c =
    let opened = some_part (part_at c.args.self.now.parts.items c.args.number) c.requires.open in
    let mid = c.unseal_all.new.parts.items in
    let p = unsealed c.args.name.now opened.0 in
    let here : part_at mid c.args.number ≡ Some p =
    c.unseal_all.ensures.each c.args.number ∙ ap (option_map (unsealed c.args.name.now)) opened.1 in
    let is : c.seal_at.new.parts.items ≡ set mid c.args.number (Some (sealed_as c.args.name.now p)) =
    c.seal_at.ensures p here
    ∙ ap (λ (name : List ℕ). set mid c.args.number (Some (sealed_as name p))) c.in_ok-own.ensures.own in
    others_unsealed c.args.name.now c.args.self.now.parts.items mid c.seal_at.new.parts.items c.args.number _
    c.unseal_all.ensures.each is

pub returns-clause-bytes : goal.returns-clause-bytes
returns-clause-bytes g c all holds =
    let opened = some_part (part_at c.args.self.now.parts.items c.args.number) c.requires.open in
    let has = held_bytes c.args.self.now.parts.items c.args.number all opened.0 opened.1 holds in
    let mid = c.unseal_all.new.parts.items in
    let p = unsealed c.args.name.now opened.0 in
    let here : part_at mid c.args.number ≡ Some p =
    c.unseal_all.ensures.each c.args.number ∙ ap (option_map (unsealed c.args.name.now)) opened.1 in
    let is : c.seal_at.new.parts.items ≡ set mid c.args.number (Some (sealed_as c.args.name.now p)) =
    c.seal_at.ensures p here
    ∙ ap (λ (name : List ℕ). set mid c.args.number (Some (sealed_as name p))) c.in_ok-own.ensures.own in (
      sealed_as c.args.name.now p,
      set_here mid c.seal_at.new.parts.items c.args.number _ is (within mid c.args.number p here),
      record { fed = has.fed; size = has.size },
    )

pub returns-clause-contents : goal.returns-clause-contents
returns-clause-contents g c =
    let opened = some_part (part_at c.args.self.now.parts.items c.args.number) c.requires.open in
    let le = within c.args.self.now.parts.items c.args.number opened.0 opened.1 in
    let made = c.in_ok-own.ensures in
    let names : SealNames c.args.number c.args.name.now c.as_str.result.now c.as_str-2.result.now c.as_str-3.result.now
    c.as_str-4.result.now = record {
      from_is = c.as_str.ensures ∙ made.part;
      gone_is = c.as_str-2.ensures ∙ made.gone;
      record_from_is = c.as_str-3.ensures ∙ made.record_part;
      entry_is = c.as_str-4.ensures ∙ made.entry;
    } in
    let clears = c.in_default.ensures.clears in
    let steps = seal_is clears.there c.args.number c.args.name.now c.as_str.result.now c.as_str-2.result.now
    c.as_str-3.result.now c.as_str-4.result.now c.as_bytes.result.now names in
    let done = subst (λ (xs : List DiskStep). Done g.D.Disk.told xs c.args.self.now.disk c.seal_files.new.disk) steps
    clears.done in
    sealed_reads g.D.Disk.told clears.there c.args.number c.args.name.now c.as_bytes.result.now c.args.self.now.disk
    c.seal_files.new.disk c.requires.named (omega (arith, le, c.requires.stands.few)) done

pub returns-clause-recorded : goal.returns-clause-recorded
returns-clause-recorded g c = λ s f.
    let made = c.in_ok-own.ensures in
    let names : SealNames c.args.number c.args.name.now c.as_str.result.now c.as_str-2.result.now c.as_str-3.result.now
    c.as_str-4.result.now = record {
      from_is = c.as_str.ensures ∙ made.part;
      gone_is = c.as_str-2.ensures ∙ made.gone;
      record_from_is = c.as_str-3.ensures ∙ made.record_part;
      entry_is = c.as_str-4.ensures ∙ made.entry;
    } in
    let clears = c.in_default.ensures.clears in
    let steps = seal_is clears.there c.args.number c.args.name.now c.as_str.result.now c.as_str-2.result.now
    c.as_str-3.result.now c.as_str-4.result.now c.as_bytes.result.now names in
    let done = subst (λ (xs : List DiskStep). Done g.D.Disk.told xs c.args.self.now.disk c.seal_files.new.disk) steps
    clears.done in
    subst (λ (line : List ℕ). IsFirmly (s (record_name c.args.name.now)) line) c.as_bytes.ensures.value
    (seal_recorded g.D.Disk.told clears.there c.args.number c.args.name.now c.as_bytes.result.now c.args.self.now.disk
    c.seal_files.new.disk done s f)
