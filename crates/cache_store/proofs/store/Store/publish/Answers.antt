use Rattle.std.proofs.Common.{arith, ◌≡◌, ℕ, List, Some, sym, ap, ◌∙◌, refl, subst}
use Rattle.disk_base.specs.Runs.{Done, Ran}
use Rattle.cache_images.specs.Places.{part_name}
use Rattle.cache_images.specs.Sequences.{publish_steps}
use Rattle.cache_images.specs.Sound.{AnyLine, HasItsRecord, IsGoneIn, IsWorlds}
use Rattle.cache_store.proofs.Changed.{on_parts, published_on, with_parts}
use Rattle.cache_store.proofs.Contents.{kept_as, publish_reads, publishes_for, recorded_as}
use Rattle.cache_store.proofs.Images.{images_published, published_stay}
use Rattle.cache_store.proofs.Published.{published_as}
use Rattle.cache_store.proofs.Slots.{within}
use Rattle.cache_store.proofs.Stood.{part_bound}
use Rattle.cache_store.specs.Parts.{Parts, part_at}
use Rattle.cache_store.specs.Stands.{IsNotSealedAs}
use Rattle.cache_store.proofs.store.Store.publish.Goals as goal

pub publish_part-requires : goal.publish_part-requires
publish_part-requires g c =
    let at : part_at c.args.self.now.parts.items c.args.part_no.number ≡ Some c.in-Some.part.now =
    ap (λ (parts : Parts). part_at parts c.args.part_no.number) (sym c.as_slice.ensures.value) ∙ sym c.in-Some.ensures.value in
    let from : c.as_str.result.now ≡ part_name c.args.part_no.number = c.as_str.ensures ∙ c.in_ok-from.ensures in
    let sealed : c.in-Some.part.now.sealed ≡ Some c.as_str-2.result.now = cc in
    part_bound g.D.Disk.told c.args.self.now.disk c.args.self.now.parts.items c.args.part_no.number c.in-Some.part.now
    c.as_str.result.now c.requires.stands.holds at from

pub returns-in-Err-clause-sound : goal.returns-in-Err-clause-sound
returns-in-Err-clause-sound g c =
    let at : part_at c.args.self.now.parts.items c.args.part_no.number ≡ Some c.in-Some.part.now =
    ap (λ (parts : Parts). part_at parts c.args.part_no.number) (sym c.as_slice.ensures.value) ∙ sym c.in-Some.ensures.value in
    let from : c.as_str.result.now ≡ part_name c.args.part_no.number = c.as_str.ensures ∙ c.in_ok-from.ensures in
    let sealed : c.in-Some.part.now.sealed ≡ Some c.as_str-2.result.now = cc in
    let ran = subst (λ (u : List ℕ). Ran g.D.Disk.told g.D.Disk.moment g.D.Disk.since (publish_steps u c.as_str-2.result.now)
    c.args.self.now.disk c.publish_part.new.disk) from c.publish_part.ensures.ran in
    images_published g.D.Disk.told g.D.Disk.moment g.D.Disk.since HasItsRecord AnyLine c.args.self.now.disk c.publish_part.new.disk c.args.part_no.number
    c.as_str-2.result.now (λ s e.
    let is = (c.requires.stands.holds s e c.args.part_no.number c.in-Some.part.now at).sealed c.as_str-2.result.now sealed in
    (is, is.fits)) ran

pub returns-in-Err-clause-faithful : goal.returns-in-Err-clause-faithful
returns-in-Err-clause-faithful g c w worlds =
    let at : part_at c.args.self.now.parts.items c.args.part_no.number ≡ Some c.in-Some.part.now =
    ap (λ (parts : Parts). part_at parts c.args.part_no.number) (sym c.as_slice.ensures.value) ∙ sym c.in-Some.ensures.value in
    let from : c.as_str.result.now ≡ part_name c.args.part_no.number = c.as_str.ensures ∙ c.in_ok-from.ensures in
    let sealed : c.in-Some.part.now.sealed ≡ Some c.as_str-2.result.now = cc in
    let ran = subst (λ (u : List ℕ). Ran g.D.Disk.told g.D.Disk.moment g.D.Disk.since (publish_steps u c.as_str-2.result.now)
    c.args.self.now.disk c.publish_part.new.disk) from c.publish_part.ensures.ran in
    images_published g.D.Disk.told g.D.Disk.moment g.D.Disk.since (IsWorlds w) (IsGoneIn w) c.args.self.now.disk c.publish_part.new.disk c.args.part_no.number
    c.as_str-2.result.now (λ s e.
    let is = (c.requires.stands.holds s e c.args.part_no.number c.in-Some.part.now at).sealed c.as_str-2.result.now sealed in
    (is, worlds s c.in-Some.part.now c.as_str-2.result.now is e at sealed)) ran

pub returns-clause-sound : goal.returns-clause-sound
returns-clause-sound g c =
    let at : part_at c.args.self.now.parts.items c.args.part_no.number ≡ Some c.in-Some.part.now =
    ap (λ (parts : Parts). part_at parts c.args.part_no.number) (sym c.as_slice.ensures.value) ∙ sym c.in-Some.ensures.value in
    let from : c.as_str.result.now ≡ part_name c.args.part_no.number = c.as_str.ensures ∙ c.in_ok-from.ensures in
    let sealed : c.in-Some.part.now.sealed ≡ Some c.as_str-2.result.now = cc in
    let ran = subst (λ (u : List ℕ). Ran g.D.Disk.told g.D.Disk.moment g.D.Disk.since (publish_steps u c.as_str-2.result.now)
    c.args.self.now.disk c.publish_part.new.disk) from c.publish_part.ensures.ran in
    images_published g.D.Disk.told g.D.Disk.moment g.D.Disk.since HasItsRecord AnyLine c.args.self.now.disk c.publish_part.new.disk c.args.part_no.number
    c.as_str-2.result.now (λ s e.
    let is = (c.requires.stands.holds s e c.args.part_no.number c.in-Some.part.now at).sealed c.as_str-2.result.now sealed in
    (is, is.fits)) ran

pub returns-clause-faithful : goal.returns-clause-faithful
returns-clause-faithful g c w worlds =
    let at : part_at c.args.self.now.parts.items c.args.part_no.number ≡ Some c.in-Some.part.now =
    ap (λ (parts : Parts). part_at parts c.args.part_no.number) (sym c.as_slice.ensures.value) ∙ sym c.in-Some.ensures.value in
    let from : c.as_str.result.now ≡ part_name c.args.part_no.number = c.as_str.ensures ∙ c.in_ok-from.ensures in
    let sealed : c.in-Some.part.now.sealed ≡ Some c.as_str-2.result.now = cc in
    let ran = subst (λ (u : List ℕ). Ran g.D.Disk.told g.D.Disk.moment g.D.Disk.since (publish_steps u c.as_str-2.result.now)
    c.args.self.now.disk c.publish_part.new.disk) from c.publish_part.ensures.ran in
    images_published g.D.Disk.told g.D.Disk.moment g.D.Disk.since (IsWorlds w) (IsGoneIn w) c.args.self.now.disk c.publish_part.new.disk c.args.part_no.number
    c.as_str-2.result.now (λ s e.
    let is = (c.requires.stands.holds s e c.args.part_no.number c.in-Some.part.now at).sealed c.as_str-2.result.now sealed in
    (is, worlds s c.in-Some.part.now c.as_str-2.result.now is e at sealed)) ran

pub returns-clause-stands : goal.returns-clause-stands
returns-clause-stands g c live =
    let at : part_at c.args.self.now.parts.items c.args.part_no.number ≡ Some c.in-Some.part.now =
    ap (λ (parts : Parts). part_at parts c.args.part_no.number) (sym c.as_slice.ensures.value) ∙ sym c.in-Some.ensures.value in
    let from : c.as_str.result.now ≡ part_name c.args.part_no.number = c.as_str.ensures ∙ c.in_ok-from.ensures in
    let sealed : c.in-Some.part.now.sealed ≡ Some c.as_str-2.result.now = cc in
    let done = subst (λ (u : List ℕ). Done g.D.Disk.told (publish_steps u c.as_str-2.result.now)
    c.args.self.now.disk c.publish_part.new.disk) from c.in_default-publish_part.ensures.done in
    with_parts g.D.Disk.told c.publish_part.new.disk _ _ c.args.self.now.live refl
    (published_on g.D.Disk.told c.args.self.now.disk c.publish_part.new.disk c.args.self.now.parts.items c.args.part_no.number
    c.as_str-2.result.now c.in-Some.part.now (on_parts g.D.Disk.told c.args.self.now c.requires.stands) at sealed done)

pub returns-clause-published : goal.returns-clause-published
returns-clause-published g c =
    let at : part_at c.args.self.now.parts.items c.args.part_no.number ≡ Some c.in-Some.part.now =
    ap (λ (parts : Parts). part_at parts c.args.part_no.number) (sym c.as_slice.ensures.value) ∙ sym c.in-Some.ensures.value in
    let from : c.as_str.result.now ≡ part_name c.args.part_no.number = c.as_str.ensures ∙ c.in_ok-from.ensures in
    let sealed : c.in-Some.part.now.sealed ≡ Some c.as_str-2.result.now = cc in
    let done = subst (λ (u : List ℕ). Done g.D.Disk.told (publish_steps u c.as_str-2.result.now)
    c.args.self.now.disk c.publish_part.new.disk) from c.in_default-publish_part.ensures.done in
    published_as g.D.Disk.told c.args.self.now.disk c.publish_part.new.disk c.args.self.now.parts.items c.args.part_no.number
    c.as_str-2.result.now c.in-Some.part.now at sealed done

pub returns-in-Err-clause-stay : goal.returns-in-Err-clause-stay
returns-in-Err-clause-stay g c =
    let at : part_at c.args.self.now.parts.items c.args.part_no.number ≡ Some c.in-Some.part.now =
    ap (λ (parts : Parts). part_at parts c.args.part_no.number) (sym c.as_slice.ensures.value) ∙ sym c.in-Some.ensures.value in
    let from : c.as_str.result.now ≡ part_name c.args.part_no.number = c.as_str.ensures ∙ c.in_ok-from.ensures in
    let sealed : c.in-Some.part.now.sealed ≡ Some c.as_str-2.result.now = cc in
    let ran = subst (λ (u : List ℕ). Ran g.D.Disk.told g.D.Disk.moment g.D.Disk.since (publish_steps u c.as_str-2.result.now)
    c.args.self.now.disk c.publish_part.new.disk) from c.publish_part.ensures.ran in
    published_stay g.D.Disk.told g.D.Disk.moment g.D.Disk.since (IsNotSealedAs c.args.self.now c.args.part_no.number)
    c.args.self.now.disk c.publish_part.new.disk c.args.part_no.number c.as_str-2.result.now
    (λ m none e. none c.in-Some.part.now at (sealed ∙ ap Some e)) ran

pub returns-clause-stay : goal.returns-clause-stay
returns-clause-stay g c =
    let at : part_at c.args.self.now.parts.items c.args.part_no.number ≡ Some c.in-Some.part.now =
    ap (λ (parts : Parts). part_at parts c.args.part_no.number) (sym c.as_slice.ensures.value) ∙ sym c.in-Some.ensures.value in
    let from : c.as_str.result.now ≡ part_name c.args.part_no.number = c.as_str.ensures ∙ c.in_ok-from.ensures in
    let sealed : c.in-Some.part.now.sealed ≡ Some c.as_str-2.result.now = cc in
    let ran = subst (λ (u : List ℕ). Ran g.D.Disk.told g.D.Disk.moment g.D.Disk.since (publish_steps u c.as_str-2.result.now)
    c.args.self.now.disk c.publish_part.new.disk) from c.publish_part.ensures.ran in
    published_stay g.D.Disk.told g.D.Disk.moment g.D.Disk.since (IsNotSealedAs c.args.self.now c.args.part_no.number)
    c.args.self.now.disk c.publish_part.new.disk c.args.part_no.number c.as_str-2.result.now
    (λ m none e. none c.in-Some.part.now at (sealed ∙ ap Some e)) ran

pub returns-in-Err-clause-worlds : goal.returns-in-Err-clause-worlds
returns-in-Err-clause-worlds g c w is =
    returns-in-Err-clause-faithful g c w
    (publishes_for g.D.Disk.told w c.args.self.now c.args.part_no.number is)

pub returns-clause-worlds : goal.returns-clause-worlds
returns-clause-worlds g c w is =
    returns-clause-faithful g c w (publishes_for g.D.Disk.told w c.args.self.now c.args.part_no.number is)

pub returns-clause-kept : goal.returns-clause-kept
returns-clause-kept g c =
    let at : part_at c.args.self.now.parts.items c.args.part_no.number ≡ Some c.in-Some.part.now =
    ap (λ (parts : Parts). part_at parts c.args.part_no.number) (sym c.as_slice.ensures.value) ∙ sym c.in-Some.ensures.value in
    let from : c.as_str.result.now ≡ part_name c.args.part_no.number = c.as_str.ensures ∙ c.in_ok-from.ensures in
    let sealed : c.in-Some.part.now.sealed ≡ Some c.as_str-2.result.now = cc in
    let done = subst (λ (u : List ℕ). Done g.D.Disk.told (publish_steps u c.as_str-2.result.now)
    c.args.self.now.disk c.publish_part.new.disk) from c.in_default-publish_part.ensures.done in
    kept_as g.D.Disk.told c.args.self.now.disk c.publish_part.new.disk c.args.self.now.parts.items c.args.part_no.number
    c.as_str-2.result.now c.in-Some.part.now at sealed c.requires.stands.holds done

pub returns-clause-recorded : goal.returns-clause-recorded
returns-clause-recorded g c =
    let at : part_at c.args.self.now.parts.items c.args.part_no.number ≡ Some c.in-Some.part.now =
    ap (λ (parts : Parts). part_at parts c.args.part_no.number) (sym c.as_slice.ensures.value) ∙ sym c.in-Some.ensures.value in
    let from : c.as_str.result.now ≡ part_name c.args.part_no.number = c.as_str.ensures ∙ c.in_ok-from.ensures in
    let sealed : c.in-Some.part.now.sealed ≡ Some c.as_str-2.result.now = cc in
    let done = subst (λ (u : List ℕ). Done g.D.Disk.told (publish_steps u c.as_str-2.result.now)
    c.args.self.now.disk c.publish_part.new.disk) from c.in_default-publish_part.ensures.done in
    recorded_as g.D.Disk.told c.args.self.now.disk c.publish_part.new.disk c.args.self.now.parts.items c.args.part_no.number
    c.as_str-2.result.now c.in-Some.part.now at sealed c.requires.stands.holds done

pub returns-clause-contents : goal.returns-clause-contents
returns-clause-contents g c =
    let at : part_at c.args.self.now.parts.items c.args.part_no.number ≡ Some c.in-Some.part.now =
    ap (λ (parts : Parts). part_at parts c.args.part_no.number) (sym c.as_slice.ensures.value) ∙ sym c.in-Some.ensures.value in
    let from : c.as_str.result.now ≡ part_name c.args.part_no.number = c.as_str.ensures ∙ c.in_ok-from.ensures in
    let sealed : c.in-Some.part.now.sealed ≡ Some c.as_str-2.result.now = cc in
    let done = subst (λ (u : List ℕ). Done g.D.Disk.told (publish_steps u c.as_str-2.result.now)
    c.args.self.now.disk c.publish_part.new.disk) from c.in_default-publish_part.ensures.done in
    let le = within c.args.self.now.parts.items c.args.part_no.number c.in-Some.part.now at in
    publish_reads g.D.Disk.told c.args.part_no.number c.as_str-2.result.now c.args.self.now.disk c.publish_part.new.disk
    (λ s e. ((c.requires.stands.holds s e c.args.part_no.number c.in-Some.part.now at).sealed c.as_str-2.result.now sealed).named)
    (omega (arith, le, c.requires.stands.few)) done
