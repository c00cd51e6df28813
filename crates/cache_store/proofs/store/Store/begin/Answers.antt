use Rattle.std.proofs.Common.{rules, ◌≡◌, ◌<◌, Some, length, ◌∙◌, refl, subst, arith}
use Rattle.std.proofs.Common.{List, ℕ, [], ◌∷◌}
use Rattle.disk_base.specs.Runs.{Done}
use Rattle.disk_base.specs.declared.steps.DiskStep.TheVariants.{Start}
use Rattle.cache_images.specs.Places.{part_name}
use Rattle.cache_store.proofs.Changed.{began_on, on_parts, same_parts, with_parts}
use Rattle.cache_store.proofs.Contents.{start_reads, started_content}
use Rattle.cache_store.proofs.Images.{images_started}
use Rattle.cache_store.proofs.CallNames.{named_part}
use Rattle.cache_store.proofs.Slots.{set_here}
use Rattle.cache_store.proofs.Stood.{fresh}
use Rattle.cache_store.proofs.store.Store.begin.Goals as goal

pub returns-in_err-name-clause-stands : goal.returns-in_err-name-clause-stands
returns-in_err-name-clause-stands g c live =
    with_parts g.D.Disk.told c.args.self.now.disk c.free_place.new.parts c.free_place.new.parts.items c.args.self.now.live refl
    (same_parts g.D.Disk.told c.args.self.now.disk c.args.self.now.parts.items c.free_place.new.parts.items
    (on_parts g.D.Disk.told c.args.self.now c.requires.stands) c.free_place.ensures.few c.free_place.ensures.same)

pub returns-in_err-number-clause-stands : goal.returns-in_err-number-clause-stands
returns-in_err-number-clause-stands g c live =
    with_parts g.D.Disk.told c.args.self.now.disk c.free_place.new.parts c.free_place.new.parts.items c.args.self.now.live refl
    (same_parts g.D.Disk.told c.args.self.now.disk c.args.self.now.parts.items c.free_place.new.parts.items
    (on_parts g.D.Disk.told c.args.self.now c.requires.stands) c.free_place.ensures.few c.free_place.ensures.same)

pub returns-in-Err-clause-images : goal.returns-in-Err-clause-images
returns-in-Err-clause-images g c =
    let from : c.as_str.result.now ≡ part_name c.in-Some.number = c.as_str.ensures ∙ c.in_ok-name.ensures in
    images_started g.D.Disk.told g.D.Disk.moment g.D.Disk.since c.args.self.now.disk c.start.new.self c.as_str.result.now
    (named_part c.in-Some.number c.as_str.result.now from) c.start.ensures.ran

pub returns-clause-images : goal.returns-clause-images
returns-clause-images g c =
    let from : c.as_str.result.now ≡ part_name c.in-Some.number = c.as_str.ensures ∙ c.in_ok-name.ensures in
    images_started g.D.Disk.told g.D.Disk.moment g.D.Disk.since c.args.self.now.disk c.start.new.self c.as_str.result.now
    (named_part c.in-Some.number c.as_str.result.now from) c.start.ensures.ran

pub returns-clause-stands : goal.returns-clause-stands
returns-clause-stands g c live =
    let from : c.as_str.result.now ≡ part_name c.in-Some.number = c.as_str.ensures ∙ c.in_ok-name.ensures in
    let free = c.in_ok-number.ensures.free in
    let le : c.in-Some.number < length c.free_place.new.parts.items = search (rules, free) in
    let same = same_parts g.D.Disk.told c.args.self.now.disk c.args.self.now.parts.items c.free_place.new.parts.items
    (on_parts g.D.Disk.told c.args.self.now c.requires.stands) c.free_place.ensures.few c.free_place.ensures.same in
    let done = subst (λ (u : List ℕ). Done g.D.Disk.told (Start u ∷ []) c.args.self.now.disk c.start.new.self) from
    c.in_default-start.ensures.done in
    with_parts g.D.Disk.told c.start.new.self _ _ c.args.self.now.live refl
    (began_on g.D.Disk.told c.args.self.now.disk c.start.new.self c.free_place.new.parts.items c.in-Some.number
    c.new.result same le c.new.ensures done)

pub returns-clause-empty : goal.returns-clause-empty
returns-clause-empty g c =
    let free = c.in_ok-number.ensures.free in
    let le : c.in-Some.number < length c.free_place.new.parts.items = search (rules, free) in (
      fresh c.new.result,
      set_here c.free_place.new.parts.items _ c.in-Some.number (Some (fresh c.new.result)) refl le,
      record { fed = c.new.ensures; size = refl },
    )

pub returns-clause-content : goal.returns-clause-content
returns-clause-content g c =
    let from : c.as_str.result.now ≡ part_name c.in-Some.number = c.as_str.ensures ∙ c.in_ok-name.ensures in
    let done = subst (λ (u : List ℕ). Done g.D.Disk.told (Start u ∷ []) c.args.self.now.disk c.start.new.self) from
    c.in_default-start.ensures.done in
    started_content g.D.Disk.told c.in-Some.number c.args.self.now.disk c.start.new.self done

pub returns-clause-contents : goal.returns-clause-contents
returns-clause-contents g c =
    let from : c.as_str.result.now ≡ part_name c.in-Some.number = c.as_str.ensures ∙ c.in_ok-name.ensures in
    let done = subst (λ (u : List ℕ). Done g.D.Disk.told (Start u ∷ []) c.args.self.now.disk c.start.new.self) from
    c.in_default-start.ensures.done in
    let free = c.in_ok-number.ensures.free in
    let le : c.in-Some.number < length c.free_place.new.parts.items = search (rules, free) in
    start_reads g.D.Disk.told c.in-Some.number c.args.self.now.disk c.start.new.self
    (omega (arith, le, c.free_place.ensures.few)) done
