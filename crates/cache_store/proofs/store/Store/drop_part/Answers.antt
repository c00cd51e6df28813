use Rattle.std.proofs.Common.{arith, ◌≡◌, ℕ, List, [], ◌∷◌, Some, sym, ap, ◌∙◌, refl, subst}
use Rattle.disk_base.specs.Runs.{Done}
use Rattle.disk_base.specs.declared.steps.DiskStep.TheVariants.{Remove}
use Rattle.cache_images.specs.Places.{part_name}
use Rattle.cache_store.proofs.Changed.{dropped_on, on_parts, with_parts}
use Rattle.cache_store.proofs.Contents.{remove_reads, removed_content}
use Rattle.cache_store.proofs.Images.{images_removed}
use Rattle.cache_store.proofs.CallNames.{named_part}
use Rattle.cache_store.proofs.Slots.{within}
use Rattle.cache_store.specs.Parts.{Parts, part_at}
use Rattle.cache_store.proofs.store.Store.drop_part.Goals as goal

pub returns-in-Err-clause-images : goal.returns-in-Err-clause-images
returns-in-Err-clause-images g c =
    let from : c.as_str.result.now ≡ part_name c.args.part_no.number = c.as_str.ensures ∙ c.in_ok-from.ensures in
    images_removed g.D.Disk.told g.D.Disk.moment g.D.Disk.since c.args.self.now.disk c.remove.new.self c.as_str.result.now
    (λ s f. named_part c.args.part_no.number c.as_str.result.now from) c.remove.ensures.ran

pub returns-clause-images : goal.returns-clause-images
returns-clause-images g c =
    let from : c.as_str.result.now ≡ part_name c.args.part_no.number = c.as_str.ensures ∙ c.in_ok-from.ensures in
    images_removed g.D.Disk.told g.D.Disk.moment g.D.Disk.since c.args.self.now.disk c.remove.new.self c.as_str.result.now
    (λ s f. named_part c.args.part_no.number c.as_str.result.now from) c.remove.ensures.ran

pub returns-clause-stands : goal.returns-clause-stands
returns-clause-stands g c live =
    let at : part_at c.args.self.now.parts.items c.args.part_no.number ≡ Some c.in-Some.field-0.now =
    ap (λ (parts : Parts). part_at parts c.args.part_no.number) (sym c.as_slice.ensures.value) ∙ sym c.in-Some.ensures.value in
    let from : c.as_str.result.now ≡ part_name c.args.part_no.number = c.as_str.ensures ∙ c.in_ok-from.ensures in
    let done = subst (λ (u : List ℕ). Done g.D.Disk.told (Remove u ∷ []) c.args.self.now.disk c.remove.new.self) from
    c.in_default-remove.ensures.done in
    with_parts g.D.Disk.told c.remove.new.self _ _ c.args.self.now.live refl
    (dropped_on g.D.Disk.told c.args.self.now.disk c.remove.new.self c.args.self.now.parts.items c.args.part_no.number
    c.in-Some.field-0.now (on_parts g.D.Disk.told c.args.self.now c.requires.stands) at done)

pub returns-clause-contents : goal.returns-clause-contents
returns-clause-contents g c =
    let at : part_at c.args.self.now.parts.items c.args.part_no.number ≡ Some c.in-Some.field-0.now =
    ap (λ (parts : Parts). part_at parts c.args.part_no.number) (sym c.as_slice.ensures.value) ∙ sym c.in-Some.ensures.value in
    let from : c.as_str.result.now ≡ part_name c.args.part_no.number = c.as_str.ensures ∙ c.in_ok-from.ensures in
    let done = subst (λ (u : List ℕ). Done g.D.Disk.told (Remove u ∷ []) c.args.self.now.disk c.remove.new.self) from
    c.in_default-remove.ensures.done in
    let le = within c.args.self.now.parts.items c.args.part_no.number c.in-Some.field-0.now at in
    remove_reads g.D.Disk.told c.args.part_no.number c.args.self.now.disk c.remove.new.self
    (omega (arith, le, c.requires.stands.few)) done

pub returns-clause-removed : goal.returns-clause-removed
returns-clause-removed g c =
    let from : c.as_str.result.now ≡ part_name c.args.part_no.number = c.as_str.ensures ∙ c.in_ok-from.ensures in
    let done = subst (λ (u : List ℕ). Done g.D.Disk.told (Remove u ∷ []) c.args.self.now.disk c.remove.new.self) from
    c.in_default-remove.ensures.done in
    removed_content g.D.Disk.told c.args.part_no.number c.args.self.now.disk c.remove.new.self done
