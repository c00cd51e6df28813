use Rattle.std.proofs.Common.{rules, arith, ◌≡◌, ◌+◌, ℕ, List, [], ◌∷◌, Some, None, sym, ap, ◌∙◌, length, Option, subst}
use Rattle.std.specs.Prelude.{IfSome}
use Rattle.disk_base.specs.Runs.{Done}
use Rattle.disk_base.specs.declared.steps.DiskStep.TheVariants.{Append}
use Rattle.cache_images.specs.Places.{part_name}
use Rattle.cache_store.proofs.Changed.{appended_on, on_parts, with_parts}
use Rattle.cache_store.proofs.Contents.{append_reads, appended_content}
use Rattle.cache_store.proofs.Images.{images_appended}
use Rattle.cache_store.proofs.CallNames.{named_part}
use Rattle.cache_store.proofs.Stood.{Longer, part_bound}
use Rattle.cache_store.proofs.Slots.{some_one, within}
use Rattle.cache_store.specs.Parts.{Parts, part_at}
use Rattle.cache_store.specs.declared.part.Part.{Part}
use Rattle.cache_store.proofs.store.Store.append.Goals as goal

opened : (o : Option Part) (p : Part) → o ≡ Some p → IfSome o (λ part. part.sealed ≡ None) → p.sealed ≡ None
opened None p e h = absurd (cc)
opened (Some q) p e h = subst (λ (x : Part). x.sealed ≡ None) (some_one q p e) h

pub append-requires : goal.append-requires
append-requires g c =
    let at : part_at c.args.self.now.parts.items c.args.part_no.number ≡ Some c.in-Some.part.now =
    ap (λ (parts : Parts). part_at parts c.args.part_no.number) (sym c.as_slice.ensures.value) ∙ sym c.in-Some.ensures.value in
    let from : c.as_str.result.now ≡ part_name c.args.part_no.number = c.as_str.ensures ∙ c.in_ok-name.ensures in
    part_bound g.D.Disk.told c.args.self.now.disk c.args.self.now.parts.items c.args.part_no.number c.in-Some.part.now
    c.as_str.result.now c.requires.stands.holds at from

pub returns-in-Err-clause-images : goal.returns-in-Err-clause-images
returns-in-Err-clause-images g c =
    let from : c.as_str.result.now ≡ part_name c.args.part_no.number = c.as_str.ensures ∙ c.in_ok-name.ensures in
    images_appended g.D.Disk.told g.D.Disk.moment g.D.Disk.since c.args.self.now.disk c.append.new.self c.as_str.result.now c.args.piece.now
    (named_part c.args.part_no.number c.as_str.result.now from) c.append.ensures.ran

pub returns-clause-images : goal.returns-clause-images
returns-clause-images g c =
    let from : c.as_str.result.now ≡ part_name c.args.part_no.number = c.as_str.ensures ∙ c.in_ok-name.ensures in
    images_appended g.D.Disk.told g.D.Disk.moment g.D.Disk.since c.args.self.now.disk c.append.new.self c.as_str.result.now c.args.piece.now
    (named_part c.args.part_no.number c.as_str.result.now from) c.append.ensures.ran

pub returns-clause-stands : goal.returns-clause-stands
returns-clause-stands g c live =
    let at : part_at c.args.self.now.parts.items c.args.part_no.number ≡ Some c.in-Some.part.now =
    ap (λ (parts : Parts). part_at parts c.args.part_no.number) (sym c.as_slice.ensures.value) ∙ sym c.in-Some.ensures.value in
    let shut : c.in-Some.part.now.sealed ≡ None = opened _ c.in-Some.part.now at c.requires.open in
    let made = c.take_piece.ensures c.in-Some.part.now at in
    let sum : c.in-Some-checked_add.longer ≡ c.in-Some.part.now.length + length c.args.piece.now =
    search (rules, c.in-Some-checked_add.ensures) in
    let is : Longer c.in-Some.part.now made.0 c.args.piece.now = record {
      open_now = made.3 ∙ shut;
      size = made.2 ∙ sum;
      fed = made.4;
    } in
    let from : c.as_str.result.now ≡ part_name c.args.part_no.number = c.as_str.ensures ∙ c.in_ok-name.ensures in
    let done = subst (λ (u : List ℕ). Done g.D.Disk.told (Append u c.args.piece.now ∷ []) c.args.self.now.disk c.append.new.self)
    from c.in_default-append.ensures.done in
    with_parts g.D.Disk.told c.append.new.self c.take_piece.new.parts _ c.args.self.now.live made.1
    (appended_on g.D.Disk.told c.args.self.now.disk c.append.new.self c.args.self.now.parts.items c.args.part_no.number
    c.args.piece.now c.in-Some.part.now made.0 (on_parts g.D.Disk.told c.args.self.now c.requires.stands) at is done)

pub returns-clause-content : goal.returns-clause-content
returns-clause-content g c =
    let from : c.as_str.result.now ≡ part_name c.args.part_no.number = c.as_str.ensures ∙ c.in_ok-name.ensures in
    let done = subst (λ (u : List ℕ). Done g.D.Disk.told (Append u c.args.piece.now ∷ []) c.args.self.now.disk c.append.new.self)
    from c.in_default-append.ensures.done in
    appended_content g.D.Disk.told c.args.part_no.number c.args.piece.now c.args.self.now.disk c.append.new.self done

pub returns-clause-contents : goal.returns-clause-contents
returns-clause-contents g c =
    let at : part_at c.args.self.now.parts.items c.args.part_no.number ≡ Some c.in-Some.part.now =
    ap (λ (parts : Parts). part_at parts c.args.part_no.number) (sym c.as_slice.ensures.value) ∙ sym c.in-Some.ensures.value in
    let from : c.as_str.result.now ≡ part_name c.args.part_no.number = c.as_str.ensures ∙ c.in_ok-name.ensures in
    let done = subst (λ (u : List ℕ). Done g.D.Disk.told (Append u c.args.piece.now ∷ []) c.args.self.now.disk c.append.new.self)
    from c.in_default-append.ensures.done in
    let le = within c.args.self.now.parts.items c.args.part_no.number c.in-Some.part.now at in
    append_reads g.D.Disk.told c.args.part_no.number c.args.piece.now c.args.self.now.disk c.append.new.self
    (omega (arith, le, c.requires.stands.few)) done
