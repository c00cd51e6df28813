use Rattle.std.proofs.Common.{◌≡◌, Some, sym, ap, ◌∙◌, subst}
use Rattle.std.proofs.lemmas.Result.{on_ok_weaker}
use Rattle.cache_images.specs.Sound.{RecordFits}
use Rattle.cache_store.specs.Contents.{TellsRecord}
use Rattle.cache_store.proofs.Tells.{held_bytes, tells_after}
use Rattle.cache_store.specs.Parts.{Parts, part_at}
use Rattle.cache_store.proofs.store.Store.seal_record.Goals as goal

pub seal_part-requires-clause-fits : goal.seal_part-requires-clause-fits
seal_part-requires-clause-fits g c = λ all holds.
    let at : part_at c.args.self.now.parts.items c.args.part_no.number ≡ Some c.in-Some.part.now =
    ap (λ (parts : Parts). part_at parts c.args.part_no.number) (sym c.as_slice.ensures.value) ∙ sym c.in-Some.ensures.value in
    subst (λ line. RecordFits line all) (sym c.as_str.ensures)
    (c.in_ok-line.ensures.fits all
    (held_bytes c.args.self.now.parts.items c.args.part_no.number all c.in-Some.part.now at holds))

pub returns-clause-digest : goal.returns-clause-digest
returns-clause-digest g c all holds =
    let at : part_at c.args.self.now.parts.items c.args.part_no.number ≡ Some c.in-Some.part.now =
    ap (λ (parts : Parts). part_at parts c.args.part_no.number) (sym c.as_slice.ensures.value) ∙ sym c.in-Some.ensures.value in
    let told = c.in_ok-line.ensures.digest all
    (held_bytes c.args.self.now.parts.items c.args.part_no.number all c.in-Some.part.now at holds) in
    tells_after c.args.wanted all c.in_ok-line.line c.seal_part.result told c.seal_part.ensures.only

pub returns-clause-recorded : goal.returns-clause-recorded
returns-clause-recorded g c =
    on_ok_weaker c.seal_part.result
    (λ firm s e. (
      c.as_str.result.now,
      firm s e,
      subst (λ line. TellsRecord line c.args.checks.now c.args.moment) (sym c.as_str.ensures) c.in_ok-line.ensures.tells,
    )) c.seal_part.ensures.recorded
