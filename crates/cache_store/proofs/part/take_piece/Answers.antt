use Rattle.std.proofs.Common.{◌≡◌, None, sym, ap, ◌∙◌, refl, subst}
use Rattle.std.proofs.lemmas.List.{get_or_read}
use Rattle.digest_check.specs.Fed.{IsFed}
use Rattle.cache_store.proofs.Slots.{set_twice, some_one}
use Rattle.cache_store.specs.Parts.{part_at}
use Rattle.cache_store.specs.declared.part.Part.{Part}
use Rattle.cache_store.proofs.part.take_piece.Goals as goal

pub returns-in-Some : goal.returns-in-Some
returns-in-Some c p e =
    let read : c.index_mut.result.now ≡ part_at c.args.parts.now.items c.args.number =
    get_or_read c.args.parts.now.items _ _ c.requires c.index_mut.ensures.value None in
    let same : c.in-Some.field-0 ≡ p = some_one c.in-Some.field-0 p (c.in-Some.ensures.value ∙ (read ∙ e)) in (
      record { sums = c.update.new.self; length = c.args.longer; sealed = c.in-Some.field-0.sealed },
      set_twice c.args.parts.now.items c.args.number c.take.new.self _,
      refl,
      ap (λ (q : Part). q.sealed) same,
      λ bytes fed. c.update.ensures bytes (subst (λ (q : Part). IsFed q.sums bytes) (sym same) fed),
    )
