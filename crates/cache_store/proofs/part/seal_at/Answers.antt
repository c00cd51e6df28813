use Rattle.std.proofs.Common.{◌≡◌, ℕ, List, Option, Some, None, set, ap, ◌∙◌}
use Rattle.std.proofs.lemmas.List.{get_or_read}
use Rattle.cache_store.proofs.Slots.{set_twice, some_one}
use Rattle.cache_store.specs.Parts.{Parts, part_at, sealed_as}
use Rattle.cache_store.specs.declared.part.Part.{Part}
use Rattle.cache_store.proofs.part.seal_at.Goals as goal

sealed_same : (parts : Parts) (k : ℕ) (a : Option Part) (f p : Part) (name : List ℕ) → Some f ≡ Some p
    → set (set parts k a) k (Some (sealed_as name f)) ≡ set parts k (Some (sealed_as name p))
sealed_same parts k a f p name e =
    set_twice parts k a (Some (sealed_as name f))
    ∙ ap (λ (q : Part). set parts k (Some (sealed_as name q))) (some_one f p e)

pub returns-in-Some : goal.returns-in-Some
returns-in-Some c p e =
    let read : c.index_mut.result.now ≡ part_at c.args.parts.now.items c.args.number =
    get_or_read c.args.parts.now.items _ _ c.requires c.index_mut.ensures.value None in
    sealed_same c.args.parts.now.items c.args.number c.take.new.self c.in-Some.field-0 p c.args.name
    (c.in-Some.ensures.value ∙ (read ∙ e))
