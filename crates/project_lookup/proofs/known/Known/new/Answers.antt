use Rattle.std.proofs.Common.{◌≡◌, [], arith, refl}
use Rattle.std.proofs.lemmas.Map.Keys.{IsDistinct-from_apart}
use Rattle.res_base.specs.Names.{key_eq}
use Rattle.project_lookup.proofs.known.Known.new.Goals as goal

pub invariant_of-result : goal.invariant_of-result
invariant_of-result c =
    let none : c.new.result.items ≡ [] = c.new.ensures.items in (
      c.requires.some,
      c.requires.most,
      rw none (λ k d within. absurd (omega (arith, within))),
      rw none (IsDistinct-from_apart key_eq [] (λ i j d before within. absurd (omega (arith, within)))),
      λ key. rw (none, c.new-2.ensures.empty) refl,
    )
