use Rattle.std.proofs.Common.{◌≡◌, List, [], ◌∷◌, ◌++◌, sym, subst, ◌∙◌, ap, rules}
use Rattle.std.specs.Prelude.{All}
use Rattle.std.proofs.lemmas.List.Elements.{All-push}
use Rattle.property_text.specs.Cuts.{IsPlaced, with_holes}
use Rattle.property_text.specs.Segments.{segments}
use Rattle.property_text.specs.declared.cuts.CutHole.{CutHole}
use Rattle.property_text.proofs.CutLemmas.{holes_push}
use Rattle.property_text.proofs.values.Values.cut.Goals as goal

pub loop-hole-preserved : goal.loop-hole-preserved
loop-hole-preserved c =
    let holes : List CutHole = c.loop-hole.holes.items in
    let behind = c.in-Some.hole.behind.now in
    let last : CutHole = record { before = c.in-Some.hole.before; name = c.in-Some.hole.name; place = c.place.result } in
    let pushed : c.push.new.self.items ≡ holes ++ last ∷ [] = search rules in (
      search rules,
      c.loop-hole.invariant.1 ∙ ap (with_holes holes) c.in-Some.ensures.0 ∙ sym (holes_push holes last (segments behind))
          ∙ ap (λ (all : List CutHole). with_holes all (segments behind)) (sym pushed),
      subst (λ (all : List CutHole). All (IsPlaced c.args.self.now) all) (sym pushed) (All-push (IsPlaced c.args.self.now) holes last c.loop-hole.invariant.2 c.place.ensures),
    )
