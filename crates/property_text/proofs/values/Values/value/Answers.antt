use Rattle.std.proofs.Common.{◌≡◌, ℕ, List, Some, ap, get_or, sym, ◌∙◌}
use denote.Ref.{Bor}
use Rattle.property_text.specs.Values.{Pair, place_of, seen}
use Rattle.property_text.proofs.ValueLemmas.{placed, seen_at, unplaced}
use Rattle.property_text.proofs.values.Values.value.Goals as goal

pub returns-in-None : goal.returns-in-None
returns-in-None c = sym (unplaced c.args.name.now c.args.self.now (sym c.place.ensures ∙ c.in-None.is))

pub returns-in-Some : goal.returns-in-Some
returns-in-Some c =
    let place = c.in-Some.place in
    let pair : Bor (List ℕ) × Bor (List ℕ) = c.index.result.now in
    let at : place_of c.args.self.now c.args.name.now ≡ Some place = sym c.place.ensures ∙ c.in-Some.is in
    let read : (pair.0.now, pair.1.now) ≡ get_or c.args.self.now place (pair.0.now, pair.1.now) =
    ap (λ (p : Bor (List ℕ) × Bor (List ℕ)). (p.0.now, p.1.now)) c.index.ensures ∙ sym (seen_at c.self.inside.pairs.items place pair)
    ∙ ap (λ pairs. get_or pairs place (pair.0.now, pair.1.now)) c.self.view_is in
    ap (λ (p : Pair). Some p.1) read ∙ sym (placed c.args.name.now c.args.self.now place (pair.0.now, pair.1.now) at)
