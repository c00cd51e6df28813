use Rattle.std.proofs.Common.{◌≡◌, ap, ◌∙◌, rules}
use Rattle.property_text.specs.Values.{place_of}
use Rattle.property_text.proofs.ValueLemmas.{found}
use Rattle.property_text.proofs.values.Values.place.Goals as goal

pub returns : goal.returns
returns c =
    let got : c.copied.result ≡ found c.self.inside.places c.args.name.now = search rules in
    got ∙ c.self.invariant c.args.name.now ∙ ap (λ pairs. place_of pairs c.args.name.now) c.self.view_is
