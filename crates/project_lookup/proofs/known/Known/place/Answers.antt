use Rattle.std.proofs.Common.{◌≡◌, ap, ◌∙◌, rules}
use Rattle.std.specs.BTreeMap.{get}
use Rattle.res_base.specs.Names.{key_cmp}
use Rattle.project_lookup.specs.KnownPairs.{KnownPairs, place_of}
use Rattle.project_lookup.proofs.known.Known.place.Goals as goal

pub returns : goal.returns
returns c =
    let found : c.copied.result ≡ get key_cmp c.self.inside.places c.args.key.now = search rules in
    found ∙ c.self.invariant.4 c.args.key.now ∙ ap (λ (known : KnownPairs). place_of known.pairs c.args.key.now) c.self.view_is
