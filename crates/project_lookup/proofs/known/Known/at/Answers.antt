use Rattle.std.proofs.Common.{◌≡◌, Some, ap, get_or, sym, ◌∙◌}
use Rattle.res_base.specs.Known.{known_of}
use Rattle.res_base.specs.declared.key.FileKey.{FileKey}
use Rattle.res_base.specs.declared.reading.Reading.{Reading}
use Rattle.project_lookup.specs.KnownPairs.{KnownPairs, place_of}
use Rattle.project_lookup.proofs.KnownLemmas.{known_placed, unplaced}
use Rattle.project_lookup.proofs.known.Known.at.Goals as goal

pub returns-in-None : goal.returns-in-None
returns-in-None c = sym (unplaced c.args.key.now c.args.self.now.pairs (sym c.place.ensures ∙ c.in-None.is))

pub returns-in-Some : goal.returns-in-Some
returns-in-Some c =
    let place = c.in-Some.place in
    let pair = c.index.result.now in
    let placed : place_of c.args.self.now.pairs c.args.key.now ≡ Some place = sym c.place.ensures ∙ c.in-Some.is in
    let known : known_of c.args.self.now.pairs c.args.key.now ≡ Some (get_or c.args.self.now.pairs place pair).1 =
    known_placed c.args.key.now c.args.self.now.pairs place pair placed in
    let read : pair ≡ get_or c.args.self.now.pairs place pair =
    c.index.ensures ∙ ap (λ (known : KnownPairs). get_or known.pairs place pair) c.self.view_is in
    ap (λ (one : FileKey × Reading). Some one.1) read ∙ sym known
