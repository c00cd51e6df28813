use Rattle.std.proofs.Common.{◌≡◌, ◌+◌, ◌<◌, List, [], ◌∷◌, ◌++◌, length, take, get_or, sym, subst, ◌∙◌, ap, rules}
use Rattle.std.proofs.lemmas.List.{take_more}
use Rattle.property_text.specs.Cuts.{AreCut}
use Rattle.property_text.specs.Values.{Pair, seen}
use Rattle.property_text.specs.declared.cuts.Cut.{Cut}
use Rattle.property_text.proofs.CutLemmas.{cuts_push}
use Rattle.property_text.proofs.ValueLemmas.{no_pair, seen_at, seen_length}
use Rattle.property_text.proofs.values.Values.cuts.Goals as goal

pub loop-pair-preserved : goal.loop-pair-preserved
loop-pair-preserved c =
    let self = c.args.self.now in
    let pairs = c.pairs-pairs.result.now in
    let i = c.loop-pair.pair-index in
    let cuts : List Cut = c.loop-pair.cuts.items in
    let pair = get_or pairs i no_pair in
    let within : i < length (seen pairs) = subst (λ n. i < n) (sym (seen_length pairs)) c.loop-pair-test.true in
    let more : take (i + 1) (seen pairs) ≡ take i (seen pairs) ++ (pair.0.now, pair.1.now) ∷ [] =
    take_more (seen pairs) i ([], []) within ∙ ap (λ (p : Pair). take i (seen pairs) ++ p ∷ []) (seen_at pairs i no_pair) in
    let pushed : c.push.new.self.items ≡ cuts ++ c.in_ok-cut.field-0 ∷ [] = search rules in
    subst (λ (ps : List Pair). AreCut self ps c.push.new.self.items) (sym more)
    (subst (λ (all : List Cut). AreCut self (take i (seen pairs) ++ (pair.0.now, pair.1.now) ∷ []) all) (sym pushed)
    (cuts_push self (take i (seen pairs)) (pair.0.now, pair.1.now) cuts c.in_ok-cut.field-0 c.loop-pair.invariant c.in_ok-cut.ensures))
