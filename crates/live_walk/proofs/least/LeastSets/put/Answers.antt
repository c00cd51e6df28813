use Rattle.std.proofs.Common.{◌≡◌, ◌∷◌, [], ◌++◌, not, filter, ap, ◌∙◌, rules}
use Rattle.std.proofs.lemmas.Fn.{filter_same}
use Rattle.exclusion_sets.specs.Exclusions.{is_within}
use Rattle.live_walk.proofs.least.LeastSets.put.Goals as goal

pub returns : goal.returns
returns c =
    let taken : c.into_vec-kept.result.items ≡ c.args.self.now.sets = search rules in
    let stay : c.retain.new.self.items ≡ filter (λ kept. not (is_within c.args.set kept)) c.into_vec-kept.result.items =
    filter_same _ (λ kept. not (is_within c.args.set kept)) _ (λ x b f' k. search rules) _ _ c.retain.ensures.filtered
    in
    let pushed : c.push.new.self.items ≡ c.retain.new.self.items ++ c.args.set ∷ [] = search rules in
    c.from_vec.ensures ∙ pushed
    ∙ ap (λ sets. sets ++ c.args.set ∷ []) (stay ∙ ap (filter (λ kept. not (is_within c.args.set kept))) taken)
