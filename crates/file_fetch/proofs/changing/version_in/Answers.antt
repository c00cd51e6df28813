use Rattle.std.proofs.Common.{◌∙◌, rules, tests}
use Rattle.std.proofs.lemmas.Iterator.Consumers.{YieldsList-at, YieldsList-end, YieldsList-turn}
use Rattle.std.proofs.lemmas.Iterator.Splits.{YieldsList-from_slice_split}
use Rattle.std.proofs.lemmas.List.{length_push}
use Rattle.std.specs.List.{slice_split}
use Rattle.link_base.specs.FilePaths.{is_slash}
use Rattle.file_fetch.proofs.Versions.{all_came, none_before, one_more}
use Rattle.file_fetch.proofs.changing.version_in.Goals as goal

pub loop-segment-preserved : goal.loop-segment-preserved
loop-segment-preserved c =
    let parts = slice_split is_slash c.args.path.now in
    let t = YieldsList-turn
    (YieldsList-at c.into_iter-segment-iterator.ensures.into_iter_gives (YieldsList-from_slice_split _ is_slash c.args.path.now
    c.split-segment-items.ensures.rest c.split-segment-items.ensures.done c.split-segment-items.ensures.closure
    (λ x r q k. search (rules, tests)))) c.loop-segment.yielded _ c.loop-segment.yielded_by _ _
    c.in-Some.segment c.in-Some.is c.next.ensures.steps in
    one_more parts _ _ _ _ _ _ t (length_push c.loop-segment.yielded c.in-Some.segment) c.loop-segment.invariant

pub returns : goal.returns
returns c =
    let parts = slice_split is_slash c.args.path.now in
    let t = YieldsList-end
    (YieldsList-at c.into_iter-segment-iterator.ensures.into_iter_gives (YieldsList-from_slice_split _ is_slash c.args.path.now
    c.split-segment-items.ensures.rest c.split-segment-items.ensures.done c.split-segment-items.ensures.closure
    (λ x r q k. search (rules, tests)))) c.loop-segment.yielded _ c.loop-segment.yielded_by _ _
    c.in-None.is c.next.ensures.steps in
    all_came parts _ _ _ _ t.1 c.loop-segment.invariant ∙ none_before parts
