use Rattle.std.proofs.Common.{◌≡◌, List, sym, subst, ◌∙◌, ap, true, false}
use Rattle.std.proofs.lemmas.Result.{IfOk-weaker}
use Rattle.property_text.specs.Cuts.{segments_of}
use Rattle.property_text.specs.Filled.{Filling, filled, filled_segments, filled_value}
use Rattle.property_text.specs.Progress.{IsOutcome, filling_of}
use Rattle.property_text.specs.Segments.{Segment, segments}
use Rattle.property_text.specs.Values.{value_in}
use Rattle.property_text.proofs.FillLemmas.{filled-true, filled-false}
use Rattle.property_text.proofs.fill.CutValues.fill.Goals as goal

pub returns-then-branch : goal.returns-then-branch
returns-then-branch c =
    let value_of = value_in c.args.self.now in
    let text = c.args.text.now in
    let before : Filling = record { text = c.new.result; left = 1024 } in
    let after = filling_of c.push_cut.new.progress in
    let whole : segments text ≡ segments_of c.in_ok-cut.cut = ap segments (sym c.as_str.ensures) ∙ c.in_ok-cut.ensures.whole in
    let put : IsOutcome true before (filled_segments value_of (filled_value value_of 32) (segments_of c.in_ok-cut.cut) 1024) after = rw c.if-branch.true at c.in_ok-push_cut.ensures in
    filled-true value_of text before after c.new.ensures
    (subst (λ (segs : List Segment). IsOutcome true before (filled_segments value_of (filled_value value_of 32) segs 1024) after) (sym whole) put)

pub returns : goal.returns
returns c =
    let value_of = value_in c.args.self.now in
    let text = c.args.text.now in
    let before : Filling = record { text = c.new.result; left = 1024 } in
    let after = filling_of c.push_cut.new.progress in
    let whole : segments text ≡ segments_of c.in_ok-cut.cut = ap segments (sym c.as_str.ensures) ∙ c.in_ok-cut.ensures.whole in
    let past : IsOutcome false before (filled_segments value_of (filled_value value_of 32) (segments_of c.in_ok-cut.cut) 1024) after = rw c.if-branch.false at c.in_ok-push_cut.ensures in
    let stays : text ≡ filled value_of text =
    filled-false value_of text before after c.new.ensures
    (subst (λ (segs : List Segment). IsOutcome false before (filled_segments value_of (filled_value value_of 32) segs 1024) after) (sym whole) past) in
    IfOk-weaker c.copy.result _ _ (λ made e. e ∙ stays) c.copy.ensures
