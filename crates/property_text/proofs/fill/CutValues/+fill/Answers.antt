use Rattle.std.proofs.Common.{◌≡◌, ◌-◌, ◌+◌, ◌*◌, ◌<◌, true, suc, List, [], length, drop, get_or, subst, ap, sym, ◌∙◌, arith, rules, Some, None, refl}
use Rattle.std.specs.Prelude.{All}
use Rattle.std.proofs.lemmas.List.{drop_all}
use Rattle.std.proofs.lemmas.Result.{IfOk-weaker}
use Rattle.property_text.specs.Cuts.{IsCut, IsPlaced, segments_of, with_holes}
use Rattle.property_text.specs.Filled.{as_written, filled_hole, filled_segments, filled_value, prefixed}
use Rattle.property_text.specs.Progress.{IsAppended, IsOutcome, IsPast, filling_of}
use Rattle.property_text.specs.Segments.{segments, with_bytes}
use Rattle.property_text.specs.Values.{Pair, place_of, value_in}
use Rattle.property_text.specs.declared.cuts.Cut.{Cut}
use Rattle.property_text.proofs.CutLemmas.{cut_at, cut_within, next_hole, no_hole}
use Rattle.property_text.proofs.FillLemmas.{past-before, past-hole, filled-next, filled-end, filled-value, outcome-appended, outcome-same, too_deep, too_many, unfilled}
use Rattle.property_text.proofs.ValueLemmas.{placed, unplaced, within}
use Rattle.property_text.proofs.fill.CutValues.+fill.Goals as goal
use Rattle.property_text.proofs.fill.CutValues.+fill.Goals.{push_hole-then-depth-eq0-via-then-depth-eq0, push_hole-then-depth-eq0-via-else-depth-eq0+then-progress-eq0}

pub push_cut-returns-then-not-branch : goal.push_cut-returns-then-not-branch
push_cut-returns-then-not-branch t c =
    let value_of = value_in c.args.self.now in
    let fill = filled_value value_of c.args.depth in
    let here = c.loop-hole.progress in
    let i = c.loop-hole.hole-index in
    let holes = c.args.cut.now.holes.items in
    let end = with_bytes c.args.cut.now.rest.now [] in
    let hole = get_or c.deref-hole-items.result.now i no_hole in
    let step = next_hole holes c.deref-hole-items.result.now i end c.deref-hole-items.ensures.value c.loop-hole-test.true in
    let long : 65536 < length here.text + length hole.before.now = rw c.if-not-branch.true at c.in_ok-push.ensures in
    subst IsPast (sym c.loop-hole.invariant.1)
    (past-before value_of fill here.text hole.before.now hole.name.now (with_holes (drop i holes) end) (with_holes (drop (i + 1) holes) end) here.left step long)

pub push_cut-returns-then-not-branch-2 : goal.push_cut-returns-then-not-branch-2
push_cut-returns-then-not-branch-2 t c =
    let value_of = value_in c.args.self.now in
    let fill = filled_value value_of c.args.depth in
    let here = c.loop-hole.progress in
    let there = c.push.new.self in
    let i = c.loop-hole.hole-index in
    let holes = c.args.cut.now.holes.items in
    let end = with_bytes c.args.cut.now.rest.now [] in
    let hole = get_or c.deref-hole-items.result.now i no_hole in
    let step = next_hole holes c.deref-hole-items.result.now i end c.deref-hole-items.ensures.value c.loop-hole-test.true in
    let put : IsAppended true here hole.before.now there = rw c.if-not-branch.false at c.in_ok-push.ensures in
    let past : IsPast (prefixed there.text (filled_hole fill hole.name.now (value_of hole.name.now) there.left)) = rw c.if-not-branch-2.true at c.in_ok-push_hole.ensures in
    subst IsPast (sym c.loop-hole.invariant.1)
    (past-hole value_of fill here.text there.text hole.before.now hole.name.now (with_holes (drop i holes) end) (with_holes (drop (i + 1) holes) end) here.left there.left step put.0 put.1 past)

pub push_cut-loop-hole-preserved : goal.push_cut-loop-hole-preserved
push_cut-loop-hole-preserved t c =
    let value_of = value_in c.args.self.now in
    let fill = filled_value value_of c.args.depth in
    let here = c.loop-hole.progress in
    let there = c.push.new.self in
    let after = c.push_hole.new.progress in
    let i = c.loop-hole.hole-index in
    let holes = c.args.cut.now.holes.items in
    let end = with_bytes c.args.cut.now.rest.now [] in
    let hole = get_or c.deref-hole-items.result.now i no_hole in
    let step = next_hole holes c.deref-hole-items.result.now i end c.deref-hole-items.ensures.value c.loop-hole-test.true in
    let put : IsAppended true here hole.before.now there = rw c.if-not-branch.false at c.in_ok-push.ensures in
    let filled : IsOutcome true (filling_of there) (filled_hole fill hole.name.now (value_of hole.name.now) there.left) (filling_of after) = rw c.if-not-branch-2.false at c.in_ok-push_hole.ensures in
    let next = filled-next value_of fill here.text there.text hole.before.now hole.name.now (with_holes (drop i holes) end) (with_holes (drop (i + 1) holes) end) here.left there.left (filling_of after) step put.0 put.1 filled.0 in
    (filled.1, c.loop-hole.invariant.1 ∙ next)

pub push_cut-returns : goal.push_cut-returns
push_cut-returns t c =
    let value_of = value_in c.args.self.now in
    let fill = filled_value value_of c.args.depth in
    let here = c.loop-hole.progress in
    let i = c.loop-hole.hole-index in
    let rest = c.args.cut.now.rest.now in
    let whole : length c.deref-hole-items.result.now ≡ length c.args.cut.now.holes.items = ap length c.deref-hole-items.ensures.value in
    let none : drop i c.args.cut.now.holes.items ≡ [] = drop_all i c.args.cut.now.holes.items (omega (arith, whole, c.loop-hole-test.false)) in
    let end = ap (λ holes. prefixed here.text (filled_segments value_of fill (with_holes holes (with_bytes rest [])) here.left)) none ∙ filled-end value_of fill here.text rest (with_bytes rest []) here.left refl in
    IfOk-weaker c.push-2.result _ _
    (λ within put. outcome-same within (filling_of c.args.progress.now) (filling_of here) _ _ _ (c.loop-hole.invariant.1 ∙ end) (outcome-appended within here rest _ put)) c.push-2.ensures

pub push_hole-returns-then-depth-eq0 : goal.push_hole-returns-then-depth-eq0
push_hole-returns-then-depth-eq0 t c =
    let self = c.args.self.now in
    let name = c.args.hole.now.name.now in
    let at : place_of self name ≡ Some c.in-Some.place = sym c.requires.placed ∙ c.in-Some.is in
    let known = placed name self c.in-Some.place ([], []) at in
    elim c.then-depth-eq0.branch [
      | push_hole-then-depth-eq0-via-then-depth-eq0 w ↦ too_deep (value_in self) c.args.progress.now.text name _ c.args.depth c.args.progress.now.left known w.if-depth-eq0.true
      | push_hole-then-depth-eq0-via-else-depth-eq0+then-progress-eq0 w ↦ too_many (value_in self) c.args.progress.now.text name _ c.args.depth c.args.progress.now.left known w.if-progress-eq0.true
    ]

pub push_hole-index-requires : goal.push_hole-index-requires
push_hole-index-requires t c =
    let values = c.self.inside.values in
    let cuts = c.self.inside.cuts.items in
    let place = c.in-Some.place in
    let name = c.args.hole.now.name.now in
    let at : place_of values name ≡ Some place = ap (λ (pairs : List Pair). place_of pairs name) c.self.view_is ∙ sym c.requires.placed ∙ c.in-Some.is in
    let fits : place < length cuts = cut_within values values cuts place c.self.invariant (within name values place at) in
    search rules

pub push_hole-push_cut-requires : goal.push_hole-push_cut-requires
push_hole-push_cut-requires t c =
    let values = c.self.inside.values in
    let cuts = c.self.inside.cuts.items in
    let place = c.in-Some.place in
    let name = c.args.hole.now.name.now in
    let at : place_of values name ≡ Some place = ap (λ (pairs : List Pair). place_of pairs name) c.self.view_is ∙ sym c.requires.placed ∙ c.in-Some.is in
    let cut : Cut = c.index.result.now in
    let one = cut_at values values cuts place ([], []) cut c.self.invariant (within name values place at) in
    let same : get_or cuts place cut ≡ cut = sym c.index.ensures in
    let all : All (IsPlaced c.args.self.now) cut.holes.items =
    subst (λ (pairs : List Pair). All (IsPlaced pairs) cut.holes.items) c.self.view_is (subst (λ (cut : Cut). All (IsPlaced values) cut.holes.items) same one.placed) in
    let smaller : 2 * (c.args.depth - 1) + 1 < 2 * c.args.depth = omega (arith, c.if-depth-eq0.false) in
    search rules

pub push_hole-returns-in-None : goal.push_hole-returns-in-None
push_hole-returns-in-None t c =
    let self = c.args.self.now in
    let name = c.args.hole.now.name.now in
    let progress = c.args.progress.now in
    let none = unplaced name self (sym c.requires.placed ∙ c.in-None.is) in
    IfOk-weaker c.push_written.result _ _
    (λ within put.
    outcome-same within (filling_of progress) (filling_of progress) _ _ _ (ap (prefixed progress.text) (unfilled (value_in self) (filled_value (value_in self) c.args.depth) name progress.left none))
    (outcome-appended within progress (as_written name) _ put)) c.push_written.ensures

pub push_hole-returns-else-progress-eq0 : goal.push_hole-returns-else-progress-eq0
push_hole-returns-else-progress-eq0 t c =
    let self = c.args.self.now in
    let value_of = value_in self in
    let values = c.self.inside.values in
    let cuts = c.self.inside.cuts.items in
    let place = c.in-Some.place in
    let name = c.args.hole.now.name.now in
    let progress = c.args.progress.now in
    let at : place_of values name ≡ Some place = ap (λ (pairs : List Pair). place_of pairs name) c.self.view_is ∙ sym c.requires.placed ∙ c.in-Some.is in
    let cut : Cut = c.index.result.now in
    let one = cut_at values values cuts place ([], []) cut c.self.invariant (within name values place at) in
    let value = (get_or values place ([], [])).1 in
    let whole : segments value ≡ segments_of cut = one.whole ∙ ap segments_of (sym c.index.ensures) in
    let known : value_of name ≡ Some value = ap (λ (pairs : List Pair). value_in pairs name) (sym c.self.view_is) ∙ placed name values place ([], []) at in
    let depth : c.args.depth ≡ suc (c.args.depth - 1) = omega arith in
    let left : progress.left ≡ suc (progress.left - 1) = omega arith in
    let same = filled-value value_of name value c.args.depth progress.left (c.args.depth - 1) (progress.left - 1) known depth left ∙ ap (λ segs. filled_segments value_of (filled_value value_of (c.args.depth - 1)) segs (progress.left - 1)) whole in
    IfOk-weaker c.push_cut.result _ _
    (λ within put. outcome-same within (filling_of progress) _ _ _ _ (ap (prefixed progress.text) same) put) c.push_cut.ensures
