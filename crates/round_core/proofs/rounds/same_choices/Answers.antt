use Rattle.std.proofs.Common.{◌≡◌, ◌≤◌, ◌<◌, ◌+◌, ◌&&◌, true, false, List, ◌∷◌, drop, get_or, length, sym, ◌∙◌, ap, arith}
use Rattle.std.proofs.lemmas.List.{drop_more}
use Rattle.resolution.specs.declared.choices.ChoiceRow.{ChoiceRow}
use Rattle.round_core.specs.Choices.{choices_eq, row_eq}
use Rattle.round_core.proofs.Apart.{apart_at, ended}
use Rattle.round_core.proofs.rounds.same_choices.Goals as goal

pub returns-then-not-same_row : goal.returns-then-not-same_row
returns-then-not-same_row c =
    let place = c.loop-place.place in
    let x : ChoiceRow = c.index-a-place.result in
    let y : ChoiceRow = c.index-b-place.result in
    let in_a : place < length c.args.a.now = omega arith in
    let in_b : place < length c.args.b.now = omega arith in
    let differs : row_eq x y ≡ false = sym c.same_row.ensures ∙ c.if-not-same_row.true in
    sym (apart_at c.args.a.now c.args.b.now place x y in_a in_b
    (ap (λ (z : ChoiceRow). row_eq z (get_or c.args.b.now place y)) (sym c.index-a-place.is)
    ∙ ap (λ (z : ChoiceRow). row_eq x z) (sym c.index-b-place.is) ∙ differs))

pub loop-place-preserved : goal.loop-place-preserved
loop-place-preserved c =
    let a : List ChoiceRow = c.args.a.now in
    let b : List ChoiceRow = c.args.b.now in
    let place = c.loop-place.place in
    let x : ChoiceRow = c.index-a-place.result in
    let y : ChoiceRow = c.index-b-place.result in
    let in_a : place < length c.args.a.now = omega arith in
    let in_b : place < length c.args.b.now = omega arith in
    let same : row_eq x y ≡ true = sym c.same_row.ensures ∙ c.if-not-same_row.false in
    let of_a : drop place a ≡ x ∷ drop (place + 1) a =
    drop_more a place x in_a ∙ ap (λ (z : ChoiceRow). z ∷ drop (place + 1) a) (sym c.index-a-place.is) in
    let of_b : drop place b ≡ y ∷ drop (place + 1) b =
    drop_more b place y in_b ∙ ap (λ (z : ChoiceRow). z ∷ drop (place + 1) b) (sym c.index-b-place.is) in
    sym (ap (λ (z : List ChoiceRow). choices_eq z (drop place b)) of_a
    ∙ ap (λ (z : List ChoiceRow). choices_eq (x ∷ drop (place + 1) a) z) of_b
    ∙ ap (λ t. t && choices_eq (drop (place + 1) a) (drop (place + 1) b)) same)
    ∙ c.loop-place.invariant

pub returns : goal.returns
returns c =
    let in_a : length c.args.a.now ≤ c.loop-place.place = omega arith in
    let in_b : length c.args.b.now ≤ c.loop-place.place = omega arith in
    sym (ended c.args.a.now c.args.b.now c.loop-place.place in_a in_b) ∙ c.loop-place.invariant
