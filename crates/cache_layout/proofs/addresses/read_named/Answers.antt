use Rattle.std.proofs.Common.{◌≡◌, ◌≤◌, ℕ, ◌-◌, true, length, take, refl, subst, sym, ap, ◌∙◌, arith}
use Rattle.std.specs.List.{list_all}
use Rattle.std.proofs.lemmas.List.{take_all}
use Rattle.cache_layout.proofs.Named.{named_short, named_stops}
use Rattle.cache_layout.proofs.addresses.read_named.Goals as goal

pub returns-then-end-text-clause-refused : goal.returns-then-end-text-clause-refused
returns-then-end-text-clause-refused g c =
    let has = g.C.ByteClass.has in
    let text = c.args.text.now in
    let end = c.class_end-end.result in
    let count : end ≡ end - 0 = omega arith in
    let all : list_all has (take end text) ≡ true = ap (λ k. list_all has (take k text)) count
    ∙ c.class_end-end.ensures.passed in
    named_stops has c.requires text end c.if-end-text.true all (c.class_end-end.ensures.stops c.if-end-text.true)

pub returns-then-is_at_most_two_dots-clause-refused : goal.returns-then-is_at_most_two_dots-clause-refused
returns-then-is_at_most_two_dots-clause-refused g c =
    let has = g.C.ByteClass.has in
    let text = c.args.text.now in
    let end = c.class_end-end.result in
    let past : length text ≤ end - 0 = let h = c.if-end-text.false in omega (arith, h) in
    let all : list_all has text ≡ true = ap (list_all has) (sym (take_all (end - 0) text past))
    ∙ c.class_end-end.ensures.passed in
    named_short has c.requires text all (sym c.is_at_most_two_dots.ensures ∙ c.if-is_at_most_two_dots.true)
