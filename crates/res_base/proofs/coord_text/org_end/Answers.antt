use Rattle.std.proofs.Common.{◌≡◌, ℕ, ◌+◌, Bool, ◌&&◌, true, false, Some, sym, ◌∙◌, ap, refl, length, [], ◌∷◌, ◌++◌, take, get_or, arith}
use Rattle.std.specs.Prelude.{◌==◌}
use Rattle.std.proofs.lemmas.Bool.Decides.{nat_tests}
use Rattle.std.proofs.lemmas.List.{take_more}
use Rattle.fault_place.specs.Reader.{At}
use Rattle.res_base.specs.Plain.{is_dot}
use Rattle.res_base.specs.CoordReader.{coord_reader, step, in_org, in_name}
use Rattle.res_base.proofs.CoordSteps.{next, stops, ends, org_word, org_dot, org_colon, org_stuck}
use Rattle.res_base.proofs.coord_text.org_end.Goals as goal
use Rattle.res_base.proofs.coord_text.org_end.Goals.{then-is_word_byte, else-is_word_byte+then-byte-eq46+then-in_part}

pub returns-then-in_part-2-clause-found : goal.returns-then-in_part-2-clause-found
returns-then-in_part-2-clause-found c =
    let org = take c.loop-i.i c.args.text.now in
    next c.args.text.now c.loop-i.i (in_org org c.loop-i.in_part) (in_name org []) c.loop-i-test.true c.loop-i.invariant
    (org_colon org c.loop-i.in_part _ c.if-byte-eq58.true c.if-in_part-2.true)

pub returns-else-byte-eq58-clause-refused : goal.returns-else-byte-eq58-clause-refused
returns-else-byte-eq58-clause-refused c =
    let org = take c.loop-i.i c.args.text.now in
    let b : ℕ = get_or c.args.text.now c.loop-i.i 0 in
    let dot : (is_dot b && c.loop-i.in_part) ≡ false = grind (arith, nat_tests) in
    let colon : (b == 58 && c.loop-i.in_part) ≡ false = grind (arith, nat_tests) in
    stops c.args.text.now c.loop-i.i (in_org org c.loop-i.in_part) c.loop-i-test.true c.loop-i.invariant
    (org_stuck org c.loop-i.in_part b (sym c.is_word_byte.ensures ∙ c.if-is_word_byte.false) dot colon)

pub returns-clause-refused : goal.returns-clause-refused
returns-clause-refused c =
    let all : c.loop-i.i ≡ length c.args.text.now = omega arith in
    ends c.args.text.now c.loop-i.i (in_org (take c.loop-i.i c.args.text.now) c.loop-i.in_part) all c.loop-i.invariant
    refl

pub loop-i-preserved : goal.loop-i-preserved
loop-i-preserved c =
    let text = c.args.text.now in
    let i = c.loop-i.i in
    let org = take i text in
    let b : ℕ = get_or text i 0 in
    let more : take (i + 1) text ≡ org ++ b ∷ [] = take_more text i 0 c.loop-i-test.true in
    let on : (in_part : Bool) → step (in_org org c.loop-i.in_part) b ≡ Some (in_org (org ++ b ∷ []) in_part)
    → At coord_reader (in_org (take (i + 1) text) in_part) (take (i + 1) text) =
    λ in_part e. next text i (in_org org c.loop-i.in_part)
    (in_org (take (i + 1) text) in_part) c.loop-i-test.true c.loop-i.invariant
    (e ∙ ap (λ x. Some (in_org x in_part)) (sym more)) in
    elim c.if-is_word_byte.branch [
      | then-is_word_byte w ↦ rw w.in_part-is (on true
          (org_word org c.loop-i.in_part b (sym c.is_word_byte.ensures ∙ w.if-is_word_byte.true)))
      | else-is_word_byte+then-byte-eq46+then-in_part w ↦
          rw w.in_part-is (on false (org_dot org c.loop-i.in_part b
          (sym c.is_word_byte.ensures ∙ w.if-is_word_byte.false) w.if-byte-eq46.true w.if-in_part.true))
    ]
