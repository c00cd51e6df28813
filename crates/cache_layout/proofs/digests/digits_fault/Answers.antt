use Rattle.std.proofs.Common.{◌≡◌, ◌≢◌, ◌≤◌, ◌+◌, ◌<◌, true, length, refl, sym, ap, ◌∙◌, arith}
use Rattle.std.specs.List.{list_all}
use Rattle.std.proofs.lemmas.List.{take_all}
use Rattle.cache_layout.specs.Fields.{is_small_digit}
use Rattle.cache_layout.proofs.HexDigests.{all_more, stops_bad, stops_full, stops_short}
use Rattle.cache_layout.proofs.digests.digits_fault.Goals as goal

pub loop-i-init : goal.loop-i-init
loop-i-init c = (omega arith, refl)

pub loop-i-preserved : goal.loop-i-preserved
loop-i-preserved c =
    let few = c.loop-i.invariant.0 in
    let other = c.if-i-digits.false in (
      omega (arith, few, other),
      all_more c.args.text.now c.loop-i.i c.loop-i-test.true c.loop-i.invariant.1
          (sym c.is_small_digit.ensures ∙ c.if-not-is_small_digit.false),
    )

pub returns-then-i-digits : goal.returns-then-i-digits
returns-then-i-digits c = stops_full c.args.digits c.args.text.now c.loop-i.i c.loop-i-test.true c.if-i-digits.true
    c.loop-i.invariant.1

pub returns-then-not-is_small_digit : goal.returns-then-not-is_small_digit
returns-then-not-is_small_digit c = stops_bad c.args.digits c.args.text.now c.loop-i.i c.loop-i-test.true
    c.loop-i.invariant.0 c.loop-i.invariant.1 (sym c.is_small_digit.ensures ∙ c.if-not-is_small_digit.true)

pub returns-then-text-digits : goal.returns-then-text-digits
returns-then-text-digits c =
    let all : list_all is_small_digit c.args.text.now ≡ true =
    ap (list_all is_small_digit) (sym (take_all c.loop-i.i c.args.text.now c.loop-i-test.false)) ∙ c.loop-i.invariant.1 in
    stops_short c.args.digits c.args.text.now c.if-text-digits.true all

pub returns-else-text-digits : goal.returns-else-text-digits
returns-else-text-digits c =
    let all : list_all is_small_digit c.args.text.now ≡ true =
    ap (list_all is_small_digit) (sym (take_all c.loop-i.i c.args.text.now c.loop-i-test.false)) ∙ c.loop-i.invariant.1 in
    let few = c.loop-i.invariant.0 in
    let end = c.loop-i-test.false in
    let enough = c.if-text-digits.false in
    (all, omega (arith, few, end, enough))
