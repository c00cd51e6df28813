use Rattle.std.proofs.Common.{◌≡◌, ◌<◌, ◌++◌, ◌∷◌, length, length-append, arith, ap, ◌∙◌, Some, lit<}
use Rattle.std.proofs.lemmas.Str.Pattern.{NoCharPasses-char, split_parts}
use Rattle.property_text.specs.Segments.{segments}
use Rattle.property_text.proofs.SegmentLemmas.{IsPlain, IsOpen, plain_everywhere, parts, plain_part, segments-plain, segments-open, segments-hole}
use Rattle.property_text.proofs.holes.first_hole.Goals as goal

pub returns-in_err-before : goal.returns-in_err-before
returns-in_err-before c = rw c.from_residual.ensures (segments-plain c.args.text.now (plain_everywhere c.args.text.now c.in_err-before.ensures.cases))

pub returns-in_err-name : goal.returns-in_err-name
returns-in_err-name c =
    let text = c.args.text.now in
    let before = c.in_ok-before.before.now in
    let opened = c.in_ok-before.opened.now in
    let cut = c.in_ok-before.ensures.cases in
    let whole : text ≡ before ++ (36 ∷ 123 ∷ opened) = parts text before opened cut.0 cut.1 cut.2.1 cut.3 cut.4 in
    let plain : IsPlain before = plain_part text before opened cut.0 cut.2.0 whole cut.6 in
    let all : IsOpen opened = λ i within. NoCharPasses-char 125 opened i c.in_err-name.ensures.cases (lit< tt) within in
    rw (c.from_residual-in_err-name.ensures, whole) (segments-open before opened plain all)

pub returns : goal.returns
returns c =
    let text = c.args.text.now in
    let before = c.in_ok-before.before.now in
    let opened = c.in_ok-before.opened.now in
    let name = c.in_ok-name.name.now in
    let behind = c.in_ok-name.behind.now in
    let cut = c.in_ok-before.ensures.cases in
    let whole : text ≡ before ++ (36 ∷ 123 ∷ opened) = parts text before opened cut.0 cut.1 cut.2.1 cut.3 cut.4 in
    let plain : IsPlain before = plain_part text before opened cut.0 cut.2.0 whole cut.6 in
    let closed = split_parts 125 opened (Some (c.in_ok-name.name, c.in_ok-name.behind)) c.in_ok-name.ensures.cases (lit< tt) in
    let shorter : length behind < length text = omega (arith, ap length whole, ap length closed.0, length-append before (36 ∷ 123 ∷ opened), length-append name (125 ∷ behind)) in
    (ap segments (whole ∙ ap (λ rest. before ++ (36 ∷ 123 ∷ rest)) closed.0) ∙ segments-hole before name behind plain closed.1, shorter)
