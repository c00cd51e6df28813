-- What `httparse` finds is the head of a reply, and the only one.
use Rattle.std.proofs.Common.{◌≡◌, ◌≤◌, List, [], Option, Some, None, refl, sym, ap, ◌∙◌, arith, subst, length, take, map, codes, length-take}
use Rattle.std.proofs.lemmas.List.{length-map, drop_all}
use Rattle.httparse.specs.declared.spans.HeaderSpan.{HeaderSpan}
use Rattle.httparse.specs.declared.spans.ResponseSpans.{ResponseSpans}
use Rattle.httparse.specs.Spans.{header_bytes, name_and_value, IsResponseWithin, IsResponseOf}
use Rattle.httparse.specs.Grammar.{ReadsResponse}
use Rattle.httparse.proofs.GrammarLemmas.{response_unique}
use Rattle.http_wire.specs.declared.body_places.BodyPlace.{BodyPlace}
use Rattle.http_wire.specs.BodyStarts.{HeadData, body_place}
use Rattle.http_wire.specs.Fields.{Bytes, field_values}
use Rattle.http_wire.specs.Heads.{head_data, IsHeadOf, IsParsed, IsLocation}

abbrev pub seen_by : Bytes → List HeaderSpan → ResponseSpans → HeadData
seen_by buf spans found = record { status = found.code; fields = map (header_bytes buf) (take found.headers spans) }

pub found_head : (buf : Bytes) (spans : List HeaderSpan) (found : ResponseSpans) (location : Option Bytes)
    (start : BodyPlace)
    → IsResponseWithin buf spans found → length spans ≡ 100 → found.len ≡ length buf → IsResponseOf buf spans found
    → IsLocation (field_values (codes "location") (seen_by buf spans found).fields) location
    → start ≡ body_place (seen_by buf spans found)
    → (x : Option HeadData) × IsHeadOf buf x
    × IsParsed x (Some (record { head = record { status = found.code; location = location }; start = start }))
found_head buf spans found location start within room whole of l s =
    let h = of.0 in
    let at = of.1 in
    let same : seen_by buf spans found ≡ head_data h = λ i. record { status = at.code i; fields = at.fields i } in
    let reads : ReadsResponse buf h [] = subst (ReadsResponse buf h) (drop_all found.len buf (omega
    (arith, whole))) at.reads in
    let as_many : length h.fields ≡ length (take found.headers spans) =
    sym (length-map h.fields name_and_value) ∙ ap length (sym at.fields)
    ∙ length-map (take found.headers spans) (header_bytes buf) in
    let few : length h.fields ≤ 100 = omega
    (arith, as_many, length-take found.headers spans, within.section.count_fits, room) in (
      Some (seen_by buf spans found),
      (h, record { reads = reads; few = few }, same),
      (record { status = refl; location = l }, s),
    )

-- bytes are at most one head
pub head_unique : (bytes : Bytes) (one two : Option HeadData) → IsHeadOf bytes one → IsHeadOf bytes two → one ≡ two
head_unique bytes None None a b = refl
head_unique bytes None (Some two) a b = absurd (a b.0 b.1)
head_unique bytes (Some one) None a b = absurd (b a.0 a.1)
head_unique bytes (Some one) (Some two) a b =
    let same = (response_unique bytes a.0 b.0 [] [] a.1.reads b.1.reads).0 in
    ap Some (a.2 ∙ ap head_data same ∙ sym b.2)
