-- A byte more or less in front of what may follow in a trailer.
use Rattle.std.proofs.Common.{◌≡◌, ◌≢◌, inl, inr, ℕ, ◌+◌, ◌≤◌, Bool, true, false, ◌==◌, nat_le, List, [], ◌∷◌, ◌++◌, length, Option, Some, None, refl, sym, ap, ◌∙◌, subst, arith, if◌then◌else◌}
use Rattle.std.proofs.lemmas.Bool.{true≢false}
use Rattle.std.proofs.lemmas.Bool.Decides.{nat_tests}
use Rattle.http_wire.specs.declared.body_places.BodyPlace.TheVariants.{Trailer, Refused}
use Rattle.http_wire.specs.declared.line_places.LinePlace.{LinePlace}
use Rattle.http_wire.specs.declared.line_places.LinePlace.TheVariants.{InLine, LineStart, StartReturn}
use Rattle.http_wire.specs.declared.replies.ReplyErr.TheVariants.{BadChunk}
use Rattle.http_wire.specs.LinePlaces.{next_line_place, least_left}
use Rattle.http_wire.specs.BodyPlaces.{trailer_place}
use Rattle.http_wire.specs.Fields.{Bytes}
use Rattle.http_chunks.specs.Chunks.{IsFullLine, IsLines}
use Rattle.http_chunks.proofs.Rests.{is_one_line, LineRest, LinesRest, Rest, lines_length, line_length_rest}
use Rattle.http_chunks.proofs.Tests.{by_if, put_true, put_false, head_is, tail_is, all_cons, all_first, all_more, same_byte, not_same, other_byte}

-- in a trailer
pub put_line : (n : ℕ) (line : LinePlace) (rest content : Bytes) → n + least_left line ≤ 65536
    → Rest (Trailer line n) rest content → Rest (trailer_place n (Some line)) rest content
put_line n line rest content few r =
    put_true (λ q. Rest q rest content) (nat_le (n + least_left line) 65536) (Trailer line n) (Refused BadChunk)
    (grind (arith, nat_tests, few)) r

pub get_line : (n : ℕ) (line : LinePlace) (rest content : Bytes) → Rest (trailer_place n (Some line)) rest content
    → Rest (Trailer line n) rest content
get_line n line rest content r =
    by_if (λ q. Rest q rest content) (nat_le (n + least_left line) 65536) (Trailer line n) (Refused BadChunk) r
    (λ e p. p) (λ e p. absurd p)

-- the place behind a byte, by tests
abbrev pub AtLine : ℕ → Bytes → Bytes → Option LinePlace → Type 0
AtLine n rest content line = Rest (trailer_place n line) rest content

pub inner_less : (n : ℕ) (line rest content : Bytes) → LineRest line rest → n + length rest ≤ 65536 → content ≡ []
    → Rest (trailer_place n (Some InLine)) rest content
inner_less n line rest content l few none =
    put_line n InLine rest content (omega (arith, few, line_length_rest line rest l)) ((line, l), few, none)

pub line_less : (n b : ℕ) (line rest content : Bytes) → LineRest line (b ∷ rest) → n + length (b ∷ rest) ≤ 65536
    → content ≡ [] → Rest (trailer_place (n + 1) (next_line_place InLine b)) rest content
line_less n b [] rest content l few none =
    let spelled = l.spelled in
    let is : b ≡ 10 = head_is spelled in
    let rest_is : rest ≡ l.more = tail_is spelled in
    put_true (λ q. AtLine (n + 1) rest content (Some q)) (b == 10) LineStart InLine (ap (λ k. k == 10) is)
    (let after : IsLines l.lines rest = subst (IsLines l.lines) (sym rest_is) l.after in
    put_line (n + 1) LineStart rest content (omega (arith, few, lines_length l.lines rest after))
    ((l.lines, after), omega (arith, few), none))
line_less n b (x ∷ line) rest content l few none =
    let spelled = l.spelled in
    let first : b ≡ x = head_is spelled in
    let rest_is : rest ≡ line ++ (10 ∷ l.more) = tail_is spelled in
    let other : (b == 10) ≡ false = ap (λ k. k == 10) first ∙ other_byte x 10 (all_first is_one_line x line l.one) in
    put_false (λ q. AtLine (n + 1) rest content (Some q)) (b == 10) LineStart InLine other
    (inner_less (n + 1) line rest content (record {
      one = all_more is_one_line x line l.one;
      more = l.more;
      spelled = rest_is;
      lines = l.lines;
      after = l.after;
    }) (omega (arith, few)) none)

pub line_more : (n b : ℕ) (rest content : Bytes) → Rest (trailer_place (n + 1) (next_line_place InLine b)) rest content
    → Rest (Trailer InLine n) (b ∷ rest) content
line_more n b rest content r =
    by_if (λ q. AtLine (n + 1) rest content (Some q)) (b == 10) LineStart InLine r
    (λ is p. let t = get_line (n + 1) LineStart rest content p in (
      (
        [],
        record {
          one = refl;
          more = rest;
          spelled = ap (λ k. k ∷ rest) (same_byte b 10 is);
          lines = t.0.0;
          after = t.0.1;
        },
      ),
      omega (arith, t.1),
      t.2,
    ))
    (λ fails p. let t = get_line (n + 1) InLine rest content p in
    let l = t.0.1 in (
      (
        b ∷ t.0.0,
        record {
          one = all_cons is_one_line b t.0.0 (not_same b 10 fails) l.one;
          more = l.more;
          spelled = ap (λ k. b ∷ k) l.spelled;
          lines = l.lines;
          after = l.after;
        },
      ),
      omega (arith, t.1),
      t.2,
    ))

-- behind a carriage return that begins a line
pub return_less : (n b : ℕ) (rest content : Bytes) → LinesRest StartReturn (b ∷ rest) → n + length (b ∷ rest) ≤ 65536
    → content ≡ [] → Rest (trailer_place (n + 1) (next_line_place StartReturn b)) rest content
return_less n b rest content (inl e) few none =
    let is : b ≡ 10 = head_is e in
    let rest_is : rest ≡ [] = tail_is e in
    put_true (AtLine (n + 1) rest content) (b == 10) None (Some InLine) (ap (λ k. k == 10) is) (rest_is, none)
return_less n b rest content (inr ([], l, some)) few none = absurd (some refl)
return_less n b rest content (inr (x ∷ line, l, some)) few none =
    let spelled = l.spelled in
    let first : b ≡ x = head_is spelled in
    let rest_is : rest ≡ line ++ (10 ∷ l.more) = tail_is spelled in
    let other : (b == 10) ≡ false = ap (λ k. k == 10) first ∙ other_byte x 10 (all_first is_one_line x line l.one) in
    put_false (AtLine (n + 1) rest content) (b == 10) None (Some InLine) other
    (inner_less (n + 1) line rest content (record {
      one = all_more is_one_line x line l.one;
      more = l.more;
      spelled = rest_is;
      lines = l.lines;
      after = l.after;
    }) (omega (arith, few)) none)

pub not_empty : (b : ℕ) (line : Bytes) → b ∷ line ≢ []
not_empty b line e = cc

pub return_more : (n b : ℕ) (rest content : Bytes) → n + 1 ≤ 65536
    → Rest (trailer_place (n + 1) (next_line_place StartReturn b)) rest content
    → Rest (Trailer StartReturn n) (b ∷ rest) content
return_more n b rest content few r =
    by_if (AtLine (n + 1) rest content) (b == 10) None (Some InLine) r
    (λ is p. (
      inl (ap (λ k. k ∷ rest) (same_byte b 10 is) ∙ ap (λ k. 10 ∷ k) p.0),
      omega
          (arith, few, ap length p.0),
      p.1,
    ))
    (λ fails p. let t = get_line (n + 1) InLine rest content p in
    let l = t.0.1 in (
      inr (
        b ∷ t.0.0,
        record {
          one = all_cons is_one_line b t.0.0 (not_same b 10 fails) l.one;
          more = l.more;
          spelled = ap (λ k. b ∷ k) l.spelled;
          lines = l.lines;
          after = l.after;
        },
        not_empty b t.0.0,
      ),
      omega (arith, t.1),
      t.2,
    ))

-- at the start of a line
pub start_line_less : (n b : ℕ) (rest content line more : Bytes) (lines : List Bytes)
    → IsFullLine line → b ∷ rest ≡ line ++ (10 ∷ more) → IsLines lines more → n + length (b ∷ rest) ≤ 65536
    → content ≡ [] → Rest (trailer_place (n + 1) (next_line_place LineStart b)) rest content
start_line_less n b rest content [] more lines full e after few none = absurd (full.some refl)
start_line_less n b rest content (x ∷ line) more lines full e after few none =
    let first : b ≡ x = head_is e in
    let rest_is : rest ≡ line ++ (10 ∷ more) = tail_is e in
    let other : (b == 10) ≡ false = ap (λ k. k == 10) first ∙ other_byte x 10 (all_first is_one_line x line full.one) in
    let l : LineRest line rest = record {
      one = all_more is_one_line x line full.one;
      more = more;
      spelled = rest_is;
      lines = lines;
      after = after;
    } in
    put_false (AtLine (n + 1) rest content) (b == 10) None (Some (if b == 13 then StartReturn else InLine)) other
    (by_return (b == 13) refl first l)
  where
    by_return : (t : Bool) → (b == 13) ≡ t → b ≡ x → LineRest line rest
        → AtLine (n + 1) rest content (Some (if t then StartReturn else InLine))
    by_return true e13 first l =
        let some : line ≢ [] = λ empty. full.full (ap (λ k. k ∷ line) (sym first ∙ same_byte b 13 e13)
        ∙ ap (λ k. 13 ∷ k) empty) in
        put_line (n + 1) StartReturn rest content (omega (arith, few, line_length_rest line rest l))
        (inr (line, l, some), omega (arith, few), none)
    by_return false e13 first l = inner_less (n + 1) line rest content l (omega (arith, few)) none

pub start_less : (n b : ℕ) (rest content : Bytes) (lines : List Bytes) → IsLines lines (b ∷ rest)
    → n + length (b ∷ rest) ≤ 65536 → content ≡ []
    → Rest (trailer_place (n + 1) (next_line_place LineStart b)) rest content
start_less n b rest content [] (inl e) few none =
    let is : b ≡ 10 = head_is e in
    let rest_is : rest ≡ [] = tail_is e in
    put_true (AtLine (n + 1) rest content) (b == 10) None (Some (if b == 13 then StartReturn else InLine))
    (ap (λ k. k == 10) is) (rest_is, none)
start_less n b rest content [] (inr e) few none =
    let is : b ≡ 13 = head_is e in
    let rest_is : rest ≡ 10 ∷ [] = tail_is e in
    put_false (AtLine (n + 1) rest content) (b == 10) None (Some (if b == 13 then StartReturn else InLine))
    (ap (λ k. k == 10) is)
    (put_true (λ q. AtLine (n + 1) rest content (Some q)) (b == 13) StartReturn InLine (ap (λ k. k == 13) is)
    (put_line (n + 1) StartReturn rest content (omega (arith, few, ap length rest_is))
    (inl rest_is, omega (arith, few), none)))
start_less n b rest content (line ∷ lines) (more, e, full, after) few none =
    start_line_less n b rest content line more lines full e after few none

pub full_return : (line : Bytes) → line ≢ [] → 13 ∷ line ≢ 13 ∷ []
full_return line some e = some (tail_is e)

pub full_other : (b : ℕ) (line : Bytes) → (b == 13) ≡ false → b ∷ line ≢ 13 ∷ []
full_other b line fails e =
    let same : b ≡ 13 = head_is e in
    absurd (true≢false (sym (ap (λ k. k == 13) same) ∙ fails))

pub start_more : (n b : ℕ) (rest content : Bytes) → n + 1 ≤ 65536
    → Rest (trailer_place (n + 1) (next_line_place LineStart b)) rest content
    → Rest (Trailer LineStart n) (b ∷ rest) content
start_more n b rest content few r =
    by_if (AtLine (n + 1) rest content) (b == 10) None (Some (if b == 13 then StartReturn else InLine)) r
    (λ is p. (
      ([], inl (ap (λ k. k ∷ rest) (same_byte b 10 is) ∙ ap (λ k. 10 ∷ k) p.0)),
      omega
          (arith, few, ap length p.0),
      p.1,
    ))
    (λ fails p. by_if (λ q. AtLine (n + 1) rest content (Some q)) (b == 13) StartReturn InLine p
    (λ is q. let t = get_line (n + 1) StartReturn rest content q in
    (by_line is t.0, omega (arith, t.1), t.2))
    (λ other q. let t = get_line (n + 1) InLine rest content q in
    let l = t.0.1 in (
      (
        ((b ∷ t.0.0) ∷ l.lines),
        (
          l.more,
          ap (λ k. b ∷ k) l.spelled,
          record {
            one = all_cons is_one_line b t.0.0 (not_same b 10 fails) l.one;
            some = not_empty b t.0.0;
            full = full_other b t.0.0 other;
          },
          l.after,
        ),
      ),
      omega (arith, t.1),
      t.2,
    )))
  where
    by_line : (b == 13) ≡ true → LinesRest StartReturn rest → LinesRest LineStart (b ∷ rest)
    by_line is (inl e) = ([], inr (ap (λ k. k ∷ rest) (same_byte b 13 is) ∙ ap (λ k. 13 ∷ k) e))
    by_line is (inr (line, l, some)) = (
      (13 ∷ line) ∷ l.lines,
      (
        l.more,
        ap (λ k. k ∷ rest) (same_byte b 13 is) ∙ ap (λ k. 13 ∷ k) l.spelled,
        record {
          one = l.one;
          some = not_empty 13 line;
          full = full_return line some;
        },
        l.after,
      ),
    )
