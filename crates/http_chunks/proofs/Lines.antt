-- A byte more or less in front of what may follow in a chunk.
use Rattle.std.proofs.Common.{◌≡◌, ◌⊎◌, inl, inr, ℕ, zero, suc, ◌+◌, ◌-◌, ◌*◌, ◌<◌, ◌≤◌, Bool, true, false, not, ◌&&◌, ◌||◌, ◌==◌, nat_lt, [], ◌∷◌, ◌++◌, length, refl, sym, ap, ◌∙◌, subst, arith, if◌then◌else◌}
use Rattle.std.proofs.lemmas.Bool.{and_parts, false≢true}
use Rattle.std.proofs.lemmas.Bool.Decides.{nat_tests}
use Rattle.std.specs.Char.{is_ascii_hexdigit, digit_value}
use Rattle.std.specs.List.{list_all}
use Rattle.http_wire.specs.declared.body_places.BodyPlace.TheVariants.{ChunkData, ChunkSize, ChunkSpace, ChunkExtension, ChunkLineFeed, DataReturn, Trailer, Refused}
use Rattle.http_wire.specs.declared.line_places.LinePlace.TheVariants.{LineStart}
use Rattle.http_wire.specs.declared.replies.ReplyErr.TheVariants.{BadChunk}
use Rattle.http_wire.specs.BodyPlaces.{data_left, data_begun, within_line, after_size, after_extension, after_digit}
use Rattle.http_wire.specs.Fields.{Bytes}
use Rattle.http_chunks.specs.Chunks.{is_blank, is_inside, hex_from, IsExtension, IsChunks}
use Rattle.http_chunks.proofs.Rests.{Behind, SpaceRest, DigitRest, InsideRest, DataRest, Rest}
use Rattle.http_chunks.proofs.Tests.{by_if, put_true, put_false, head_is, tail_is, all_cons, all_first, all_more, same_byte, other_byte, put_within, get_within}

-- behind the digits of a line
pub size_less : (size n b : ℕ) (rest content blanks extension more : Bytes)
    → list_all is_blank blanks ≡ true → IsExtension extension
    → n + length blanks + length extension + 2 ≤ 65536 → Behind size more content
    → b ∷ rest ≡ blanks ++ (extension ++ (13 ∷ 10 ∷ more)) → Rest (after_size size (n + 1) b) rest content
size_less size n b rest content (x ∷ blanks) extension more blank extends few behind e =
    let first : b ≡ x = head_is e in
    let rest_is : rest ≡ blanks ++ (extension ++ (13 ∷ 10 ∷ more)) = tail_is e in
    let is : is_blank b ≡ true = ap is_blank first ∙ all_first is_blank x blanks blank in
    put_true (λ q. Rest q rest content) (is_blank b) (within_line (n + 1) (ChunkSpace size (n + 1)))
    (if b == 59 then within_line (n + 1) (ChunkExtension size (n + 1)) else
    (if b == 13 then ChunkLineFeed size else Refused BadChunk)) is
    (put_within (λ q. Rest q rest content) (n + 1) (ChunkSpace size (n + 1)) (omega (arith, few)) (record {
      blanks = blanks;
      blank = all_more is_blank x blanks blank;
      extension = extension;
      extends = extends;
      more = more;
      spelled = rest_is;
      within = omega (arith, few);
      behind = behind;
    }))
size_less size n b rest content [] (x ∷ extension) more blank extends few behind e =
    let first : b ≡ x = head_is e in
    let rest_is : rest ≡ extension ++ (13 ∷ 10 ∷ more) = tail_is e in
    let is : b ≡ 59 = first ∙ extends.0 in
    put_false (λ q. Rest q rest content) (is_blank b) (within_line (n + 1) (ChunkSpace size (n + 1)))
    (if b == 59 then within_line (n + 1) (ChunkExtension size (n + 1)) else
    (if b == 13 then ChunkLineFeed size else Refused BadChunk)) (ap is_blank is)
    (put_true (λ q. Rest q rest content) (b == 59) (within_line (n + 1) (ChunkExtension size (n + 1)))
    (if b == 13 then ChunkLineFeed size else Refused BadChunk) (ap (λ k. k == 59) is)
    (put_within (λ q. Rest q rest content) (n + 1) (ChunkExtension size (n + 1)) (omega (arith, few)) (record {
      inside = extension;
      all = extends.1;
      more = more;
      spelled = rest_is;
      within = omega (arith, few);
      behind = behind;
    })))
size_less size n b rest content [] [] more blank extends few behind e =
    let is : b ≡ 13 = head_is e in
    let rest_is : rest ≡ 10 ∷ more = tail_is e in
    put_false (λ q. Rest q rest content) (is_blank b) (within_line (n + 1) (ChunkSpace size (n + 1)))
    (if b == 59 then within_line (n + 1) (ChunkExtension size (n + 1)) else
    (if b == 13 then ChunkLineFeed size else Refused BadChunk)) (ap is_blank is)
    (put_false (λ q. Rest q rest content) (b == 59) (within_line (n + 1) (ChunkExtension size (n + 1)))
    (if b == 13 then ChunkLineFeed size else Refused BadChunk) (ap (λ k. k == 59) is)
    (put_true (λ q. Rest q rest content) (b == 13) (ChunkLineFeed size) (Refused BadChunk) (ap (λ k. k == 13) is)
    (more, rest_is, behind)))

pub size_more : (size n b : ℕ) (rest content : Bytes) → n + 2 ≤ 65536 → Rest (after_size size (n + 1) b) rest content
    → SpaceRest size n (b ∷ rest) content
size_more size n b rest content few r =
    by_if (λ q. Rest q rest content) (is_blank b) (within_line (n + 1) (ChunkSpace size (n + 1)))
    (if b == 59 then within_line (n + 1) (ChunkExtension size (n + 1)) else
    (if b == 13 then ChunkLineFeed size else Refused BadChunk)) r
    (λ is p. let s : SpaceRest size (n + 1) rest content = get_within rest content (n + 1) (ChunkSpace size (n + 1)) p in
    record {
      blanks = b ∷ s.blanks;
      blank = all_cons is_blank b s.blanks is s.blank;
      extension = s.extension;
      extends = s.extends;
      more = s.more;
      spelled = ap (λ k. b ∷ k) s.spelled;
      within = omega (arith, s.within);
      behind = s.behind;
    })
    (λ fails p. by_if (λ q. Rest q rest content) (b == 59) (within_line (n + 1) (ChunkExtension size (n + 1)))
    (if b == 13 then ChunkLineFeed size else Refused BadChunk) p
    (λ is q. let s : InsideRest size (n + 1) rest content = get_within rest content (n + 1)
    (ChunkExtension size (n + 1)) q in record {
      blanks = [];
      blank = refl;
      extension = b ∷ s.inside;
      extends = (same_byte b 59 is, s.all);
      more = s.more;
      spelled = ap (λ k. b ∷ k) s.spelled;
      within = omega (arith, s.within);
      behind = s.behind;
    })
    (λ not_semicolon q. by_if (λ k. Rest k rest content) (b == 13) (ChunkLineFeed size) (Refused BadChunk) q
    (λ is l. record {
      blanks = [];
      blank = refl;
      extension = [];
      extends = tt;
      more = l.0;
      spelled = ap (λ k. k ∷ rest) (same_byte b 13 is) ∙ ap (λ k. 13 ∷ k) l.1;
      within = omega (arith, few);
      behind = l.2;
    })
    (λ not_return l. absurd l)))

-- in an extension
pub inside_less : (size n b : ℕ) (rest content inside more : Bytes)
    → list_all is_inside inside ≡ true → n + length inside + 2 ≤ 65536 → Behind size more content
    → b ∷ rest ≡ inside ++ (13 ∷ 10 ∷ more) → Rest (after_extension size (n + 1) b) rest content
inside_less size n b rest content [] more all few behind e =
    let is : b ≡ 13 = head_is e in
    let rest_is : rest ≡ 10 ∷ more = tail_is e in
    put_true (λ q. Rest q rest content) (b == 13) (ChunkLineFeed size)
    (if b == 10 then Refused BadChunk else within_line (n + 1) (ChunkExtension size (n + 1))) (ap (λ k. k == 13) is)
    (more, rest_is, behind)
inside_less size n b rest content (x ∷ inside) more all few behind e =
    let first : b ≡ x = head_is e in
    let rest_is : rest ≡ inside ++ (13 ∷ 10 ∷ more) = tail_is e in
    let is : is_inside b ≡ true = ap is_inside first ∙ all_first is_inside x inside all in
    let parts = and_parts (not (b == 13)) (not (b == 10)) is in
    put_false (λ q. Rest q rest content) (b == 13) (ChunkLineFeed size)
    (if b == 10 then Refused BadChunk else within_line (n + 1) (ChunkExtension size (n + 1))) (other_byte b 13 parts.0)
    (put_false (λ q. Rest q rest content) (b == 10) (Refused BadChunk) (within_line (n + 1)
    (ChunkExtension size (n + 1))) (other_byte b 10 parts.1)
    (put_within (λ q. Rest q rest content) (n + 1) (ChunkExtension size (n + 1)) (omega (arith, few)) (record {
      inside = inside;
      all = all_more is_inside x inside all;
      more = more;
      spelled = rest_is;
      within = omega (arith, few);
      behind = behind;
    })))

pub inside_more : (size n b : ℕ) (rest content : Bytes) → n + 2 ≤ 65536
    → Rest (after_extension size (n + 1) b) rest content → InsideRest size n (b ∷ rest) content
inside_more size n b rest content few r =
    by_if (λ q. Rest q rest content) (b == 13) (ChunkLineFeed size)
    (if b == 10 then Refused BadChunk else within_line (n + 1) (ChunkExtension size (n + 1))) r
    (λ is l. record {
      inside = [];
      all = refl;
      more = l.0;
      spelled = ap (λ k. k ∷ rest) (same_byte b 13 is) ∙ ap (λ k. 13 ∷ k) l.1;
      within = omega (arith, few);
      behind = l.2;
    })
    (λ not_return p. by_if (λ q. Rest q rest content) (b == 10) (Refused BadChunk) (within_line (n + 1)
    (ChunkExtension size (n + 1))) p (λ is q. absurd q)
    (λ not_feed q. let s : InsideRest size (n + 1) rest content = get_within rest content (n + 1)
    (ChunkExtension size (n + 1)) q in record {
      inside = b ∷ s.inside;
      all = all_cons is_inside b s.inside (ap (λ t. not t && not (b == 10)) not_return ∙ ap not not_feed) s.all;
      more = s.more;
      spelled = ap (λ k. b ∷ k) s.spelled;
      within = omega (arith, s.within);
      behind = s.behind;
    }))

-- in the digits of a size
pub by_or : (t u : Bool) → (t || u) ≡ true → (t ≡ true) ⊎ (u ≡ true)
by_or true u e = inl refl
by_or false u e = inr e

pub blank_no_digit : (b : ℕ) → is_blank b ≡ true → is_ascii_hexdigit b ≡ false
blank_no_digit b is = by_which (by_or (b == 32) (b == 9) is)
  where
    by_which : (((b == 32) ≡ true) ⊎ ((b == 9) ≡ true)) → is_ascii_hexdigit b ≡ false
    by_which (inl e) = ap is_ascii_hexdigit (same_byte b 32 e)
    by_which (inr e) = ap is_ascii_hexdigit (same_byte b 9 e)

pub end_is_no_digit : (b : ℕ) (rest blanks extension more : Bytes) → list_all is_blank blanks ≡ true
    → IsExtension extension → b ∷ rest ≡ blanks ++ (extension ++ (13 ∷ 10 ∷ more)) → is_ascii_hexdigit b ≡ false
end_is_no_digit b rest (x ∷ blanks) extension more blank extends e =
    let first : b ≡ x = head_is e in
    blank_no_digit b (ap is_blank first ∙ all_first is_blank x blanks blank)
end_is_no_digit b rest [] (x ∷ extension) more blank extends e =
    let first : b ≡ x = head_is e in
    ap is_ascii_hexdigit (first ∙ extends.0)
end_is_no_digit b rest [] [] more blank extends e =
    let first : b ≡ 13 = head_is e in
    ap is_ascii_hexdigit first

pub and_false : (t u : Bool) → u ≡ false → (t && u) ≡ false
and_false true u e = e
and_false false u e = refl

pub and_both : (t u : Bool) → t ≡ true → u ≡ true → (t && u) ≡ true
and_both true u e f = f
and_both false u e f = absurd (false≢true e)

pub digit_less : (d n b : ℕ) (rest content digits tail : Bytes) → d + length digits ≤ 16 → 1 ≤ d + length digits
    → list_all is_ascii_hexdigit digits ≡ true → b ∷ rest ≡ digits ++ tail
    → SpaceRest (hex_from n digits) (d + length digits) tail content → Rest (after_digit d n b) rest content
digit_less d n b rest content (x ∷ digits) tail few some hex e space =
    let first : b ≡ x = head_is e in
    let rest_is : rest ≡ digits ++ tail = tail_is e in
    let is : is_ascii_hexdigit b ≡ true = ap is_ascii_hexdigit first ∙ all_first is_ascii_hexdigit x digits hex in
    let count : d + length (x ∷ digits) ≡ d + 1 + length digits = omega arith in
    let below : nat_lt d 16 ≡ true = grind (arith, nat_tests, few, count) in
    let same : hex_from n (x ∷ digits) ≡ hex_from (n * 16 + digit_value b) digits = ap
    (λ k. hex_from (n * 16 + digit_value k) digits) (sym first) in
    put_true (λ q. Rest q rest content) (nat_lt d 16 && is_ascii_hexdigit b) (ChunkSize (d + 1) (n * 16 + digit_value b))
    (if d == 0 then Refused BadChunk else after_size n (d + 1) b) (and_both (nat_lt d 16) (is_ascii_hexdigit b) below is)
    (record {
      digits = digits;
      few = omega (arith, few);
      some = omega arith;
      hex = all_more is_ascii_hexdigit x digits hex;
      tail = tail;
      spelled = rest_is;
      space = subst (λ k. SpaceRest (hex_from (n * 16 + digit_value b) digits) k tail content) count
          (subst (λ k. SpaceRest k (d + length (x ∷ digits)) tail content) same space);
    })
digit_less d n b rest content [] tail few some hex e space =
    let all_is : b ∷ rest ≡ space.blanks ++ (space.extension ++ (13 ∷ 10 ∷ space.more)) = e ∙ space.spelled in
    let not_digit = end_is_no_digit b rest space.blanks space.extension space.more space.blank space.extends all_is in
    let not_first : (d == 0) ≡ false = grind (arith, nat_tests, some) in
    put_false (λ q. Rest q rest content) (nat_lt d 16 && is_ascii_hexdigit b) (ChunkSize (d + 1) (n * 16 + digit_value b))
    (if d == 0 then Refused BadChunk else after_size n (d + 1) b) (and_false (nat_lt d 16) (is_ascii_hexdigit b) not_digit)
    (put_false (λ q. Rest q rest content) (d == 0) (Refused BadChunk) (after_size n (d + 1) b) not_first
    (size_less n d b rest content space.blanks space.extension space.more space.blank space.extends (omega
    (arith, space.within)) space.behind all_is))

pub digit_more : (d n b : ℕ) (rest content : Bytes) → d ≤ 16 → Rest (after_digit d n b) rest content
    → DigitRest d n (b ∷ rest) content
digit_more d n b rest content few r =
    by_if (λ q. Rest q rest content) (nat_lt d 16 && is_ascii_hexdigit b) (ChunkSize (d + 1) (n * 16 + digit_value b))
    (if d == 0 then Refused BadChunk else after_size n (d + 1) b) r
    (λ is s. let count : d + 1 + length s.digits ≡ d + length (b ∷ s.digits) = omega arith in record {
      digits = b ∷ s.digits;
      few = omega (arith, s.few);
      some = omega arith;
      hex = all_cons is_ascii_hexdigit b s.digits (and_parts (nat_lt d 16) (is_ascii_hexdigit b) is).1 s.hex;
      tail = s.tail;
      spelled = ap (λ k. b ∷ k) s.spelled;
      space = subst (λ k. SpaceRest (hex_from (n * 16 + digit_value b) s.digits) k s.tail content) count s.space;
    })
    (λ fails p. by_if (λ q. Rest q rest content) (d == 0) (Refused BadChunk) (after_size n (d + 1) b) p
    (λ first q. absurd q)
    (λ not_first q. let s : SpaceRest n d (b ∷ rest) content = size_more n d b rest content (omega (arith, few)) q in
    let some : 0 < d = grind (arith, nat_tests, not_first) in
    let count : d ≡ d + length (let empty : Bytes = [] in empty) = omega arith in
    record {
      digits = [];
      few = omega (arith, few);
      some = omega (arith, some);
      hex = refl;
      tail = b ∷ rest;
      spelled = refl;
      space = subst (λ k. SpaceRest n k (b ∷ rest) content) count s;
    }))

-- behind the line of a chunk
pub begun_less : (size : ℕ) (rest content : Bytes) → Behind size rest content → Rest (data_begun size) rest content
begun_less zero rest content (n, (trailer, none)) =
    put_true (λ q. Rest q rest content) (0 == 0) (Trailer LineStart 0) (ChunkData 0) refl
    ((trailer.lines, trailer.spelled), omega (arith, trailer.within), none)
begun_less (suc k) rest content (n, (bytes, next, more, long, e, chunks, gives)) =
    put_false (λ q. Rest q rest content) (suc k == 0) (Trailer LineStart 0) (ChunkData (suc k)) (grind (arith, nat_tests)) (
      omega arith,
      record {
        bytes = bytes;
        as_long = long;
        next = next;
        spelled = e;
        more = more;
        chunks = (n, chunks);
        gives = gives;
      },
    )

pub begun_more : (size : ℕ) (rest content : Bytes) → Rest (data_begun size) rest content → Behind size rest content
begun_more zero rest content r =
    by_if (λ q. Rest q rest content) (0 == 0) (Trailer LineStart 0) (ChunkData 0) r
    (λ e t. (0, (record { lines = t.0.0; spelled = t.0.1; within = omega (arith, t.1) }, t.2)))
    (λ e d. absurd (omega (arith, d.0)))
begun_more (suc k) rest content r =
    by_if (λ q. Rest q rest content) (suc k == 0) (Trailer LineStart 0) (ChunkData (suc k)) r
    (λ e t. absurd (grind (arith, nat_tests, e)))
    (λ e d. let s = d.1 in (s.chunks.0, (s.bytes, s.next, s.more, s.as_long, s.spelled, s.chunks.1, s.gives)))

-- in the data of a chunk
pub left_less : (n : ℕ) (rest content : Bytes) → DataRest n rest content → Rest (data_left n) rest content
left_less zero rest content d =
    let none = no_bytes d.bytes d.as_long in
    put_true (λ q. Rest q rest content) (0 == 0) DataReturn (ChunkData 0) refl (
      d.next,
      d.spelled ∙ ap (λ k. k ++ (13 ∷ 10 ∷ d.next)) none,
      subst (IsChunks d.next) (sym (d.gives ∙ ap (λ k. k ++ d.more) none)) d.chunks,
    )
  where
    no_bytes : (bytes : Bytes) → length bytes ≡ 0 → bytes ≡ []
    no_bytes [] e = refl
    no_bytes (x ∷ bytes) e = absurd (omega (arith, e))
left_less (suc k) rest content d =
    put_false (λ q. Rest q rest content) (suc k == 0) DataReturn (ChunkData (suc k)) (grind (arith, nat_tests))
    (omega arith, d)

pub left_more : (n : ℕ) (rest content : Bytes) → Rest (data_left n) rest content → DataRest n rest content
left_more zero rest content r =
    by_if (λ q. Rest q rest content) (0 == 0) DataReturn (ChunkData 0) r
    (λ e p. record {
      bytes = [];
      as_long = refl;
      next = p.0;
      spelled = p.1;
      more = content;
      chunks = p.2;
      gives = refl;
    })
    (λ e p. absurd (omega (arith, p.0)))
left_more (suc k) rest content r =
    by_if (λ q. Rest q rest content) (suc k == 0) DataReturn (ChunkData (suc k)) r
    (λ e p. absurd (grind (arith, nat_tests, e))) (λ e p. p.1)

-- a byte of content less
pub record DataLess (n b : ℕ) (rest content : Bytes) : Type 0 where
  pub less : Bytes
  pub data_rest : DataRest (n - 1) rest less
  pub gives : content ≡ b ∷ less

pub data_less : (n b : ℕ) (rest content bytes next more : Bytes) → 0 < n → length bytes ≡ n
    → b ∷ rest ≡ bytes ++ (13 ∷ 10 ∷ next) → IsChunks next more → content ≡ bytes ++ more
    → DataLess n b rest content
data_less n b rest content [] next more some long e chunks gives = absurd (omega (arith, some, long))
data_less n b rest content (x ∷ bytes) next more some long e chunks gives =
    let first : b ≡ x = head_is e in
    let rest_is : rest ≡ bytes ++ (13 ∷ 10 ∷ next) = tail_is e in
    record {
      less = bytes ++ more;
      data_rest = record {
        bytes = bytes;
        as_long = omega (arith, long);
        next = next;
        spelled = rest_is;
        more = more;
        chunks = chunks;
        gives = refl;
      };
      gives = gives ∙ ap (λ k. k ∷ (bytes ++ more)) (sym first);
    }

pub data_more : (n b : ℕ) (rest content : Bytes) → 0 < n → DataRest (n - 1) rest content
    → DataRest n (b ∷ rest) (b ∷ content)
data_more n b rest content some d =
    record {
      bytes = b ∷ d.bytes;
      as_long = omega (arith, d.as_long, some);
      next = d.next;
      spelled = ap (λ k. b ∷ k) d.spelled;
      more = d.more;
      chunks = d.chunks;
      gives = ap (λ k. b ∷ k) d.gives;
    }
