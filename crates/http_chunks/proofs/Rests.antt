-- What may follow at each place of a body of chunks, as texts.
use Rattle.std.proofs.Common.{◌≡◌, ◌≢◌, ◌⊎◌, inl, inr, ℕ, zero, suc, ◌+◌, ◌<◌, ◌≤◌, Bool, true, not, ◌==◌, List, [], ◌∷◌, ◌++◌, length, length-append, refl, sym, ap, ◌∙◌, subst, arith, append_assoc}
use Rattle.std.specs.Char.{is_ascii_hexdigit}
use Rattle.std.specs.List.{list_all}
use Rattle.http_wire.specs.declared.body_places.BodyPlace.{BodyPlace}
use Rattle.http_wire.specs.declared.body_places.BodyPlace.TheVariants.{UntilClose, ContentLeft, ChunkData, ChunkSize, ChunkSpace, ChunkExtension, ChunkLineFeed, DataReturn, DataLineFeed, Trailer, Whole, Refused}
use Rattle.http_wire.specs.declared.line_places.LinePlace.{LinePlace}
use Rattle.http_wire.specs.declared.line_places.LinePlace.TheVariants.{Leading, LeadingReturn, InLine, LineStart, StartReturn}
use Rattle.http_wire.specs.Fields.{Bytes}
use Rattle.http_chunks.specs.Chunks.{is_blank, is_inside, hex_from, IsExtension, IsChunkLine, IsLines, IsBehind, IsChunksOf, IsChunks}

-- behind the line of a chunk
abbrev pub Behind : ℕ → Bytes → Bytes → Type 0
Behind size text content = (n : ℕ) × IsBehind (IsChunksOf n) size text content

-- behind the digits of a line, of which n bytes were read
pub record SpaceRest (size n : ℕ) (rest content : Bytes) : Type 0 where
  pub blanks : Bytes
  pub blank : list_all is_blank blanks ≡ true
  pub extension : Bytes
  pub extends : IsExtension extension
  pub more : Bytes
  pub spelled : rest ≡ blanks ++ (extension ++ (13 ∷ 10 ∷ more))
  pub within : n + length blanks + length extension + 2 ≤ 65536
  pub behind : Behind size more content

-- behind d digits that give n
pub record DigitRest (d n : ℕ) (rest content : Bytes) : Type 0 where
  pub digits : Bytes
  pub few : d + length digits ≤ 16
  pub some : 1 ≤ d + length digits
  pub hex : list_all is_ascii_hexdigit digits ≡ true
  pub tail : Bytes
  pub spelled : rest ≡ digits ++ tail
  pub space : SpaceRest (hex_from n digits) (d + length digits) tail content

-- inside an extension
pub record InsideRest (size n : ℕ) (rest content : Bytes) : Type 0 where
  pub inside : Bytes
  pub all : list_all is_inside inside ≡ true
  pub more : Bytes
  pub spelled : rest ≡ inside ++ (13 ∷ 10 ∷ more)
  pub within : n + length inside + 2 ≤ 65536
  pub behind : Behind size more content

-- before the last n bytes of data
pub record DataRest (n : ℕ) (rest content : Bytes) : Type 0 where
  pub bytes : Bytes
  pub as_long : length bytes ≡ n
  pub next : Bytes
  pub spelled : rest ≡ bytes ++ (13 ∷ 10 ∷ next)
  pub more : Bytes
  pub chunks : IsChunks next more
  pub gives : content ≡ bytes ++ more

abbrev pub is_one_line : ℕ → Bool
is_one_line b = not (b == 10)

-- the rest of a line, and further lines up to an empty one
pub record LineRest (line rest : Bytes) : Type 0 where
  pub one : list_all is_one_line line ≡ true
  pub more : Bytes
  pub spelled : rest ≡ line ++ (10 ∷ more)
  pub lines : List Bytes
  pub after : IsLines lines more

abbrev pub LinesRest : LinePlace → Bytes → Type 0
LinesRest Leading rest = ⊥
LinesRest LeadingReturn rest = ⊥
LinesRest InLine rest = (line : Bytes) × LineRest line rest
LinesRest LineStart rest = (lines : List Bytes) × IsLines lines rest
LinesRest StartReturn rest = (rest ≡ 10 ∷ []) ⊎ ((line : Bytes) × LineRest line rest × (line ≢ []))

-- this text may follow at a place, and gives this content
abbrev pub Rest : BodyPlace → Bytes → Bytes → Type 0
Rest UntilClose rest content = ⊥
Rest (ContentLeft n) rest content = ⊥
Rest (ChunkData n) rest content = (0 < n) × DataRest n rest content
Rest (ChunkSize digits size) rest content = DigitRest digits size rest content
Rest (ChunkSpace size n) rest content = SpaceRest size n rest content
Rest (ChunkExtension size n) rest content = InsideRest size n rest content
Rest (ChunkLineFeed size) rest content = (more : Bytes) × (rest ≡ 10 ∷ more) × Behind size more content
Rest DataReturn rest content = (next : Bytes) × (rest ≡ 13 ∷ 10 ∷ next) × IsChunks next content
Rest DataLineFeed rest content = (next : Bytes) × (rest ≡ 10 ∷ next) × IsChunks next content
Rest (Trailer line n) rest content = LinesRest line rest × (n + length rest ≤ 65536) × (content ≡ [])
Rest Whole rest content = (rest ≡ []) × (content ≡ [])
Rest (Refused e) rest content = ⊥

-- a body of chunks is what may follow where no digit was read
line_append : (digits blanks extension rest : Bytes)
    → (digits ++ (blanks ++ (extension ++ (13 ∷ 10 ∷ [])))) ++ rest
    ≡ digits ++ (blanks ++ (extension ++ (13 ∷ 10 ∷ rest)))
line_append digits blanks extension rest =
    append_assoc digits (blanks ++ (extension ++ (13 ∷ 10 ∷ []))) rest
    ∙ ap (λ tail. digits ++ tail) (append_assoc blanks (extension ++ (13 ∷ 10 ∷ [])) rest
    ∙ ap (λ tail. blanks ++ tail) (append_assoc extension (13 ∷ 10 ∷ []) rest))

line_length : (digits blanks extension : Bytes)
    → length (digits ++ (blanks ++ (extension ++ (13 ∷ 10 ∷ []))))
    ≡ length digits + length blanks + length extension + 2
line_length digits blanks extension =
    omega (
      arith,
      length-append digits (blanks ++ (extension ++ (13 ∷ 10 ∷ []))),
      length-append blanks (extension ++ (13 ∷ 10 ∷ [])),
      length-append extension (13 ∷ 10 ∷ []),
    )

pub chunks_rest : (text content : Bytes) → IsChunks text content → Rest (ChunkSize 0 0) text content
chunks_rest text content (zero, none) = absurd none
chunks_rest text content (suc m, c) =
    let is = c.3 in
    let tail = is.blanks ++ (is.extension ++ (13 ∷ 10 ∷ c.2)) in
    let long : length c.0 ≡ length is.digits + length is.blanks + length is.extension + 2 = ap length is.spelled
    ∙ line_length is.digits is.blanks is.extension in
    record {
      digits = is.digits;
      few = omega (arith, is.few);
      some = omega (arith, is.some);
      hex = is.hex;
      tail = tail;
      spelled = c.4 ∙ ap (λ line. line ++ c.2) is.spelled ∙ line_append is.digits is.blanks is.extension c.2;
      space = record {
        blanks = is.blanks;
        blank = is.blank;
        extension = is.extension;
        extends = is.extends;
        more = c.2;
        spelled = refl;
        within = omega (arith, is.within, long);
        behind = (m, subst (λ size. IsBehind (IsChunksOf m) size c.2 content) is.value c.5);
      };
    }

pub rest_chunks : (text content : Bytes) → Rest (ChunkSize 0 0) text content → IsChunks text content
rest_chunks text content r =
    let s = r.space in
    let line = r.digits ++ (s.blanks ++ (s.extension ++ (13 ∷ 10 ∷ []))) in
    let is : IsChunkLine line (hex_from 0 r.digits) = record {
      digits = r.digits;
      some = omega (arith, r.some);
      few = omega (arith, r.few);
      hex = r.hex;
      value = refl;
      blanks = s.blanks;
      blank = s.blank;
      extension = s.extension;
      extends = s.extends;
      spelled = refl;
      within = omega (arith, s.within, line_length r.digits s.blanks s.extension);
    } in (
      suc s.behind.0,
      (
        line,
        hex_from 0 r.digits,
        s.more,
        is,
        r.spelled ∙ ap (λ tail. r.digits ++ tail) s.spelled
            ∙ sym (line_append r.digits s.blanks s.extension s.more),
        s.behind.1,
      ),
    )

-- nothing may follow only where the body is whole
lines_some : (lines : List Bytes) (text : Bytes) → IsLines lines text → 1 ≤ length text
lines_some [] text (inl e) = omega (arith, ap length e)
lines_some [] text (inr e) = omega (arith, ap length e)
lines_some (line ∷ lines) text (more, e, full, after) =
    omega (arith, ap length e, length-append line (10 ∷ more))

pub lines_length : (lines : List Bytes) (text : Bytes) → IsLines lines text → 1 ≤ length text
lines_length lines text is = lines_some lines text is

space_some : (size n : ℕ) (rest content : Bytes) → SpaceRest size n rest content → 2 ≤ length rest
space_some size n rest content s =
    omega (
      arith,
      ap length s.spelled,
      length-append s.blanks (s.extension ++ (13 ∷ 10 ∷ s.more)),
      length-append s.extension (13 ∷ 10 ∷ s.more),
    )

line_some : (line rest : Bytes) → LineRest line rest → 2 ≤ length rest
line_some line rest l =
    omega (arith, ap length l.spelled, length-append line (10 ∷ l.more), lines_some l.lines l.more l.after)

pub line_length_rest : (line rest : Bytes) → LineRest line rest → length line + 2 ≤ length rest
line_length_rest line rest l =
    omega (arith, ap length l.spelled, length-append line (10 ∷ l.more), lines_some l.lines l.more l.after)

lines_left : (line : LinePlace) (rest : Bytes) → LinesRest line rest → 1 ≤ length rest
lines_left Leading rest l = absurd l
lines_left LeadingReturn rest l = absurd l
lines_left InLine rest (line, l) = omega (arith, line_some line rest l)
lines_left LineStart rest (lines, is) = lines_some lines rest is
lines_left StartReturn rest (inl e) = omega (arith, ap length e)
lines_left StartReturn rest (inr (line, l, some)) = omega (arith, line_some line rest l)

pub some_left : (place : BodyPlace) (rest content : Bytes) → Rest place rest content
    → (1 ≤ length rest) ⊎ ((place ≡ Whole) × (content ≡ []))
some_left UntilClose rest content r = absurd r
some_left (ContentLeft n) rest content r = absurd r
some_left (ChunkData n) rest content (some, d) =
    inl (omega (arith, ap length d.spelled, length-append d.bytes (13 ∷ 10 ∷ d.next)))
some_left (ChunkSize digits size) rest content d =
    inl (omega (
      arith,
      ap length d.spelled,
      length-append d.digits d.tail,
      space_some (hex_from size d.digits)
          (digits + length d.digits) d.tail content d.space,
    ))
some_left (ChunkSpace size n) rest content s = inl (omega (arith, space_some size n rest content s))
some_left (ChunkExtension size n) rest content s =
    inl (omega (arith, ap length s.spelled, length-append s.inside (13 ∷ 10 ∷ s.more)))
some_left (ChunkLineFeed size) rest content (more, e, behind) = inl (omega (arith, ap length e))
some_left DataReturn rest content (next, e, chunks) = inl (omega (arith, ap length e))
some_left DataLineFeed rest content (next, e, chunks) = inl (omega (arith, ap length e))
some_left (Trailer line n) rest content (l, few, none) = inl (lines_left line rest l)
some_left Whole rest content (none, empty) = inr (refl, empty)
some_left (Refused e) rest content r = absurd r

pub at_end : (place : BodyPlace) (content : Bytes) → Rest place [] content → (place ≡ Whole) × (content ≡ [])
at_end place content r = by_left (some_left place [] content r)
  where
    by_left : ((1 ≤ length (let empty : Bytes = [] in empty)) ⊎ ((place ≡ Whole) × (content ≡ [])))
        → (place ≡ Whole) × (content ≡ [])
    by_left (inl some) = absurd (omega (arith, some))
    by_left (inr whole) = whole
