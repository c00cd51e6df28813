-- Each byte brings the end of a reply nearer.
use Rattle.std.proofs.Common.{◌≡◌, ℕ, ◌<◌, ◌≤◌, ◌+◌, ◌-◌, ◌*◌, Bool, true, false, [], ◌∷◌, length, Option, Some, None, Result, Ok, Err, refl, sym, ap, ◌∙◌, subst, arith, if◌then◌else◌, ◌==◌, nat_le, nat_lt, ◌&&◌, ◌||◌}
use Rattle.std.specs.Char.{is_ascii_hexdigit, digit_value}
use Rattle.std.proofs.lemmas.Bool.{and_parts, true≢false}
use Rattle.std.proofs.lemmas.Bool.Decides.{nat_tests}
use Rattle.http_wire.specs.declared.line_places.LinePlace.{LinePlace}
use Rattle.http_wire.specs.declared.line_places.LinePlace.TheVariants.{Leading, LeadingReturn, InLine, LineStart, StartReturn}
use Rattle.http_wire.specs.declared.body_places.BodyPlace.{BodyPlace}
use Rattle.http_wire.specs.declared.body_places.BodyPlace.TheVariants.{UntilClose, ContentLeft, ChunkData, ChunkSize, ChunkSpace, ChunkExtension, ChunkLineFeed, DataReturn, DataLineFeed, Trailer, Whole, Refused}
use Rattle.http_wire.specs.declared.body_states.BodyState.{BodyState}
use Rattle.http_wire.specs.declared.replies.Fed.{Fed}
use Rattle.http_wire.specs.declared.replies.Fed.TheVariants.{More, Done}
use Rattle.http_wire.specs.declared.replies.ReplyErr.{ReplyErr}
use Rattle.http_wire.specs.declared.replies.ReplyErr.TheVariants.{BadChunk, BodyTooLong}
use Rattle.http_wire.specs.declared.reply_reader.Phase.{Phase}
use Rattle.http_wire.specs.declared.reply_reader.Phase.TheVariants.{InHead, InBody}
use Rattle.http_wire.specs.declared.reply_reader.ReplyReader.{ReplyReader}
use Rattle.http_wire.specs.LinePlaces.{next_line_place, least_left}
use Rattle.http_wire.specs.BodyPlaces.{content_left, data_left, data_begun, within_line, after_size, trailer_place, after_extension, after_digit, if_byte, is_content, after_content, after_framing, fed_at}
use Rattle.http_wire.specs.BodyBytes.{after_content_byte, after_byte, after_bytes}
use Rattle.http_wire.specs.BodyStarts.{HeadData}
use Rattle.http_wire.specs.Fields.{Bytes}
use Rattle.http_wire.specs.Measures.{framing_left, body_left, left_by, left_of}
use Rattle.http_wire.specs.Outcomes.{IsFinalAnswer, body_start}
use Rattle.http_wire.specs.Readers.{IsNearer, fed_by, refused_phase}

-- where more may come at a place, fewer than n bytes of framing come from there on
abbrev Lower : ℕ → BodyPlace → Type 0
Lower n place = fed_at place ≡ Ok More → framing_left place + 1 ≤ n

at_end : {T : Type 0} (answer : Result Fed ReplyErr) → IsFinalAnswer answer → answer ≡ Ok More → T
at_end answer f e = absurd (subst IsFinalAnswer e f)

lower_if : (t : Bool) (x y : BodyPlace) (n : ℕ) → (t ≡ true → Lower n x) → (t ≡ false → Lower n y)
    → Lower n (if t then x else y)
lower_if true x y n p q = p refl
lower_if false x y n p q = q refl

lower_refused : (e : ReplyErr) (n : ℕ) → Lower n (Refused e)
lower_refused e n = at_end (Err e) tt

within_lower : (read : ℕ) (place : BodyPlace) (n : ℕ) → (read + 2 ≤ 65536 → Lower n place)
    → Lower n (within_line read place)
within_lower read place n p =
    lower_if (nat_le (read + 2) 65536) place (Refused BadChunk) n (λ e. p (grind (arith, nat_tests, e)))
    (λ e. lower_refused BadChunk n)

size_lower : (size read b n : ℕ) → (read + 2 ≤ 65536 → 65539 + (65537 - read) + 1 ≤ n) → 65539 ≤ n
    → Lower n (after_size size read b)
size_lower size read b n p q =
    lower_if ((b == 32) || (b == 9)) (within_line read (ChunkSpace size read)) (if b == 59 then within_line read
    (ChunkExtension size read) else (if b == 13 then ChunkLineFeed size else Refused BadChunk)) n
    (λ e. within_lower read (ChunkSpace size read) n (λ f h. p f))
    (λ e. lower_if (b == 59) (within_line read (ChunkExtension size read))
    (if b == 13 then ChunkLineFeed size else Refused BadChunk) n (λ f. within_lower read
    (ChunkExtension size read) n (λ g h. p g))
    (λ f. lower_if (b == 13) (ChunkLineFeed size) (Refused BadChunk) n (λ g h. omega (arith, q))
    (λ g. lower_refused BadChunk n)))

extension_lower : (size read b n : ℕ) → (read + 2 ≤ 65536 → 65539 + (65537 - read) + 1 ≤ n) → 65539 ≤ n
    → Lower n (after_extension size read b)
extension_lower size read b n p q =
    lower_if (b == 13) (ChunkLineFeed size) (if b == 10 then Refused BadChunk else within_line read
    (ChunkExtension size read)) n (λ e h. omega (arith, q))
    (λ e. lower_if (b == 10) (Refused BadChunk) (within_line read (ChunkExtension size read)) n
    (λ f. lower_refused BadChunk n) (λ f. within_lower read (ChunkExtension size read) n (λ g h. p g)))

digit_lower : (digits size b : ℕ) → Lower (131077 + (17 - digits)) (after_digit digits size b)
digit_lower digits size b =
    lower_if (nat_lt digits 16 && is_ascii_hexdigit b) (ChunkSize (digits + 1) (size * 16 + digit_value b))
    (if digits == 0 then Refused BadChunk else after_size size (digits + 1) b) (131077 + (17 - digits))
    (λ e h. let few : digits < 16 = grind (
      arith,
      nat_tests,
      (and_parts (nat_lt digits 16)
          (is_ascii_hexdigit b) e).0,
    ) in omega (arith, few))
    (λ e. lower_if (digits == 0) (Refused BadChunk) (after_size size (digits + 1) b) (131077 + (17 - digits))
    (λ f. lower_refused BadChunk (131077 + (17 - digits))) (λ f. size_lower size (digits + 1) b (131077 +
    (17 - digits)) (λ g. omega (arith, g)) (omega arith)))

least_some : (line : LinePlace) → 1 ≤ least_left line
least_some Leading = omega arith
least_some LeadingReturn = omega arith
least_some InLine = omega arith
least_some LineStart = omega arith
least_some StartReturn = omega arith

trailer_lower : (read : ℕ) (line : Option LinePlace) → Lower (65537 - read) (trailer_place (read + 1) line)
trailer_lower read None = at_end (Ok Done) tt
trailer_lower read (Some line) =
    lower_if (nat_le (read + 1 + least_left line) 65536) (Trailer line (read + 1)) (Refused BadChunk) (65537 - read)
    (λ e h. let short : read + 1 + least_left line ≤ 65536 = grind (arith, nat_tests, e) in omega
    (arith, short, least_some line)) (λ e. lower_refused BadChunk (65537 - read))

begun_lower : (size : ℕ) → Lower 65538 (data_begun size)
begun_lower size = lower_if (size == 0) (Trailer LineStart 0) (ChunkData size) 65538 (λ e h. omega arith)
    (λ e h. omega arith)

byte_lower : (b wanted : ℕ) (next : BodyPlace) (n : ℕ) → Lower n next → Lower n (if_byte b wanted next)
byte_lower b wanted next n p = lower_if (b == wanted) next (Refused BadChunk) n (λ e. p) (λ e. lower_refused BadChunk n)

framing_lower : (place : BodyPlace) (b : ℕ) → is_content place ≡ false
    → Lower (framing_left place) (after_framing place b)
framing_lower UntilClose b c = absurd (true≢false c)
framing_lower (ContentLeft n) b c = absurd (true≢false c)
framing_lower (ChunkData n) b c = absurd (true≢false c)
framing_lower (ChunkSize digits size) b c = digit_lower digits size b
framing_lower (ChunkSpace size n) b c = size_lower size (n + 1) b (65539 + (65537 - n)) (λ f. omega (arith, f))
    (omega arith)
framing_lower (ChunkExtension size n) b c = extension_lower size (n + 1) b (65539 + (65537 - n)) (λ f. omega
    (arith, f)) (omega arith)
framing_lower (ChunkLineFeed size) b c = byte_lower b 10 (data_begun size) 65538 (begun_lower size)
framing_lower DataReturn b c = byte_lower b 13 DataLineFeed 131096 (λ h. omega arith)
framing_lower DataLineFeed b c = byte_lower b 10 (ChunkSize 0 0) 131095 (λ h. omega arith)
framing_lower (Trailer line n) b c = trailer_lower n (next_line_place line b)
framing_lower Whole b c = at_end (Ok Done) tt
framing_lower (Refused e) b c = at_end (Err e) tt

-- a byte of content, where the limit has room
content_lower : (place : BodyPlace) (room : ℕ) → is_content place ≡ true → 0 < room
    → fed_at (after_content place 1) ≡ Ok More
    → (fed_at place ≡ Ok More) × ((room - 1) * 300001 + framing_left
    (after_content place 1) + 1 ≤ room * 300001 + framing_left place)
content_lower UntilClose room c p h = (refl, omega (arith, p))
content_lower (ContentLeft n) room c p h = (refl, by_rest (n - 1 == 0) refl)
  where
    by_rest : (t : Bool) → (n - 1 == 0) ≡ t
        → (room - 1) * 300001 + framing_left (content_left (n - 1)) + 1 ≤ room * 300001 + 0
    by_rest true e = rw e (omega (arith, p))
    by_rest false e = rw e (omega (arith, p))
content_lower (ChunkData n) room c p h = (refl, by_rest (n - 1 == 0) refl)
  where
    by_rest : (t : Bool) → (n - 1 == 0) ≡ t
        → (room - 1) * 300001 + framing_left (data_left (n - 1)) + 1 ≤ room * 300001 + 0
    by_rest true e = rw e (omega (arith, p))
    by_rest false e = rw e (omega (arith, p))
content_lower (ChunkSize digits size) room c p h = absurd (true≢false (sym c))
content_lower (ChunkSpace size n) room c p h = absurd (true≢false (sym c))
content_lower (ChunkExtension size n) room c p h = absurd (true≢false (sym c))
content_lower (ChunkLineFeed size) room c p h = absurd (true≢false (sym c))
content_lower DataReturn room c p h = absurd (true≢false (sym c))
content_lower DataLineFeed room c p h = absurd (true≢false (sym c))
content_lower (Trailer line n) room c p h = absurd (true≢false (sym c))
content_lower Whole room c p h = absurd (true≢false (sym c))
content_lower (Refused e) room c p h = absurd (true≢false (sym c))

-- where more may come behind a byte of framing, more might come before it
was_more : (place : BodyPlace) (b : ℕ) → fed_at (after_framing place b) ≡ Ok More → fed_at place ≡ Ok More
was_more UntilClose b h = refl
was_more (ContentLeft n) b h = refl
was_more (ChunkData n) b h = refl
was_more (ChunkSize digits size) b h = refl
was_more (ChunkSpace size n) b h = refl
was_more (ChunkExtension size n) b h = refl
was_more (ChunkLineFeed size) b h = refl
was_more DataReturn b h = refl
was_more DataLineFeed b h = refl
was_more (Trailer line n) b h = refl
was_more Whole b h = h
was_more (Refused e) b h = h

-- more may come behind a body, and so it might before, with more left
abbrev Nears : BodyPlace → ℕ → BodyState → Type 0
Nears place room body = fed_at body.place ≡ Ok More → (fed_at place ≡ Ok More)
    × (body_left body + 1 ≤ room * 300001 + framing_left place)

byte_nearer : (place : BodyPlace) (room b : ℕ)
    → fed_at (after_byte (record { place = place; room = room }) b).place ≡ Ok More
    → (fed_at place ≡ Ok More) × (body_left (after_byte
    (record { place = place; room = room }) b) + 1 ≤ room * 300001 + framing_left place)
byte_nearer place room b = by_test (is_content place) refl
  where
    by_test : (t : Bool) → is_content place ≡ t
        → Nears place room (after_byte (record { place = place; room = room }) b)
    by_test false e = rw e (λ h. (was_more place b h, omega (arith, framing_lower place b e h)))
    by_test true e = rw e (by_room (room == 0) refl)
      where
        by_room : (z : Bool) → (room == 0) ≡ z → Nears place room (after_content_byte place room)
        by_room true z = rw z (λ h. at_end (Err BodyTooLong) tt h)
        by_room false z = rw z (λ h. content_lower place room e (grind (arith, nat_tests, z)) h)

pub bytes_nearer : (body : BodyState) (xs : Bytes) → fed_at (after_bytes body xs).place ≡ Ok More
    → (fed_at body.place ≡ Ok More) × (body_left (after_bytes body xs) + length xs ≤ body_left body)
bytes_nearer body [] h = (h, omega arith)
bytes_nearer body (x ∷ xs) h =
    let rest = bytes_nearer (after_byte body x) xs h in
    let one = byte_nearer body.place body.room x rest.0 in
    (one.0, omega (arith, rest.1, one.1))

-- from phase to phase
pub nearer_by : (old now : ReplyReader) (n : ℕ) (p q : Phase) → old.phase ≡ p → now.phase ≡ q
    → (fed_by q ≡ Ok More → (fed_by p ≡ Ok More)
    × (left_by q now.limit now.front.items + n ≤ left_by p old.limit old.front.items))
    → IsNearer old now n
nearer_by old now n p q was is step = λ h.
    let s = step (ap fed_by (sym is) ∙ h) in (
      ap fed_by was ∙ s.0,
      subst (λ k. left_by k now.limit now.front.items + n ≤ left_of old) (sym is) (subst
          (λ k. left_by q now.limit now.front.items + n ≤ left_by k old.limit old.front.items) (sym was) s.1),
    )

few_framing : (place : BodyPlace) → framing_left place ≤ 131096
few_framing UntilClose = omega arith
few_framing (ContentLeft n) = omega arith
few_framing (ChunkData n) = omega arith
few_framing (ChunkSize digits size) = omega arith
few_framing (ChunkSpace size n) = omega arith
few_framing (ChunkExtension size n) = omega arith
few_framing (ChunkLineFeed size) = omega arith
few_framing DataReturn = omega arith
few_framing DataLineFeed = omega arith
few_framing (Trailer line n) = omega arith
few_framing Whole = omega arith
few_framing (Refused e) = omega arith

start_room : (limit : ℕ) (seen : Option HeadData) → (body_start limit seen).room ≡ limit
start_room limit None = refl
start_room limit (Some seen) = refl

-- the byte that ends the head
pub nearer_ends : (old now : ReplyReader) (line : LinePlace) (seen : Option HeadData) → old.phase ≡ InHead line
    → length old.front.items < 65536
    → now.phase ≡ InBody (body_start old.limit seen) → IsNearer old now 1
nearer_ends old now line seen was short is =
    nearer_by old now 1 (InHead line) (InBody (body_start old.limit seen)) was is
    (λ h. (refl, omega (arith, short, start_room old.limit seen, few_framing (body_start old.limit seen).place)))

-- any other byte of the head
pub nearer_goes : (old now : ReplyReader) (line next : LinePlace) → old.phase ≡ InHead line
    → length old.front.items < 65536
    → now.phase ≡ InHead next → now.limit ≡ old.limit → length now.front.items ≡ length old.front.items + 1
    → IsNearer old now 1
nearer_goes old now line next was short is same long =
    nearer_by old now 1 (InHead line) (InHead next) was is (λ h. (refl, omega (arith, short, same, long)))

pub nearer_refused : (old now : ReplyReader) (n : ℕ) (e : ReplyErr) → now.phase ≡ refused_phase e → IsNearer old now n
nearer_refused old now n e is = λ h. at_end (Err e) tt (ap fed_by (sym is) ∙ h)
