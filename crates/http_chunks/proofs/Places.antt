-- The places of a body of chunks, without a limit.
use Rattle.std.proofs.Common.{◌≡◌, ◌⊎◌, inl, inr, ℕ, ◌+◌, ◌-◌, ◌*◌, ◌<◌, ◌≤◌, Bool, true, false, [], ◌∷◌, ◌++◌, Some, None, refl, sym, ap, ◌∙◌, subst, arith, append_assoc, if◌then◌else◌, ◌==◌, nat_le, nat_lt, ◌&&◌, ◌||◌}
use Rattle.std.specs.Char.{is_ascii_hexdigit, digit_value}
use Rattle.std.proofs.lemmas.Bool.{and_parts}
use Rattle.std.proofs.lemmas.Bool.Decides.{nat_tests}
use Rattle.http_wire.specs.declared.body_places.BodyPlace.{BodyPlace}
use Rattle.http_wire.specs.declared.body_places.BodyPlace.TheVariants.{UntilClose, ContentLeft, ChunkData, ChunkSize, ChunkSpace, ChunkExtension, ChunkLineFeed, DataReturn, DataLineFeed, Trailer, Whole, Refused}
use Rattle.http_wire.specs.declared.line_places.LinePlace.{LinePlace}
use Rattle.http_wire.specs.declared.line_places.LinePlace.TheVariants.{Leading, LeadingReturn, InLine, LineStart, StartReturn}
use Rattle.http_wire.specs.declared.replies.ReplyErr.{ReplyErr}
use Rattle.http_wire.specs.declared.replies.ReplyErr.TheVariants.{BadChunk}
use Rattle.http_wire.specs.LinePlaces.{least_left}
use Rattle.http_wire.specs.BodyPlaces.{data_left, data_begun, within_line, after_size, trailer_place, after_extension, after_digit, is_content, after_content, after_framing}
use Rattle.http_wire.specs.Fields.{Bytes}

-- behind a byte
abbrev pub place_after : BodyPlace → ℕ → BodyPlace
place_after place b = if is_content place then after_content place 1 else after_framing place b

abbrev pub byte_at : BodyPlace → ℕ → Bytes
byte_at place b = if is_content place then b ∷ [] else []

-- behind these bytes, and the content among them
abbrev pub run : BodyPlace → Bytes → BodyPlace
run place [] = place
run place (b ∷ bytes) = run (place_after place b) bytes

abbrev pub gives : BodyPlace → Bytes → Bytes
gives place [] = []
gives place (b ∷ bytes) = byte_at place b ++ gives (place_after place b) bytes

pub run-append : (place : BodyPlace) (one two : Bytes) → run place (one ++ two) ≡ run (run place one) two
run-append place [] two = refl
run-append place (b ∷ one) two = run-append (place_after place b) one two

pub gives-append : (place : BodyPlace) (one two : Bytes)
    → gives place (one ++ two) ≡ gives place one ++ gives (run place one) two
gives-append place [] two = refl
gives-append place (b ∷ one) two =
    ap (λ more. byte_at place b ++ more) (gives-append (place_after place b) one two)
    ∙ sym (append_assoc (byte_at place b) (gives (place_after place b) one) (gives (run (place_after place b) one) two))

pub run_whole : (bytes : Bytes) → run Whole bytes ≡ Whole
run_whole [] = refl
run_whole (b ∷ bytes) = run_whole bytes

pub gives_whole : (bytes : Bytes) → gives Whole bytes ≡ []
gives_whole [] = refl
gives_whole (b ∷ bytes) = gives_whole bytes

pub run_refused : (e : ReplyErr) (bytes : Bytes) → run (Refused e) bytes ≡ Refused e
run_refused e [] = refl
run_refused e (b ∷ bytes) = run_refused e bytes

-- more of the body is wanted at the place, whose numbers are in range
abbrev pub IsLineOpen : LinePlace → Type 0
IsLineOpen Leading = ⊥
IsLineOpen LeadingReturn = ⊥
IsLineOpen InLine = Unit {0}
IsLineOpen LineStart = Unit {0}
IsLineOpen StartReturn = Unit {0}

abbrev pub IsOpen : BodyPlace → Type 0
IsOpen UntilClose = ⊥
IsOpen (ContentLeft n) = ⊥
IsOpen (ChunkData n) = 0 < n
IsOpen (ChunkSize digits size) = digits ≤ 16
IsOpen (ChunkSpace size n) = n + 2 ≤ 65536
IsOpen (ChunkExtension size n) = n + 2 ≤ 65536
IsOpen (ChunkLineFeed size) = Unit {0}
IsOpen DataReturn = Unit {0}
IsOpen DataLineFeed = Unit {0}
IsOpen (Trailer line n) = IsLineOpen line × (n + least_left line ≤ 65536)
IsOpen Whole = ⊥
IsOpen (Refused e) = ⊥

-- a byte leads to such a place, or the body ends, or the byte can't stand there
abbrev pub Leads : BodyPlace → Type 0
Leads place = IsOpen place ⊎ ((place ≡ Whole) ⊎ (place ≡ Refused BadChunk))

leads_if : (t : Bool) (x y : BodyPlace) → (t ≡ true → Leads x) → (t ≡ false → Leads y)
    → Leads (if t then x else y)
leads_if true x y p q = p refl
leads_if false x y p q = q refl

leads_refused : Leads (Refused BadChunk)
leads_refused = inr (inr refl)

within_leads : (n : ℕ) (place : BodyPlace) → (n + 2 ≤ 65536 → IsOpen place) → Leads (within_line n place)
within_leads n place p =
    leads_if (nat_le (n + 2) 65536) place (Refused BadChunk) (λ e. inl (p (grind (arith, nat_tests, e))))
    (λ e. leads_refused)

size_leads : (size n b : ℕ) → Leads (after_size size n b)
size_leads size n b =
    leads_if ((b == 32) || (b == 9)) (within_line n (ChunkSpace size n)) (if b == 59 then within_line n
    (ChunkExtension size n) else (if b == 13 then ChunkLineFeed size else Refused BadChunk))
    (λ e. within_leads n (ChunkSpace size n) (λ f. f))
    (λ e. leads_if (b == 59) (within_line n (ChunkExtension size n))
    (if b == 13 then ChunkLineFeed size else Refused BadChunk) (λ f. within_leads n (ChunkExtension size n) (λ g. g))
    (λ f. leads_if (b == 13) (ChunkLineFeed size) (Refused BadChunk) (λ g. inl tt) (λ g. leads_refused)))

extension_leads : (size n b : ℕ) → Leads (after_extension size n b)
extension_leads size n b =
    leads_if (b == 13) (ChunkLineFeed size) (if b == 10 then Refused BadChunk else within_line n
    (ChunkExtension size n)) (λ e. inl tt)
    (λ e. leads_if (b == 10) (Refused BadChunk) (within_line n (ChunkExtension size n)) (λ f. leads_refused)
    (λ f. within_leads n (ChunkExtension size n) (λ g. g)))

digit_leads : (digits size b : ℕ) → Leads (after_digit digits size b)
digit_leads digits size b =
    leads_if (nat_lt digits 16 && is_ascii_hexdigit b) (ChunkSize (digits + 1) (size * 16 + digit_value b))
    (if digits == 0 then Refused BadChunk else after_size size (digits + 1) b)
    (λ e. let few : digits < 16 = grind (
      arith,
      nat_tests,
      (and_parts (nat_lt digits 16) (is_ascii_hexdigit b) e).0,
    ) in inl (omega (arith, few)))
    (λ e. leads_if (digits == 0) (Refused BadChunk) (after_size size (digits + 1) b) (λ f. leads_refused)
    (λ f. size_leads size (digits + 1) b))

byte_leads : (t : Bool) (next : BodyPlace) → Leads next → Leads (if t then next else Refused BadChunk)
byte_leads t next p = leads_if t next (Refused BadChunk) (λ e. p) (λ e. leads_refused)

begun_leads : (size : ℕ) → Leads (data_begun size)
begun_leads size =
    leads_if (size == 0) (Trailer LineStart 0) (ChunkData size) (λ e. inl (tt, omega arith))
    (λ e. inl (grind (arith, nat_tests, e)))

left_leads : (n : ℕ) → Leads (data_left n)
left_leads n =
    leads_if (n == 0) DataReturn (ChunkData n) (λ e. inl tt) (λ e. inl (grind (arith, nat_tests, e)))

trailer_leads : (n : ℕ) (line : LinePlace) → IsLineOpen line → Leads (trailer_place n (Some line))
trailer_leads n line is =
    leads_if (nat_le (n + least_left line) 65536) (Trailer line n) (Refused BadChunk)
    (λ e. inl (is, grind (arith, nat_tests, e))) (λ e. leads_refused)

line_leads : (t : Bool) (x y : LinePlace) (n : ℕ) → IsLineOpen x → IsLineOpen y
    → Leads (trailer_place n (Some (if t then x else y)))
line_leads true x y n p q = trailer_leads n x p
line_leads false x y n p q = trailer_leads n y q

end_leads : (t : Bool) (x : LinePlace) (n : ℕ) → IsLineOpen x → Leads (trailer_place n (if t then None else Some x))
end_leads true x n p = inr (inl refl)
end_leads false x n p = trailer_leads n x p

start_leads : (t u : Bool) (n : ℕ)
    → Leads (trailer_place n (if t then None else Some (if u then StartReturn else InLine)))
start_leads true u n = inr (inl refl)
start_leads false u n = line_leads u StartReturn InLine n tt tt

pub leads : (place : BodyPlace) (b : ℕ) → IsOpen place → Leads (place_after place b)
leads UntilClose b o = absurd o
leads (ContentLeft n) b o = absurd o
leads (ChunkData n) b o = left_leads (n - 1)
leads (ChunkSize digits size) b o = digit_leads digits size b
leads (ChunkSpace size n) b o = size_leads size (n + 1) b
leads (ChunkExtension size n) b o = extension_leads size (n + 1) b
leads (ChunkLineFeed size) b o = byte_leads (b == 10) (data_begun size) (begun_leads size)
leads DataReturn b o = byte_leads (b == 13) DataLineFeed (inl tt)
leads DataLineFeed b o = byte_leads (b == 10) (ChunkSize 0 0) (inl (omega arith))
leads (Trailer Leading n) b o = absurd o.0
leads (Trailer LeadingReturn n) b o = absurd o.0
leads (Trailer InLine n) b o = line_leads (b == 10) LineStart InLine (n + 1) tt tt
leads (Trailer LineStart n) b o = start_leads (b == 10) (b == 13) (n + 1)
leads (Trailer StartReturn n) b o = end_leads (b == 10) InLine (n + 1) tt
leads Whole b o = absurd o
leads (Refused e) b o = absurd o

-- the last byte of these leads to the end of a body, or where it can't stand
pub record IsStop (place last : BodyPlace) (bytes : Bytes) : Type 0 where
  pub front : Bytes
  pub byte : ℕ
  pub back : Bytes
  pub cut : bytes ≡ front ++ byte ∷ back
  pub at_front : IsOpen (run place front)
  pub stops : place_after (run place front) byte ≡ last

-- places without a way on
abbrev pub IsShut : BodyPlace → Type 0
IsShut UntilClose = ⊥
IsShut (ContentLeft n) = ⊥
IsShut (ChunkData n) = ⊥
IsShut (ChunkSize digits size) = ⊥
IsShut (ChunkSpace size n) = ⊥
IsShut (ChunkExtension size n) = ⊥
IsShut (ChunkLineFeed size) = ⊥
IsShut DataReturn = ⊥
IsShut DataLineFeed = ⊥
IsShut (Trailer line n) = ⊥
IsShut Whole = Unit {0}
IsShut (Refused e) = Unit {0}

pub not_both : (place : BodyPlace) → IsOpen place → IsShut place → ⊥
not_both UntilClose o s = s
not_both (ContentLeft n) o s = s
not_both (ChunkData n) o s = s
not_both (ChunkSize digits size) o s = s
not_both (ChunkSpace size n) o s = s
not_both (ChunkExtension size n) o s = s
not_both (ChunkLineFeed size) o s = s
not_both DataReturn o s = s
not_both DataLineFeed o s = s
not_both (Trailer line n) o s = s
not_both Whole o s = o
not_both (Refused e) o s = o

stop_next : (place last : BodyPlace) (b : ℕ) (bytes : Bytes) → IsStop (place_after place b) last bytes
    → IsStop place last (b ∷ bytes)
stop_next place last b bytes s =
    record {
      front = b ∷ s.front;
      byte = s.byte;
      back = s.back;
      cut = ap (λ more. b ∷ more) s.cut;
      at_front = s.at_front;
      stops = s.stops;
    }

stop_here : (place last : BodyPlace) (b : ℕ) (bytes : Bytes) → IsOpen place → place_after place b ≡ last
    → IsStop place last (b ∷ bytes)
stop_here place last b bytes o e =
    record { front = []; byte = b; back = bytes; cut = refl; at_front = o; stops = e }

-- where a run ends at a place without a way on, one of its bytes led there
pub stop_of : (place last : BodyPlace) (bytes : Bytes) → IsOpen place → run place bytes ≡ last → IsShut last
    → IsStop place last bytes
stop_of place last [] o e s = absurd (not_both place o (subst IsShut (sym e) s))
stop_of place last (b ∷ bytes) o e s =
    by_way (leads place b o) (λ open_next. stop_of (place_after place b) last bytes open_next e s)
  where
    by_way : Leads (place_after place b)
        → (IsOpen (place_after place b) → IsStop (place_after place b) last bytes) → IsStop place last (b ∷ bytes)
    by_way (inl open_next) goes_on = stop_next place last b bytes (goes_on open_next)
    by_way (inr (inl whole)) goes_on =
        stop_here place last b bytes o (whole ∙ sym (run_whole bytes) ∙ ap (λ p. run p bytes) (sym whole) ∙ e)
    by_way (inr (inr refused)) goes_on =
        stop_here place last b bytes o (refused ∙ sym (run_refused BadChunk bytes) ∙ ap (λ p. run p bytes) (sym refused)
        ∙ e)

-- a run from an open place leads as one byte does
pub run_leads : (place : BodyPlace) (bytes : Bytes) → IsOpen place → Leads (run place bytes)
run_leads place [] o = inl o
run_leads place (b ∷ bytes) o =
    by_way (leads place b o) (λ open_next. run_leads (place_after place b) bytes open_next)
  where
    by_way : Leads (place_after place b) → (IsOpen (place_after place b) → Leads (run (place_after place b) bytes))
        → Leads (run (place_after place b) bytes)
    by_way (inl open_next) goes_on = goes_on open_next
    by_way (inr (inl whole)) goes_on = inr (inl (ap (λ p. run p bytes) whole ∙ run_whole bytes))
    by_way (inr (inr refused)) goes_on = inr (inr (ap (λ p. run p bytes) refused ∙ run_refused BadChunk bytes))
