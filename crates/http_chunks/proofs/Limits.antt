-- The limit on the content of a body of chunks.
use Rattle.std.proofs.Common.{◌≡◌, ◌⊎◌, inl, inr, ℕ, ◌-◌, ◌<◌, ◌≤◌, Bool, true, false, ◌&&◌, ◌==◌, nat_lt, [], ◌∷◌, ◌++◌, length, refl, sym, ap, ◌∙◌, subst, arith, if◌then◌else◌}
use Rattle.std.proofs.lemmas.Bool.Decides.{nat_tests}
use Rattle.http_wire.specs.declared.body_places.BodyPlace.{BodyPlace}
use Rattle.http_wire.specs.declared.body_places.BodyPlace.TheVariants.{UntilClose, ContentLeft, ChunkData, ChunkSize, ChunkSpace, ChunkExtension, ChunkLineFeed, DataReturn, DataLineFeed, Trailer, Whole, Refused}
use Rattle.http_wire.specs.declared.body_states.BodyState.{BodyState}
use Rattle.http_wire.specs.declared.replies.ReplyErr.{ReplyErr}
use Rattle.http_wire.specs.declared.replies.ReplyErr.TheVariants.{BadChunk, BodyTooLong}
use Rattle.http_wire.specs.BodyPlaces.{data_left, is_content, after_content, after_framing}
use Rattle.http_wire.specs.BodyBytes.{after_bytes, content_of}
use Rattle.http_wire.specs.Fields.{Bytes}
use Rattle.http_chunks.proofs.Places.{place_after, byte_at, run, gives, IsOpen, Leads, leads}

-- either the limit leaves room for all the content, or it is passed
abbrev pub Limited : BodyPlace → ℕ → Bytes → Type 0
Limited place room bytes =
    (((after_bytes (record { place = place; room = room }) bytes).place ≡ run place bytes)
    × (content_of (record { place = place; room = room }) bytes ≡ gives place bytes)
    × (length (gives place bytes) ≤ room))
    ⊎ (((after_bytes (record { place = place; room = room }) bytes).place ≡ Refused BodyTooLong)
    × (room < length (gives place bytes)))

abbrev long_body : BodyState
long_body = record { place = Refused BodyTooLong; room = 0 }

long_stays : (bytes : Bytes) → (after_bytes long_body bytes).place ≡ Refused BodyTooLong
long_stays [] = refl
long_stays (b ∷ bytes) = long_stays bytes

-- one byte, by whether it is content and whether there is room
abbrev LimitedBy : Bool → Bool → Bool → BodyPlace → ℕ → ℕ → Bytes → Type 0
LimitedBy content none some place room b bytes =
    (((after_bytes (if content then (if none then long_body else record {
      place = after_content place 1;
      room = room - 1;
    }) else record { place = after_framing place b; room = room }) bytes).place
    ≡ run (if content then after_content place 1 else after_framing place b) bytes)
    × ((if content && some then b ∷ [] else []) ++ content_of (if content then (if none then long_body else record {
      place = after_content place 1;
      room = room - 1;
    }) else record { place = after_framing place b; room = room }) bytes
    ≡ (if content then b ∷ [] else []) ++ gives (if content then after_content place 1 else after_framing place b) bytes)
    × (length ((if content then b ∷ [] else []) ++ gives (if content then after_content place 1 else after_framing place b)
    bytes) ≤ room))
    ⊎ (((after_bytes (if content then (if none then long_body else record {
      place = after_content place 1;
      room = room - 1;
    }) else record { place = after_framing place b; room = room }) bytes).place ≡ Refused BodyTooLong)
    × (room < length ((if content then b ∷ [] else []) ++ gives (if content then after_content place 1 else
    after_framing place b) bytes)))

pub limited : (bytes : Bytes) (place : BodyPlace) (room : ℕ) → Limited place room bytes
limited [] place room = inl (refl, refl, omega arith)
limited (b ∷ bytes) place room =
    by_tests (is_content place) (room == 0) (nat_lt 0 room) (limited bytes (after_content place 1) (room - 1))
    (limited bytes (after_framing place b) room) refl refl
  where
    with_content : Limited (after_content place 1) (room - 1) bytes → 0 < room
        → LimitedBy true false true place room b bytes
    with_content (inl (at, given, few)) some = inl (at, ap (λ k. b ∷ k) given, omega (arith, few, some))
    with_content (inr (at, long)) some = inr (at, omega (arith, long, some))

    by_tests : (content none some : Bool) → Limited (after_content place 1) (room - 1) bytes
        → Limited (after_framing place b) room bytes → (room == 0) ≡ none → nat_lt 0 room ≡ some
        → LimitedBy content none some place room b bytes
    by_tests true true true more other e f = absurd (grind (arith, nat_tests, e, f))
    by_tests true true false more other e f =
        let empty : room ≡ 0 = grind (arith, nat_tests, e) in
        inr (long_stays bytes, omega (arith, empty))
    by_tests true false true more other e f =
        let some : 0 < room = grind (arith, nat_tests, f) in
        with_content more some
    by_tests true false false more other e f = absurd (grind (arith, nat_tests, e, f))
    by_tests false none some more other e f = other

-- where the limit is passed, the content before that byte and the byte are more than the limit, and more may follow
pub record IsPast (place : BodyPlace) (room : ℕ) (bytes : Bytes) : Type 0 where
  pub front : Bytes
  pub back : Bytes
  pub cut : bytes ≡ front ++ back
  pub at_front : IsOpen (run place front)
  pub longer : room < length (gives place front)

-- the data of a chunk goes on
left_open : (n : ℕ) → IsOpen (data_left n)
left_open n = by_test (n == 0) refl
  where
    by_test : (t : Bool) → (n == 0) ≡ t → IsOpen (if t then DataReturn else ChunkData n)
    by_test true e = tt
    by_test false e = grind (arith, nat_tests, e)

content_open : (place : BodyPlace) → IsOpen place → is_content place ≡ true → IsOpen (after_content place 1)
content_open UntilClose o e = absurd o
content_open (ContentLeft n) o e = absurd o
content_open (ChunkData n) o e = left_open (n - 1)
content_open (ChunkSize digits size) o e = o
content_open (ChunkSpace size n) o e = o
content_open (ChunkExtension size n) o e = o
content_open (ChunkLineFeed size) o e = o
content_open DataReturn o e = o
content_open DataLineFeed o e = o
content_open (Trailer line n) o e = o
content_open Whole o e = o
content_open (Refused e) o f = o

whole_stays : (bytes : Bytes) (room : ℕ) → (after_bytes (record { place = Whole; room = room }) bytes).place ≡ Whole
whole_stays [] room = refl
whole_stays (b ∷ bytes) room = whole_stays bytes room

refused_stays : (e : ReplyErr) (bytes : Bytes) (room : ℕ)
    → (after_bytes (record { place = Refused e; room = room }) bytes).place ≡ Refused e
refused_stays e [] room = refl
refused_stays e (b ∷ bytes) room = refused_stays e bytes room

-- one byte, by whether it is content and whether there is room
abbrev PastBy : Bool → Bool → BodyPlace → ℕ → ℕ → Bytes → Type 0
PastBy content none place room b bytes =
    (after_bytes (if content then (if none then long_body else record {
      place = after_content place 1;
      room = room - 1;
    }) else record { place = after_framing place b; room = room }) bytes).place ≡ Refused BodyTooLong

-- the byte in front of the others
past_next : (place : BodyPlace) (room more : ℕ) (b : ℕ) (bytes : Bytes) (p : IsPast (place_after place b) more bytes)
    → room < length (byte_at place b ++ gives (place_after place b) p.front) → IsPast place room (b ∷ bytes)
past_next place room more b bytes p longer =
    record {
      front = b ∷ p.front;
      back = p.back;
      cut = ap (λ k. b ∷ k) p.cut;
      at_front = p.at_front;
      longer = longer;
    }

pub past_of : (bytes : Bytes) (place : BodyPlace) (room : ℕ) → IsOpen place
    → (after_bytes (record { place = place; room = room }) bytes).place ≡ Refused BodyTooLong → IsPast place room bytes
past_of [] place room o e = absurd (subst IsOpen e o)
past_of (b ∷ bytes) place room o e =
    by_tests (is_content place) (room == 0) refl refl
    (λ p q. past_of bytes (after_content place 1) (room - 1) p q) (λ p q. past_of bytes (place_after place b) room p q) e
  where
    by_way : place_after place b ≡ after_framing place b → byte_at place b ≡ [] → Leads (place_after place b)
        → (IsOpen (place_after place b)
        → (after_bytes (record { place = place_after place b; room = room }) bytes).place ≡ Refused BodyTooLong
        → IsPast (place_after place b) room bytes)
        → (after_bytes (record { place = place_after place b; room = room }) bytes).place ≡ Refused BodyTooLong
        → IsPast place room (b ∷ bytes)
    by_way next none (inl open_next) framed e =
        let p : IsPast (place_after place b) room bytes = framed open_next e in
        past_next place room room b bytes p
        (omega (arith, p.longer, ap (λ k. length (k ++ gives (place_after place b) p.front)) none))
    by_way next none (inr (inl whole)) framed e =
        let stays : Whole ≡ Refused BodyTooLong = sym (whole_stays bytes room)
        ∙ ap (λ q. (after_bytes (record { place = q; room = room }) bytes).place) (sym whole) ∙ e in
        cc
    by_way next none (inr (inr refused)) framed e =
        let stays : Refused BadChunk ≡ Refused BodyTooLong = sym (refused_stays BadChunk bytes room)
        ∙ ap (λ q. (after_bytes (record { place = q; room = room }) bytes).place) (sym refused) ∙ e in
        cc

    by_tests : (content none : Bool) → is_content place ≡ content → (room == 0) ≡ none
        → (IsOpen (after_content place 1)
        → (after_bytes (record { place = after_content place 1; room = room - 1 }) bytes).place ≡ Refused BodyTooLong
        → IsPast (after_content place 1) (room - 1) bytes)
        → (IsOpen (place_after place b)
        → (after_bytes (record { place = place_after place b; room = room }) bytes).place ≡ Refused BodyTooLong
        → IsPast (place_after place b) room bytes)
        → PastBy content none place room b bytes → IsPast place room (b ∷ bytes)
    by_tests true true c n held framed e =
        let empty : room ≡ 0 = grind (arith, nat_tests, n) in
        let next : place_after place b ≡ after_content place 1 = ap
        (λ t. if t then after_content place 1 else after_framing place b) c in
        let one : byte_at place b ≡ b ∷ [] = ap (λ t. if t then b ∷ [] else []) c in
        record {
          front = b ∷ [];
          back = bytes;
          cut = refl;
          at_front = subst IsOpen (sym next) (content_open place o c);
          longer = omega (arith, empty, ap (λ k. length (k ++ gives (place_after place b) [])) one);
        }
    by_tests true false c n held framed e =
        let some : 0 < room = grind (arith, nat_tests, n) in
        let next : place_after place b ≡ after_content place 1 = ap
        (λ t. if t then after_content place 1 else after_framing place b) c in
        let one : byte_at place b ≡ b ∷ [] = ap (λ t. if t then b ∷ [] else []) c in
        let p : IsPast (place_after place b) (room - 1) bytes = subst (λ q. IsPast q (room - 1) bytes) (sym next)
        (held (content_open place o c) e) in
        past_next place room (room - 1) b bytes p
        (omega (arith, some, p.longer, ap (λ k. length (k ++ gives (place_after place b) p.front)) one))
    by_tests false none c n held framed e =
        let next : place_after place b ≡ after_framing place b = ap
        (λ t. if t then after_content place 1 else after_framing place b) c in
        let none_given : byte_at place b ≡ [] = ap (λ t. if t then b ∷ [] else []) c in
        by_way next none_given (leads place b o) framed
        (subst (λ q. (after_bytes (record { place = q; room = room }) bytes).place ≡ Refused BodyTooLong) (sym next) e)
