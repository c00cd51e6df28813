-- Runs of bytes in a body.
use Rattle.std.proofs.Common.{◌≡◌, ℕ, ◌-◌, ◌<◌, ◌≤◌, Bool, true, false, List, [], ◌∷◌, ◌++◌, length, take, drop, refl, sym, ap, ◌∙◌, arith, append_assoc, subst, length-take, length-append, take-append-drop, ◌==◌, if◌then◌else◌, ◌&&◌, nat_lt}
use Rattle.std.proofs.Math.Nat.{sub-zero}
use Rattle.std.proofs.lemmas.Bool.{lt-ltb, false≢true}
use Rattle.std.proofs.lemmas.Bool.Decides.{nat_tests}
use Rattle.http_wire.specs.declared.body_states.BodyState.{BodyState}
use Rattle.http_wire.specs.declared.body_places.BodyPlace.{BodyPlace}
use Rattle.http_wire.specs.declared.body_places.BodyPlace.TheVariants.{UntilClose, ContentLeft, ChunkData, ChunkSize, ChunkSpace, ChunkExtension, ChunkLineFeed, DataReturn, DataLineFeed, Trailer, Whole, Refused}
use Rattle.http_wire.specs.declared.replies.ReplyErr.{ReplyErr}
use Rattle.http_wire.specs.declared.replies.ReplyErr.TheVariants.{BodyTooLong}
use Rattle.http_wire.specs.BodyPlaces.{content_left, data_left, after_content, is_content, HoldsRun, InRange, is_final}
use Rattle.http_wire.specs.BodyBytes.{after_byte, content_byte, after_bytes, content_of}

abbrev pub at : BodyPlace → ℕ → BodyState
at place room = record { place = place; room = room }

-- nothing counts behind the end
pub over_after : (room : ℕ) (xs : List ℕ) → after_bytes (at Whole room) xs ≡ at Whole room
over_after room [] = refl
over_after room (x ∷ xs) = over_after room xs

pub over_of : (room : ℕ) (xs : List ℕ) → content_of (at Whole room) xs ≡ []
over_of room [] = refl
over_of room (x ∷ xs) = over_of room xs

pub refused_after : (e : ReplyErr) (room : ℕ) (xs : List ℕ) → after_bytes (at (Refused e) room) xs ≡ at (Refused e) room
refused_after e room [] = refl
refused_after e room (x ∷ xs) = refused_after e room xs

pub refused_of : (e : ReplyErr) (room : ℕ) (xs : List ℕ) → content_of (at (Refused e) room) xs ≡ []
refused_of e room [] = refl
refused_of e room (x ∷ xs) = refused_of e room xs

-- pieces, one after another
pub after-append : (body : BodyState) (xs ys : List ℕ) → after_bytes body (xs
    ++ ys) ≡ after_bytes (after_bytes body xs) ys
after-append body [] ys = refl
after-append body (x ∷ xs) ys = after-append (after_byte body x) xs ys

pub of-append : (body : BodyState) (xs ys : List ℕ) → content_of body (xs ++ ys) ≡ content_of body xs
    ++ content_of (after_bytes body xs) ys
of-append body [] ys = refl
of-append body (x ∷ xs) ys =
    ap (λ rest. content_byte body x ++ rest) (of-append (after_byte body x) xs ys)
    ∙ sym (append_assoc (content_byte body x) (content_of (after_byte body x) xs) (content_of (after_bytes
    (after_byte body x) xs) ys))

-- at most as much content as bytes
few_byte : (t : Bool) (b : ℕ) → length (if t then b ∷ [] else []) ≤ 1
few_byte true b = omega arith
few_byte false b = omega arith

pub few_of : (body : BodyState) (xs : List ℕ) → length (content_of body xs) ≤ length xs
few_of body [] = omega arith
few_of body (x ∷ xs) =
    omega (
      arith,
      few_byte (is_content body.place && nat_lt 0 body.room) x,
      few_of
          (after_byte body x) xs,
      length-append (content_byte body x) (content_of (after_byte body x) xs),
    )

-- a byte of content
positive : (n : ℕ) → 0 < n → (n == 0) ≡ false
positive n p = grind (arith, nat_tests, p)

pub file_step : (place : BodyPlace) (room x : ℕ) → is_content place ≡ true → 0 < room
    → after_byte (at place room) x ≡ at (after_content place 1) (room - 1)
file_step place room x f p = rw (f, positive room p) refl

pub file_byte : (place : BodyPlace) (room x : ℕ) → is_content place ≡ true → 0 < room
    → content_byte (at place room) x ≡ x ∷ []
file_byte place room x f p = rw (f, lt-ltb 0 room p) refl

-- places in a run of n bytes of content
pub record IsRun (f : ℕ → BodyPlace) : Type 0 where
  pub in_file : (n : ℕ) → 0 < n → is_content (f n) ≡ true
  pub next : (n : ℕ) → 0 < n → after_content (f n) 1 ≡ f (n - 1)

pub by_after : (f : ℕ → BodyPlace) → IsRun f → (n room : ℕ) (xs : List ℕ) → length xs ≤ n → length xs ≤ room
    → after_bytes (at (f n) room) xs ≡ at (f (n - length xs)) (room - length xs)
by_after f r n room [] below range = rw (sub-zero n, sub-zero room) refl
by_after f r n room (x ∷ xs) below range =
    let p : 0 < n = omega (arith, below) in
    let q : 0 < room = omega (arith, range) in
    let e : n - 1 - length xs ≡ n - length (x ∷ xs) = omega arith in
    let d : room - 1 - length xs ≡ room - length (x ∷ xs) = omega arith in
    ap (λ b. after_bytes b xs) (file_step (f n) room x (r.in_file n p) q ∙ ap (λ s. at s (room - 1)) (r.next n p))
    ∙ by_after f r (n - 1) (room - 1) xs (omega (arith, below)) (omega (arith, range))
    ∙ ap (λ k. at (f k) (room - 1 - length xs)) e ∙ ap (λ k. at (f (n - length (x ∷ xs))) k) d

pub by_of : (f : ℕ → BodyPlace) → IsRun f → (n room : ℕ) (xs : List ℕ) → length xs ≤ n → length xs ≤ room
    → content_of (at (f n) room) xs ≡ xs
by_of f r n room [] below range = refl
by_of f r n room (x ∷ xs) below range =
    let p : 0 < n = omega (arith, below) in
    let q : 0 < room = omega (arith, range) in
    ap (λ front. front ++ content_of (after_byte (at (f n) room) x) xs) (file_byte (f n) room x (r.in_file n p) q)
    ∙ ap (λ b. x ∷ content_of b xs) (file_step (f n) room x (r.in_file n p) q ∙ ap (λ s. at s (room - 1)) (r.next n p))
    ∙ ap (λ rest. x ∷ rest) (by_of f r (n - 1) (room - 1) xs (omega (arith, below)) (omega (arith, range)))

sized_is : (n : ℕ) → 0 < n → content_left n ≡ ContentLeft n
sized_is n p = rw (positive n p) refl

chunk_is : (n : ℕ) → 0 < n → data_left n ≡ ChunkData n
chunk_is n p = rw (positive n p) refl

rest_run : IsRun (λ n. UntilClose)
rest_run = record { in_file = λ n p. refl; next = λ n p. refl }

sized_run : IsRun content_left
sized_run = record { in_file = λ n p. rw (sized_is n p) refl; next = λ n p. rw (sized_is n p) refl }

chunk_run : IsRun data_left
chunk_run = record { in_file = λ n p. rw (chunk_is n p) refl; next = λ n p. rw (chunk_is n p) refl }

pub run_after : (place : BodyPlace) (room : ℕ) (xs : List ℕ) → InRange place → HoldsRun place (length xs)
    → length xs ≤ room → after_bytes (at place room) xs ≡ at (after_content place (length xs)) (room - length xs)
run_after UntilClose room xs f r range = by_after (λ n. UntilClose) rest_run (length xs) room xs (omega arith) range
run_after (ContentLeft n) room xs f r range = ap (λ s. after_bytes (at s room) xs) (sym (sized_is n f))
    ∙ by_after content_left sized_run n room xs r range
run_after (ChunkData n) room xs f r range = ap (λ s. after_bytes (at s room) xs) (sym (chunk_is n f))
    ∙ by_after data_left chunk_run n room xs r range
run_after (ChunkSize digits size) room xs f r range = absurd r
run_after (ChunkSpace size k) room xs f r range = absurd r
run_after (ChunkExtension size k) room xs f r range = absurd r
run_after (ChunkLineFeed size) room xs f r range = absurd r
run_after DataReturn room xs f r range = absurd r
run_after DataLineFeed room xs f r range = absurd r
run_after (Trailer line k) room xs f r range = absurd r
run_after Whole room xs f r range = absurd r
run_after (Refused e) room xs f r range = absurd r

pub run_of : (place : BodyPlace) (room : ℕ) (xs : List ℕ) → InRange place → HoldsRun place (length xs)
    → length xs ≤ room → content_of (at place room) xs ≡ xs
run_of UntilClose room xs f r range = by_of (λ n. UntilClose) rest_run (length xs) room xs (omega arith) range
run_of (ContentLeft n) room xs f r range = ap (λ s. content_of (at s room) xs) (sym (sized_is n f))
    ∙ by_of content_left sized_run n room xs r range
run_of (ChunkData n) room xs f r range = ap (λ s. content_of (at s room) xs) (sym (chunk_is n f))
    ∙ by_of data_left chunk_run n room xs r range
run_of (ChunkSize digits size) room xs f r range = absurd r
run_of (ChunkSpace size k) room xs f r range = absurd r
run_of (ChunkExtension size k) room xs f r range = absurd r
run_of (ChunkLineFeed size) room xs f r range = absurd r
run_of DataReturn room xs f r range = absurd r
run_of DataLineFeed room xs f r range = absurd r
run_of (Trailer line k) room xs f r range = absurd r
run_of Whole room xs f r range = absurd r
run_of (Refused e) room xs f r range = absurd r

-- a run and then the rest
pub run_then : (place : BodyPlace) (room : ℕ) (xs ys : List ℕ) → InRange place → HoldsRun place (length xs)
    → length xs ≤ room → after_bytes (at place room) (xs
    ++ ys) ≡ after_bytes (at (after_content place (length xs)) (room - length xs)) ys
run_then place room xs ys f r range = after-append (at place room) xs ys
    ∙ ap (λ b. after_bytes b ys) (run_after place room xs f r range)

pub run_then_of : (place : BodyPlace) (room : ℕ) (xs ys : List ℕ) → InRange place → HoldsRun place (length xs)
    → length xs ≤ room → content_of (at place room) (xs ++ ys) ≡ xs
    ++ content_of (at (after_content place (length xs)) (room - length xs)) ys
run_then_of place room xs ys f r range =
    of-append (at place room) xs ys
    ∙ ap (λ front. front ++ content_of (after_bytes (at place room) xs) ys) (run_of place room xs f r range)
    ∙ ap (λ b. xs ++ content_of b ys) (run_after place room xs f r range)

-- no room is left for a byte of content
pub full_after : (place : BodyPlace) (xs : List ℕ) → is_content place ≡ true → 0 < length xs
    → after_bytes (at place 0) xs ≡ at (Refused BodyTooLong) 0
full_after place [] f p = absurd (omega (arith, p))
full_after place (x ∷ xs) f p =
    let step : after_byte (at place 0) x ≡ at (Refused BodyTooLong) 0 = rw f refl in
    ap (λ b. after_bytes b xs) step ∙ refused_after BodyTooLong 0 xs

pub full_of : (place : BodyPlace) (xs : List ℕ) → is_content place ≡ true → 0 < length xs
    → content_of (at place 0) xs ≡ []
full_of place [] f p = absurd (omega (arith, p))
full_of place (x ∷ xs) f p =
    let step : after_byte (at place 0) x ≡ at (Refused BodyTooLong) 0 = rw f refl in
    let none : content_byte (at place 0) x ≡ [] = rw f refl in
    ap (λ front. front ++ content_of (after_byte (at place 0) x) xs) none
    ∙ ap (λ b. content_of b xs) step ∙ refused_of BodyTooLong 0 xs

-- nothing counts where all is at_end
pub settled_after : (body : BodyState) (xs : List ℕ) → is_final body.place ≡ true → after_bytes body xs ≡ body
settled_after body xs s = by_stand body.place body.room s
  where
    by_stand : (place : BodyPlace) (room : ℕ) → is_final place ≡ true → after_bytes (at place room) xs ≡ at place room
    by_stand Whole room s = over_after room xs
    by_stand (Refused e) room s = refused_after e room xs
    by_stand UntilClose room s = absurd (false≢true s)
    by_stand (ContentLeft n) room s = absurd (false≢true s)
    by_stand (ChunkData n) room s = absurd (false≢true s)
    by_stand (ChunkSize digits size) room s = absurd (false≢true s)
    by_stand (ChunkSpace size k) room s = absurd (false≢true s)
    by_stand (ChunkExtension size k) room s = absurd (false≢true s)
    by_stand (ChunkLineFeed size) room s = absurd (false≢true s)
    by_stand DataReturn room s = absurd (false≢true s)
    by_stand DataLineFeed room s = absurd (false≢true s)
    by_stand (Trailer line k) room s = absurd (false≢true s)

pub settled_of : (body : BodyState) (xs : List ℕ) → is_final body.place ≡ true → content_of body xs ≡ []
settled_of body xs s = by_stand body.place body.room s
  where
    by_stand : (place : BodyPlace) (room : ℕ) → is_final place ≡ true → content_of (at place room) xs ≡ []
    by_stand Whole room s = over_of room xs
    by_stand (Refused e) room s = refused_of e room xs
    by_stand UntilClose room s = absurd (false≢true s)
    by_stand (ContentLeft n) room s = absurd (false≢true s)
    by_stand (ChunkData n) room s = absurd (false≢true s)
    by_stand (ChunkSize digits size) room s = absurd (false≢true s)
    by_stand (ChunkSpace size k) room s = absurd (false≢true s)
    by_stand (ChunkExtension size k) room s = absurd (false≢true s)
    by_stand (ChunkLineFeed size) room s = absurd (false≢true s)
    by_stand DataReturn room s = absurd (false≢true s)
    by_stand DataLineFeed room s = absurd (false≢true s)
    by_stand (Trailer line k) room s = absurd (false≢true s)

runs_less : (place : BodyPlace) (m n : ℕ) → HoldsRun place m → n ≤ m → HoldsRun place n
runs_less UntilClose m n r l = tt
runs_less (ContentLeft left) m n r l = omega (arith, r, l)
runs_less (ChunkData left) m n r l = omega (arith, r, l)
runs_less (ChunkSize digits size) m n r l = r
runs_less (ChunkSpace size k) m n r l = r
runs_less (ChunkExtension size k) m n r l = r
runs_less (ChunkLineFeed size) m n r l = r
runs_less DataReturn m n r l = r
runs_less DataLineFeed m n r l = r
runs_less (Trailer line k) m n r l = r
runs_less Whole m n r l = r
runs_less (Refused e) m n r l = r

-- n bytes of content are taken at once
pub taken_after : (body : BodyState) (m n : ℕ) (xs : List ℕ) → InRange body.place → HoldsRun body.place m → n ≤ m
    → n ≤ body.room → n ≤ length xs
    → after_bytes (at (after_content body.place n) (body.room - n)) (drop n xs) ≡ after_bytes body xs
taken_after body m n xs f r l range within =
    let long : length (take n xs) ≡ n = omega (arith, length-take n xs) in
    let run : HoldsRun body.place (length (take n xs)) = subst (HoldsRun body.place) (sym long)
    (runs_less body.place m n r l) in
    let fit : length (take n xs) ≤ body.room = omega (arith, long, range) in
    ap (λ k. after_bytes (at (after_content body.place k) (body.room - k)) (drop n xs)) (sym long)
    ∙ sym (run_then body.place body.room (take n xs) (drop n xs) f run fit)
    ∙ ap (λ ys. after_bytes body ys) (take-append-drop n xs)

pub taken_of : (body : BodyState) (m n : ℕ) (xs : List ℕ) → InRange body.place → HoldsRun body.place m → n ≤ m
    → n ≤ body.room → n ≤ length xs
    → take n xs ++ content_of (at (after_content body.place n) (body.room - n)) (drop n xs) ≡ content_of body xs
taken_of body m n xs f r l range within =
    let long : length (take n xs) ≡ n = omega (arith, length-take n xs) in
    let run : HoldsRun body.place (length (take n xs)) = subst (HoldsRun body.place) (sym long)
    (runs_less body.place m n r l) in
    let fit : length (take n xs) ≤ body.room = omega (arith, long, range) in
    ap (λ k. take n xs ++ content_of (at (after_content body.place k) (body.room - k)) (drop n xs)) (sym long)
    ∙ sym (run_then_of body.place body.room (take n xs) (drop n xs) f run fit)
    ∙ ap (λ ys. content_of body ys) (take-append-drop n xs)

pub no_room_after : (body : BodyState) (xs : List ℕ) → body.room ≡ 0 → is_content body.place ≡ true → 0 < length xs
    → after_bytes body xs ≡ at (Refused BodyTooLong) 0
no_room_after body xs e f p = ap (λ room. after_bytes (at body.place room) xs) e ∙ full_after body.place xs f p

pub no_room_of : (body : BodyState) (xs : List ℕ) → body.room ≡ 0 → is_content body.place ≡ true → 0 < length xs
    → content_of body xs ≡ []
no_room_of body xs e f p = ap (λ room. content_of (at body.place room) xs) e ∙ full_of body.place xs f p
