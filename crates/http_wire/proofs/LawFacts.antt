-- Laws of replies.
use Rattle.std.proofs.Common.{◌≡◌, ◌≢◌, ℕ, ◌+◌, ◌<◌, ◌≤◌, Bool, true, false, [], ◌∷◌, ◌++◌, length, length-append, Option, Some, None, IsSome, refl, sym, ap, ◌∙◌, subst, append-nil, arith, ◌==◌}
use Rattle.std.proofs.lemmas.Bool.{false≢true, lt-ltb}
use Rattle.std.proofs.lemmas.Bool.Decides.{nat_tests}
use Rattle.http_wire.specs.declared.line_places.LinePlace.TheVariants.{Leading}
use Rattle.http_wire.specs.declared.body_states.BodyState.{BodyState}
use Rattle.http_wire.specs.declared.body_places.BodyPlace.{BodyPlace}
use Rattle.http_wire.specs.declared.body_places.BodyPlace.TheVariants.{UntilClose, ContentLeft, ChunkData, ChunkSize, ChunkSpace, ChunkExtension, ChunkLineFeed, DataReturn, DataLineFeed, Trailer, Whole, Refused}
use Rattle.http_wire.specs.declared.replies.ReplyErr.TheVariants.{BadHead}
use Rattle.http_wire.specs.declared.reply_reader.ReplyReader.{ReplyReader}
use Rattle.http_wire.specs.declared.replies.Head.{Head}
use Rattle.http_wire.specs.BodyPlaces.{fed_at, closed_at, is_final, is_content}
use Rattle.http_wire.specs.BodyBytes.{after_byte, content_byte, after_bytes, content_of}
use Rattle.http_wire.specs.BodyStarts.{HeadData}
use Rattle.http_wire.specs.Fields.{Bytes}
use Rattle.http_wire.specs.Splits.{Split, in_head, no_head, behind_head, split_from, split_of}
use Rattle.http_wire.specs.Outcomes.{Outcome, outcome_by, body_start, IsSeen, IsOutcome, IsFinal, IsFinalAnswer, closed_by, GoesOnTo}
use Rattle.http_wire.specs.Readers.{IsShown, HasRead, shown_head}
use Rattle.http_wire.proofs.Runs.{after-append, of-append, settled_after, settled_of, refused_of}
use Rattle.http_wire.proofs.SplitFacts.{split-append, behind_by, none_by}
use Rattle.http_wire.proofs.ReaderFacts.{final_place}

-- by the split: what is seen stays seen, and what is said goes on
final_split : (limit : ℕ) (split : Split) (seen : Option HeadData) (rest : Bytes) → IsSeen split seen
    → IsFinal (outcome_by limit split seen)
    → IsSeen (split_from split rest) seen
    × (outcome_by limit split seen ≡ outcome_by limit (split_from split rest) seen)
final_split limit (in_head line front) seen rest s t = absurd t
final_split limit no_head seen rest s t =
    let e = none_by rest in
    (subst (λ k. IsSeen k seen) (sym e) s, ap (λ k. outcome_by limit k seen) (sym e))
final_split limit (behind_head front body) seen rest s t =
    let e = behind_by front body rest in
    let start = body_start limit seen in
    let at_end : is_final (after_bytes start body).place ≡ true = final_place (after_bytes start body).place t in
    let stays : after_bytes start (body ++ rest) ≡ after_bytes start body = after-append start body rest
    ∙ settled_after (after_bytes start body) rest at_end in
    let same : content_of start (body ++ rest) ≡ content_of start body =
    of-append start body rest ∙ ap (λ more. content_of start body
    ++ more) (settled_of (after_bytes start body) rest at_end) ∙ append-nil (content_of start body) in
    let equal : outcome_by limit (behind_head front (body
    ++ rest)) seen ≡ outcome_by limit (behind_head front body) seen =
    λ i. record { fed = fed_at (stays i).place; closed = closed_at (stays i).place; content = same i; seen = seen } in
    (subst (λ k. IsSeen k seen) (sym e) s, sym equal ∙ ap (λ k. outcome_by limit k seen) (sym e))

pub final_law : (limit : ℕ) (bytes rest : Bytes) (outcome : Outcome) → IsOutcome limit bytes outcome
    → IsFinal outcome → IsOutcome limit (bytes ++ rest) outcome
final_law limit bytes rest outcome h t =
    let e : split_of (bytes ++ rest) ≡ split_from (split_of bytes) rest = split-append
    (in_head Leading []) bytes rest in
    let on = final_split limit (split_of bytes) h.0 rest h.1 (subst IsFinal h.2 t) in
    (h.0, subst (λ k. IsSeen k h.0) (sym e) on.0, h.2 ∙ on.1 ∙ ap (λ k. outcome_by limit k h.0) (sym e))

-- once a head was seen
seen_split : (limit : ℕ) (split : Split) (seen : Option HeadData) (rest : Bytes) → IsSeen split seen
    → IsSome (outcome_by limit split seen).seen
    → IsSeen (split_from split rest) seen
    × ((outcome_by limit (split_from split rest) seen).seen ≡ (outcome_by limit split seen).seen)
    × (more : Bytes) × ((outcome_by limit (split_from split rest) seen).content ≡
    (outcome_by limit split seen).content ++ more)
seen_split limit (in_head line front) seen rest s t = absurd (false≢true t)
seen_split limit no_head seen rest s t = absurd (false≢true t)
seen_split limit (behind_head front body) seen rest s t =
    let e = behind_by front body rest in
    let start = body_start limit seen in (
      subst (λ k. IsSeen k seen) (sym e) s,
      ap (λ k. (outcome_by limit k seen).seen) e,
      content_of (after_bytes start body) rest,
      ap (λ k. (outcome_by limit k seen).content) e ∙ of-append start body rest,
    )

pub grows_law : (limit : ℕ) (bytes rest : Bytes) (outcome : Outcome) → IsOutcome limit bytes outcome
    → IsSome outcome.seen → GoesOnTo limit (bytes ++ rest) outcome
grows_law limit bytes rest outcome h t =
    let e : split_of (bytes ++ rest) ≡ split_from (split_of bytes) rest = split-append
    (in_head Leading []) bytes rest in
    let on = seen_split limit (split_of bytes) h.0 rest h.1 (subst (λ k. IsSome k.seen) h.2 t) in
    record {
      whole = outcome_by limit (split_from (split_of bytes) rest) h.0;
      is_outcome = (h.0, subst (λ k. IsSeen k h.0) (sym e) on.0, ap (λ k. outcome_by limit k h.0) (sym e));
      same_head = on.1 ∙ ap (λ k. k.seen) (sym h.2);
      more = on.2;
      goes_on = on.3 ∙ ap (λ k. k.content ++ on.2) (sym h.2);
    }

-- before a head was read there is no content
starts_split : (limit : ℕ) (split : Split) (seen : Option HeadData) → (outcome_by limit split seen).content ≢ []
    → IsSome (outcome_by limit split seen).seen
starts_split limit (in_head line front) seen some = absurd (some refl)
starts_split limit no_head seen some = absurd (some refl)
starts_split limit (behind_head front rest) None some = absurd (some (refused_of BadHead limit rest))
starts_split limit (behind_head front rest) (Some seen) some = refl

pub starts_law : (limit : ℕ) (bytes : Bytes) (outcome : Outcome) → IsOutcome limit bytes outcome
    → outcome.content ≢ [] → IsSome outcome.seen
starts_law limit bytes outcome h = subst (λ k. k.content ≢ []
    → IsSome k.seen) (sym h.2) (starts_split limit (split_of bytes) h.0)

-- what was given and what is left of the limit make the limit
byte_room : (body : BodyState) (b : ℕ) → length (content_byte body b) + (after_byte body b).room ≡ body.room
byte_room body b = by_test (is_content body.place) refl
  where
    by_test : (t : Bool) → is_content body.place ≡ t
        → length (content_byte body b) + (after_byte body b).room ≡ body.room
    by_test false e = rw e (omega arith)
    by_test true e = by_room (body.room == 0) refl
      where
        by_room : (z : Bool) → (body.room == 0) ≡ z
            → length (content_byte body b) + (after_byte body b).room ≡ body.room
        by_room true z =
            let none : body.room ≡ 0 = grind (arith, nat_tests, z) in
            rw (e, none) (omega arith)
        by_room false z =
            let some : 0 < body.room = grind (arith, nat_tests, z) in
            rw (e, z, lt-ltb 0 body.room some) (omega (arith, some))

pub body_room : (body : BodyState) (xs : Bytes) → length (content_of body xs) + (after_bytes body xs).room ≡ body.room
body_room body [] = omega arith
body_room body (x ∷ xs) =
    let rest = body_room (after_byte body x) xs in
    let one = byte_room body x in
    omega (arith, rest, one, length-append (content_byte body x) (content_of (after_byte body x) xs))

few_split : (limit : ℕ) (split : Split) (seen : Option HeadData) → length (outcome_by limit split seen).content ≤ limit
few_split limit (in_head line front) seen = omega arith
few_split limit no_head seen = omega arith
few_split limit (behind_head front rest) None = omega (arith, body_room (body_start limit None) rest)
few_split limit (behind_head front rest) (Some seen) = omega (arith, body_room (body_start limit (Some seen)) rest)

pub few_law : (limit : ℕ) (bytes : Bytes) (outcome : Outcome) → IsOutcome limit bytes outcome
    → length outcome.content ≤ limit
few_law limit bytes outcome h = subst (λ k. length k.content ≤ limit) (sym h.2) (few_split limit (split_of bytes) h.0)

-- what is whole or refused is what is answered at the end of the connection
final_closes : (place : BodyPlace) → IsFinalAnswer (fed_at place) → closed_at place ≡ closed_by (fed_at place)
final_closes UntilClose s = absurd s
final_closes (ContentLeft n) s = absurd s
final_closes (ChunkData n) s = absurd s
final_closes (ChunkSize digits size) s = absurd s
final_closes (ChunkSpace size k) s = absurd s
final_closes (ChunkExtension size k) s = absurd s
final_closes (ChunkLineFeed size) s = absurd s
final_closes DataReturn s = absurd s
final_closes DataLineFeed s = absurd s
final_closes (Trailer line k) s = absurd s
final_closes Whole s = refl
final_closes (Refused e) s = refl

closed_split : (limit : ℕ) (split : Split) (seen : Option HeadData) → IsFinal (outcome_by limit split seen)
    → (outcome_by limit split seen).closed ≡ closed_by (outcome_by limit split seen).fed
closed_split limit (in_head line front) seen t = absurd t
closed_split limit no_head seen t = refl
closed_split limit (behind_head front rest) seen t = final_closes (after_bytes (body_start limit seen) rest).place t

pub closed_law : (limit : ℕ) (bytes : Bytes) (outcome : Outcome) → IsOutcome limit bytes outcome → IsFinal outcome
    → outcome.closed ≡ closed_by outcome.fed
closed_law limit bytes outcome h t = subst (λ k. IsFinal k
    → k.closed ≡ closed_by k.fed) (sym h.2) (closed_split limit (split_of bytes) h.0) t

shown_split : (limit : ℕ) (split : Split) (seen : Option HeadData) (head : Option Head) → IsSeen split seen
    → IsShown seen head → IsShown (outcome_by limit split seen).seen head
shown_split limit (in_head line front) seen head s i = subst (λ k. IsShown k head) s i
shown_split limit no_head seen head s i = subst (λ k. IsShown k head) s i
shown_split limit (behind_head front rest) seen head s i = i

pub shown_law : (reader : ReplyReader) (limit : ℕ) (bytes : Bytes) (outcome : Outcome)
    → HasRead reader limit bytes outcome → IsShown outcome.seen (shown_head reader)
shown_law reader limit bytes outcome h = subst (λ k. IsShown k.seen reader.head) (sym h.outcome_is)
    (shown_split limit (split_of bytes) h.seen reader.head h.is_seen h.shown)
