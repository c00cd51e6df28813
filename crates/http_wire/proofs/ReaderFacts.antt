-- What a reader has read, piece after piece.
use Rattle.std.proofs.Common.{◌≡◌, ℕ, ◌<◌, true, false, [], ◌∷◌, ◌++◌, length, length-append, ◌+◌, Option, Some, None, refl, sym, ap, ◌∙◌, subst, append_assoc, append-nil, ◌==◌, ◌≢◌, arith, Result}
use Rattle.std.proofs.lemmas.Bool.Decides.{nat_tests}
use Rattle.http_wire.specs.declared.line_places.LinePlace.{LinePlace}
use Rattle.http_wire.specs.declared.line_places.LinePlace.TheVariants.{Leading}
use Rattle.http_wire.specs.declared.body_states.BodyState.{BodyState}
use Rattle.http_wire.specs.declared.body_places.BodyPlace.{BodyPlace}
use Rattle.http_wire.specs.declared.body_places.BodyPlace.TheVariants.{UntilClose, ContentLeft, ChunkData, ChunkSize, ChunkSpace, ChunkExtension, ChunkLineFeed, DataReturn, DataLineFeed, Trailer, Whole, Refused}
use Rattle.http_wire.specs.declared.reply_reader.Phase.{Phase}
use Rattle.http_wire.specs.declared.reply_reader.Phase.TheVariants.{InHead, InBody}
use Rattle.http_wire.specs.declared.reply_reader.ReplyReader.{ReplyReader}
use Rattle.http_wire.specs.declared.replies.ReplyErr.{ReplyErr}
use Rattle.http_wire.specs.declared.replies.ReplyErr.TheVariants.{HeadTooLong}
use Rattle.http_wire.specs.declared.replies.Fed.{Fed}
use Rattle.http_wire.specs.LinePlaces.{next_line_place}
use Rattle.http_wire.specs.BodyPlaces.{fed_at, closed_at, is_final}
use Rattle.http_wire.specs.BodyBytes.{after_bytes, content_of}
use Rattle.http_wire.specs.BodyStarts.{HeadData}
use Rattle.http_wire.specs.Fields.{Bytes}
use Rattle.http_wire.specs.Heads.{IsHeadOf}
use Rattle.http_wire.specs.Splits.{Split, in_head, no_head, behind_head, split_at, split_after, split_from, split_of}
use Rattle.http_wire.specs.Outcomes.{Outcome, nothing_yet, outcome_by, body_start, IsSeen, IsFinalAnswer}
use Rattle.http_wire.specs.Readers.{IsShown, IsBodyBehind, IsPhaseOf, IsInBody, HasRead, Reads, Feeds, IsNearer, Refuses, fed_by, refused_phase}
use Rattle.http_wire.proofs.Runs.{after-append, of-append, settled_after, settled_of, few_of}
use Rattle.http_wire.proofs.SplitFacts.{split-append, behind_by, none_by}
use Rattle.http_wire.proofs.Nearer.{bytes_nearer, nearer_by, nearer_ends, nearer_goes, nearer_refused}

-- no bytes change nothing
pub reads_none : (reader : ReplyReader) (limit : ℕ) (bytes into : Bytes) (before : Outcome)
    → HasRead reader limit bytes before
    → Reads reader reader limit bytes [] before into into
reads_none reader limit bytes into before h =
    record {
      after = before;
      read = subst (λ all. HasRead reader limit all before) (sym (append-nil bytes)) h;
      more = [];
      goes_on = sym (append-nil before.content);
      few = omega arith;
      gives = sym (append-nil into);
      nearer = λ more. (more, omega arith);
    }

-- one piece and then another
pub reads_then : (old one two : ReplyReader) (limit : ℕ) (bytes xs ys into_0 into_1 into_2 : Bytes) (before : Outcome)
    → (r : Reads old one limit bytes xs before into_0 into_1)
    → Reads one two limit (bytes ++ xs) ys r.after into_1 into_2
    → Reads old two limit bytes (xs ++ ys) before into_0 into_2
reads_then old one two limit bytes xs ys into_0 into_1 into_2 before r s =
    record {
      after = s.after;
      read = subst (λ all. HasRead two limit all s.after) (append_assoc bytes xs ys) s.read;
      more = r.more ++ s.more;
      goes_on = s.goes_on ∙ ap (λ front. front ++ s.more) r.goes_on ∙ append_assoc before.content r.more s.more;
      few = omega (arith, r.few, s.few, length-append r.more s.more, length-append xs ys);
      gives = s.gives ∙ ap (λ front. front ++ s.more) r.gives ∙ append_assoc into_0 r.more s.more;
      nearer = λ more.
          let second = s.nearer more in
          let first = r.nearer second.0 in
          (first.0, omega (arith, first.1, second.1, length-append xs ys));
    }

-- one byte of the head
reads_byte : (old new : ReplyReader) (limit : ℕ) (bytes : Bytes) (b : ℕ) (before : Outcome) (line : LinePlace)
    (front : Bytes) (split : Split) (seen : Option HeadData)
    → HasRead old limit bytes before → split_of bytes ≡ in_head line front → split_after (in_head line front) b ≡ split
    → new.limit ≡ old.limit → IsSeen split seen → IsPhaseOf limit split new.phase new.front.items seen
    → IsShown seen new.head
    → (outcome_by limit split seen).content ≡ [] → IsNearer old new 1
    → Reads old new limit bytes (b ∷ []) before [] []
reads_byte old new limit bytes b before line front split seen h was is same s p shown empty nearer =
    let e : split_of (bytes ++ b ∷ []) ≡ split = split-append (in_head Leading []) bytes (b ∷ [])
    ∙ ap (λ k. split_after k b) was ∙ is in
    let none : before.content ≡ [] = ap (λ outcome. outcome.content) (h.outcome_is
    ∙ ap (λ k. outcome_by limit k h.seen) was) in
    record {
      after = outcome_by limit split seen;
      read = record {
        limit_is = same ∙ h.limit_is;
        seen = seen;
        is_seen = subst (λ k. IsSeen k seen) (sym e) s;
        outcome_is = ap (λ k. outcome_by limit k seen) (sym e);
        phase_is = subst (λ k. IsPhaseOf limit k new.phase new.front.items seen) (sym e) p;
        shown = shown;
      };
      more = [];
      goes_on = empty ∙ sym none ∙ sym (append-nil before.content);
      few = omega arith;
      gives = refl;
      nearer = nearer;
    }

-- more bytes of the body: where the body stands, what was seen, and what the content goes on with
pub record GoesOn (limit : ℕ) (split : Split) (body : BodyState) (seen : Option HeadData) (piece : Bytes) : Type 0 where
  pub behind : IsBodyBehind limit (split_from split piece) (after_bytes body piece) seen
  pub is_seen : IsSeen (split_from split piece) seen
  pub content : (outcome_by limit (split_from split piece) seen).content ≡ (outcome_by limit split seen).content
      ++ content_of body piece

pub behind_more : (limit : ℕ) (split : Split) (body : BodyState) (seen : Option HeadData) (piece : Bytes)
    → IsBodyBehind limit split body seen → IsSeen split seen → GoesOn limit split body seen piece
behind_more limit (in_head line front) body seen piece p s = absurd p
behind_more limit no_head body seen piece p s =
    let at_end : is_final body.place ≡ true = ap is_final p in
    let e : split_from no_head piece ≡ no_head = none_by piece in
    record {
      behind = subst (λ k. IsBodyBehind limit k (after_bytes body piece) seen) (sym e) (ap (λ b. b.place)
          (settled_after body piece at_end) ∙ p);
      is_seen = subst (λ k. IsSeen k seen) (sym e) s;
      content = ap (λ k. (outcome_by limit k seen).content) e ∙ sym (settled_of body piece at_end);
    }
behind_more limit (behind_head front rest) body seen piece p s =
    let start = body_start limit seen in
    let e : split_from (behind_head front rest) piece ≡ behind_head front (rest
    ++ piece) = behind_by front rest piece in
    record {
      behind = subst (λ k. IsBodyBehind limit k (after_bytes body piece) seen) (sym e) (ap
          (λ b. after_bytes b piece) p ∙ sym (after-append start rest piece));
      is_seen = subst (λ k. IsSeen k seen) (sym e) s;
      content = ap (λ k. (outcome_by limit k seen).content) e ∙ of-append start rest piece
          ∙ ap (λ b. content_of start rest ++ content_of b piece) (sym p);
    }

pub in_body : (reader : ReplyReader) (limit : ℕ) (bytes : Bytes) (outcome : Outcome) (body : BodyState)
    → (h : HasRead reader limit bytes outcome)
    → reader.phase ≡ InBody body → IsBodyBehind limit (split_of bytes) body h.seen
in_body reader limit bytes outcome body h e = subst (λ ph. IsPhaseOf limit
    (split_of bytes) ph reader.front.items h.seen) e h.phase_is

pub reads_body : (old new : ReplyReader) (limit : ℕ) (bytes piece into_old into_new : Bytes) (before : Outcome)
    (body : BodyState)
    → HasRead old limit bytes before → old.phase ≡ InBody body → new.phase ≡ InBody (after_bytes body piece)
    → new.limit ≡ old.limit → new.head ≡ old.head
    → into_new ≡ into_old ++ content_of body piece → Reads old new limit bytes piece before into_old into_new
reads_body old new limit bytes piece into_old into_new before body h was is same head into =
    let on = behind_more limit (split_of bytes) body h.seen piece
    (in_body old limit bytes before body h was) h.is_seen in
    let e : split_of (bytes ++ piece) ≡ split_from (split_of bytes) piece = split-append
    (in_head Leading []) bytes piece in
    record {
      after = outcome_by limit (split_from (split_of bytes) piece) h.seen;
      read = record {
        limit_is = same ∙ h.limit_is;
        seen = h.seen;
        is_seen = subst (λ k. IsSeen k h.seen) (sym e) on.is_seen;
        outcome_is = ap (λ k. outcome_by limit k h.seen) (sym e);
        phase_is = subst (λ ph. IsPhaseOf limit (split_of (bytes
            ++ piece)) ph new.front.items h.seen) (sym is) (subst (λ k. IsBodyBehind limit k
            (after_bytes body piece) h.seen) (sym e) on.behind);
        shown = subst (IsShown h.seen) (sym head) h.shown;
      };
      more = content_of body piece;
      goes_on = on.content ∙ ap (λ outcome. outcome.content ++ content_of body piece) (sym h.outcome_is);
      few = few_of body piece;
      gives = into;
      nearer = nearer_by old new (length piece) (InBody body) (InBody (after_bytes body piece)) was is
          (bytes_nearer body piece);
    }

-- what is answered at a place is what is said
fed_behind : (limit : ℕ) (split : Split) (body : BodyState) (seen : Option HeadData)
    → IsBodyBehind limit split body seen → fed_at body.place ≡ (outcome_by limit split seen).fed
fed_behind limit (in_head line front) body seen p = absurd p
fed_behind limit no_head body seen p = ap fed_at p
fed_behind limit (behind_head front rest) body seen p = ap (λ b. fed_at b.place) p

closed_behind : (limit : ℕ) (split : Split) (body : BodyState) (seen : Option HeadData)
    → IsBodyBehind limit split body seen → closed_at body.place ≡ (outcome_by limit split seen).closed
closed_behind limit (in_head line front) body seen p = absurd p
closed_behind limit no_head body seen p = ap closed_at p
closed_behind limit (behind_head front rest) body seen p = ap (λ b. closed_at b.place) p

-- behind a byte in the head
abbrev pub was_in_head : (reader : ReplyReader) (limit : ℕ) (bytes : Bytes) (before : Outcome) (line : LinePlace)
    → HasRead reader limit bytes before → reader.phase ≡ InHead line
    → (split_of bytes ≡ in_head line reader.front.items) × (length reader.front.items < 65536)
was_in_head reader limit bytes before line h e = subst (λ ph. IsPhaseOf limit
    (split_of bytes) ph reader.front.items h.seen) e h.phase_is

pub fed_in_head : (reader : ReplyReader) (line : LinePlace) (limit : ℕ) (bytes : Bytes) (outcome : Outcome)
    → HasRead reader limit bytes outcome → reader.phase ≡ InHead line → outcome ≡ nothing_yet
fed_in_head reader line limit bytes outcome h e =
    h.outcome_is ∙ ap (λ k. outcome_by limit k h.seen) (was_in_head reader limit bytes outcome line h e).0

pub fed_in_body : (reader : ReplyReader) (body : BodyState) (limit : ℕ) (bytes : Bytes) (outcome : Outcome)
    → HasRead reader limit bytes outcome → reader.phase ≡ InBody body
    → (fed_at body.place ≡ outcome.fed) × (closed_at body.place ≡ outcome.closed)
fed_in_body reader body limit bytes outcome h e =
    let p = in_body reader limit bytes outcome body h e in (
      fed_behind limit (split_of bytes) body h.seen p
          ∙ ap (λ k. k.fed) (sym h.outcome_is),
      closed_behind limit (split_of bytes) body h.seen p
          ∙ ap (λ k. k.closed) (sym h.outcome_is),
    )

-- what `feed` answers is what is said
pub fed_is : (reader : ReplyReader) (limit : ℕ) (bytes : Bytes) (outcome : Outcome)
    → HasRead reader limit bytes outcome → fed_by reader.phase ≡ outcome.fed
fed_is reader limit bytes outcome h = by_phase reader.phase refl
  where
    by_phase : (phase : Phase) → reader.phase ≡ phase → fed_by phase ≡ outcome.fed
    by_phase (InHead line) e = ap (λ k. k.fed) (sym (fed_in_head reader line limit bytes outcome h e))
    by_phase (InBody body) e = (fed_in_body reader body limit bytes outcome h e).0

pub byte_ends : (old new : ReplyReader) (limit : ℕ) (bytes : Bytes) (b : ℕ) (before : Outcome) (line : LinePlace)
    (front : Bytes) (seen : Option HeadData)
    → HasRead old limit bytes before → old.phase ≡ InHead line → next_line_place line b ≡ None
    → front ≡ old.front.items ++ b ∷ []
    → new.limit ≡ old.limit → IsHeadOf front seen → IsShown seen new.head
    → new.phase ≡ InBody (body_start old.limit seen)
    → Reads old new limit bytes (b ∷ []) before [] []
byte_ends old new limit bytes b before line front seen h was ends f same s shown is =
    let p = was_in_head old limit bytes before line h was in
    let e : split_after (in_head line old.front.items) b ≡ behind_head front [] = ap (λ m. split_at m
    (old.front.items ++ b ∷ [])) ends ∙ ap (λ k. behind_head k []) (sym f) in
    let behind : IsBodyBehind limit (behind_head front []) (body_start old.limit seen) seen = ap
    (λ l. body_start l seen) h.limit_is in
    reads_byte old new limit bytes b before line old.front.items (behind_head front []) seen h p.0 e same s
    (subst (λ ph. IsPhaseOf limit (behind_head front []) ph new.front.items seen) (sym is) behind) shown refl
    (nearer_ends old new line seen was p.1 is)

pub byte_long : (old new : ReplyReader) (limit : ℕ) (bytes : Bytes) (b : ℕ) (before : Outcome)
    (line next : LinePlace) (front : Bytes)
    → HasRead old limit bytes before → old.phase ≡ InHead line → next_line_place line b ≡ Some next
    → front ≡ old.front.items ++ b ∷ []
    → length front ≡ 65536 → new.limit ≡ old.limit → new.head ≡ old.head → new.phase ≡ refused_phase HeadTooLong
    → Reads old new limit bytes (b ∷ []) before [] []
byte_long old new limit bytes b before line next front h was goes f long same head is =
    let p = was_in_head old limit bytes before line h was in
    let full : (length (old.front.items ++ b ∷ []) == 65536) ≡ true = ap (λ k. length k == 65536) (sym f)
    ∙ ap (λ k. k == 65536) long in
    let e : split_after (in_head line old.front.items) b ≡ no_head = ap (λ m. split_at m (old.front.items
    ++ b ∷ [])) goes ∙ rw full refl in
    let none : h.seen ≡ None = subst (λ k. IsSeen k h.seen) p.0 h.is_seen in
    reads_byte old new limit bytes b before line old.front.items no_head h.seen h p.0 e same none
    (subst (λ ph. IsPhaseOf limit no_head ph new.front.items h.seen) (sym is) refl) (subst (IsShown h.seen)
    (sym head) h.shown) refl (nearer_refused old new 1 HeadTooLong is)

pub byte_goes : (old new : ReplyReader) (limit : ℕ) (bytes : Bytes) (b : ℕ) (before : Outcome)
    (line next : LinePlace) (front : Bytes)
    → HasRead old limit bytes before → old.phase ≡ InHead line → next_line_place line b ≡ Some next
    → front ≡ old.front.items ++ b ∷ []
    → length front ≢ 65536 → new.limit ≡ old.limit → new.head ≡ old.head → new.phase ≡ InHead next
    → new.front.items ≡ front
    → Reads old new limit bytes (b ∷ []) before [] []
byte_goes old new limit bytes b before line next front h was goes f short same head is kept =
    let p = was_in_head old limit bytes before line h was in
    let as_long : length front ≡ length old.front.items + 1 = ap length f ∙ length-append old.front.items (b ∷ []) in
    let below : length front < 65536 = omega (arith, as_long, p.1, short) in
    let room : (length front == 65536) ≡ false = grind (arith, nat_tests, below) in
    let e : split_after (in_head line old.front.items) b ≡ in_head next front = ap (λ m. split_at m
    (old.front.items ++ b ∷ [])) goes ∙ ap (split_at (Some next)) (sym f) ∙ rw room refl in
    let none : h.seen ≡ None = subst (λ k. IsSeen k h.seen) p.0 h.is_seen in
    let phase : IsPhaseOf limit (in_head next front) (InHead next) new.front.items h.seen = (
      ap (in_head next)
          (sym kept),
      subst (λ k. length k < 65536) (sym kept) below,
    ) in
    reads_byte old new limit bytes b before line old.front.items (in_head next front) h.seen h p.0 e same none
    (subst (λ ph. IsPhaseOf limit (in_head next front) ph new.front.items h.seen) (sym is) phase) (subst
    (IsShown h.seen) (sym head) h.shown) refl
    (nearer_goes old new line next was p.1 is same (ap length kept ∙ as_long))

-- no bytes where the head goes on
pub reads_nothing : (reader : ReplyReader) (limit : ℕ) (bytes piece into : Bytes) (before : Outcome)
    (line : LinePlace) → reader.phase ≡ InHead line → (0 < length piece → IsInBody reader.phase)
    → HasRead reader limit bytes before → Reads reader reader limit bytes piece before into into
reads_nothing reader limit bytes [] into before line e r h = reads_none reader limit bytes into before h
reads_nothing reader limit bytes (x ∷ xs) into before line e r h = absurd (subst IsInBody e (r (omega arith)))

-- bytes of the head give no content
pub reads_still : (old new : ReplyReader) (limit : ℕ) (bytes piece into : Bytes) (before : Outcome)
    → (r : Reads old new limit bytes piece before [] [])
    → Reads old new limit bytes piece before into into
reads_still old new limit bytes piece into before r =
    record {
      after = r.after;
      read = r.read;
      more = r.more;
      goes_on = r.goes_on;
      few = r.few;
      gives = sym
          (append-nil into) ∙ ap (λ m. into ++ m) r.gives;
      nearer = r.nearer;
    }

pub final_place : (place : BodyPlace) → IsFinalAnswer (fed_at place) → is_final place ≡ true
final_place UntilClose s = absurd s
final_place (ContentLeft n) s = absurd s
final_place (ChunkData n) s = absurd s
final_place (ChunkSize digits size) s = absurd s
final_place (ChunkSpace size k) s = absurd s
final_place (ChunkExtension size k) s = absurd s
final_place (ChunkLineFeed size) s = absurd s
final_place DataReturn s = absurd s
final_place DataLineFeed s = absurd s
final_place (Trailer line k) s = absurd s
final_place Whole s = refl
final_place (Refused e) s = refl

-- behind a refusal no byte counts
pub reads_refused : (reader : ReplyReader) (limit : ℕ) (bytes piece into : Bytes) (before : Outcome) (e : ReplyErr)
    → Refuses reader e → HasRead reader limit bytes before
    → Reads reader reader limit bytes piece before into into
reads_refused reader limit bytes piece into before e refuses h = by_phase reader.phase refl
  where
    final : IsFinalAnswer (fed_by reader.phase)
    final = subst IsFinalAnswer (sym refuses) tt

    by_phase : (phase : Phase) → reader.phase ≡ phase → Reads reader reader limit bytes piece before into into
    by_phase (InHead line) was = absurd (subst (λ k. IsFinalAnswer (fed_by k)) was final)
    by_phase (InBody body) was =
        let at_end : is_final body.place ≡ true = final_place body.place (subst (λ k. IsFinalAnswer
        (fed_by k)) was final) in
        reads_body reader reader limit bytes piece into into before body h was (was
        ∙ ap InBody (sym (settled_after body piece at_end))) refl refl
        (sym (append-nil into) ∙ ap (λ more. into ++ more) (sym (settled_of body piece at_end)))

-- a piece was read, and this is answered
pub feeds_of : (old now : ReplyReader) (limit : ℕ) (bytes piece into_old into_new : Bytes) (before : Outcome)
    (result : Result Fed ReplyErr)
    → Reads old now limit bytes piece before into_old into_new → result ≡ fed_by now.phase
    → Feeds old now limit bytes piece before into_old into_new result
feeds_of old now limit bytes piece into_old into_new before result r is =
    record {
      after = r.after;
      read = r.read;
      answer = is ∙ fed_is now limit (bytes ++ piece) r.after r.read;
      more = r.more;
      goes_on = r.goes_on;
      few = r.few;
      gives = r.gives;
      nearer = λ more. (r.nearer (sym is ∙ more)).1;
    }
