-- The same bytes say one thing; and what stands appended where memory was wanting.
use Rattle.std.proofs.Common.{◌≡◌, ◌≤◌, ℕ, [], ◌++◌, length, length-append, Option, refl, sym, ap, ◌∙◌, subst, append_assoc, append-nil, arith, Result, Ok, Err, OnErr}
use Rattle.http_wire.specs.declared.line_places.LinePlace.TheVariants.{Leading}
use Rattle.http_wire.specs.declared.body_states.BodyState.{BodyState}
use Rattle.http_wire.specs.declared.reply_reader.Phase.TheVariants.{InBody}
use Rattle.http_wire.specs.declared.reply_reader.ReplyReader.{ReplyReader}
use Rattle.http_wire.specs.BodyBytes.{after_bytes, content_of}
use Rattle.http_wire.specs.BodyStarts.{HeadData}
use Rattle.http_wire.specs.Fields.{Bytes}
use Rattle.http_wire.specs.Splits.{Split, in_head, no_head, behind_head, split_from, split_of}
use Rattle.http_wire.specs.Outcomes.{Outcome, outcome_by, body_start, IsSeen, IsOutcome}
use Rattle.http_wire.specs.Readers.{HasRead, Reads, GivesPart, GivesParts}
use Rattle.http_wire.proofs.HeadFacts.{head_unique}
use Rattle.http_wire.proofs.Runs.{of-append}
use Rattle.http_wire.proofs.SplitFacts.{split-append, behind_by}
use Rattle.http_wire.proofs.ReaderFacts.{behind_more, in_body}

pub parts_err : {T E : Type 0} (old : ReplyReader) (piece into_old into_new : Bytes) (result : Result T E)
    → GivesParts old piece into_old into_new → OnErr result (GivesParts old piece into_old into_new)
parts_err old piece into_old into_new (Ok x) p = tt
parts_err old piece into_old into_new (Err e) p = p

outcome_unique : (limit : ℕ) (split : Split) (one two : Option HeadData) → IsSeen split one → IsSeen split two
    → outcome_by limit split one ≡ outcome_by limit split two
outcome_unique limit (in_head line front) one two a b = refl
outcome_unique limit no_head one two a b = refl
outcome_unique limit (behind_head front rest) one two a b = ap (λ seen. outcome_by limit
    (behind_head front rest) seen) (head_unique front one two a b)

pub one_law : (limit : ℕ) (bytes : Bytes) (one two : Outcome) → IsOutcome limit bytes one
    → IsOutcome limit bytes two → one ≡ two
one_law limit bytes one two a b = a.2 ∙ outcome_unique limit (split_of bytes) a.0 b.0 a.1 b.1 ∙ sym b.2

pub read_law : (reader : ReplyReader) (limit : ℕ) (bytes : Bytes) (outcome : Outcome)
    → HasRead reader limit bytes outcome → IsOutcome limit bytes outcome
read_law reader limit bytes outcome h = (h.seen, h.is_seen, h.outcome_is)

grows_by : (limit : ℕ) (split : Split) (one two : Option HeadData) (xs : Bytes) → IsSeen split one
    → IsSeen (split_from split xs) two
    → (more : Bytes) × ((outcome_by limit (split_from split xs) two).content ≡ (outcome_by limit split one).content
    ++ more)
grows_by limit (in_head line front) one two xs a b = (
  (outcome_by limit (split_from
      (in_head line front) xs) two).content,
  refl,
)
grows_by limit no_head one two xs a b = ((outcome_by limit (split_from no_head xs) two).content, refl)
grows_by limit (behind_head front rest) one two xs a b =
    let e = behind_by front rest xs in
    let same : one ≡ two = head_unique front one two a (subst (λ k. IsSeen k two) e b) in
    let start = body_start limit one in (
      content_of (after_bytes start rest) xs,
      ap (λ k. (outcome_by limit k two).content) e
          ∙ ap (λ seen. (outcome_by limit (behind_head front (rest ++ xs)) seen).content) (sym same)
          ∙ of-append start rest xs,
    )

-- the content of what was read goes on, whatever follows
pub grows : (reader : ReplyReader) (limit : ℕ) (bytes xs : Bytes) (before after : Outcome)
    → HasRead reader limit bytes before → IsOutcome limit (bytes ++ xs) after
    → (more : Bytes) × (after.content ≡ before.content ++ more)
grows reader limit bytes xs before after h o =
    let e = split-append (in_head Leading []) bytes xs in
    let on = grows_by limit (split_of bytes) h.seen o.0 xs h.is_seen (subst (λ k. IsSeen k o.0) e o.1) in (
      on.0,
      ap (λ k. k.content) (o.2 ∙ ap (λ k. outcome_by limit k o.0) e) ∙ on.1
          ∙ ap (λ k. k.content ++ on.0) (sym h.outcome_is),
    )

-- nothing was appended
pub part_none : (reader : ReplyReader) (limit : ℕ) (bytes piece into : Bytes) (before after : Outcome)
    → HasRead reader limit bytes before → IsOutcome limit (bytes ++ piece) after
    → GivesPart before.content after.content into into
part_none reader limit bytes piece into before after h o =
    let on = grows reader limit bytes piece before after h o in
    record { more = on.0; goes_on = on.1; rest = on.0; gives = refl; kept = omega arith }

-- all was appended
pub part_all : (old now : ReplyReader) (limit : ℕ) (bytes piece into_old into_new : Bytes) (before after : Outcome)
    → Reads old now limit bytes piece before into_old into_new → IsOutcome limit (bytes ++ piece) after
    → GivesPart before.content after.content into_old into_new
part_all old now limit bytes piece into_old into_new before after r o =
    let same = one_law limit (bytes ++ piece) after r.after o (read_law now limit (bytes ++ piece) r.after r.read) in
    record {
      more = r.more;
      goes_on = ap (λ k. k.content) same ∙ r.goes_on;
      rest = [];
      gives = append-nil into_new ∙ r.gives;
      kept = omega (arith, ap length r.gives, length-append into_old r.more);
    }

-- some of the content of a piece was appended
pub part_body : (reader : ReplyReader) (limit : ℕ) (bytes piece into_old into_new rest : Bytes)
    (before after : Outcome) (body : BodyState)
    → HasRead reader limit bytes before → reader.phase ≡ InBody body → IsOutcome limit (bytes ++ piece) after
    → into_new ++ rest ≡ into_old ++ content_of body piece → length into_old ≤ length into_new
    → GivesPart before.content after.content into_old into_new
part_body reader limit bytes piece into_old into_new rest before after body h was o gives kept =
    let on = behind_more limit (split_of bytes) body h.seen piece
    (in_body reader limit bytes before body h was) h.is_seen in
    let e = split-append (in_head Leading []) bytes piece in
    let whole : IsOutcome limit (bytes ++ piece) (outcome_by limit (split_from (split_of bytes) piece) h.seen) =
    (h.seen, subst (λ k. IsSeen k h.seen) (sym e) on.is_seen, ap (λ k. outcome_by limit k h.seen) (sym e)) in
    let same = one_law limit (bytes ++ piece) after _ o whole in
    record {
      more = content_of body piece;
      goes_on = ap (λ k. k.content) same ∙ on.content ∙ ap (λ k. k.content ++ content_of body piece) (sym h.outcome_is);
      rest = rest;
      gives = gives;
      kept = kept;
    }

-- all of one piece and some of the next
pub part_then : (old mid : ReplyReader) (limit : ℕ) (bytes xs into_old into_mid into_new : Bytes) (before : Outcome)
    (after : Bytes)
    → (r : Reads old mid limit bytes xs before into_old into_mid)
    → GivesPart r.after.content after into_mid into_new → GivesPart before.content after into_old into_new
part_then old mid limit bytes xs into_old into_mid into_new before after r p =
    record {
      more = r.more ++ p.more;
      goes_on = p.goes_on ∙ ap (λ front. front ++ p.more) r.goes_on ∙ append_assoc before.content r.more p.more;
      rest = p.rest;
      gives = p.gives ∙ ap (λ front. front ++ p.more) r.gives ∙ append_assoc into_old r.more p.more;
      kept = omega (arith, p.kept, ap length r.gives, length-append into_old r.more);
    }
