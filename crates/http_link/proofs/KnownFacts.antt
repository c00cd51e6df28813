-- What is known of an open file after each step of its reply.
use Rattle.std.proofs.Common.{◌≡◌, ℕ, ◌+◌, ◌<◌, ◌≤◌, Bool, true, false, List, [], length, length-append, Option, Some, None, Result, Ok, Err, refl, sym, ap, ◌∙◌, arith, nat_le}
use Rattle.std.proofs.lemmas.Bool.Decides.{nat_tests}
use Rattle.http_wire.specs.declared.reply_reader.ReplyReader.{ReplyReader}
use Rattle.http_wire.specs.declared.replies.ReplyErr.{ReplyErr}
use Rattle.http_wire.specs.declared.replies.ReplyErr.TheVariants.{BodyTooLong}
use Rattle.http_wire.specs.Fields.{Bytes}
use Rattle.http_wire.specs.Outcomes.{Outcome, IsOutcome}
use Rattle.http_wire.specs.Readers.{HasRead}
use Rattle.http_link.specs.declared.hear.Step.{Step}
use Rattle.http_link.specs.declared.hear.Step.TheVariants.{More, Ended}
use Rattle.http_visits.specs.declared.pages.Page.{Page}
use Rattle.http_link.specs.declared.wire.Connection.{Connection}
use Rattle.http_link.specs.Hearing.{IsToldOf, IsHearing, HearsFew, HasReadSome, ended_of}
use Rattle.http_link.specs.Openings.{IsTail}
use Rattle.http_link.specs.Readings.{HasContent, IsFullEnd, IsReadTo, IsKnown}
use Rattle.http_link.proofs.HearFacts.{untold, hearing_of}

-- the laws of replies that this rests on
pub record LimitLaws : Type 0 where
  pub reads : (reader : ReplyReader) (limit : ℕ) (bytes : Bytes) (outcome : Outcome)
      → HasRead reader limit bytes outcome → IsOutcome limit bytes outcome
  pub within : (limit : ℕ) (bytes : Bytes) (outcome : Outcome) → IsOutcome limit bytes outcome
      → length outcome.content ≤ limit

le_stable : (a b : ℕ) → ¬ ¬ (a ≤ b) → a ≤ b
le_stable a b h =
    let is = by_test (nat_le a b) refl in
    grind (arith, nat_tests, is)
  where
    by_test : (t : Bool) → nat_le a b ≡ t → nat_le a b ≡ true
    by_test true e = e
    by_test false e = absurd (h (λ le. let no : b < a = grind (arith, nat_tests, e) in absurd (omega (arith, no, le))))

eq_stable : (a b : ℕ) → ¬ ¬ (a ≡ b) → a ≡ b
eq_stable a b h =
    let one = le_stable a b (λ no. h (λ e. no (omega (arith, e)))) in
    let two = le_stable b a (λ no. h (λ e. no (omega (arith, e)))) in
    omega (arith, one, two)

full_stable : (ended : Option (Result (Unit {0}) ReplyErr)) (count limit : ℕ) → ¬ ¬ (IsFullEnd ended count limit)
    → IsFullEnd ended count limit
full_stable None count limit h = tt
full_stable (Some (Ok u)) count limit h = tt
full_stable (Some (Err e)) count limit h = λ is. eq_stable count limit (λ no. h (λ full. no (full is)))

read_stable : (ended : Option (Result (Unit {0}) ReplyErr)) (reader : ReplyReader) (limit count : ℕ)
    → ¬ ¬ (IsReadTo ended reader limit count) → IsReadTo ended reader limit count
read_stable None reader limit count h = λ no. h (λ read. read no)
read_stable (Some ended) reader limit count h = tt

-- what is not refuted of an open file is so
pub known_stable : (ended : Option (Result (Unit {0}) ReplyErr)) (reader : ReplyReader) (limit count waiting : ℕ)
    → ¬ ¬ (IsKnown ended reader limit count waiting) → IsKnown ended reader limit count waiting
known_stable ended reader limit count waiting h =
    record {
      within = le_stable count limit (λ no. h (λ k. no k.within));
      few = le_stable waiting 65536 (λ no. h (λ k. no k.few));
      full = full_stable ended count limit (λ no. h (λ k. no k.full));
      read = read_stable ended reader limit count (λ no. h (λ k. no k.read));
    }

full_of : (ended : Result (Unit {0}) ReplyErr) (count limit : ℕ) → (ended ≡ Err BodyTooLong → count ≡ limit)
    → IsFullEnd (Some ended) count limit
full_of (Ok u) count limit f = tt
full_of (Err e) count limit f = λ is. f (ap Err is)

-- a reply that has begun
pub known_tail : (told : Option (List Page)) (connection : Option Connection) (reader : ReplyReader) (limit : ℕ)
    (reply content : Bytes) (ended : Option (Result (Unit {0}) ReplyErr)) (waiting : ℕ)
    → LimitLaws → IsTail told connection reader limit reply content ended → waiting ≤ 65536
    → IsKnown ended reader limit (length content) waiting
known_tail told connection reader limit reply content None waiting laws tail few =
    let h = tail.hearing in
    let within = laws.within limit h.bytes tail.outcome (laws.reads reader limit h.bytes tail.outcome h.read) in
    record {
      within = omega (arith, within, ap length tail.same);
      few = few;
      full = tt;
      read = λ no. no (record {
        bytes = h.bytes;
        outcome = tail.outcome;
        read = h.read;
        as_long = ap length tail.same;
      });
    }
known_tail told connection reader limit reply content (Some ended) waiting laws tail few =
    record {
      within = omega (arith, laws.within limit tail.bytes tail.whole tail.is_outcome, ap length tail.same);
      few = few;
      full = full_of ended (length content) limit tail.full;
      read = tt;
    }

-- a step from where so much content had come
step_known : (step : Step) (connection : Option Connection) (reader : ReplyReader) (limit count most : ℕ)
    (before : Outcome) (pending : Bytes)
    → LimitLaws → length before.content ≡ count
    → HearsFew step None connection reader limit [] before most [] pending → most ≡ 65536
    → IsKnown (ended_of step) reader limit (count + length pending) (length pending)
step_known More connection reader limit count most before pending laws long h size =
    let on = h.hears in
    let r = on.hearing in
    let within = laws.within limit r.bytes on.after (laws.reads reader limit r.bytes on.after r.read) in
    let gives : pending ≡ on.more = on.gives in
    let same : length on.after.content ≡ count + length pending = omega
    (arith, ap length on.goes_on, length-append before.content on.more, long, ap length gives) in
    record {
      within = omega (arith, within, same);
      few = omega (arith, h.few, size);
      full = tt;
      read = λ no. no (record { bytes = r.bytes; outcome = on.after; read = r.read; as_long = same });
    }
step_known (Ended ended) connection reader limit count most before pending laws long h size =
    let last = h.hears in
    let within = laws.within limit last.bytes last.whole last.is_outcome in
    let gives : pending ≡ last.more = last.gives in
    let same : length last.whole.content ≡ count + length pending = omega
    (arith, ap length last.goes_on, length-append before.content last.more, long, ap length gives) in
    record {
      within = omega (arith, within, same);
      few = omega (arith, h.few, size);
      full = full_of ended (count + length pending) limit (λ e. sym same ∙ last.full e);
      read = tt;
    }

pub known_after : (step : Step) (pages : Option (List Page)) (old_at connection : Option Connection)
    (old reader : ReplyReader) (limit count most : ℕ) (pending : Bytes)
    → LimitLaws → most ≡ 65536
    → ((told : Option (List Page)) (limit : ℕ) (reply : Bytes) (before : Outcome) → IsToldOf told pages
    → IsHearing told old_at old limit reply before
    → HearsFew step told connection reader limit reply before most [] pending)
    → ¬ ¬ (HasContent old limit count) → IsKnown (ended_of step) reader limit (count + length pending) (length pending)
known_after step pages old_at connection old reader limit count most pending laws size steps some =
    known_stable (ended_of step) reader limit (count + length pending) (length pending) (λ no. some (λ h.
    no (step_known step connection reader limit count most h.outcome pending laws h.as_long
    (steps None limit [] h.outcome (untold pages) (hearing_of old_at old limit h.bytes h.outcome h.read)) size)))

-- some bytes were read
pub some_read : (reader : ReplyReader) (limit count : ℕ) → ¬ ¬ (HasContent reader limit count)
    → ¬ ¬ (HasReadSome reader)
some_read reader limit count h = λ no. h (λ k. no (limit, k.bytes, k.outcome, k.read))
