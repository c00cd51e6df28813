-- What a reply that was received so far says of the whole reply.
use Rattle.std.proofs.Common.{◌≡◌, ◌≢◌, ℕ, zero, suc, ◌+◌, ◌<◌, ◌≤◌, ◌==◌, List, [], ◌∷◌, ◌++◌, length, length-append, length-take, take, drop, Option, Some, None, Result, Ok, Err, refl, sym, ap, ◌∙◌, subst, append_assoc, append-nil, take-append-drop, arith, true, is_some}
use Rattle.std.proofs.lemmas.Bool.{false≢true, eqb-true}
use Rattle.std.proofs.lemmas.List.{take_all, nil_from_length}
use Rattle.http_wire.specs.declared.reply_reader.ReplyReader.{ReplyReader}
use Rattle.http_wire.specs.declared.replies.Fed.{Fed}
use Rattle.http_wire.specs.declared.replies.Fed.TheVariants.{More as Again}
use Rattle.http_wire.specs.declared.replies.ReplyErr.{ReplyErr}
use Rattle.http_wire.specs.declared.replies.ReplyErr.TheVariants.{BodyTooLong}
use Rattle.http_wire.specs.Fields.{Bytes}
use Rattle.http_wire.specs.Measures.{left_of}
use Rattle.http_wire.specs.Outcomes.{Outcome, IsOutcome, IsFinal, IsFinalAnswer, closed_by}
use Rattle.http_wire.specs.Readers.{HasRead, Feeds, IsShown, shown_head}
use Rattle.http_visits.specs.declared.pages.Page.{Page}
use Rattle.http_link.specs.declared.wire.Connection.{Connection}
use Rattle.http_visits.specs.Replies.{reply_of}
use Rattle.http_link.specs.Wires.{IsReceived, received_after, with_received}
use Rattle.http_link.specs.Hearing.{Carries, IsHearing, IsToldOf, HasReadSome, HearsOn, HearsLast, HearsFew}
use Rattle.http_link.specs.declared.hear.Step.{Step}
use Rattle.http_link.specs.declared.hear.Step.TheVariants.{More, Ended}

-- a Vec without length has no items
pub nil_of : (count : ℕ) (items : Bytes) → count ≡ length items → (count == 0) ≡ true → items ≡ []
nil_of count items same none = nil_from_length items (sym same ∙ eqb-true count 0 none)

take_nil : (n : ℕ) → take n (let no : Bytes = [] in no) ≡ []
take_nil zero = refl
take_nil (suc n) = refl

-- the first bytes, and then the next ones
take_further : (all : Bytes) (n m : ℕ) → take n all ++ take m (drop n all) ≡ take (n + m) all
take_further all zero m = grind arith
take_further [] (suc n) m =
    let one_more : suc (n + m) ≡ suc n + m = omega arith in
    let none : take m (let no : Bytes = [] in no) ≡ [] = take_nil m in
    none ∙ ap (λ k. take k (let no : Bytes = [] in no)) one_more
take_further (x ∷ all) (suc n) m =
    let one_more : suc (n + m) ≡ suc n + m = omega arith in
    ap (λ rest. x ∷ rest) (take_further all n m) ∙ ap (λ k. take k (x ∷ all)) one_more

-- what a call to receive gives, where pages are told
abbrev pub Receives : Option (List Page) → Option Connection → Bytes → ℕ → Type 0
Receives pages connection room n =
    (rows : List Page) (at : Connection) → pages ≡ Some rows → connection ≡ Some at
    → IsReceived (reply_of rows at.authority at.sent) at.received room n

abbrev pub Moves : Option (List Page) → Option Connection → Option Connection → ℕ → Type 0
Moves pages old_at new_at n = (rows : List Page) → pages ≡ Some rows → new_at ≡ received_after old_at (Ok n)

came : (pages : Option (List Page)) (connection : Option Connection) (room reply bytes : Bytes) (n : ℕ)
    (rows : List Page) → Receives pages connection room n
    → pages ≡ Some rows → (k : Carries rows connection reply bytes) → IsReceived reply k.at.received room n
came pages connection room reply bytes n rows r told k =
    subst (λ all. IsReceived all k.at.received room n) k.is_reply (r rows k.at told k.on)

-- n more bytes of the reply were received
carries_on : (pages : Option (List Page)) (old_at new_at : Option Connection) (room reply bytes : Bytes) (n : ℕ)
    (rows : List Page)
    → Moves pages old_at new_at n → Receives pages old_at room n → pages ≡ Some rows
    → Carries rows old_at reply bytes → Carries rows new_at reply (bytes ++ take n room)
carries_on pages old_at new_at room reply bytes n rows goes r told k =
    let c = came pages old_at room reply bytes n rows r told k in
    record {
      at = with_received n k.at;
      on = goes rows told ∙ ap (λ at. received_after at (Ok n)) k.on;
      is_reply = k.is_reply;
      within = c.within;
      so_far = ap (λ front. front ++ take n room) k.so_far ∙ ap (λ more. take k.at.received reply ++ more) c.next
          ∙ take_further reply k.at.received n;
    }

-- what is final over the bytes received is so over the whole reply
pub final_whole : (limit : ℕ) (reply bytes : Bytes) (outcome : Outcome) (rows : List Page)
    (connection : Option Connection)
    → ((limit : ℕ) (bytes rest : Bytes) (outcome : Outcome) → IsOutcome limit bytes outcome → IsFinal outcome
    → IsOutcome limit (bytes ++ rest) outcome)
    → Carries rows connection reply bytes → IsOutcome limit bytes outcome → IsFinal outcome
    → IsOutcome limit reply outcome
final_whole limit reply bytes outcome rows connection stays k o f =
    subst (λ all. IsOutcome limit all outcome) (ap (λ front. front ++ drop k.at.received reply) k.so_far
    ∙ take-append-drop k.at.received reply)
    (stays limit bytes (drop k.at.received reply) outcome o f)

-- where nothing more came all was received
all_came : (pages : Option (List Page)) (connection : Option Connection) (room reply bytes : Bytes) (n limit : ℕ)
    (outcome : Outcome) (rows : List Page)
    → Receives pages connection room n → pages ≡ Some rows → Carries rows connection reply bytes → n ≡ 0
    → 0 < length room
    → IsOutcome limit bytes outcome → IsOutcome limit reply outcome
all_came pages connection room reply bytes n limit outcome rows r told k none some o =
    let c = came pages connection room reply bytes n rows r told k in
    subst (λ all. IsOutcome limit all outcome) (k.so_far
    ∙ take_all k.at.received reply (omega (arith, c.end none some))) o

-- a step after which more may come
pub steps_on : (told pages : Option (List Page)) (old_at new_at : Option Connection) (old now : ReplyReader)
    (limit : ℕ) (reply room into_old into_new : Bytes) (before : Outcome) (n size : ℕ)
    → IsToldOf told pages → (h : IsHearing told old_at old limit reply before) → Moves pages old_at new_at n
    → Receives pages old_at room n
    → n ≤ length room → length room ≡ size
    → Feeds old now limit h.bytes (take n room) before into_old into_new (Ok Again)
    → HearsFew More told new_at now limit reply before size into_old into_new
steps_on told pages old_at new_at old now limit reply room into_old into_new before n size of h goes r within long f =
    record {
      hears = record {
        after = f.after;
        hearing = record {
          bytes = h.bytes ++ take n room;
          read = f.read;
          carried = λ rows is. carries_on pages old_at new_at room reply h.bytes n rows goes r (of rows is)
              (h.carried rows is);
        };
        more = f.more;
        goes_on = f.goes_on;
        gives = f.gives;
      };
      few = omega (arith, ap length f.gives, length-append into_old f.more, f.few, length-take n room, within, long);
    }

pub step_nearer : (old now : ReplyReader) (limit : ℕ) (bytes room into_old into_new : Bytes) (before : Outcome) (n : ℕ)
    → n ≤ length room → n ≢ 0 → Feeds old now limit bytes (take n room) before into_old into_new (Ok Again)
    → left_of now < left_of old
step_nearer old now limit bytes room into_old into_new before n within some f = omega
    (arith, f.nearer refl, length-take n room, within, some)

-- the laws of replies that a step rests on
pub record Laws : Type 0 where
  pub stays : (limit : ℕ) (bytes rest : Bytes) (outcome : Outcome) → IsOutcome limit bytes outcome → IsFinal outcome
      → IsOutcome limit (bytes ++ rest) outcome
  pub closes : (limit : ℕ) (bytes : Bytes) (outcome : Outcome) → IsOutcome limit bytes outcome → IsFinal outcome
      → outcome.closed ≡ closed_by outcome.fed
  pub shows : (reader : ReplyReader) (limit : ℕ) (bytes : Bytes) (outcome : Outcome)
      → HasRead reader limit bytes outcome → IsShown outcome.seen (shown_head reader)
  pub reads : (reader : ReplyReader) (limit : ℕ) (bytes : Bytes) (outcome : Outcome)
      → HasRead reader limit bytes outcome → IsOutcome limit bytes outcome
  pub full : (limit : ℕ) (bytes : Bytes) (outcome : Outcome) → IsOutcome limit bytes outcome
      → outcome.closed ≡ Err BodyTooLong → length outcome.content ≡ limit

-- the step at which the reply is whole or refused
pub steps_last : (told pages : Option (List Page)) (old_at new_at : Option Connection) (old now : ReplyReader)
    (limit : ℕ) (reply room into_old into_new : Bytes) (before : Outcome) (n size : ℕ) (answer : Result Fed ReplyErr)
    → Laws → IsToldOf told pages → (h : IsHearing told old_at old limit reply before) → Moves pages old_at new_at n
    → Receives pages old_at room n
    → n ≤ length room → length room ≡ size
    → Feeds old now limit h.bytes (take n room) before into_old into_new answer → IsFinalAnswer answer
    → HearsFew (Ended (closed_by answer)) told new_at now limit reply before size into_old into_new
steps_last told pages old_at new_at old now limit reply room into_old into_new before n size answer laws of h goes r
    within long f final =
    let bytes = h.bytes ++ take n room in
    let o : IsOutcome limit bytes f.after = laws.reads now limit bytes f.after f.read in
    let ends : IsFinal f.after = subst IsFinalAnswer f.answer final in
    let e : closed_by answer ≡ f.after.closed = ap closed_by f.answer ∙ sym (laws.closes limit bytes f.after o ends) in
    record {
      hears = record {
        bytes = bytes;
        whole = f.after;
        is_outcome = o;
        of_reply = λ rows is. final_whole limit reply bytes f.after rows new_at laws.stays
            (carries_on pages old_at new_at room reply h.bytes n rows goes r (of rows is) (h.carried rows is)) o ends;
        answer = e;
        full = λ long. laws.full limit bytes f.after o (sym e ∙ long);
        shown = laws.shows now limit bytes f.after f.read;
        more = f.more;
        goes_on = f.goes_on;
        gives = f.gives;
      };
      few = omega (arith, ap length f.gives, length-append into_old f.more, f.few, length-take n room, within, long);
    }

-- the connection ended
pub steps_end : (told pages : Option (List Page)) (old_at new_at : Option Connection) (old now : ReplyReader)
    (limit : ℕ) (reply room into : Bytes) (before : Outcome) (n size : ℕ) (ended : Result (Unit {0}) ReplyErr)
    → Laws → shown_head now ≡ shown_head old → IsToldOf told pages
    → (h : IsHearing told old_at old limit reply before) → Receives pages old_at room n
    → n ≡ 0 → 0 < length room → ended ≡ before.closed
    → HearsFew (Ended ended) told new_at now limit reply before size into into
steps_end told pages old_at new_at old now limit reply room into before n size ended laws same_head of h r none some e =
    let o : IsOutcome limit h.bytes before = laws.reads old limit h.bytes before h.read in
    record {
      hears = record {
        bytes = h.bytes;
        whole = before;
        is_outcome = o;
        of_reply = λ rows is. all_came pages old_at room reply h.bytes n limit before rows r (of rows is)
            (h.carried rows is) none some o;
        answer = e;
        full = λ long. laws.full limit h.bytes before o (sym e ∙ long);
        shown = subst (IsShown before.seen) (sym same_head) (laws.shows old limit h.bytes before h.read);
        more = [];
        goes_on = sym (append-nil before.content);
        gives = sym (append-nil into);
      };
      few = omega arith;
    }

-- a step and then the last
pub last_then : (told : Option (List Page)) (connection : Option Connection) (reader last : ReplyReader) (limit : ℕ)
    (reply into_0 into_1 into_2 : Bytes) (before : Outcome) (ended : Result (Unit {0}) ReplyErr)
    → (s : HearsOn told connection reader limit reply before into_0 into_1)
    → HearsLast ended told last limit reply s.after into_1 into_2
    → HearsLast ended told last limit reply before into_0 into_2
last_then told connection reader last limit reply into_0 into_1 into_2 before ended s t =
    record {
      bytes = t.bytes;
      whole = t.whole;
      is_outcome = t.is_outcome;
      of_reply = t.of_reply;
      answer = t.answer;
      full = t.full;
      shown = t.shown;
      more = s.more ++ t.more;
      goes_on = t.goes_on ∙ ap (λ front. front ++ t.more) s.goes_on ∙ append_assoc before.content s.more t.more;
      gives = t.gives ∙ ap (λ front. front ++ t.more) s.gives ∙ append_assoc into_0 s.more t.more;
    }

pub on_then : (told : Option (List Page)) (at_1 at_2 : Option Connection) (one two : ReplyReader) (limit : ℕ)
    (reply into_0 into_1 into_2 : Bytes) (before : Outcome)
    → (s : HearsOn told at_1 one limit reply before into_0 into_1)
    → HearsOn told at_2 two limit reply s.after into_1 into_2
    → HearsOn told at_2 two limit reply before into_0 into_2
on_then told at_1 at_2 one two limit reply into_0 into_1 into_2 before s t =
    record {
      after = t.after;
      hearing = t.hearing;
      more = s.more ++ t.more;
      goes_on = t.goes_on ∙ ap (λ front. front ++ t.more) s.goes_on ∙ append_assoc before.content s.more t.more;
      gives = t.gives ∙ ap (λ front. front ++ t.more) s.gives ∙ append_assoc into_0 s.more t.more;
    }

pub on_none : (told : Option (List Page)) (connection : Option Connection) (reader : ReplyReader) (limit : ℕ)
    (reply into : Bytes) (before : Outcome)
    → IsHearing told connection reader limit reply before → HearsOn told connection reader limit reply before into into
on_none told connection reader limit reply into before h =
    record {
      after = before;
      hearing = h;
      more = [];
      goes_on = sym (append-nil before.content);
      gives = sym
          (append-nil into);
    }

-- without pages
pub untold : (pages : Option (List Page)) → IsToldOf None pages
untold pages = λ rows e. absurd (false≢true (ap is_some e))

pub hearing_of : (connection : Option Connection) (reader : ReplyReader) (limit : ℕ) (bytes : Bytes)
    (outcome : Outcome) → HasRead reader limit bytes outcome → IsHearing None connection reader limit [] outcome
hearing_of connection reader limit bytes outcome h =
    record { bytes = bytes; read = h; carried = λ rows e. absurd (false≢true (ap is_some e)) }

-- some bytes are still read after a step
pub some_on : (pages : Option (List Page)) (old_at connection : Option Connection) (old now : ReplyReader)
    (into_old into_new : Bytes)
    → ((told : Option (List Page)) (limit : ℕ) (reply : Bytes) (before : Outcome) → IsToldOf told pages
    → IsHearing told old_at old limit reply before
    → HearsOn told connection now limit reply before into_old into_new)
    → HasReadSome old → HasReadSome now
some_on pages old_at connection old now into_old into_new step h =
    let s = step None h.0 [] h.2 (untold pages) (hearing_of old_at old h.0 h.1 h.2 h.3) in
    (h.0, s.hearing.bytes, s.after, s.hearing.read)

-- the step of a loop: what is so of the step is so of all of them
pub loop_on : (told pages pages_now : Option (List Page)) (at_1 at_2 : Option Connection) (one two : ReplyReader)
    (limit : ℕ) (reply into_0 into_1 into_2 : Bytes) (before : Outcome) (most : ℕ)
    → pages_now ≡ pages → IsToldOf told pages → HearsOn told at_1 one limit reply before into_0 into_1
    → ((told : Option (List Page)) (limit : ℕ) (reply : Bytes) (before : Outcome) → IsToldOf told pages_now
    → IsHearing told at_1 one limit reply before
    → HearsFew More told at_2 two limit reply before most into_1 into_2)
    → HearsOn told at_2 two limit reply before into_0 into_2
loop_on told pages pages_now at_1 at_2 one two limit reply into_0 into_1 into_2 before most same of s step =
    on_then told at_1 at_2 one two limit reply into_0 into_1 into_2 before s
    (step told limit reply s.after (λ rows is. same ∙ of rows is) s.hearing).hears

pub loop_last : (told pages pages_now : Option (List Page)) (at_1 at_2 : Option Connection) (one two : ReplyReader)
    (limit : ℕ) (reply into_0 into_1 into_2 : Bytes) (before : Outcome) (most : ℕ) (ended : Result (Unit {0}) ReplyErr)
    → pages_now ≡ pages → IsToldOf told pages → HearsOn told at_1 one limit reply before into_0 into_1
    → ((told : Option (List Page)) (limit : ℕ) (reply : Bytes) (before : Outcome) → IsToldOf told pages_now
    → IsHearing told at_1 one limit reply before
    → HearsFew (Ended ended) told at_2 two limit reply before most into_1 into_2)
    → HearsLast ended told two limit reply before into_0 into_2
loop_last told pages pages_now at_1 at_2 one two limit reply into_0 into_1 into_2 before most ended same of s step =
    last_then told at_1 one two limit reply into_0 into_1 into_2 before ended s
    (step told limit reply s.after (λ rows is. same ∙ of rows is) s.hearing).hears

pub some_after : (pages : Option (List Page)) (at_1 at_2 : Option Connection) (one two : ReplyReader)
    (into_1 into_2 : Bytes) (most : ℕ)
    → ((told : Option (List Page)) (limit : ℕ) (reply : Bytes) (before : Outcome) → IsToldOf told pages
    → IsHearing told at_1 one limit reply before
    → HearsFew More told at_2 two limit reply before most into_1 into_2)
    → ¬ ¬ (HasReadSome one) → ¬ ¬ (HasReadSome two)
some_after pages at_1 at_2 one two into_1 into_2 most step some = λ none.
    some (λ h. none (some_on pages at_1 at_2 one two into_1 into_2 (λ told limit reply before of is.
    (step told limit reply before of is).hears) h))

-- the first content of a reply, or its end
pub first_step : (step : Step) (told pages pages_now : Option (List Page)) (at_1 at_2 : Option Connection)
    (one two : ReplyReader) (limit : ℕ) (reply into_0 into_1 into_2 : Bytes) (before : Outcome) (most size : ℕ)
    → pages_now ≡ pages → IsToldOf told pages → into_0 ≡ [] → into_1 ≡ [] → most ≡ size
    → HearsOn told at_1 one limit reply before into_0 into_1
    → ((told : Option (List Page)) (limit : ℕ) (reply : Bytes) (before : Outcome) → IsToldOf told pages_now
    → IsHearing told at_1 one limit reply before
    → HearsFew step told at_2 two limit reply before most into_1 into_2)
    → HearsFew step told at_2 two limit reply before size [] into_2
first_step More told pages pages_now at_1 at_2 one two limit reply into_0 into_1 into_2 before most size same of none
    empty room s step =
    let t = step told limit reply s.after (λ rows is. same ∙ of rows is) s.hearing in
    record {
      hears = subst (λ k. HearsOn told at_2 two limit reply before k into_2) none
          (on_then told at_1 at_2 one two limit reply into_0 into_1 into_2 before s t.hears);
      few = omega (arith, t.few, ap length empty, room);
    }
first_step (Ended ended) told pages pages_now at_1 at_2 one two limit reply into_0 into_1 into_2 before most size same
    of none empty room s step =
    let t = step told limit reply s.after (λ rows is. same ∙ of rows is) s.hearing in
    record {
      hears = subst (λ k. HearsLast ended told two limit reply before k into_2) none
          (last_then told at_1 one two limit reply into_0 into_1 into_2 before ended s t.hears);
      few = omega (arith, t.few, ap length empty, room);
    }

-- what is so where pages are told is so of those that are told
pub hearing_told : (told pages : Option (List Page)) (connection : Option Connection) (reader : ReplyReader)
    (limit : ℕ) (reply : Bytes) (outcome : Outcome)
    → IsToldOf told pages → IsHearing pages connection reader limit reply outcome
    → IsHearing told connection reader limit reply outcome
hearing_told told pages connection reader limit reply outcome of h =
    record { bytes = h.bytes; read = h.read; carried = λ rows e. h.carried rows (of rows e) }
