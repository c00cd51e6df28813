-- The places of a body and the grammar of chunks agree.
use Rattle.std.proofs.Common.{◌≡◌, inl, inr, ℕ, ◌+◌, ◌-◌, ◌<◌, ◌≤◌, Bool, true, false, nat_lt, [], ◌∷◌, ◌++◌, length, length-append, take, drop, take-append-drop, refl, sym, ap, ◌∙◌, subst, arith, append_assoc, append-nil}
use Rattle.std.proofs.Math.Seq.{take-append_seam, take-append-add}
use Rattle.std.proofs.lemmas.List.{take-append-le}
use Rattle.std.proofs.lemmas.Bool.Decides.{nat_tests}
use Rattle.fault_place.specs.Place.{GoesOn}
use Rattle.http_wire.specs.declared.body_places.BodyPlace.{BodyPlace}
use Rattle.http_wire.specs.declared.body_places.BodyPlace.TheVariants.{ChunkSize, Whole, Refused}
use Rattle.http_wire.specs.declared.replies.ReplyErr.TheVariants.{BadChunk, BodyTooLong}
use Rattle.http_wire.specs.Fields.{Bytes}
use Rattle.http_chunks.specs.Chunks.{IsChunks, IsChunkedBody}
use Rattle.http_chunks.specs.Readings.{IsReadWhole, BeginsChunks, IsBadChunk, LeavesChunks, IsTooLong, PassesLimit}
use Rattle.http_chunks.proofs.Places.{place_after, byte_at, run, gives, run-append, gives-append, run_whole, gives_whole, IsOpen, IsStop, stop_of, run_leads, Leads, leads, run_refused}
use Rattle.http_chunks.proofs.Limits.{Limited, limited, past_of}
use Rattle.http_chunks.proofs.Rests.{Rest, chunks_rest, rest_chunks, at_end}
use Rattle.http_chunks.proofs.Steps.{less_of, more_of}
use Rattle.http_chunks.proofs.Alive.{alive}

-- a run takes its bytes from what may follow
pub record RunLess (place : BodyPlace) (bytes rest content : Bytes) : Type 0 where
  pub less : Bytes
  pub rests : Rest (run place bytes) rest less
  pub gives_is : content ≡ gives place bytes ++ less

run_less : (place : BodyPlace) (bytes rest content : Bytes) → Rest place (bytes ++ rest) content
    → RunLess place bytes rest content
run_less place [] rest content r = record { less = content; rests = r; gives_is = refl }
run_less place (b ∷ bytes) rest content r =
    let l = less_of place b (bytes ++ rest) content r in
    let m = run_less (place_after place b) bytes rest l.less l.rests in
    record {
      less = m.less;
      rests = m.rests;
      gives_is = l.gives ∙ ap (λ k. byte_at place b ++ k) m.gives_is
          ∙ sym (append_assoc (byte_at place b) (gives (place_after place b) bytes) m.less);
    }

-- and puts them in front of it, where the places are open
run_more : (place : BodyPlace) (bytes rest content : Bytes) → IsOpen place → IsOpen (run place bytes)
    → Rest (run place bytes) rest content → Rest place (bytes ++ rest) (gives place bytes ++ content)
run_more place [] rest content o end r = r
run_more place (b ∷ bytes) rest content o end r =
    by_way (leads place b o) (λ open_next. run_more (place_after place b) bytes rest content open_next end r)
  where
    by_way : Leads (place_after place b)
        → (IsOpen (place_after place b)
        → Rest (place_after place b) (bytes ++ rest) (gives (place_after place b) bytes ++ content))
        → Rest place (b ∷ (bytes ++ rest)) (gives place (b ∷ bytes) ++ content)
    by_way (inl open_next) goes_on =
        subst (Rest place (b ∷ (bytes ++ rest)))
        (sym (append_assoc (byte_at place b) (gives (place_after place b) bytes) content))
        (more_of place b (bytes ++ rest) (gives (place_after place b) bytes ++ content) o
        (goes_on open_next))
    by_way (inr (inl whole)) goes_on =
        absurd (subst IsOpen (ap (λ p. run p bytes) whole ∙ run_whole bytes) end)
    by_way (inr (inr refused)) goes_on =
        absurd (subst IsOpen (ap (λ p. run p bytes) refused ∙ run_refused BadChunk bytes) end)

abbrev start : BodyPlace
start = ChunkSize 0 0

start_open : IsOpen start
start_open = omega arith

-- a body of chunks is run to its end
pub chunks_run : (text content : Bytes) → IsChunks text content → (run start text ≡ Whole) × (content ≡ gives start text)
chunks_run text content c =
    let r = run_less start text [] content (subst (λ k. Rest start k content) (sym (append-nil text))
    (chunks_rest text content c)) in
    let e = at_end (run start text) r.less r.rests in
    (e.0, r.gives_is ∙ ap (λ k. gives start text ++ k) e.1 ∙ append-nil (gives start text))

-- bytes that are run to the end begin with one
pub record RunsChunks (bytes : Bytes) : Type 0 where
  pub text : Bytes
  pub rest : Bytes
  pub cut : bytes ≡ text ++ rest
  pub chunks : IsChunks text (gives start bytes)

run_chunks : (bytes : Bytes) → run start bytes ≡ Whole → RunsChunks bytes
run_chunks bytes e =
    let s = stop_of start Whole bytes start_open e tt in
    let text = s.front ++ (s.byte ∷ []) in
    let q = run start s.front in
    let last : Rest q (s.byte ∷ []) (byte_at q s.byte ++ []) = more_of q s.byte [] [] s.at_front
    (subst (λ p. Rest p [] []) (sym s.stops) (refl, refl)) in
    let all : Rest start text (gives start s.front ++ (byte_at q s.byte ++ [])) = run_more start s.front
    (s.byte ∷ []) (byte_at q s.byte ++ []) start_open s.at_front last in
    let cut : bytes ≡ text ++ s.back = s.cut ∙ sym (append_assoc s.front (s.byte ∷ []) s.back) in
    let behind : gives (place_after q s.byte) s.back ≡ [] = ap (λ p. gives p s.back) s.stops ∙ gives_whole s.back in
    let given : gives start bytes ≡ gives start s.front ++ (byte_at q s.byte ++ []) = ap (gives start) s.cut
    ∙ gives-append start s.front (s.byte ∷ s.back)
    ∙ ap (λ k. gives start s.front ++ (byte_at q s.byte ++ k)) behind in
    record {
      text = text;
      rest = s.back;
      cut = cut;
      chunks = subst (IsChunks text) (sym given) (rest_chunks text (gives start s.front ++ (byte_at q s.byte ++ []))
          all);
    }

-- the law, part by part
whole_of : (limit : ℕ) (bytes content : Bytes) → Limited start limit bytes → run start bytes ≡ Whole
    → gives start bytes ≡ content → length content ≤ limit → IsReadWhole limit bytes content
whole_of limit bytes content (inl (at, is, room)) whole given few = record { whole = at ∙ whole; given = is ∙ given }
whole_of limit bytes content (inr (at, long)) whole given few = absurd (omega (arith, long, few, ap length given))

-- a body of chunks, whatever follows it, is run to its end and gives its content
runs_through : (text rest content : Bytes) → IsChunks text content
    → (run start (text ++ rest) ≡ Whole) × (gives start (text ++ rest) ≡ content)
runs_through text rest content c =
    let r = chunks_run text content c in (
      run-append start text rest ∙ ap (λ p. run p rest) r.0 ∙ run_whole rest,
      gives-append start text rest ∙ ap (λ p. gives start text ++ gives p rest) r.0
          ∙ ap (λ k. gives start text ++ k) (gives_whole rest) ∙ append-nil (gives start text) ∙ sym r.1,
    )

pub reads_whole : (limit : ℕ) (text rest content : Bytes) → IsChunks text content → length content ≤ limit
    → IsReadWhole limit (text ++ rest) content
reads_whole limit text rest content c few =
    let r = runs_through text rest content c in
    whole_of limit (text ++ rest) content (limited (text ++ rest) start limit) r.0 r.1 few

pub too_long : (limit : ℕ) (text rest content : Bytes) → IsChunks text content → limit < length content
    → IsTooLong limit (text ++ rest)
too_long limit text rest content c more =
    by_limit (limited (text ++ rest) start limit) (ap length (runs_through text rest content c).1)
  where
    by_limit : Limited start limit (text ++ rest) → length (gives start (text ++ rest)) ≡ length content
        → IsTooLong limit (text ++ rest)
    by_limit (inl (at, is, few)) e = absurd (omega (arith, few, more, e))
    by_limit (inr (at, long)) e = at

pub begins_chunks : (limit : ℕ) (bytes content : Bytes) → IsReadWhole limit bytes content → BeginsChunks bytes content
begins_chunks limit bytes content r = by_limit (limited bytes start limit)
  where
    by_limit : Limited start limit bytes → BeginsChunks bytes content
    by_limit (inl (at, is, few)) =
        let c = run_chunks bytes (sym at ∙ r.whole) in
        record {
          text = c.text;
          rest = c.rest;
          cut = c.cut;
          chunks = subst (IsChunks c.text) (sym is ∙ r.given) c.chunks;
        }
    by_limit (inr (at, long)) = let same : Refused BodyTooLong ≡ Whole = sym at ∙ r.whole in cc

take_one_more : (front back : Bytes) (b : ℕ) → take (length front + 1) (front ++ b ∷ back) ≡ front ++ b ∷ []
take_one_more front back b =
    let cut : front ++ b ∷ back ≡ (front ++ b ∷ []) ++ back = sym (append_assoc front (b ∷ []) back) in
    let long : length front + 1 ≡ length (front ++ b ∷ []) = omega (arith, length-append front (b ∷ [])) in
    ap (λ k. take (length front + 1) k) cut ∙ ap (λ n. take n ((front ++ b ∷ []) ++ back)) long
    ∙ take-append_seam (front ++ b ∷ []) back

-- at a stop no body of chunks goes on
stops_inside : (front rest content : Bytes) (b : ℕ) → place_after (run start front) b ≡ Refused BadChunk
    → IsChunks (front ++ b ∷ rest) content → ⊥
stops_inside front rest content b stops c =
    let r = run_less start front (b ∷ rest) content (chunks_rest (front ++ b ∷ rest) content c) in
    let l = less_of (run start front) b rest r.less r.rests in
    subst (λ p. Rest p rest l.less) stops l.rests

-- from an open place one goes on
goes_from : (front : Bytes) → IsOpen (run start front) → GoesOn IsChunkedBody front
goes_from front o =
    let a = alive (run start front) o in (
      a.rest,
      (
        gives start front ++ a.content,
        rest_chunks (front ++ a.rest) (gives start front ++ a.content)
            (run_more start front a.rest a.content start_open o a.rests),
      ),
    )

open_unfinished : (front content : Bytes) → IsOpen (run start front) → IsChunks front content → ⊥
open_unfinished front content o c = subst IsOpen (chunks_run front content c).0 o

stop_leaves : (bytes : Bytes) → IsStop start (Refused BadChunk) bytes → LeavesChunks bytes
stop_leaves bytes s =
    let front_is : take (length s.front) bytes ≡ s.front = ap (λ k. take (length s.front) k) s.cut
    ∙ take-append_seam s.front (s.byte ∷ s.back) in
    let more_is : take (length s.front + 1) bytes ≡ s.front ++ s.byte ∷ [] = ap (λ k. take (length s.front + 1) k) s.cut
    ∙ take_one_more s.front s.back s.byte in
    let long : length s.front < length bytes = omega (arith, ap length s.cut, length-append s.front (s.byte ∷ s.back)) in
    record {
      place = length s.front;
      inside = long;
      is_place = record {
        within = omega (arith, long);
        outside = λ (content, c). stops_inside s.front s.back content s.byte s.stops (subst (λ k. IsChunks k content)
            s.cut c);
        goes_on = subst (GoesOn IsChunkedBody) (sym front_is) (goes_from s.front s.at_front);
        no_more = λ _ (rest, (content, c)). stops_inside s.front rest content s.byte s.stops
            (subst (λ k. IsChunks k content) (ap (λ k. k ++ rest) more_is ∙ append_assoc s.front (s.byte ∷ []) rest) c);
      };
      unfinished = λ (content, c). open_unfinished s.front content s.at_front (subst (λ k. IsChunks k content) front_is c);
    }

pub leaves_chunks : (limit : ℕ) (bytes : Bytes) → IsBadChunk limit bytes → LeavesChunks bytes
leaves_chunks limit bytes bad = by_limit (limited bytes start limit)
  where
    by_limit : Limited start limit bytes → LeavesChunks bytes
    by_limit (inl (at, is, few)) = stop_leaves bytes (stop_of start (Refused BadChunk) bytes start_open (sym at ∙ bad) tt)
    by_limit (inr (at, long)) = let same : Refused BodyTooLong ≡ Refused BadChunk = sym at ∙ bad in cc

-- no text follows a whole body
nothing_behind : (text more content other : Bytes) → IsChunks text content → IsChunks (text ++ more) other → more ≡ []
nothing_behind text more content other c d =
    let r = run_less start text more other (chunks_rest (text ++ more) other d) in
    (subst (λ p. Rest p more r.less) (chunks_run text content c).0 r.rests).0

no_first : (a b : Bytes) → a ++ b ≡ [] → a ≡ []
no_first [] b e = refl
no_first (x ∷ a) b e = absurd (empty_not x (a ++ b) e)
  where
    empty_not : (y : ℕ) (ys : Bytes) → y ∷ ys ≡ [] → ⊥
    empty_not y ys e = cc

-- bytes that begin with a whole body leave no grammar before its end
whole_stays : (bytes : Bytes) → RunsChunks bytes → LeavesChunks bytes → ⊥
whole_stays bytes c l = by_place (nat_lt l.place (length c.text)) refl
  where
    by_place : (t : Bool) → nat_lt l.place (length c.text) ≡ t → ⊥
    by_place true e =
        let less : l.place + 1 ≤ length c.text = grind (arith, nat_tests, e) in
        let front : take (l.place + 1) bytes ≡ take (l.place + 1) c.text = ap (λ k. take (l.place + 1) k) c.cut
        ∙ take-append-le (l.place + 1) c.text c.rest less in
        l.is_place.no_more l.inside (
          drop (l.place + 1) c.text,
          (
            gives start bytes,
            subst (λ k. IsChunks k
                (gives start bytes)) (sym (ap (λ k. k ++ drop (l.place + 1) c.text) front
                ∙ take-append-drop (l.place + 1) c.text)) c.chunks,
          ),
        )
    by_place false e =
        let far : length c.text ≤ l.place = grind (arith, nat_tests, e) in
        let n = l.place - length c.text in
        let more = take n c.rest in
        let count : l.place ≡ length c.text + n = omega (arith, far) in
        let front : take l.place bytes ≡ c.text ++ more = ap (λ k. take l.place k) c.cut
        ∙ ap (λ k. take k (c.text ++ c.rest)) count ∙ take-append-add c.text c.rest n in
        let on = l.is_place.goes_on in
        let other : IsChunks (c.text ++ (more ++ on.0)) on.1.0 = subst (λ k. IsChunks k on.1.0)
        (ap (λ k. k ++ on.0) front ∙ append_assoc c.text more on.0) on.1.1 in
        let none : more ++ on.0 ≡ [] = nothing_behind c.text (more ++ on.0) (gives start bytes) on.1.0 c.chunks other in
        let empty : more ≡ [] = no_first more on.0 none in
        l.unfinished (
          gives start bytes,
          subst (λ k. IsChunks k (gives start bytes)) (sym (front
              ∙ ap (λ k. c.text ++ k) empty ∙ append-nil c.text)) c.chunks,
        )

pub bad_chunk : (limit : ℕ) (bytes : Bytes) → LeavesChunks bytes → ¬ IsTooLong limit bytes → IsBadChunk limit bytes
bad_chunk limit bytes l short = by_way (run_leads start bytes start_open) (limited bytes start limit)
  where
    by_way : Leads (run start bytes) → Limited start limit bytes → IsBadChunk limit bytes
    by_way (inl o) m =
        let on = goes_from bytes o in
        absurd (l.is_place.no_more l.inside (
          drop (l.place + 1) bytes ++ on.0,
          (
            on.1.0,
            subst (λ k. IsChunks k on.1.0)
                (sym (sym (append_assoc (take (l.place + 1) bytes) (drop (l.place + 1) bytes) on.0)
                ∙ ap (λ k. k ++ on.0) (take-append-drop (l.place + 1) bytes))) on.1.1,
          ),
        ))
    by_way (inr (inl whole)) m = absurd (whole_stays bytes (run_chunks bytes whole) l)
    by_way (inr (inr refused)) (inl (at, is, few)) = at ∙ refused
    by_way (inr (inr refused)) (inr (at, long)) = absurd (short at)

pub passes_limit : (limit : ℕ) (bytes : Bytes) → IsTooLong limit bytes → PassesLimit limit bytes
passes_limit limit bytes e =
    let p = past_of bytes start limit start_open e in
    record {
      front = p.front;
      back = p.back;
      cut = p.cut;
      begins = goes_from p.front p.at_front;
      longer = λ rest content c. let r = run_less start p.front rest content (chunks_rest (p.front ++ rest) content c) in
          omega (arith, p.longer, ap length r.gives_is, length-append (gives start p.front) r.less);
    }
