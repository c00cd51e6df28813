-- What a claim answers, by the first free keys of needs and hints in order.
use Rattle.std.proofs.Common.{◌≡◌, ℕ, ◌<◌, ◌≤◌, arith, ◌⊎◌, inl, inr, Bool, true, false, not, ◌&&◌, Option, Some, None, List, filter, length, get_or, refl, sym, ◌∙◌, ap, true≢false}
use Rattle.std.specs.List.{list_all}
use Rattle.std.specs.Prelude.{nat_lt, slice_get}
use Rattle.std.proofs.lemmas.Bool.{and_parts}
use Rattle.std.proofs.lemmas.Option.{get_or_from_slice_get, slice_get_cases, slice_get_within}
use Rattle.claim_agenda.proofs.Members.{Place, all_pass, among_at, each_passes, passed, passes, place_of}
use Rattle.claim_agenda.proofs.Queues.{Decided, LeastLaws, least_free, same_least}
use Rattle.claim_agenda.specs.Agendas.{IsQueue, SameKeys}
use Rattle.claim_agenda.specs.Answering.{all_broken, answer_from, hint_from, need_from}
use Rattle.claim_rules.specs.Claims.{free_among, is_free, of_hint, of_need, unless_over, unless_stuck}
use Rattle.claim_rules.specs.Counts.{claims, is_broken}
use Rattle.claim_rules.specs.Histories.{History, any_in_flight, in_flight, known_in}
use Rattle.claim_rules.specs.Least.{least}
use Rattle.claim_rules.specs.Sessions.{is_known}
use Rattle.claim_rules.specs.declared.claim.Claim.{Claim}
use Rattle.claim_rules.specs.declared.claim.Claim.TheVariants.{Stuck, NoneNow}
use Rattle.claim_rules.specs.declared.settings.Settings.{Settings}
use Rattle.res_base.specs.Members.{Among}
use Rattle.res_base.specs.declared.key.FileKey.{FileKey}

-- ---- a free key

pub record FreeKey (retries : ℕ) (h : History) (key : FileKey) : Type 0 where
  pub unknown : is_known (known_in h) key ≡ false
  pub landed : in_flight h key ≡ false
  pub whole : is_broken retries h key ≡ false

is_not : (b : Bool) → not b ≡ true → b ≡ false
is_not true e = absurd (true≢false (sym e))
is_not false e = refl

pub free_key : (retries : ℕ) (h : History) (key : FileKey) → is_free retries h key ≡ true → FreeKey retries h key
free_key retries h key e =
    let one = and_parts (not (is_known (known_in h) key)) (not (in_flight h key) && not (is_broken retries h key)) e in
    let two = and_parts (not (in_flight h key)) (not (is_broken retries h key)) one.1 in
    record {
      unknown = is_not (is_known (known_in h) key) one.0;
      landed = is_not (in_flight h key) two.0;
      whole = is_not (is_broken retries h key) two.1;
    }

-- where it is neither known nor in flight, it is broken
pub broken_key : (retries : ℕ) (h : History) (key : FileKey) → is_free retries h key ≡ false → is_known (known_in h) key ≡ false
    → in_flight h key ≡ false → is_broken retries h key ≡ true
broken_key retries h key busy unknown landed = by (is_broken retries h key) (rw (unknown, landed) at busy)
  where
    by : (b : Bool) → not b ≡ false → b ≡ true
    by true e = refl
    by false e = absurd (true≢false e)

and_false : (a : Bool) → (a && false) ≡ false
and_false true = refl
and_false false = refl

all_false : (test : FileKey → Bool) (keys : List FileKey) (key : FileKey) → Among key keys → test key ≡ false → list_all test keys ≡ false
all_false test keys key m e = by (list_all test keys) refl
  where
    by : (b : Bool) → list_all test keys ≡ b → list_all test keys ≡ false
    by true all = absurd (true≢false (sym (each_passes test keys all key m) ∙ e))
    by false all = all

of_any_hint : (room : Bool) (key : FileKey) (hint : Claim) → of_need (Some key) room NoneNow ≡ of_need (Some key) room hint
of_any_hint true key hint = refl
of_any_hint false key hint = refl

fails : (b c : Bool) → (b ≡ true → c ≡ true) → c ≡ false → b ≡ false
fails true c so no_c = absurd (true≢false (sym (so refl) ∙ no_c))
fails false c so no_c = refl

beyond : (keys : List FileKey) (place : ℕ) → length keys ≤ place → slice_get keys place ≡ None
beyond keys place past = by (slice_get_cases keys place).1
  where
    by : ((x : FileKey) × (place < length keys) × (slice_get keys place ≡ Some x) × (get_or keys place x ≡ x))
        ⊎ ((length keys ≤ place) × (slice_get keys place ≡ None)) → slice_get keys place ≡ None
    by (inl found) = absurd (omega (arith, past, found.1))
    by (inr none) = none.1

module _ (decided : Decided) (laws : LeastLaws) (s : Settings) (h : History) (needs hints : List FileKey) where
  abbrev Free : FileKey → Bool
  Free = is_free s.retries h

  abbrev hint : Claim
  hint = hint_from s h hints

  unstuck : all_broken s h needs ≡ false → answer_from s h false needs hints ≡ need_from s h needs hints
  unstuck e = ap (λ b. unless_stuck b (least needs) (need_from s h needs hints)) e

  -- some need is free
  pub need_answers : (place : ℕ) → IsQueue Free needs place
      → ((d : FileKey) → place < length needs → Free (get_or needs place d) ≡ true)
      → (key : FileKey) → slice_get needs place ≡ Some key
      → of_need (Some key) (nat_lt (claims h) s.limits.claims) NoneNow ≡ answer_from s h false needs hints
  need_answers place queue here key is =
      let within : place < length needs = slice_get_within needs place key is in
      let at : get_or needs place key ≡ key = get_or_from_slice_get needs place key key is in
      let free : Free key ≡ true = ap Free (sym at) ∙ here key within in
      let first : least (free_among s.retries h needs) ≡ Some key = least_free decided laws Free needs place queue here ∙ is in
      let some_whole : list_all (is_broken s.retries h) needs ≡ false =
      all_false (is_broken s.retries h) needs key (among_at needs place key key within at) (free_key s.retries h key free).whole in
      of_any_hint (nat_lt (claims h) s.limits.claims) key hint
      ∙ ap (λ o. of_need o (nat_lt (claims h) s.limits.claims) hint) (sym first)
      ∙ sym (unstuck (ap (λ b. b && not (any_in_flight h)) some_whole))

  -- no need is free
  module _ (place : ℕ) (queue : IsQueue Free needs place) (none : length needs ≤ place) where
    busy : (key : FileKey) → Among key needs → Free key ≡ false
    busy key m =
        let p : Place needs key = place_of needs key m in
        ap Free (sym (p.is key)) ∙ queue.busy p.at key (omega (arith, p.within, none))

    first_need : least needs ≡ slice_get needs 0
    first_need =
        let every : FileKey → Bool = λ key. true in
        let all : SameKeys needs (filter every needs) =
        record { there = λ key m. passes every key needs refl m; back = λ key m. (passed every key needs m).member } in
        let first : IsQueue every needs 0 =
        record { sorted = queue.sorted; within = omega arith; busy = λ k d under. absurd (omega (arith, under)) } in
        same_least decided laws needs (filter every needs) all ∙ least_free decided laws every needs 0 first (λ d within. refl)

    pub stuck_answers : any_in_flight h ≡ false → ((key : FileKey) → in_flight h key ≡ true → any_in_flight h ≡ true)
        → ((key : FileKey) → Among key needs → is_known (known_in h) key ≡ false)
        → (key : FileKey) → slice_get needs 0 ≡ Some key → Stuck key ≡ answer_from s h false needs hints
    stuck_answers calm any unknown key is =
        let landed = λ (one : FileKey). fails (in_flight h one) (any_in_flight h) (any one) calm in
        let broken : list_all (is_broken s.retries h) needs ≡ true =
        all_pass (is_broken s.retries h) needs (λ one m. broken_key s.retries h one (busy one m) (unknown one m) (landed one)) in
        let stuck : all_broken s h needs ≡ true = ap (λ b. b && not (any_in_flight h)) broken ∙ ap not calm in
        ap (λ o. unless_stuck true o (need_from s h needs hints)) (sym (first_need ∙ is))
        ∙ ap (λ b. unless_stuck b (least needs) (need_from s h needs hints)) (sym stuck)

    pub hint_answers : any_in_flight h ≡ true → (at : ℕ) → IsQueue Free hints at
        → ((d : FileKey) → at < length hints → Free (get_or hints at d) ≡ true)
        → of_hint (slice_get hints at) (nat_lt (claims h) s.limits.hint_claims) ≡ answer_from s h false needs hints
    hint_answers flying at hint_queue here =
        let needless : least (free_among s.retries h needs) ≡ None =
        least_free decided laws Free needs place queue (λ d within. absurd (omega (arith, within, none))) ∙ beyond needs place none in
        let going : all_broken s h needs ≡ false =
        ap (λ b. list_all (is_broken s.retries h) needs && not b) flying ∙ and_false (list_all (is_broken s.retries h) needs) in
        ap (λ o. of_hint o (nat_lt (claims h) s.limits.hint_claims)) (sym (least_free decided laws Free hints at hint_queue here))
        ∙ ap (λ o. of_need o (nat_lt (claims h) s.limits.claims) hint) (sym needless)
        ∙ sym (unstuck going)

-- ---- the same needs and hints in another order

module _ (decided : Decided) (laws : LeastLaws) (s : Settings) (h : History) where
  same_all : (test : FileKey → Bool) (one other : List FileKey) → SameKeys one other → list_all test one ≡ list_all test other
  same_all test one other same = both (list_all test one) (list_all test other)
      (λ e. all_pass test other (λ key m. each_passes test one e key (same.back key m)))
      (λ e. all_pass test one (λ key m. each_passes test other e key (same.there key m)))
    where
      both : (a b : Bool) → (a ≡ true → b ≡ true) → (b ≡ true → a ≡ true) → a ≡ b
      both true b to from = sym (to refl)
      both false true to from = from refl
      both false false to from = refl

  same_free : (one other : List FileKey) → SameKeys one other
      → least (free_among s.retries h one) ≡ least (free_among s.retries h other)
  same_free one other same =
      let free : FileKey → Bool = is_free s.retries h in
      same_least decided laws (filter free one) (filter free other) (record {
        there = λ key m. let p = passed free key one m in passes free key other p.is (same.there key p.member);
        back = λ key m. let p = passed free key other m in passes free key one p.is (same.back key p.member);
      })

  pub same_answer : (over : Bool) (needs hints others more : List FileKey) → SameKeys needs others → SameKeys hints more
      → answer_from s h over needs hints ≡ answer_from s h over others more
  same_answer over needs hints others more same same_too =
      let room = nat_lt (claims h) s.limits.claims in
      let hint_room = nat_lt (claims h) s.limits.hint_claims in
      let flies = not (any_in_flight h) in
      let from = λ (all : Bool) (first free hint : Option FileKey).
      unless_over over (unless_stuck (all && flies) first (of_need free room (of_hint hint hint_room))) in
      let broken = is_broken s.retries h in
      let firsts = λ (keys : List FileKey). least (free_among s.retries h keys) in
      ap (λ b. from b (least needs) (firsts needs) (firsts hints)) (same_all broken needs others same)
      ∙ ap (λ o. from (list_all broken others) o (firsts needs) (firsts hints)) (same_least decided laws needs others same)
      ∙ ap (λ o. from (list_all broken others) (least others) o (firsts hints)) (same_free needs others same)
      ∙ ap (λ o. from (list_all broken others) (least others) (firsts others) o) (same_free hints more same_too)
