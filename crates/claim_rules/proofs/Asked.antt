-- Which keys are claimed, and how many claims that makes.
use Rattle.std.proofs.Common.{◌≡◌, ⊎_elim, ℕ, ◌+◌, ◌*◌, ◌≤◌, ◌<◌, Bool, true, false, cond, ◌&&◌, List, [], ◌∷◌, ◌++◌, refl, sym, ◌∙◌, ap, subst, arith, length}
use Rattle.std.specs.Prelude.{count_by, if◌then◌else◌}
use Rattle.std.specs.List.{flat_map}
use Rattle.std.proofs.lemmas.List.Sums.{sum_by-cons}
use Rattle.claim_rules.specs.Claims.{claim_of, IsNeedClaim, IsHintClaim}
use Rattle.claim_rules.specs.Counts.{is_of, is_claim, claims, claims_of, claims_that}
use Rattle.claim_rules.specs.Histories.{What, claim, arrive, broke, give_back, Entry, History, key_in, known_in}
use Rattle.claim_rules.specs.Legal.{may_come, MayCome, Legal, StopsFrom}
use Rattle.claim_rules.specs.Resolvers.{Resolver, IsLawful}
use Rattle.claim_rules.specs.Sessions.{needs, later_keys, needed, touched}
use Rattle.claim_rules.specs.declared.claim.Claim.TheVariants.{Claimed}
use Rattle.claim_rules.specs.declared.settings.Settings.{Settings}
use Rattle.claim_rules.proofs.Along.{along_all}
use Rattle.claim_rules.proofs.AnswerLemmas.{claimed_by}
use Rattle.claim_rules.proofs.BaseLaws.{KeyLaws, same_key, key_itself}
use Rattle.claim_rules.proofs.ClaimCounts.{claims_few}
use Rattle.claim_rules.proofs.EntryLemmas.{count_more, Appends, grows_by}
use Rattle.claim_rules.proofs.Members.{in_front, in_back, given_by, gives, GivenBy}
use Rattle.claim_rules.proofs.Resolved.{need_is_needed}
use Rattle.res_base.specs.Known.{Known, Grows}
use Rattle.res_base.specs.Members.{Among, each_once, number_of}
use Rattle.res_base.specs.Names.{key_eq}
use Rattle.res_base.specs.declared.key.FileKey.{FileKey}

abbrev pub count_of : FileKey → List FileKey → ℕ
count_of key keys = count_by (key_eq key) keys

pub count-cons : (key one : FileKey) (keys : List FileKey)
    → count_of key (one ∷ keys) ≡ cond (key_eq key one) 1 0 + count_of key keys
count-cons key one keys = sum_by-cons (λ k. cond (key_eq key k) 1 0) one keys

module _ (appends : Appends) (laws : KeyLaws) {V : Type 0} (s : Settings) (r : Resolver V) (lawful : IsLawful r)
    (whole : Known) where
  -- keys of a kind that account for claims of a history: none more often than it was claimed
  record Listed (Kind : FileKey → Type 0) (h : History) (many : ℕ) : Type 0 where
    keys : List FileKey
    all : many ≤ length keys
    each : (key : FileKey) → count_of key keys ≤ claims_of h key
    kind : (key : FileKey) → Among key keys → Kind key

  none_listed : (Kind : FileKey → Type 0) → Listed Kind [] 0
  none_listed Kind = record { keys = []; all = omega arith; each = λ key. omega arith; kind = λ key m. absurd m }

  claims_now : (h : History) (e : Entry) (key : FileKey)
      → claims_of (h ++ e ∷ []) key ≡ claims_of h key + cond (is_of is_claim key e) 1 0
  claims_now h e key = count_more (is_of is_claim key) h e

  no_more : (Kind : FileKey → Type 0) (h : History) (e : Entry) (many now : ℕ) → now ≤ many → Listed Kind h many
      → Listed Kind (h ++ e ∷ []) now
  no_more Kind h e many now less l =
      record {
        keys = l.keys;
        all = omega (arith, less, l.all);
        each = λ key. omega (arith, l.each key, claims_now h e key);
        kind = l.kind;
      }

  one_more : (Kind : FileKey → Type 0) (h : History) (e : Entry) (one : FileKey) (many now : ℕ) → e.what ≡ claim one
      → now ≤ many + 1 → Kind one → Listed Kind h many → Listed Kind (h ++ e ∷ []) now
  one_more Kind h e one many now is less of_kind l =
      record {
        keys = one ∷ l.keys;
        all = omega (arith, less, l.all);
        each = λ key. rw (count-cons key one l.keys, claims_now h e key, is)
            (counted key (key_eq key one) refl (l.each key));
        kind = λ key m. ⊎_elim (λ same. subst Kind (sym same) of_kind) (l.kind key) m;
      }
    where
      counted : (key : FileKey) (b : Bool) → key_eq key one ≡ b → count_of key l.keys ≤ claims_of h key
          → cond b 1 0 + count_of key l.keys ≤ claims_of h key + cond (key_eq one key) 1 0
      counted key true same before =
          rw (ap (λ k. key_eq one k) (same_key laws.decided key one same), key_itself laws.decided one)
          (omega (arith, before))
      counted key false other before = omega (arith, before)

  before_it : (h : History) (e : Entry) → Grows (known_in (h ++ e ∷ [])) whole → Grows (known_in h) whole
  before_it h e more key reading k = more key reading (grows_by appends h (e ∷ []) key reading k)

  -- ---- claims of needs

  abbrev Needed : FileKey → Type 0
  Needed key = Among key (needed r whole)

  -- all claims but those that hints have room for were of needs
  abbrev NeedClaims : History → Type 0
  NeedClaims h = (many : ℕ) × (claims h ≤ many + s.limits.hint_claims) × Listed Needed h many

  all_now : (h : History) (e : Entry) → claims (h ++ e ∷ []) ≡ claims h + cond (is_claim e.what) 1 0
  all_now h e = count_more (λ (x : Entry). is_claim x.what) h e

  unclaimed : (h : History) (e : Entry) → is_claim e.what ≡ false → NeedClaims h → NeedClaims (h ++ e ∷ [])
  unclaimed h e none n =
      let same : claims (h ++ e ∷ []) ≡ claims h = rw (all_now h e, none) (omega arith) in
      (n.0, omega (arith, n.1, same), no_more Needed h e n.0 n.0 (omega arith) n.2)

  by_claim : (h : History) (e : Entry) (one : FileKey) → e.what ≡ claim one → Grows (known_in h) whole
      → claim_of s r h ≡ Claimed one → NeedClaims h → NeedClaims (h ++ e ∷ [])
  by_claim h e one is more answer n =
      let up : claims (h ++ e ∷ []) ≡ claims h + 1 = rw (all_now h e, is) refl in
      ⊎_elim
      (λ (need : IsNeedClaim s r h one). (
        n.0 + 1,
        omega (arith, n.1, up),
        one_more Needed h e one n.0 (n.0 + 1) is (omega arith)
            (need_is_needed r lawful (known_in h) whole more one need.need) n.2,
      ))
      (λ (hint : IsHintClaim s r h one).
      (n.0, omega (arith, hint.room, up), no_more Needed h e n.0 n.0 (omega arith) n.2))
      (claimed_by s r h one answer)

  need_step : (h : History) (e : Entry) → (Grows (known_in h) whole → NeedClaims h) → MayCome s r h e
      → Grows (known_in (h ++ e ∷ [])) whole → NeedClaims (h ++ e ∷ [])
  need_step h e before may more = by e.what refl may
    where
      n : NeedClaims h
      n = before (before_it h e more)

      by : (w : What) → e.what ≡ w → may_come s r h e.seat w → NeedClaims (h ++ e ∷ [])
      by (claim one) is m = by_claim h e one is (before_it h e more) m n
      by (arrive one reading) is m = unclaimed h e (ap is_claim is) n
      by (broke one why) is m = unclaimed h e (ap is_claim is) n
      by (give_back one) is m = unclaimed h e (ap is_claim is) n

  need_claims : (h : History) → Legal s r h → Grows (known_in h) whole → NeedClaims h
  need_claims h legal =
      along_all (MayCome s r) (λ t. Grows (known_in t) whole → NeedClaims t) need_step [] h
      (λ more. (0, omega arith, none_listed Needed)) legal

  pub claims_bound : (most : ℕ) (h : History) → Legal s r h → Grows (known_in h) whole
      → ((key : FileKey) → claims_of h key ≤ most)
      → claims h ≤ most * number_of key_eq (needed r whole) + s.limits.hint_claims
  claims_bound most h legal more each =
      let n : NeedClaims h = need_claims h legal more in
      let l : Listed Needed h n.0 = n.2 in
      let few : length l.keys ≤ most * number_of key_eq (needed r whole) =
      laws.pigeons most l.keys (each_once key_eq (needed r whole))
      (λ key m. (laws.kept key (needed r whole)).0 (l.kind key m))
      (λ key. omega (arith, l.each key, each key)) in
      omega (arith, n.1, l.all, few)

  -- With 4,194,304 claims, of which hints have at most half, and at most 4 for a key, more than 500,000 keys are
  -- needed.
  pub many_needed : (h : History) → Legal s r h → StopsFrom 0 h → Grows (known_in h) whole → s.retries ≤ 3
      → s.limits.hint_claims ≤ 2097152 → 4194304 ≤ claims h → 500000 < number_of key_eq (needed r whole)
  many_needed h legal stops more retries hints all =
      let each : (key : FileKey) → claims_of h key ≤ 4 =
      λ key. omega (arith, claims_few appends laws.decided s r key h legal stops, retries) in
      omega (arith, claims_bound 4 h legal more each, hints, all)

  -- ---- claims of keys that pass a test

  eager_too : (b : Bool) (one : FileKey) (keys : List FileKey) → ((key : FileKey) → Among key keys → Needed key)
      → Among one (if b then flat_map (later_keys s.repos) keys else [])
      → Among one (if b then flat_map (later_keys s.repos) (needed r whole) else [])
  eager_too true one keys within m =
      let g : GivenBy (later_keys s.repos) one keys = given_by (later_keys s.repos) one keys m in
      gives (later_keys s.repos) g.source one (needed r whole) (within g.source g.member) g.gives
  eager_too false one keys within m = absurd m

  pub claim_touches : (h : History) (one : FileKey) → Grows (known_in h) whole → claim_of s r h ≡ Claimed one
      → Among one (touched s r whole)
  claim_touches h one more answer =
      ⊎_elim
      (λ (n : IsNeedClaim s r h one). in_front one (needed r whole) _
      (need_is_needed r lawful (known_in h) whole more one n.need))
      (λ (n : IsHintClaim s r h one). in_back one (needed r whole) _
      (eager_too s.eager one (needs r (known_in h))
      (λ key m. need_is_needed r lawful (known_in h) whole more key m) n.hint))
      (claimed_by s r h one answer)

  module _ (test : FileKey → Bool) where
    abbrev Due : FileKey → Type 0
    Due key = Among key (touched s r whole) × (test key ≡ true)

    abbrev Asked : History → Type 0
    Asked h = Listed Due h (claims_that test h)

    that_now : (h : History) (e : Entry)
        → claims_that test (h ++ e ∷ []) ≡ claims_that test h + cond (is_claim e.what && test (key_in e.what)) 1 0
    that_now h e = count_more (λ (x : Entry). is_claim x.what && test (key_in x.what)) h e

    unasked : (h : History) (e : Entry) → (is_claim e.what && test (key_in e.what)) ≡ false → Asked h
        → Asked (h ++ e ∷ [])
    unasked h e none l =
        let same : claims_that test (h ++ e ∷ []) ≡ claims_that test h = rw (that_now h e, none) (omega arith) in
        no_more Due h e (claims_that test h) (claims_that test (h ++ e ∷ [])) (omega (arith, same)) l

    asks : (h : History) (e : Entry) (one : FileKey) → e.what ≡ claim one → Grows (known_in h) whole
        → claim_of s r h ≡ Claimed one → Asked h → (b : Bool) → test one ≡ b → Asked (h ++ e ∷ [])
    asks h e one is more answer l false fails = unasked h e (rw is fails) l
    asks h e one is more answer l true passes =
        let up : claims_that test (h ++ e ∷ []) ≡ claims_that test h + 1 = rw (that_now h e, is, passes) refl in
        one_more Due h e one (claims_that test h) (claims_that test (h ++ e ∷ [])) is (omega (arith, up))
        (claim_touches h one more answer, passes) l

    ask_step : (h : History) (e : Entry) → (Grows (known_in h) whole → Asked h) → MayCome s r h e
        → Grows (known_in (h ++ e ∷ [])) whole → Asked (h ++ e ∷ [])
    ask_step h e before may more = by e.what refl may
      where
        l : Asked h
        l = before (before_it h e more)

        by : (w : What) → e.what ≡ w → may_come s r h e.seat w → Asked (h ++ e ∷ [])
        by (claim one) is m = asks h e one is (before_it h e more) m l (test one) refl
        by (arrive one reading) is m = unasked h e (rw is refl) l
        by (broke one why) is m = unasked h e (rw is refl) l
        by (give_back one) is m = unasked h e (rw is refl) l

    asked : (h : History) → Legal s r h → Grows (known_in h) whole → Asked h
    asked h legal =
        along_all (MayCome s r) (λ t. Grows (known_in t) whole → Asked t) ask_step [] h (λ more. none_listed Due) legal

    pub asked_bound : (most : ℕ) (h : History) (due : List FileKey) → Legal s r h → Grows (known_in h) whole
        → ((key : FileKey) → claims_of h key ≤ most)
        → ((key : FileKey) → Among key (touched s r whole) → test key ≡ true → Among key due)
        → claims_that test h ≤ most * length due
    asked_bound most h due legal more each all =
        let l : Asked h = asked h legal more in
        let few : length l.keys ≤ most * length due =
        laws.pigeons most l.keys due (λ key m. let d = l.kind key m in all key d.0 d.1)
        (λ key. omega (arith, l.each key, each key)) in
        omega (arith, l.all, few)
