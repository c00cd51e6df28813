-- No key arrives twice; and without hints what arrived is what is needed.
use Rattle.std.proofs.Common.{◌≡◌, ◌⊎◌, inl, inr, ⊎_elim, ℕ, ◌+◌, ◌*◌, ◌≤◌, Bool, true, false, cond, List, [], ◌∷◌, ◌++◌, Some, refl, sym, ◌∙◌, ap, subst, true≢false, arith, length, map}
use Rattle.std.specs.Prelude.{count_by, if◌then◌else◌}
use Rattle.std.specs.List.{flat_map}
use Rattle.std.specs.Option.{is_some}
use Rattle.std.proofs.lemmas.List.{append-nil, length-map}
use Rattle.std.proofs.lemmas.List.Sums.{sum_by_push}
use Rattle.claim_rules.specs.Claims.{IsNeedClaim, IsHintClaim}
use Rattle.claim_rules.specs.Histories.{What, claim, arrive, broke, give_back, Entry, History, key_in, pair_in, pairs_in, known_in, holder_after, holder, in_flight}
use Rattle.claim_rules.specs.Legal.{may_come, MayCome, Legal}
use Rattle.claim_rules.specs.Resolvers.{Resolver, IsLawful}
use Rattle.claim_rules.specs.Sessions.{is_known, later_keys, needs, is_over, needed}
use Rattle.claim_rules.specs.declared.settings.Settings.{Settings}
use Rattle.claim_rules.proofs.Along.{along_all, along_more}
use Rattle.claim_rules.proofs.AnswerLemmas.{claimed_by}
use Rattle.claim_rules.proofs.Asked.{count_of}
use Rattle.claim_rules.proofs.BaseLaws.{Decided, KeyLaws, same_key, key_itself}
use Rattle.claim_rules.proofs.EntryLemmas.{pairs_more, holder_more, known_alike, flew_before, known_as_before, known_now, Appends, grows_by}
use Rattle.claim_rules.proofs.Flying.{flying_unknown, flew}
use Rattle.claim_rules.proofs.Resolved.{need_is_needed, needed_known}
use Rattle.res_base.specs.Known.{Known, known_of, Grows}
use Rattle.res_base.specs.Members.{Among, each_once, number_of}
use Rattle.res_base.specs.Names.{key_eq}
use Rattle.res_base.specs.declared.key.FileKey.{FileKey}
use Rattle.res_base.specs.declared.reading.Reading.{Reading}

abbrev pub keys_of : List (FileKey × Reading) → List FileKey
keys_of pairs = map (λ (pair : FileKey × Reading). pair.0) pairs

known_among : Decided → (pairs : List (FileKey × Reading)) (key : FileKey) → is_known (known_of pairs) key ≡ true
    → Among key (keys_of pairs)
known_among decided [] key e = true≢false (sym e)
known_among decided (pair ∷ pairs) key e = by (key_eq pair.0 key) refl (known_among decided pairs key) e
  where
    by : (b : Bool) → key_eq pair.0 key ≡ b → (is_known (known_of pairs) key ≡ true → Among key (keys_of pairs))
        → is_some (cond b (Some pair.1) (known_of pairs key)) ≡ true → (key ≡ pair.0) ⊎ Among key (keys_of pairs)
    by true same later k = inl (sym (same_key decided pair.0 key same))
    by false other later k = inr (later k)

among_known : Decided → (pairs : List (FileKey × Reading)) (key : FileKey) → Among key (keys_of pairs)
    → is_known (known_of pairs) key ≡ true
among_known decided [] key m = absurd m
among_known decided (pair ∷ pairs) key (inl is) = rw (ap (λ k. key_eq k key) (sym is) ∙ key_itself decided key) refl
among_known decided (pair ∷ pairs) key (inr m) = by (key_eq pair.0 key) (among_known decided pairs key m)
  where
    by : (b : Bool) → is_known (known_of pairs) key ≡ true → is_some (cond b (Some pair.1) (known_of pairs key)) ≡ true
    by true later = refl
    by false later = later

small : (b : Bool) → cond b 1 0 ≤ 1
small true = omega arith
small false = omega arith

plus_none : (n : ℕ) → n + 0 ≡ n
plus_none n = omega arith

module _ (decided : Decided) {V : Type 0} (s : Settings) (r : Resolver V) (key : FileKey) where
  -- keys are apart either way round
  apart : (one : FileKey) → key_eq one key ≡ false → key_eq key one ≡ false
  apart one other = by (key_eq key one) refl
    where
      by : (b : Bool) → key_eq key one ≡ b → key_eq key one ≡ false
      by true same =
          absurd (true≢false (sym
          (ap (λ k. key_eq k key) (sym (same_key decided key one same)) ∙ key_itself decided key) ∙ other))
      by false e = e

  abbrev times : History → ℕ
  times h = count_of key (keys_of (pairs_in h))

  -- a key that is known arrived once, and no other did
  abbrev Once : History → Type 0
  Once h = times h ≡ cond (is_known (known_in h) key) 1 0

  same_keys : (h : History) (e : Entry) → pair_in e.what ≡ [] → Once h → Once (h ++ e ∷ [])
  same_keys h e none once =
      ap (λ ps. count_of key (keys_of ps)) (pairs_more h e ∙ ap (λ t. pairs_in h ++ t) none ∙ append-nil (pairs_in h))
      ∙ once ∙ ap (λ b. cond b 1 0) (sym (known_alike h e key none))

  one_arrival : (h : History) (e : Entry) (one : FileKey) (reading : Reading) → e.what ≡ arrive one reading
      → times (h ++ e ∷ []) ≡ times h + cond (key_eq key one) 1 0
  one_arrival h e one reading is =
      ap (λ ps. count_of key (keys_of ps)) (pairs_more h e ∙ ap (λ w. pairs_in h ++ pair_in w) is)
      ∙ ap (count_by (key_eq key)) (map_push (pairs_in h))
      ∙ sum_by_push (λ k. cond (key_eq key k) 1 0) (keys_of (pairs_in h)) one
    where
      map_push : (ps : List (FileKey × Reading)) → keys_of (ps ++ (one, reading) ∷ []) ≡ keys_of ps ++ one ∷ []
      map_push [] = refl
      map_push (p ∷ ps) = ap (λ t. p.0 ∷ t) (map_push ps)

  once_step : (h : History) (e : Entry) → (Legal s r h × Once h) → MayCome s r h e
      → (Legal s r (h ++ e ∷ []) × Once (h ++ e ∷ []))
  once_step h e before may = (along_more (MayCome s r) [] h e before.0 may, by e.what refl may)
    where
      arrives : (one : FileKey) (reading : Reading) → e.what ≡ arrive one reading → holder h one ≡ Some e.seat
          → (b : Bool) → key_eq one key ≡ b → Once (h ++ e ∷ [])
      arrives one reading is m true same =
          let k : one ≡ key = same_key decided one key same in
          let unknown : is_known (known_in h) key ≡ false =
          flying_unknown decided s r key h before.0 (ap is_some (subst (λ x. holder h x ≡ Some e.seat) k m)) in
          let now : is_known (known_in (h ++ e ∷ [])) key ≡ true = known_now h e key one reading is same in
          let none : times h ≡ 0 = before.1 ∙ ap (λ b. cond b 1 0) unknown in
          let itself : key_eq key one ≡ true = ap (λ x. key_eq key x) k ∙ key_itself decided key in
          rw now (one_arrival h e one reading is ∙ rw (itself, none) refl)
      arrives one reading is m false other =
          rw (known_as_before h e key one reading is other)
          (one_arrival h e one reading is ∙ rw (apart one other) (plus_none (times h)) ∙ before.1)

      by : (w : What) → e.what ≡ w → may_come s r h e.seat w → Once (h ++ e ∷ [])
      by (claim one) is m = same_keys h e (ap pair_in is) before.1
      by (arrive one reading) is m = arrives one reading is m (key_eq one key) refl
      by (broke one why) is m = same_keys h e (ap pair_in is) before.1
      by (give_back one) is m = same_keys h e (ap pair_in is) before.1

  pub arrived_once : (h : History) → Legal s r h → times h ≤ 1
  arrived_once h legal =
      let both = along_all (MayCome s r) (λ t. Legal s r t × Once t) once_step [] h (tt, refl) legal in
      rw both.1 (small (is_known (known_in h) key))

module _ (appends : Appends) (laws : KeyLaws) {V : Type 0} (s : Settings) (r : Resolver V) (lawful : IsLawful r)
    (plain : s.eager ≡ false) (whole : Known) (key : FileKey) where
  abbrev Wanted : Type 0
  Wanted = Among key (needed r whole)

  -- what is in flight or known is needed
  record AllWanted (h : History) : Type 0 where
    flies : in_flight h key ≡ true → Wanted
    known : is_known (known_in h) key ≡ true → Wanted

  no_hint : (b : Bool) (keys : List FileKey) (one : FileKey) → b ≡ false
      → Among one (if b then flat_map (later_keys s.repos) keys else []) → ⊥
  no_hint true keys one e m = true≢false e
  no_hint false keys one e m = m

  wanted_step : (h : History) (e : Entry) → (Grows (known_in h) whole → AllWanted h) → MayCome s r h e
      → Grows (known_in (h ++ e ∷ [])) whole → AllWanted (h ++ e ∷ [])
  wanted_step h e before may more = by e.what refl may
    where
      less : Grows (known_in h) whole
      less k reading at = more k reading (grows_by appends h (e ∷ []) k reading at)

      w : AllWanted h
      w = before less

      claims_it : (one : FileKey) → e.what ≡ claim one → may_come s r h e.seat (claim one) → (b : Bool)
          → key_eq one key ≡ b → in_flight (h ++ e ∷ []) key ≡ true → Wanted
      claims_it one is m true same up =
          subst (λ k. Among k (needed r whole)) (same_key laws.decided one key same)
          (⊎_elim (λ (n : IsNeedClaim s r h one). need_is_needed r lawful (known_in h) whole less one n.need)
          (λ (n : IsHintClaim s r h one). absurd (no_hint s.eager (needs r (known_in h)) one plain n.hint))
          (claimed_by s r h one m))
      claims_it one is m false other up =
          w.flies (flew laws.decided s r key h e (ap (λ x. key_eq (key_in x) key) is ∙ other) up)

      arrives : (one : FileKey) (reading : Reading) → e.what ≡ arrive one reading → holder h one ≡ Some e.seat
          → (b : Bool) → key_eq one key ≡ b → is_known (known_in (h ++ e ∷ [])) key ≡ true → Wanted
      arrives one reading is m true same known =
          w.flies (ap is_some (subst (λ k. holder h k ≡ Some e.seat) (same_key laws.decided one key same) m))
      arrives one reading is m false other known = w.known (sym (known_as_before h e key one reading is other) ∙ known)

      ends : (x : What) → e.what ≡ x
          → (is_some (holder_after key (holder h key) e.seat x) ≡ true → in_flight h key ≡ true)
          → in_flight (h ++ e ∷ []) key ≡ true → Wanted
      ends x is down up =
          w.flies (down (sym (ap is_some
          (holder_more h e key ∙ ap (λ y. holder_after key (holder h key) e.seat y) is)) ∙ up))

      unread : pair_in e.what ≡ [] → is_known (known_in (h ++ e ∷ [])) key ≡ true → Wanted
      unread none known = w.known (sym (known_alike h e key none) ∙ known)

      by : (x : What) → e.what ≡ x → may_come s r h e.seat x → AllWanted (h ++ e ∷ [])
      by (claim one) is m = record { flies = claims_it one is m (key_eq one key) refl; known = unread (ap pair_in is) }
      by (arrive one reading) is m =
          record {
            flies = ends (arrive one reading) is (flew_before _ (holder h key));
            known = arrives one reading is m (key_eq one key) refl;
          }
      by (broke one why) is m =
          record { flies = ends (broke one why) is (flew_before _ (holder h key)); known = unread (ap pair_in is) }
      by (give_back one) is m =
          record { flies = ends (give_back one) is (flew_before _ (holder h key)); known = unread (ap pair_in is) }

  pub known_needed : (h : History) → Legal s r h → Grows (known_in h) whole → is_known (known_in h) key ≡ true → Wanted
  known_needed h legal more =
      (along_all (MayCome s r) (λ t. Grows (known_in t) whole → AllWanted t) wanted_step [] h
      (λ m. record {
        flies = λ up. absurd (true≢false (sym up));
        known =
            λ k. absurd (true≢false (sym k));
      }) legal more).known

pub reads_are_needs : Appends → (laws : KeyLaws) → {V : Type 0} (s : Settings) (r : Resolver V) (lawful : IsLawful r)
    → s.eager ≡ false → (whole : Known) (h : History) → Legal s r h → Grows (known_in h) whole
    → is_over r (known_in h) ≡ true → length (pairs_in h) ≡ number_of key_eq (needed r whole)
reads_are_needs appends laws s r lawful plain whole h legal more over =
    let keys : List FileKey = keys_of (pairs_in h) in
    let all : List FileKey = needed r whole in
    let len : length keys ≡ length (pairs_in h) = length-map (pairs_in h) (λ (pair : FileKey × Reading). pair.0) in
    let few : length keys ≤ 1 * number_of key_eq all =
    laws.pigeons 1 keys (each_once key_eq all)
    (λ key m. (laws.kept key all).0 (known_needed appends laws s r lawful plain whole key h legal more
    (among_known laws.decided (pairs_in h) key m)))
    (λ key. arrived_once laws.decided s r key h legal) in
    let enough : number_of key_eq all ≤ 1 * length keys =
    laws.pigeons 1 (each_once key_eq all) keys
    (λ key m. known_among laws.decided (pairs_in h) key
    (needed_known r lawful (known_in h) whole more over key ((laws.kept key all).1 m)))
    (λ key. laws.once key all) in
    omega (arith, len, few, enough)
