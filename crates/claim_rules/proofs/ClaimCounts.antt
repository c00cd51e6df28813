-- How often a key is claimed, where nothing is claimed once a claim was given back.
use Rattle.std.proofs.Common.{◌≡◌, ℕ, ◌+◌, ◌≤◌, Bool, true, false, cond, ◌&&◌, ◌||◌, List, [], ◌∷◌, ◌++◌, refl, sym, ◌∙◌, ap, subst, true≢false, arith}
use Rattle.std.specs.List.{list_any}
use Rattle.std.specs.Option.{is_some}
use Rattle.claim_rules.specs.Counts.{is_of, is_claim, claims_of, is_link_break, link_breaks, is_lack, is_lacking, is_return, gave_back}
use Rattle.claim_rules.specs.Histories.{What, claim, arrive, broke, give_back, Entry, History, key_in, known_in, holder, in_flight}
use Rattle.claim_rules.specs.Legal.{may_come, MayCome, Legal, StopsFrom}
use Rattle.claim_rules.specs.Resolvers.{Resolver}
use Rattle.claim_rules.specs.Sessions.{is_known}
use Rattle.claim_rules.specs.declared.settings.Settings.{Settings}
use Rattle.claim_rules.specs.declared.why.Why.TheVariants.{Link, NotCached}
use Rattle.claim_rules.proofs.Along.{along_all, along_both}
use Rattle.claim_rules.proofs.AnswerLemmas.{IsFreeKey, claimed_free}
use Rattle.claim_rules.proofs.BaseLaws.{Decided, same_key, key_itself}
use Rattle.claim_rules.proofs.EntryLemmas.{count_more, any_more, holder_more, other_holder, known_now, Appends, grows_by}
use Rattle.claim_rules.proofs.Resolved.{stays_known}
use Rattle.claim_rules.proofs.Tests.{neither, or_true, and_no, fails_with}
use Rattle.res_base.specs.Names.{key_eq}
use Rattle.res_base.specs.declared.key.FileKey.{FileKey}

-- a claim of the key was given back
abbrev returned : History → FileKey → Bool
returned h key = list_any (is_of is_return key) h

-- A key that is not known, not in flight, not lacking and never given back was claimed once for each failure of a link.
record Counted (retries : ℕ) (h : History) (key : FileKey) : Type 0 where
  settled : is_known (known_in h) key ≡ false → in_flight h key ≡ false → is_lacking h key ≡ false
      → returned h key ≡ false → claims_of h key ≤ link_breaks h key
  each : claims_of h key ≤ 1 + link_breaks h key
  few : claims_of h key ≤ 1 + retries

module _ (appends : Appends) (decided : Decided) (retries : ℕ) (h : History) (e : Entry) (key : FileKey)
    (c : Counted retries h key) where
  abbrev h' : History
  h' = h ++ e ∷ []

  claims_now : claims_of h' key ≡ claims_of h key + cond (is_of is_claim key e) 1 0
  claims_now = count_more (is_of is_claim key) h e

  breaks_now : link_breaks h' key ≡ link_breaks h key + cond (is_of is_link_break key e) 1 0
  breaks_now = count_more (is_of is_link_break key) h e

  lacking_now : is_lacking h' key ≡ (is_lacking h key || is_of is_lack key e)
  lacking_now = any_more (is_of is_lack key) h e

  returned_now : returned h' key ≡ (returned h key || is_of is_return key e)
  returned_now = any_more (is_of is_return key) h e

  unknown_before : is_known (known_in h') key ≡ false → is_known (known_in h) key ≡ false
  unknown_before unknown =
      fails_with (is_known (known_in h) key) (is_known (known_in h') key)
      (stays_known (known_in h) (known_in h') (grows_by appends h (e ∷ [])) key) unknown

  of_other : key_eq (key_in e.what) key ≡ false → Counted retries h' key
  of_other other =
      let cs : claims_of h' key ≡ claims_of h key =
      rw (claims_now, and_no (is_claim e.what) (key_eq (key_in e.what) key) other) (omega arith) in
      let bs : link_breaks h' key ≡ link_breaks h key =
      rw (breaks_now, and_no (is_link_break e.what) (key_eq (key_in e.what) key) other) (omega arith) in
      let up : in_flight h' key ≡ in_flight h key =
      ap is_some (holder_more h e key ∙ other_holder key (holder h key) e.seat e.what other) in
      record {
        settled = λ unknown landed cached kept.
            let lacks = neither (is_lacking h key) (is_of is_lack key e) (sym lacking_now ∙ cached) in
            let returns = neither (returned h key) (is_of is_return key e) (sym returned_now ∙ kept) in
            let before : claims_of h key ≤ link_breaks h key =
            c.settled (unknown_before unknown) (sym up ∙ landed) lacks.0 returns.0 in
            omega (arith, before, cs, bs);
        each = omega (arith, c.each, cs, bs);
        few = omega (arith, c.few, cs);
      }

  -- the key itself is claimed
  of_claim : e.what ≡ claim key → IsFreeKey retries h key → returned h key ≡ false → Counted retries h' key
  of_claim is free kept =
      let cs : claims_of h' key ≡ claims_of h key + 1 = rw (claims_now, is, key_itself decided key) refl in
      let bs : link_breaks h' key ≡ link_breaks h key = rw (breaks_now, is) (omega arith) in
      let before : claims_of h key ≤ link_breaks h key = c.settled free.unknown free.landed free.cached kept in
      let up : in_flight h' key ≡ true = rw (holder_more h e key, is, key_itself decided key) refl in
      record {
        settled = λ unknown landed cached late. absurd (true≢false (sym up ∙ landed));
        each = omega (arith, before, cs, bs);
        few = omega (arith, before, free.few, cs);
      }

  -- A claim of the key itself ends. It is known, lacking or given back then, or the link failed once more.
  of_end : is_claim e.what ≡ false
      → (is_known (known_in h') key ≡ false → is_lacking h' key ≡ false → returned h' key ≡ false
      → link_breaks h' key ≡ link_breaks h key + 1)
      → link_breaks h key ≤ link_breaks h' key → Counted retries h' key
  of_end none one more =
      let cs : claims_of h' key ≡ claims_of h key = rw (claims_now, none) (omega arith) in
      record {
        settled = λ unknown landed cached kept. omega (arith, c.each, cs, one unknown cached kept);
        each = omega (arith, c.each, cs, more);
        few = omega (arith, c.few, cs);
      }

none_returned : (h : History) (key : FileKey) → gave_back h ≡ false → returned h key ≡ false
none_returned [] key e = refl
none_returned (x ∷ h) key e =
    by (is_return x.what) (key_eq (key_in x.what) key) (gave_back h) (returned h key) (none_returned h key) e
  where
    by : (a b f g : Bool) → (f ≡ false → g ≡ false) → (a || f) ≡ false → ((a && b) || g) ≡ false
    by true b f g later none = absurd (true≢false none)
    by false b f g later none = later none

module _ (appends : Appends) (decided : Decided) {V : Type 0} (s : Settings) (r : Resolver V) (key : FileKey) where
  abbrev Stops : History → Entry → Type 0
  Stops h e = is_claim e.what ≡ true → gave_back h ≡ false

  of_itself : (h : History) (e : Entry) → Counted s.retries h key → MayCome s r h e → Stops h e → (w : What)
      → e.what ≡ w → key_eq (key_in w) key ≡ true → Counted s.retries (h ++ e ∷ []) key
  of_itself h e c may stops (claim one) is same =
      let here : e.what ≡ claim key = is ∙ ap claim (same_key decided one key same) in
      of_claim appends decided s.retries h e key c here
      (claimed_free s r h key (subst (λ w. may_come s r h e.seat w) here may))
      (none_returned h key (stops (ap is_claim is)))
  of_itself h e c may stops (arrive one reading) is same =
      of_end appends decided s.retries h e key c (ap is_claim is)
      (λ unknown cached kept. absurd (true≢false (sym (known_now h e key one reading is same) ∙ unknown)))
      (rw (breaks_now appends decided s.retries h e key c, is) (omega arith))
  of_itself h e c may stops (broke one Link) is same =
      of_end appends decided s.retries h e key c (ap is_claim is)
      (λ unknown cached kept. rw (breaks_now appends decided s.retries h e key c, is, same) refl)
      (rw (breaks_now appends decided s.retries h e key c, is) (omega arith))
  of_itself h e c may stops (broke one NotCached) is same =
      let lacks : is_of is_lack key e ≡ true = rw (is, same) refl in
      of_end appends decided s.retries h e key c (ap is_claim is)
      (λ unknown cached kept. absurd (true≢false (sym (lacking_now appends decided s.retries h e key c
      ∙ or_true (is_lacking h key) (is_of is_lack key e) lacks) ∙ cached)))
      (rw (breaks_now appends decided s.retries h e key c, is) (omega arith))
  of_itself h e c may stops (give_back one) is same =
      let returns : is_of is_return key e ≡ true = rw (is, same) refl in
      of_end appends decided s.retries h e key c (ap is_claim is)
      (λ unknown cached kept. absurd (true≢false (sym (returned_now appends decided s.retries h e key c
      ∙ or_true (returned h key) (is_of is_return key e) returns) ∙ kept)))
      (rw (breaks_now appends decided s.retries h e key c, is) (omega arith))

  count_step : (h : History) (e : Entry) → Counted s.retries h key → (MayCome s r h e × Stops h e)
      → Counted s.retries (h ++ e ∷ []) key
  count_step h e c may = by (key_eq (key_in e.what) key) refl
    where
      by : (b : Bool) → key_eq (key_in e.what) key ≡ b → Counted s.retries (h ++ e ∷ []) key
      by true same = of_itself h e c may.0 may.1 e.what refl same
      by false other = of_other appends decided s.retries h e key c other

  none_yet : Counted s.retries [] key
  none_yet = record { settled = λ unknown landed cached kept. omega arith; each = omega arith; few = omega arith }

  counted : (h : History) → Legal s r h → StopsFrom 0 h → Counted s.retries h key
  counted h legal stops =
      along_all (λ t e. MayCome s r t e × Stops t e) (λ t. Counted s.retries t key) count_step [] h none_yet
      (along_both (MayCome s r) Stops [] h legal stops)

  pub claims_each : (h : History) → Legal s r h → StopsFrom 0 h → claims_of h key ≤ 1 + link_breaks h key
  claims_each h legal stops = (counted h legal stops).each

  pub claims_few : (h : History) → Legal s r h → StopsFrom 0 h → claims_of h key ≤ 1 + s.retries
  claims_few h legal stops = (counted h legal stops).few
