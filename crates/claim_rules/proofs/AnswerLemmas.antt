-- The answer of a claim is the one whose words are true.
use Rattle.std.proofs.Common.{◌≡◌, ℕ, ◌⊎◌, inl, inr, Bool, true, false, not, ◌&&◌, Option, Some, None, List, [], ◌∷◌, refl, sym, ◌∙◌, ap, subst, true≢false}
use Rattle.std.specs.Prelude.{nat_lt, ◌<◌, ◌≤◌}
use Rattle.std.specs.List.{list_all}
use Rattle.std.proofs.lemmas.Bool.{and_parts, and_from}
use Rattle.std.proofs.lemmas.Option.{none-some, same_Some}
use Rattle.claim_rules.specs.Claims.{is_free, free_among, is_stuck, of_hint, of_need, unless_stuck, unless_over, hint_claim, need_claim, claim_of, IsStuck, IsTooMany, IsNeedClaim, HasNoNeed, IsHintClaim, IsNoneNow, IsAnswer}
use Rattle.claim_rules.specs.Counts.{claims, is_broken, is_lacking, link_breaks}
use Rattle.claim_rules.specs.Histories.{History, known_in, in_flight, any_in_flight}
use Rattle.claim_rules.specs.Least.{least}
use Rattle.claim_rules.specs.Resolvers.{Resolver}
use Rattle.claim_rules.specs.Sessions.{is_known, needs, is_over, hints}
use Rattle.claim_rules.specs.declared.claim.Claim.{Claim}
use Rattle.claim_rules.specs.declared.claim.Claim.TheVariants.{Over, Stuck, TooMany, Claimed, NoneNow}
use Rattle.claim_rules.specs.declared.settings.Settings.{Settings}
use Rattle.claim_rules.proofs.LeastLemmas.{least_among, no_least}
use Rattle.claim_rules.proofs.Members.{Tested, passed, passes, each_passes, all_pass}
use Rattle.claim_rules.proofs.Resolved.{over_needs}
use Rattle.claim_rules.proofs.Tests.{neither, not_true, not_false, less, is_less, at_most, is_at_most}
use Rattle.res_base.specs.Members.{Among}
use Rattle.res_base.specs.declared.key.FileKey.{FileKey}

whole : (retries : ℕ) (h : History) (key : FileKey) → is_free retries h key ≡ true → is_broken retries h key ≡ false
whole retries h key e =
    let outer = and_parts (not (is_known (known_in h) key))
    (not (in_flight h key) && not (is_broken retries h key)) e in
    not_true (is_broken retries h key) (and_parts (not (in_flight h key)) (not (is_broken retries h key)) outer.1).1

module _ {V : Type 0} (s : Settings) (r : Resolver V) (h : History) where
  abbrev ns : List FileKey
  ns = needs r (known_in h)

  abbrev hs : List FileKey
  hs = hints s r (known_in h)

  abbrev free_in : List FileKey → Option FileKey
  free_in keys = least (free_among s.retries h keys)

  -- the least free key is one of the keys, and free
  free_one : (keys : List FileKey) (key : FileKey) → free_in keys ≡ Some key
      → Tested (is_free s.retries h) true key keys
  free_one keys key e = passed (is_free s.retries h) key keys (least_among (free_among s.retries h keys) key e)

  none_free : (keys : List FileKey) → free_in keys ≡ None → (key : FileKey) → Among key keys
      → is_free s.retries h key ≡ false
  none_free keys e key m = by (is_free s.retries h key) refl
    where
      by : (b : Bool) → is_free s.retries h key ≡ b → is_free s.retries h key ≡ false
      by true free = absurd
          (no_least (free_among s.retries h keys) e key (passes (is_free s.retries h) key keys free m))
      by false free = free

  is_none : (keys : List FileKey) → ((key : FileKey) → Among key keys → is_free s.retries h key ≡ false)
      → free_in keys ≡ None
  is_none keys busy = by (free_in keys) refl
    where
      by : (o : Option FileKey) → free_in keys ≡ o → free_in keys ≡ None
      by None is = is
      by (Some key) is =
          let t : Tested (is_free s.retries h) true key keys = free_one keys key is in
          absurd (true≢false (sym t.is ∙ busy key t.member))

  -- ---- while the session is not over and not stuck

  stuck_is : (key : FileKey) → IsStuck s r h key → is_stuck s r h ≡ true
  stuck_is key st =
      and_from (list_all (is_broken s.retries h) ns) (not (any_in_flight h))
      (all_pass (is_broken s.retries h) ns st.broken) (not_false (any_in_flight h) st.landed)

  is_stuck_at : (key : FileKey) → is_over r (known_in h) ≡ false → is_stuck s r h ≡ true → least ns ≡ Some key
      → IsStuck s r h key
  is_stuck_at key going e first =
      let both = and_parts (list_all (is_broken s.retries h) ns) (not (any_in_flight h)) e in
      record {
        going = going;
        first = first;
        broken = each_passes (is_broken s.retries h) ns both.0;
        landed = not_true (any_in_flight h) both.1;
      }

  goes_on : (further : Claim) → is_over r (known_in h) ≡ false → ((key : FileKey) → IsStuck s r h key → ⊥)
      → unless_over (is_over r (known_in h)) (unless_stuck (is_stuck s r h) (least ns) further) ≡ further
  goes_on further going unstuck =
      ap (λ b. unless_over b (unless_stuck (is_stuck s r h) (least ns) further)) going
      ∙ by (is_stuck s r h) refl (least ns) refl
    where
      by : (b : Bool) → is_stuck s r h ≡ b → (o : Option FileKey) → least ns ≡ o → unless_stuck b o further ≡ further
      by true e (Some key) first = absurd (unstuck key (is_stuck_at key going e first))
      by true e None first = refl
      by false e o first = refl

  -- ---- the answer says what is true

  says_hint : HasNoNeed s r h → (o : Option FileKey) → free_in hs ≡ o → (room : Bool)
      → nat_lt (claims h) s.limits.hint_claims ≡ room → IsAnswer s r h (of_hint o room)
  says_hint needless None none room e =
      record { needless = needless; hintless = λ one m free. absurd (true≢false (sym free ∙ none_free hs none one m)) }
  says_hint needless (Some key) first true e =
      let t : Tested (is_free s.retries h) true key hs = free_one hs key first in
      inr (record {
        needless = needless;
        hint = t.member;
        free = t.is;
        first = first;
        room = less (claims h) s.limits.hint_claims e;
      })
  says_hint needless (Some key) first false e =
      record { needless = needless; hintless = λ one m free. at_most (claims h) s.limits.hint_claims e }

  says_need : is_over r (known_in h) ≡ false → ((key : FileKey) → IsStuck s r h key → ⊥)
      → (o : Option FileKey) → free_in ns ≡ o → (room : Bool) → nat_lt (claims h) s.limits.claims ≡ room
      → IsAnswer s r h (of_need o room (hint_claim s r h))
  says_need going unstuck None none room e =
      says_hint (record { going = going; unstuck = unstuck; busy = none_free ns none }) (free_in hs) refl
      (nat_lt (claims h) s.limits.hint_claims) refl
  says_need going unstuck (Some key) first true e =
      let t : Tested (is_free s.retries h) true key ns = free_one ns key first in
      inl (record { need = t.member; free = t.is; first = first; room = less (claims h) s.limits.claims e })
  says_need going unstuck (Some key) first false e =
      let t : Tested (is_free s.retries h) true key ns = free_one ns key first in
      record { key = key; need = t.member; free = t.is; spent = at_most (claims h) s.limits.claims e }

  says_further : is_over r (known_in h) ≡ false → ((key : FileKey) → IsStuck s r h key → ⊥)
      → IsAnswer s r h (need_claim s r h)
  says_further going unstuck = says_need going unstuck (free_in ns) refl (nat_lt (claims h) s.limits.claims) refl

  says_stuck : is_over r (known_in h) ≡ false → (b : Bool) → is_stuck s r h ≡ b → (o : Option FileKey) → least ns ≡ o
      → IsAnswer s r h (unless_stuck b o (need_claim s r h))
  says_stuck going true e (Some key) first = is_stuck_at key going e first
  says_stuck going true e None none = says_further going (λ key st. none-some key (sym none ∙ st.first))
  says_stuck going false e o first = says_further going (λ key st. true≢false (sym (stuck_is key st) ∙ e))

  pub says : IsAnswer s r h (claim_of s r h)
  says = by (is_over r (known_in h)) refl
    where
      by : (b : Bool) → is_over r (known_in h) ≡ b
          → IsAnswer s r h (unless_over b (unless_stuck (is_stuck s r h) (least ns) (need_claim s r h)))
      by true e = e
      by false e = says_stuck e (is_stuck s r h) refl (least ns) refl

  -- ---- what is true is the answer

  no_need : is_over r (known_in h) ≡ true → (key : FileKey) → Among key ns → ⊥
  no_need e key m = subst (λ keys. Among key keys) (over_needs r (known_in h) e) m

  still_going : (key : FileKey) → Among key ns → is_over r (known_in h) ≡ false
  still_going key m = by (is_over r (known_in h)) refl
    where
      by : (b : Bool) → is_over r (known_in h) ≡ b → is_over r (known_in h) ≡ false
      by true e = absurd (no_need e key m)
      by false e = e

  not_stuck : (key : FileKey) → Among key ns → is_free s.retries h key ≡ true → (one : FileKey) → IsStuck s r h one → ⊥
  not_stuck key m free one st = true≢false (sym (st.broken key m) ∙ whole s.retries h key free)

  pub only : (answer : Claim) → IsAnswer s r h answer → claim_of s r h ≡ answer
  only Over e = ap (λ b. unless_over b (unless_stuck (is_stuck s r h) (least ns) (need_claim s r h))) e
  only (Stuck key) st =
      ap (λ b. unless_over b (unless_stuck (is_stuck s r h) (least ns) (need_claim s r h))) st.going
      ∙ ap (λ b. unless_stuck b (least ns) (need_claim s r h)) (stuck_is key st)
      ∙ ap (λ o. unless_stuck true o (need_claim s r h)) st.first
  only TooMany t =
      goes_on (need_claim s r h) (still_going t.key t.need) (not_stuck t.key t.need t.free)
      ∙ by (free_in ns) refl
    where
      by : (o : Option FileKey) → free_in ns ≡ o
          → of_need o (nat_lt (claims h) s.limits.claims) (hint_claim s r h) ≡ TooMany
      by None none = absurd (true≢false (sym t.free ∙ none_free ns none t.key t.need))
      by (Some key) is =
          ap (λ b. of_need (Some key) b (hint_claim s r h)) (is_at_most (claims h) s.limits.claims t.spent)
  only (Claimed key) (inl n) =
      goes_on (need_claim s r h) (still_going key n.need) (not_stuck key n.need n.free)
      ∙ ap (λ o. of_need o (nat_lt (claims h) s.limits.claims) (hint_claim s r h)) n.first
      ∙ ap (λ b. of_need (Some key) b (hint_claim s r h)) (is_less (claims h) s.limits.claims n.room)
  only (Claimed key) (inr n) =
      goes_on (need_claim s r h) n.needless.going n.needless.unstuck
      ∙ ap (λ o. of_need o (nat_lt (claims h) s.limits.claims) (hint_claim s r h)) (is_none ns n.needless.busy)
      ∙ ap (λ o. of_hint o (nat_lt (claims h) s.limits.hint_claims)) n.first
      ∙ ap (λ b. of_hint (Some key) b) (is_less (claims h) s.limits.hint_claims n.room)
  only NoneNow n =
      goes_on (need_claim s r h) n.needless.going n.needless.unstuck
      ∙ ap (λ o. of_need o (nat_lt (claims h) s.limits.claims) (hint_claim s r h)) (is_none ns n.needless.busy)
      ∙ by (free_in hs) refl
    where
      by : (o : Option FileKey) → free_in hs ≡ o → of_hint o (nat_lt (claims h) s.limits.hint_claims) ≡ NoneNow
      by None none = refl
      by (Some key) is =
          let t : Tested (is_free s.retries h) true key hs = free_one hs key is in
          ap (λ b. of_hint (Some key) b) (is_at_most (claims h) s.limits.hint_claims (n.hintless key t.member t.is))

-- ---- what a free key is

pub record IsFreeKey (retries : ℕ) (h : History) (key : FileKey) : Type 0 where
  pub unknown : is_known (known_in h) key ≡ false
  pub landed : in_flight h key ≡ false
  pub few : link_breaks h key ≤ retries
  pub cached : is_lacking h key ≡ false

free_key : (retries : ℕ) (h : History) (key : FileKey) → is_free retries h key ≡ true → IsFreeKey retries h key
free_key retries h key e =
    let outer = and_parts (not (is_known (known_in h) key))
    (not (in_flight h key) && not (is_broken retries h key)) e in
    let inner = and_parts (not (in_flight h key)) (not (is_broken retries h key)) outer.1 in
    let parts = neither (nat_lt retries (link_breaks h key)) (is_lacking h key)
    (not_true (is_broken retries h key) inner.1) in
    record {
      unknown = not_true (is_known (known_in h) key) outer.0;
      landed = not_true (in_flight h key) inner.0;
      few = at_most retries (link_breaks h key) parts.0;
      cached = parts.1;
    }

module _ {V : Type 0} (s : Settings) (r : Resolver V) (h : History) (key : FileKey) where
  pub claimed_by : claim_of s r h ≡ Claimed key → IsNeedClaim s r h key ⊎ IsHintClaim s r h key
  claimed_by e = subst (IsAnswer s r h) e (says s r h)

  pub claimed_free : claim_of s r h ≡ Claimed key → IsFreeKey s.retries h key
  claimed_free e = elim (claimed_by e) [
    | inl n ↦ free_key s.retries h key n.free
    | inr n ↦ free_key s.retries h key n.free
  ]
