-- What a claim answers over a history.
use Rattle.std.specs.Prelude.{ℕ, ◌≡◌, ◌⊎◌, ◌<◌, ◌≤◌, ◌&&◌, Bool, true, false, not, List, Option, Some, None, nat_lt}
use Rattle.std.specs.List.{filter, list_all}
use Rattle.claim_rules.specs.Counts.{claims, is_broken}
use Rattle.claim_rules.specs.Histories.{History, known_in, in_flight, any_in_flight}
use Rattle.claim_rules.specs.Least.{least}
use Rattle.claim_rules.specs.Resolvers.{Resolver}
use Rattle.claim_rules.specs.Sessions.{is_known, needs, is_over, hints}
use Rattle.claim_rules.specs.declared.claim.Claim.{Claim}
use Rattle.claim_rules.specs.declared.claim.Claim.TheVariants.{Over, Stuck, TooMany, Claimed, NoneNow}
use Rattle.claim_rules.specs.declared.settings.Settings.{Settings}
use Rattle.res_base.specs.Members.{Among}
use Rattle.res_base.specs.declared.key.FileKey.{FileKey}

-- a free key is neither known nor in flight nor broken
abbrev pub is_free : ℕ → History → FileKey → Bool
is_free retries h key = not (is_known (known_in h) key) && (not (in_flight h key) && not (is_broken retries h key))

abbrev pub free_among : ℕ → History → List FileKey → List FileKey
free_among retries h keys = filter (is_free retries h) keys

-- all needs are broken, and nothing is in flight
abbrev pub is_stuck : {V : Type 0} → Settings → Resolver V → History → Bool
is_stuck s r h = list_all (is_broken s.retries h) (needs r (known_in h)) && not (any_in_flight h)

-- a hint is claimed where there is room for it
abbrev pub of_hint : Option FileKey → Bool → Claim
of_hint None room = NoneNow
of_hint (Some key) true = Claimed key
of_hint (Some key) false = NoneNow

-- a need is claimed before any hint, and is one too many where there is no room for it
abbrev pub of_need : Option FileKey → Bool → Claim → Claim
of_need None room hint = hint
of_need (Some key) true hint = Claimed key
of_need (Some key) false hint = TooMany

abbrev pub unless_stuck : Bool → Option FileKey → Claim → Claim
unless_stuck true (Some key) further = Stuck key
unless_stuck true None further = further
unless_stuck false need further = further

abbrev pub unless_over : Bool → Claim → Claim
unless_over true further = Over
unless_over false further = further

abbrev pub hint_claim : {V : Type 0} → Settings → Resolver V → History → Claim
hint_claim s r h =
    of_hint (least (free_among s.retries h (hints s r (known_in h)))) (nat_lt (claims h) s.limits.hint_claims)

abbrev pub need_claim : {V : Type 0} → Settings → Resolver V → History → Claim
need_claim s r h =
    of_need (least (free_among s.retries h (needs r (known_in h)))) (nat_lt (claims h) s.limits.claims)
    (hint_claim s r h)

abbrev pub claim_of : {V : Type 0} → Settings → Resolver V → History → Claim
claim_of s r h =
    unless_over (is_over r (known_in h))
    (unless_stuck (is_stuck s r h) (least (needs r (known_in h))) (need_claim s r h))

-- ---- what each answer says

-- There are needs, all broken, and nothing is in flight. The key is the least of them.
pub record IsStuck {V : Type 0} (s : Settings) (r : Resolver V) (h : History) (key : FileKey) : Type 0 where
  pub going : is_over r (known_in h) ≡ false
  pub first : least (needs r (known_in h)) ≡ Some key
  pub broken : (one : FileKey) → Among one (needs r (known_in h)) → is_broken s.retries h one ≡ true
  pub landed : any_in_flight h ≡ false

-- A need is free, and all claims were made.
pub record IsTooMany {V : Type 0} (s : Settings) (r : Resolver V) (h : History) : Type 0 where
  pub key : FileKey
  pub need : Among key (needs r (known_in h))
  pub free : is_free s.retries h key ≡ true
  pub spent : s.limits.claims ≤ claims h

-- The key is the least free need, and not all claims were made.
pub record IsNeedClaim {V : Type 0} (s : Settings) (r : Resolver V) (h : History) (key : FileKey) : Type 0 where
  pub need : Among key (needs r (known_in h))
  pub free : is_free s.retries h key ≡ true
  pub first : least (free_among s.retries h (needs r (known_in h))) ≡ Some key
  pub room : claims h < s.limits.claims

-- there is something to do, not all of it is broken, and no need is free
pub record HasNoNeed {V : Type 0} (s : Settings) (r : Resolver V) (h : History) : Type 0 where
  pub going : is_over r (known_in h) ≡ false
  pub unstuck : (key : FileKey) → ¬ IsStuck s r h key
  pub busy : (one : FileKey) → Among one (needs r (known_in h)) → is_free s.retries h one ≡ false

-- No need is free. The key is the least free hint, and not all claims were made that leave room for hints.
pub record IsHintClaim {V : Type 0} (s : Settings) (r : Resolver V) (h : History) (key : FileKey) : Type 0 where
  pub needless : HasNoNeed s r h
  pub hint : Among key (hints s r (known_in h))
  pub free : is_free s.retries h key ≡ true
  pub first : least (free_among s.retries h (hints s r (known_in h))) ≡ Some key
  pub room : claims h < s.limits.hint_claims

-- No need is free, and no hint is, or there is no room for one.
pub record IsNoneNow {V : Type 0} (s : Settings) (r : Resolver V) (h : History) : Type 0 where
  pub needless : HasNoNeed s r h
  pub hintless : (one : FileKey) → Among one (hints s r (known_in h)) → is_free s.retries h one ≡ true
      → s.limits.hint_claims ≤ claims h

abbrev pub IsAnswer : {V : Type 0} → Settings → Resolver V → History → Claim → Type 0
IsAnswer s r h Over = is_over r (known_in h) ≡ true
IsAnswer s r h (Stuck key) = IsStuck s r h key
IsAnswer s r h TooMany = IsTooMany s r h
IsAnswer s r h (Claimed key) = IsNeedClaim s r h key ⊎ IsHintClaim s r h key
IsAnswer s r h NoneNow = IsNoneNow s r h
