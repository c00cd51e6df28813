-- Keys that one seat has in flight: one more claim, and one end.
use Rattle.std.proofs.Common.{◌≡◌, inl, inr, ℕ, ◌<◌, ◌+◌, Bool, true, false, not, ◌&&◌, ◌||◌, List, [], ◌∷◌, ◌++◌, Option, Some, None, refl, sym, ◌∙◌, ap, subst, true≢false, if◌then◌else◌, length, get_or, drop, take, add-one, arith, length-drop, ◌-◌}
use Rattle.std.proofs.Math.Seq.{drop-cons, take-suc}
use Rattle.std.proofs.lemmas.List.{take_all}
use Rattle.std.proofs.lemmas.List.Folds.{list_any-append}
use Rattle.std.specs.Option.{is_some}
use Rattle.claim_rules.proofs.BaseLaws.{Decided, key_itself, same_key}
use Rattle.claim_rules.proofs.EntryLemmas.{holder_more, other_holder, own_end}
use Rattle.claim_rules.specs.Claims.{IsAnswer}
use Rattle.claim_rules.specs.Counts.{is_broken, is_claim}
use Rattle.claim_rules.specs.Histories.{What, claim, arrive, broke, give_back, History, any_in_flight, holder, holder_after, in_flight, is_seat, key_in, known_in, unless_ended}
use Rattle.claim_rules.specs.Resolvers.{Resolver}
use Rattle.claim_rules.specs.Sessions.{is_known}
use Rattle.claim_rules.specs.declared.claim.Claim.TheVariants.{Claimed}
use Rattle.claim_rules.specs.declared.settings.Settings.{Settings}
use Rattle.fetch_pool.specs.Flights.{AreDistinct, AreDue, CanAskEach, OnlyFlying, is_one_of, seat_for}
use Rattle.file_fetch.specs.Keys.{CanAsk}
use Rattle.pool_rules.specs.Works.{IsEndOf, by_seat, with_entry}
use Rattle.pool_rules.specs.declared.plan.Plan.{Plan}
use Rattle.res_base.specs.Names.{key_eq}
use Rattle.res_base.specs.declared.key.FileKey.{FileKey}

unheld : (o : Option ℕ) → is_some o ≡ false → o ≡ None
unheld None e = refl
unheld (Some seat) e = absurd (true≢false e)

-- where nothing is in flight, nobody has a key
pub none_flying : ((h : History) (key : FileKey) → in_flight h key ≡ true → any_in_flight h ≡ true)
    → (h : History) (seat : ℕ) → any_in_flight h ≡ false → OnlyFlying h seat []
none_flying any h seat calm = record { held = λ key. unheld (holder h key) (by key (in_flight h key) refl); distinct = tt }
  where
    by : (key : FileKey) (b : Bool) → in_flight h key ≡ b → in_flight h key ≡ false
    by key true e = absurd (true≢false (sym (any h key e) ∙ calm))
    by key false e = e

-- and the other way round
pub all_landed : ((h : History) → any_in_flight h ≡ true → (key : FileKey) × (in_flight h key ≡ true))
    → (h : History) (seat : ℕ) → OnlyFlying h seat [] → any_in_flight h ≡ false
all_landed some h seat flying = by (any_in_flight h) refl
  where
    by : (b : Bool) → any_in_flight h ≡ b → any_in_flight h ≡ false
    by true e =
        let one : (key : FileKey) × (in_flight h key ≡ true) = some h e in
        absurd (true≢false (sym one.1 ∙ ap is_some (flying.held one.0)))
    by false e = e

-- ---- one more claim

free_lands : (a b c : Bool) → (not a && (not b && not c)) ≡ true → b ≡ false
free_lands true b c e = absurd (true≢false (sym e))
free_lands false true c e = absurd (true≢false (sym e))
free_lands false false c e = refl

-- a key that is claimed was not in flight
pub was_landed : {V : Type 0} (s : Settings) (r : Resolver V) (h : History) (key : FileKey) → IsAnswer s r h (Claimed key)
    → in_flight h key ≡ false
was_landed s r h key (inl n) = free_lands (is_known (known_in h) key) (in_flight h key) (is_broken s.retries h key) n.free
was_landed s r h key (inr n) = free_lands (is_known (known_in h) key) (in_flight h key) (is_broken s.retries h key) n.free

neither : (a b : Bool) → a ≡ false → b ≡ false → (a || (b || false)) ≡ false
neither true b one two = absurd (true≢false one)
neither false true one two = absurd (true≢false two)
neither false false one two = refl

left_of : (a b : Bool) → (a || b) ≡ false → a ≡ false
left_of true b e = absurd (true≢false e)
left_of false b e = refl

right_of : (a b : Bool) → (a || b) ≡ false → b ≡ false
right_of true b e = absurd (true≢false e)
right_of false b e = e

joined : (seat : ℕ) (a b : Bool)
    → (if a then Some seat else (if b then Some seat else None)) ≡ (if (b || (a || false)) then Some seat else None)
joined seat true true = refl
joined seat true false = refl
joined seat false true = refl
joined seat false false = refl

other_way : Decided → (a b : FileKey) → key_eq a b ≡ false → key_eq b a ≡ false
other_way decided a b e = by (key_eq b a) refl
  where
    by : (c : Bool) → key_eq b a ≡ c → key_eq b a ≡ false
    by true is = absurd (true≢false (sym ((decided a b).1 (sym (same_key decided b a is))) ∙ e))
    by false is = is

distinct_more : Decided → (keys : List FileKey) (key : FileKey) → AreDistinct keys → is_one_of keys key ≡ false
    → AreDistinct (keys ++ key ∷ [])
distinct_more decided [] key distinct apart = (refl, tt)
distinct_more decided (one ∷ keys) key distinct apart = (
  list_any-append (λ x. key_eq x one) keys (key ∷ [])
      ∙ neither (is_one_of keys one) (key_eq key one) distinct.0
      (other_way decided one key (left_of (key_eq one key) (is_one_of keys key) apart)),
  distinct_more decided keys key distinct.1 (right_of (key_eq one key) (is_one_of keys key) apart),
)

pub can_ask_more : (plan : Plan) (keys : List FileKey) (key : FileKey) → CanAskEach plan keys → CanAsk plan key
    → CanAskEach plan (keys ++ key ∷ [])
can_ask_more plan [] key each one = (one, tt)
can_ask_more plan (first ∷ keys) key each one = (each.0, can_ask_more plan keys key each.1 one)

module _ (decided : Decided) (h : History) (seat : ℕ) (keys : List FileKey) (key : FileKey) where
  pub flying_more : OnlyFlying h seat keys → in_flight h key ≡ false
      → OnlyFlying (with_entry h seat (claim key)) seat (keys ++ key ∷ [])
  flying_more flying free = record { held = held; distinct = distinct_more decided keys key flying.distinct (apart (is_one_of keys key) refl) }
    where
      apart : (b : Bool) → is_one_of keys key ≡ b → is_one_of keys key ≡ false
      apart true e =
          let flies : in_flight h key ≡ true =
          ap is_some (flying.held key ∙ ap (λ b. if b then Some seat else None) e) in
          absurd (true≢false (sym flies ∙ free))
      apart false e = e

      held : (k : FileKey) → holder (with_entry h seat (claim key)) k ≡ seat_for seat (keys ++ key ∷ []) k
      held k =
          holder_more h (by_seat seat (claim key)) k
          ∙ ap (λ (o : Option ℕ). if key_eq key k then Some seat else o) (flying.held k)
          ∙ joined seat (key_eq key k) (is_one_of keys k)
          ∙ ap (λ b. if b then Some seat else None) (sym (list_any-append (λ one. key_eq one k) keys (key ∷ [])))

  -- ---- one end

  -- the first of them is the seat's
  pub first_held : OnlyFlying h seat (key ∷ keys) → holder h key ≡ Some seat
  first_held flying = flying.held key ∙ ap (λ b. if (b || is_one_of keys key) then Some seat else None) (key_itself decided key)

  after_end : (k : FileKey) (o : Option ℕ) (what : What) → is_claim what ≡ false
      → holder_after k o seat what ≡ unless_ended (key_eq (key_in what) k && is_seat o seat) o
  after_end k o (claim one) end = absurd (true≢false end)
  after_end k o (arrive one reading) end = refl
  after_end k o (broke one why) end = refl
  after_end k o (give_back one) end = refl

  pub flying_less : (what : What) → IsEndOf key what → OnlyFlying h seat (key ∷ keys)
      → OnlyFlying (with_entry h seat what) seat keys
  flying_less what ends flying = record {
    held = λ k. holder_more h (by_seat seat what) k ∙ by k (key_eq key k) refl;
    distinct = flying.distinct.1;
  }
    where
      of_key : (k : FileKey) (b : Bool) → key_eq key k ≡ b → key_eq (key_in what) k ≡ b
      of_key k b e = ap (λ (x : FileKey). key_eq x k) ends.same ∙ e

      was : (k : FileKey) (b : Bool) → key_eq key k ≡ b
          → holder h k ≡ (if (b || is_one_of keys k) then Some seat else None)
      was k b e = flying.held k ∙ ap (λ c. if (c || is_one_of keys k) then Some seat else None) e

      by : (k : FileKey) (b : Bool) → key_eq key k ≡ b → holder_after k (holder h k) seat what ≡ seat_for seat keys k
      by k true e =
          let gone : is_one_of keys k ≡ false =
          ap (is_one_of keys) (sym (same_key decided key k e)) ∙ flying.distinct.0 in
          after_end k (holder h k) what ends.end
          ∙ own_end (holder h k) (key_eq (key_in what) k) seat (of_key k true e) (was k true e)
          ∙ ap (λ b. if b then Some seat else None) (sym gone)
      by k false e = other_holder k (holder h k) seat what (of_key k false e) ∙ was k false e

-- ---- keys in their order

-- the key at a place is the first of those that are left there
pub first_left : (keys : List FileKey) (i : ℕ) (key : FileKey) → i < length keys → key ≡ get_or keys i key
    → drop i keys ≡ key ∷ drop (i + 1) keys
first_left keys i key at is =
    let step : drop i keys ≡ get_or keys i key ∷ drop (i + 1) keys = rw (add-one, drop-cons keys i key at) refl in
    step ∙ ap (λ (one : FileKey). one ∷ drop (i + 1) keys) (sym is)

-- and the last of those that were taken after it
pub last_taken : (keys : List FileKey) (i : ℕ) (key : FileKey) → i < length keys → key ≡ get_or keys i key
    → take (i + 1) keys ≡ take i keys ++ key ∷ []
last_taken keys i key at is =
    let step : take (i + 1) keys ≡ take i keys ++ get_or keys i key ∷ [] = rw add-one (take-suc keys i key at) in
    step ∙ ap (λ (one : FileKey). take i keys ++ one ∷ []) (sym is)

-- a part up to the end has all that are left
pub all_left : (keys : List FileKey) (i : ℕ) → take (length keys - i) (drop i keys) ≡ drop i keys
all_left keys i = take_all (length keys - i) (drop i keys) (omega (arith, length-drop i keys))

-- ---- keys that are due

pub due_none : ((h : History) (key : FileKey) → in_flight h key ≡ true → any_in_flight h ≡ true)
    → (plan : Plan) (h : History) (seat : ℕ) → any_in_flight h ≡ false → AreDue plan h seat []
due_none any plan h seat calm = record { flying = none_flying any h seat calm; asked = tt }

pub due_more : Decided → (plan : Plan) (h g : History) (seat : ℕ) (keys : List FileKey) (key : FileKey)
    → AreDue plan h seat keys → in_flight h key ≡ false → CanAsk plan key → g ≡ with_entry h seat (claim key)
    → AreDue plan g seat (keys ++ key ∷ [])
due_more decided plan h g seat keys key due free may history =
    subst (λ t. AreDue plan t seat (keys ++ key ∷ [])) (sym history) (record {
      flying = flying_more decided h seat keys key due.flying free;
      asked = can_ask_more plan keys key due.asked may;
    })

pub due_less : Decided → (plan : Plan) (h g : History) (seat : ℕ) (keys : List FileKey) (key : FileKey) (what : What)
    → IsEndOf key what → AreDue plan h seat (key ∷ keys) → g ≡ with_entry h seat what → AreDue plan g seat keys
due_less decided plan h g seat keys key what ends due history =
    subst (λ t. AreDue plan t seat keys) (sym history) (record {
      flying = flying_less decided h seat keys key what ends due.flying;
      asked = due.asked.1;
    })
