-- The events of a history tell why claims broke.
use Rattle.std.proofs.Common.{◌≡◌, ◌+◌, ◌<◌, ◌||◌, ℕ, Bool, true, false, List, [], ◌∷◌, Option, Some, None, refl, ◌∙◌, ap, arith, fold, length, if◌then◌else◌, cond}
use Rattle.std.proofs.lemmas.List.Sums.{sum_by-cons}
use Rattle.std.specs.Prelude.{IsSome, count_by, nat_lt}
use Rattle.std.specs.List.{list_any}
use Rattle.claim_log.specs.Events.{events_from, events_of, kind_of}
use Rattle.claim_log.specs.declared.event.Event.{Event}
use Rattle.claim_rules.specs.Counts.{is_broken, is_lack, is_lacking, is_link_break, is_of, link_breaks}
use Rattle.claim_rules.specs.Histories.{What, claim, arrive, broke, give_back, Entry, History, pair_in}
use Rattle.claim_rules.specs.declared.why.Why.{Why}
use Rattle.claim_rules.specs.declared.why.Why.TheVariants.{Link, NotCached}
use Rattle.fetch_pool.specs.Whys.{why_by}
use Rattle.pool_rules.specs.Ends.{last_why, why_after}
use Rattle.res_base.specs.Names.{key_eq}
use Rattle.res_base.specs.declared.key.FileKey.{FileKey}

step : (key : FileKey) (why : Option Why) (place : ℕ) (what : What) → why_by key why (kind_of place what) ≡ why_after key why what
step key why place (claim one) = refl
step key why place (arrive one reading) = refl
step key why place (broke one cause) = refl
step key why place (give_back one) = refl

abbrev pub by_events : FileKey → Option Why → List Event → Option Why
by_events key why events = fold (λ why (e : Event). why_by key why e.kind) why events

abbrev by_entries : FileKey → Option Why → History → Option Why
by_entries key why h = fold (λ why (e : Entry). why_after key why e.what) why h

told_from : (key : FileKey) (why : Option Why) (place : ℕ) (h : History)
    → by_events key why (events_from place h) ≡ by_entries key why h
told_from key why place [] = refl
told_from key why place (e ∷ h) =
    ap (λ w. by_events key w (events_from (place + length (pair_in e.what)) h)) (step key why place e.what)
    ∙ told_from key (why_after key why e.what) (place + length (pair_in e.what)) h

pub told : (key : FileKey) (h : History) → by_events key None (events_of h) ≡ last_why h key
told key h = told_from key None 0 h

-- ---- a broken key has such an event

-- the entry breaks the key's claim
abbrev breaks : FileKey → Entry → Bool
breaks key e = is_of is_link_break key e || is_of is_lack key e

why_stays : (key : FileKey) (why : Option Why) (what : What) → IsSome why → IsSome (why_after key why what)
why_stays key why (claim one) some = some
why_stays key why (arrive one reading) some = some
why_stays key why (give_back one) some = some
why_stays key why (broke one cause) some = by (key_eq one key)
  where
    by : (b : Bool) → IsSome (if b then Some cause else why)
    by true = refl
    by false = some

pub some_stays : (key : FileKey) (why : Option Why) (h : History) → IsSome why → IsSome (by_entries key why h)
some_stays key why [] some = some
some_stays key why (e ∷ h) some = some_stays key (why_after key why e.what) h (why_stays key why e.what some)

why_comes : (key : FileKey) (why : Option Why) (seat : ℕ) (what : What)
    → breaks key (record { seat = seat; what = what }) ≡ true → IsSome (why_after key why what)
why_comes key why seat (claim one) is = cc
why_comes key why seat (arrive one reading) is = cc
why_comes key why seat (give_back one) is = cc
why_comes key why seat (broke one Link) is = by (key_eq one key) is
  where
    by : (b : Bool) → (b || false) ≡ true → IsSome (if b then Some Link else why)
    by true is = refl
    by false is = cc
why_comes key why seat (broke one NotCached) is = by (key_eq one key) is
  where
    by : (b : Bool) → (false || b) ≡ true → IsSome (if b then Some NotCached else why)
    by true is = refl
    by false is = cc

any_comes : (key : FileKey) (why : Option Why) (h : History) → list_any (breaks key) h ≡ true → IsSome (by_entries key why h)
any_comes key why [] is = cc
any_comes key why (e ∷ h) is = by (breaks key e) refl is (any_comes key (why_after key why e.what) h)
  where
    by : (b : Bool) → breaks key e ≡ b → (b || list_any (breaks key) h) ≡ true
        → (list_any (breaks key) h ≡ true → IsSome (by_entries key (why_after key why e.what) h))
        → IsSome (by_entries key (why_after key why e.what) h)
    by true at is further = some_stays key (why_after key why e.what) h (why_comes key why e.seat e.what at)
    by false at is further = further is

or_right : (x y : Bool) → y ≡ true → (x || y) ≡ true
or_right true y is = refl
or_right false y is = is

-- a count above 0 has one that passes
counted_any : (key : FileKey) (h : History) → 0 < count_by (is_of is_link_break key) h → list_any (breaks key) h ≡ true
counted_any key [] some = absurd (omega (arith, some))
counted_any key (e ∷ h) some = by (is_of is_link_break key e) refl (counted_any key h)
  where
    by : (b : Bool) → is_of is_link_break key e ≡ b
        → (0 < count_by (is_of is_link_break key) h → list_any (breaks key) h ≡ true)
        → (breaks key e || list_any (breaks key) h) ≡ true
    by true at further = ap (λ b. (b || is_of is_lack key e) || list_any (breaks key) h) at
    by false at further = or_right (breaks key e) (list_any (breaks key) h) (further fewer)
      where
        sum : count_by (is_of is_link_break key) (e ∷ h) ≡ cond (is_of is_link_break key e) 1 0 + count_by (is_of is_link_break key) h
        sum = sum_by-cons (λ (x : Entry). cond (is_of is_link_break key x) 1 0) e h

        fewer : 0 < count_by (is_of is_link_break key) h
        fewer =
            let same : count_by (is_of is_link_break key) (e ∷ h) ≡ 0 + count_by (is_of is_link_break key) h =
            sum ∙ ap (λ b. cond b 1 0 + count_by (is_of is_link_break key) h) at in
            omega (arith, some, same)

lacking_any : (key : FileKey) (h : History) → list_any (is_of is_lack key) h ≡ true → list_any (breaks key) h ≡ true
lacking_any key [] is = is
lacking_any key (e ∷ h) is = by (is_of is_link_break key e) (is_of is_lack key e) is (lacking_any key h)
  where
    by : (a b : Bool) → (b || list_any (is_of is_lack key) h) ≡ true
        → (list_any (is_of is_lack key) h ≡ true → list_any (breaks key) h ≡ true)
        → ((a || b) || list_any (breaks key) h) ≡ true
    by true b is further = refl
    by false true is further = refl
    by false false is further = further is

pub broken_why : (retries : ℕ) (h : History) (key : FileKey) → is_broken retries h key ≡ true → IsSome (last_why h key)
broken_why retries h key is = any_comes key None h (by (nat_lt retries (link_breaks h key)) refl is)
  where
    by : (b : Bool) → nat_lt retries (link_breaks h key) ≡ b → (b || is_lacking h key) ≡ true → list_any (breaks key) h ≡ true
    by true at is = counted_any key h (omega (arith, lt at))
      where
        lt : nat_lt retries (link_breaks h key) ≡ true → retries < link_breaks h key
        lt at = grind (arith, at)
    by false at is = lacking_any key h is
