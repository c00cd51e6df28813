-- What one more entry changes.
use Rattle.std.proofs.Common.{◌≡◌, ℕ, ◌+◌, Bool, true, false, cond, ◌&&◌, ◌||◌, List, [], ◌∷◌, ◌++◌, Option, Some, None, refl, sym, ◌∙◌, ap, true≢false}
use Rattle.std.specs.Prelude.{count_by}
use Rattle.std.specs.List.{list_any}
use Rattle.std.specs.Option.{is_some}
use Rattle.std.proofs.lemmas.Bool.{eq-eqb}
use Rattle.std.proofs.lemmas.List.{append-nil}
use Rattle.std.proofs.lemmas.List.Sums.{sum_by_push, fold_push}
use Rattle.std.proofs.lemmas.List.Folds.{list_any-append}
use Rattle.std.proofs.lemmas.List.Concat.{flat_map-append}
use Rattle.claim_rules.specs.Histories.{What, claim, arrive, broke, give_back, Entry, History, key_in, pair_in, pairs_in, known_in, is_seat, unless_ended, holder_after, holder, in_flight}
use Rattle.claim_rules.specs.Sessions.{is_known}
use Rattle.res_base.specs.Known.{known_of, Grows}
use Rattle.res_base.specs.Names.{key_eq}
use Rattle.res_base.specs.declared.key.FileKey.{FileKey}
use Rattle.res_base.specs.declared.reading.Reading.{Reading}

pub count_more : (test : Entry → Bool) (h : History) (e : Entry)
    → count_by test (h ++ e ∷ []) ≡ count_by test h + cond (test e) 1 0
count_more test h e = sum_by_push (λ x. cond (test x) 1 0) h e

or_one : (a b : Bool) → (a || (b || false)) ≡ (a || b)
or_one true b = refl
or_one false true = refl
or_one false false = refl

pub any_more : (test : Entry → Bool) (h : History) (e : Entry)
    → list_any test (h ++ e ∷ []) ≡ (list_any test h || test e)
any_more test h e = list_any-append test h (e ∷ []) ∙ or_one (list_any test h) (test e)

pub pairs_more : (h : History) (e : Entry) → pairs_in (h ++ e ∷ []) ≡ pairs_in h ++ pair_in e.what
pairs_more h e =
    flat_map-append (λ (x : Entry). pair_in x.what) h (e ∷ []) ∙ ap (λ t. pairs_in h ++ t) (append-nil (pair_in e.what))

pub pairs_append : (h more : History) → pairs_in (h ++ more) ≡ pairs_in h ++ pairs_in more
pairs_append h more = flat_map-append (λ (x : Entry). pair_in x.what) h more

pub holder_more : (h : History) (e : Entry) (key : FileKey)
    → holder (h ++ e ∷ []) key ≡ holder_after key (holder h key) e.seat e.what
holder_more h e key = fold_push (λ holds (x : Entry). holder_after key holds x.seat x.what) None h e

-- an entry without a pair changes nothing that is known
pub known_alike : (h : History) (e : Entry) (key : FileKey) → pair_in e.what ≡ []
    → is_known (known_in (h ++ e ∷ [])) key ≡ is_known (known_in h) key
known_alike h e key none =
    ap (λ ps. is_known (known_of ps) key) (pairs_more h e ∙ ap (λ t. pairs_in h ++ t) none ∙ append-nil (pairs_in h))

-- ---- the key of an entry, and other keys

unended : (b : Bool) (seat : ℕ) (holds : Option ℕ) → b ≡ false → unless_ended (b && is_seat holds seat) holds ≡ holds
unended true seat holds e = absurd (true≢false e)
unended false seat holds e = refl

pub other_holder : (key : FileKey) (holds : Option ℕ) (seat : ℕ) (w : What) → key_eq (key_in w) key ≡ false
    → holder_after key holds seat w ≡ holds
other_holder key holds seat (claim one) e = rw e refl
other_holder key holds seat (arrive one reading) e = unended (key_eq one key) seat holds e
other_holder key holds seat (broke one why) e = unended (key_eq one key) seat holds e
other_holder key holds seat (give_back one) e = unended (key_eq one key) seat holds e

-- an end takes a claim away, if anything
pub flew_before : (b : Bool) (holds : Option ℕ) → is_some (unless_ended b holds) ≡ true → is_some holds ≡ true
flew_before true holds e = absurd (true≢false (sym e))
flew_before false holds e = e

pub own_end : (holds : Option ℕ) (b : Bool) (seat : ℕ) → b ≡ true → holds ≡ Some seat
    → unless_ended (b && is_seat holds seat) holds ≡ None
own_end holds b seat e is = rw (e, is, eq-eqb seat seat refl) refl

pub known_other : (ps : List (FileKey × Reading)) (key one : FileKey) (reading : Reading) → key_eq one key ≡ false
    → known_of (ps ++ (one, reading) ∷ []) key ≡ known_of ps key
known_other [] key one reading e = rw e refl
known_other (p ∷ ps) key one reading e =
    ap (λ o. cond (key_eq p.0 key) (Some p.1) o) (known_other ps key one reading e)

pub known_last : (ps : List (FileKey × Reading)) (key one : FileKey) (reading : Reading) → key_eq one key ≡ true
    → is_known (known_of (ps ++ (one, reading) ∷ [])) key ≡ true
known_last [] key one reading e = rw e refl
known_last (p ∷ ps) key one reading e = by (key_eq p.0 key) (known_last ps key one reading e)
  where
    by : (b : Bool) → is_some (known_of (ps ++ (one, reading) ∷ []) key) ≡ true
        → is_some (cond b (Some p.1) (known_of (ps ++ (one, reading) ∷ []) key)) ≡ true
    by true later = refl
    by false later = later

-- after an arrival of another key, and of the key itself
pub known_as_before : (h : History) (e : Entry) (key one : FileKey) (reading : Reading) → e.what ≡ arrive one reading
    → key_eq one key ≡ false → is_known (known_in (h ++ e ∷ [])) key ≡ is_known (known_in h) key
known_as_before h e key one reading is other =
    ap (λ ps. is_known (known_of ps) key) (pairs_more h e ∙ ap (λ w. pairs_in h ++ pair_in w) is)
    ∙ ap is_some (known_other (pairs_in h) key one reading other)

pub known_now : (h : History) (e : Entry) (key one : FileKey) (reading : Reading) → e.what ≡ arrive one reading
    → key_eq one key ≡ true → is_known (known_in (h ++ e ∷ [])) key ≡ true
known_now h e key one reading is same =
    ap (λ ps. is_known (known_of ps) key) (pairs_more h e ∙ ap (λ w. pairs_in h ++ pair_in w) is)
    ∙ known_last (pairs_in h) key one reading same

-- what is known stays known along a history
abbrev pub Appends : Type 0
Appends = (pairs more : List (FileKey × Reading)) → Grows (known_of pairs) (known_of (pairs ++ more))

pub grows_by : Appends → (h more : History) → Grows (known_in h) (known_in (h ++ more))
grows_by appends h more key reading e =
    ap (λ ps. known_of ps key) (pairs_append h more) ∙ appends (pairs_in h) (pairs_in more) key reading e
