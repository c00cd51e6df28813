-- What is known after one entry more.
use Rattle.std.proofs.Common.{◌≡◌, ◌⊎◌, inl, inr, ⊎_elim, ℕ, Bool, true, false, cond, List, [], ◌∷◌, ◌++◌, Some, None, refl, sym, ◌∙◌, ap}
use Rattle.std.proofs.lemmas.List.{append-nil}
use Rattle.claim_rules.proofs.EntryLemmas.{pairs_more}
use Rattle.claim_rules.specs.Histories.{What, arrive, History, pair_in, pairs_in}
use Rattle.pool_rules.proofs.Working.{SameKeys}
use Rattle.pool_rules.specs.Works.{by_seat, with_entry}
use Rattle.pool_rules.specs.Worlds.{StaysTrue}
use Rattle.res_base.specs.Known.{Known, known_of}
use Rattle.res_base.specs.Names.{key_eq}
use Rattle.res_base.specs.declared.key.FileKey.{FileKey}
use Rattle.res_base.specs.declared.reading.Reading.{Reading}

-- what a list of pairs says of a key with one pair more: what it said, or what that pair says
pub last_or : (pairs : List (FileKey × Reading)) (one key : FileKey) (reading got : Reading)
    → known_of (pairs ++ (one, reading) ∷ []) key ≡ Some got → (known_of pairs key ≡ Some got)
    ⊎ ((key_eq one key ≡ true) × (Some reading ≡ Some got))
last_or [] one key reading got is = by (key_eq one key) refl is
  where
    by : (b : Bool) → key_eq one key ≡ b → cond b (Some reading) None ≡ Some got → (None ≡ Some got)
        ⊎ ((key_eq one key ≡ true) × (Some reading ≡ Some got))
    by true same e = inr (same, e)
    by false other e = inl e
last_or (p ∷ pairs) one key reading got is = by (key_eq p.0 key) (last_or pairs one key reading got) is
  where
    by : (b : Bool) → (known_of (pairs ++ (one, reading) ∷ []) key ≡ Some got → (known_of pairs key ≡ Some got)
        ⊎ ((key_eq one key ≡ true) × (Some reading ≡ Some got)))
        → cond b (Some p.1) (known_of (pairs ++ (one, reading) ∷ []) key) ≡ Some got
        → (cond b (Some p.1) (known_of pairs key) ≡ Some got) ⊎ ((key_eq one key ≡ true) × (Some reading ≡ Some got))
    by true later e = inl e
    by false later e = later e

pub arrival_true : SameKeys → (all : Known) (h : History) (seat : ℕ) (one : FileKey) (reading : Reading)
    → all one ≡ Some reading
    → StaysTrue all h (with_entry h seat (arrive one reading))
arrival_true same all h seat one reading is grows key got e =
    ⊎_elim (λ k. grows key got k) (λ at. ap all (sym (same one key at.0)) ∙ is ∙ at.1)
    (last_or (pairs_in h) one key reading got (ap (λ ps. known_of ps key) (sym (pairs_more h (by_seat seat
    (arrive one reading)))) ∙ e))

pub others_true : (all : Known) (h : History) (seat : ℕ) (what : What) → pair_in what ≡ []
    → StaysTrue all h (with_entry h seat what)
others_true all h seat what none grows key got e =
    grows key got (sym (ap (λ ps. known_of ps key) (pairs_more h (by_seat seat what)
    ∙ ap (λ t. pairs_in h ++ t) none ∙ append-nil (pairs_in h))) ∙ e)
