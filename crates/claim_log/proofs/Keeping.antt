-- The tables of a log tell its history, also once one more thing has happened.
use Rattle.std.proofs.Common.{◌≡◌, ◌⊎◌, inl, inr, ℕ, ◌+◌, ◌<◌, add-zero, Bool, true, false, cond, ◌&&◌, ◌||◌, List, [], ◌∷◌, ◌++◌, Option, Some, None, refl, sym, ◌∙◌, ap, subst, true≢false}
use Rattle.std.specs.BTreeMap.{BTreeMap, Updates, get}
use Rattle.std.specs.Option.{is_some}
use Rattle.std.specs.Prelude.{IsSome}
use Rattle.std.proofs.lemmas.Bool.{eq-eqb}
use Rattle.std.proofs.lemmas.List.{append-nil}
use Rattle.std.proofs.lemmas.List.Folds.{list_any-append}
use Rattle.std.proofs.lemmas.List.Sums.{fold_push, sum_by_push}
use Rattle.claim_log.proofs.Keys.{Decided, itself, updated}
use Rattle.claim_log.proofs.Telling.{pairs_more}
use Rattle.claim_log.specs.Kept.{IsKept}
use Rattle.claim_log.specs.Tallies.{tally, tally_of, or_none, tally_in, tally_after, KeepsRows}
use Rattle.claim_log.specs.Told.{entry}
use Rattle.claim_log.specs.declared.tallies.Tally.{Tally}
use Rattle.claim_rules.specs.Counts.{is_of, is_claim, claims, is_link_break, link_breaks, is_lack, is_lacking}
use Rattle.claim_rules.specs.Histories.{What, claim, arrive, broke, give_back, Entry, History, pair_in, pairs_in, known_in, is_seat, unless_ended, holder_after, holder, in_flight}
use Rattle.claim_rules.specs.declared.why.Why.{Why}
use Rattle.claim_rules.specs.declared.why.Why.TheVariants.{Link, NotCached}
use Rattle.res_base.specs.Known.{known_of}
use Rattle.res_base.specs.Names.{key_eq, key_cmp}
use Rattle.res_base.specs.declared.key.FileKey.{FileKey}
use Rattle.res_base.specs.declared.reading.Reading.{Reading}

-- ---- one more entry

holder_more : (h : History) (e : Entry) (q : FileKey) → holder (h ++ e ∷ []) q ≡ holder_after q (holder h q) e.seat e.what
holder_more h e q = fold_push (λ holds (x : Entry). holder_after q holds x.seat x.what) None h e

claims_more : (h : History) (e : Entry) → claims (h ++ e ∷ []) ≡ claims h + cond (is_claim e.what) 1 0
claims_more h e = sum_by_push (λ (x : Entry). cond (is_claim x.what) 1 0) h e

breaks_more : (h : History) (e : Entry) (q : FileKey)
    → link_breaks (h ++ e ∷ []) q ≡ link_breaks h q + cond (is_of is_link_break q e) 1 0
breaks_more h e q = sum_by_push (λ x. cond (is_of is_link_break q x) 1 0) h e

or_one : (a b : Bool) → (a || (b || false)) ≡ (a || b)
or_one true b = refl
or_one false true = refl
or_one false false = refl

lacking_more : (h : History) (e : Entry) (q : FileKey) → is_lacking (h ++ e ∷ []) q ≡ (is_lacking h q || is_of is_lack q e)
lacking_more h e q = list_any-append (is_of is_lack q) h (e ∷ []) ∙ or_one (is_lacking h q) (is_of is_lack q e)

tally_more : (h : History) (e : Entry) (q : FileKey) → tally_of (h ++ e ∷ []) q
    ≡ tally (link_breaks h q + cond (is_of is_link_break q e) 1 0) (is_lacking h q || is_of is_lack q e)
tally_more h e q = ap (λ n. tally n (is_lacking (h ++ e ∷ []) q)) (breaks_more h e q) ∙ ap (tally _) (lacking_more h e q)

or_false : (b : Bool) → (b || false) ≡ b
or_false true = refl
or_false false = refl

same_tally : (n : ℕ) (b : Bool) → tally (n + 0) (b || false) ≡ tally n b
same_tally n b = ap (λ k. tally k (b || false)) (add-zero n) ∙ ap (tally n) (or_false b)

-- what is no break counts nothing
abbrev IsUncounted : What → Type 0
IsUncounted w = (is_link_break w ≡ false) × (is_lack w ≡ false)

pub uncounted : (h : History) (seat : ℕ) (w : What) → IsUncounted w → (q : FileKey) → tally_of (h ++ entry seat w ∷ []) q ≡ tally_of h q
uncounted h seat w none q =
    tally_more h (entry seat w) q
    ∙ rw (none.0, none.1) (same_tally (link_breaks h q) (is_lacking h q))

-- a break counts for its key alone
module _ (decided : Decided) (h : History) (seat : ℕ) (key : FileKey) where
  broke_key : (why : Why) → tally_after (tally_of h key) why ≡ tally_of (h ++ entry seat (broke key why) ∷ []) key
  broke_key Link = sym (tally_more h (entry seat (broke key Link)) key ∙ rw (itself decided key) (ap (tally _) (or_false (is_lacking h key))))
  broke_key NotCached = sym (tally_more h (entry seat (broke key NotCached)) key ∙ rw (itself decided key) (ap (λ n. tally n (is_lacking h key || true)) (add-zero (link_breaks h key)) ∙ ap (tally _) (always (is_lacking h key))))
    where
      always : (b : Bool) → (b || true) ≡ true
      always true = refl
      always false = refl

  broke_other : (why : Why) (q : FileKey) → key_eq key q ≡ false → tally_of h q ≡ tally_of (h ++ entry seat (broke key why) ∷ []) q
  broke_other Link q other = sym (tally_more h (entry seat (broke key Link)) q ∙ rw other (same_tally (link_breaks h q) (is_lacking h q)))
  broke_other NotCached q other = sym (tally_more h (entry seat (broke key NotCached)) q ∙ rw other (same_tally (link_breaks h q) (is_lacking h q)))

  pub broke_counts : (why : Why) (q : FileKey) (row : Option Tally) → or_none row ≡ tally_of h q
      → or_none (cond (key_eq key q) (Some (tally_after (tally_of h key) why)) row) ≡ tally_of (h ++ entry seat (broke key why) ∷ []) q
  broke_counts why q row before = by (key_eq key q) refl
    where
      by : (b : Bool) → key_eq key q ≡ b → or_none (cond b (Some (tally_after (tally_of h key) why)) row) ≡ tally_of (h ++ entry seat (broke key why) ∷ []) q
      by true same = subst (λ k. tally_after (tally_of h key) why ≡ tally_of (h ++ entry seat (broke key why) ∷ []) k) ((decided key q).0 same) (broke_key why)
      by false other = before ∙ broke_other why q other

-- ---- what is known

pub known_alike : (h : History) (seat : ℕ) (w : What) → pair_in w ≡ [] → (q : FileKey) → known_in (h ++ entry seat w ∷ []) q ≡ known_in h q
known_alike h seat w none q = ap (λ ps. known_of ps q) (pairs_more h (entry seat w) ∙ ap (λ t. pairs_in h ++ t) none ∙ append-nil (pairs_in h))

known_other : (ps : List (FileKey × Reading)) (key q : FileKey) (reading : Reading) → key_eq key q ≡ false
    → known_of (ps ++ (key, reading) ∷ []) q ≡ known_of ps q
known_other [] key q reading e = rw e refl
known_other (p ∷ ps) key q reading e = ap (λ o. cond (key_eq p.0 q) (Some p.1) o) (known_other ps key q reading e)

pub known_apart : (h : History) (seat : ℕ) (key : FileKey) (reading : Reading) (q : FileKey) → key_eq key q ≡ false
    → known_in (h ++ entry seat (arrive key reading) ∷ []) q ≡ known_in h q
known_apart h seat key reading q other = ap (λ ps. known_of ps q) (pairs_more h (entry seat (arrive key reading))) ∙ known_other (pairs_in h) key q reading other

-- ---- who has a claim

end_of : Decided → (key q : FileKey) (holds : Option ℕ) (seat : ℕ) (b : Bool) → key_eq key q ≡ b → (key ≡ q → holds ≡ Some seat)
    → unless_ended (b && is_seat holds seat) holds ≡ cond b None holds
end_of decided key q holds seat true same own = rw (own ((decided key q).0 same), eq-eqb seat seat refl) refl
end_of decided key q holds seat false other own = refl

cond_claims : (b : Bool) (seat : ℕ) (holds : Option ℕ) → is_some (cond b (Some seat) holds) ≡ true → (b ≡ true) ⊎ (is_some holds ≡ true)
cond_claims true seat holds up = inl refl
cond_claims false seat holds up = inr up

cond_ends : (b : Bool) (holds : Option ℕ) → is_some (cond b None holds) ≡ true → (b ≡ false) × (is_some holds ≡ true)
cond_ends true holds up = absurd (true≢false (sym up))
cond_ends false holds up = (refl, up)

module _ (decided : Decided) (repos : ℕ) (h : History) (flights : BTreeMap FileKey ℕ) (tallies : BTreeMap FileKey Tally)
    (count : ℕ) (kept : IsKept repos h flights tallies count) (seat : ℕ) (key : FileKey) where
  claimed_at : (q : FileKey) → holder (h ++ entry seat (claim key) ∷ []) q ≡ cond (key_eq key q) (Some seat) (holder h q)
  claimed_at q = holder_more h (entry seat (claim key)) q

  flew_claim : (q : FileKey) → in_flight (h ++ entry seat (claim key) ∷ []) q ≡ true → (key_eq key q ≡ true) ⊎ (in_flight h q ≡ true)
  flew_claim q up = cond_claims (key_eq key q) seat (holder h q) (sym (ap is_some (claimed_at q)) ∙ up)

  -- a key was claimed
  pub claim_keeps : (later : BTreeMap FileKey ℕ) (rows : BTreeMap FileKey Tally) → Updates key_cmp flights later key (Some seat)
      → KeepsRows tallies rows → IsSome (get key_cmp rows key) → key.repo < repos → known_in h key ≡ None
      → IsKept repos (h ++ entry seat (claim key) ∷ []) later rows (count + 1)
  claim_keeps later rows up kept_rows there listed unknown =
      record {
        held = λ q. updated flights later key (Some seat) up q ∙ ap (cond (key_eq key q) (Some seat)) (kept.held q) ∙ sym (claimed_at q);
        counted = λ q. kept_rows.counted q ∙ kept.counted q ∙ sym (uncounted h seat (claim key) (refl, refl) q);
        claimed = ap (λ n. n + 1) kept.claimed ∙ sym (claims_more h (entry seat (claim key)));
        row = λ q flies. at (λ k. IsSome (get key_cmp rows k)) there q (λ before. kept_rows.rows q (kept.row q before)) (flew_claim q flies);
        listed = λ q flies. at (λ k. k.repo < repos) listed q (kept.listed q) (flew_claim q flies);
        unknown = λ q flies. known_alike h seat (claim key) refl q ∙ at (λ k. known_in h k ≡ None) unknown q (kept.unknown q) (flew_claim q flies);
      }
    where
      at : (P : FileKey → Type 0) → P key → (q : FileKey) → (in_flight h q ≡ true → P q) → (key_eq key q ≡ true) ⊎ (in_flight h q ≡ true) → P q
      at P here q before (inl same) = subst P ((decided key q).0 same) here
      at P here q before (inr flies) = before flies

  abbrev pub IsEnd : What → Type 0
  IsEnd w = ((q : FileKey) (holds : Option ℕ) → holder_after q holds seat w ≡ unless_ended (key_eq key q && is_seat holds seat) holds)
      × (is_claim w ≡ false)

  module _ (w : What) (is : IsEnd w) (own : holder h key ≡ Some seat) where
    ended_at : (q : FileKey) → holder (h ++ entry seat w ∷ []) q ≡ cond (key_eq key q) None (holder h q)
    ended_at q =
        holder_more h (entry seat w) q ∙ is.0 q (holder h q)
        ∙ end_of decided key q (holder h q) seat (key_eq key q) refl (λ same. subst (λ k. holder h k ≡ Some seat) same own)

    flew_end : (q : FileKey) → in_flight (h ++ entry seat w ∷ []) q ≡ true → (key_eq key q ≡ false) × (in_flight h q ≡ true)
    flew_end q up = cond_ends (key_eq key q) (holder h q) (sym (ap is_some (ended_at q)) ∙ up)

    -- a claim ended
    pub end_keeps : (later : BTreeMap FileKey ℕ) (rows : BTreeMap FileKey Tally) → Updates key_cmp flights later key None
        → ((q : FileKey) → IsSome (get key_cmp tallies q) → IsSome (get key_cmp rows q))
        → ((q : FileKey) → tally_in rows q ≡ tally_of (h ++ entry seat w ∷ []) q)
        → ((q : FileKey) → key_eq key q ≡ false → known_in (h ++ entry seat w ∷ []) q ≡ known_in h q)
        → IsKept repos (h ++ entry seat w ∷ []) later rows count
    end_keeps later rows up stay counted known =
        record {
          held = λ q. updated flights later key None up q ∙ ap (cond (key_eq key q) None) (kept.held q) ∙ sym (ended_at q);
          counted = counted;
          claimed = kept.claimed ∙ sym (claims_more h (entry seat w) ∙ rw is.1 (add-zero (claims h)));
          row = λ q flies. stay q (kept.row q (flew_end q flies).1);
          listed = λ q flies. kept.listed q (flew_end q flies).1;
          unknown = λ q flies. known q (flew_end q flies).0 ∙ kept.unknown q (flew_end q flies).1;
        }

  flies_held : holder h key ≡ Some seat → in_flight h key ≡ true
  flies_held own = ap is_some own

  pub arrive_keeps : (reading : Reading) (later : BTreeMap FileKey ℕ) → holder h key ≡ Some seat → Updates key_cmp flights later key None
      → IsKept repos (h ++ entry seat (arrive key reading) ∷ []) later tallies count
  arrive_keeps reading later own up =
      end_keeps (arrive key reading) (λ q holds. refl, refl) own later tallies up (λ q there. there)
      (λ q. kept.counted q ∙ sym (uncounted h seat (arrive key reading) (refl, refl) q))
      (λ q other. known_apart h seat key reading q other)

  pub return_keeps : (later : BTreeMap FileKey ℕ) → holder h key ≡ Some seat → Updates key_cmp flights later key None
      → IsKept repos (h ++ entry seat (give_back key) ∷ []) later tallies count
  return_keeps later own up =
      end_keeps (give_back key) (λ q holds. refl, refl) own later tallies up (λ q there. there)
      (λ q. kept.counted q ∙ sym (uncounted h seat (give_back key) (refl, refl) q))
      (λ q other. known_alike h seat (give_back key) refl q)

  pub broke_keeps : (why : Why) (later : BTreeMap FileKey ℕ) (rows : BTreeMap FileKey Tally) → holder h key ≡ Some seat
      → Updates key_cmp flights later key None → Updates key_cmp tallies rows key (Some (tally_after (tally_in tallies key) why))
      → IsKept repos (h ++ entry seat (broke key why) ∷ []) later rows count
  broke_keeps why later rows own up noted =
      end_keeps (broke key why) (λ q holds. refl, refl) own later rows up
      (λ q there. subst (λ o. IsSome o) (sym (updated tallies rows key _ noted q)) (still (key_eq key q) q there))
      (λ q. ap or_none (updated tallies rows key _ noted q ∙ ap (λ t. cond (key_eq key q) (Some (tally_after t why)) (get key_cmp tallies q)) (kept.counted key))
      ∙ broke_counts decided h seat key why q (get key_cmp tallies q) (kept.counted q))
      (λ q other. known_alike h seat (broke key why) refl q)
    where
      still : (b : Bool) (q : FileKey) → IsSome (get key_cmp tallies q) → IsSome (cond b (Some (tally_after (tally_in tallies key) why)) (get key_cmp tallies q))
      still true q there = refl
      still false q there = there
