-- Where a text leaves a word, a sign before a grammar, one of two grammars, and grammars with the same texts.
use Rattle.std.proofs.Common.{◌≡◌, ◌⊎◌, inl, inr, ℕ, suc, ◌+◌, ◌<◌, ◌≤◌, max, Bool, true, false, cond, List, [], ◌∷◌, ◌++◌, length, take, refl, sym, ◌∙◌, ap, subst, arith, add-one}
use Rattle.std.specs.Prelude.{◌==◌, slice_index}
use Rattle.std.proofs.Math.Seq.{take-append-add}
use Rattle.std.proofs.lemmas.List.{append_assoc, append_cancel_left, length-append}
use Rattle.std.proofs.lemmas.Bool.{cases_lt, eqb-true, eqb-false}
use Rattle.fault_place.specs.Place.{GoesOn, IsPlace}
use Rattle.fault_place.proofs.Places.{none_above}
use Rattle.cache_layout.specs.Places.{common}
use Rattle.cache_layout.proofs.Parts.{head_same, tail_same}

-- texts that differ at a place
pub differ_at : {P : Type 0} (i b c : ℕ) (text other : List ℕ) → slice_index text i ≡ b → slice_index other i ≡ c
    → (b ≡ c → ⊥) → text ≡ other → P
differ_at i b c text other p q never e = absurd (never (sym p ∙ ap (λ t. slice_index t i) e ∙ q))

-- grammars with the same texts have the same places
pub same_place : (G H : List ℕ → Type 0) (text : List ℕ) (n : ℕ) → ((t : List ℕ) → G t → H t)
    → ((t : List ℕ) → H t → G t) → IsPlace G text n → IsPlace H text n
same_place G H text n into back at = record {
  within = at.within;
  outside = λ h. at.outside (back text h);
  goes_on = (at.goes_on.0, into (take n text ++ at.goes_on.0) at.goes_on.1);
  no_more = λ more (rest, h). at.no_more more (rest, back (take (n + 1) text ++ rest) h);
}

-- a sign before a text of a grammar
pub record After (sign : ℕ) (G : List ℕ → Type 0) (text : List ℕ) : Type 0 where
  pub rest : List ℕ
  pub whole : text ≡ sign ∷ rest
  pub is : G rest

pub after_at : (sign : ℕ) (G : List ℕ → Type 0) (text : List ℕ) (n : ℕ) → IsPlace G text n
    → IsPlace (After sign G) (sign ∷ text) (suc n)
after_at sign G text n at = record {
  within = omega (arith, at.within);
  outside = λ after. at.outside (subst G (sym (tail_same sign sign text after.rest after.whole)) after.is);
  goes_on = (at.goes_on.0, record { rest = take n text ++ at.goes_on.0; whole = refl; is = at.goes_on.1 });
  no_more = λ more (rest, after).
      let count : suc n + 1 ≡ suc (n + 1) = omega arith in
      let e : take (suc n + 1) (sign ∷ text) ≡ sign ∷ take (n + 1) text = ap (λ k. take k (sign ∷ text)) count in
      let whole : sign ∷ (take (n + 1) text ++ rest) ≡ sign ∷ after.rest = ap (λ t. t ++ rest) (sym e) ∙ after.whole in
      at.no_more (omega (arith, more)) (
        rest,
        subst G
            (sym (tail_same sign sign (take (n + 1) text ++ rest) after.rest whole)) after.is,
      );
}

not_first : (sign : ℕ) (G : List ℕ → Type 0) (text : List ℕ)
    → ((rest : List ℕ) → text ≡ sign ∷ rest → ⊥) → 0 < length text → GoesOn (After sign G) (take (0 + 1) text) → ⊥
not_first sign G [] never more (rest, after) = absurd (omega (arith, more))
not_first sign G (x ∷ text) never more (rest, after) =
    let e : x ≡ sign = head_same x sign (take 0 text ++ rest) after.rest after.whole in
    never text (ap (λ y. y ∷ text) e)

pub not_after : (sign : ℕ) (G : List ℕ → Type 0) (text : List ℕ)
    → ((rest : List ℕ) → text ≡ sign ∷ rest → ⊥) → (k : List ℕ) → G k → IsPlace (After sign G) text 0
not_after sign G text never k is = record {
  within = omega arith;
  outside = λ after. never after.rest after.whole;
  goes_on = (sign ∷ k, record { rest = k; whole = refl; is = is });
  no_more = not_first sign G text never;
}

-- a word before a text of a grammar
pub record Behind (word : List ℕ) (G : List ℕ → Type 0) (text : List ℕ) : Type 0 where
  pub rest : List ℕ
  pub whole : text ≡ word ++ rest
  pub is : G rest

pub behind_at : (word : List ℕ) (G : List ℕ → Type 0) (text : List ℕ) (n : ℕ) → IsPlace G text n
    → IsPlace (Behind word G) (word ++ text) (length word + n)
behind_at word G text n at = record {
  within = let e = length-append word text in omega (arith, at.within, e);
  outside = λ behind. at.outside (subst G (sym (append_cancel_left word text behind.rest behind.whole)) behind.is);
  goes_on = (
    at.goes_on.0,
    record {
      rest = take n text ++ at.goes_on.0;
      whole = ap (λ t. t ++ at.goes_on.0) (take-append-add word text n) ∙ append_assoc word (take n text) at.goes_on.0;
      is = at.goes_on.1;
    },
  );
  no_more = λ more (rest, behind).
      let e = length-append word text in
      let count : length word + n + 1 ≡ length word + (n + 1) = omega arith in
      let f : take (length word + n + 1) (word ++ text) ≡ word ++ take (n + 1) text =
      ap (λ k. take k (word ++ text)) count ∙ take-append-add word text (n + 1) in
      let whole : word ++ (take (n + 1) text ++ rest) ≡ word ++ behind.rest =
      sym (append_assoc word (take (n + 1) text) rest) ∙ ap (λ t. t ++ rest) (sym f) ∙ behind.whole in
      at.no_more (omega (arith, more, e)) (
        rest,
        subst G
            (sym (append_cancel_left word (take (n + 1) text ++ rest) behind.rest whole)) behind.is,
      );
}

pub not_behind : (word : List ℕ) (G : List ℕ → Type 0) (text : List ℕ)
    → ((rest : List ℕ) → text ≡ word ++ rest → ⊥) → (k : List ℕ) → G k
    → IsPlace (Behind word G) text (common word text)
not_behind [] G text never k is = absurd (never text refl)
not_behind (b ∷ word) G [] never k is = record {
  within = omega arith;
  outside = λ behind. never behind.rest behind.whole;
  goes_on = ((b ∷ word) ++ k, record { rest = k; whole = refl; is = is });
  no_more = λ more _. absurd (omega (arith, more));
}
not_behind (b ∷ word) G (c ∷ text) never k is = by (b == c) refl (λ inside. not_behind word G text inside k is)
  where
    into : (t : List ℕ) → After b (Behind word G) t → Behind (b ∷ word) G t
    into t after = record {
      rest = after.is.rest;
      whole = after.whole ∙ ap (λ x. b ∷ x) after.is.whole;
      is = after.is.is;
    }

    back : (t : List ℕ) → Behind (b ∷ word) G t → After b (Behind word G) t
    back t behind = record {
      rest = word ++ behind.rest;
      whole = behind.whole;
      is = record { rest = behind.rest; whole = refl; is = behind.is };
    }

    by : (same : Bool) → (b == c) ≡ same
        → (((rest : List ℕ) → text ≡ word ++ rest → ⊥) → IsPlace (Behind word G) text (common word text))
        → IsPlace (Behind (b ∷ word) G) (c ∷ text) (cond same (suc (common word text)) 0)
    by true e behind =
        let is_c : b ≡ c = eqb-true b c e in
        let inner = behind (λ rest f. never rest (ap (λ x. x ∷ text) (sym is_c) ∙ ap (λ t. b ∷ t) f)) in
        same_place (After b (Behind word G)) (Behind (b ∷ word) G) (c ∷ text) (suc (common word text)) into back
        (subst (λ x. IsPlace (After b (Behind word G)) (x ∷ text) (suc (common word text))) is_c
        (after_at b (Behind word G) text (common word text) inner))
    by false e _ =
        same_place (After b (Behind word G)) (Behind (b ∷ word) G) (c ∷ text) 0 into back
        (not_after b (Behind word G) (c ∷ text) (λ rest f. eqb-false b c e (sym (head_same c b text rest f)))
        (word ++ k) (record { rest = k; whole = refl; is = is }))

-- where a text leaves a word alone
pub literal : (word text : List ℕ) → (text ≡ word → ⊥) → IsPlace (λ t. t ≡ word) text (common word text)
literal [] [] never = absurd (never refl)
literal [] (c ∷ text) never = record {
  within = omega arith;
  outside = never;
  goes_on = ([], refl);
  no_more = λ _ (rest, e). cc;
}
literal (b ∷ word) [] never = record {
  within = omega arith;
  outside = never;
  goes_on = (b ∷ word, refl);
  no_more = λ more _. absurd (omega (arith, more));
}
literal (b ∷ word) (c ∷ text) never = by (b == c) refl (literal word text)
  where
    into : (t : List ℕ) → After b (λ x. x ≡ word) t → t ≡ b ∷ word
    into t after = after.whole ∙ ap (λ x. b ∷ x) after.is

    back : (t : List ℕ) → t ≡ b ∷ word → After b (λ x. x ≡ word) t
    back t e = record { rest = word; whole = e; is = refl }

    by : (same : Bool) → (b == c) ≡ same
        → ((text ≡ word → ⊥) → IsPlace (λ t. t ≡ word) text (common word text))
        → IsPlace (λ t. t ≡ b ∷ word) (c ∷ text) (cond same (suc (common word text)) 0)
    by true e shorter =
        let is_c : b ≡ c = eqb-true b c e in
        let inner = shorter (λ f. never (ap (λ x. x ∷ text) (sym is_c) ∙ ap (λ t. b ∷ t) f)) in
        same_place (After b (λ x. x ≡ word)) (λ t. t ≡ b ∷ word) (c ∷ text) (suc (common word text)) into back
        (subst (λ x. IsPlace (After b (λ y. y ≡ word)) (x ∷ text) (suc (common word text))) is_c
        (after_at b (λ x. x ≡ word) text (common word text) inner))
    by false e _ =
        same_place (After b (λ x. x ≡ word)) (λ t. t ≡ b ∷ word) (c ∷ text) 0 into back
        (not_after b (λ x. x ≡ word) (c ∷ text) (λ rest f. eqb-false b c e (sym (head_same c b text rest f)))
        word refl)

abbrev pub Either : (List ℕ → Type 0) → (List ℕ → Type 0) → List ℕ → Type 0
Either G H text = G text ⊎ H text

-- a text leaves two grammars where it leaves the one that it leaves last
pub either_left : (G H : List ℕ → Type 0) (text : List ℕ) (m n : ℕ) → n ≤ m → IsPlace G text m → IsPlace H text n
    → IsPlace (Either G H) text m
either_left G H text m n below p q = record {
  within = p.within;
  outside = out;
  goes_on = (p.goes_on.0, inl p.goes_on.1);
  no_more = no_more;
}
  where
    out : Either G H text → ⊥
    out (inl g) = p.outside g
    out (inr h) = q.outside h

    no_more : m < length text → GoesOn (Either G H) (take (m + 1) text) → ⊥
    no_more more (rest, inl g) = p.no_more more (rest, g)
    no_more more (rest, inr h) =
        none_above H text n (m + 1) q (omega (arith, below)) (omega (arith, more)) (rest, h)

pub either_right : (G H : List ℕ → Type 0) (text : List ℕ) (m n : ℕ) → m ≤ n → IsPlace G text m → IsPlace H text n
    → IsPlace (Either G H) text n
either_right G H text m n below p q = same_place (Either H G) (Either G H) text n turned turned_back
    (either_left H G text n m below q p)
  where
    turned : (t : List ℕ) → Either H G t → Either G H t
    turned t (inl h) = inr h
    turned t (inr g) = inl g

    turned_back : (t : List ℕ) → Either G H t → Either H G t
    turned_back t (inl g) = inr g
    turned_back t (inr h) = inl h

pub either_place : (G H : List ℕ → Type 0) (text : List ℕ) (m n : ℕ) → IsPlace G text m → IsPlace H text n
    → IsPlace (Either G H) text (max m n)
either_place G H text m n p q = by (cases_lt m n)
  where
    by : ((m < n) ⊎ (n ≤ m)) → IsPlace (Either G H) text (max m n)
    by (inl above) =
        let e : n ≡ max m n = omega (arith, above) in
        subst (IsPlace (Either G H) text) e (either_right G H text m n (omega (arith, above)) p q)
    by (inr below) =
        let e : m ≡ max m n = omega (arith, below) in
        subst (IsPlace (Either G H) text) e (either_left G H text m n below p q)
