-- Texts of two parts, the first without a sign with which the second begins, and where such texts leave their grammar.
use Rattle.std.proofs.Common.{◌≡◌, ◌⊎◌, inl, inr, ℕ, zero, suc, ◌+◌, ◌<◌, ◌≤◌, List, [], ◌∷◌, ◌++◌, length, take, refl, sym, ◌∙◌, ap, subst, arith, add-one}
use Rattle.std.proofs.Math.Seq.{take-append-add}
use Rattle.std.proofs.lemmas.List.{append_assoc, take-append-le, length-append}
use Rattle.std.proofs.lemmas.Bool.{cases_lt}
use Rattle.fault_place.specs.Place.{GoesOn, IsPlace}
use Rattle.cache_layout.specs.Places.{Lacks, Begins}

pub head_same : (a b : ℕ) (xs ys : List ℕ) → a ∷ xs ≡ b ∷ ys → a ≡ b
head_same a b xs ys e = cc

pub tail_same : (a b : ℕ) (xs ys : List ℕ) → a ∷ xs ≡ b ∷ ys → xs ≡ ys
tail_same a b xs ys e = cc

none_first : {P : Type 0} (a : ℕ) (xs ys : List ℕ) → ys ≡ [] → a ∷ xs ≡ ys → P
none_first a xs ys none e = cc

both_same : (a b : ℕ) (xs ys : List ℕ) → a ≡ b → xs ≡ ys → a ∷ xs ≡ b ∷ ys
both_same a b xs ys e f = ap (λ x. x ∷ xs) e ∙ ap (λ t. b ∷ t) f

-- a text is cut at the first sign in one way only
pub one_cut : (sign : ℕ) (a b c d : List ℕ) → Lacks sign a → Begins sign b → Lacks sign c → Begins sign d
    → a ++ b ≡ c ++ d → (a ≡ c) × (b ≡ d)
one_cut sign [] b [] d p q r s e = (refl, e)
one_cut sign [] b (y ∷ c) d p (inl none) r s e = none_first y (c ++ d) b none (sym e)
one_cut sign [] b (y ∷ c) d p (inr (rest, is)) (never, r) s e = absurd (never (head_same y sign (c ++ d) rest (sym e ∙ is)))
one_cut sign (x ∷ a) b [] d p q r (inl none) e = none_first x (a ++ b) d none e
one_cut sign (x ∷ a) b [] d (never, p) q r (inr (rest, is)) e = absurd (never (head_same x sign (a ++ b) rest (e ∙ is)))
one_cut sign (x ∷ a) b (y ∷ c) d (_, p) q (_, r) s e =
    let cut = one_cut sign a b c d p q r s (tail_same x y (a ++ b) (c ++ d) e) in
    (both_same x y a c (head_same x y (a ++ b) (c ++ d) e) cut.0, cut.1)

-- a text without the sign that begins another one is in its first part
pub in_first : (sign : ℕ) (text rest a b : List ℕ) → Lacks sign text → Begins sign b → text ++ rest ≡ a ++ b
    → (more : List ℕ) × (a ≡ text ++ more)
in_first sign [] rest a b p q e = (a, refl)
in_first sign (x ∷ text) rest [] b p (inl none) e = none_first x (text ++ rest) b none e
in_first sign (x ∷ text) rest [] b (never, p) (inr (r, is)) e = absurd (never (head_same x sign (text ++ rest) r (e ∙ is)))
in_first sign (x ∷ text) rest (y ∷ a) b (_, p) q e =
    let more = in_first sign text rest a b p q (tail_same x y (text ++ rest) (a ++ b) e) in
    (more.0, both_same y x a (text ++ more.0) (sym (head_same x y (text ++ rest) (a ++ b) e)) more.1)

lacks_take : (sign n : ℕ) (text : List ℕ) → Lacks sign text → Lacks sign (take n text)
lacks_take sign zero text p = tt
lacks_take sign (suc n) [] p = tt
lacks_take sign (suc n) (x ∷ text) (never, p) = (never, lacks_take sign n text p)

begins_take : (sign n : ℕ) (text rest : List ℕ) → n < length text → Begins sign text
    → Begins sign (take (n + 1) text ++ rest)
begins_take sign n text rest h (inl none) =
    let e : length text ≡ 0 = ap (λ t. length t) none in absurd (omega (arith, h, e))
begins_take sign n text rest h (inr (after, is)) =
    let e : take (n + 1) text ≡ take (suc n) (sign ∷ after) = ap (λ k. take k text) (add-one n)
    ∙ ap (λ t. take (suc n) t) is in
    inr (take n after ++ rest, ap (λ t. t ++ rest) e)

-- a first and a second part
pub record Both (First Second : List ℕ → Type 0) (text : List ℕ) : Type 0 where
  pub first : List ℕ
  pub second : List ℕ
  pub whole : text ≡ first ++ second
  pub is_first : First first
  pub is_second : Second second

-- the sign tells where the second part begins
pub record AreApart (sign : ℕ) (First Second : List ℕ → Type 0) : Type 0 where
  pub lacks : (text : List ℕ) → First text → Lacks sign text
  pub begins : (text : List ℕ) → Second text → Begins sign text

module _ {sign : ℕ} {First Second : List ℕ → Type 0} (apart : AreApart sign First Second) where
  cut_of : (a b : List ℕ) → Lacks sign a → Begins sign b → (both : Both First Second (a ++ b))
      → (a ≡ both.first) × (b ≡ both.second)
  cut_of a b p q both = one_cut sign a b both.first both.second p q (apart.lacks both.first both.is_first)
      (apart.begins both.second both.is_second) both.whole

  -- the text leaves the grammar in its second part
  pub in_second : (a b : List ℕ) (n : ℕ) → Lacks sign a → Begins sign b → First a → IsPlace Second b n
      → IsPlace (Both First Second) (a ++ b) (length a + n)
  in_second a b n p q is at =
      record {
        within = let e = length-append a b in omega (arith, at.within, e);
        outside = λ both. at.outside (subst Second (sym (cut_of a b p q both).1) both.is_second);
        goes_on = (
          at.goes_on.0,
          record {
            first = a;
            second = take n b ++ at.goes_on.0;
            whole = ap (λ t. t ++ at.goes_on.0) (take-append-add a b n) ∙ append_assoc a (take n b) at.goes_on.0;
            is_first = is;
            is_second = at.goes_on.1;
          },
        );
        no_more = λ more (rest, both).
            let e = length-append a b in
            let inside : n < length b = omega (arith, more, e) in
            let count : length a + n + 1 ≡ length a + (n + 1) = omega arith in
            let text : take (length a + n + 1) (a ++ b) ≡ a ++ take (n + 1) b = ap (λ k. take k (a ++ b)) count
            ∙ take-append-add a b (n + 1) in
            let whole : a ++ (take (n + 1) b ++ rest) ≡ both.first ++ both.second =
            sym (append_assoc a (take (n + 1) b) rest) ∙ ap (λ t. t ++ rest) (sym text) ∙ both.whole in
            let cut = one_cut sign a (take (n + 1) b ++ rest) both.first both.second p
            (begins_take sign n b rest inside q) (apart.lacks both.first both.is_first)
            (apart.begins both.second both.is_second) whole in
            at.no_more inside (rest, subst Second (sym cut.1) both.is_second);
      }

  no_more_first : (a b : List ℕ) (n : ℕ) → Lacks sign a → Begins sign b → IsPlace First a n → n < length (a ++ b)
      → ((n < length a) ⊎ (length a ≤ n)) → GoesOn (Both First Second) (take (n + 1) (a ++ b)) → ⊥
  no_more_first a b n p q at more (inl inside) (rest, both) =
      let text : take (n + 1) (a ++ b) ≡ take (n + 1) a = take-append-le (n + 1) a b (omega (arith, inside)) in
      let whole : take (n + 1) a ++ rest ≡ both.first ++ both.second = ap (λ t. t ++ rest) (sym text) ∙ both.whole in
      let further = in_first sign (take (n + 1) a) rest both.first both.second (lacks_take sign (n + 1) a p)
      (apart.begins both.second both.is_second) whole in
      at.no_more inside (further.0, subst First further.1 both.is_first)
  no_more_first a b n p q at more (inr past) (rest, both) =
      let e = length-append a b in
      let inside : 0 < length b = omega (arith, more, past, e, at.within) in
      let count : n + 1 ≡ length a + 1 = omega (arith, past, at.within) in
      let text : take (n + 1) (a ++ b) ≡ a ++ take (0 + 1) b = ap (λ k. take k (a ++ b)) count
      ∙ take-append-add a b 1 in
      let whole : a ++ (take (0 + 1) b ++ rest) ≡ both.first ++ both.second =
      sym (append_assoc a (take (0 + 1) b) rest) ∙ ap (λ t. t ++ rest) (sym text) ∙ both.whole in
      let cut = one_cut sign a (take (0 + 1) b ++ rest) both.first both.second p
      (begins_take sign 0 b rest inside q) (apart.lacks both.first both.is_first)
      (apart.begins both.second both.is_second) whole in
      at.outside (subst First (sym cut.0) both.is_first)

  -- the text leaves the grammar in its first part, or where that should go on
  pub in_first_part : (a b : List ℕ) (n : ℕ) → Lacks sign a → Begins sign b → IsPlace First a n
      → (k : List ℕ) → Second k → IsPlace (Both First Second) (a ++ b) n
  in_first_part a b n p q at k is =
      record {
        within = let e = length-append a b in omega (arith, at.within, e);
        outside = λ both. at.outside (subst First (sym (cut_of a b p q both).0) both.is_first);
        goes_on = (
          at.goes_on.0 ++ k,
          record {
            first = take n a ++ at.goes_on.0;
            second = k;
            whole = ap (λ t. t ++ (at.goes_on.0 ++ k)) (take-append-le n a b at.within)
                ∙ sym (append_assoc (take n a) at.goes_on.0 k);
            is_first = at.goes_on.1;
            is_second = is;
          },
        );
        no_more = λ more goes. no_more_first a b n p q at more (cases_lt n (length a)) goes;
      }
