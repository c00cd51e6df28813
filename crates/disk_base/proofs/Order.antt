-- The keys of a table that was sorted.
use Rattle.std.proofs.Common.{ℕ, ◌≡◌, ◌+◌, ◌<◌, ◌≤◌, List, [], ◌∷◌, ◌++◌, length, get_or, take, Bool, true, false, cond, Option, Some, None, IsSome, zero, suc, refl, sym, ap, ◌∙◌, inl, inr, arith, true≢false}
use Rattle.std.specs.Prelude.{slice_get}
use Rattle.std.specs.Cmp.{IsTotalOrder}
use Rattle.std.specs.Cmp.Lexicographic.{bytes_decides}
use Rattle.std.specs.List.{IsDistinct}
use Rattle.std.specs.List.Sorted.{IsSorted, IsStrictlySortedBy}
use Rattle.std.specs.Map.{keys_of, lookup}
use Rattle.std.specs.Ordering.{is_lt, ordering_reverse}
use Rattle.std.specs.declared.cmp.Ordering.{Ordering}
use Rattle.std.specs.declared.cmp.Ordering.TheVariants.{Less, Equal, Greater}
use Rattle.std.proofs.lemmas.Cmp.{lists_total, nat_cmp_total}
use Rattle.std.proofs.lemmas.Map.Keys.{apart_from_distinct, sorted_from_all_adjacent}
use Rattle.std.proofs.lemmas.Map.Lookups.{exact_bytes}
use Rattle.res_base.specs.Members.{Among}
use Rattle.res_base.specs.Names.{text_cmp, text_eq}

text_total : IsTotalOrder text_cmp
text_total = lists_total nat_cmp_total

-- of two texts that differ, the second of which is not less, the first is
adjacent : (a b : List ℕ) → is_lt (text_cmp b a) ≡ false → text_eq a b ≡ false → text_cmp a b ≡ Less
adjacent a b not_less differ = by (text_cmp a b) refl
  where
    by : (o : Ordering) → text_cmp a b ≡ o → text_cmp a b ≡ Less
    by Less e = e
    by Equal e = absurd (true≢false (sym ((bytes_decides a b).1 (exact_bytes a b e)) ∙ differ))
    by Greater e =
        let back : text_cmp b a ≡ Less = text_total.antisymm b a ∙ ap ordering_reverse e in
        absurd (true≢false (sym (ap is_lt back) ∙ not_less))

pub ordered : (ks : List (List ℕ)) → IsSorted text_cmp ks → IsDistinct text_eq ks → IsStrictlySortedBy text_cmp ks
ordered ks sorted distinct =
    sorted_from_all_adjacent text_total ks [] (λ k l.
    adjacent (get_or ks k []) (get_or ks (k + 1) []) (sorted k [] (omega arith) l)
    (apart_from_distinct text_eq ks k (k + 1) [] distinct (omega arith) l))

module _ {X : Type 0} where
  found_case : (b : Bool) (n : List ℕ) (e : List ℕ × X) (es : List (List ℕ × X)) → text_eq n e.0 ≡ b
      → (IsSome (lookup (text_eq n) es) → Among n (keys_of es)) → IsSome (cond b (Some e.1) (lookup (text_eq n) es))
      → Among n (e.0 ∷ keys_of es)
  found_case true n e es q later h = inl ((bytes_decides n e.0).0 q)
  found_case false n e es q later h = inr (later h)

  -- a key that is found is one of the keys
  pub found_among : (es : List (List ℕ × X)) (n : List ℕ) → IsSome (lookup (text_eq n) es) → Among n (keys_of es)
  found_among [] n h = absurd (true≢false (sym h))
  found_among (e ∷ es) n h = found_case (text_eq n e.0) n e es refl (found_among es n) h

  pub keys_more : (es : List (List ℕ × X)) (i j : ℕ) (k : List ℕ) (x : X) → j ≡ suc i → slice_get es i ≡ Some (k, x)
      → take j (keys_of es) ≡ take i (keys_of es) ++ k ∷ []
  keys_more [] i j k x q e = absurd (cc)
  keys_more (y ∷ es) zero j k x q e =
      let same : y ≡ (k, x) = cc in rw q (ap (λ (p : List ℕ × X). p.0 ∷ []) same)
  keys_more (y ∷ es) (suc i) j k x q e =
      rw q (ap (λ (ks : List (List ℕ)). y.0 ∷ ks) (keys_more es i (suc i) k x refl e))
