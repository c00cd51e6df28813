-- Keys in order: the first free one is the least free one.
use Rattle.std.proofs.Common.{◌≡◌, ℕ, suc, ◌<◌, ◌≤◌, arith, inl, inr, ◌⊎◌, Bool, true, false, Option, Some, None, List, [], filter, length, get_or, refl, sym, ◌∙◌, ap, subst, true≢false, rules}
use Rattle.std.specs.Cmp.{IsTotalOrder, IsStrictWeakOrder}
use Rattle.std.specs.Cmp.Rules.{comparing}
use Rattle.std.specs.Ordering.{eq_by_cmp, is_gt, is_lt, ordering_reverse}
use Rattle.std.proofs.Math.Nat.{lt_of_not-le}
use Rattle.std.specs.Prelude.{◌↔◌, slice_get}
use Rattle.std.specs.declared.cmp.Ordering.{Ordering}
use Rattle.std.specs.declared.cmp.Ordering.TheVariants.{Less, Equal, Greater}
use Rattle.std.proofs.lemmas.List.Sorted.{ranks_by, sorted_far}
use Rattle.std.proofs.lemmas.Option.{slice_get_cases}
use Rattle.claim_agenda.proofs.Members.{Place, among_at, no_members, passed, passes, place_of}
use Rattle.claim_agenda.specs.Agendas.{IsQueue, SameKeys}
use Rattle.claim_rules.specs.Least.{least}
use Rattle.res_base.specs.Members.{Among}
use Rattle.res_base.specs.Names.{key_cmp, key_eq}
use Rattle.res_base.specs.declared.key.FileKey.{FileKey}

abbrev pub Decided : Type 0
Decided = (a b : FileKey) → (key_eq a b ≡ true) ↔ (a ≡ b)

key_ties : (a b : FileKey) → key_eq a b ≡ eq_by_cmp key_cmp a b
key_ties = search (comparing, rules)

key_order : IsTotalOrder key_cmp
key_order = search (comparing, rules)

key_ranks : IsStrictWeakOrder (λ (x : FileKey) y. is_lt (key_cmp x y))
key_ranks = ranks_by key_order (λ (key : FileKey). key)

-- neither before nor after
tied : Decided → (a b : FileKey) → is_lt (key_cmp a b) ≡ false → is_gt (key_cmp a b) ≡ false → a ≡ b
tied decided a b before after = (decided a b).0 (key_ties a b ∙ by (key_cmp a b) refl before after)
  where
    by : (o : Ordering) → key_cmp a b ≡ o → is_lt o ≡ false → is_gt o ≡ false → eq_by_cmp key_cmp a b ≡ true
    by Less e lt gt = absurd (true≢false lt)
    by Equal e lt gt = rw e refl
    by Greater e lt gt = absurd (true≢false gt)

-- what comes after nothing is before nothing, seen from the other side
turned : (r s : Ordering) → r ≡ ordering_reverse s → is_gt s ≡ false → is_lt r ≡ false
turned r Less is gt = rw is refl
turned r Equal is gt = rw is refl
turned r Greater is gt = absurd (true≢false gt)

-- what the least of some keys is, as it is proved of it
pub record LeastLaws : Type 0 where
  pub among : (keys : List FileKey) (key : FileKey) → least keys ≡ Some key → Among key keys
  pub lowest : (keys : List FileKey) (key one : FileKey) → least keys ≡ Some key → Among one keys → is_gt (key_cmp key one) ≡ false
  pub none : (keys : List FileKey) → least keys ≡ None → keys ≡ []

module _ (decided : Decided) (laws : LeastLaws) where
  -- one of the keys that is before none of them
  pub least_is : (keys : List FileKey) (key : FileKey) → Among key keys → ((one : FileKey) → Among one keys → is_lt (key_cmp one key) ≡ false)
      → least keys ≡ Some key
  least_is keys key m first = by (least keys) refl
    where
      by : (o : Option FileKey) → least keys ≡ o → least keys ≡ Some key
      by None e = absurd (subst (λ ks. Among key ks) (laws.none keys e) m)
      by (Some one) e = e ∙ ap Some (tied decided one key (first one (laws.among keys one e)) (laws.lowest keys one key e m))

  -- the same keys have the same least one
  pub same_least : (one other : List FileKey) → SameKeys one other → least one ≡ least other
  same_least one other same = by (least one) refl (least other) refl
    where
      by : (o : Option FileKey) → least one ≡ o → (p : Option FileKey) → least other ≡ p → least one ≡ least other
      by None e None f = e ∙ sym f
      by None e (Some key) f = absurd (subst (λ ks. Among key ks) (laws.none one e) (same.back key (laws.among other key f)))
      by (Some key) e None f = absurd (subst (λ ks. Among key ks) (laws.none other f) (same.there key (laws.among one key e)))
      by (Some a) e (Some b) f =
          let lowest : is_gt (key_cmp b a) ≡ false = laws.lowest other b a f (same.there a (laws.among one a e)) in
          let least_too : is_gt (key_cmp a b) ≡ false = laws.lowest one a b e (same.back b (laws.among other b f)) in
          e ∙ ap Some (tied decided a b (turned (key_cmp a b) (key_cmp b a) (key_order.antisymm a b) lowest) least_too) ∙ sym f

  module _ (free : FileKey → Bool) (keys : List FileKey) (place : ℕ) (queue : IsQueue free keys place)
      (here : (d : FileKey) → place < length keys → free (get_or keys place d) ≡ true) where
    -- no free key stands before the place
    behind : (key : FileKey) → Among key (filter free keys) → (p : Place keys key) → place ≤ p.at
    behind key m p =
        let below : suc p.at ≤ place → ⊥ = λ under.
        true≢false (sym (ap free (p.is key) ∙ (passed free key keys m).is) ∙ queue.busy p.at key (omega (arith, under))) in
        let at_most : place < suc p.at = lt_of_not-le {n = suc p.at} {m = place} below in
        omega (arith, at_most)

    -- the key at the place is before none of those that are free
    none_below : (key : FileKey) → get_or keys place key ≡ key → (one : FileKey) → Among one (filter free keys)
        → is_lt (key_cmp one key) ≡ false
    none_below key at one m =
        let p : Place keys one = place_of keys one (passed free one keys m).member in
        let far = sorted_far (λ (x : FileKey) y. is_lt (key_cmp x y)) key_ranks keys queue.sorted place p.at key (behind one m p) p.within in
        subst (λ k. is_lt (key_cmp one k) ≡ false) at (subst (λ k. is_lt (key_cmp k (get_or keys place key)) ≡ false) (p.is key) far)

    pub least_free : least (filter free keys) ≡ slice_get keys place
    least_free = by (slice_get_cases keys place).1
      where
        by : ((x : FileKey) × (place < length keys) × (slice_get keys place ≡ Some x) × (get_or keys place x ≡ x))
            ⊎ ((length keys ≤ place) × (slice_get keys place ≡ None)) → least (filter free keys) ≡ slice_get keys place
        by (inl found) =
            let key : FileKey = found.0 in
            let member : Among key (filter free keys) =
            passes free key keys (ap free (sym found.3) ∙ here key found.1) (among_at keys place key key found.1 found.3) in
            least_is (filter free keys) key member (none_below key found.3) ∙ sym found.2
        by (inr past) =
            let none : filter free keys ≡ [] = no_members (filter free keys) (λ one m.
            let p : Place keys one = place_of keys one (passed free one keys m).member in
            absurd (omega (arith, behind one m p, p.within, past.0))) in
            ap least none ∙ sym past.1
