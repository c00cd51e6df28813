-- A set within another one has a mask that fits the other's cover.
use Rattle.std.proofs.Common.{◌≡◌, ℕ, Bool, true, false, ◌&&◌, ◌||◌, cond, List, [], ◌∷◌, inl, inr, refl, sym, ◌∙◌, ap, true≢false}
use Rattle.std.specs.Prelude.{codes}
use Rattle.std.specs.List.{list_all}
use Rattle.std.specs.Int.Bits.{bit_and, and_self, and_zero_r}
use Rattle.std.proofs.lemmas.Nat.{and_assoc, and_comm}
use Rattle.std.proofs.lemmas.Bool.{or_cases}
use Rattle.res_base.specs.Names.{text_eq}
use Rattle.res_base.specs.declared.pom.Exclusion.{Exclusion}
use Rattle.exclusion_sets.specs.Exclusions.{covers, is_covered, is_within, some_covers}
use Rattle.exclusion_sets.specs.declared.excl_set.ExclSet.{ExclSet}
use Rattle.live_walk.specs.Marks.{cover_mask, cover_of, left_by, mask_for, mask_of, own_mask}
use Rattle.live_walk.proofs.Members.{and_both}
use Rattle.live_walk.proofs.Modules.{text_same}

-- what fits the bits so far fits those that more rules leave
fits_more : (mask : Exclusion → ℕ) (x start : ℕ) (rules : List Exclusion) → bit_and x start ≡ start
    → bit_and x (left_by mask start rules) ≡ left_by mask start rules
fits_more mask x start [] h = h
fits_more mask x start (rule ∷ rules) h =
    fits_more mask x (bit_and start (mask rule)) rules
    (sym (and_assoc (mask rule) x start) ∙ ap (λ z. bit_and z (mask rule)) h)

-- one mask twice
fits_itself : (x start : ℕ) → bit_and x (bit_and start x) ≡ bit_and start x
fits_itself x start =
    and_comm x (bit_and start x) ∙ and_assoc x start x ∙ ap (λ z. bit_and start z) (and_self x)

fits_nothing : (x start : ℕ) → bit_and x (bit_and start 0) ≡ bit_and start 0
fits_nothing x start = ap (λ z. bit_and x z) (and_zero_r start) ∙ and_zero_r x ∙ sym (and_zero_r start)

module _ (wide rule : Exclusion) (start : ℕ) where
  same_mask : wide.org ≡ rule.org → wide.name ≡ rule.name → mask_of wide ≡ mask_of rule
  same_mask org name = ap (λ z. mask_for z wide.name) org ∙ ap (λ z. mask_for rule.org z) name

  fits_same : mask_of wide ≡ mask_of rule
      → bit_and (mask_of rule) (bit_and start (mask_of wide)) ≡ bit_and start (mask_of wide)
  fits_same e =
      ap (λ z. bit_and z (bit_and start (mask_of wide))) (sym e) ∙ fits_itself (mask_of wide) start

  fits_by : (any_org any_name : Bool)
      → ((any_org || text_eq wide.org rule.org) && (any_name || text_eq wide.name rule.name)) ≡ true
      → bit_and (mask_of rule) (bit_and start (cond (any_org || any_name) 0 (mask_of wide)))
      ≡ bit_and start (cond (any_org || any_name) 0 (mask_of wide))
  fits_by true any_name h = fits_nothing (mask_of rule) start
  fits_by false true h = fits_nothing (mask_of rule) start
  fits_by false false h =
      let both : (text_eq wide.org rule.org ≡ true) × (text_eq wide.name rule.name ≡ true) =
      and_both (text_eq wide.org rule.org) (text_eq wide.name rule.name) h in
      fits_same (same_mask (text_same wide.org rule.org both.0) (text_same wide.name rule.name both.1))

  -- a rule's mask fits the bits that a rule leaves which covers it
  fits_one : covers wide rule.org rule.name ≡ true
      → bit_and (mask_of rule) (bit_and start (cover_of wide)) ≡ bit_and start (cover_of wide)
  fits_one h = fits_by (text_eq wide.org (codes "*")) (text_eq wide.name (codes "*")) h

-- and those that a set leaves which covers it
fits_cover : (rule : Exclusion) (start : ℕ) (rules : List Exclusion) → some_covers rules rule.org rule.name ≡ true
    → bit_and (mask_of rule) (left_by cover_of start rules) ≡ left_by cover_of start rules
fits_cover rule start [] h = absurd (true≢false (sym h))
fits_cover rule start (wide ∷ rules) h =
    elim (or_cases (covers wide rule.org rule.name) (some_covers rules rule.org rule.name) h) [
      | inl here ↦ fits_more cover_of (mask_of rule) (bit_and start (cover_of wide)) rules
          (fits_one wide rule start here)
      | inr later ↦ fits_cover rule (bit_and start (cover_of wide)) rules later
    ]

fits_all : (other : ExclSet) (start : ℕ) (rules : List Exclusion) → list_all (is_covered other) rules ≡ true
    → bit_and start (cover_mask other.rules) ≡ cover_mask other.rules
    → bit_and (left_by mask_of start rules) (cover_mask other.rules) ≡ cover_mask other.rules
fits_all other start [] h e = e
fits_all other start (rule ∷ rules) h e =
    let both : (is_covered other rule ≡ true) × (list_all (is_covered other) rules ≡ true) =
    and_both (is_covered other rule) (list_all (is_covered other) rules) h in
    fits_all other (bit_and start (mask_of rule)) rules both.1
    (and_assoc (cover_mask other.rules) start (mask_of rule)
    ∙ ap (λ z. bit_and start z) (fits_cover rule 18446744073709551615 other.rules both.0) ∙ e)

pub fits : (a b : ExclSet) → is_within a b ≡ true
    → bit_and (own_mask a.rules) (cover_mask b.rules) ≡ cover_mask b.rules
fits a b h =
    fits_all b 18446744073709551615 a.rules h
    (fits_more cover_of 18446744073709551615 18446744073709551615 b.rules (and_self 18446744073709551615))

-- where it does not fit, the set is not within the other one
pub apart : (a b : ExclSet) (own cover : ℕ) → own ≡ own_mask a.rules → cover ≡ cover_mask b.rules
    → ¬ (bit_and own cover ≡ cover) → false ≡ is_within a b
apart a b own cover of_a of_b h = by (is_within a b) refl
  where
    by : (t : Bool) → is_within a b ≡ t → false ≡ t
    by true e =
        absurd (h (ap (λ z. bit_and z cover) of_a ∙ ap (λ z. bit_and (own_mask a.rules) z) of_b ∙ fits a b e ∙ sym of_b))
    by false e = refl
