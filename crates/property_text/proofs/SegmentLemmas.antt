-- Where the segments of a text come from.
use Rattle.std.proofs.Common.{◌≡◌, ◌≢◌, ℕ, suc, ◌<◌, ◌≤◌, Bool, true, false, List, [], ◌∷◌, ◌++◌, codes, length, drop, take, get_or, refl, sym, ◌∙◌, ap, subst, append_assoc, append-nil, length-append, arith}
use Rattle.std.specs.Prelude.{◌==◌}
use Rattle.std.specs.Str.Pattern.{LacksTextAt, HasTextAt}
use Rattle.std.proofs.lemmas.Bool.{eqb-true, ne_eqb}
use Rattle.std.proofs.Math.Seq.{drop-append_seam}
use Rattle.std.proofs.lemmas.List.{take-append-drop}
use Rattle.property_text.specs.Segments.{Segment, literal, hole, outside, dollar, inside, with_byte, with_bytes, segments, segments_from}

-- no `${` anywhere
abbrev pub IsPlain : List ℕ → Type 0
IsPlain text = (front rest : List ℕ) → text ≢ front ++ (36 ∷ 123 ∷ rest)

-- no `}` anywhere
abbrev pub IsOpen : List ℕ → Type 0
IsOpen text = (i : ℕ) → i < length text → get_or text i 0 ≢ 125

plain_tail : (c : ℕ) (text : List ℕ) → IsPlain (c ∷ text) → IsPlain text
plain_tail c text plain = λ front rest e. plain (c ∷ front) rest (ap (λ more. c ∷ more) e)

open_tail : (c : ℕ) (text : List ℕ) → IsOpen (c ∷ text) → IsOpen text
open_tail c text all = λ i within. all (suc i) (omega arith)

-- what comes before the first `${` has none
pub plain_before : (before rest : List ℕ) → ((i : ℕ) → i < length before → LacksTextAt (codes "${") (before ++ (36 ∷ 123 ∷ rest)) i) → IsPlain before
plain_before before rest first = λ front behind e.
    let within : length front < length before = omega (arith, ap length e, length-append front (36 ∷ 123 ∷ behind)) in
    let there : drop (length front) (before ++ (36 ∷ 123 ∷ rest)) ≡ 36 ∷ 123 ∷ (behind ++ (36 ∷ 123 ∷ rest)) =
    ap (λ text. drop (length front) (text ++ (36 ∷ 123 ∷ rest))) e ∙ ap (drop (length front)) (append_assoc front (36 ∷ 123 ∷ behind) (36 ∷ 123 ∷ rest)) ∙ drop-append_seam front (36 ∷ 123 ∷ (behind ++ (36 ∷ 123 ∷ rest))) in
    first (length front) within (behind ++ (36 ∷ 123 ∷ rest)) there

-- where no search finds `${`, there is none
pub plain_everywhere : (text : List ℕ) → ((i : ℕ) → i ≤ length text → LacksTextAt (codes "${") text i) → IsPlain text
plain_everywhere text none = λ front rest e.
    let within : length front ≤ length text = omega (arith, ap length e, length-append front (36 ∷ 123 ∷ rest)) in
    none (length front) within rest (ap (drop (length front)) e ∙ drop-append_seam front (36 ∷ 123 ∷ rest))

-- the parts round a `${`
pub parts : (text before behind : List ℕ) (i j : ℕ) → HasTextAt (codes "${") text i j → before ≡ take i text → behind ≡ drop j text → text ≡ before ++ (36 ∷ 123 ∷ behind)
parts text before behind i j at e f = sym (take-append-drop i text) ∙ ap (λ rest. take i text ++ rest) at.split ∙ rw (e, f) refl

pub plain_part : (text before behind : List ℕ) (i : ℕ) → ((k : ℕ) → k < i → LacksTextAt (codes "${") text k) → text ≡ before ++ (36 ∷ 123 ∷ behind) → length before ≡ i → IsPlain before
plain_part text before behind i first e same = plain_before before behind (λ k within. subst (λ whole. LacksTextAt (codes "${") whole k) e (first k (omega arith)))

module _ (rest : List ℕ) (then : List Segment) (from_outside : segments_from outside rest ≡ then) (from_dollar : segments_from dollar rest ≡ with_byte 36 then) where
  -- a text without `${`, before another one
  record Plainly (text : List ℕ) : Type 0 where
    pub outside_is : IsPlain text → segments_from outside (text ++ rest) ≡ with_bytes text then
    pub dollar_is : IsPlain (36 ∷ text) → segments_from dollar (text ++ rest) ≡ with_byte 36 (with_bytes text then)

  plainly : (text : List ℕ) → Plainly text
  plainly [] = record { outside_is = λ plain. from_outside; dollar_is = λ plain. from_dollar }
  plainly (c ∷ text) = record { outside_is = by_outside (c == 36) refl (plainly text); dollar_is = by_dollar (c == 123) refl (c == 36) refl (plainly text) }
    where
      by_outside : (b : Bool) → (c == 36) ≡ b → Plainly text → IsPlain (c ∷ text) → segments_from outside (c ∷ (text ++ rest)) ≡ with_byte c (with_bytes text then)
      by_outside true e behind plain =
          let is : c ≡ 36 = eqb-true c 36 e in
          rw e (behind.dollar_is (subst (λ d. IsPlain (d ∷ text)) is plain) ∙ ap (λ d. with_byte d (with_bytes text then)) (sym is))
      by_outside false e behind plain = rw e (ap (with_byte c) (behind.outside_is (plain_tail c text plain)))

      by_dollar : (b : Bool) → (c == 123) ≡ b → (d : Bool) → (c == 36) ≡ d → Plainly text → IsPlain (36 ∷ c ∷ text) → segments_from dollar (c ∷ (text ++ rest)) ≡ with_byte 36 (with_byte c (with_bytes text then))
      by_dollar true e d f behind plain = absurd (plain [] text (ap (λ d. 36 ∷ d ∷ text) (eqb-true c 123 e)))
      by_dollar false e true f behind plain =
          let is : c ≡ 36 = eqb-true c 36 f in
          rw (e, f) (ap (with_byte 36) (behind.dollar_is (subst (λ d. IsPlain (d ∷ text)) is (plain_tail 36 (c ∷ text) plain)) ∙ ap (λ d. with_byte d (with_bytes text then)) (sym is)))
      by_dollar false e false f behind plain = rw (e, f) (ap (λ more. with_byte 36 (with_byte c more)) (behind.outside_is (plain_tail c text (plain_tail 36 (c ∷ text) plain))))

-- a text without `${` stays
pub segments-plain : (text : List ℕ) → IsPlain text → segments text ≡ with_bytes text []
segments-plain text plain = ap segments (sym (append-nil text)) ∙ (plainly [] [] refl refl text).outside_is plain

-- up to the first `${`
pub segments-before : (before rest : List ℕ) → IsPlain before → segments (before ++ (36 ∷ 123 ∷ rest)) ≡ with_bytes before (segments_from (inside []) rest)
segments-before before rest plain = (plainly (36 ∷ 123 ∷ rest) (segments_from (inside []) rest) refl refl before).outside_is plain

-- a name, up to the next `}`
inside-name : (name behind front : List ℕ) → IsOpen name → segments_from (inside front) (name ++ (125 ∷ behind)) ≡ hole (front ++ name) ∷ segments behind
inside-name [] behind front all = ap (λ name. hole name ∷ segments behind) (sym (append-nil front))
inside-name (c ∷ name) behind front all =
    let other : (c == 125) ≡ false = ne_eqb c 125 (all 0 (omega arith)) in
    rw other (inside-name name behind (front ++ c ∷ []) (open_tail c name all) ∙ ap (λ whole. hole whole ∷ segments behind) (append_assoc front (c ∷ []) name))

-- a name without an end
inside-open : (name front : List ℕ) → IsOpen name → segments_from (inside front) name ≡ literal (36 ∷ 123 ∷ (front ++ name)) ∷ []
inside-open [] front all = ap (λ name. literal (36 ∷ 123 ∷ name) ∷ []) (sym (append-nil front))
inside-open (c ∷ name) front all =
    let other : (c == 125) ≡ false = ne_eqb c 125 (all 0 (omega arith)) in
    rw other (inside-open name (front ++ c ∷ []) (open_tail c name all) ∙ ap (λ whole. literal (36 ∷ 123 ∷ whole) ∷ []) (append_assoc front (c ∷ []) name))

pub segments-hole : (before name behind : List ℕ) → IsPlain before → IsOpen name → segments (before ++ (36 ∷ 123 ∷ (name ++ (125 ∷ behind)))) ≡ with_bytes before (hole name ∷ segments behind)
segments-hole before name behind plain all = segments-before before (name ++ (125 ∷ behind)) plain ∙ ap (with_bytes before) (inside-name name behind [] all)

with_bytes-append : (front text : List ℕ) (rest : List Segment) → with_bytes (front ++ text) rest ≡ with_bytes front (with_bytes text rest)
with_bytes-append [] text rest = refl
with_bytes-append (c ∷ front) text rest = ap (with_byte c) (with_bytes-append front text rest)

with_bytes-literal : (c : ℕ) (text : List ℕ) → with_bytes (c ∷ text) [] ≡ literal (c ∷ text) ∷ []
with_bytes-literal c [] = refl
with_bytes-literal c (d ∷ text) = ap (with_byte c) (with_bytes-literal d text)

pub segments-open : (before name : List ℕ) → IsPlain before → IsOpen name → segments (before ++ (36 ∷ 123 ∷ name)) ≡ with_bytes (before ++ (36 ∷ 123 ∷ name)) []
segments-open before name plain all =
    segments-before before name plain
    ∙ ap (with_bytes before) (inside-open name [] all ∙ sym (with_bytes-literal 36 (123 ∷ name)))
    ∙ sym (with_bytes-append before (36 ∷ 123 ∷ name) [])
