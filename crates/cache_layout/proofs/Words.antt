-- Texts without a sign, and how far a text is a word, byte by byte.
use Rattle.std.proofs.Common.{◌≡◌, ◌⊎◌, inl, inr, ℕ, suc, ◌+◌, ◌<◌, ◌≤◌, min, Bool, true, false, not, ◌&&◌, List, [], ◌∷◌, ◌++◌, length, take, drop, get_or, refl, sym, ◌∙◌, ap, subst, arith, Option, Some, None, Bor}
use Rattle.std.specs.Prelude.{◌==◌, nat_le, ◌≢◌, IfNone, IfSome, MatchOption}
use Rattle.std.specs.List.{list_all}
use Rattle.std.proofs.lemmas.Bool.{and_parts, and_right, eq-eqb, lt-leb, ne_eqb, cases_lt}
use Rattle.std.proofs.lemmas.List.{take_more, drop_more}
use Rattle.std.proofs.Math.ListN.{drop_of_length-le}
use Rattle.ascii_bytes.specs.Classes.{between}
use Rattle.cache_layout.specs.Names.{is_name_byte}
use Rattle.cache_layout.specs.Places.{Lacks, Begins, common}

pub lacks_append : (sign : ℕ) (a b : List ℕ) → Lacks sign a → Lacks sign b → Lacks sign (a ++ b)
lacks_append sign [] b p q = q
lacks_append sign (x ∷ a) b (never, p) q = (never, lacks_append sign a b p q)

-- a class of bytes without the sign
pub lacks_class : (has : ℕ → Bool) (sign : ℕ) (text : List ℕ) → has sign ≡ false → list_all has text ≡ true
    → Lacks sign text
lacks_class has sign [] never all = tt
lacks_class has sign (x ∷ text) never all =
    let both = and_parts (has x) (list_all has text) all in
    (λ e. bad (sym both.0 ∙ ap has e ∙ never), lacks_class has sign text never both.1)
  where
    bad : true ≡ false → ⊥
    bad f = cc

pub lacks_more : (sign : ℕ) (text : List ℕ) (i : ℕ) → i < length text → Lacks sign (take i text)
    → (get_or text i 0 ≡ sign → ⊥) → Lacks sign (take (i + 1) text)
lacks_more sign text i inside p never = subst (Lacks sign) (sym (take_more text i 0 inside))
    (lacks_append sign (take i text) (get_or text i 0 ∷ []) p (never, tt))

pub begins_at : (sign : ℕ) (text : List ℕ) (i : ℕ) → i < length text → get_or text i 0 ≡ sign
    → Begins sign (drop i text)
begins_at sign text i inside is = inr (
  drop (i + 1) text,
  drop_more text i 0 inside
      ∙ ap (λ b. b ∷ drop (i + 1) text) is,
)

common_same : (b c : ℕ) (word text : List ℕ) → b ≡ c → common (b ∷ word) (c ∷ text) ≡ suc (common word text)
common_same b c word text e = rw (eq-eqb b c e) refl

common_differ : (b c : ℕ) (word text : List ℕ) → (b ≡ c → ⊥) → common (b ∷ word) (c ∷ text) ≡ 0
common_differ b c word text never = rw (ne_eqb b c never) refl

common_nil : (word : List ℕ) → common word [] ≡ 0
common_nil [] = refl
common_nil (b ∷ word) = refl

pub common_more : (word text : List ℕ) (i : ℕ) → i < length word → i < length text → get_or word i 0 ≡ get_or text i 0
    → common (drop i word) (drop i text) ≡ suc (common (drop (i + 1) word) (drop (i + 1) text))
common_more word text i p q e =
    ap (λ w. common w (drop i text)) (drop_more word i 0 p)
    ∙ ap (λ t. common (get_or word i 0 ∷ drop (i + 1) word) t) (drop_more text i 0 q)
    ∙ common_same (get_or word i 0) (get_or text i 0) (drop (i + 1) word) (drop (i + 1) text) e

pub common_stops : (word text : List ℕ) (i : ℕ) → i < length word → i < length text
    → (get_or word i 0 ≡ get_or text i 0 → ⊥) → common (drop i word) (drop i text) ≡ 0
common_stops word text i p q never =
    ap (λ w. common w (drop i text)) (drop_more word i 0 p)
    ∙ ap (λ t. common (get_or word i 0 ∷ drop (i + 1) word) t) (drop_more text i 0 q)
    ∙ common_differ (get_or word i 0) (get_or text i 0) (drop (i + 1) word) (drop (i + 1) text) never

pub common_ends : (word text : List ℕ) (i : ℕ) → min (length word) (length text) ≤ i
    → common (drop i word) (drop i text) ≡ 0
common_ends word text i past = by (cases_lt i (length word))
  where
    by : ((i < length word) ⊎ (length word ≤ i)) → common (drop i word) (drop i text) ≡ 0
    by (inl inside) = ap (λ t. common (drop i word) t) (drop_of_length-le text (omega (arith, past, inside)))
        ∙ common_nil (drop i word)
    by (inr beyond) = ap (λ w. common w (drop i text)) (drop_of_length-le word beyond)

-- what is found behind a word, or not
module _ (text word : List ℕ) where
  pub found_rest : (result : Option (Bor (List ℕ)))
      → MatchOption result ((rest : List ℕ) → text ≢ word ++ rest) (λ x. text ≡ word ++ x.now)
      → IfSome result (λ x. text ≡ word ++ x.now)
  found_rest None h = tt
  found_rest (Some x) h = h

  pub found_none : (result : Option (Bor (List ℕ)))
      → MatchOption result ((rest : List ℕ) → text ≢ word ++ rest) (λ x. text ≡ word ++ x.now)
      → IfNone result ((rest : List ℕ) → text ≢ word ++ rest)
  found_none None h = h
  found_none (Some x) h = tt

-- bytes of names are ASCII

between_past : (low high byte : ℕ) → high < byte → between low high byte ≡ false
between_past low high byte h = and_right (nat_le low byte) (nat_le byte high) (lt-leb byte high h)

name_byte_past : (byte : ℕ) → 127 < byte → is_name_byte byte ≡ false
name_byte_past byte h =
    rw (
      between_past 65 90 byte (omega (arith, h)),
      between_past 97 122 byte (omega (arith, h)),
      between_past 48 57 byte (omega (arith, h)),
      ne_eqb byte 95 (λ e. absurd (omega (arith, e, h))),
      ne_eqb byte 45 (λ e. absurd (omega (arith, e, h))),
      ne_eqb byte 46 (λ e. absurd (omega (arith, e, h))),
      ne_eqb byte 43 (λ e. absurd (omega (arith, e, h))),
      ne_eqb byte 47 (λ e. absurd (omega (arith, e, h))),
    ) refl

pub name_byte_small : (byte : ℕ) → is_name_byte byte ≡ true → byte < 128
name_byte_small byte is = by (cases_lt byte 128)
  where
    by : ((byte < 128) ⊎ (128 ≤ byte)) → byte < 128
    by (inl below) = below
    by (inr past) = let other = name_byte_past byte (omega (arith, past)) in cc

-- a test that was passed or not
pub not_so : {P : Type 0} (b : Bool) → ((b ≡ true → P) × (P → b ≡ true)) → b ≡ false → P → ⊥
not_so b both e p = let f : b ≡ true = both.1 p in cc

-- the rest is empty where the sign does not stand behind the first part
pub rest_empty : (sign : ℕ) (rest : List ℕ) → Begins sign rest → ((r : List ℕ) → rest ≡ sign ∷ r → ⊥) → rest ≡ []
rest_empty sign rest (inl none) never = none
rest_empty sign rest (inr (r, is)) never = absurd (never r is)

-- and begins with it where it is not empty
pub rest_some : (sign : ℕ) (rest : List ℕ) → Begins sign rest → (rest ≡ [] → ⊥) → (r : List ℕ) × (rest ≡ sign ∷ r)
rest_some sign rest (inl none) never = absurd (never none)
rest_some sign rest (inr some) never = some
