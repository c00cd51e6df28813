-- What the tables of encodings and entities hold, and what is found in them.
use Rattle.std.proofs.Common.{◌≡◌, ℕ, inl, inr, zero, suc, ◌+◌, ◌<◌, Bool, true, false, cond, not, ◌&&◌, List, [], ◌∷◌, ◌++◌, length, take, set, get_or, refl, sym, ◌∙◌, ap, subst, arith, map, None}
use Rattle.std.specs.Prelude.{◌==◌, nat_lt, nat_le}
use Rattle.std.specs.Char.{to_ascii_lowercase}
use Rattle.std.specs.List.{list_all}
use Rattle.std.specs.Str.{bytes_eq, IsUtf8, IsAscii}
use Rattle.std.proofs.lemmas.Bool.{and_parts, false≢true, eqb-true, eq-eqb, ne_eqb, cases_Bool, cases_lt, ltb-true, leb-true}
use Rattle.std.proofs.lemmas.List.{length-append, length-take, length-map, take_more, take_more_set, map-append}
use Rattle.std.proofs.lemmas.Slice.Eq.{bytes_eq-Decides}
use Rattle.std.proofs.lemmas.Str.{IsUtf8-from_ascii}
use Rattle.std.proofs.lemmas.Str.Ascii.{IsAscii-nil, IsAscii-cons}
use Rattle.case_table.specs.Rows.{value_at}
use Rattle.pom_grammar.specs.Characters.{begins_with}
use Rattle.pom_grammar.specs.Declarations.{encoding_rows, lowered, known}
use Rattle.pom_grammar.specs.References.{none, means, or_else, entity_rows, named_in, named}
use Rattle.pom_text.specs.Texts.{met}

-- Names are in ASCII.

abbrev is_ascii : List ℕ → Bool
is_ascii = list_all (λ b. nat_lt b 128)

ascii : (bytes : List ℕ) → is_ascii bytes ≡ true → IsAscii bytes
ascii [] f = IsAscii-nil
ascii (b ∷ bytes) f = let both =
    and_parts (nat_lt b 128) (is_ascii bytes) f in IsAscii-cons b bytes (ltb-true b 128 both.0) (ascii bytes both.1)

unfound : {T : Type 0} (rows : List (List ℕ × T)) (word : List ℕ) → list_all (λ row. is_ascii row.0) rows ≡ true
    → (IsUtf8 word → ⊥) → value_at word rows ≡ None
unfound [] word f foreign = refl
unfound (row ∷ rows) word f foreign =
    let both = and_parts (is_ascii row.0) (list_all (λ r. is_ascii r.0) rows) f in
    elim (cases_Bool (bytes_eq row.0 word)) [
      | inl same ↦ absurd
          (foreign (subst IsUtf8 ((bytes_eq-Decides row.0 word).0 same) (IsUtf8-from_ascii row.0 (ascii row.0 both.0))))
      | inr apart ↦ rw apart (unfound rows word both.1 foreign)
    ]

pub no_entity : (word : List ℕ) → (IsUtf8 word → ⊥) → value_at word entity_rows ≡ None
no_entity word foreign = unfound entity_rows word refl foreign

pub no_encoding : (word : List ℕ) → (IsUtf8 word → ⊥) → value_at word encoding_rows ≡ None
no_encoding word foreign = unfound encoding_rows word refl foreign

-- A name of more than ten letters is no encoding's.

too_long : {T : Type 0} (rows : List (List ℕ × T)) (word : List ℕ)
    → list_all (λ row. nat_le (length row.0) 10) rows ≡ true → 10 < length word → value_at word rows ≡ None
too_long [] word f long = refl
too_long (row ∷ rows) word f long =
    let both = and_parts (nat_le (length row.0) 10) (list_all (λ r. nat_le (length r.0) 10) rows) f in
    elim (cases_Bool (bytes_eq row.0 word)) [
      | inl same ↦ absurd
          (omega (arith, ap length ((bytes_eq-Decides row.0 word).0 same), leb-true (length row.0) 10 both.0, long))
      | inr apart ↦ rw apart (too_long rows word both.1 long)
    ]

pub long_name : (name : List ℕ) → 10 < length name → known name ≡ None
long_name name long =
    too_long encoding_rows (lowered name) refl (omega (arith, length-map name to_ascii_lowercase, long))

-- Entities are found by the bytes before the first semicolon.

abbrev is_letter : ℕ → Bool
is_letter c = not (c == 59)

abbrev pub is_entity : List ℕ × ℕ → Bool
is_entity row = list_all is_letter row.0 && nat_lt (length row.0) 5

pub last_sign : (name : List ℕ) → get_or (name ++ 59 ∷ []) (length name) 0 ≡ 59
last_sign [] = refl
last_sign (c ∷ name) = last_sign name

pub begins_at : (prefix text : List ℕ) (k : ℕ) → begins_with prefix text ≡ true → k < length prefix
    → (k < length text) × (get_or text k 0 ≡ get_or prefix k 0)
begins_at [] text k f h = absurd (omega (arith, h))
begins_at (a ∷ prefix) [] k f h = absurd (false≢true f)
begins_at (a ∷ prefix) (c ∷ text) zero f h = let both =
    and_parts (c == a) (begins_with prefix text) f in (omega arith, eqb-true c a both.0)
begins_at (a ∷ prefix) (c ∷ text) (suc k) f h = let on =
    begins_at prefix text k (and_parts (c == a) (begins_with prefix text) f).1 (omega (arith, h)) in
    (omega (arith, on.0), on.1)

no_sign : (c : ℕ) → is_letter c ≡ true → c ≡ 59 → ⊥
no_sign c f g = false≢true (sym (ap not (eq-eqb c 59 g)) ∙ f)

-- a name and its semicolon begin a text exactly where the name stands before the first semicolon
begins_name : (name text : List ℕ) (len : ℕ) → list_all is_letter name ≡ true → len < length text
    → ((k : ℕ) → k < len → get_or text k 0 ≡ 59 → ⊥) → get_or text len 0 ≡ 59
    → begins_with (name ++ 59 ∷ []) text ≡ bytes_eq name (take len text)
begins_name name [] len f h first sign = absurd (omega (arith, h))
begins_name [] (c ∷ text) zero f h first sign = ap (λ b. b && true) (eq-eqb c 59 sign)
begins_name [] (c ∷ text) (suc len) f h first sign = ap (λ b. b && true) (ne_eqb c 59 (first 0 (omega arith)))
begins_name (a ∷ name) (c ∷ text) zero f h first sign =
    let both = and_parts (is_letter a) (list_all is_letter name) f in
    ap (λ b. b && begins_with (name ++ 59 ∷ []) text) (ne_eqb c a (λ g. no_sign a both.0 (sym g ∙ sign)))
begins_name (a ∷ name) (c ∷ text) (suc len) f h first sign =
    let both = and_parts (is_letter a) (list_all is_letter name) f in
    let on = begins_name name text len both.1 (omega (arith, h)) (λ k g. first (suc k) (omega (arith, g))) sign in
    elim (cases_Bool (c == a)) [
      | inl same ↦ let flip : (a == c) ≡ true =
          eq-eqb a c (sym (eqb-true c a same)) in ap (λ b. b && begins_with (name ++ 59 ∷ []) text) same ∙ on
          ∙ sym (ap (λ b. b && bytes_eq name (take len text)) flip)
      | inr apart ↦
          let flip : (a == c) ≡ false = ne_eqb a c (λ g. false≢true (sym apart ∙ eq-eqb c a (sym g))) in
          ap (λ b. b && begins_with (name ++ 59 ∷ []) text) apart
          ∙ sym (ap (λ b. b && bytes_eq name (take len text)) flip)
    ]

pub named_found : (text : List ℕ) (len : ℕ) → len < length text → ((k : ℕ) → k < len → get_or text k 0 ≡ 59 → ⊥)
    → get_or text len 0 ≡ 59 → named text ≡ met len (value_at (take len text) entity_rows)
named_found text len h first sign = go entity_rows refl
  where
    go : (rows : List (List ℕ × ℕ)) → list_all is_entity rows ≡ true
        → named_in rows text ≡ met len (value_at (take len text) rows)
    go [] some = refl
    go (row ∷ rows) some =
        let both = and_parts (is_entity row) (list_all is_entity rows) some in
        let letters = (and_parts (list_all is_letter row.0) (nat_lt (length row.0) 5) both.0).0 in
        let begins = begins_name row.0 text len letters h first sign in
        elim (cases_Bool (bytes_eq row.0 (take len text))) [
          | inl same ↦
              let long : length row.0 ≡ len =
              omega (arith, ap length ((bytes_eq-Decides row.0 (take len text)).0 same), length-take len text, h) in
              ap (λ b. or_else (cond b (means (length row.0 + 1) row.1) none) (named_in rows text)) (begins ∙ same)
              ∙ ap (λ n. means (n + 1) row.1) long
              ∙ sym (rw same refl)
          | inr apart ↦ ap (λ b. or_else (cond b (means (length row.0 + 1) row.1) none) (named_in rows text))
              (begins ∙ apart) ∙ go rows both.1 ∙ sym (rw apart refl)
        ]

pub named_none : (text : List ℕ) (len : ℕ) → ((k : ℕ) → k < len → get_or text k 0 ≡ 59 → ⊥)
    → (len < length text → get_or text len 0 ≡ 59 → ⊥) → (len < length text → 4 < len) → named text ≡ none
named_none text len first other near = go entity_rows refl
  where
    apart : (row : List ℕ × ℕ) → is_entity row ≡ true → begins_with (row.0 ++ 59 ∷ []) text ≡ true → ⊥
    apart row some f =
        let short = ltb-true (length row.0) 5 (and_parts (list_all is_letter row.0) (nat_lt (length row.0) 5) some).1 in
        let at = begins_at (row.0 ++ 59 ∷ []) text (length row.0) f (omega (arith, length-append row.0 (59 ∷ []))) in
        let sign : get_or text (length row.0) 0 ≡ 59 = at.1 ∙ last_sign row.0 in
        elim (cases_lt (length row.0) len) [
          | inl below ↦ first (length row.0) below sign
          | inr past ↦ let within : len < length text = omega (arith, past, at.0) in let far =
              near within in omega (arith, far, past, short)
        ]

    go : (rows : List (List ℕ × ℕ)) → list_all is_entity rows ≡ true → named_in rows text ≡ none
    go [] some = refl
    go (row ∷ rows) some =
        let both = and_parts (is_entity row) (list_all is_entity rows) some in
        elim (cases_Bool (begins_with (row.0 ++ 59 ∷ []) text)) [
          | inl a ↦ absurd (apart row both.0 a)
          | inr a ↦ ap (λ b. or_else (cond b (means (length row.0 + 1) row.1) none) (named_in rows text)) a
              ∙ go rows both.1
        ]

-- one letter more is lowered
pub lowered_more : (small name : List ℕ) (i b : ℕ) → take i small ≡ map to_ascii_lowercase (take i name)
    → i < length small → i < length name → b ≡ to_ascii_lowercase (get_or name i 0)
    → take (i + 1) (set small i b) ≡ map to_ascii_lowercase (take (i + 1) name)
lowered_more small name i b f g h is =
    take_more_set small i b g
    ∙ ap (λ x. x ++ b ∷ []) f
    ∙ ap (λ x. map to_ascii_lowercase (take i name) ++ x ∷ []) is
    ∙ sym (ap (map to_ascii_lowercase) (take_more name i 0 h)
    ∙ map-append to_ascii_lowercase (take i name) (get_or name i 0 ∷ []))
