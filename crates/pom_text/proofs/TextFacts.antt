-- Facts on texts, their white space and their references.
use Rattle.std.proofs.Common.{◌≡◌, ℕ, inl, inr, zero, suc, ◌+◌, ◌-◌, ◌*◌, ◌/◌, ◌<◌, ◌≤◌, Bool, true, false, cond, ◌&&◌, List, [], ◌∷◌, ◌++◌, length, take, drop, get_or, refl, sym, ◌∙◌, ap, subst, arith, Option, Some, None}
use Rattle.std.specs.Prelude.{◌==◌, nat_lt, encode_utf8, slice_range, min}
use Rattle.std.specs.List.{flat_map, list_all}
use Rattle.std.proofs.lemmas.Bool.{and_left, and_right, and_parts, leb-true, leb-false, false≢true, ltb-true, lt-ltb, le-ltb, eqb-true, ne_eqb, cases_Bool, cases_lt, not-true}
use Rattle.std.proofs.lemmas.List.{length-append, append_assoc, append-nil, drop_more, drop_all, take-append-drop, drop-drop, take_more, length-drop}
use Rattle.std.proofs.lemmas.Slice.{between_from_start}
use Rattle.std.proofs.lemmas.Str.{encode_ascii}
use lib.Utf8.{encode, next}
use Rattle.pom_grammar.specs.declared.encoding.Encoding.{Encoding}
use Rattle.pom_grammar.specs.declared.encoding.Encoding.TheVariants.{Utf8, Ascii, Latin1}
use Rattle.pom_grammar.specs.declared.encoding.Tail.{Tail}
use Rattle.pom_grammar.specs.declared.encoding.Tail.TheVariants.{Whole}
use Rattle.pom_grammar.specs.Characters.{is_high, begins_with, local_from, skip_space, cut_space}
use Rattle.pom_grammar.specs.Encodings.{IsText, tails, next_tail, goes_on, utf8_of}
use Rattle.pom_grammar.specs.References.{or_else, if_begins, entity_rows, named_in, named, is_character, digit_of, base_of, number_end, on_digit, number_from, hexadecimal, numbered, Meaning, none, means, reference, meaning_at, meant, length_of, expanded_from, expanded}
use Rattle.pom_grammar.specs.Machine.{join}
use Rattle.pom_text.specs.Scans.{is_whole}
use Rattle.pom_text.specs.Texts.{is_no_ampersand, has_no_ampersand}
use Rattle.std.specs.List.{list_all}
use Rattle.ascii_bytes.specs.Parts.{before_trimmed}
use Rattle.ascii_bytes.specs.Classes.{is_white}
use Rattle.pom_text.proofs.Bytes.{apart, join_skips, ascii_next, goes_on_some, tails_more}
use Rattle.pom_text.proofs.TableFacts.{is_entity, last_sign, begins_at}
use Rattle.pom_text.proofs.Runs.{high_after, whole_is}

-- an ASCII byte stands between characters
low_between : (e : Encoding) (tail next : Tail) (c : ℕ) → nat_lt c 128 ≡ true → next_tail e tail c ≡ Some next
    → tail ≡ Whole
low_between e tail next c low f =
    elim (cases_Bool (is_whole tail)) [
      | inl a ↦ whole_is tail a
      | inr a ↦ let high = leb-true 128 c (high_after e tail next c a f) in let below =
          ltb-true c 128 low in absurd (omega arith)
    ]

pub text_split : (e : Encoding) (xs ys : List ℕ) (c : ℕ) → nat_lt c 128 ≡ true → IsText e (xs ++ c ∷ ys)
    → IsText e xs × IsText e ys
text_split e xs ys c low is =
    let first =
    goes_on_some (tails e Whole xs) (λ t. tails e t (c ∷ ys)) Whole (sym (tails_more e Whole xs (c ∷ ys)) ∙ is) in
    let second = goes_on_some (next_tail e first.0 c) (λ t. tails e t ys) Whole first.2 in
    let whole = low_between e first.0 second.0 c low second.1 in
    let then : ◌≡◌ {A = Option Tail} (Some second.0) (Some Whole) = sym second.1 ∙ ap (λ t. next_tail e t c) whole
    ∙ ascii_next e c low in
    let same : second.0 ≡ Whole = cc in
    (first.1 ∙ ap Some whole, ap (λ t. tails e t ys) (sym same) ∙ second.2)

flat_append : (f : ℕ → List ℕ) (xs ys : List ℕ) → flat_map f (xs ++ ys) ≡ flat_map f xs ++ flat_map f ys
flat_append f [] ys = refl
flat_append f (x ∷ xs) ys = ap (λ z. f x ++ z) (flat_append f xs ys)
    ∙ sym (append_assoc (f x) (flat_map f xs) (flat_map f ys))

pub utf8_append : (e : Encoding) (xs ys : List ℕ) → utf8_of e (xs ++ ys) ≡ utf8_of e xs ++ utf8_of e ys
utf8_append Utf8 xs ys = refl
utf8_append Ascii xs ys = refl
utf8_append Latin1 xs ys = flat_append encode_utf8 xs ys

pub utf8_low : (e : Encoding) (c : ℕ) → c < 128 → utf8_of e (c ∷ []) ≡ c ∷ []
utf8_low Utf8 c h = refl
utf8_low Ascii c h = refl
utf8_low Latin1 c h = append-nil (encode_utf8 c) ∙ encode_ascii c h

space_low : (c : ℕ) → is_white c ≡ true → c < 128
space_low c f =
    elim (cases_Bool (is_high c)) [
      | inl high ↦
          let no : is_white c ≡ false =
          rw (apart is_high c 32 high refl, apart is_high c 9 high refl)
          (rw (apart is_high c 10 high refl, apart is_high c 13 high refl) refl) in
          absurd (false≢true (sym no ∙ f))
      | inr low ↦ leb-false 128 c low
    ]

pub space_text : (e : Encoding) (prefix rest : List ℕ) → list_all is_white prefix ≡ true → IsText e (prefix ++ rest)
    → IsText e rest
space_text e [] rest f is = is
space_text e (c ∷ prefix) rest f is =
    let both = and_parts (is_white c) (list_all is_white prefix) f in
    space_text e prefix rest both.1 (text_split e [] (prefix ++ rest) c (lt-ltb c 128 (space_low c both.0)) is).1

pub skip_prefix : (e : Encoding) (prefix rest : List ℕ) → list_all is_white prefix ≡ true
    → skip_space (utf8_of e (prefix ++ rest)) ≡ skip_space (utf8_of e rest)
skip_prefix e [] rest f = refl
skip_prefix e (c ∷ prefix) rest f =
    let both = and_parts (is_white c) (list_all is_white prefix) f in
    ap skip_space
    (utf8_append e (c ∷ []) (prefix ++ rest)
    ∙ ap (λ x. x ++ utf8_of e (prefix ++ rest)) (utf8_low e c (space_low c both.0)))
    ∙ ap (λ b. cond b (skip_space (utf8_of e (prefix ++ rest))) (c ∷ utf8_of e (prefix ++ rest))) both.0
    ∙ skip_prefix e prefix rest both.1

high_no_space : (c : ℕ) → 128 ≤ c → is_white c ≡ false
high_no_space c h =
    rw (
      ne_eqb c 32 (λ s. let no : ⊥ = omega arith in no),
      ne_eqb c 9 (λ s. let no : ⊥ = omega arith in no),
      ne_eqb c 13 (λ s. let no : ⊥ = omega arith in no),
      ne_eqb c 10 (λ s. let no : ⊥ = omega arith in no),
    ) refl

-- a character that is no white space begins with no white space
record Starts (c : ℕ) : Type 0 where
  byte : ℕ
  rest : List ℕ
  is : encode c ≡ byte ∷ rest
  plain : is_white byte ≡ false

starts : (c : ℕ) → is_white c ≡ false → Starts c
unfolding encode
starts c f =
    elim (cases_Bool (nat_lt c 128)) [
      | inl a ↦ record { byte = c; rest = []; is = rw a refl; plain = f }
      | inr a ↦ elim (cases_Bool (nat_lt c 2048)) [
        | inl b ↦ record {
          byte = 192 + c / 64;
          rest = next c ∷ [];
          is = rw (a, b) refl;
          plain =
              high_no_space (192 + c / 64) (omega arith);
        }
        | inr b ↦ elim (cases_Bool (nat_lt c 65536)) [
          | inl d ↦ record {
            byte = 224 + c / 4096;
            rest = next (c / 64) ∷ (next c ∷ []);
            is =
                rw (a, b, d) refl;
            plain = high_no_space (224 + c / 4096) (omega arith);
          }
          | inr d ↦ record {
            byte = 240 + c / 262144;
            rest = next (c / 4096) ∷ (next (c / 64) ∷ (next c ∷ []));
            is =
                rw (a, b, d) refl;
            plain = high_no_space (240 + c / 262144) (omega arith);
          }
        ]
      ]
    ]

pub encode_skip : (c : ℕ) (more : List ℕ) → is_white c ≡ false → skip_space (encode c ++ more) ≡ encode c ++ more
encode_skip c more f = let s =
    starts c f in rw s.is (ap (λ b. cond b (skip_space (s.rest ++ more)) (s.byte ∷ (s.rest ++ more))) s.plain)

pub text_skip : (e : Encoding) (c : ℕ) (rest : List ℕ) → is_white c ≡ false
    → skip_space (utf8_of e (c ∷ rest)) ≡ utf8_of e (c ∷ rest)
text_skip Utf8 c rest f = ap (λ b. cond b (skip_space rest) (c ∷ rest)) f
text_skip Ascii c rest f = ap (λ b. cond b (skip_space rest) (c ∷ rest)) f
text_skip Latin1 c rest f = encode_skip c (flat_map encode_utf8 rest) f

pub join_join : (text a b : List ℕ) → join (join text a) b ≡ join text (a ++ b)
join_join [] a b = join_skips a b
join_join (c ∷ text) a b = ap (λ x. c ∷ x) (append_assoc text a b)

-- references
pub expanded_skip : (e : Encoding) (n : ℕ) (text : List ℕ) → expanded_from e n text ≡ expanded e (drop n text)
expanded_skip e zero text = refl
expanded_skip e (suc n) [] = refl
expanded_skip e (suc n) (c ∷ text) = expanded_skip e n text

pub expanded_plain : (e : Encoding) (chunk rest : List ℕ) → has_no_ampersand chunk ≡ true
    → expanded e (chunk ++ rest) ≡ utf8_of e chunk ++ expanded e rest
expanded_plain Utf8 [] rest f = refl
expanded_plain Ascii [] rest f = refl
expanded_plain Latin1 [] rest f = refl
expanded_plain e (c ∷ chunk) rest f =
    let both = and_parts (is_no_ampersand c) (list_all is_no_ampersand chunk) f in
    let no : (c == 38) ≡ false = not-true (c == 38) both.0 in
    let none_here : meaning_at c (chunk ++ rest) ≡ none = ap (λ b. cond b (reference (chunk ++ rest)) none) no in
    ap (λ m. meant e c m ++ expanded_from e (length_of m) (chunk ++ rest)) none_here
    ∙ ap (λ x. utf8_of e (c ∷ []) ++ x) (expanded_plain e chunk rest both.1)
    ∙ sym (append_assoc (utf8_of e (c ∷ [])) (utf8_of e chunk) (expanded e rest))
    ∙ ap (λ x. x ++ expanded e rest) (sym (utf8_append e (c ∷ []) chunk))

-- white space at the end
cut_all : (text : List ℕ) → list_all is_white text ≡ true → cut_space text ≡ []
cut_all [] f = refl
cut_all (c ∷ text) f =
    let both = and_parts (is_white c) (list_all is_white text) f in
    ap (before_trimmed is_white c) (cut_all text both.1) ∙ ap (λ b. cond b [] (c ∷ [])) both.0

pub cut_more : (text spaces : List ℕ) → list_all is_white spaces ≡ true → cut_space (text ++ spaces) ≡ cut_space text
cut_more [] spaces f = cut_all spaces f
cut_more (c ∷ text) spaces f = ap (before_trimmed is_white c) (cut_more text spaces f)

pub cut_none : (text : List ℕ) (c : ℕ) → is_white c ≡ false → cut_space (text ++ c ∷ []) ≡ text ++ c ∷ []
cut_none [] c f = ap (λ b. cond b [] (c ∷ [])) f
cut_none (d ∷ text) c f = ap (before_trimmed is_white d) (cut_none text c f) ∙ put_some d text c
  where
    put_some : (x : ℕ) (xs : List ℕ) (y : ℕ) → before_trimmed is_white x (xs ++ y ∷ []) ≡ x ∷ (xs ++ y ∷ [])
    put_some x [] y = refl
    put_some x (z ∷ xs) y = refl

pub cut_is : (bytes : List ℕ) (end : ℕ) → end ≤ length bytes → list_all is_white (drop end bytes) ≡ true
    → (0 < end → is_white (get_or bytes (end - 1) 0) ≡ false) → take end bytes ≡ cut_space bytes
cut_is bytes end h f g =
    let whole : cut_space bytes ≡ cut_space (take end bytes) = ap cut_space (sym (take-append-drop end bytes))
    ∙ cut_more (take end bytes) (drop end bytes) f in
    elim (cases_lt 0 end) [
      | inl some ↦
          let last : take end bytes ≡ take (end - 1) bytes ++ get_or bytes (end - 1) 0 ∷ [] =
          ap (λ n. take n bytes) (omega arith) ∙ take_more bytes (end - 1) 0 (omega arith) in
          sym (whole ∙ ap cut_space last ∙ cut_none (take (end - 1) bytes) (get_or bytes (end - 1) 0) (g some)
          ∙ sym last)
      | inr none_left ↦
          let zero_end : end ≡ 0 = omega arith in
          ap (λ n. take n bytes) zero_end ∙ sym (whole ∙ ap (λ n. cut_space (take n bytes)) zero_end)
    ]

pub join_char : (text : List ℕ) (c : ℕ) → (text ≡ [] → is_white c ≡ false)
    → join text (encode_utf8 c) ≡ text ++ encode_utf8 c
join_char [] c f = ap skip_space (sym (append-nil (encode c))) ∙ encode_skip c [] (f refl) ∙ append-nil (encode c)
join_char (d ∷ text) c f = refl

-- numbers
pub number_big : (hex some : Bool) (len value : ℕ) (text : List ℕ) → 1114112 ≤ value
    → number_from hex some len value text ≡ none
number_big hex some len value [] h = refl
number_big hex some len value (c ∷ text) h =
    go hex (digit_of hex c) (λ d. number_big hex true (len + 1) (value * base_of hex + d) text (grows hex d))
  where
    grows : (x : Bool) (d : ℕ) → 1114112 ≤ value * base_of x + d
    grows true d = omega arith
    grows false d = omega arith

    large : nat_lt value 1114112 ≡ false
    large = le-ltb value 1114112 h

    no : is_character value ≡ false
    no = and_right (nat_lt 0 value) _ (and_left (nat_lt value 1114112) _ large)

    go : (x : Bool) (o : Option ℕ) → ((d : ℕ) → number_from hex true (len + 1) (value * base_of hex + d) text ≡ none)
        → on_digit o (λ d. number_from hex true (len + 1) (value * base_of hex + d) text) (number_end some len value c)
        ≡ none
    go x None f =
        ap (λ b. cond b (means (len + 1) value) none)
        (and_right (c == 59) (some && is_character value) (and_right some (is_character value) no))
    go x (Some d) f = f d

pub number_step : (hex some : Bool) (len value digit base then c : ℕ) (text : List ℕ) → digit_of hex c ≡ Some digit
    → base ≡ base_of hex → then ≡ min (value * base + digit) 1114112
    → number_from hex some len value (c ∷ text) ≡ number_from hex true (len + 1) then text
number_step hex some len value digit base then c text f g h =
    let sum : ℕ = value * base + digit in
    let step : number_from hex some len value (c ∷ text) ≡ number_from hex true (len + 1) (value * base + digit) text =
    ap (λ o. on_digit o (λ d. number_from hex true (len + 1) (value * base_of hex + d) text)
    (number_end some len value c)) f ∙ ap (λ b. number_from hex true (len + 1) (value * b + digit) text) (sym g) in
    elim (cases_lt sum 1114112) [
      | inl small ↦ let same : value * base + digit ≡ then = omega (arith, h, small) in step
          ∙ ap (λ v. number_from hex true (len + 1) v text) same
      | inr large ↦
          let same : then ≡ 1114112 = omega (arith, h, large) in
          step ∙ number_big hex true (len + 1) (value * base + digit) text large
          ∙ sym (number_big hex true (len + 1) then text (omega (arith, same)))
    ]

-- what a reference has: its last byte is a semicolon
abbrev pub Ends : List ℕ → ℕ → Type 0
Ends text len = (k : ℕ) × (len ≡ k + 1) × (k < length text) × (get_or text k 0 ≡ 59)

number_ends : (hex some : Bool) (len value : ℕ) (text : List ℕ) (n char : ℕ)
    → number_from hex some len value text ≡ means n char
    → (k : ℕ) × (n ≡ len + (k + 1)) × (k < length text) × (get_or text k 0 ≡ 59)
number_ends hex some len value [] n char f = let no : ⊥ = cc in absurd no
number_ends hex some len value (c ∷ text) n char f =
    go (digit_of hex c) f (λ d g. number_ends hex true (len + 1) (value * base_of hex + d) text n char g)
  where
    go : (o : Option ℕ)
        → on_digit o (λ d. number_from hex true (len + 1) (value * base_of hex + d) text) (number_end some len value c)
        ≡ means n char
        → ((d : ℕ) → number_from hex true (len + 1) (value * base_of hex + d) text ≡ means n char
        → (k : ℕ) × (n ≡ (len + 1) + (k + 1)) × (k < length text) × (get_or text k 0 ≡ 59))
        → (k : ℕ) × (n ≡ len + (k + 1)) × (k < length (c ∷ text)) × (get_or (c ∷ text) k 0 ≡ 59)
    go None g h =
        elim (cases_Bool (c == 59 && (some && is_character value))) [
          | inl a ↦
              let both = and_parts (c == 59) (some && is_character value) a in
              let is = sym (ap (λ b. cond b (means (len + 1) value) none) a) ∙ g in
              let same = ap length_of is in
              (0, sym same, omega arith, eqb-true c 59 both.0)
          | inr a ↦ let no = sym (ap (λ b. cond b (means (len + 1) value) none) a) ∙ g in let never : ⊥ =
              cc in absurd never
        ]
    go (Some d) g h = let on = h d g in (suc on.0, omega (arith, on.1), omega (arith, on.2), on.3)

or_else_cases : (m other : Meaning) (n char : ℕ) (P : Type 0) → or_else m other ≡ means n char → (m ≡ means n char → P)
    → (other ≡ means n char → P) → P
or_else_cases none other n char P f g h = h f
or_else_cases (means len c) other n char P f g h = g f

entity_ends : (name text : List ℕ) (k c n char : ℕ) → if_begins name (k + 1) c text ≡ means n char → k < length name
    → get_or name k 0 ≡ 59 → Ends text n
entity_ends name text k c n char f h g =
    elim (cases_Bool (begins_with name text)) [
      | inl a ↦
          let at = begins_at name text k a h in
          let same = ap length_of (sym (ap (λ b. cond b (means (k + 1) c) none) a) ∙ f) in
          (k, sym same, at.0, at.1 ∙ g)
      | inr a ↦ let no = sym (ap (λ b. cond b (means (k + 1) c) none) a) ∙ f in let never : ⊥ = cc in absurd never
    ]

hexadecimal_ends : (text : List ℕ) (n char : ℕ) → hexadecimal text ≡ means n char → Ends (35 ∷ text) n
hexadecimal_ends [] n char f = let no : ⊥ = cc in absurd no
hexadecimal_ends (c ∷ text) n char f =
    elim (cases_Bool (c == 120)) [
      | inl a ↦
          let on = number_ends true false 2 0 text n char
          (sym (ap (λ b. cond b (number_from true false 2 0 text) (number_from false false 1 0 (c ∷ text))) a)
          ∙ f) in
          (suc (suc on.0), omega (arith, on.1), omega (arith, on.2), on.3)
      | inr a ↦
          let on = number_ends false false 1 0 (c ∷ text) n char
          (sym (ap (λ b. cond b (number_from true false 2 0 text) (number_from false false 1 0 (c ∷ text))) a)
          ∙ f) in
          (suc on.0, omega (arith, on.1), omega (arith, on.2), on.3)
    ]

numbered_ends : (text : List ℕ) (n char : ℕ) → numbered text ≡ means n char → Ends text n
numbered_ends [] n char f = let no : ⊥ = cc in absurd no
numbered_ends (c ∷ text) n char f =
    elim (cases_Bool (c == 35)) [
      | inl a ↦
          let is : 35 ≡ c = sym (eqb-true c 35 a) in
          subst (λ x. Ends (x ∷ text) n) is
          (hexadecimal_ends text n char (sym (ap (λ b. cond b (hexadecimal text) none) a) ∙ f))
      | inr a ↦ let no = sym (ap (λ b. cond b (hexadecimal text) none) a) ∙ f in let never : ⊥ = cc in absurd never
    ]

pub reference_ends : (text : List ℕ) (n char : ℕ) → reference text ≡ means n char → Ends text n
reference_ends text n char f =
    or_else_cases (named text) (numbered text) n char (Ends text n) f (λ g. named_ends entity_rows refl g)
    (λ g. numbered_ends text n char g)
  where
    named_ends : (rows : List (List ℕ × ℕ)) → list_all is_entity rows ≡ true → named_in rows text ≡ means n char
        → Ends text n
    named_ends [] some g = let no : ⊥ = cc in absurd no
    named_ends (row ∷ rows) some g =
        let both = and_parts (is_entity row) (list_all is_entity rows) some in
        or_else_cases (if_begins (row.0 ++ 59 ∷ []) (length row.0 + 1) row.1 text) (named_in rows text) n char
        (Ends text n) g
        (λ h. entity_ends (row.0 ++ 59 ∷ []) text (length row.0) row.1 n char h
        (omega (arith, length-append row.0 (59 ∷ []))) (last_sign row.0))
        (λ h. named_ends rows both.1 h)

-- what stands at an ampersand
pub reference_text : (e : Encoding) (run : List ℕ) (at n : ℕ) → at < length run → get_or run at 0 ≡ 38
    → Ends (drop (at + 1) run) n → IsText e (drop at run) → IsText e (drop (at + 1 + n) run)
reference_text e run at n h f ends is =
    let one : IsText e (drop (at + 1) run) =
    (text_split e [] (drop (at + 1) run) (get_or run at 0) (lt-ltb (get_or run at 0) 128 (omega (arith, f)))
    (ap (tails e Whole) (sym (drop_more run at 0 h)) ∙ is)).1 in
    let text : List ℕ = drop (at + 1) run in
    let k : ℕ = ends.0 in
    let split : take k text ++ get_or text k 0 ∷ drop (k + 1) text ≡ text =
    ap (λ x. take k text ++ x) (sym (drop_more text k 0 ends.2)) ∙ take-append-drop k text in
    let two = (text_split e (take k text) (drop (k + 1) text) (get_or text k 0)
    (lt-ltb (get_or text k 0) 128 (omega (arith, ends.3))) (ap (tails e Whole) split ∙ one)).1 in
    ap (tails e Whole) (ap (λ m. drop (at + 1 + m) run) ends.1 ∙ sym (drop-drop (k + 1) (at + 1) run)) ∙ two

pub reference_within : (run : List ℕ) (at n : ℕ) → Ends (drop (at + 1) run) n → at + 1 + n ≤ length run
reference_within run at n ends = let long = length-drop (at + 1) run in omega (arith, long, ends.1, ends.2)

pub reference_expands : (e : Encoding) (run text then : List ℕ) (at n char : ℕ) → at < length run → get_or run at 0 ≡ 38
    → reference (drop (at + 1) run) ≡ means n char → then ≡ join text (encode_utf8 char)
    → join text (expanded e (drop at run)) ≡ join then (expanded e (drop (at + 1 + n) run))
reference_expands e run text then at n char h f g k =
    let rest : List ℕ = drop (at + 1) run in
    let first : expanded e (drop at run) ≡ encode_utf8 char ++ expanded e (drop (at + 1 + n) run) =
    ap (expanded e) (drop_more run at 0 h ∙ ap (λ b. b ∷ rest) f)
    ∙ ap (λ m. meant e 38 m ++ expanded_from e (length_of m) rest) g
    ∙ ap (λ x. encode_utf8 char ++ x) (expanded_skip e n rest ∙ ap (expanded e) (drop-drop n (at + 1) run)) in
    ap (join text) first ∙ sym (join_join text (encode_utf8 char) (expanded e (drop (at + 1 + n) run)))
    ∙ ap (λ t. join t (expanded e (drop (at + 1 + n) run))) (sym k)

-- a text without the white space at its start
pub plain_text : (e : Encoding) (bytes : List ℕ) (start : ℕ) → list_all is_white (slice_range bytes 0 start) ≡ true
    → IsText e bytes → IsText e (drop start bytes)
plain_text e bytes start f is =
    let prefix : slice_range bytes 0 start ≡ take start bytes = between_from_start bytes start in
    space_text e (take start bytes) (drop start bytes) (ap (list_all is_white) (sym prefix) ∙ f)
    (ap (tails e Whole) (take-append-drop start bytes) ∙ is)

pub plain_skip : (e : Encoding) (bytes : List ℕ) (start : ℕ) → start ≤ length bytes
    → list_all is_white (slice_range bytes 0 start) ≡ true
    → (start < length bytes → is_white (get_or bytes start 0) ≡ false)
    → skip_space (utf8_of e bytes) ≡ utf8_of e (drop start bytes)
plain_skip e bytes start h f g =
    let prefix : slice_range bytes 0 start ≡ take start bytes = between_from_start bytes start in
    ap (λ x. skip_space (utf8_of e x)) (sym (take-append-drop start bytes))
    ∙ skip_prefix e (take start bytes) (drop start bytes) (ap (list_all is_white) (sym prefix) ∙ f)
    ∙ elim (cases_lt start (length bytes)) [
      | inl inside ↦ let at = drop_more bytes start 0 inside in ap (λ x. skip_space (utf8_of e x)) at
          ∙ text_skip e (get_or bytes start 0) (drop (start + 1) bytes) (g inside) ∙ ap (utf8_of e) (sym at)
      | inr past ↦ let none_left = drop_all start bytes past in ap (λ x. skip_space (utf8_of e x)) none_left
          ∙ nothing e ∙ ap (utf8_of e) (sym none_left)
    ]
  where
    nothing : (d : Encoding) → skip_space (utf8_of d []) ≡ utf8_of d []
    nothing Utf8 = refl
    nothing Ascii = refl
    nothing Latin1 = refl

-- a run up to an ampersand
pub slice_prefix : (run : List ℕ) (i next : ℕ) → i ≤ next → drop i run ≡ slice_range run i next ++ drop next run
slice_prefix run i next h =
    let there : i + (next - i) ≡ next = omega arith in
    sym (take-append-drop (next - i) (drop i run))
    ∙ ap (λ x. take (next - i) (drop i run) ++ x) (drop-drop (next - i) i run ∙ ap (λ n. drop n run) there)

pub slice_text : (e : Encoding) (run : List ℕ) (i next : ℕ) → i ≤ next → next ≤ length run
    → (next < length run → get_or run next 0 ≡ 38) → IsText e (drop i run) → IsText e (slice_range run i next)
slice_text e run i next h k f is =
    let whole = ap (tails e Whole) (sym (slice_prefix run i next h)) ∙ is in
    elim (cases_lt next (length run)) [
      | inl inside ↦
          (text_split e (slice_range run i next) (drop (next + 1) run) (get_or run next 0)
          (lt-ltb (get_or run next 0) 128 (omega (arith, f inside)))
          (ap (λ x. tails e Whole (slice_range run i next ++ x)) (sym (drop_more run next 0 inside)) ∙ whole)).0
      | inr past ↦ ap (tails e Whole) (sym (append-nil (slice_range run i next)))
          ∙ ap (λ x. tails e Whole (slice_range run i next ++ x)) (sym (drop_all next run past)) ∙ whole
    ]

pub rest_text : (e : Encoding) (run : List ℕ) (i next : ℕ) → i ≤ next → IsText e (slice_range run i next)
    → IsText e (drop i run) → IsText e (drop next run)
rest_text e run i next h prefix is =
    sym (ap (λ o. goes_on o (λ t. tails e t (drop next run))) prefix)
    ∙ sym (tails_more e Whole (slice_range run i next) (drop next run))
    ∙ ap (tails e Whole) (sym (slice_prefix run i next h)) ∙ is

pub run_expands : (e : Encoding) (run text then : List ℕ) (i next : ℕ) → i ≤ next
    → has_no_ampersand (slice_range run i next) ≡ true → then ≡ join text (utf8_of e (slice_range run i next))
    → join text (expanded e (drop i run)) ≡ join then (expanded e (drop next run))
run_expands e run text then i next h f k =
    ap (λ x. join text (expanded e x)) (slice_prefix run i next h)
    ∙ ap (join text) (expanded_plain e (slice_range run i next) (drop next run) f)
    ∙ sym (join_join text (utf8_of e (slice_range run i next)) (expanded e (drop next run)))
    ∙ ap (λ t. join t (expanded e (drop next run))) (sym k)

-- the local name is a text: what stands after an ASCII byte, or the whole
pub local_text : (e : Encoding) (whole prefix name : List ℕ) → IsText e whole → whole ≡ prefix ++ name
    → IsText e (local_from whole name)
local_text e whole prefix [] is split = is
local_text e whole prefix (c ∷ name) is split =
    elim (cases_Bool (c == 58)) [
      | inl a ↦ ap (λ b. tails e Whole (cond b name (local_from whole name))) a
          ∙ (text_split e prefix name c (ap (λ x. nat_lt x 128) (eqb-true c 58 a))
          (ap (tails e Whole) (sym split) ∙ is)).1
      | inr a ↦ ap (λ b. tails e Whole (cond b name (local_from whole name))) a
          ∙ local_text e whole (prefix ++ c ∷ []) name is (split ∙ sym (append_assoc prefix (c ∷ []) name))
    ]
