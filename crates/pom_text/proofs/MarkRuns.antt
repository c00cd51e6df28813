-- How a comment, an instruction or a CDATA section goes on, and quoted values and literals.
use Rattle.std.proofs.Common.{◌≡◌, ℕ, ◌+◌, ◌-◌, ◌<◌, ◌≤◌, true, false, cond, not, ◌&&◌, List, [], ◌∷◌, ◌++◌, length, drop, get_or, refl, sym, ◌∙◌, ap, arith, Some, None}
use Rattle.std.specs.Prelude.{◌==◌, nat_lt, nat_le, slice_range}
use Rattle.std.proofs.lemmas.Bool.{and_parts, leb-false, lt-ltb, le-leb, ne_eqb}
use Rattle.std.proofs.lemmas.List.{drop_more, drop_all}
use Rattle.std.proofs.lemmas.List.Edits.{between_more, length-between}
use Rattle.std.specs.List.{list_all}
use Rattle.pom_grammar.specs.declared.encoding.Encoding.{Encoding}
use Rattle.pom_grammar.specs.declared.encoding.Tail.TheVariants.{Whole}
use Rattle.pom_grammar.specs.Characters.{is_high, is_name_byte, onto, begins_with}
use Rattle.pom_grammar.specs.Encodings.{next_tail, tails, goes_on}
use Rattle.pom_grammar.specs.Document.{Quote, single, double, quote_byte, Mark, dashes, question, brackets, backward}
use Rattle.pom_grammar.specs.Machine.{Kind, in_run, in_name, in_label, in_quotes, in_marks, OpenElements, in_segment, stops, step, after, if_whole, if_some_tail}
use Rattle.pom_grammar.specs.Verdicts.{verdict}
use Rattle.pom_text.specs.Scans.{Runs, MarkRun, sign_of, least_of, leading, IsNaming}
use Rattle.pom_text.proofs.Bytes.{apart, onto_append, tails_more, tails_one, ascii_next}
use Rattle.pom_text.proofs.Runs.{goes_step, slice_join}

pub naming_quiet : (kind : Kind) (c : ℕ) → IsNaming kind → is_name_byte c ≡ true → (seen : List ℕ)
    → stops kind seen c ≡ false
naming_quiet in_run c f g seen = absurd f
naming_quiet in_name c f g seen = ap not g
naming_quiet (in_label name) c f g seen = ap not g
naming_quiet (in_quotes quote name) c f g seen = absurd f
naming_quiet (in_marks mark) c f g seen = absurd f

pub value_quiet : (quote : Quote) (name : List ℕ) (c sign : ℕ) → quote_byte quote ≡ sign → (c ≡ sign → ⊥) → (c ≡ 60 → ⊥)
    → (seen : List ℕ) → stops (in_quotes quote name) seen c ≡ false
value_quiet quote name c sign f g h seen =
    let a : (c == quote_byte quote) ≡ false = ne_eqb c (quote_byte quote) (λ same. g (same ∙ f)) in
    let b : (c == 60) ≡ false = ne_eqb c 60 h in
    rw (a, b) refl

pub value_bracket : (e : Encoding) (quote : Quote) (name seen : List ℕ) (place : OpenElements)
    → step e (in_segment (in_quotes quote name) place seen Whole) 60 ≡ None
value_bracket e single name seen place = refl
value_bracket e double name seen place = refl

dashes_test : (seen : List ℕ) → begins_with (45 ∷ (45 ∷ [])) seen ≡ nat_le 2 (leading 45 seen)
dashes_test [] = refl
dashes_test (a ∷ []) = elim (a == 45) as (λ b. (b && false) ≡ nat_le 2 (cond b 1 0)) [ true ↦ refl | false ↦ refl ]
dashes_test (a ∷ (b ∷ seen)) =
    elim (a == 45) as
    (λ x. (x && (b == 45 && true)) ≡ nat_le 2 (cond x (cond (b == 45) (leading 45 seen + 1) 0 + 1) 0)) [
      | true ↦ elim (b == 45) as
          (λ y. (y && true)
          ≡ nat_le 2 (cond y (leading 45 seen + 1) 0 + 1)) [
            | true ↦ sym
                (le-leb 2 (leading 45 seen + 1 + 1) (omega arith))
            | false ↦ refl
          ]
      | false ↦ refl
    ]

brackets_test : (seen : List ℕ) → begins_with (93 ∷ (93 ∷ [])) seen ≡ nat_le 2 (leading 93 seen)
brackets_test [] = refl
brackets_test (a ∷ []) = elim (a == 93) as (λ b. (b && false) ≡ nat_le 2 (cond b 1 0)) [ true ↦ refl | false ↦ refl ]
brackets_test (a ∷ (b ∷ seen)) =
    elim (a == 93) as
    (λ x. (x && (b == 93 && true)) ≡ nat_le 2 (cond x (cond (b == 93) (leading 93 seen + 1) 0 + 1) 0)) [
      | true ↦ elim (b == 93) as
          (λ y. (y && true)
          ≡ nat_le 2 (cond y (leading 93 seen + 1) 0 + 1)) [
            | true ↦ sym
                (le-leb 2 (leading 93 seen + 1 + 1) (omega arith))
            | false ↦ refl
          ]
      | false ↦ refl
    ]

question_test : (seen : List ℕ) → begins_with (63 ∷ []) seen ≡ nat_le 1 (leading 63 seen)
question_test [] = refl
question_test (a ∷ seen) =
    elim (a == 63) as
    (λ b. (b && true)
    ≡ nat_le 1 (cond b (leading 63 seen + 1) 0)) [
      | true ↦ sym
          (le-leb 1 (leading 63 seen + 1) (omega arith))
      | false ↦ refl
    ]

mark_test : (mark : Mark) (seen : List ℕ) (c : ℕ)
    → begins_with (backward mark) (c ∷ seen) ≡ (c == 62 && nat_le (least_of mark) (leading (sign_of mark) seen))
mark_test dashes seen c = ap (λ b. c == 62 && b) (dashes_test seen)
mark_test question seen c = ap (λ b. c == 62 && b) (question_test seen)
mark_test brackets seen c = ap (λ b. c == 62 && b) (brackets_test seen)

no_leading : (sign : ℕ) (text seen : List ℕ) → is_high sign ≡ false → list_all is_high text ≡ true
    → leading sign seen ≡ 0 → leading sign (onto text seen) ≡ 0
no_leading sign [] seen f g h = h
no_leading sign (c ∷ text) seen f g h =
    let both = and_parts (is_high c) (list_all is_high text) g in
    no_leading sign text (c ∷ seen) f both.1
    (ap (λ b. cond b (leading sign seen + 1) 0) (apart is_high c sign both.0 f))

some_leading : (sign : ℕ) (text seen : List ℕ) → is_high sign ≡ false → list_all is_high text ≡ true → 0 < length text
    → leading sign (onto text seen) ≡ 0
some_leading sign [] seen f g h = absurd (omega (arith, h))
some_leading sign (c ∷ text) seen f g h =
    let both = and_parts (is_high c) (list_all is_high text) g in
    no_leading sign text (c ∷ seen) f both.1
    (ap (λ b. cond b (leading sign seen + 1) 0) (apart is_high c sign both.0 f))

module _ (e : Encoding) (bytes : List ℕ) (sign least : ℕ) where
  -- one ASCII byte that ends nothing
  pub mark_more : (i j count : ℕ) → j < length bytes → nat_lt (get_or bytes j 0) 128 ≡ true
      → (get_or bytes j 0 == 62 && nat_le least count) ≡ false → MarkRun e bytes sign least i j count
      → MarkRun e bytes sign least i (j + 1) (cond (get_or bytes j 0 == sign) (count + 1) 0)
  mark_more i j count h f g run =
      let forth : i ≤ j = run.forth in
      let few : count ≤ j - i = run.few in
      let c : ℕ = get_or bytes j 0 in
      let now : List ℕ = onto (slice_range bytes i j) [] in
      let more : slice_range bytes i (j + 1) ≡ slice_range bytes i j ++ c ∷ [] = between_more bytes i j 0 forth h in
      let then : onto (slice_range bytes i (j + 1)) [] ≡ c ∷ now = ap (λ x. onto x []) more
      ∙ onto_append (slice_range bytes i j) (c ∷ []) [] in
      record {
        forth = omega arith;
        within = omega arith;
        is_text = ap (tails e Whole) more
            ∙ tails_one e Whole Whole Whole (slice_range bytes i j) c run.is_text (ascii_next e c f);
        count_is = ap (λ n. cond (c == sign) (n + 1) 0) run.count_is ∙ ap (leading sign) (sym then);
        few = elim (c == sign) as
            (λ b. cond b (count + 1) 0 ≤ (j + 1) - i) [ true ↦ omega arith | false ↦ omega arith ];
        goes = λ mark place same enough.
            let quiet : begins_with (backward mark) (c ∷ now) ≡ false =
            mark_test mark now c ∙ ap (λ n. c == 62 && nat_le n (leading (sign_of mark) now)) enough
            ∙ ap (λ n. c == 62 && nat_le least (leading n now)) same
            ∙ ap (λ n. c == 62 && nat_le least n) (sym run.count_is) ∙ g in
            run.goes mark place same enough
            ∙ goes_step e bytes (in_segment (in_marks mark) place now Whole)
            (in_segment (in_marks mark) place (c ∷ now) Whole) j h
            (ap (λ b. cond b (if_whole Whole (after e (in_marks mark) place now c))
            (if_some_tail (next_tail e Whole c)
            (λ next. Some (in_segment (in_marks mark) place (c ∷ now) next)))) quiet
            ∙ ap (λ o. if_some_tail o (λ next. Some (in_segment (in_marks mark) place (c ∷ now) next)))
            (ascii_next e c f))
            ∙ ap (λ x. verdict e (in_segment (in_marks mark) place x Whole) (drop (j + 1) bytes) (j + 1)) (sym then);
      }

  -- a character past ASCII
  pub mark_char : (i j k count : ℕ) → is_high sign ≡ false → j < k → MarkRun e bytes sign least i j count
      → ((kind : Kind) → Runs e bytes kind j k) → list_all is_high (slice_range bytes j k) ≡ true
      → MarkRun e bytes sign least i k 0
  mark_char i j k count low h run runs high =
      let forth : i ≤ j = run.forth in
      let one = runs in_run in
      let within : k ≤ length bytes = one.within in
      let all = slice_join e bytes i j k forth (omega arith) in
      let then : onto (slice_range bytes i k) [] ≡ onto (slice_range bytes j k) (onto (slice_range bytes i j) []) =
      ap (λ x. onto x []) all ∙ onto_append (slice_range bytes i j) (slice_range bytes j k) [] in
      let long : length (slice_range bytes j k) ≡ k - j = length-between bytes j k within in
      record {
        forth = omega arith;
        within = within;
        is_text = ap (tails e Whole) all ∙ tails_more e Whole (slice_range bytes i j) (slice_range bytes j k)
            ∙ ap (λ o. goes_on o (λ t. tails e t (slice_range bytes j k))) run.is_text ∙ one.is_text;
        count_is = sym
            (ap (leading sign) then
            ∙ some_leading sign (slice_range bytes j k) (onto (slice_range bytes i j) []) low high (omega arith));
        few = omega arith;
        goes = λ mark place same enough.
            run.goes mark place same enough
            ∙ (runs (in_marks mark)).goes place (onto (slice_range bytes i j) [])
            ∙ ap (λ x. verdict e (in_segment (in_marks mark) place x Whole) (drop k bytes) k) (sym then);
      }

-- whether a literal stands somewhere
pub stands_not : (bytes literal : List ℕ) (k i : ℕ) → k < length literal → i < length bytes
    → (get_or bytes i 0 ≡ get_or literal k 0 → ⊥) → begins_with (drop k literal) (drop i bytes) ≡ false
stands_not bytes literal k i f g h =
    ap (λ x. begins_with x (drop i bytes)) (drop_more literal k 0 f)
    ∙ ap (λ x. begins_with (get_or literal k 0 ∷ drop (k + 1) literal) x) (drop_more bytes i 0 g)
    ∙ ap (λ b. b && begins_with (drop (k + 1) literal) (drop (i + 1) bytes))
    (ne_eqb (get_or bytes i 0) (get_or literal k 0) h)

pub stands_past : (bytes literal : List ℕ) (k i : ℕ) → k < length literal → length bytes ≤ i
    → begins_with (drop k literal) (drop i bytes) ≡ false
stands_past bytes literal k i f g = ap (λ x. begins_with x (drop i bytes)) (drop_more literal k 0 f)
    ∙ ap (λ x. begins_with (get_or literal k 0 ∷ drop (k + 1) literal) x) (drop_all i bytes g)

pub low_byte : (c sign : ℕ) → c ≡ sign → is_high sign ≡ false → nat_lt c 128 ≡ true
low_byte c sign f g = lt-ltb c 128 (leb-false 128 c (ap is_high f ∙ g))
