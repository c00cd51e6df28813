-- How a declaration is read.
use Rattle.std.proofs.Common.{◌≡◌, ℕ, inl, inr, ◌+◌, ◌<◌, ◌≤◌, true, false, cond, ◌&&◌, List, [], ◌∷◌, ◌++◌, length, drop, get_or, refl, sym, ◌∙◌, ap, arith, Option, Some, None}
use Rattle.std.specs.Prelude.{◌==◌, slice_range, codes}
use Rattle.std.proofs.lemmas.Bool.{and_parts, false≢true, eqb-true, ne_eqb, cases_Bool, cases_lt}
use Rattle.std.proofs.lemmas.List.{drop_more, drop_all, drop-drop}
use Rattle.std.proofs.lemmas.List.Edits.{between_more}
use Rattle.ascii_bytes.specs.Classes.{is_white}
use Rattle.pom_grammar.specs.declared.encoding.Encoding.{Encoding}
use Rattle.pom_grammar.specs.declared.encoding.Encoding.TheVariants.{Utf8}
use Rattle.pom_grammar.specs.declared.encoding.Seek.TheVariants.{Nothing}
use Rattle.pom_grammar.specs.declared.tree.TextErr.TheVariants.{BadText}
use Rattle.pom_grammar.specs.Characters.{begins_with, onto}
use Rattle.pom_grammar.specs.Document.{Quote, question, backward, quote_byte}
use Rattle.pom_grammar.specs.Declarations.{seeking, naming, named, next_found, encoding_of, declares, declares_from, begins_space}
use Rattle.pom_grammar.specs.Machine.{State, between, step, outcome}
use Rattle.pom_grammar.specs.Heads.{Start, at_start, bracket, after_question, after_x, after_m, after_l, Telling, Reading, starting, in_declaration, in_body, nothing_told, next_telling, may_go_on, body_in, expected, next_start, so_far, as_body, body_reading}
use Rattle.pom_grammar.specs.Verdicts.{verdict, fault_at, ended, stepped, reading_verdict, unknown_from, unknown_after, unless_unknown}
use Rattle.pom_text.specs.DeclarationViews.{ends_question}
use Rattle.pom_text.proofs.Bytes.{onto_append}

-- the value of the encoding goes on
pub value_more : (bytes : List ℕ) (quote : Quote) (start at : ℕ) → start ≤ at → at < length bytes
    → (get_or bytes at 0 ≡ quote_byte quote → ⊥)
    → naming quote (slice_range bytes start (at + 1))
    ≡ next_found (naming quote (slice_range bytes start at)) (get_or bytes at 0)
value_more bytes quote start at h k f =
    ap (naming quote) (between_more bytes start at 0 h k)
    ∙ sym (ap (λ b. cond b (named (slice_range bytes start at))
    (naming quote (slice_range bytes start at ++ get_or bytes at 0 ∷ [])))
    (ne_eqb (get_or bytes at 0) (quote_byte quote) f))

-- the whole reader in a body
pub body_verdict : (e : Encoding) (s : State) (text : List ℕ) (k : ℕ)
    → reading_verdict (in_body e s) text k ≡ verdict e s text k
body_verdict e s [] k = refl
body_verdict e s (c ∷ text) k = go (step e s c) (λ t. body_verdict e t text (k + 1))
  where
    go : (o : Option State) → ((t : State) → reading_verdict (in_body e t) text (k + 1) ≡ verdict e t text (k + 1))
        → stepped (body_reading e o) (fault_at e s c text k) (λ t. reading_verdict t text (k + 1))
        ≡ stepped o (fault_at e s c text k) (λ t. verdict e t text (k + 1))
    go None f = refl
    go (Some t) f = f t

end_is : (seen : List ℕ) (c : ℕ) → begins_with (backward question) (c ∷ seen) ≡ (ends_question seen && c == 62)
end_is [] c = elim (c == 62) as (λ b. (b && false) ≡ false) [ true ↦ refl | false ↦ refl ]
end_is (d ∷ seen) c =
    elim (c == 62) as (λ b. (b && (d == 63 && true)) ≡ (d == 63 && b)) [
      | true ↦ elim (d == 63) as (λ x. (x && true) ≡ (x && true)) [ true ↦ refl | false ↦ refl ]
      | false ↦ elim (d == 63) as (λ x. false ≡ (x && false)) [ true ↦ refl | false ↦ refl ]
    ]

module _ (bytes : List ℕ) where
  pub declaration_goes : (space i : ℕ) (seen : List ℕ) (telling next : Telling) → i < length bytes
      → (ends_question seen && get_or bytes i 0 == 62) ≡ false → next ≡ next_telling telling (get_or bytes i 0)
      → may_go_on next ≡ true
      → reading_verdict (in_declaration space seen telling) (drop i bytes) i
      ≡ reading_verdict (in_declaration space (get_or bytes i 0 ∷ seen) next) (drop (i + 1) bytes) (i + 1)
  declaration_goes space i seen telling next h f g k =
      let c : ℕ = get_or bytes i 0 in
      ap (λ x. reading_verdict (in_declaration space seen telling) x i) (drop_more bytes i 0 h)
      ∙ ap (λ b. stepped
      (cond b (body_in (encoding_of telling.found) telling)
      (cond (may_go_on (next_telling telling c))
      (Some (in_declaration space (c ∷ seen) (next_telling telling c))) None)) (BadText i)
      (λ t. reading_verdict t (drop (i + 1) bytes) (i + 1))) (end_is seen c ∙ f)
      ∙ ap (λ n. stepped (cond (may_go_on n) (Some (in_declaration space (c ∷ seen) n)) None) (BadText i)
      (λ t. reading_verdict t (drop (i + 1) bytes) (i + 1))) (sym g)
      ∙ ap (λ b. stepped (cond b (Some (in_declaration space (c ∷ seen) next)) None) (BadText i)
      (λ t. reading_verdict t (drop (i + 1) bytes) (i + 1))) k

  pub declaration_ends : (space i : ℕ) (seen : List ℕ) (telling : Telling) (next : Option Reading) → i < length bytes
      → (ends_question seen && get_or bytes i 0 == 62) ≡ true → body_in (encoding_of telling.found) telling ≡ next
      → reading_verdict (in_declaration space seen telling) (drop i bytes) i
      ≡ stepped next (BadText i) (λ t. reading_verdict t (drop (i + 1) bytes) (i + 1))
  declaration_ends space i seen telling next h f g =
      let c : ℕ = get_or bytes i 0 in
      ap (λ x. reading_verdict (in_declaration space seen telling) x i) (drop_more bytes i 0 h)
      ∙ ap (λ b. stepped
      (cond b (body_in (encoding_of telling.found) telling)
      (cond (may_go_on (next_telling telling c))
      (Some (in_declaration space (c ∷ seen) (next_telling telling c))) None)) (BadText i)
      (λ t. reading_verdict t (drop (i + 1) bytes) (i + 1))) (end_is seen c ∙ f)
      ∙ ap (λ o. stepped o (BadText i) (λ t. reading_verdict t (drop (i + 1) bytes) (i + 1))) g

  pub seen_more : (at i : ℕ) → at ≤ i → i < length bytes
      → onto (slice_range bytes at (i + 1)) [] ≡ get_or bytes i 0 ∷ onto (slice_range bytes at i) []
  seen_more at i h k = ap (λ x. onto x []) (between_more bytes at i 0 h k)
      ∙ onto_append (slice_range bytes at i) (get_or bytes i 0 ∷ []) []

-- a text that no declaration begins
no_fault : (start : Start) (c : ℕ) (text : List ℕ) (k : ℕ) → fault_at Utf8 (as_body start) c text k ≡ BadText k
no_fault at_start c text k = refl
no_fault bracket c text k = refl
no_fault after_question c text k = refl
no_fault after_x c text k = refl
no_fault after_m c text k = refl
no_fault after_l c text k = refl

no_outcome : (start : Start) → outcome (as_body start) ≡ None
no_outcome at_start = refl
no_outcome bracket = refl
no_outcome after_question = refl
no_outcome after_x = refl
no_outcome after_m = refl
no_outcome after_l = refl

other_verdict : (start : Start) (c : ℕ) (text : List ℕ) (k : ℕ) → expected start c ≡ false
    → reading_verdict (starting start) (c ∷ text) k ≡ verdict Utf8 (as_body start) (c ∷ text) k
other_verdict start c text k f =
    ap (λ b. stepped (cond b (Some (next_start start c)) (body_reading Utf8 (step Utf8 (as_body start) c))) (BadText k)
    (λ t. reading_verdict t text (k + 1))) f
    ∙ go (step Utf8 (as_body start) c)
    ∙ ap (λ fault. stepped (step Utf8 (as_body start) c) fault (λ t. verdict Utf8 t text (k + 1)))
    (sym (no_fault start c text k))
  where
    go : (o : Option State)
        → stepped (body_reading Utf8 o) (BadText k) (λ t. reading_verdict t text (k + 1))
        ≡ stepped o (BadText k) (λ t. verdict Utf8 t text (k + 1))
    go None = refl
    go (Some t) = body_verdict Utf8 t text (k + 1)

literal_verdict : (start next : Start) (c wanted : ℕ) (text : List ℕ) (k : ℕ) → c ≡ wanted
    → next_start start wanted ≡ starting next → expected start wanted ≡ true
    → step Utf8 (as_body start) wanted ≡ Some (as_body next)
    → reading_verdict (starting next) text (k + 1) ≡ verdict Utf8 (as_body next) text (k + 1)
    → reading_verdict (starting start) (c ∷ text) k ≡ verdict Utf8 (as_body start) (c ∷ text) k
literal_verdict start next c wanted text k f g h l on =
    ap (λ x. reading_verdict (starting start) (x ∷ text) k) f
    ∙ ap (λ b. stepped (cond b (Some (next_start start wanted)) (body_reading Utf8 (step Utf8 (as_body start) wanted)))
    (BadText k) (λ t. reading_verdict t text (k + 1))) h
    ∙ ap (λ r. reading_verdict r text (k + 1)) g
    ∙ on
    ∙ ap (λ o. stepped o (fault_at Utf8 (as_body start) wanted text k) (λ t. verdict Utf8 t text (k + 1))) (sym l)
    ∙ ap (λ x. verdict Utf8 (as_body start) (x ∷ text) k) (sym f)

pub start_verdict : (text : List ℕ) (start : Start) (k : ℕ) → declares (so_far start ++ text) ≡ false
    → reading_verdict (starting start) text k ≡ verdict Utf8 (as_body start) text k
start_verdict [] start k f = ap (λ o. ended o k) (sym (no_outcome start))
start_verdict (c ∷ text) at_start k f =
    elim (cases_Bool (c == 60)) [
      | inl a ↦ literal_verdict at_start bracket c 60 text k (eqb-true c 60 a) refl refl refl
          (start_verdict text bracket (k + 1)
          (ap (λ x. declares (x ∷ text)) (sym (eqb-true c 60 a)) ∙ f))
      | inr a ↦ other_verdict at_start c text k a
    ]
start_verdict (c ∷ text) bracket k f =
    elim (cases_Bool (c == 63)) [
      | inl a ↦ literal_verdict bracket after_question c 63 text k
          (eqb-true c 63 a) refl refl refl
          (start_verdict text after_question (k + 1)
          (ap (λ x. declares (codes "<" ++ x ∷ text)) (sym (eqb-true c 63 a))
          ∙ f))
      | inr a ↦ other_verdict bracket c text k a
    ]
start_verdict (c ∷ text) after_question k f =
    elim (cases_Bool (c == 120)) [
      | inl a ↦ literal_verdict after_question after_x c 120 text k
          (eqb-true c 120 a) refl refl refl
          (start_verdict text after_x (k + 1)
          (ap (λ x. declares (codes "<?" ++ x ∷ text)) (sym (eqb-true c 120 a))
          ∙ f))
      | inr a ↦ other_verdict after_question c text k a
    ]
start_verdict (c ∷ text) after_x k f =
    elim (cases_Bool (c == 109)) [
      | inl a ↦ literal_verdict after_x after_m c 109 text k
          (eqb-true c 109 a) refl refl refl
          (start_verdict text after_m (k + 1)
          (ap (λ x. declares (codes "<?x" ++ x ∷ text)) (sym (eqb-true c 109 a))
          ∙ f))
      | inr a ↦ other_verdict after_x c text k a
    ]
start_verdict (c ∷ text) after_m k f =
    elim (cases_Bool (c == 108)) [
      | inl a ↦ literal_verdict after_m after_l c 108 text k
          (eqb-true c 108 a) refl refl refl
          (start_verdict text after_l (k + 1)
          (ap (λ x. declares (codes "<?xm" ++ x ∷ text)) (sym (eqb-true c 108 a))
          ∙ f))
      | inr a ↦ other_verdict after_m c text k a
    ]
start_verdict (c ∷ text) after_l k f =
    elim (cases_Bool (is_white c)) [
      | inl a ↦ absurd
          (false≢true (sym f ∙ a))
      | inr a ↦ other_verdict after_l c text k a
    ]

-- a text that a declaration begins
abbrev Begun : List ℕ → Type 0
Begun text = (space : ℕ) × (rest : List ℕ) × (is_white space ≡ true) × (text ≡ codes "<?xml" ++ space ∷ rest)

declared_verdict : (text : List ℕ) (k : ℕ) → Begun text
    → (space : ℕ)
    × (reading_verdict (starting at_start) text k
    ≡ reading_verdict (in_declaration space [] nothing_told) (drop 6 text) (k + 6))
declared_verdict text k d =
    let six : k + 1 + 1 + 1 + 1 + 1 + 1 ≡ k + 6 = omega arith in (
      d.0,
      ap (λ x. reading_verdict (starting at_start) x k) d.3
          ∙ ap (λ b. stepped
          (cond b (Some (in_declaration d.0 [] nothing_told))
          (body_reading Utf8 (step Utf8 (as_body after_l) d.0))) (BadText (k + 1 + 1 + 1 + 1 + 1))
          (λ t. reading_verdict t d.1 (k + 1 + 1 + 1 + 1 + 1 + 1))) d.2
          ∙ ap (reading_verdict (in_declaration d.0 [] nothing_told) d.1) six
          ∙ ap (λ x. reading_verdict (in_declaration d.0 [] nothing_told) (drop 6 x) (k + 6)) (sym d.3),
    )

pub after_declared : (bytes : List ℕ) (at : ℕ) → declares (drop at bytes) ≡ true → Begun (drop at bytes)
    → (space : ℕ)
    × (unless_unknown (unknown_after at (drop at bytes)) (reading_verdict (starting at_start) (drop at bytes) at)
    ≡ unless_unknown (unknown_from 0 (seeking Nothing) false (drop (at + 6) bytes) (at + 6))
    (reading_verdict (in_declaration space [] nothing_told) (drop (at + 6) bytes) (at + 6)))
after_declared bytes at f begun =
    let on = declared_verdict (drop at bytes) at begun in
    let there : drop 6 (drop at bytes) ≡ drop (at + 6) bytes = drop-drop 6 at bytes in (
      on.0,
      ap (λ b. unless_unknown (cond b (unknown_from 0 (seeking Nothing) false (drop 6 (drop at bytes)) (at + 6)) None)
          (reading_verdict (starting at_start) (drop at bytes) at)) f
          ∙ ap (unless_unknown (unknown_from 0 (seeking Nothing) false (drop 6 (drop at bytes)) (at + 6))) on.1
          ∙ ap (λ x. unless_unknown (unknown_from 0 (seeking Nothing) false x (at + 6))
          (reading_verdict (in_declaration on.0 [] nothing_told) x (at + 6))) there,
    )

pub after_undeclared : (bytes : List ℕ) (at : ℕ) → declares (drop at bytes) ≡ false
    → unless_unknown (unknown_after at (drop at bytes)) (reading_verdict (starting at_start) (drop at bytes) at)
    ≡ verdict Utf8 (between None) (drop at bytes) at
after_undeclared bytes at f =
    ap (λ b. unless_unknown (cond b (unknown_from 0 (seeking Nothing) false (drop 6 (drop at bytes)) (at + 6)) None)
    (reading_verdict (starting at_start) (drop at bytes) at)) f ∙ start_verdict (drop at bytes) at_start at f

-- whether a declaration begins
begins_declares : (text : List ℕ) (prefix : List ℕ) → begins_with prefix text ≡ true
    → declares_from prefix text ≡ begins_space (drop (length prefix) text)
begins_declares text [] f = refl
begins_declares [] (a ∷ prefix) f = absurd (false≢true f)
begins_declares (c ∷ text) (a ∷ prefix) f =
    let both = and_parts (c == a) (begins_with prefix text) f in
    ap (λ b. b && declares_from prefix text) both.0 ∙ begins_declares text prefix both.1

space_after : (bytes : List ℕ) (i : ℕ) → i < length bytes → begins_space (drop i bytes) ≡ is_white (get_or bytes i 0)
space_after bytes i h = ap begins_space (drop_more bytes i 0 h)

pub declares_no : (bytes : List ℕ) (at : ℕ) → begins_with (codes "<?xml") (drop at bytes) ≡ true
    → (at + 5 < length bytes → is_white (get_or bytes (at + 5) 0) ≡ false) → declares (drop at bytes) ≡ false
declares_no bytes at f g =
    begins_declares (drop at bytes) (codes "<?xml") f ∙ ap begins_space (drop-drop 5 at bytes)
    ∙ elim (cases_lt (at + 5) (length bytes)) [
      | inl here ↦ space_after bytes (at + 5) here
          ∙ g here
      | inr past ↦ ap begins_space (drop_all (at + 5) bytes past)
    ]
