-- How a run goes on, byte by byte and character by character.
use Rattle.std.proofs.Common.{◌≡◌, ℕ, inl, inr, ◌+◌, ◌-◌, ◌<◌, ◌≤◌, true, false, cond, List, [], ◌∷◌, ◌++◌, length, take, drop, get_or, refl, sym, ◌∙◌, ap, arith, Option, Some, None}
use Rattle.std.specs.Prelude.{nat_lt, nat_le, slice_range, Err}
use Rattle.std.proofs.lemmas.Bool.{and_parts, leb-true, le-leb, false≢true, cases_Bool}
use Rattle.std.proofs.lemmas.List.{drop_more, drop_all, take-append-drop, drop-drop, take-take, drop-take}
use Rattle.std.proofs.lemmas.List.Edits.{between_more}
use Rattle.std.specs.List.{list_all}
use Rattle.ascii_bytes.specs.Classes.{between}
use Rattle.pom_grammar.specs.declared.encoding.Encoding.{Encoding}
use Rattle.pom_grammar.specs.declared.encoding.Encoding.TheVariants.{Utf8, Ascii, Latin1}
use Rattle.pom_grammar.specs.declared.encoding.Tail.{Tail}
use Rattle.pom_grammar.specs.declared.encoding.Tail.TheVariants.{Whole, One, Two, Three, AfterE0, AfterEd, AfterF0, AfterF4}
use Rattle.pom_grammar.specs.declared.tree.TextErr.{TextErr}
use Rattle.pom_grammar.specs.declared.tree.TextErr.TheVariants.{BadText}
use Rattle.pom_grammar.specs.Characters.{is_high, onto}
use Rattle.pom_grammar.specs.Encodings.{next_tail, tails, goes_on, if_between}
use Rattle.pom_grammar.specs.Machine.{Kind, State, in_segment, stops, step, outcome, after, if_whole, if_some_tail}
use Rattle.pom_grammar.specs.Verdicts.{verdict, fault_at, ended, stepped}
use Rattle.pom_text.specs.Scans.{Goes, Faults, Runs, Breaks, Partial, is_whole}
use Rattle.pom_text.proofs.Bytes.{every_one, onto_append, tails_more, tails_one, ascii_next}

-- a byte that goes on with a character is past ASCII
between_high : (low high : ℕ) (left next : Tail) (c : ℕ) → 128 ≤ low → if_between low high left c ≡ Some next
    → is_high c ≡ true
between_high low high left next c h f =
    elim (cases_Bool (between low high c)) [
      | inl a ↦ let l = leb-true low c (and_parts (nat_le low c) (nat_le c high) a).0 in le-leb 128 c (omega arith)
      | inr a ↦ let no : ◌≡◌ {A = Option Tail} None (Some next) = sym (ap (λ b. cond b (Some left) None) a)
          ∙ f in let never : ⊥ = cc in absurd never
    ]

pub high_after : (e : Encoding) (tail next : Tail) (c : ℕ) → is_whole tail ≡ false → next_tail e tail c ≡ Some next
    → is_high c ≡ true
high_after Utf8 Whole next c f g = absurd (false≢true (sym f))
high_after Utf8 One next c f g = between_high 128 191 Whole next c (omega arith) g
high_after Utf8 Two next c f g = between_high 128 191 One next c (omega arith) g
high_after Utf8 Three next c f g = between_high 128 191 Two next c (omega arith) g
high_after Utf8 AfterE0 next c f g = between_high 160 191 One next c (omega arith) g
high_after Utf8 AfterEd next c f g = between_high 128 159 One next c (omega arith) g
high_after Utf8 AfterF0 next c f g = between_high 144 191 Two next c (omega arith) g
high_after Utf8 AfterF4 next c f g = between_high 128 143 Two next c (omega arith) g
high_after Ascii Whole next c f g = absurd (false≢true (sym f))
high_after Latin1 Whole next c f g = absurd (false≢true (sym f))
high_after Ascii tail next c f g = let no : ⊥ = cc in absurd no
high_after Latin1 tail next c f g = let no : ⊥ = cc in absurd no

pub whole_is : (tail : Tail) → is_whole tail ≡ true → tail ≡ Whole
whole_is Whole f = refl
whole_is tail f = absurd (false≢true f)

if_not_whole : (tail : Tail) (next : Option State) → is_whole tail ≡ false → if_whole tail next ≡ None
if_not_whole Whole next f = absurd (false≢true (sym f))
if_not_whole tail next f = refl

-- no byte past ASCII ends a run
abbrev pub AsciiEnds : Type 0
AsciiEnds = (kind : Kind) (seen : List ℕ) (c : ℕ) → is_high c ≡ true → stops kind seen c ≡ false

module _ (e : Encoding) (bytes : List ℕ) where
  pub goes_step : (s t : State) (i : ℕ) → i < length bytes → step e s (get_or bytes i 0) ≡ Some t
      → Goes e bytes s i t (i + 1)
  goes_step s t i h f =
      ap (λ x. verdict e s x i) (drop_more bytes i 0 h)
      ∙ ap (λ o. stepped o (fault_at e s (get_or bytes i 0) (drop (i + 1) bytes) i)
      (λ u. verdict e u (drop (i + 1) bytes) (i + 1))) f

  pub stops_with : (s : State) (fault : TextErr) (i : ℕ) → i < length bytes → step e s (get_or bytes i 0) ≡ None
      → fault_at e s (get_or bytes i 0) (drop (i + 1) bytes) i ≡ fault → Faults e bytes s i fault
  stops_with s fault i h f g =
      ap (λ x. verdict e s x i) (drop_more bytes i 0 h)
      ∙ ap (λ o. stepped o (fault_at e s (get_or bytes i 0) (drop (i + 1) bytes) i)
      (λ u. verdict e u (drop (i + 1) bytes) (i + 1))) f ∙ ap Err g

  pub ends_bad : (s : State) (i : ℕ) → length bytes ≤ i → outcome s ≡ None → Faults e bytes s i (BadText i)
  ends_bad s i h f = ap (λ x. verdict e s x i) (drop_all i bytes h) ∙ ap (λ o. ended o i) f

  take_both : (m n : ℕ) (xs : List ℕ) → take (m + n) xs ≡ take m xs ++ take n (drop m xs)
  take_both m n xs =
      sym (take-append-drop m (take (m + n) xs))
      ∙ ap (λ x. x ++ drop m (take (m + n) xs)) (take-take m (m + n) xs (omega arith))
      ∙ ap (λ x. take m xs ++ x) (drop-take m n xs)

  pub slice_join : (i j k : ℕ) → i ≤ j → j ≤ k → slice_range bytes i k ≡ slice_range bytes i j ++ slice_range bytes j k
  slice_join i j k f g =
      let sum : k - i ≡ (j - i) + (k - j) = omega arith in
      let there : i + (j - i) ≡ j = omega arith in
      ap (λ n. take n (drop i bytes)) sum ∙ take_both (j - i) (k - j) (drop i bytes)
      ∙ ap (λ x. take (j - i) (drop i bytes) ++ take (k - j) x)
      (drop-drop (j - i) i bytes ∙ ap (λ n. drop n bytes) there)

  pub runs_one : (kind : Kind) (i j : ℕ) → j < length bytes → nat_lt (get_or bytes j 0) 128 ≡ true
      → ((seen : List ℕ) → stops kind seen (get_or bytes j 0) ≡ false) → Runs e bytes kind i j
      → Runs e bytes kind i (j + 1)
  runs_one kind i j h f g runs =
      let forth : i ≤ j = runs.forth in
      let c : ℕ = get_or bytes j 0 in
      let more : slice_range bytes i (j + 1) ≡ slice_range bytes i j ++ c ∷ [] = between_more bytes i j 0 forth h in
      record {
        forth = omega arith;
        within = omega arith;
        is_text = ap (tails e Whole) more
            ∙ tails_one e Whole Whole Whole (slice_range bytes i j) c runs.is_text (ascii_next e c f);
        goes = λ place seen.
            let now : List ℕ = onto (slice_range bytes i j) seen in
            runs.goes place seen
            ∙ goes_step (in_segment kind place now Whole) (in_segment kind place (c ∷ now) Whole) j h
            (ap (λ b. cond b (if_whole Whole (after e kind place now c))
            (if_some_tail (next_tail e Whole c) (λ next. Some (in_segment kind place (c ∷ now) next)))) (g now)
            ∙ ap (λ o. if_some_tail o (λ next. Some (in_segment kind place (c ∷ now) next))) (ascii_next e c f))
            ∙ ap (λ x. verdict e (in_segment kind place x Whole) (drop (j + 1) bytes) (j + 1))
            (sym (onto_append (slice_range bytes i j) (c ∷ []) seen) ∙ ap (λ x. onto x seen) (sym more));
      }

  pub runs_join : (kind : Kind) (i j k : ℕ) → Runs e bytes kind i j → Runs e bytes kind j k → Runs e bytes kind i k
  runs_join kind i j k a b =
      let one : i ≤ j = a.forth in
      let two : j ≤ k = b.forth in
      let all = slice_join i j k one two in
      record {
        forth = omega arith;
        within = b.within;
        is_text = ap (tails e Whole) all ∙ tails_more e Whole (slice_range bytes i j) (slice_range bytes j k)
            ∙ ap (λ o. goes_on o (λ t. tails e t (slice_range bytes j k))) a.is_text ∙ b.is_text;
        goes = λ place seen.
            a.goes place seen
            ∙ b.goes place (onto (slice_range bytes i j) seen)
            ∙ ap (λ x. verdict e (in_segment kind place x Whole) (drop k bytes) k)
            (sym (onto_append (slice_range bytes i j) (slice_range bytes j k) seen)
            ∙ ap (λ x. onto x seen) (sym all));
      }

  -- a run that went so far breaks there
  pub breaks_from : (kind : Kind) (i j : ℕ) (fault : TextErr) → Runs e bytes kind i j → Breaks e bytes kind j fault
      → Breaks e bytes kind i fault
  breaks_from kind i j fault runs breaks = λ place seen. runs.goes place seen
      ∙ breaks place (onto (slice_range bytes i j) seen)

  pub breaks_end : (kind : Kind) (i : ℕ) → length bytes ≤ i → Breaks e bytes kind i (BadText i)
  breaks_end kind i h = λ place seen. ends_bad (in_segment kind place seen Whole) i h refl

  -- so far into a character
  pub partial_more : AsciiEnds → (kind : Kind) (i j : ℕ) (tail next : Tail) → j < length bytes
      → Partial e bytes kind i j tail
      → (is_whole tail ≡ true → is_high (get_or bytes j 0) ≡ true) → next_tail e tail (get_or bytes j 0) ≡ Some next
      → Partial e bytes kind i (j + 1) next
  partial_more quiet kind i j tail next h partial f g =
      let forth : i ≤ j = partial.forth in
      let c : ℕ = get_or bytes j 0 in
      let more : slice_range bytes i (j + 1) ≡ slice_range bytes i j ++ c ∷ [] = between_more bytes i j 0 forth h in
      let high : is_high c ≡ true =
      elim (cases_Bool (is_whole tail)) [ inl a ↦ f a | inr a ↦ high_after e tail next c a g ] in
      record {
        forth = omega arith;
        within = omega arith;
        lacks = ap (tails e Whole) more ∙ tails_one e Whole tail next (slice_range bytes i j) c partial.lacks g;
        high = ap (list_all is_high) more ∙ every_one is_high (slice_range bytes i j) c partial.high high;
        goes = λ place seen.
            let now : List ℕ = onto (slice_range bytes i j) seen in
            partial.goes place seen
            ∙ goes_step (in_segment kind place now tail) (in_segment kind place (c ∷ now) next) j h
            (ap (λ b. cond b (if_whole tail (after e kind place now c))
            (if_some_tail (next_tail e tail c) (λ t. Some (in_segment kind place (c ∷ now) t))))
            (quiet kind now c high)
            ∙ ap (λ o. if_some_tail o (λ t. Some (in_segment kind place (c ∷ now) t))) g)
            ∙ ap (λ x. verdict e (in_segment kind place x next) (drop (j + 1) bytes) (j + 1))
            (sym (onto_append (slice_range bytes i j) (c ∷ []) seen) ∙ ap (λ x. onto x seen) (sym more));
      }

  pub partial_runs : (kind : Kind) (i j : ℕ) (tail : Tail) → Partial e bytes kind i j tail → is_whole tail ≡ true
      → Runs e bytes kind i j
  partial_runs kind i j tail partial f =
      let whole = whole_is tail f in
      record {
        forth = partial.forth;
        within = partial.within;
        is_text = partial.lacks ∙ ap Some whole;
        goes = λ place seen. partial.goes place seen
            ∙ ap (λ t. verdict e (in_segment kind place (onto (slice_range bytes i j) seen) t) (drop j bytes) j) whole;
      }

  pub partial_stops : AsciiEnds → (kind : Kind) (i j : ℕ) (tail : Tail) → j < length bytes
      → Partial e bytes kind i j tail
      → (is_whole tail ≡ true → is_high (get_or bytes j 0) ≡ true) → next_tail e tail (get_or bytes j 0) ≡ None
      → Breaks e bytes kind i (BadText j)
  partial_stops quiet kind i j tail h partial f g = λ place seen.
      let now : List ℕ = onto (slice_range bytes i j) seen in
      let c : ℕ = get_or bytes j 0 in
      let none : step e (in_segment kind place now tail) c ≡ None =
      elim (cases_Bool (is_whole tail)) [
        | inl a ↦ ap
            (λ b. cond b (if_whole tail (after e kind place now c))
            (if_some_tail (next_tail e tail c) (λ t. Some (in_segment kind place (c ∷ now) t))))
            (quiet kind now c (f a)) ∙ ap (λ o. if_some_tail o (λ t. Some (in_segment kind place (c ∷ now) t))) g
        | inr a ↦ elim (cases_Bool (stops kind now c)) [
          | inl b ↦ ap
              (λ x. cond x (if_whole tail (after e kind place now c))
              (if_some_tail (next_tail e tail c) (λ t. Some (in_segment kind place (c ∷ now) t)))) b
              ∙ if_not_whole tail (after e kind place now c) a
          | inr b ↦ ap
              (λ x. cond x (if_whole tail (after e kind place now c))
              (if_some_tail (next_tail e tail c) (λ t. Some (in_segment kind place (c ∷ now) t)))) b
              ∙ ap (λ o. if_some_tail o (λ t. Some (in_segment kind place (c ∷ now) t))) g
        ]
      ] in
      partial.goes place seen ∙ stops_with (in_segment kind place now tail) (BadText j) j h none refl

  pub partial_ends : (kind : Kind) (i j : ℕ) (tail : Tail) → length bytes ≤ j → Partial e bytes kind i j tail
      → Breaks e bytes kind i (BadText j)
  partial_ends kind i j tail h partial = λ place seen. partial.goes place seen
      ∙ ends_bad (in_segment kind place (onto (slice_range bytes i j) seen) tail) j h refl
