-- How markup other than tags is read.
use Rattle.std.proofs.Common.{◌≡◌, ℕ, inl, inr, zero, suc, ◌+◌, ◌-◌, ◌<◌, ◌≤◌, true, false, cond, ◌&&◌, List, [], ◌∷◌, ◌++◌, length, drop, get_or, refl, sym, ◌∙◌, ap, subst, arith, Option, Some, None}
use Rattle.std.specs.Prelude.{◌==◌, nat_lt, slice_range, Err, codes}
use Rattle.std.proofs.lemmas.Bool.{and_parts, false≢true, eqb-true, ne_eqb, cases_lt}
use Rattle.std.proofs.lemmas.List.{drop_more}
use Rattle.std.proofs.lemmas.List.Edits.{between_none, between_more}
use Rattle.std.specs.List.{list_all}
use Rattle.ascii_bytes.specs.Classes.{is_white}
use Rattle.pom_grammar.specs.declared.encoding.Encoding.{Encoding}
use Rattle.pom_grammar.specs.declared.encoding.Tail.TheVariants.{Whole}
use Rattle.pom_grammar.specs.declared.tree.Tree.{Tree}
use Rattle.pom_grammar.specs.declared.tree.TextErr.TheVariants.{BadText, Doctype}
use Rattle.pom_grammar.specs.Characters.{is_name_start, begins_with, forward, onto}
use Rattle.pom_grammar.specs.Encodings.{IsText, utf8_of}
use Rattle.pom_grammar.specs.References.{expanded}
use Rattle.pom_grammar.specs.Document.{dashes, brackets, backward}
use Rattle.pom_grammar.specs.Machine.{OpenElement, OpenElements, outside, within, in_run, in_marks, between, opened, bang, after_dash, in_segment, back, with_text, has_none, step}
use Rattle.pom_grammar.specs.Verdicts.{verdict, deep_fault, doctype_fault, root_fault}
use Rattle.pom_text.specs.declared.tree.Frame.{Frame}
use Rattle.pom_text.specs.Scans.{Goes, Faults, Runs, marked_verdict, cdata_state}
use Rattle.pom_text.specs.Views.{frame_view, nest, doctype_test}
use Rattle.pom_text.proofs.Bytes.{forward-onto, onto_append}
use Rattle.pom_text.proofs.Runs.{goes_step, stops_with, ends_bad}
use Rattle.pom_text.proofs.TagFacts.{stays, nest_one, some_within}
use Rattle.pom_text.proofs.TextFacts.{text_split}

module _ (e : Encoding) (bytes : List ℕ) where
  -- after the bracket that ends a CDATA section
  pub record Inner (start end : ℕ) : Type 0 where
    pub forth : start + 3 ≤ end
    pub is_text : IsText e (slice_range bytes start (end - 3))
    pub is : forward (drop 2 (onto (slice_range bytes start (end - 1)) [])) ≡ slice_range bytes start (end - 3)

pub inner_of : (e : Encoding) (bytes : List ℕ) (start end n : ℕ) → start + n + 1 ≡ end → end ≤ length bytes
    → IsText e (slice_range bytes start (end - 1))
    → begins_with (93 ∷ (93 ∷ [])) (onto (slice_range bytes start (end - 1)) []) ≡ true → Inner e bytes start end
inner_of e bytes start end zero f h is g =
    let none : slice_range bytes start (end - 1) ≡ [] = ap (slice_range bytes start) (omega (arith, f))
    ∙ between_none bytes start in
    absurd (false≢true (sym (ap (λ x. begins_with (93 ∷ (93 ∷ [])) (onto x [])) none) ∙ g))
inner_of e bytes start end (suc zero) f h is g =
    let one : slice_range bytes start (end - 1) ≡ get_or bytes start 0 ∷ [] =
    ap (slice_range bytes start) (omega (arith, f))
    ∙ between_more bytes start start 0 (omega arith) (omega (arith, f, h))
    ∙ ap (λ x. x ++ get_or bytes start 0 ∷ []) (between_none bytes start) in
    let both = and_parts (get_or bytes start 0 == 93) false
    (ap (λ x. begins_with (93 ∷ (93 ∷ [])) (onto x [])) (sym one) ∙ g) in
    absurd (false≢true both.1)
inner_of e bytes start end (suc (suc n)) f h is g =
    let b : ℕ = get_or bytes (end - 2) 0 in
    let a : ℕ = get_or bytes (end - 3) 0 in
    let inner : List ℕ = slice_range bytes start (end - 3) in
    let last : slice_range bytes start (end - 1) ≡ slice_range bytes start (end - 2) ++ b ∷ [] =
    ap (slice_range bytes start) (omega (arith, f))
    ∙ between_more bytes start (end - 2) 0 (omega (arith, f)) (omega (arith, f, h)) in
    let second : slice_range bytes start (end - 2) ≡ inner ++ a ∷ [] = ap (slice_range bytes start) (omega (arith, f))
    ∙ between_more bytes start (end - 3) 0 (omega (arith, f)) (omega (arith, f, h)) in
    let seen : onto (slice_range bytes start (end - 1)) [] ≡ b ∷ (a ∷ onto inner []) =
    ap (λ x. onto x []) last ∙ onto_append (slice_range bytes start (end - 2)) (b ∷ []) []
    ∙ ap (λ x. b ∷ onto x []) second
    ∙ ap (λ x. b ∷ x) (onto_append inner (a ∷ []) []) in
    let both = and_parts (b == 93) (a == 93 && true) (ap (begins_with (93 ∷ (93 ∷ []))) (sym seen) ∙ g) in
    let one = and_parts (a == 93) true both.1 in
    let prefix : IsText e (slice_range bytes start (end - 2)) =
    (text_split e (slice_range bytes start (end - 2)) [] b (ap (λ x. nat_lt x 128) (eqb-true b 93 both.0))
    (subst (IsText e) last is)).0 in
    record {
      forth = omega (arith, f);
      is_text = (text_split e inner [] a (ap (λ x. nat_lt x 128) (eqb-true a 93 one.0))
          (subst (IsText e) second prefix)).0;
      is = ap (λ x. forward (drop 2 x)) seen ∙ forward-onto inner [];
    }

module _ (e : Encoding) (bytes : List ℕ) where
  pub cdata_inner : (start end : ℕ) → start < end → end ≤ length bytes → IsText e (slice_range bytes start (end - 1))
      → begins_with (backward brackets) (62 ∷ onto (slice_range bytes start (end - 1)) []) ≡ true
      → Inner e bytes start end
  cdata_inner start end h k is f = inner_of e bytes start end (end - 1 - start) (omega arith) k is f

  pub cdata_goes : (start end : ℕ) (frame : OpenElement) (outer : OpenElements) → Inner e bytes start end
      → verdict e (in_segment (in_marks brackets) (within frame outer) [] Whole) (drop start bytes) start
      ≡ marked_verdict e bytes brackets (within frame outer) start end
      → Goes e bytes (cdata_state [] frame outer) start
      (back (within (with_text frame (utf8_of e (slice_range bytes start (end - 3)))) outer)) (end - 3 + 3)
  cdata_goes start end frame outer inner f =
      let same : end ≡ end - 3 + 3 = let forth : start + 3 ≤ end = inner.forth in omega arith in
      f ∙ ap (λ x. verdict e (back (within (with_text frame (utf8_of e x)) outer)) (drop end bytes) end) inner.is
      ∙ ap (λ k. verdict e (back (within (with_text frame (utf8_of e (slice_range bytes start (end - 3)))) outer))
      (drop k bytes) k) same

  -- after `<!`
  pub bracket_goes : (frame : OpenElement) (outer : OpenElements) (i : ℕ) → i < length bytes → get_or bytes i 0 ≡ 91
      → Goes e bytes (bang (within frame outer)) i (cdata_state (codes "CDATA[") frame outer) (i + 1)
  bracket_goes frame outer i h f =
      goes_step e bytes (bang (within frame outer)) (cdata_state (codes "CDATA[") frame outer) i h
      (ap (step e (bang (within frame outer))) f)

  pub bang_goes : (place : OpenElements) (i : ℕ) → i < length bytes → get_or bytes i 0 ≡ 33
      → Goes e bytes (opened place) i (bang place) (i + 1)
  bang_goes place i h f = goes_step e bytes (opened place) (bang place) i h (ap (step e (opened place)) f)

  root_fault_is : (root : Option Tree) (text : List ℕ) (k : ℕ)
      → root_fault root text k
      ≡ cond (has_none root && begins_with (codes "DOCTYPE") text) (Doctype (k - 2)) (BadText k)
  root_fault_is None text k = refl
  root_fault_is (Some tree) text k = refl

  pub doctype_is : (place : OpenElements) (text : List ℕ) (k : ℕ)
      → doctype_fault place text k ≡ cond (doctype_test place text) (Doctype (k - 2)) (BadText k)
  doctype_is (outside root) text k = root_fault_is root text k
  doctype_is (within frame outer) text k = refl

  doctype_some : (place : OpenElements) (text : List ℕ) → doctype_test place text ≡ true
      → (rest : List ℕ) × (text ≡ 68 ∷ rest)
  doctype_some (within frame outer) text f = absurd (false≢true f)
  doctype_some (outside root) [] f = absurd (false≢true (and_parts (has_none root) false f).1)
  doctype_some (outside root) (c ∷ text) f =
      let both = and_parts (has_none root) (begins_with (codes "DOCTYPE") (c ∷ text)) f in
      let first = and_parts (c == 68) (begins_with (codes "OCTYPE") text) both.1 in
      (text, ap (λ x. x ∷ text) (eqb-true c 68 first.0))

  pub doctype_faults : (place : OpenElements) (i : ℕ) → i < length bytes → 0 < i → get_or bytes i 0 ≡ 33
      → doctype_test place (drop (i + 1) bytes) ≡ true → Faults e bytes (opened place) i (Doctype (i - 1))
  doctype_faults place i h after f g =
      let some = doctype_some place (drop (i + 1) bytes) g in
      bang_goes place i h f
      ∙ ap (λ x. verdict e (bang place) x (i + 1)) some.1
      ∙ ap Err (doctype_is place (68 ∷ some.0) (i + 1)
      ∙ ap (λ b. cond b (Doctype (i + 1 - 2)) (BadText (i + 1))) (ap (doctype_test place) (sym some.1) ∙ g)
      ∙ ap Doctype (omega arith))

  -- neither a comment nor a CDATA section
  bang_none : (place : OpenElements) (c : ℕ) → (c ≡ 45 → ⊥) → (c ≡ 91 → ⊥) → step e (bang place) c ≡ None
  bang_none place c f g = rw (ne_eqb c 45 f, ne_eqb c 91 g) refl

  pub bang_breaks : (place : OpenElements) (i : ℕ) → doctype_test place (drop i bytes) ≡ false
      → (i < length bytes → get_or bytes i 0 ≡ 45 → ⊥) → (i < length bytes → get_or bytes i 0 ≡ 91 → ⊥)
      → Faults e bytes (bang place) i (BadText i)
  bang_breaks place i f g k =
      elim (cases_lt i (length bytes)) [
        | inl here ↦
            stops_with e bytes (bang place) (BadText i) i here (bang_none place (get_or bytes i 0) (g here) (k here))
            (ap (λ x. doctype_fault place x i) (sym (drop_more bytes i 0 here)) ∙ doctype_is place (drop i bytes) i
            ∙ ap (λ b. cond b (Doctype (i - 2)) (BadText i)) f)
        | inr past ↦ ends_bad e bytes (bang place) i past refl
      ]

  pub dash_goes : (place : OpenElements) (i : ℕ) → i < length bytes → get_or bytes i 0 ≡ 45
      → Goes e bytes (bang place) i (after_dash place) (i + 1)
  dash_goes place i h f = goes_step e bytes (bang place) (after_dash place) i h (ap (step e (bang place)) f)

  pub dashes_go : (place : OpenElements) (i : ℕ) → i < length bytes → get_or bytes i 0 ≡ 45 → i + 1 < length bytes
      → get_or bytes (i + 1) 0 ≡ 45 → Goes e bytes (bang place) i (in_segment (in_marks dashes) place [] Whole) (i + 2)
  dashes_go place i h f k g =
      let there : i + 1 + 1 ≡ i + 2 = omega arith in
      dash_goes place i h f
      ∙ goes_step e bytes (after_dash place) (in_segment (in_marks dashes) place [] Whole) (i + 1) k
      (ap (step e (after_dash place)) g)
      ∙ ap (λ n. verdict e (in_segment (in_marks dashes) place [] Whole) (drop n bytes) n) there

  -- no markup
  opened_none : (place : OpenElements) (c : ℕ) → is_name_start c ≡ false → (c ≡ 33 → ⊥) → (c ≡ 63 → ⊥) → (c ≡ 47 → ⊥)
      → step e (opened place) c ≡ None
  opened_none place c f g h k = rw (f, ne_eqb c 33 g, ne_eqb c 63 h, ne_eqb c 47 k) refl

  opened_fault : (place : OpenElements) (c k : ℕ) → is_name_start c ≡ false → deep_fault e place c k ≡ BadText k
  opened_fault (outside root) c k f = refl
  opened_fault (within frame outer) c k f = rw f refl

  pub opened_breaks : (place : OpenElements) (i : ℕ) → (i < length bytes → is_name_start (get_or bytes i 0) ≡ false)
      → (i < length bytes → get_or bytes i 0 ≡ 33 → ⊥) → (i < length bytes → get_or bytes i 0 ≡ 63 → ⊥)
      → (i < length bytes → get_or bytes i 0 ≡ 47 → ⊥) → Faults e bytes (opened place) i (BadText i)
  opened_breaks place i f g h k =
      elim (cases_lt i (length bytes)) [
        | inl here ↦ stops_with e bytes (opened place) (BadText i) i here
            (opened_none place (get_or bytes i 0) (f here) (g here) (h here) (k here))
            (opened_fault place (get_or bytes i 0) i (f here))
        | inr past ↦ ends_bad e bytes (opened place) i past refl
      ]

  -- at the top
  top_space : (root : Option Tree) (c : ℕ) → is_white c ≡ true → step e (between root) c ≡ Some (between root)
  top_space root c f = rw f refl

  pub top_stays : (root : Option Tree) (i j : ℕ) → i ≤ j → j ≤ length bytes
      → list_all is_white (slice_range bytes i j) ≡ true → Goes e bytes (between root) i (between root) j
  top_stays root i j h k f = stays e bytes (between root) (top_space root) i j h k f

  pub top_goes : (root : Option Tree) (i j : ℕ) → i ≤ j → j < length bytes
      → list_all is_white (slice_range bytes i j) ≡ true → get_or bytes j 0 ≡ 60
      → Goes e bytes (between root) i (opened (outside root)) (j + 1)
  top_goes root i j h k f g = top_stays root i j h (omega (arith, k)) f
      ∙ goes_step e bytes (between root) (opened (outside root)) j k (ap (step e (between root)) g)

  pub top_breaks : (root : Option Tree) (i j : ℕ) → i ≤ j → j < length bytes
      → list_all is_white (slice_range bytes i j) ≡ true → is_white (get_or bytes j 0) ≡ false
      → (get_or bytes j 0 ≡ 60 → ⊥) → Faults e bytes (between root) i (BadText j)
  top_breaks root i j h k f g not_bracket = top_stays root i j h (omega (arith, k)) f
      ∙ stops_with e bytes (between root) (BadText j) j k (rw (g, ne_eqb (get_or bytes j 0) 60 not_bracket) refl) refl

  -- characters in an element
  pub run_goes : (frame : OpenElement) (outer : OpenElements) (i j : ℕ) → Runs e bytes in_run i j → j < length bytes
      → get_or bytes j 0 ≡ 60
      → Goes e bytes (back (within frame outer)) i
      (opened (within (with_text frame (expanded e (slice_range bytes i j))) outer)) (j + 1)
  run_goes frame outer i j runs h f =
      let seen : List ℕ = onto (slice_range bytes i j) [] in
      runs.goes (within frame outer) []
      ∙ goes_step e bytes (in_segment in_run (within frame outer) seen Whole)
      (opened (within (with_text frame (expanded e (forward seen))) outer)) j h
      (ap (step e (in_segment in_run (within frame outer) seen Whole)) f)
      ∙ ap (λ x. verdict e (opened (within (with_text frame (expanded e x)) outer)) (drop (j + 1) bytes) (j + 1))
      (forward-onto (slice_range bytes i j) [])

-- a text in the innermost element
pub text_nests : (root : Option Tree) (frames then : List Frame) (frame : Frame) (text : List ℕ) (made : OpenElement)
    → then ≡ frames ++ (record { raw = frame.raw; label = frame.label; text = text; children = frame.children }) ∷ []
    → frame_view (record { raw = frame.raw; label = frame.label; text = text; children = frame.children }) ≡ made
    → nest (outside root) then ≡ within made (nest (outside root) frames)
text_nests root frames then frame text made f g =
    ap (nest (outside root)) f
    ∙ nest_one (outside root) frames
    (record { raw = frame.raw; label = frame.label; text = text; children = frame.children })
    ∙ ap (λ x. within x (nest (outside root) frames)) g

pub doctype_within : (root : Option Tree) (frames : List Frame) (text : List ℕ) → (frames ≡ [] → ⊥)
    → doctype_test (nest (outside root) frames) text ≡ false
doctype_within root frames text f = let is = some_within root frames f in ap (λ p. doctype_test p text) is.2

pub doctype_top : (root then : Option Tree) (frames : List Frame) (text : List ℕ) → frames ≡ [] → root ≡ then
    → doctype_test (nest (outside root) frames) text ≡ (has_none then && begins_with (codes "DOCTYPE") text)
doctype_top root then frames text f g = ap (λ fs. doctype_test (nest (outside root) fs) text) f
    ∙ ap (λ r. has_none r && begins_with (codes "DOCTYPE") text) g
