-- How a start tag and an end tag are read.
use Rattle.std.proofs.Common.{◌≡◌, ℕ, inl, inr, ◌⊎◌, zero, suc, ◌+◌, ◌-◌, ◌<◌, ◌≤◌, Bool, true, false, cond, not, ◌&&◌, ◌||◌, List, [], ◌∷◌, ◌++◌, length, drop, get_or, refl, sym, ◌∙◌, ap, arith, Option, Some, None}
use Rattle.std.specs.Prelude.{◌==◌, slice_range, Err}
use Rattle.std.proofs.lemmas.Bool.{and_right, and_parts, false≢true, eqb-true, eq-eqb, ne_eqb, cases_Bool, cases_lt, not-true}
use Rattle.std.proofs.lemmas.List.{drop_more, drop_all}
use Rattle.std.proofs.lemmas.List.Edits.{between_none, between_more}
use Rattle.std.specs.List.{list_all}
use Rattle.ascii_bytes.specs.Classes.{is_white, between}
use Rattle.pom_grammar.specs.declared.encoding.Encoding.{Encoding}
use Rattle.pom_grammar.specs.declared.encoding.Tail.TheVariants.{Whole}
use Rattle.pom_grammar.specs.declared.tree.Tree.{Tree}
use Rattle.pom_grammar.specs.declared.tree.TextErr.{TextErr}
use Rattle.pom_grammar.specs.declared.tree.TextErr.TheVariants.{BadText, TooDeep}
use Rattle.pom_grammar.specs.Characters.{is_name_start, is_name_byte, forward, onto, local}
use Rattle.pom_grammar.specs.Encodings.{next_tail, utf8_of}
use Rattle.pom_grammar.specs.Document.{Quote, single, double, quote_byte}
use Rattle.pom_grammar.specs.Machine.{OpenElement, OpenElements, outside, within, depth, in_name, in_label, in_quotes, spaced, equals, value, closed, after_slash, State, opened, in_segment, in_tag, in_end, after_name, back, fresh, with_child, tree_of, may_open, step, outcome, tag_step, if_some_tail, if_whole, after}
use Rattle.pom_grammar.specs.Verdicts.{verdict, ended, stepped, deep_fault}
use Rattle.pom_grammar.specs.Heads.{is_alive}
use Rattle.pom_text.specs.declared.tree.Frame.{Frame}
use Rattle.pom_text.specs.declared.tags.TagEnd.{TagEnd}
use Rattle.pom_text.specs.Scans.{Goes, Faults, Runs}
use Rattle.pom_text.specs.Views.{frame_view, nest, tag_state, AsTag}
use Rattle.pom_text.proofs.Bytes.{forward-onto}
use Rattle.pom_text.proofs.Runs.{goes_step, stops_with, ends_bad, slice_join}

every_prefix : (p : ℕ → Bool) (xs ys : List ℕ) → list_all p (xs ++ ys) ≡ true
    → (list_all p xs ≡ true) × (list_all p ys ≡ true)
every_prefix p [] ys f = (refl, f)
every_prefix p (x ∷ xs) ys f =
    let both = and_parts (p x) (list_all p (xs ++ ys)) f in
    let on = every_prefix p xs ys both.1 in
    (rw (both.0, on.0) refl, on.1)

-- no white space is such a byte
abbrev NoSpace : (ℕ → Bool) → Type 0
NoSpace p = (c : ℕ) → is_white c ≡ true → p c ≡ false

module _ (e : Encoding) (bytes : List ℕ) where
  -- a state that stays over white space
  stay_more : (s : State) → ((c : ℕ) → is_white c ≡ true → step e s c ≡ Some s) → (i n : ℕ) → i + n ≤ length bytes
      → list_all is_white (slice_range bytes i (i + n)) ≡ true → Goes e bytes s i s (i + n)
  stay_more s f i zero h g = let same : i + 0 ≡ i = omega arith in ap (λ k. verdict e s (drop k bytes) k) (sym same)
  stay_more s f i (suc n) h g =
      let there : i + suc n ≡ (i + n) + 1 = omega arith in
      let more : slice_range bytes i (i + suc n) ≡ slice_range bytes i (i + n) ++ get_or bytes (i + n) 0 ∷ [] =
      ap (slice_range bytes i) there ∙ between_more bytes i (i + n) 0 (omega arith) (omega (arith, h)) in
      let both = every_prefix is_white (slice_range bytes i (i + n)) (get_or bytes (i + n) 0 ∷ [])
      (ap (list_all is_white) (sym more) ∙ g) in
      let last = and_parts (is_white (get_or bytes (i + n) 0)) true both.1 in
      stay_more s f i n (omega (arith, h)) both.0
      ∙ goes_step e bytes s s (i + n) (omega (arith, h)) (f (get_or bytes (i + n) 0) last.0)
      ∙ ap (λ k. verdict e s (drop k bytes) k) (sym there)

  pub stays : (s : State) → ((c : ℕ) → is_white c ≡ true → step e s c ≡ Some s) → (i j : ℕ) → i ≤ j → j ≤ length bytes
      → list_all is_white (slice_range bytes i j) ≡ true → Goes e bytes s i s j
  stays s f i j h k g =
      let there : i + (j - i) ≡ j = omega arith in
      let go = stay_more s f i (j - i) (omega arith) (ap (λ n. list_all is_white (slice_range bytes i n)) there ∙ g) in
      go ∙ ap (λ n. verdict e s (drop n bytes) n) there

  -- a state that leaves over white space
  pub leaves : (s t : State) → ((c : ℕ) → is_white c ≡ true → step e s c ≡ Some t)
      → ((c : ℕ) → is_white c ≡ true → step e t c ≡ Some t) → (i j : ℕ) → i < j → j ≤ length bytes
      → list_all is_white (slice_range bytes i j) ≡ true → Goes e bytes s i t j
  leaves s t f g i j h k spaces =
      let one : slice_range bytes i (i + 1) ≡ get_or bytes i 0 ∷ [] =
      between_more bytes i i 0 (omega arith) (omega arith)
      ∙ ap (λ x. x ++ get_or bytes i 0 ∷ []) (between_none bytes i) in
      let split = slice_join e bytes i (i + 1) j (omega arith) (omega arith)
      ∙ ap (λ x. x ++ slice_range bytes (i + 1) j) one in
      let both = every_prefix is_white (get_or bytes i 0 ∷ []) (slice_range bytes (i + 1) j)
      (ap (list_all is_white) (sym split) ∙ spaces) in
      let first = and_parts (is_white (get_or bytes i 0)) true both.0 in
      goes_step e bytes s t i (omega arith) (f (get_or bytes i 0) first.0) ∙ stays t g (i + 1) j (omega arith) k both.1

  label_space : NoSpace is_name_byte → (name seen : List ℕ) (place : OpenElements) (c : ℕ) → is_white c ≡ true
      → step e (in_segment (in_label name) place seen Whole) c ≡ Some (in_tag equals name place)
  label_space apart name seen place c f = rw (apart c f, f) refl

  equals_space : (name : List ℕ) (place : OpenElements) (c : ℕ) → is_white c ≡ true
      → step e (in_tag equals name place) c ≡ Some (in_tag equals name place)
  equals_space name place c f = rw f refl

  value_space : (name : List ℕ) (place : OpenElements) (c : ℕ) → is_white c ≡ true
      → step e (in_tag value name place) c ≡ Some (in_tag value name place)
  value_space name place c f = rw f refl

  spaced_space : NoSpace is_name_start → (name : List ℕ) (place : OpenElements) (c : ℕ) → is_white c ≡ true
      → step e (in_tag spaced name place) c ≡ Some (in_tag spaced name place)
  spaced_space apart name place c f = rw (apart c f, f) refl

  closed_space : (name : List ℕ) (place : OpenElements) (c : ℕ) → is_white c ≡ true
      → step e (in_tag closed name place) c ≡ Some (in_tag spaced name place)
  closed_space name place c f = rw f refl

  -- after an attribute's name
  pub equals_goes : NoSpace is_name_byte → (name seen : List ℕ) (place : OpenElements) (i j k : ℕ) → i ≤ j
      → j < length bytes
      → list_all is_white (slice_range bytes i j) ≡ true → get_or bytes j 0 ≡ 61 → j + 1 ≤ k → k ≤ length bytes
      → list_all is_white (slice_range bytes (j + 1) k) ≡ true
      → Goes e bytes (in_segment (in_label name) place seen Whole) i (in_tag value name place) k
  equals_goes apart name seen place i j k h inside f is l past g =
      elim (cases_lt i j) [
        | inl some ↦
            leaves (in_segment (in_label name) place seen Whole) (in_tag equals name place)
            (label_space apart name seen place) (equals_space name place) i j some (omega (arith, inside)) f
            ∙ goes_step e bytes (in_tag equals name place) (in_tag value name place) j inside
            (ap (step e (in_tag equals name place)) is)
            ∙ stays (in_tag value name place) (value_space name place) (j + 1) k l past g
        | inr none_left ↦
            let same : i ≡ j = omega (arith, h, none_left) in
            ap (λ n. verdict e (in_segment (in_label name) place seen Whole) (drop n bytes) n) same
            ∙ goes_step e bytes (in_segment (in_label name) place seen Whole) (in_tag value name place) j inside
            (ap (step e (in_segment (in_label name) place seen Whole)) is)
            ∙ stays (in_tag value name place) (value_space name place) (j + 1) k l past g
      ]

  equals_none : (name : List ℕ) (place : OpenElements) (c : ℕ) → is_white c ≡ false → (c ≡ 61 → ⊥)
      → step e (in_tag equals name place) c ≡ None
  equals_none name place c f g = rw (f, ne_eqb c 61 g) refl

  label_none : (name seen : List ℕ) (place : OpenElements) (c : ℕ) → is_name_byte c ≡ false → is_white c ≡ false
      → (c ≡ 61 → ⊥) → step e (in_segment (in_label name) place seen Whole) c ≡ None
  label_none name seen place c h f g = rw (h, f, ne_eqb c 61 g) refl

  pub equals_breaks : NoSpace is_name_byte → (name seen : List ℕ) (place : OpenElements) (i j : ℕ) → i ≤ j
      → j ≤ length bytes
      → list_all is_white (slice_range bytes i j) ≡ true → is_name_byte (get_or bytes i 0) ≡ false
      → (j < length bytes → is_white (get_or bytes j 0) ≡ false) → (j < length bytes → get_or bytes j 0 ≡ 61 → ⊥)
      → Faults e bytes (in_segment (in_label name) place seen Whole) i (BadText j)
  equals_breaks apart name seen place i j h inside f stop no_space not_equals =
      elim (cases_lt i j) [
        | inl some ↦
            leaves (in_segment (in_label name) place seen Whole) (in_tag equals name place)
            (label_space apart name seen place) (equals_space name place) i j some inside f
            ∙ elim (cases_lt j (length bytes)) [
              | inl here ↦ stops_with e bytes (in_tag equals name place) (BadText j) j here
                  (equals_none name place (get_or bytes j 0) (no_space here) (not_equals here)) refl
              | inr past ↦ ends_bad e bytes (in_tag equals name place) j past refl
            ]
        | inr none_left ↦
            let same : i ≡ j = omega (arith, h, none_left) in
            ap (λ n. verdict e (in_segment (in_label name) place seen Whole) (drop n bytes) n) same
            ∙ elim (cases_lt j (length bytes)) [
              | inl here ↦ stops_with e bytes (in_segment (in_label name) place seen Whole) (BadText j) j here
                  (label_none name seen place (get_or bytes j 0)
                  (ap (λ n. is_name_byte (get_or bytes n 0)) (sym same) ∙ stop) (no_space here) (not_equals here)) refl
              | inr past ↦ ends_bad e bytes (in_segment (in_label name) place seen Whole) j past refl
            ]
      ]

  -- a quoted value
  pub quote_of : (c : ℕ) → (c ≡ 34) ⊎ (c ≡ 39) → (q : Quote) × (quote_byte q ≡ c)
  quote_of c (inl f) = (double, sym f)
  quote_of c (inr f) = (single, sym f)

  open_quote : (name : List ℕ) (place : OpenElements) (q : Quote)
      → step e (in_tag value name place) (quote_byte q) ≡ Some (in_segment (in_quotes q name) place [] Whole)
  open_quote name place single = refl
  open_quote name place double = refl

  close_quote : (name seen : List ℕ) (place : OpenElements) (q : Quote)
      → step e (in_segment (in_quotes q name) place seen Whole) (quote_byte q) ≡ Some (in_tag closed name place)
  close_quote name seen place single = refl
  close_quote name seen place double = refl

  pub value_goes : (name : List ℕ) (place : OpenElements) (q : Quote) (i j : ℕ) → i < length bytes → j < length bytes
      → get_or bytes i 0 ≡ quote_byte q → get_or bytes j 0 ≡ quote_byte q → Runs e bytes (in_quotes q name) (i + 1) j
      → Goes e bytes (in_tag value name place) i (in_tag closed name place) (j + 1)
  value_goes name place q i j h k f g runs =
      goes_step e bytes (in_tag value name place) (in_segment (in_quotes q name) place [] Whole) i h
      (ap (step e (in_tag value name place)) f ∙ open_quote name place q)
      ∙ runs.goes place []
      ∙ goes_step e bytes (in_segment (in_quotes q name) place (onto (slice_range bytes (i + 1) j) []) Whole)
      (in_tag closed name place) j k
      (ap (step e (in_segment (in_quotes q name) place (onto (slice_range bytes (i + 1) j) []) Whole)) g
      ∙ close_quote name (onto (slice_range bytes (i + 1) j) []) place q)

  -- an attribute's name begins after white space
  pub label_begins : (name : List ℕ) (place : OpenElements) (i : ℕ) → i < length bytes
      → is_name_start (get_or bytes i 0) ≡ true
      → Goes e bytes (in_tag spaced name place) i (in_segment (in_label name) place [] Whole) i
  label_begins name place i h f =
      let c : ℕ = get_or bytes i 0 in
      let on : Option State =
      if_some_tail (next_tail e Whole c) (λ next. Some (in_segment (in_label name) place (c ∷ []) next)) in
      let one : step e (in_tag spaced name place) c ≡ on = ap (λ b. cond b on (tag_step e name place c)) f in
      let two : step e (in_segment (in_label name) place [] Whole) c ≡ on =
      ap (λ b. cond (not (b || (between 48 57 c || (c == 45 || c == 46))))
      (if_whole Whole (after e (in_label name) place [] c)) on) f in
      ap (λ x. verdict e (in_tag spaced name place) x i) (drop_more bytes i 0 h)
      ∙ ap (λ o. stepped o (BadText i) (λ s. verdict e s (drop (i + 1) bytes) (i + 1))) (one ∙ sym two)
      ∙ ap (λ x. verdict e (in_segment (in_label name) place [] Whole) x i) (sym (drop_more bytes i 0 h))

  pub as_closed : (name : List ℕ) (place : OpenElements) (i : ℕ) → AsTag e bytes i (in_tag closed name place) name place
  as_closed name place i = record { steps = λ _. refl; faults = λ c text k. refl; open_end = refl }

  pub as_spaced : (name : List ℕ) (place : OpenElements) (i : ℕ)
      → (i < length bytes → is_name_start (get_or bytes i 0) ≡ false)
      → AsTag e bytes i (in_tag spaced name place) name place
  as_spaced name place i f = record { steps = λ h. rw (f h) refl; faults = λ c text k. refl; open_end = refl }

  pub as_name : (seen : List ℕ) (place : OpenElements) (i : ℕ) → is_name_byte (get_or bytes i 0) ≡ false
      → Goes e bytes (in_segment in_name place seen Whole) i (in_tag closed (forward seen) place) i
  as_name seen place i f =
      elim (cases_lt i (length bytes)) [
        | inl here ↦
            ap (λ x. verdict e (in_segment in_name place seen Whole) x i) (drop_more bytes i 0 here)
            ∙ ap (λ b. stepped
            (cond (not b) (tag_step e (forward seen) place (get_or bytes i 0))
            (if_some_tail (next_tail e Whole (get_or bytes i 0))
            (λ next. Some (in_segment in_name place (get_or bytes i 0 ∷ seen) next)))) (BadText i)
            (λ s. verdict e s (drop (i + 1) bytes) (i + 1))) f
            ∙ ap (λ x. verdict e (in_tag closed (forward seen) place) x i) (sym (drop_more bytes i 0 here))
        | inr past ↦ ap (λ x. verdict e (in_segment in_name place seen Whole) x i) (drop_all i bytes past)
            ∙ ap (λ x. verdict e (in_tag closed (forward seen) place) x i) (sym (drop_all i bytes past))
      ]

  -- the end of a start tag
  to_slash : (s : State) (name : List ℕ) (place : OpenElements) (i : ℕ) → AsTag e bytes i s name place
      → i < length bytes → get_or bytes i 0 ≡ 47 → Goes e bytes s i (in_tag after_slash name place) (i + 1)
  to_slash s name place i like h f =
      goes_step e bytes s (in_tag after_slash name place) i h (like.steps h ∙ ap (tag_step e name place) f)

  pub slash_breaks : (s : State) (name : List ℕ) (place : OpenElements) (i : ℕ) → AsTag e bytes i s name place
      → i < length bytes → get_or bytes i 0 ≡ 47 → (i + 1 < length bytes → get_or bytes (i + 1) 0 ≡ 62 → ⊥)
      → Faults e bytes s i (BadText (i + 1))
  slash_breaks s name place i like h f g =
      to_slash s name place i like h f
      ∙ elim (cases_lt (i + 1) (length bytes)) [
        | inl here ↦ stops_with e bytes (in_tag after_slash name place) (BadText (i + 1)) (i + 1) here
            (rw (ne_eqb (get_or bytes (i + 1) 0) 62 (g here)) refl) refl
        | inr past ↦ ends_bad e bytes (in_tag after_slash name place) (i + 1) past refl
      ]

  pub tag_breaks : (s : State) (name : List ℕ) (place : OpenElements) (i : ℕ) → AsTag e bytes i s name place
      → (i < length bytes → is_white (get_or bytes i 0) ≡ false) → (i < length bytes → get_or bytes i 0 ≡ 62 → ⊥)
      → (i < length bytes → get_or bytes i 0 ≡ 47 → ⊥) → Faults e bytes s i (BadText i)
  tag_breaks s name place i like f g k =
      elim (cases_lt i (length bytes)) [
        | inl here ↦ stops_with e bytes s (BadText i) i here
            (like.steps here
            ∙ (rw (f here, ne_eqb (get_or bytes i 0) 47 (k here), ne_eqb (get_or bytes i 0) 62 (g here)) refl))
            (like.faults (get_or bytes i 0) (drop (i + 1) bytes) i)
        | inr past ↦ ends_bad e bytes s i past like.open_end
      ]

  -- white space after a value, before an attribute or the end
  pub to_spaced : NoSpace is_name_start → (name : List ℕ) (place : OpenElements) (i j : ℕ) → i < j → j ≤ length bytes
      → list_all is_white (slice_range bytes i j) ≡ true
      → Goes e bytes (in_tag closed name place) i (in_tag spaced name place) j
  to_spaced apart name place i j h k f =
      leaves (in_tag closed name place) (in_tag spaced name place) (closed_space name place)
      (spaced_space apart name place) i j h k f

-- the stack of open elements
pub nest_one : (place : OpenElements) (frames : List Frame) (frame : Frame)
    → nest place (frames ++ frame ∷ []) ≡ within (frame_view frame) (nest place frames)
nest_one place [] frame = refl
nest_one place (f ∷ frames) frame = nest_one (within (frame_view f) place) frames frame

eq_next : (a : ℕ) → (a == 63) ≡ (suc a + 0 == 64)
eq_next a =
    elim (cases_Bool (a == 63)) [
      | inl same ↦ let is = eqb-true a 63 same in same ∙ sym (eq-eqb (suc a + 0) 64 (omega (arith, is)))
      | inr other ↦ other ∙ sym (ne_eqb (suc a + 0) 64 (λ is. false≢true (sym other ∙ eq-eqb a 63 (omega (arith, is)))))
    ]

-- so many elements are open
pub open_room : (frame : OpenElement) (outer : OpenElements) (frames : List Frame)
    → may_open (nest (within frame outer) frames) ≡ not (suc (depth outer) + length frames == 64)
open_room frame outer [] = ap not (eq_next (depth outer))
open_room frame outer (f ∷ frames) = open_room (frame_view f) (within frame outer) frames
    ∙ ap (λ n. not (n == 64)) (omega arith)

pub open_room_of : (root : Option Tree) (frames : List Frame) → (frames ≡ [] → ⊥)
    → may_open (nest (outside root) frames) ≡ not (length frames == 64)
open_room_of root [] f = absurd (f refl)
open_room_of root (frame ∷ frames) f = open_room (frame_view frame) (outside root) frames
    ∙ ap (λ n. not (n == 64)) (omega arith)

-- a child of the innermost element
pub child_nests : (root : Option Tree) (frames rest then : List Frame) (parent : Frame) (children : List Tree)
    (tree : Tree)
    → frames ≡ rest ++ parent ∷ [] → children ≡ parent.children ++ tree ∷ []
    → then ≡ rest ++ (record { raw = parent.raw; label = parent.label; text = parent.text; children = children }) ∷ []
    → nest (outside root) then ≡ with_child (nest (outside root) frames) tree
child_nests root frames rest then parent children tree f g h =
    ap (nest (outside root)) h
    ∙ nest_one (outside root) rest
    (record { raw = parent.raw; label = parent.label; text = parent.text; children = children })
    ∙ ap (λ cs. within (record { name = parent.raw; label = parent.label; text = parent.text; children = cs })
    (nest (outside root) rest)) g
    ∙ ap (λ p. with_child p tree) (sym (ap (nest (outside root)) f ∙ nest_one (outside root) rest parent))

module _ (e : Encoding) (bytes : List ℕ) where
  -- a name begins where no element may open
  pub not_open : (place : OpenElements) (i : ℕ) → i < length bytes → is_name_start (get_or bytes i 0) ≡ true
      → may_open place ≡ false → step e (opened place) (get_or bytes i 0) ≡ None
  not_open place i h f g = rw (f, g) refl

  is_deepest : (frame : OpenElement) (outer : OpenElements) → may_open (within frame outer) ≡ false
      → (depth outer == 63) ≡ true
  is_deepest frame outer f =
      elim (cases_Bool (depth outer == 63)) [ inl a ↦ a | inr a ↦ absurd (false≢true (sym f ∙ ap not a)) ]

  pub too_deep : (frame : OpenElement) (outer : OpenElements) (i : ℕ) → i < length bytes
      → is_name_start (get_or bytes i 0) ≡ true → may_open (within frame outer) ≡ false
      → is_alive (next_tail e Whole (get_or bytes i 0)) ≡ true
      → Faults e bytes (opened (within frame outer)) i (TooDeep (i - 1))
  too_deep frame outer i h f g k =
      stops_with e bytes (opened (within frame outer)) (TooDeep (i - 1)) i h (not_open (within frame outer) i h f g)
      (rw (f, k, is_deepest frame outer g) refl)

  -- a name begins where an element may open
  bad_start : (place : OpenElements) (c : ℕ) (k : ℕ) → may_open place ≡ true → deep_fault e place c k ≡ BadText k
  bad_start (outside root) c k f = refl
  bad_start (within frame outer) c k f =
      let shallow : (depth outer == 63) ≡ false = not-true (depth outer == 63) f in
      ap (λ b. cond b (TooDeep (k - 1)) (BadText k))
      (and_right (is_name_start c) (is_alive (next_tail e Whole c) && depth outer == 63)
      (and_right (is_alive (next_tail e Whole c)) (depth outer == 63) shallow))

  pub name_begins : (place : OpenElements) (i : ℕ) → i < length bytes → is_name_start (get_or bytes i 0) ≡ true
      → may_open place ≡ true → Goes e bytes (opened place) i (in_segment in_name place [] Whole) i
  name_begins place i h f g =
      let c : ℕ = get_or bytes i 0 in
      let on : Option State =
      if_some_tail (next_tail e Whole c) (λ next. Some (in_segment in_name place (c ∷ []) next)) in
      let one : step e (opened place) c ≡ on = rw (f, g) refl in
      let two : step e (in_segment in_name place [] Whole) c ≡ on =
      ap (λ b. cond (not (b || (between 48 57 c || (c == 45 || c == 46))))
      (if_whole Whole (after e in_name place [] c)) on) f in
      ap (λ x. verdict e (opened place) x i) (drop_more bytes i 0 h)
      ∙ ap (λ fault. stepped (step e (opened place) c) fault (λ s. verdict e s (drop (i + 1) bytes) (i + 1)))
      (bad_start place c i g)
      ∙ ap (λ o. stepped o (BadText i) (λ s. verdict e s (drop (i + 1) bytes) (i + 1))) (one ∙ sym two)
      ∙ ap (λ x. verdict e (in_segment in_name place [] Whole) x i) (sym (drop_more bytes i 0 h))

  -- a whole start tag, from its name to what ends it
  pub start_goes : (place : OpenElements) (i j k : ℕ) (to : List ℕ → State) → i < length bytes
      → is_name_start (get_or bytes i 0) ≡ true → may_open place ≡ true → Runs e bytes in_name i j
      → is_name_byte (get_or bytes j 0) ≡ false
      → ((name : List ℕ) → Goes e bytes (in_tag closed name place) j (to name) k)
      → Goes e bytes (opened place) i (to (slice_range bytes i j)) k
  start_goes place i j k to h f g runs stop goes =
      name_begins place i h f g
      ∙ runs.goes place []
      ∙ as_name e bytes (onto (slice_range bytes i j) []) place j stop
      ∙ ap (λ n. verdict e (in_tag closed n place) (drop j bytes) j) (forward-onto (slice_range bytes i j) [])
      ∙ goes (slice_range bytes i j)

  pub start_breaks : (place : OpenElements) (i j : ℕ) (fault : TextErr) → i < length bytes
      → is_name_start (get_or bytes i 0) ≡ true → may_open place ≡ true → Runs e bytes in_name i j
      → is_name_byte (get_or bytes j 0) ≡ false
      → ((name : List ℕ) → Faults e bytes (in_tag closed name place) j fault) → Faults e bytes (opened place) i fault
  start_breaks place i j fault h f g runs stop breaks =
      name_begins place i h f g ∙ runs.goes place [] ∙ as_name e bytes (onto (slice_range bytes i j) []) place j stop
      ∙ breaks (forward (onto (slice_range bytes i j) []))

  -- an end tag
  pub slash_goes : (frame : OpenElement) (outer : OpenElements) (i : ℕ) → i < length bytes → get_or bytes i 0 ≡ 47
      → Goes e bytes (opened (within frame outer)) i (in_end [] frame.name frame outer) (i + 1)
  slash_goes frame outer i h f =
      goes_step e bytes (opened (within frame outer)) (in_end [] frame.name frame outer) i h
      (ap (step e (opened (within frame outer))) f)

  end_space : (done : List ℕ) (frame : OpenElement) (outer : OpenElements) (c : ℕ) → is_white c ≡ true
      → step e (in_end done [] frame outer) c ≡ Some (after_name frame outer)
  end_space done frame outer c f = rw f refl

  after_space : (frame : OpenElement) (outer : OpenElements) (c : ℕ) → is_white c ≡ true
      → step e (after_name frame outer) c ≡ Some (after_name frame outer)
  after_space frame outer c f = rw f refl

  pub end_goes : (done : List ℕ) (frame : OpenElement) (outer : OpenElements) (i j : ℕ) → i ≤ j → j < length bytes
      → list_all is_white (slice_range bytes i j) ≡ true → get_or bytes j 0 ≡ 62
      → Goes e bytes (in_end done [] frame outer) i (back (with_child outer (tree_of frame))) (j + 1)
  end_goes done frame outer i j h inside f is =
      elim (cases_lt i j) [
        | inl some ↦
            leaves e bytes (in_end done [] frame outer) (after_name frame outer) (end_space done frame outer)
            (after_space frame outer) i j some (omega (arith, inside)) f
            ∙ goes_step e bytes (after_name frame outer) (back (with_child outer (tree_of frame))) j inside
            (ap (step e (after_name frame outer)) is)
        | inr none_left ↦
            let same : i ≡ j = omega (arith, h, none_left) in
            ap (λ n. verdict e (in_end done [] frame outer) (drop n bytes) n) same
            ∙ goes_step e bytes (in_end done [] frame outer) (back (with_child outer (tree_of frame))) j inside
            (ap (step e (in_end done [] frame outer)) is)
      ]

  pub end_breaks : (done : List ℕ) (frame : OpenElement) (outer : OpenElements) (i j : ℕ) → i ≤ j → j ≤ length bytes
      → list_all is_white (slice_range bytes i j) ≡ true → (j < length bytes → is_white (get_or bytes j 0) ≡ false)
      → (j < length bytes → get_or bytes j 0 ≡ 62 → ⊥) → Faults e bytes (in_end done [] frame outer) i (BadText j)
  end_breaks done frame outer i j h inside f no_space no_end =
      elim (cases_lt i j) [
        | inl some ↦
            leaves e bytes (in_end done [] frame outer) (after_name frame outer) (end_space done frame outer)
            (after_space frame outer) i j some inside f
            ∙ elim (cases_lt j (length bytes)) [
              | inl here ↦ stops_with e bytes (after_name frame outer) (BadText j) j here
                  (rw (no_space here, ne_eqb (get_or bytes j 0) 62 (no_end here)) refl) refl
              | inr past ↦ ends_bad e bytes (after_name frame outer) j past refl
            ]
        | inr none_left ↦
            let same : i ≡ j = omega (arith, h, none_left) in
            ap (λ n. verdict e (in_end done [] frame outer) (drop n bytes) n) same
            ∙ elim (cases_lt j (length bytes)) [
              | inl here ↦ stops_with e bytes (in_end done [] frame outer) (BadText j) j here
                  (rw (no_space here, ne_eqb (get_or bytes j 0) 62 (no_end here)) refl) refl
              | inr past ↦ ends_bad e bytes (in_end done [] frame outer) j past refl
            ]
      ]

-- where elements are open
pub some_within : (root : Option Tree) (frames : List Frame) → (frames ≡ [] → ⊥)
    → (frame : OpenElement) × (outer : OpenElements) × (nest (outside root) frames ≡ within frame outer)
some_within root [] f = absurd (f refl)
some_within root (frame ∷ frames) f = go frames (frame_view frame) (outside root)
  where
    go : (rest : List Frame) (inner : OpenElement) (place : OpenElements)
        → (g : OpenElement) × (o : OpenElements) × (nest (within inner place) rest ≡ within g o)
    go [] inner place = (inner, place, refl)
    go (x ∷ rest) inner place = go rest (frame_view x) (within inner place)

pub room_faults : (e : Encoding) (bytes : List ℕ) (root : Option Tree) (frames : List Frame) (i : ℕ) → (frames ≡ [] → ⊥)
    → i < length bytes → is_name_start (get_or bytes i 0) ≡ true → may_open (nest (outside root) frames) ≡ false
    → is_alive (next_tail e Whole (get_or bytes i 0)) ≡ true
    → Faults e bytes (opened (nest (outside root) frames)) i (TooDeep (i - 1))
room_faults e bytes root frames i f h g k alive =
    let is = some_within root frames f in
    ap (λ p. verdict e (opened p) (drop i bytes) i) is.2
    ∙ too_deep e bytes is.0 is.1 i h g (ap may_open (sym is.2) ∙ k) alive

pub fresh_is : (e : Encoding) (name raw label text : List ℕ) (children : List Tree) → raw ≡ name
    → label ≡ utf8_of e (local name) → text ≡ [] → children ≡ []
    → frame_view (record { raw = raw; label = label; text = text; children = children }) ≡ fresh e name
fresh_is e name raw label text children f g h k =
    ap (λ x. frame_view (record { raw = x; label = label; text = text; children = children })) f
    ∙ ap (λ x. frame_view (record { raw = name; label = x; text = text; children = children })) g
    ∙ ap (λ x. frame_view (record { raw = name; label = utf8_of e (local name); text = x; children = children })) h
    ∙ ap (λ x. frame_view (record { raw = name; label = utf8_of e (local name); text = []; children = x })) k

cond_then : (b : Bool) (x y z : State) → (b ≡ true → x ≡ z) → (b ≡ false → y ≡ z) → cond b x y ≡ z
cond_then true x y z f g = f refl
cond_then false x y z f g = g refl

pub tag_then : (e : Encoding) (tag : TagEnd) (name : List ℕ) (place view : OpenElements)
    → (tag.is_empty ≡ true → view ≡ with_child place (tree_of (fresh e name)))
    → (tag.is_empty ≡ false → view ≡ within (fresh e name) place) → tag_state e tag name place ≡ back view
tag_then e tag name place view f g =
    cond_then tag.is_empty (back (with_child place (tree_of (fresh e name)))) (back (within (fresh e name) place))
    (back view) (λ h. ap back (sym (f h))) (λ h. ap back (sym (g h)))

-- a text may not end in an element
pub inner_end : (root : Option Tree) (frames : List Frame) (k : ℕ) → (frames ≡ [] → ⊥)
    → ended (outcome (back (nest (outside root) frames))) k ≡ Err (BadText k)
inner_end root frames k some = let at =
    some_within root frames some in ap (λ place. ended (outcome (back place)) k) at.2
