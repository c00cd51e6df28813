-- Each step of the reader keeps what is known of its prefix.
use Rattle.std.proofs.Common.{◌≡◌, ℕ, suc, ◌+◌, ◌-◌, Bool, true, false, cond, not, ◌&&◌, List, [], ◌∷◌, ◌++◌, drop, refl, sym, ◌∙◌, ap, subst, arith, Option, Some, None}
use Rattle.std.specs.Prelude.{IfSome, ◌==◌, codes}
use Rattle.std.proofs.lemmas.Bool.{cond_both, and_parts, and_from, eqb-true, eqb-false, false≢true, not-true}
use Rattle.std.proofs.lemmas.List.{append_assoc, append-nil}
use Rattle.std.specs.List.{list_all}
use Rattle.ascii_bytes.specs.Classes.{is_white}
use Rattle.pom_grammar.specs.declared.encoding.Encoding.{Encoding}
use Rattle.pom_grammar.specs.declared.encoding.Encoding.TheVariants.{Utf8, Ascii, Latin1}
use Rattle.pom_grammar.specs.declared.encoding.Tail.{Tail}
use Rattle.pom_grammar.specs.declared.encoding.Tail.TheVariants.{Whole, One, Two, Three, AfterE0, AfterEd, AfterF0, AfterF4}
use Rattle.pom_grammar.specs.declared.tree.Tree.{Tree, roll-Tree}
use Rattle.pom_grammar.specs.Characters.{is_name_start, is_name_byte, has_some, is_empty, begins_with, cut_space, local, forward}
use Rattle.pom_grammar.specs.Encodings.{IsText, utf8_of, next_tail, goes_on}
use Rattle.pom_grammar.specs.References.{expanded}
use Rattle.pom_grammar.specs.Document.{element, Quote, single, double, quote_byte, in_value, no_more, attribute, IsTagPrefix, IsEndTag, Mark, dashes, question, brackets, backward, ends_from, IsEnded, opening, Level, top, inner, IsFree, markup, chars, is_plain, Content, nothing, space, plain, comment, instruction, cdata, empty, child}
use Rattle.pom_grammar.specs.Machine.{OpenElement, OpenElements, outside, within, depth, root_list, has_none, may_open, join, with_text, with_child, fresh, tree_of, Kind, in_run, in_name, in_label, in_quotes, in_marks, Spot, spaced, equals, value, closed, after_slash, State, between, opened, bang, after_dash, in_cdata, in_segment, in_tag, in_end, after_name, back, stops, tag_step, equals_step, on_frame, marked, after, if_whole, if_some_tail, segment_step, spot_step, after_name_step, end_step, cdata_step, opened_step, bang_step, step, FitsElements, FitsMore, FitsTag, AnyGap, SomeGap, FitsEquals, FitsAssigned, FitsSpot, MayStand, FitsKind, IsRun, FitsSegment, FitsEnd, FitsAfter, FitsCdata, Fits}
use Rattle.pom_grammar.proofs.Bytes.{every_one, name_one, tails_one, join_skips}

abbrev Keeps : Encoding → Option State → List ℕ → Type 0
Keeps e next prefix = IfSome next (λ s. Fits e s prefix)

next_bracket : (e : Encoding) → next_tail e Whole 62 ≡ Some Whole
next_bracket Utf8 = refl
next_bracket Ascii = refl
next_bracket Latin1 = refl

-- one more white space at the top
more_space : {e : Encoding} (room : ℕ) (prefix text : List ℕ) (children : List Tree) (c : ℕ)
    → Content e top room chars prefix text children → is_white c ≡ true
    → Content e top room chars (prefix ++ c ∷ []) text children
more_space {e} room prefix text children c (space room1 before text1 run children1 is in_it) f =
    let P : List ℕ → Type 0 = λ x. Content e top room chars x text children in
    subst P (sym (append_assoc before run (c ∷ [])))
    (space room before text (run ++ c ∷ []) children (every_one is_white run c is f) in_it)

module _ (e : Encoding) where
  keeps_if : (b : Bool) (x y : Option State) (prefix : List ℕ) → (b ≡ true → Keeps e x prefix)
      → (b ≡ false → Keeps e y prefix) → Keeps e (cond b x y) prefix
  keeps_if b x y prefix f g = cond_both b x y (λ o. Keeps e o prefix) f g

  keeps_tail : (o : Option Tail) (f : Tail → Option State) (prefix : List ℕ)
      → ((tail : Tail) → o ≡ Some tail → Keeps e (f tail) prefix) → Keeps e (if_some_tail o f) prefix
  keeps_tail None f prefix g = tt
  keeps_tail (Some tail) f prefix g = g tail refl

  keeps_whole : (tail : Tail) (next : Option State) (prefix : List ℕ) → (tail ≡ Whole → Keeps e next prefix)
      → Keeps e (if_whole tail next) prefix
  keeps_whole Whole next prefix f = f refl
  keeps_whole One next prefix f = tt
  keeps_whole Two next prefix f = tt
  keeps_whole Three next prefix f = tt
  keeps_whole AfterE0 next prefix f = tt
  keeps_whole AfterEd next prefix f = tt
  keeps_whole AfterF0 next prefix f = tt
  keeps_whole AfterF4 next prefix f = tt

  room_for : (place : OpenElements) (prefix : List ℕ) → FitsElements e chars place prefix → may_open place ≡ true
      → (room : ℕ) × (suc (depth place) + room ≡ 64)
  room_for (outside root) prefix fits free = (63, refl)
  room_for (within frame outer) prefix fits free =
      let apart = eqb-false (depth outer) 63 (not-true (depth outer == 63) free) in
      let deep : suc (depth outer) + fits.room ≡ 64 = fits.deep in
      (63 - suc (depth outer), omega (arith, deep, apart))

  -- markup that adds nothing to a content
  add_markup : (place : OpenElements) (before more : List ℕ)
      → ((level : Level) (room : ℕ) (bytes text : List ℕ) (children : List Tree)
      → Content e level room chars bytes text children → Content e level room markup (bytes ++ more) text children)
      → FitsElements e chars place before → FitsElements e markup place (before ++ more)
  add_markup (outside root) before more f fits = f top 64 before [] (root_list root) fits
  add_markup (within frame outer) before more f fits =
      record {
        before = fits.before;
        tag = fits.tag;
        bytes = fits.bytes ++ more;
        text = fits.text;
        room = fits.room;
        is_outer = fits.is_outer;
        free = fits.free;
        is_tag = fits.is_tag;
        deep = fits.deep;
        content = f inner fits.room fits.bytes fits.text frame.children fits.content;
        labelled = fits.labelled;
        trimmed = fits.trimmed;
        whole = ap (λ x. x ++ more) fits.whole ∙ simp append_assoc;
      }

  free_root : (root : Option Tree) → has_none root ≡ true → root_list root ≡ []
  free_root None e = refl
  free_root (Some tree) e = absurd (false≢true e)

  -- an element
  add_child : (place : OpenElements) (tree : Tree) (room : ℕ) (before more : List ℕ)
      → ((level : Level) (bytes text : List ℕ) (children : List Tree) → IsFree level children
      → Content e level (suc room) chars bytes text children
      → Content e level (suc room) markup (bytes ++ more) text (children ++ tree ∷ []))
      → suc (depth place) + room ≡ 64 → may_open place ≡ true → FitsElements e chars place before
      → FitsElements e markup (with_child place tree) (before ++ more)
  add_child (outside root) tree room before more f deep free fits =
      let all : suc room ≡ 64 = omega (arith, deep) in
      let none = free_root root free in
      let P : List Tree → Type 0 = λ cs. Content e top 64 markup (before ++ more) [] (cs ++ tree ∷ []) in
      let Q : ℕ → Type 0 = λ n. Content e top n markup (before ++ more) [] (root_list root ++ tree ∷ []) in
      let R : ℕ → Type 0 = λ n. Content e top n chars before [] (root_list root) in
      subst P none (subst Q all (f top before [] (root_list root) none (subst R (sym all) fits)))
  add_child (within frame outer) tree room before more f deep free fits =
      let here : suc (depth outer) + fits.room ≡ 64 = fits.deep in
      let all : suc room ≡ fits.room = omega (arith, deep, here) in
      let Q : ℕ → Type 0 = λ n. Content e inner n markup (fits.bytes ++ more) fits.text (frame.children ++ tree ∷ []) in
      let R : ℕ → Type 0 = λ n. Content e inner n chars fits.bytes fits.text frame.children in
      record {
        before = fits.before;
        tag = fits.tag;
        bytes = fits.bytes ++ more;
        text = fits.text;
        room = fits.room;
        is_outer = fits.is_outer;
        free = fits.free;
        is_tag = fits.is_tag;
        deep = fits.deep;
        content = subst Q all (f inner fits.bytes fits.text frame.children tt (subst R (sym all) fits.content));
        labelled = fits.labelled;
        trimmed = fits.trimmed;
        whole = ap (λ x. x ++ more) fits.whole ∙ simp append_assoc;
      }

  back_keeps : (place : OpenElements) (prefix : List ℕ) → FitsElements e markup place prefix
      → Fits e (back place) prefix
  back_keeps (outside root) prefix fits = let P : List ℕ → Type 0 =
      λ x. Content e top 64 chars x [] (root_list root) in subst P (append-nil prefix)
      (space 64 prefix [] [] (root_list root) refl fits)
  back_keeps (within frame outer) prefix fits =
      record { before = prefix; is_kind = (fits, tt); is_run = refl; lacks = refl; whole = sym (append-nil prefix) }

  -- an element closes
  close_keeps : (frame : OpenElement) (outer : OpenElements) (before end prefix : List ℕ)
      → FitsElements e chars (within frame outer) before → IsEndTag frame.name end → prefix ≡ before ++ end
      → Fits e (back (with_child outer (tree_of frame))) prefix
  close_keeps frame outer before end prefix fits ends whole =
      let same : element e frame.name fits.text frame.children ≡ tree_of frame =
      ap (λ t. roll-Tree
      (record { name = utf8_of e (local frame.name); text = cut_space t; children = frame.children }))
      (sym fits.trimmed)
      ∙ ap (λ n. roll-Tree (record { name = n; text = cut_space frame.text; children = frame.children }))
      (sym fits.labelled) in
      let P : Tree → Type 0 = λ tree. Fits e (back (with_child outer tree)) prefix in
      let long : prefix ≡ fits.before ++ (fits.tag ++ 62 ∷ (fits.bytes ++ end)) = whole ∙ ap (λ x. x ++ end) fits.whole
      ∙ simp append_assoc in
      let Q : List ℕ → Type 0 =
      λ x. FitsElements e markup (with_child outer (element e frame.name fits.text frame.children)) x in
      subst P same (back_keeps (with_child outer (element e frame.name fits.text frame.children)) prefix
      (subst Q (sym long)
      (add_child outer (element e frame.name fits.text frame.children) fits.room fits.before
      (fits.tag ++ 62 ∷ (fits.bytes ++ end))
      (λ level bytes text children free is. child level fits.room bytes text frame.name fits.tag fits.bytes fits.text
      end children frame.children fits.is_tag ends free is fits.content)
      fits.deep fits.free fits.is_outer)))

  tag_prefix : (name : List ℕ) (place : OpenElements) (prefix : List ℕ) (fits : FitsTag e AnyGap name place prefix)
      → IsTagPrefix e name (60 ∷ (name ++ (fits.attributes ++ fits.gap)))
  tag_prefix name place prefix fits =
      record {
        attributes = fits.attributes;
        gap = fits.gap;
        is_name = fits.is_name;
        are_attributes =
            fits.are_attributes;
        is_gap = fits.is_gap;
        whole = refl;
      }

  has_one : (xs : List ℕ) (b : ℕ) → has_some (xs ++ b ∷ []) ≡ true
  has_one [] b = refl
  has_one (x ∷ xs) b = refl

  any_gap : (name : List ℕ) (place : OpenElements) (prefix : List ℕ) → FitsTag e SomeGap name place prefix
      → FitsTag e AnyGap name place prefix
  any_gap name place prefix fits =
      record {
        before = fits.before;
        attributes = fits.attributes;
        gap = fits.gap;
        is_place = fits.is_place;
        free =
            fits.free;
        is_name = fits.is_name;
        are_attributes = fits.are_attributes;
        is_gap = fits.is_gap;
        some_gap = tt;
        whole = fits.whole;
      }

  tag_keeps : (name : List ℕ) (place : OpenElements) (prefix : List ℕ) (c : ℕ) → FitsTag e AnyGap name place prefix
      → Keeps e (tag_step e name place c) (prefix ++ c ∷ [])
  tag_keeps name place prefix c fits =
      keeps_if (is_white c) _ _ (prefix ++ c ∷ [])
      (λ f. record {
        before = fits.before;
        attributes = fits.attributes;
        gap = fits.gap ++ c ∷ [];
        is_place = fits.is_place;
        free = fits.free;
        is_name = fits.is_name;
        are_attributes = fits.are_attributes;
        is_gap = every_one is_white fits.gap c fits.is_gap f;
        some_gap = has_one fits.gap c;
        whole = ap (λ x. x ++ c ∷ []) fits.whole ∙ simp append_assoc;
      })
      (λ _. keeps_if (c == 47) _ _ (prefix ++ c ∷ [])
      (λ f. (prefix, fits, ap (λ b. prefix ++ b ∷ []) (eqb-true c 47 f)))
      (λ _. keeps_if (c == 62) _ _ (prefix ++ c ∷ [])
      (λ f.
      let room = room_for place fits.before fits.is_place fits.free in
      back_keeps (within (fresh e name) place) (prefix ++ c ∷ [])
      (record {
        before = fits.before;
        tag = 60 ∷ (name ++ (fits.attributes ++ fits.gap));
        bytes = [];
        text = [];
        room = room.0;
        is_outer = fits.is_place;
        free = fits.free;
        is_tag = tag_prefix name place prefix fits;
        deep = room.1;
        content = nothing inner room.0;
        labelled = refl;
        trimmed = refl;
        whole = ap (λ x. x ++ c ∷ []) fits.whole
            ∙ ap (λ b. (fits.before ++ 60 ∷ (name ++ (fits.attributes ++ fits.gap))) ++ b ∷ []) (eqb-true c 62 f)
            ∙ simp append_assoc;
      }))
      (λ _. tt)))

  equals_keeps : (name : List ℕ) (place : OpenElements) (prefix : List ℕ) (c : ℕ) → FitsEquals e name place prefix
      → Keeps e (equals_step name place c) (prefix ++ c ∷ [])
  equals_keeps name place prefix c fits =
      keeps_if (is_white c) _ _ (prefix ++ c ∷ [])
      (λ f. record {
        before = fits.before;
        label = fits.label;
        left = fits.left ++ c ∷ [];
        is_tag =
            fits.is_tag;
        is_name = fits.is_name;
        left_space = every_one is_white fits.left c fits.left_space f;
        whole =
            ap (λ x. x ++ c ∷ []) fits.whole ∙ simp append_assoc;
      })
      (λ _. keeps_if (c == 61) _ _ (prefix ++ c ∷ [])
      (λ f. record {
        before = fits.before;
        assigned = fits.label ++ (fits.left ++ 61 ∷ []);
        is_tag = fits.is_tag;
        is_assigned =
            record {
              name = fits.label;
              left = fits.left;
              right = [];
              is_name = fits.is_name;
              left_space =
                  fits.left_space;
              right_space = refl;
              whole = refl;
            };
        whole = ap (λ x. x ++ c ∷ []) fits.whole
            ∙ ap (λ b. (fits.before ++ (fits.label ++ fits.left)) ++ b ∷ []) (eqb-true c 61 f)
            ∙ simp (append_assoc, append-nil);
      })
      (λ _. tt))

  in_a_name : (b : Bool) → not b ≡ false → b ≡ true
  in_a_name true f = refl
  in_a_name false f = absurd (false≢true (sym f))

  -- one more byte of a run
  run_more : (kind : Kind) (seen : List ℕ) (c : ℕ) → IsRun kind seen → stops kind seen c ≡ false → IsRun kind (c ∷ seen)
  run_more in_run seen c is f = every_one is_plain (forward seen) c is (ap not f)
  run_more in_name seen c is f = name_one (forward seen) c is (in_a_name (is_name_byte c) f)
  run_more (in_label name) seen c is f = name_one (forward seen) c is (in_a_name (is_name_byte c) f)
  run_more (in_quotes quote name) seen c is f =
      every_one (in_value quote) (forward seen) c is (in_a_name (in_value quote c) f)
  run_more (in_marks mark) seen c is f = λ text. ap (ends_from mark []) (append_assoc (forward seen) (c ∷ []) text)
      ∙ is (c ∷ text) ∙ ap (λ b. cond b (is_empty text) (ends_from mark (c ∷ seen) text)) f

  -- a bracket after characters
  run_stops : (frame : OpenElement) (outer : OpenElements) (before seen : List ℕ)
      → FitsElements e markup (within frame outer) before → list_all is_plain (forward seen) ≡ true
      → IsText e (forward seen)
      → FitsElements e chars (within (with_text frame (expanded e (forward seen))) outer) (before ++ forward seen)
  run_stops frame outer before seen fits is is_text =
      record {
        before = fits.before;
        tag = fits.tag;
        bytes = fits.bytes ++ forward seen;
        text = fits.text ++ expanded e (forward seen);
        room = fits.room;
        is_outer = fits.is_outer;
        free = fits.free;
        is_tag = fits.is_tag;
        deep = fits.deep;
        content = plain fits.room fits.bytes fits.text (forward seen) frame.children is is_text fits.content;
        labelled = fits.labelled;
        trimmed = ap (λ t. join t (expanded e (forward seen))) fits.trimmed
            ∙ join_skips fits.text (expanded e (forward seen));
        whole = ap (λ x. x ++ forward seen) fits.whole ∙ simp append_assoc;
      }

  quote_stops : (quote : Quote) (name : List ℕ) (place : OpenElements) (before : List ℕ) (seen : List ℕ)
      → FitsAssigned e (quote_byte quote ∷ []) name place before → list_all (in_value quote) (forward seen) ≡ true
      → IsText e (forward seen)
      → FitsTag e AnyGap name place (before ++ (forward seen ++ quote_byte quote ∷ []))
  quote_stops quote name place before seen fits is is_text =
      let tag = fits.is_tag in
      let bytes : List ℕ = tag.gap ++ (fits.assigned ++ quote_byte quote ∷ (forward seen ++ quote_byte quote ∷ [])) in
      record {
        before = tag.before;
        attributes = tag.attributes ++ bytes;
        gap = [];
        is_place = tag.is_place;
        free = tag.free;
        is_name = tag.is_name;
        are_attributes = attribute tag.attributes bytes tag.are_attributes
            (record {
              gap = tag.gap;
              assigned = fits.assigned;
              quote = quote;
              value = forward seen;
              some_space =
                  tag.some_gap;
              is_gap = tag.is_gap;
              is_assigned = fits.is_assigned;
              is_value = is;
              is_text = is_text;
              whole = refl;
            });
        is_gap = refl;
        some_gap = tt;
        whole = ap (λ x. x ++ (forward seen ++ quote_byte quote ∷ [])) fits.whole
            ∙ ap (λ x. (x ++ (fits.assigned ++ quote_byte quote ∷ [])) ++
            (forward seen ++ quote_byte quote ∷ [])) tag.whole ∙ simp (append_assoc, append-nil);
      }

  -- a comment, an instruction or a CDATA section ends
  pub mark_byte : (mark : Mark) (seen : List ℕ) (c : ℕ) → begins_with (backward mark) (c ∷ seen) ≡ true → c ≡ 62
  mark_byte dashes seen c f = eqb-true c 62 (and_parts (c == 62) (begins_with (45 ∷ (45 ∷ [])) seen) f).0
  mark_byte question seen c f = eqb-true c 62 (and_parts (c == 62) (begins_with (63 ∷ []) seen) f).0
  mark_byte brackets seen c f = eqb-true c 62 (and_parts (c == 62) (begins_with (93 ∷ (93 ∷ [])) seen) f).0

  ended : (mark : Mark) (seen : List ℕ) (c : ℕ) → IsRun (in_marks mark) seen → IsText e (forward seen)
      → begins_with (backward mark) (c ∷ seen) ≡ true → IsEnded e mark (forward seen ++ c ∷ [])
  ended mark seen c is is_text f =
      record {
        ends = is (c ∷ []) ∙ ap (λ b. cond b true false) f;
        is_text = tails_one e Whole Whole Whole (forward seen) c is_text
            (ap (next_tail e Whole) (mark_byte mark seen c f) ∙ next_bracket e);
      }

  last_brackets : (seen : List ℕ) (c : ℕ) → begins_with (backward brackets) (c ∷ seen) ≡ true
      → forward seen ++ c ∷ [] ≡ forward (drop 2 seen) ++ codes "]]>"
  last_brackets [] c f = absurd (false≢true (and_parts (c == 62) false f).1)
  last_brackets (a ∷ []) c f =
      let one = and_parts (c == 62) (a == 93 && false) f in
      absurd (false≢true (and_parts (a == 93) false one.1).1)
  last_brackets (a ∷ (b ∷ seen)) c f =
      let one = and_parts (c == 62) (a == 93 && (b == 93 && true)) f in
      let two = and_parts (a == 93) (b == 93 && true) one.1 in
      let three = and_parts (b == 93) true two.1 in
      rw (eqb-true c 62 one.0, eqb-true a 93 two.0, eqb-true b 93 three.0) (simp append_assoc)

  cdata_keeps : (frame : OpenElement) (outer : OpenElements) (before body : List ℕ)
      → FitsElements e chars (within frame outer) before → IsEnded e brackets (body ++ codes "]]>")
      → FitsElements e markup (within (with_text frame (utf8_of e body)) outer)
      (before ++ (opening brackets ++ (body ++ codes "]]>")))
  cdata_keeps frame outer before body fits is =
      record {
        before = fits.before;
        tag = fits.tag;
        bytes = fits.bytes ++ (opening brackets ++ (body ++ codes "]]>"));
        text = fits.text ++ utf8_of e body;
        room = fits.room;
        is_outer = fits.is_outer;
        free = fits.free;
        is_tag = fits.is_tag;
        deep = fits.deep;
        content = cdata fits.room fits.bytes fits.text body frame.children is fits.content;
        labelled = fits.labelled;
        trimmed = ap (λ t. join t (utf8_of e body)) fits.trimmed ∙ join_skips fits.text (utf8_of e body);
        whole = ap (λ x. x ++ (opening brackets ++ (body ++ codes "]]>"))) fits.whole ∙ simp append_assoc;
      }

  mark_stops : (mark : Mark) (place : OpenElements) (before seen : List ℕ) (c : ℕ)
      → FitsMore e place (opening mark) before → MayStand mark place → IsRun (in_marks mark) seen
      → IsText e (forward seen) → begins_with (backward mark) (c ∷ seen) ≡ true
      → Keeps e (marked e mark place seen) (before ++ (forward seen ++ c ∷ []))
  mark_stops dashes place before seen c fits may is is_text f =
      let P : List ℕ → Type 0 = λ x. FitsElements e markup place x in
      let same : fits.before ++ (opening dashes ++ (forward seen ++ c ∷ [])) ≡ before ++ (forward seen ++ c ∷ []) =
      sym (append_assoc fits.before (opening dashes) (forward seen ++ c ∷ []))
      ∙ ap (λ x. x ++ (forward seen ++ c ∷ [])) (sym fits.whole) in
      back_keeps place (before ++ (forward seen ++ c ∷ []))
      (subst P same
      (add_markup place fits.before (opening dashes ++ (forward seen ++ c ∷ []))
      (λ level room bytes text children in_it. comment level room bytes text (forward seen ++ c ∷ []) children
      (ended dashes seen c is is_text f) in_it) fits.is_place))
  mark_stops question place before seen c fits may is is_text f =
      let P : List ℕ → Type 0 = λ x. FitsElements e markup place x in
      let same : fits.before ++ (opening question ++ (forward seen ++ c ∷ [])) ≡ before ++ (forward seen ++ c ∷ []) =
      sym (append_assoc fits.before (opening question) (forward seen ++ c ∷ []))
      ∙ ap (λ x. x ++ (forward seen ++ c ∷ [])) (sym fits.whole) in
      back_keeps place (before ++ (forward seen ++ c ∷ []))
      (subst P same
      (add_markup place fits.before (opening question ++ (forward seen ++ c ∷ []))
      (λ level room bytes text children in_it. instruction level room bytes text (forward seen ++ c ∷ []) children
      (ended question seen c is is_text f) in_it) fits.is_place))
  mark_stops brackets (outside root) before seen c fits may is is_text f = absurd may
  mark_stops brackets (within frame outer) before seen c fits may is is_text f =
      let body : List ℕ = forward (drop 2 seen) in
      let last = last_brackets seen c f in
      let P : List ℕ → Type 0 = λ x. FitsElements e markup (within (with_text frame (utf8_of e body)) outer) x in
      let Q : List ℕ → Type 0 = λ x. IsEnded e brackets x in
      let same : fits.before ++ (opening brackets ++ (body ++ codes "]]>")) ≡ before ++ (forward seen ++ c ∷ []) =
      ap (λ x. fits.before ++ (opening brackets ++ x)) (sym last)
      ∙ sym (append_assoc fits.before (opening brackets) (forward seen ++ c ∷ []))
      ∙ ap (λ x. x ++ (forward seen ++ c ∷ [])) (sym fits.whole) in
      back_keeps (within (with_text frame (utf8_of e body)) outer) (before ++ (forward seen ++ c ∷ []))
      (subst P same
      (cdata_keeps frame outer fits.before body fits.is_place (subst Q last (ended brackets seen c is is_text f))))

  after_keeps : (kind : Kind) (place : OpenElements) (before seen prefix : List ℕ) (c : ℕ)
      → FitsKind e kind place before → IsRun kind seen → IsText e (forward seen) → prefix ≡ before ++ forward seen
      → stops kind seen c ≡ true
      → Keeps e (after e kind place seen c) (prefix ++ c ∷ [])
  after_keeps in_run (outside root) before seen prefix c fits is is_text whole f = absurd fits.1
  after_keeps in_run (within frame outer) before seen prefix c fits is is_text whole f =
      let P : List ℕ → Type 0 =
      λ x. FitsElements e chars (within (with_text frame (expanded e (forward seen))) outer) x in
      record {
        before = prefix;
        is_place =
            subst P (sym whole) (run_stops frame outer before seen fits.0 is is_text);
        whole =
            ap (λ b. prefix ++ b ∷ []) (eqb-true c 60 f);
      }
  after_keeps in_name place before seen prefix c fits is is_text whole f =
      tag_keeps (forward seen) place prefix c
      (record {
        before = fits.0.before;
        attributes = [];
        gap = [];
        is_place = fits.0.is_place;
        free = fits.1;
        is_name = record { named = is; is_text = is_text };
        are_attributes = no_more;
        is_gap = refl;
        some_gap = tt;
        whole = whole ∙ ap (λ x. x ++ forward seen) fits.0.whole ∙ simp (append_assoc, append-nil);
      })
  after_keeps (in_label name) place before seen prefix c fits is is_text whole f =
      equals_keeps name place prefix c
      (record {
        before = before;
        label = forward seen;
        left = [];
        is_tag = fits;
        is_name =
            record { named = is; is_text = is_text };
        left_space = refl;
        whole = whole
            ∙ ap (λ x. before ++ x) (sym (append-nil (forward seen)));
      })
  after_keeps (in_quotes quote name) place before seen prefix c fits is is_text whole f =
      keeps_if (c == quote_byte quote) _ _ (prefix ++ c ∷ [])
      (λ g.
      let P : List ℕ → Type 0 = λ x. FitsTag e AnyGap name place x in
      let same : before ++ (forward seen ++ quote_byte quote ∷ []) ≡ prefix ++ c ∷ [] =
      sym (append_assoc before (forward seen) (quote_byte quote ∷ []))
      ∙ ap (λ x. x ++ quote_byte quote ∷ []) (sym whole)
      ∙ ap (λ b. prefix ++ b ∷ []) (sym (eqb-true c (quote_byte quote) g)) in
      subst P same (quote_stops quote name place before seen fits is is_text))
      (λ _. tt)
  after_keeps (in_marks mark) place before seen prefix c fits is is_text whole f =
      let P : List ℕ → Type 0 = λ x. Keeps e (marked e mark place seen) x in
      let same : before ++ (forward seen ++ c ∷ []) ≡ prefix ++ c ∷ [] =
      sym (append_assoc before (forward seen) (c ∷ [])) ∙ ap (λ x. x ++ c ∷ []) (sym whole) in
      subst P same (mark_stops mark place before seen c fits.0 fits.1 is is_text f)

  segment_keeps : (kind : Kind) (place : OpenElements) (seen : List ℕ) (tail : Tail) (prefix : List ℕ) (c : ℕ)
      → FitsSegment e kind place seen tail prefix → Keeps e (segment_step e kind place seen tail c) (prefix ++ c ∷ [])
  segment_keeps kind place seen tail prefix c fits =
      keeps_if (stops kind seen c) _ _ (prefix ++ c ∷ [])
      (λ f. keeps_whole tail (after e kind place seen c) (prefix ++ c ∷ [])
      (λ w. after_keeps kind place fits.before seen prefix c fits.is_kind fits.is_run
      (fits.lacks ∙ ap Some w) fits.whole f))
      (λ f. keeps_tail (next_tail e tail c) _ (prefix ++ c ∷ [])
      (λ next g. record {
        before = fits.before;
        is_kind = fits.is_kind;
        is_run = run_more kind seen c fits.is_run f;
        lacks = tails_one e Whole tail next (forward seen) c fits.lacks g;
        whole = ap (λ x. x ++ c ∷ []) fits.whole ∙ append_assoc fits.before (forward seen) (c ∷ []);
      }))

  -- the first byte of a run
  first_keeps : (kind : Kind) (place : OpenElements) (tail : Tail) (prefix : List ℕ) (c : ℕ)
      → FitsKind e kind place prefix → IsRun kind (c ∷ []) → next_tail e Whole c ≡ Some tail
      → FitsSegment e kind place (c ∷ []) tail (prefix ++ c ∷ [])
  first_keeps kind place tail prefix c fits is f =
      record { before = prefix; is_kind = fits; is_run = is; lacks = ap (λ o. goes_on o (λ t. Some t)) f; whole = refl }

  begin_keeps : (kind : Kind) (place : OpenElements) (prefix : List ℕ) → FitsKind e kind place prefix → IsRun kind []
      → FitsSegment e kind place [] Whole prefix
  begin_keeps kind place prefix fits is =
      record { before = prefix; is_kind = fits; is_run = is; lacks = refl; whole = sym (append-nil prefix) }

  more_keeps : (place : OpenElements) (more prefix : List ℕ) (c b : ℕ) → FitsMore e place more prefix → c ≡ b
      → FitsMore e place (more ++ b ∷ []) (prefix ++ c ∷ [])
  more_keeps place more prefix c b fits f =
      record {
        before = fits.before;
        is_place = fits.is_place;
        whole = ap (λ x. x ++ c ∷ []) fits.whole
            ∙ append_assoc fits.before more (c ∷ []) ∙ ap (λ x. fits.before ++ (more ++ x ∷ [])) f;
      }

  slash_keeps : (place : OpenElements) (prefix : List ℕ) (c : ℕ) → FitsMore e place (codes "<") prefix → c ≡ 47
      → Keeps e (on_frame place (λ frame outer. Some (in_end [] frame.name frame outer))) (prefix ++ c ∷ [])
  unfolding more_keeps
  slash_keeps (outside root) prefix c fits f = tt
  slash_keeps (within frame outer) prefix c fits f =
      record {
        before = fits.before;
        is_place = fits.is_place;
        split = refl;
        whole =
            (more_keeps (within frame outer) (codes "<") prefix c 47 fits f).whole;
      }

  bracket_keeps : (place : OpenElements) (prefix : List ℕ) (c : ℕ) → FitsMore e place (codes "<!") prefix → c ≡ 91
      → Keeps e (on_frame place (λ frame outer. Some (in_cdata (codes "CDATA[") frame outer))) (prefix ++ c ∷ [])
  unfolding more_keeps
  bracket_keeps (outside root) prefix c fits f = tt
  bracket_keeps (within frame outer) prefix c fits f =
      record {
        before = fits.before;
        done = codes "<![";
        is_place = fits.is_place;
        split = refl;
        some = refl;
        whole =
            (more_keeps (within frame outer) (codes "<!") prefix c 91 fits f).whole;
      }

  opened_keeps : (place : OpenElements) (prefix : List ℕ) (c : ℕ) → FitsMore e place (codes "<") prefix
      → Keeps e (opened_step e place c) (prefix ++ c ∷ [])
  opened_keeps place prefix c fits =
      keeps_if (is_name_start c) _ _ (prefix ++ c ∷ [])
      (λ f. keeps_if (may_open place) _ None (prefix ++ c ∷ [])
      (λ g. keeps_tail (next_tail e Whole c) _ (prefix ++ c ∷ [])
      (λ next h. first_keeps in_name place next prefix c (fits, g) (and_from (is_name_start c) true f refl) h))
      (λ _. tt))
      (λ _. keeps_if (c == 33) _ _ (prefix ++ c ∷ [])
      (λ f. more_keeps place (codes "<") prefix c 33 fits (eqb-true c 33 f))
      (λ _. keeps_if (c == 63) _ _ (prefix ++ c ∷ [])
      (λ f. begin_keeps (in_marks question) place (prefix ++ c ∷ [])
      (more_keeps place (codes "<") prefix c 63 fits (eqb-true c 63 f), tt) (λ text. refl))
      (λ _. keeps_if (c == 47) _ _ (prefix ++ c ∷ []) (λ f. slash_keeps place prefix c fits (eqb-true c 47 f))
      (λ _. tt))))

  bang_keeps : (place : OpenElements) (prefix : List ℕ) (c : ℕ) → FitsMore e place (codes "<!") prefix
      → Keeps e (bang_step place c) (prefix ++ c ∷ [])
  bang_keeps place prefix c fits =
      keeps_if (c == 45) _ _ (prefix ++ c ∷ []) (λ f. more_keeps place (codes "<!") prefix c 45 fits (eqb-true c 45 f))
      (λ _. keeps_if (c == 91) _ _ (prefix ++ c ∷ []) (λ f. bracket_keeps place prefix c fits (eqb-true c 91 f))
      (λ _. tt))

  cdata_step_keeps : (left : List ℕ) (frame : OpenElement) (outer : OpenElements) (prefix : List ℕ) (c : ℕ)
      → FitsCdata e left frame outer prefix → Keeps e (cdata_step left frame outer c) (prefix ++ c ∷ [])
  cdata_step_keeps [] frame outer prefix c fits = tt
  cdata_step_keeps (b ∷ []) frame outer prefix c fits =
      keeps_if (c == b) _ _ (prefix ++ c ∷ [])
      (λ f. begin_keeps (in_marks brackets) (within frame outer) (prefix ++ c ∷ []) (
        record {
          before = fits.before;
          is_place = fits.is_place;
          whole = ap (λ x. x ++ c ∷ []) fits.whole
              ∙ append_assoc fits.before fits.done (c ∷ [])
              ∙ ap (λ x. fits.before ++ (fits.done ++ x ∷ [])) (eqb-true c b f) ∙ ap (λ x. fits.before ++ x) fits.split;
        },
        tt,
      )
      (λ text. refl))
      (λ _. tt)
  cdata_step_keeps (b ∷ (d ∷ left)) frame outer prefix c fits =
      keeps_if (c == b) _ _ (prefix ++ c ∷ [])
      (λ f. record {
        before = fits.before;
        done = fits.done ++ b ∷ [];
        is_place = fits.is_place;
        split =
            append_assoc fits.done (b ∷ []) (d ∷ left)
            ∙ fits.split;
        some = refl;
        whole = ap (λ x. x ++ c ∷ []) fits.whole
            ∙ append_assoc fits.before fits.done (c ∷ [])
            ∙ ap (λ x. fits.before ++ (fits.done ++ x ∷ [])) (eqb-true c b f);
      })
      (λ _. tt)

  after_name_keeps : (frame : OpenElement) (outer : OpenElements) (prefix : List ℕ) (c : ℕ)
      → FitsAfter e frame outer prefix → Keeps e (after_name_step e frame outer c) (prefix ++ c ∷ [])
  after_name_keeps frame outer prefix c fits =
      keeps_if (is_white c) _ _ (prefix ++ c ∷ [])
      (λ f. record {
        before = fits.before;
        gap = fits.gap ++ c ∷ [];
        is_place = fits.is_place;
        is_gap =
            every_one is_white fits.gap c fits.is_gap f;
        whole = ap (λ x. x ++ c ∷ []) fits.whole ∙ simp append_assoc;
      })
      (λ _. keeps_if (c == 62) _ _ (prefix ++ c ∷ [])
      (λ f. close_keeps frame outer fits.before (60 ∷ (47 ∷ (frame.name ++ (fits.gap ++ 62 ∷ []))))
      (prefix ++ c ∷ []) fits.is_place (record { gap = fits.gap; is_gap = fits.is_gap; whole = refl })
      (ap (λ x. x ++ c ∷ []) fits.whole
      ∙ ap (λ b. (fits.before ++ 60 ∷ (47 ∷ (frame.name ++ fits.gap))) ++ b ∷ []) (eqb-true c 62 f)
      ∙ simp append_assoc))
      (λ _. tt))

  end_keeps : (done left : List ℕ) (frame : OpenElement) (outer : OpenElements) (prefix : List ℕ) (c : ℕ)
      → FitsEnd e done left frame outer prefix → Keeps e (end_step e done left frame outer c) (prefix ++ c ∷ [])
  end_keeps done [] frame outer prefix c fits =
      after_name_keeps frame outer prefix c
      (record {
        before = fits.before;
        gap = [];
        is_place = fits.is_place;
        is_gap = refl;
        whole = fits.whole
            ∙ ap (λ n. fits.before ++ 60 ∷ (47 ∷ n)) (sym (append-nil done) ∙ fits.split ∙ sym (append-nil frame.name));
      })
  end_keeps done (b ∷ left) frame outer prefix c fits =
      keeps_if (c == b) _ _ (prefix ++ c ∷ [])
      (λ f. record {
        before = fits.before;
        is_place = fits.is_place;
        split = append_assoc done (b ∷ []) left
            ∙ fits.split;
        whole = ap (λ x. x ++ c ∷ []) fits.whole ∙ append_assoc fits.before (60 ∷ (47 ∷ done)) (c ∷ [])
            ∙ ap (λ x. fits.before ++ 60 ∷ (47 ∷ (done ++ x ∷ []))) (eqb-true c b f);
      })
      (λ _. tt)

  value_keeps : (quote : Quote) (name : List ℕ) (place : OpenElements) (prefix : List ℕ) (c : ℕ)
      → FitsAssigned e [] name place prefix → c ≡ quote_byte quote
      → FitsSegment e (in_quotes quote name) place [] Whole (prefix ++ c ∷ [])
  value_keeps quote name place prefix c fits f =
      begin_keeps (in_quotes quote name) place (prefix ++ c ∷ [])
      (record {
        before = fits.before;
        assigned = fits.assigned;
        is_tag = fits.is_tag;
        is_assigned =
            fits.is_assigned;
        whole = ap (λ x. x ++ c ∷ []) fits.whole
            ∙ ap (λ b. (fits.before ++ (fits.assigned ++ [])) ++ b ∷ []) f ∙ simp (append_assoc, append-nil);
      })
      refl

  spot_keeps : (spot : Spot) (name : List ℕ) (place : OpenElements) (prefix : List ℕ) (c : ℕ)
      → FitsSpot e spot name place prefix → Keeps e (spot_step e spot name place c) (prefix ++ c ∷ [])
  spot_keeps spaced name place prefix c fits =
      keeps_if (is_name_start c) _ _ (prefix ++ c ∷ [])
      (λ f. keeps_tail (next_tail e Whole c) _ (prefix ++ c ∷ [])
      (λ next h. first_keeps (in_label name) place next prefix c fits (and_from (is_name_start c) true f refl) h))
      (λ _. tag_keeps name place prefix c (any_gap name place prefix fits))
  spot_keeps equals name place prefix c fits = equals_keeps name place prefix c fits
  spot_keeps value name place prefix c fits =
      keeps_if (is_white c) _ _ (prefix ++ c ∷ [])
      (λ f.
      let is = fits.is_assigned in
      record {
        before = fits.before;
        assigned = fits.assigned ++ c ∷ [];
        is_tag = fits.is_tag;
        is_assigned =
            record {
              name = is.name;
              left = is.left;
              right = is.right ++ c ∷ [];
              is_name = is.is_name;
              left_space =
                  is.left_space;
              right_space = every_one is_white is.right c is.right_space f;
              whole =
                  ap (λ x. x ++ c ∷ []) is.whole ∙ simp append_assoc;
            };
        whole = ap (λ x. x ++ c ∷ []) fits.whole ∙ simp (append_assoc, append-nil);
      })
      (λ _. keeps_if (c == 34) _ _ (prefix ++ c ∷ [])
      (λ f. value_keeps double name place prefix c fits (eqb-true c 34 f))
      (λ _. keeps_if (c == 39) _ _ (prefix ++ c ∷ [])
      (λ f. value_keeps single name place prefix c fits (eqb-true c 39 f)) (λ _. tt)))
  spot_keeps closed name place prefix c fits = tag_keeps name place prefix c fits
  spot_keeps after_slash name place prefix c fits =
      keeps_if (c == 62) _ _ (prefix ++ c ∷ [])
      (λ f.
      let tag = fits.1 in
      let bytes : List ℕ = 60 ∷ (name ++ (tag.attributes ++ tag.gap)) in
      let room = room_for place tag.before tag.is_place tag.free in
      let P : List ℕ → Type 0 = λ x. FitsElements e markup (with_child place (tree_of (fresh e name))) x in
      let same : tag.before ++ (bytes ++ codes "/>") ≡ prefix ++ c ∷ [] =
      sym (append_assoc tag.before bytes (codes "/>")) ∙ ap (λ x. x ++ codes "/>") (sym tag.whole)
      ∙ sym (append_assoc fits.0 (47 ∷ []) (62 ∷ [])) ∙ ap (λ x. x ++ 62 ∷ []) (sym fits.2)
      ∙ ap (λ b. prefix ++ b ∷ []) (sym (eqb-true c 62 f)) in
      back_keeps (with_child place (tree_of (fresh e name))) (prefix ++ c ∷ [])
      (subst P same (add_child place (tree_of (fresh e name)) room.0 tag.before (bytes ++ codes "/>")
      (λ level inside text children free is. empty level room.0 inside text name bytes children
      (tag_prefix name place fits.0 tag) free is)
      room.1 tag.free tag.is_place)))
      (λ _. tt)

  space_keeps : (root : Option Tree) (prefix : List ℕ) (c : ℕ) → FitsElements e chars (outside root) prefix
      → is_white c ≡ true → FitsElements e chars (outside root) (prefix ++ c ∷ [])
  space_keeps root prefix c fits f = more_space 64 prefix [] (root_list root) c fits f

  pub keeps : (s : State) (prefix : List ℕ) (c : ℕ) → Fits e s prefix → Keeps e (step e s c) (prefix ++ c ∷ [])
  keeps (between root) prefix c fits =
      keeps_if (is_white c) _ _ (prefix ++ c ∷ []) (λ f. space_keeps root prefix c fits f)
      (λ _. keeps_if (c == 60) _ _ (prefix ++ c ∷ [])
      (λ f. record { before = prefix; is_place = fits; whole = ap (λ b. prefix ++ b ∷ []) (eqb-true c 60 f) })
      (λ _. tt))
  keeps (opened place) prefix c fits = opened_keeps place prefix c fits
  keeps (bang place) prefix c fits = bang_keeps place prefix c fits
  keeps (after_dash place) prefix c fits =
      keeps_if (c == 45) _ _ (prefix ++ c ∷ [])
      (λ f. begin_keeps (in_marks dashes) place (prefix ++ c ∷ [])
      (more_keeps place (codes "<!-") prefix c 45 fits (eqb-true c 45 f), tt) (λ text. refl)) (λ _. tt)
  keeps (in_cdata left frame outer) prefix c fits = cdata_step_keeps left frame outer prefix c fits
  keeps (in_segment kind place seen tail) prefix c fits = segment_keeps kind place seen tail prefix c fits
  keeps (in_tag spot name place) prefix c fits = spot_keeps spot name place prefix c fits
  keeps (in_end done left frame outer) prefix c fits = end_keeps done left frame outer prefix c fits
  keeps (after_name frame outer) prefix c fits = after_name_keeps frame outer prefix c fits
