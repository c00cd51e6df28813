-- What is answered for a text is right: the tree of a document, or the first fault.
use Rattle.std.proofs.Common.{◌≡◌, ℕ, suc, inl, inr, ◌⊎◌, ◌+◌, ◌-◌, ◌<◌, ◌≤◌, Bool, true, false, cond, not, ◌&&◌, List, [], ◌∷◌, ◌++◌, length, take, drop, get_or, refl, sym, ◌∙◌, ap, subst, arith, Option, Some, None}
use Rattle.std.specs.Prelude.{◌==◌, codes, Result, Ok, Err}
use Rattle.std.proofs.lemmas.Bool.{and_parts, and_from, eqb-true, eq-eqb, ne_eqb, cases_Bool, cases_lt, false≢true}
use Rattle.std.proofs.lemmas.List.{append_assoc, append-nil, length-append, length-take, take-append-drop, drop_more, drop_all}
use Rattle.fault_place.specs.Place.{IsPlace}
use Rattle.fault_place.specs.Reader.{reads, At, Accepts}
use Rattle.fault_place.proofs.Places.{one_place}
use Rattle.fault_place.proofs.Readers.{goes_between, at_start, step_at, stops_at, ends_at, ends_with}
use Rattle.pom_grammar.specs.declared.encoding.Encoding.{Encoding}
use Rattle.pom_grammar.specs.declared.encoding.Encoding.TheVariants.{Utf8}
use Rattle.pom_grammar.specs.declared.encoding.Tail.TheVariants.{Whole}
use Rattle.pom_grammar.specs.declared.tree.Tree.{Tree}
use Rattle.pom_grammar.specs.declared.tree.TextErr.{TextErr}
use Rattle.pom_grammar.specs.declared.tree.TextErr.TheVariants.{BadText, Doctype, TooDeep, UnknownEncoding, NoMemory}
use Rattle.pom_grammar.specs.Characters.{is_name_start, begins_with}
use Rattle.pom_grammar.specs.Encodings.{next_tail}
use Rattle.pom_grammar.specs.Document.{top, inner, chars}
use Rattle.pom_grammar.specs.Declarations.{declares, declares_from}
use Rattle.pom_grammar.specs.Machine.{OpenElement, OpenElements, outside, within, depth, has_none, may_open, State, between, opened, bang, after_dash, in_cdata, in_segment, in_tag, in_end, after_name, outcome, FitsElements, reader_with}
use Rattle.pom_grammar.specs.Heads.{IsMark, IsHead, undeclared, declared, IsDocument, Start, at_start as at_mark, bracket, after_question, after_x, after_m, after_l, Reading, begin, mark_one, mark_two, starting, in_declaration, in_body, is_alive, as_body, read_step, read_outcome, FitsHead, never, before, FitsBody, FitsReading, reading_with, document_reader, lifted}
use Rattle.pom_grammar.specs.Faults.{IsUnknown, IsDoctype, Opens, before_root, inside, IsTooDeep, IsPlain, Says}
use Rattle.pom_grammar.specs.Verdicts.{deep_fault, doctype_fault, ended, stepped, reading_fault, reading_verdict, byte_order_mark, unknown_of, unless_unknown, whole_verdict}
use Rattle.pom_grammar.proofs.Takes.{content_reads, tag_reads, made, takes}
use Rattle.pom_grammar.proofs.HeadTakes.{document_reads, document_takes}
use Rattle.pom_grammar.proofs.HeadLives.{document_right, begins_split}
use Rattle.pom_grammar.proofs.Unknown.{unknown_says, unknown_found, head_no_unknown}

-- What the reader's answer says, before anything is known of the other faults.
abbrev Reports : List ℕ → Result Tree TextErr → Type 0
Reports bytes (Ok tree) = IsDocument bytes tree
Reports bytes (Err (BadText place)) = IsPlace (Accepts IsDocument) bytes place
Reports bytes (Err (Doctype place)) = IsDoctype bytes place
Reports bytes (Err (TooDeep place)) = IsTooDeep bytes place
Reports bytes (Err (UnknownEncoding place)) = ⊥
Reports bytes (Err NoMemory) = ⊥

-- the elements that are open

abbrev NoRoot : OpenElements → Type 0
NoRoot (outside root) = has_none root ≡ true
NoRoot (within frame outer) = Unit {0}

no_root : (place : OpenElements) → may_open place ≡ true → NoRoot place
no_root (outside root) f = f
no_root (within frame outer) f = tt

opens_of : (e : Encoding) (place : OpenElements) (prefix : List ℕ) → NoRoot place → FitsElements e chars place prefix
    → Opens e (depth place) prefix
opens_of e (outside None) prefix f fits = before_root prefix fits
opens_of e (outside (Some tree)) prefix f fits = absurd (false≢true f)
opens_of e (within frame outer) prefix f fits =
    subst (Opens e (suc (depth outer))) (sym fits.whole)
    (inside (depth outer) fits.room fits.before frame.name fits.tag fits.bytes fits.text frame.children
    (opens_of e outer fits.before (no_root outer fits.free) fits.is_outer) fits.is_tag fits.deep fits.content)

head_on : (e : Encoding) (head bytes rest : List ℕ) → FitsHead e head bytes → IsHead e head (bytes ++ rest)
head_on e head bytes rest (never bytes1 f) = undeclared (bytes1 ++ rest) (f rest)
head_on e head bytes rest (before e1 head1 bytes1 is) = declared e1 head1 (bytes1 ++ rest) is

too_deep_is : (e : Encoding) (frame : OpenElement) (outer : OpenElements) (prefix : List ℕ) (c : ℕ) (text : List ℕ)
    (k : ℕ)
    → FitsBody e (opened (within frame outer)) prefix → k ≡ length prefix → is_name_start c ≡ true
    → is_alive (next_tail e Whole c) ≡ true → depth outer ≡ 63
    → IsTooDeep (prefix ++ c ∷ text) (k - 1)
too_deep_is e frame outer prefix c text k body h f g deep =
    let more = body.fits in
    let whole : prefix ++ c ∷ text ≡ body.mark ++ (body.head ++ (more.before ++ 60 ∷ (c ∷ text))) =
    ap (λ x. x ++ c ∷ text) (body.whole ∙ ap (λ x. body.mark ++ (body.head ++ x)) more.whole) ∙ simp append_assoc in
    let cut : body.bytes ++ c ∷ text ≡ more.before ++ 60 ∷ (c ∷ text) = ap (λ x. x ++ c ∷ text) more.whole
    ∙ append_assoc more.before (60 ∷ []) (c ∷ text) in
    let long : prefix ≡ (body.mark ++ (body.head ++ more.before)) ++ 60 ∷ [] = body.whole
    ∙ ap (λ x. body.mark ++ (body.head ++ x)) more.whole ∙ simp append_assoc in
    record {
      encoding = e;
      mark = body.mark;
      head = body.head;
      before = more.before;
      letter = c;
      rest = text;
      is_mark = body.is_mark;
      is_head = subst (IsHead e body.head) cut (head_on e body.head body.bytes (c ∷ text) body.is_head);
      opens = subst (λ n. Opens e n more.before) (ap suc deep)
          (opens_of e (within frame outer) more.before tt more.is_place);
      is_start = f;
      is_byte = g;
      whole = whole;
      is_place = omega (arith, h, ap length long, length-append (body.mark ++ (body.head ++ more.before)) (60 ∷ []));
    }

doctype_is : (e : Encoding) (prefix text : List ℕ) (k : ℕ) → FitsBody e (bang (outside None)) prefix → k ≡ length prefix
    → begins_with (codes "DOCTYPE") text ≡ true → IsDoctype (prefix ++ text) (k - 2)
doctype_is e prefix text k body h f =
    let more = body.fits in
    let rest : List ℕ = drop 7 text in
    let split : codes "DOCTYPE" ++ rest ≡ text = begins_split (codes "DOCTYPE") text f in
    let cut : body.bytes ++ text ≡ more.before ++ (codes "<!DOCTYPE" ++ rest) = ap (λ x. x ++ text) more.whole
    ∙ append_assoc more.before (codes "<!") text ∙ ap (λ x. more.before ++ (codes "<!" ++ x)) (sym split) in
    let long : prefix ≡ (body.mark ++ (body.head ++ more.before)) ++ codes "<!" = body.whole
    ∙ ap (λ x. body.mark ++ (body.head ++ x)) more.whole ∙ simp append_assoc in
    record {
      encoding = e;
      mark = body.mark;
      head = body.head;
      before = more.before;
      rest = rest;
      is_mark = body.is_mark;
      is_head = subst (IsHead e body.head) cut (head_on e body.head body.bytes text body.is_head);
      miscellany = more.is_place;
      whole = ap (λ x. x ++ text) body.whole ∙ append_assoc body.mark (body.head ++ body.bytes) text
          ∙ ap (λ x. body.mark ++ x) (append_assoc body.head body.bytes text)
          ∙ ap (λ x. body.mark ++ (body.head ++ x)) cut;
      is_place = omega (arith, h, ap length long, length-append (body.mark ++ (body.head ++ more.before)) (codes "<!"));
    }

module _ (bytes : List ℕ) where
  reports_if : (b : Bool) (x y : TextErr) → (b ≡ true → Reports bytes (Err x)) → (b ≡ false → Reports bytes (Err y))
      → Reports bytes (Err (cond b x y))
  reports_if true x y f g = f refl
  reports_if false x y f g = g refl

  deep_reports : (e : Encoding) (place : OpenElements) (prefix : List ℕ) (c : ℕ) (text : List ℕ) (k : ℕ)
      → bytes ≡ prefix ++ c ∷ text → k ≡ length prefix → FitsBody e (opened place) prefix
      → IsPlace (Accepts IsDocument) bytes k → Reports bytes (Err (deep_fault e place c k))
  deep_reports e (outside root) prefix c text k whole h body is = is
  deep_reports e (within frame outer) prefix c text k whole h body is =
      reports_if (is_name_start c && (is_alive (next_tail e Whole c) && depth outer == 63)) (TooDeep (k - 1))
      (BadText k)
      (λ f.
      let one = and_parts (is_name_start c) (is_alive (next_tail e Whole c) && depth outer == 63) f in
      let two = and_parts (is_alive (next_tail e Whole c)) (depth outer == 63) one.1 in
      subst (λ x. IsTooDeep x (k - 1)) (sym whole)
      (too_deep_is e frame outer prefix c text k body h one.0 two.0 (eqb-true (depth outer) 63 two.1)))
      (λ f. is)

  doctype_reports : (e : Encoding) (place : OpenElements) (prefix text : List ℕ) (k : ℕ) → bytes ≡ prefix ++ text
      → k ≡ length prefix → FitsBody e (bang place) prefix → IsPlace (Accepts IsDocument) bytes k
      → Reports bytes (Err (doctype_fault place text k))
  doctype_reports e (outside None) prefix text k whole h body is =
      reports_if (begins_with (codes "DOCTYPE") text) (Doctype (k - 2)) (BadText k)
      (λ f. subst (λ x. IsDoctype x (k - 2)) (sym whole) (doctype_is e prefix text k body h f)) (λ f. is)
  doctype_reports e (outside (Some tree)) prefix text k whole h body is = is
  doctype_reports e (within frame outer) prefix text k whole h body is = is

  fault_reports : (s : Reading) (prefix : List ℕ) (c : ℕ) (text : List ℕ) (k : ℕ) → bytes ≡ prefix ++ c ∷ text
      → k ≡ length prefix → FitsReading s prefix → IsPlace (Accepts IsDocument) bytes k
      → Reports bytes (Err (reading_fault s c text k))
  fault_reports begin prefix c text k whole h fits is = is
  fault_reports mark_one prefix c text k whole h fits is = is
  fault_reports mark_two prefix c text k whole h fits is = is
  fault_reports (starting start) prefix c text k whole h fits is = is
  fault_reports (in_declaration space seen telling) prefix c text k whole h fits is = is
  fault_reports (in_body e (opened place)) prefix c text k whole h fits is =
      deep_reports e place prefix c text k whole h fits is
  fault_reports (in_body e (bang place)) prefix c text k whole h fits is =
      doctype_reports e place prefix (c ∷ text) k whole h fits is
  fault_reports (in_body e (between root)) prefix c text k whole h fits is = is
  fault_reports (in_body e (after_dash place)) prefix c text k whole h fits is = is
  fault_reports (in_body e (in_cdata left frame outer)) prefix c text k whole h fits is = is
  fault_reports (in_body e (in_segment kind place seen tail)) prefix c text k whole h fits is = is
  fault_reports (in_body e (in_tag spot name place)) prefix c text k whole h fits is = is
  fault_reports (in_body e (in_end done left frame outer)) prefix c text k whole h fits is = is
  fault_reports (in_body e (after_name frame outer)) prefix c text k whole h fits is = is

  record Cut (c i : ℕ) (text : List ℕ) : Type 0 where
    below : i < length bytes
    here : get_or bytes i 0 ≡ c
    then : text ≡ drop (i + 1) bytes

  cut_at : (c i : ℕ) (text : List ℕ) → c ∷ text ≡ drop i bytes → Cut c i text
  cut_at c i text f =
      elim (cases_lt i (length bytes)) [
        | inl h ↦
            let same : c ∷ text ≡ get_or bytes i 0 ∷ drop (i + 1) bytes = f ∙ drop_more bytes i 0 h in
            let first : get_or bytes i 0 ≡ c = cc in
            let rest : text ≡ drop (i + 1) bytes = cc in
            record { below = h; here = first; then = rest }
        | inr h ↦ let no : c ∷ text ≡ [] = f ∙ drop_all i bytes h in let never : ⊥ = cc in absurd never
      ]

  reports : (text : List ℕ) (i : ℕ) (s : Reading) → text ≡ drop i bytes → i ≤ length bytes
      → At document_reader s (take i bytes) → Reports bytes (reading_verdict s text i)
  reports [] i s f long here = end (read_outcome s) refl
    where
      at_length : i ≡ length bytes
      at_length =
          elim (cases_lt i (length bytes)) [
            | inl h ↦ let no : ⊥ =
                (let same : [] ≡ get_or bytes i 0 ∷ drop (i + 1) bytes = f
                ∙ drop_more bytes i 0 h in cc) in absurd no
            | inr h ↦ omega (arith, long, h)
          ]

      end : (o : Option Tree) → read_outcome s ≡ o → Reports bytes (ended o i)
      end None g = ends_at document_right bytes i s at_length here g
      end (Some tree) g = ends_with document_right bytes i s tree at_length here g
  reports (c ∷ text) i s f long here =
      let cut = cut_at c i text f in
      go cut (read_step s c) refl (λ t at. reports text (i + 1) t cut.then (omega (arith, cut.below)) at)
    where
      go : Cut c i text → (o : Option Reading) → read_step s c ≡ o
          → ((t : Reading) → At document_reader t (take (i + 1) bytes) → Reports bytes (reading_verdict t text (i + 1)))
          → Reports bytes (stepped o (reading_fault s c text i) (λ t. reading_verdict t text (i + 1)))
      go cut None g on =
          let long : bytes ≡ take i bytes ++ c ∷ text = sym (take-append-drop i bytes)
          ∙ ap (λ x. take i bytes ++ x) (sym f) in
          fault_reports s (take i bytes) c text i long (omega (arith, length-take i bytes, cut.below)) here.fits
          (stops_at document_right bytes i s cut.below here (ap (read_step s) cut.here ∙ g))
      go cut (Some t) g on = on t (step_at document_right bytes i s t cut.below here (ap (read_step s) cut.here ∙ g))

-- What is so, is answered.

-- a state in which a fault may be told
abbrev told_state : Encoding → State → Option (Encoding × State)
told_state e (between root) = None
told_state e (opened (outside root)) = None
told_state e (opened (within frame outer)) = Some (e, opened (within frame outer))
told_state e (bang place) = Some (e, bang place)
told_state e (after_dash place) = None
told_state e (in_cdata left frame outer) = None
told_state e (in_segment kind place seen tail) = None
told_state e (in_tag spot name place) = None
told_state e (in_end done left frame outer) = None
told_state e (after_name frame outer) = None

quiet : (start : Start) → told_state Utf8 (as_body start) ≡ None
quiet at_mark = refl
quiet bracket = refl
quiet after_question = refl
quiet after_x = refl
quiet after_m = refl
quiet after_l = refl

abbrev Told : Type 0
Told = Encoding × State

same_told : (s : Reading) (e : Encoding) (t : State) → lifted Told told_state s ≡ Some (e, t) → s ≡ in_body e t
same_told begin e t f = let no : ⊥ = cc in absurd no
same_told mark_one e t f = let no : ⊥ = cc in absurd no
same_told mark_two e t f = let no : ⊥ = cc in absurd no
same_told (starting start) e t f = let no : ⊥ = cc in absurd no
same_told (in_declaration space seen telling) e t f = let no : ⊥ = cc in absurd no
same_told (in_body d (opened (within frame outer))) e t f =
    ap (λ p. in_body p.0 p.1) (let same : ◌≡◌ {A = Told} (d, opened (within frame outer)) (e, t) = cc in same)
same_told (in_body d (bang place)) e t f =
    ap (λ p. in_body p.0 p.1) (let same : ◌≡◌ {A = Told} (d, bang place) (e, t) = cc in same)
same_told (in_body d (between root)) e t f = let no : ⊥ = cc in absurd no
same_told (in_body d (opened (outside root))) e t f = let no : ⊥ = cc in absurd no
same_told (in_body d (after_dash place)) e t f = let no : ⊥ = cc in absurd no
same_told (in_body d (in_cdata left frame outer)) e t f = let no : ⊥ = cc in absurd no
same_told (in_body d (in_segment kind place seen tail)) e t f = let no : ⊥ = cc in absurd no
same_told (in_body d (in_tag spot name place)) e t f = let no : ⊥ = cc in absurd no
same_told (in_body d (in_end done left frame outer)) e t f = let no : ⊥ = cc in absurd no
same_told (in_body d (after_name frame outer)) e t f = let no : ⊥ = cc in absurd no

told_verdict : (prefix rest : List ℕ) (s : Reading) (e : Encoding) (t : State) (k : ℕ)
    → reads (reading_with Told (lifted Told told_state)) prefix s ≡ Some (e, t)
    → reading_verdict s (prefix ++ rest) k ≡ reading_verdict (in_body e t) rest (k + length prefix)
told_verdict [] rest s e t k f = ap (λ x. reading_verdict x rest k) (same_told s e t f)
    ∙ ap (reading_verdict (in_body e t) rest) (omega arith)
told_verdict (c ∷ prefix) rest s e t k f =
    let next = goes_between (read_step s c) (reads (reading_with Told (lifted Told told_state)) prefix) (e, t) f in
    ap (λ o. stepped o (reading_fault s c (prefix ++ rest) k) (λ u. reading_verdict u (prefix ++ rest) (k + 1))) next.1
    ∙ told_verdict prefix rest next.0 e t (k + 1) next.2
    ∙ ap (reading_verdict (in_body e t) rest) (omega arith)

tree_verdict : (text : List ℕ) (s : Reading) (tree : Tree) (k : ℕ) → reads document_reader text s ≡ Some tree
    → reading_verdict s text k ≡ Ok tree
tree_verdict [] s tree k f = ap (λ o. ended o k) f
tree_verdict (c ∷ text) s tree k f =
    let next = goes_between (read_step s c) (reads document_reader text) tree f in
    ap (λ o. stepped o (reading_fault s c text k) (λ t. reading_verdict t text (k + 1))) next.1
    ∙ tree_verdict text next.0 tree (k + 1) next.2

-- what stands after the head does not begin a declaration, nor does any prefix of it
declares_longer : (prefix more rest : List ℕ) → declares_from prefix more ≡ true
    → declares_from prefix (more ++ rest) ≡ true
declares_longer [] [] rest f = absurd (false≢true f)
declares_longer [] (c ∷ more) rest f = f
declares_longer (a ∷ prefix) [] rest f = absurd (false≢true f)
declares_longer (a ∷ prefix) (c ∷ more) rest f =
    let both = and_parts (c == a) (declares_from prefix more) f in
    and_from (c == a) (declares_from prefix (more ++ rest)) both.0 (declares_longer prefix more rest both.1)

head_prefix : (e : Encoding) (head more rest body : List ℕ) → body ≡ more ++ rest → IsHead e head body
    → IsHead e head more
head_prefix e head more rest body whole (undeclared body1 f) =
    undeclared more
    (elim (cases_Bool (declares more)) [
      | inl a ↦ absurd
          (false≢true (sym f ∙ ap declares whole ∙ declares_longer (codes "<?xml") more rest a))
      | inr a ↦ a
    ])
head_prefix e head more rest body whole (declared e1 head1 body1 is) = declared e1 head1 more is

-- a body that is read at all begins with no byte-order mark
no_mark_ahead : (e : Encoding) (V : Type 0) (out : State → Option V) (body rest : List ℕ) (v : V)
    → reads (reader_with e V out) body (between None) ≡ Some v → begins_with byte_order_mark (body ++ rest) ≡ true
    → out (between None) ≡ None → ⊥
no_mark_ahead e V out [] rest v f g h = let no : ◌≡◌ {A = Option V} None (Some v) = sym h ∙ f in cc
no_mark_ahead e V out (c ∷ body) rest v f g h =
    let is : c ≡ 239 = eqb-true c 239 (and_parts (c == 239) (begins_with (187 ∷ (191 ∷ [])) (body ++ rest)) g).0 in
    let no : ◌≡◌ {A = Option V} None (Some v) =
    ap (λ x. reads (reader_with e V out) (x ∷ body) (between None)) (sym is) ∙ f in
    cc

not_marked : (e : Encoding) (V : Type 0) (out : State → Option V) (body rest : List ℕ) (v : V)
    → reads (reader_with e V out) body (between None) ≡ Some v → out (between None) ≡ None
    → begins_with byte_order_mark (body ++ rest) ≡ false
not_marked e V out body rest v f h =
    elim (cases_Bool (begins_with byte_order_mark (body ++ rest))) [
      | inl a ↦ absurd
          (no_mark_ahead e V out body rest v f a h)
      | inr a ↦ a
    ]

-- what is read of the body up to a state, and what is answered there
told_whole : (e : Encoding) (mark head prefix rest : List ℕ) (t : State) → IsMark mark → IsHead e head (prefix ++ rest)
    → reads (reader_with e Told (told_state e)) prefix (between None) ≡ Some (e, t)
    → whole_verdict (mark ++ (head ++ (prefix ++ rest)))
    ≡ reading_verdict (in_body e t) rest (length (mark ++ (head ++ prefix)))
told_whole e mark head prefix rest t is_mark is_head f =
    let short = head_prefix e head prefix rest (prefix ++ rest) refl is_head in
    let read = document_reads Told told_state quiet e mark head prefix (e, t) is_mark short f in
    let known =
    head_no_unknown e mark head (prefix ++ rest) is_mark is_head
    (not_marked e Told (told_state e) prefix rest (e, t) f refl) in
    let split : mark ++ (head ++ (prefix ++ rest)) ≡ (mark ++ (head ++ prefix)) ++ rest = simp append_assoc in
    ap (λ o. unless_unknown o (reading_verdict begin (mark ++ (head ++ (prefix ++ rest))) 0)) known
    ∙ ap (λ x. reading_verdict begin x 0) split
    ∙ told_verdict (mark ++ (head ++ prefix)) rest begin e t 0 read
    ∙ ap (reading_verdict (in_body e t) rest) (omega arith)

-- bytes that leave elements open
record OpensPlace (e : Encoding) (n : ℕ) (prefix : List ℕ) : Type 1 where
  place : OpenElements
  deep : depth place ≡ n
  reads_on : (V : Type 0) (out : State → Option V) (rest : List ℕ)
      → reads (reader_with e V out) (prefix ++ 60 ∷ rest) (between None)
      ≡ reads (reader_with e V out) rest (opened place)
  no_root : NoRoot place

may_open_here : (place : OpenElements) (n room : ℕ) → depth place ≡ n → suc n + room ≡ 64 → NoRoot place
    → may_open place ≡ true
may_open_here (outside root) n room f g h = h
may_open_here (within frame outer) n room f g h =
    ap not (ne_eqb (depth outer) 63 (λ same. let no : ⊥ = omega (arith, f, g, same) in no))

opens_read : (e : Encoding) (n : ℕ) (prefix : List ℕ) → Opens e n prefix → OpensPlace e n prefix
opens_read e n prefix (before_root bytes content) =
    record {
      place = outside None;
      deep = refl;
      reads_on =
          λ V out rest. content_reads e V out top 64 chars bytes [] [] [] (outside None) refl content rest;
      no_root = refl;
    }
opens_read e n prefix (inside m room ahead name tag bytes text children is_open is_tag f content) =
    let outer = opens_read e m ahead is_open in
    record {
      place = within (made e name text children) outer.place;
      deep = ap suc outer.deep;
      reads_on = λ V out rest.
          let long : (ahead ++ (tag ++ 62 ∷ bytes)) ++ 60 ∷ rest
          ≡ ahead ++ 60 ∷ (name ++ (is_tag.attributes ++ (is_tag.gap ++ 62 ∷ (bytes ++ 60 ∷ rest)))) =
          ap (λ t. (ahead ++ (t ++ 62 ∷ bytes)) ++ 60 ∷ rest) is_tag.whole ∙ simp append_assoc in
          ap (λ x. reads (reader_with e V out) x (between None)) long
          ∙ outer.reads_on V out (name ++ (is_tag.attributes ++ (is_tag.gap ++ 62 ∷ (bytes ++ 60 ∷ rest))))
          ∙ tag_reads e V out name is_tag.attributes is_tag.gap
          (bytes ++ 60 ∷ rest) outer.place 62 is_tag.is_name is_tag.are_attributes is_tag.is_gap
          (may_open_here outer.place m room outer.deep f outer.no_root) refl refl
          ∙ content_reads e V out inner room chars bytes text children name outer.place
          (omega (arith, f, outer.deep)) content rest;
      no_root = tt;
    }

deep_answer : (e : Encoding) (place : OpenElements) (c : ℕ) (text : List ℕ) (k : ℕ) → depth place ≡ 64
    → is_name_start c ≡ true → is_alive (next_tail e Whole c) ≡ true
    → reading_verdict (in_body e (opened place)) (c ∷ text) k ≡ Err (TooDeep (k - 1))
deep_answer e (outside root) c text k f g h = absurd (omega (arith, f))
deep_answer e (within frame outer) c text k f g h =
    let deep : (depth outer == 63) ≡ true = eq-eqb (depth outer) 63 (omega (arith, f)) in
    rw (g, deep, h) refl

opened_told : (e : Encoding) (place : OpenElements) → depth place ≡ 64
    → told_state e (opened place) ≡ Some (e, opened place)
opened_told e (outside root) f = absurd (omega (arith, f))
opened_told e (within frame outer) f = refl

pub too_deep_answered : (bytes : List ℕ) (place : ℕ) → IsTooDeep bytes place → whole_verdict bytes ≡ Err (TooDeep place)
too_deep_answered bytes place is =
    let e = is.encoding in
    let on = opens_read e 64 is.before is.opens in
    let prefix : List ℕ = is.before ++ 60 ∷ [] in
    let split : is.before ++ 60 ∷ (is.letter ∷ is.rest) ≡ prefix ++ is.letter ∷ is.rest =
    sym (append_assoc is.before (60 ∷ []) (is.letter ∷ is.rest)) in
    let read = on.reads_on Told (told_state e) [] ∙ opened_told e on.place on.deep in
    ap whole_verdict is.whole
    ∙ ap (λ x. whole_verdict (is.mark ++ (is.head ++ x))) split
    ∙ told_whole e is.mark is.head prefix (is.letter ∷ is.rest) (opened on.place) is.is_mark
    (subst (IsHead e is.head) split is.is_head) read
    ∙ deep_answer e on.place is.letter is.rest (length (is.mark ++ (is.head ++ prefix))) on.deep is.is_start is.is_byte
    ∙ ap (λ n. Err (TooDeep n))
    (let long : is.mark ++ (is.head ++ prefix) ≡ (is.mark ++ (is.head ++ is.before)) ++ 60 ∷ [] =
    simp append_assoc in omega
    (arith, ap length long, length-append (is.mark ++ (is.head ++ is.before)) (60 ∷ []), is.is_place))

pub doctype_answered : (bytes : List ℕ) (place : ℕ) → IsDoctype bytes place → whole_verdict bytes ≡ Err (Doctype place)
doctype_answered bytes place is =
    let e = is.encoding in
    let prefix : List ℕ = is.before ++ codes "<!" in
    let split : is.before ++ (codes "<!DOCTYPE" ++ is.rest) ≡ prefix ++ (codes "DOCTYPE" ++ is.rest) =
    sym (append_assoc is.before (codes "<!") (codes "DOCTYPE" ++ is.rest)) in
    let read = content_reads e Told (told_state e) top 64 chars is.before [] [] [] (outside None) refl is.miscellany
    (33 ∷ []) in
    ap whole_verdict is.whole
    ∙ ap (λ x. whole_verdict (is.mark ++ (is.head ++ x))) split
    ∙ told_whole e is.mark is.head prefix (codes "DOCTYPE" ++ is.rest) (bang (outside None)) is.is_mark
    (subst (IsHead e is.head) split is.is_head) read
    ∙ ap (λ n. Err (Doctype n))
    (let long : is.mark ++ (is.head ++ prefix) ≡ (is.mark ++ (is.head ++ is.before)) ++ codes "<!" =
    simp append_assoc in omega
    (arith, ap length long, length-append (is.mark ++ (is.head ++ is.before)) (codes "<!"), is.is_place))

pub unknown_answered : (bytes : List ℕ) (place : ℕ) → IsUnknown bytes place
    → whole_verdict bytes ≡ Err (UnknownEncoding place)
unknown_answered bytes place is =
    ap (λ o. unless_unknown o (reading_verdict begin bytes 0)) (unknown_found bytes place is)

-- nothing refused is a document
pub document_answered : (bytes : List ℕ) (tree : Tree) → IsDocument bytes tree → whole_verdict bytes ≡ Ok tree
document_answered bytes tree is =
    let known =
    head_no_unknown is.encoding is.mark is.head is.body is.is_mark is.is_head
    (subst (λ x. begins_with byte_order_mark x ≡ false) (append-nil is.body)
    (not_marked is.encoding Tree outcome is.body [] tree (takes is.encoding is.body tree is.is_body) refl)) in
    ap (λ o. unless_unknown o (reading_verdict begin bytes 0)) (ap unknown_of is.whole ∙ known)
    ∙ tree_verdict bytes begin tree 0 (document_takes bytes tree is)

-- no bytes are two documents' trees
pub one_tree : (bytes : List ℕ) (tree other : Tree) → IsDocument bytes tree → IsDocument bytes other → tree ≡ other
one_tree bytes tree other is its = let both : ◌≡◌ {A = Result Tree TextErr} (Ok tree) (Ok other) =
    sym (document_answered bytes tree is) ∙ document_answered bytes other its in cc

reading_reports : (bytes : List ℕ) → Reports bytes (reading_verdict begin bytes 0)
reading_reports bytes = reports bytes bytes 0 begin refl (omega arith) (at_start document_right)

plain : (bytes : List ℕ) (place : ℕ) → whole_verdict bytes ≡ Err (BadText place) → IsPlain bytes
plain bytes place f =
    record {
      known_encoding =
          λ n is. let both : ◌≡◌ {A = Result Tree TextErr} (Err (UnknownEncoding n)) (Err (BadText place)) =
          sym (unknown_answered bytes n is) ∙ f in cc;
      no_doctype = λ n is. let both : ◌≡◌ {A = Result Tree TextErr} (Err (Doctype n)) (Err (BadText place)) =
          sym (doctype_answered bytes n is) ∙ f in cc;
      shallow = λ n is. let both : ◌≡◌ {A = Result Tree TextErr} (Err (TooDeep n)) (Err (BadText place)) =
          sym (too_deep_answered bytes n is) ∙ f in cc;
    }

says_from : (bytes : List ℕ) (answer : Result Tree TextErr) → whole_verdict bytes ≡ answer → Reports bytes answer
    → Says bytes answer
says_from bytes (Ok tree) f is = is
says_from bytes (Err (BadText place)) f is = (is, plain bytes place f)
says_from bytes (Err (Doctype place)) f is = is
says_from bytes (Err (TooDeep place)) f is = is
says_from bytes (Err (UnknownEncoding place)) f is = absurd is
says_from bytes (Err NoMemory) f is = tt

-- the answer says what is so
pub verdict_says : (bytes : List ℕ) → Says bytes (whole_verdict bytes)
verdict_says bytes = go (unknown_of bytes) refl
  where
    go : (o : Option ℕ) → unknown_of bytes ≡ o → Says bytes (unless_unknown o (reading_verdict begin bytes 0))
    go None f =
        says_from bytes (reading_verdict begin bytes 0) (ap (λ o. unless_unknown o (reading_verdict begin bytes 0)) f)
        (reading_reports bytes)
    go (Some place) f = unknown_says bytes place f

-- the memory does not matter
pub no_memory : (bytes : List ℕ) → whole_verdict bytes ≡ Err NoMemory → ⊥
no_memory bytes f = go (unknown_of bytes) refl
  where
    go : (o : Option ℕ) → unknown_of bytes ≡ o → ⊥
    go None g =
        subst (Reports bytes) (sym (ap (λ o. unless_unknown o (reading_verdict begin bytes 0)) g) ∙ f)
        (reading_reports bytes)
    go (Some place) g = let no : ◌≡◌ {A = Result Tree TextErr} (Err (UnknownEncoding place)) (Err NoMemory) =
        sym (ap (λ o. unless_unknown o (reading_verdict begin bytes 0)) g) ∙ f in cc

-- the answer is the only one
says_last : (bytes : List ℕ) (place : ℕ) (answer : Result Tree TextErr) → IsPlace (Accepts IsDocument) bytes place
    → IsPlain bytes → Says bytes answer → (answer ≡ Err NoMemory) ⊎ (Err (BadText place) ≡ answer)
says_last bytes place (Ok tree) is none f = absurd (is.outside (tree, f))
says_last bytes place (Err (BadText other)) is none f =
    inr (ap (λ n. Err (BadText n)) (one_place (Accepts IsDocument) bytes place other is f.0))
says_last bytes place (Err (Doctype other)) is none f = absurd (none.no_doctype other f)
says_last bytes place (Err (TooDeep other)) is none f = absurd (none.shallow other f)
says_last bytes place (Err (UnknownEncoding other)) is none f = absurd (none.known_encoding other f)
says_last bytes place (Err NoMemory) is none f = inl refl

pub says_verdict : (bytes : List ℕ) (answer : Result Tree TextErr) → Says bytes answer
    → (answer ≡ Err NoMemory) ⊎ (whole_verdict bytes ≡ answer)
says_verdict bytes (Ok tree) f = inr (document_answered bytes tree f)
says_verdict bytes (Err (Doctype place)) f = inr (doctype_answered bytes place f)
says_verdict bytes (Err (TooDeep place)) f = inr (too_deep_answered bytes place f)
says_verdict bytes (Err (UnknownEncoding place)) f = inr (unknown_answered bytes place f)
says_verdict bytes (Err NoMemory) f = inl refl
says_verdict bytes (Err (BadText place)) f = go (whole_verdict bytes) (verdict_says bytes) (λ g. no_memory bytes g)
  where
    go : (v : Result Tree TextErr) → Says bytes v → (v ≡ Err NoMemory → ⊥)
        → (◌≡◌ {A = Result Tree TextErr} (Err (BadText place)) (Err NoMemory)) ⊎ (v ≡ Err (BadText place))
    go v is some = elim (says_last bytes place v f.0 f.1 is) [ inl g ↦ absurd (some g) | inr g ↦ inr (sym g) ]

pub some_answer : (bytes : List ℕ) → (answer : Result Tree TextErr) × Says bytes answer × (answer ≡ Err NoMemory → ⊥)
some_answer bytes = (whole_verdict bytes, verdict_says bytes, no_memory bytes)

pub read_or_short : (bytes : List ℕ) (tree : Tree) (answer : Result Tree TextErr) → IsDocument bytes tree
    → Says bytes answer → (answer ≡ Err NoMemory) ⊎ (answer ≡ Ok tree)
read_or_short bytes tree answer is f =
    elim (says_verdict bytes answer f) [ inl g ↦ inl g | inr g ↦ inr (sym g ∙ document_answered bytes tree is) ]

pub one_answer : (bytes : List ℕ) (answer other : Result Tree TextErr) → Says bytes answer → Says bytes other
    → (answer ≡ Err NoMemory) ⊎ ((other ≡ Err NoMemory) ⊎ (answer ≡ other))
one_answer bytes answer other f g =
    elim (says_verdict bytes answer f) [
      | inl h ↦ inl h
      | inr h ↦ elim (says_verdict bytes other g) [ inl k ↦ inr (inl k) | inr k ↦ inr (inr (sym h ∙ k)) ]
    ]
