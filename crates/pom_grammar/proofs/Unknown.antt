-- Where a declaration names an encoding that is not known, its place is answered.
use Rattle.std.proofs.Common.{◌≡◌, ℕ, inl, inr, ◌⊎◌, ◌+◌, Bool, true, false, cond, not, ◌&&◌, ◌||◌, List, [], ◌∷◌, ◌++◌, length, drop, refl, sym, ◌∙◌, ap, subst, arith, Option, Some, None}
use Rattle.std.specs.Prelude.{◌==◌, codes}
use Rattle.std.proofs.lemmas.Bool.{and_parts, and_from, false≢true, eqb-true, eq-eqb, cases_Bool, not-true}
use Rattle.std.proofs.lemmas.List.{append_assoc, append-nil, length_push}
use Rattle.std.specs.List.{list_all}
use Rattle.ascii_bytes.specs.Classes.{is_white}
use Rattle.pom_grammar.specs.declared.encoding.Encoding.{Encoding}
use Rattle.pom_grammar.specs.declared.encoding.Seek.{Seek}
use Rattle.pom_grammar.specs.declared.encoding.Seek.TheVariants.{Nothing, E, En, Enc, Enco, Encod, Encodi, Encodin, Word, Equals}
use Rattle.pom_grammar.specs.Characters.{is_empty, begins_with, forward, onto}
use Rattle.pom_grammar.specs.Document.{Quote, single, double, quote_byte, question, ends_from, backward}
use Rattle.pom_grammar.specs.Declarations.{Found, seeking, naming, named, next_seek, next_found, found_from, found_in, known, encoding_of, is_unknown, IsDeclaration, declares, declares_from}
use Rattle.pom_grammar.specs.Heads.{IsMark, no_mark, marked, IsHead, undeclared, declared}
use Rattle.pom_grammar.specs.Faults.{in_quotes, IsUnknown}
use Rattle.pom_grammar.specs.Verdicts.{start_next, if_unknown, unknown_from, byte_order_mark, unknown_after, unknown_of}
use Rattle.pom_grammar.proofs.Bytes.{every_one, onto_one, forward-onto}
use Rattle.pom_grammar.proofs.HeadKeeps.{found_more, found_question}
use Rattle.pom_grammar.proofs.HeadTakes.{found_named}
use Rattle.pom_grammar.proofs.HeadLives.{begins_split}

abbrev last_is_question : List ℕ → Bool
last_is_question [] = false
last_is_question (c ∷ seen) = c == 63

ends_test : (seen : List ℕ) (c : ℕ) → begins_with (backward question) (c ∷ seen) ≡ (last_is_question seen && c == 62)
ends_test [] c = elim (c == 62) as (λ b. (b && false) ≡ false) [ true ↦ refl | false ↦ refl ]
ends_test (d ∷ seen) c =
    elim (c == 62) as (λ b. (b && (d == 63 && true)) ≡ (d == 63 && b)) [
      | true ↦ elim (d == 63) as (λ x. (x && true) ≡ (x && true)) [ true ↦ refl | false ↦ refl ]
      | false ↦ elim (d == 63) as (λ x. false ≡ (x && false)) [ true ↦ refl | false ↦ refl ]
    ]

-- where the value stands in the text so far
record Named (quote : Quote) (base start : ℕ) (value after text : List ℕ) : Type 0 where
  before : List ℕ
  opens : found_in before ≡ naming quote []
  is_value : list_all (in_quotes quote) value ≡ true
  split : text ≡ before ++ (value ++ after)
  place : start ≡ base + length before

abbrev FitsFound : Found → ℕ → ℕ → List ℕ → Type 0
FitsFound (seeking seek) base start text = Unit {0}
FitsFound (naming quote value) base start text = Named quote base start value [] text
FitsFound (named value) base start text =
    (quote : Quote) × (after : List ℕ) × Named quote base start value (quote_byte quote ∷ after) text

begins_named : (quote : Quote) (base start : ℕ) (text : List ℕ) → found_in text ≡ naming quote []
    → start ≡ base + length text → Named quote base start [] [] text
begins_named quote base start text f g =
    record { before = text; opens = f; is_value = refl; split = sym (append-nil text); place = g }

found_one : (text : List ℕ) (c : ℕ) (found : Found) → found_in text ≡ found
    → found_in (text ++ c ∷ []) ≡ next_found found c
found_one text c found f = found_more (seeking Nothing) text c ∙ ap (λ x. next_found x c) f

place_next : (base k : ℕ) (text : List ℕ) (c : ℕ) → k ≡ base + length text → k + 1 ≡ base + length (text ++ c ∷ [])
place_next base k text c f = omega (arith, f, length_push text c)

seeks : (seek : Seek) (base start k c : ℕ) (text : List ℕ) → found_in text ≡ seeking seek → k ≡ base + length text
    → FitsFound (next_found (seeking seek) c) base (start_next (seeking seek) c k start) (text ++ c ∷ [])
seeks Nothing base start k c text f g = tt
seeks E base start k c text f g = tt
seeks En base start k c text f g = tt
seeks Enc base start k c text f g = tt
seeks Enco base start k c text f g = tt
seeks Encod base start k c text f g = tt
seeks Encodi base start k c text f g = tt
seeks Encodin base start k c text f g = tt
seeks Word base start k c text f g = tt
seeks Equals base start k c text f g =
    let on = found_one text c (seeking Equals) f in
    let next = place_next base k text c g in
    elim (cases_Bool (c == 34)) [
      | inl a ↦ subst
          (λ b. FitsFound
          (cond b (naming double []) (cond (c == 39) (naming single []) (seeking (next_seek Equals c)))) base
          (cond (b || c == 39) (k + 1) 0) (text ++ c ∷ [])) (sym a)
          (begins_named double base (k + 1) (text ++ c ∷ [])
          (on ∙ ap (λ b. cond b (naming double [])
          (cond (c == 39) (naming single []) (seeking (next_seek Equals c)))) a) next)
      | inr a ↦ subst
          (λ b. FitsFound
          (cond b (naming double []) (cond (c == 39) (naming single []) (seeking (next_seek Equals c)))) base
          (cond (b || c == 39) (k + 1) 0) (text ++ c ∷ [])) (sym a)
          (elim (cases_Bool (c == 39)) [
            | inl b ↦ subst
                (λ x. FitsFound (cond x (naming single []) (seeking (next_seek Equals c))) base (cond x (k + 1) 0)
                (text ++ c ∷ [])) (sym b)
                (begins_named single base (k + 1) (text ++ c ∷ [])
                (on ∙ ap (λ x. cond x (naming double [])
                (cond (c == 39) (naming single []) (seeking (next_seek Equals c)))) a
                ∙ ap (λ x. cond x (naming single []) (seeking (next_seek Equals c))) b) next)
            | inr b ↦ subst
                (λ x. FitsFound (cond x (naming single []) (seeking (next_seek Equals c))) base (cond x (k + 1) 0)
                (text ++ c ∷ [])) (sym b) tt
          ])
    ]

found_keeps : (found : Found) (base start k c : ℕ) (text : List ℕ) → found_in text ≡ found → k ≡ base + length text
    → FitsFound found base start text
    → FitsFound (next_found found c) base (start_next found c k start) (text ++ c ∷ [])
found_keeps (seeking seek) base start k c text f g fits = seeks seek base start k c text f g
found_keeps (naming quote value) base start k c text f g fits =
    elim (cases_Bool (c == quote_byte quote)) [
      | inl a ↦ subst
          (λ b. FitsFound (cond b (named value) (naming quote (value ++ c ∷ []))) base start (text ++ c ∷ [])) (sym a) (
            quote,
            [],
            record {
              before = fits.before;
              opens = fits.opens;
              is_value = fits.is_value;
              split =
                  ap (λ x. x ++ c ∷ []) fits.split
                  ∙ ap (λ b. (fits.before ++ (value ++ [])) ++ b ∷ []) (eqb-true c (quote_byte quote) a)
                  ∙ simp (append_assoc, append-nil);
              place = fits.place;
            },
          )
      | inr a ↦ subst
          (λ b. FitsFound (cond b (named value) (naming quote (value ++ c ∷ []))) base start (text ++ c ∷ [])) (sym a)
          (record {
            before = fits.before;
            opens = fits.opens;
            is_value =
                every_one (in_quotes quote) value c fits.is_value (ap not a);
            split = ap (λ x. x ++ c ∷ []) fits.split
                ∙ simp (append_assoc, append-nil);
            place = fits.place;
          })
    ]
found_keeps (named value) base start k c text f g fits =
    let is = fits.2 in (
      fits.0,
      fits.1 ++ c ∷ [],
      record {
        before = is.before;
        opens = is.opens;
        is_value = is.is_value;
        split = ap (λ x. x ++ c ∷ []) is.split
            ∙ simp append_assoc;
        place = is.place;
      },
    )

-- the text of a declaration up to its end, from a prefix on
record Ends (base n : ℕ) (done text : List ℕ) : Type 0 where
  more : List ℕ
  rest : List ℕ
  split : text ≡ more ++ 62 ∷ rest
  value : List ℕ
  is_named : found_in (done ++ more) ≡ named value
  unknown : known value ≡ None
  fits : FitsFound (named value) base n (done ++ more)
  last : (left : List ℕ) × (onto (done ++ more) [] ≡ 63 ∷ left)
  ends : ends_from question (onto done []) (more ++ 62 ∷ []) ≡ true

unknown_is : (found : Found) (start n : ℕ) → if_unknown found start ≡ Some n
    → (value : List ℕ) × (found ≡ named value) × (known value ≡ None) × (start ≡ n)
unknown_is (seeking seek) start n f = let no : ⊥ = cc in absurd no
unknown_is (naming quote value) start n f = let no : ⊥ = cc in absurd no
unknown_is (named value) start n f = go (known value) refl f
  where
    go : (o : Option Encoding) → known value ≡ o → cond (is_unknown o) (Some start) None ≡ Some n
        → (v : List ℕ) × (named value ≡ named v) × (known v ≡ None) × (start ≡ n)
    go None g h = let same : start ≡ n = cc in (value, refl, g, same)
    go (Some e) g h = let no : ⊥ = cc in absurd no

finds : (base start n : ℕ) (found : Found) (done text : List ℕ) (k : ℕ) → found_in done ≡ found → k ≡ base + length done
    → FitsFound found base start done → unknown_from start found (last_is_question (onto done [])) text k ≡ Some n
    → Ends base n done text
finds base start n found done [] k f g fits h = let no : ⊥ = cc in absurd no
finds base start n found done (c ∷ text) k f g fits h =
    elim (cases_Bool (last_is_question (onto done []) && c == 62)) [
      | inl a ↦
          let both = and_parts (last_is_question (onto done [])) (c == 62) a in
          let is = unknown_is found start n
          (sym (ap (λ b. cond b (if_unknown found start)
          (unknown_from (start_next found c k start) (next_found found c) (c == 63) text (k + 1))) a) ∙ h) in
          let same : c ≡ 62 = eqb-true c 62 both.1 in
          record {
            more = [];
            rest = text;
            split = ap (λ b. b ∷ text) same;
            value = is.0;
            is_named = ap found_in (append-nil done) ∙ f ∙ is.1;
            unknown = is.2;
            fits = subst (λ x. FitsFound (named is.0) base n x) (sym (append-nil done))
                (subst (λ s. FitsFound (named is.0) base s done) is.3
                (subst (λ x. FitsFound x base start done) is.1 fits));
            last = subst (λ x. (left : List ℕ) × (onto x [] ≡ 63 ∷ left)) (sym (append-nil done))
                (some_question (onto done []) both.0);
            ends = ap (λ b. cond b true false)
                (ends_test (onto done []) 62 ∙ and_from (last_is_question (onto done [])) true both.0 refl);
          }
      | inr a ↦
          let then : onto (done ++ c ∷ []) [] ≡ c ∷ onto done [] = onto_one done [] c in
          let on = finds base (start_next found c k start) n (next_found found c) (done ++ c ∷ []) text (k + 1)
          (found_one done c found f) (place_next base k done c g) (found_keeps found base start k c done f g fits)
          (ap (λ x. unknown_from (start_next found c k start) (next_found found c) (last_is_question x) text (k + 1))
          then ∙ sym (ap
          (λ b. cond b (if_unknown found start)
          (unknown_from (start_next found c k start) (next_found found c) (c == 63) text (k + 1))) a) ∙ h) in
          let assoc : (done ++ c ∷ []) ++ on.more ≡ done ++ c ∷ on.more = append_assoc done (c ∷ []) on.more in
          record {
            more = c ∷ on.more;
            rest = on.rest;
            split = ap (λ x. c ∷ x) on.split;
            value = on.value;
            is_named = ap found_in (sym assoc) ∙ on.is_named;
            unknown = on.unknown;
            fits = subst (λ x. FitsFound (named on.value) base n x) assoc on.fits;
            last = subst (λ x. (left : List ℕ) × (onto x [] ≡ 63 ∷ left)) assoc on.last;
            ends = ap (λ b. cond b (is_empty (on.more ++ 62 ∷ []))
                (ends_from question (c ∷ onto done []) (on.more ++ 62 ∷ []))) (ends_test (onto done []) c ∙ a)
                ∙ ap (λ x. ends_from question x (on.more ++ 62 ∷ [])) (sym then) ∙ on.ends;
          }
    ]
  where
    some_question : (seen : List ℕ) → last_is_question seen ≡ true → (left : List ℕ) × (seen ≡ 63 ∷ left)
    some_question [] x = absurd (false≢true x)
    some_question (d ∷ seen) x = (seen, ap (λ y. y ∷ seen) (eqb-true d 63 x))

-- a text that a declaration begins
pub record Declares (text : List ℕ) : Type 0 where
  pub space : ℕ
  pub rest : List ℕ
  pub is_space : is_white space ≡ true
  pub whole : text ≡ codes "<?xml" ++ space ∷ rest

pub declares_parts : (text : List ℕ) → declares text ≡ true → Declares text
declares_parts [] f = absurd (false≢true f)
declares_parts (a ∷ []) f = absurd (false≢true (and_parts (a == 60) false f).1)
declares_parts (a ∷ (b ∷ [])) f =
    absurd (false≢true (and_parts (b == 63) false (and_parts (a == 60) (b == 63 && false) f).1).1)
declares_parts (a ∷ (b ∷ (c ∷ text))) f =
    let one = and_parts (a == 60) (b == 63 && (c == 120 && declares_from (codes "ml") text)) f in
    let two = and_parts (b == 63) (c == 120 && declares_from (codes "ml") text) one.1 in
    let three = and_parts (c == 120) (declares_from (codes "ml") text) two.1 in
    let on = last_parts text three.1 in
    record {
      space = on.0;
      rest = on.1;
      is_space = on.2;
      whole = ap (λ x. x ∷ (b ∷ (c ∷ text))) (eqb-true a 60 one.0)
          ∙ ap (λ x. 60 ∷ (x ∷ (c ∷ text))) (eqb-true b 63 two.0)
          ∙ ap (λ x. 60 ∷ (63 ∷ (x ∷ text))) (eqb-true c 120 three.0) ∙ ap (λ x. codes "<?x" ++ x) on.3;
    }
  where
    last_parts : (rest : List ℕ) → declares_from (codes "ml") rest ≡ true
        → (s : ℕ) × (r : List ℕ) × (is_white s ≡ true) × (rest ≡ codes "ml" ++ s ∷ r)
    last_parts [] g = absurd (false≢true g)
    last_parts (d ∷ []) g = absurd (false≢true (and_parts (d == 109) false g).1)
    last_parts (d ∷ (x ∷ [])) g =
        absurd (false≢true (and_parts (x == 108) false (and_parts (d == 109) (x == 108 && false) g).1).1)
    last_parts (d ∷ (x ∷ (s ∷ r))) g =
        let p = and_parts (d == 109) (x == 108 && is_white s) g in
        let q = and_parts (x == 108) (is_white s) p.1 in (
          s,
          r,
          q.1,
          ap (λ y. y ∷ (x ∷ (s ∷ r))) (eqb-true d 109 p.0)
              ∙ ap (λ y. 109 ∷ (y ∷ (s ∷ r))) (eqb-true x 108 q.0),
        )

-- the last of a list
same_last : (xs ys : List ℕ) (x y : ℕ) → xs ++ x ∷ [] ≡ ys ++ y ∷ [] → (x ≡ y) × (xs ≡ ys)
same_last xs ys x y f =
    let turned : x ∷ onto xs [] ≡ y ∷ onto ys [] = sym (onto_one xs [] x) ∙ ap (λ z. onto z []) f ∙ onto_one ys [] y in
    let last : x ≡ y = cc in
    let rest : onto xs [] ≡ onto ys [] = cc in
    (last, sym (forward-onto xs []) ∙ ap forward rest ∙ forward-onto ys [])

last_or_none : (xs : List ℕ) → (xs ≡ []) ⊎ ((ys : List ℕ) × (y : ℕ) × (xs ≡ ys ++ y ∷ []))
last_or_none [] = inl refl
last_or_none (x ∷ xs) =
    elim (last_or_none xs) [
      | inl f ↦ inr ([], x, ap (λ z. x ∷ z) f)
      | inr is ↦ inr
          (x ∷ is.0, is.1, ap (λ z. x ∷ z) is.2)
    ]

quote_no_question : (quote : Quote) → 63 ≡ quote_byte quote → ⊥
quote_no_question single f = false≢true (eq-eqb 63 39 f)
quote_no_question double f = false≢true (eq-eqb 63 34 f)

-- after the name, the declaration's text goes on up to the question mark
after_name : (quote : Quote) (text prefix after : List ℕ) → text ++ 63 ∷ [] ≡ prefix ++ quote_byte quote ∷ after
    → (left : List ℕ) × (text ≡ prefix ++ quote_byte quote ∷ left)
after_name quote text prefix after f =
    elim (last_or_none after) [
      | inl none ↦ absurd
          (quote_no_question quote
          (same_last text prefix 63 (quote_byte quote) (f ∙ ap (λ x. prefix ++ quote_byte quote ∷ x) none)).0)
      | inr is ↦
          let whole : text ++ 63 ∷ [] ≡ (prefix ++ quote_byte quote ∷ is.0) ++ is.1 ∷ [] = f
          ∙ ap (λ x. prefix ++ quote_byte quote ∷ x) is.2
          ∙ sym (append_assoc prefix (quote_byte quote ∷ is.0) (is.1 ∷ [])) in
          (is.0, (same_last text (prefix ++ quote_byte quote ∷ is.0) 63 is.1 whole).1)
    ]

after_says : (mark text : List ℕ) (start n : ℕ) → IsMark mark → start ≡ length mark
    → unknown_after start text ≡ Some n → IsUnknown (mark ++ text) n
after_says mark text start n is f g =
    elim (cases_Bool (declares text)) [
      | inl a ↦
          let d = declares_parts text a in
          let there : drop 6 text ≡ d.rest = ap (drop 6) d.whole in
          let on = finds (start + 6) 0 n (seeking Nothing) [] d.rest (start + 6) refl (omega arith) tt
          (ap (λ x. unknown_from 0 (seeking Nothing) false x (start + 6)) (sym there)
          ∙ sym (ap (λ b. cond b (unknown_from 0 (seeking Nothing) false (drop 6 text) (start + 6)) None) a) ∙ g) in
          let value = on.fits.2 in
          let question_last : on.more ≡ forward on.last.0 ++ 63 ∷ [] = sym (forward-onto on.more [])
          ∙ ap forward on.last.1 in
          let left = after_name on.fits.0 (forward on.last.0) (value.before ++ on.value) on.fits.1
          (sym question_last ∙ value.split
          ∙ sym (append_assoc value.before on.value (quote_byte on.fits.0 ∷ on.fits.1))) in
          record {
            mark = mark;
            head = codes "<?xml" ++ d.space ∷ (forward on.last.0 ++ codes "?>");
            rest = on.rest;
            text = forward on.last.0;
            before = value.before;
            quote = on.fits.0;
            name = on.value;
            after = left.0;
            is_mark = is;
            is_declared =
                record {
                  space = d.space;
                  is_space = d.is_space;
                  ends =
                      ap (ends_from question []) (sym (append_assoc (forward on.last.0) (63 ∷ []) (62 ∷ [])))
                      ∙ ap (λ x. ends_from question [] (x ++ 62 ∷ [])) (sym question_last) ∙ on.ends;
                  whole = refl;
                };
            opens = value.opens;
            is_name = value.is_value;
            split = left.1 ∙ append_assoc value.before on.value (quote_byte on.fits.0 ∷ left.0);
            is_unknown = on.unknown;
            whole = ap (λ x. mark ++ x) d.whole
                ∙ ap (λ x. mark ++ (codes "<?xml" ++ d.space ∷ x))
                (on.split ∙ ap (λ x. x ++ 62 ∷ on.rest) question_last)
                ∙ ap (λ x. mark ++ (codes "<?xml" ++ d.space ∷ x)) (simp append_assoc);
            is_place = value.place ∙ omega (arith, f);
          }
      | inr a ↦ let no : ◌≡◌ {A = Option ℕ} None (Some n) =
          sym (ap (λ b. cond b (unknown_from 0 (seeking Nothing) false (drop 6 text) (start + 6)) None) a)
          ∙ g in let never : ⊥ = cc in absurd never
    ]

begins_mark : (bytes : List ℕ) → begins_with byte_order_mark bytes ≡ true → bytes ≡ byte_order_mark ++ drop 3 bytes
begins_mark bytes f = sym (begins_split byte_order_mark bytes f)

-- what is answered is so
pub unknown_says : (bytes : List ℕ) (n : ℕ) → unknown_of bytes ≡ Some n → IsUnknown bytes n
unknown_says bytes n f =
    elim (cases_Bool (begins_with byte_order_mark bytes)) [
      | inl a ↦ subst (λ x. IsUnknown x n) (sym (begins_mark bytes a))
          (after_says byte_order_mark (drop 3 bytes) 3 n marked refl
          (sym (ap (λ b. cond b (unknown_after 3 (drop 3 bytes)) (unknown_after 0 bytes)) a) ∙ f))
      | inr a ↦ after_says [] bytes 0 n no_mark refl
          (sym (ap (λ b. cond b (unknown_after 3 (drop 3 bytes)) (unknown_after 0 bytes)) a) ∙ f)
    ]

-- A scan of a declaration's text up to a byte before its end.

abbrev FitsPlace : Found → ℕ → ℕ → Type 0
FitsPlace (seeking seek) start k = Unit {0}
FitsPlace (naming quote value) start k = start + length value ≡ k
FitsPlace (named value) start k = Unit {0}

place_keeps : (found : Found) (c start k : ℕ) → FitsPlace found start k
    → FitsPlace (next_found found c) (start_next found c k start) (k + 1)
place_keeps (seeking Nothing) c start k f = tt
place_keeps (seeking E) c start k f = tt
place_keeps (seeking En) c start k f = tt
place_keeps (seeking Enc) c start k f = tt
place_keeps (seeking Enco) c start k f = tt
place_keeps (seeking Encod) c start k f = tt
place_keeps (seeking Encodi) c start k f = tt
place_keeps (seeking Encodin) c start k f = tt
place_keeps (seeking Word) c start k f = tt
place_keeps (seeking Equals) c start k f =
    elim (cases_Bool (c == 34)) [
      | inl a ↦ subst
          (λ b. FitsPlace
          (cond b (naming double []) (cond (c == 39) (naming single []) (seeking (next_seek Equals c))))
          (cond (b || c == 39) (k + 1) 0) (k + 1)) (sym a) (omega arith)
      | inr a ↦ subst
          (λ b. FitsPlace
          (cond b (naming double []) (cond (c == 39) (naming single []) (seeking (next_seek Equals c))))
          (cond (b || c == 39) (k + 1) 0) (k + 1)) (sym a)
          (elim (cases_Bool (c == 39)) [
            | inl b ↦ subst
                (λ x. FitsPlace (cond x (naming single []) (seeking (next_seek Equals c))) (cond x (k + 1) 0) (k + 1))
                (sym b) (omega arith)
            | inr b ↦ subst
                (λ x. FitsPlace (cond x (naming single []) (seeking (next_seek Equals c))) (cond x (k + 1) 0) (k + 1))
                (sym b) tt
          ])
    ]
place_keeps (naming quote value) c start k f =
    elim (cases_Bool (c == quote_byte quote)) [
      | inl a ↦ subst (λ b. FitsPlace (cond b (named value) (naming quote (value ++ c ∷ []))) start (k + 1)) (sym a) tt
      | inr a ↦ subst (λ b. FitsPlace (cond b (named value) (naming quote (value ++ c ∷ []))) start (k + 1)) (sym a)
          (omega (arith, f, length_push value c))
    ]
place_keeps (named value) c start k f = tt

not_end : (text more seen : List ℕ) (c x : ℕ) → ends_from question seen (c ∷ (text ++ x ∷ more)) ≡ true
    → ((last_is_question seen && c == 62) ≡ false) × (ends_from question (c ∷ seen) (text ++ x ∷ more) ≡ true)
not_end text more seen c x f =
    elim (cases_Bool (begins_with (backward question) (c ∷ seen))) [
      | inl a ↦ absurd
          (false≢true
          (sym (some_more text)
          ∙ sym (ap (λ b. cond b (is_empty (text ++ x ∷ more)) (ends_from question (c ∷ seen) (text ++ x ∷ more))) a)
          ∙ f))
      | inr a ↦ (
        sym (ends_test seen c)
            ∙ a,
        sym (ap
            (λ b. cond b (is_empty (text ++ x ∷ more)) (ends_from question (c ∷ seen) (text ++ x ∷ more))) a) ∙ f,
      )
    ]
  where
    some_more : (t : List ℕ) → is_empty (t ++ x ∷ more) ≡ false
    some_more [] = refl
    some_more (y ∷ t) = refl

scan_on : (text rest seen : List ℕ) (found : Found) (start k x : ℕ) (more : List ℕ)
    → ends_from question seen (text ++ x ∷ more) ≡ true → FitsPlace found start k
    → (then : ℕ)
    × (unknown_from start found (last_is_question seen) (text ++ rest) k ≡ unknown_from
    then (found_from found text) (last_is_question (onto text seen)) rest (k + length text))
    × FitsPlace (found_from found text) then (k + length text)
scan_on [] rest seen found start k x more f fits = (
  start,
  ap (unknown_from start found (last_is_question seen) rest) (omega arith),
  subst (FitsPlace found start) (omega arith) fits,
)
scan_on (c ∷ text) rest seen found start k x more f fits =
    let end = not_end text more seen c x f in
    let on = scan_on text rest (c ∷ seen) (next_found found c) (start_next found c k start) (k + 1) x more end.1
    (place_keeps found c start k fits) in
    let long : k + 1 + length text ≡ k + length (c ∷ text) = omega arith in (
      on.0,
      ap (λ b. cond b (if_unknown found start)
          (unknown_from (start_next found c k start) (next_found found c) (c == 63) (text ++ rest) (k + 1))) end.0
          ∙ on.1 ∙ ap
          (unknown_from on.0 (found_from (next_found found c) text)
          (last_is_question (onto text (c ∷ seen))) rest) long,
      subst (FitsPlace (found_from (next_found found c) text) on.0) long on.2,
    )

-- in and after the name, its place is kept
abbrev IsNaming : Found → Type 0
IsNaming (seeking seek) = ⊥
IsNaming (naming quote value) = Unit {0}
IsNaming (named value) = Unit {0}

naming_keeps : (found : Found) (c start k : ℕ) → IsNaming found
    → IsNaming (next_found found c) × (start_next found c k start ≡ start)
naming_keeps (seeking seek) c start k f = absurd f
naming_keeps (naming quote value) c start k f = (
  elim (c == quote_byte quote) as
      (λ b. IsNaming (cond b (named value) (naming quote (value ++ c ∷ [])))) [ true ↦ tt | false ↦ tt ],
  refl,
)
naming_keeps (named value) c start k f = (tt, refl)

scan_name : (text rest seen : List ℕ) (found : Found) (start k x : ℕ) (more : List ℕ)
    → ends_from question seen (text ++ x ∷ more) ≡ true → IsNaming found
    → unknown_from start found (last_is_question seen) (text ++ rest) k
    ≡ unknown_from start (found_from found text) (last_is_question (onto text seen)) rest (k + length text)
scan_name [] rest seen found start k x more f is =
    ap (unknown_from start found (last_is_question seen) rest) (omega arith)
scan_name (c ∷ text) rest seen found start k x more f is =
    let end = not_end text more seen c x f in
    let keeps = naming_keeps found c start k is in
    let long : k + 1 + length text ≡ k + length (c ∷ text) = omega arith in
    ap (λ b. cond b (if_unknown found start)
    (unknown_from (start_next found c k start) (next_found found c) (c == 63) (text ++ rest) (k + 1))) end.0
    ∙ ap (λ n. unknown_from n (next_found found c) (c == 63) (text ++ rest) (k + 1)) keeps.1
    ∙ scan_name text rest (c ∷ seen) (next_found found c) start (k + 1) x more end.1 keeps.0
    ∙ ap (unknown_from start (found_from (next_found found c) text) (last_is_question (onto text (c ∷ seen))) rest) long

ends_further : (text more seen : List ℕ) (x : ℕ) → ends_from question seen (text ++ x ∷ more) ≡ true
    → ends_from question (onto text seen) (x ∷ more) ≡ true
ends_further [] more seen x f = f
ends_further (c ∷ text) more seen x f = ends_further text more (c ∷ seen) x (not_end text more seen c x f).1

found_append : (found : Found) (xs ys : List ℕ) → found_from found (xs ++ ys) ≡ found_from (found_from found xs) ys
found_append found [] ys = refl
found_append found (x ∷ xs) ys = found_append (next_found found x) xs ys

found_name : (quote : Quote) (value name : List ℕ) → list_all (in_quotes quote) name ≡ true
    → found_from (naming quote value) name ≡ naming quote (value ++ name)
found_name quote value [] f = ap (naming quote) (sym (append-nil value))
found_name quote value (c ∷ name) f =
    let both = and_parts (in_quotes quote c) (list_all (in_quotes quote) name) f in
    ap (λ b. found_from (cond b (named value) (naming quote (value ++ c ∷ []))) name)
    (not-true (c == quote_byte quote) both.0) ∙ found_name quote (value ++ c ∷ []) name both.1
    ∙ ap (naming quote) (append_assoc value (c ∷ []) name)

quote_ends : (quote : Quote) (name : List ℕ) → next_found (naming quote name) (quote_byte quote) ≡ named name
quote_ends single name = refl
quote_ends double name = refl

-- a declaration that names an encoding that is known, or none
known_none : (found : Found) (e : Encoding) (start : ℕ) → encoding_of found ≡ Some e → if_unknown found start ≡ None
known_none (seeking seek) e start f = refl
known_none (naming quote value) e start f = refl
known_none (named value) e start f = ap (λ o. cond (is_unknown o) (Some start) None) f

head_known : (e : Encoding) (head body : List ℕ) (start : ℕ) → IsDeclaration e head
    → unknown_after start (head ++ body) ≡ None
head_known e head body start is =
    let d = is.is_declared in
    let text : List ℕ = is.text ++ 63 ∷ [] in
    let end : text ++ 62 ∷ [] ≡ is.text ++ codes "?>" = append_assoc is.text (63 ∷ []) (62 ∷ []) in
    let long : head ++ body ≡ codes "<?xml" ++ d.space ∷ (text ++ 62 ∷ body) = ap (λ x. x ++ body) d.whole
    ∙ simp append_assoc in
    let on = scan_on text (62 ∷ body) [] (seeking Nothing) 0 (start + 6) 62 []
    (ap (ends_from question []) end ∙ d.ends) tt in
    let last : last_is_question (onto text []) ≡ true = ap last_is_question (onto_one is.text [] 63) in
    let found : encoding_of (found_from (seeking Nothing) text) ≡ Some e =
    ap encoding_of (found_more (seeking Nothing) is.text 63) ∙ found_question (found_in is.text) ∙ is.encoding in
    ap (unknown_after start) long
    ∙ ap (λ b. cond b (unknown_from 0 (seeking Nothing) false (text ++ 62 ∷ body) (start + 6)) None) d.is_space
    ∙ on.1
    ∙ ap (λ b. cond (b && true) (if_unknown (found_from (seeking Nothing) text) on.0)
    (unknown_from (start_next (found_from (seeking Nothing) text) 62 (start + 6 + length text) on.0)
    (next_found (found_from (seeking Nothing) text) 62) false body (start + 6 + length text + 1))) last
    ∙ known_none (found_from (seeking Nothing) text) e on.0 found

head_none : (e : Encoding) (head body : List ℕ) (start : ℕ) → IsHead e head body
    → unknown_after start (head ++ body) ≡ None
head_none e head body start (undeclared body1 f) =
    ap (λ b. cond b (unknown_from 0 (seeking Nothing) false (drop 6 body1) (start + 6)) None) f
head_none e head body start (declared e1 head1 body1 is) = head_known e1 head1 body1 start is

abbrev NoMark : List ℕ → Type 0
NoMark bytes = begins_with byte_order_mark bytes ≡ false

head_no_mark : (e : Encoding) (head body : List ℕ) → IsHead e head body → NoMark body → NoMark (head ++ body)
head_no_mark e head body (undeclared body1 f) g = g
head_no_mark e head body (declared e1 head1 body1 is) g =
    ap (λ x. begins_with byte_order_mark (x ++ body1)) is.is_declared.whole

-- nothing is unknown in a document, nor before another fault
pub head_no_unknown : (e : Encoding) (mark head body : List ℕ) → IsMark mark → IsHead e head body → NoMark body
    → unknown_of (mark ++ (head ++ body)) ≡ None
head_no_unknown e mark head body no_mark is f =
    ap (λ b. cond b (unknown_after 3 (drop 3 (head ++ body))) (unknown_after 0 (head ++ body)))
    (head_no_mark e head body is f) ∙ head_none e head body 0 is
head_no_unknown e mark head body marked is f = head_none e head body 3 is

-- what is so is answered
mark_unknown : (mark text : List ℕ) (n : ℕ) → IsMark mark → NoMark text → unknown_after (length mark) text ≡ Some n
    → unknown_of (mark ++ text) ≡ Some n
mark_unknown mark text n no_mark f g = ap (λ b. cond b (unknown_after 3 (drop 3 text)) (unknown_after 0 text)) f ∙ g
mark_unknown mark text n marked f g = g

pub unknown_found : (bytes : List ℕ) (place : ℕ) → IsUnknown bytes place → unknown_of bytes ≡ Some place
unknown_found bytes place is =
    let d = is.is_declared in
    let q : ℕ = quote_byte is.quote in
    let m : ℕ = length is.mark in
    let after : List ℕ = is.name ++ q ∷ (is.after ++ 63 ∷ []) in
    let rest : List ℕ = after ++ 62 ∷ is.rest in
    let cut : is.text ++ codes "?>" ≡ is.before ++ (after ++ 62 ∷ []) = ap (λ x. x ++ codes "?>") is.split
    ∙ simp append_assoc in
    let long : is.head ++ is.rest ≡ codes "<?xml" ++ d.space ∷ (is.before ++ rest) = ap (λ x. x ++ is.rest) d.whole
    ∙ ap (λ x. (codes "<?xml" ++ d.space ∷ x) ++ is.rest) cut ∙ simp append_assoc in
    let ends : ends_from question [] ((is.before ++ after) ++ 62 ∷ []) ≡ true =
    ap (ends_from question []) (append_assoc is.before after (62 ∷ []) ∙ sym cut) ∙ d.ends in
    let name_first = first_of is.name q (is.after ++ 63 ∷ []) in
    let ends_before : ends_from question [] (is.before ++ name_first.0 ∷ (name_first.1 ++ 62 ∷ [])) ≡ true =
    ap (λ x. ends_from question [] (is.before ++ (x ++ 62 ∷ []))) (sym name_first.2)
    ∙ ap (ends_from question []) (sym (append_assoc is.before after (62 ∷ []))) ∙ ends in
    let on = scan_on is.before rest [] (seeking Nothing) 0 (m + 6) name_first.0
    (name_first.1 ++ 62 ∷ []) ends_before tt in
    let here : on.0 + 0 ≡ m + 6 + length is.before =
    subst (λ x. FitsPlace x on.0 (m + 6 + length is.before)) is.opens on.2 in
    let seen : List ℕ = onto is.before [] in
    let ends_after : ends_from question seen (after ++ 62 ∷ []) ≡ true =
    ap (λ x. ends_from question seen (x ++ 62 ∷ [])) name_first.2
    ∙ ends_further is.before (name_first.1 ++ 62 ∷ []) [] name_first.0 ends_before in
    let then = scan_name after (62 ∷ is.rest) seen (naming is.quote []) on.0
    (m + 6 + length is.before) 62 [] ends_after tt in
    let found : found_from (naming is.quote []) after ≡ named is.name =
    found_append (naming is.quote []) is.name (q ∷ (is.after ++ 63 ∷ []))
    ∙ ap (λ x. found_from x (q ∷ (is.after ++ 63 ∷ []))) (found_name is.quote [] is.name is.is_name)
    ∙ ap (λ x. found_from x (is.after ++ 63 ∷ [])) (quote_ends is.quote is.name)
    ∙ found_named is.name (is.after ++ 63 ∷ []) in
    let last_one : after ≡ (is.name ++ q ∷ is.after) ++ 63 ∷ [] =
    sym (append_assoc is.name (q ∷ is.after) (63 ∷ [])) in
    let last : last_is_question (onto after seen) ≡ true = ap (λ x. last_is_question (onto x seen)) last_one
    ∙ ap last_is_question (onto_one (is.name ++ q ∷ is.after) seen 63) in
    let k : ℕ = m + 6 + length is.before + length after in
    let at_end : unknown_from on.0 (named is.name) (last_is_question (onto after seen)) (62 ∷ is.rest) k ≡ Some place =
    ap (λ b. cond (b && true) (if_unknown (named is.name) on.0)
    (unknown_from on.0 (named is.name) false is.rest (k + 1))) last
    ∙ ap (λ o. cond (is_unknown o) (Some on.0) None) is.is_unknown
    ∙ ap Some (omega (arith, here, is.is_place)) in
    let answer : unknown_after m (is.head ++ is.rest) ≡ Some place =
    ap (unknown_after m) long
    ∙ ap (λ b. cond b (unknown_from 0 (seeking Nothing) false (is.before ++ rest) (m + 6)) None) d.is_space
    ∙ on.1
    ∙ ap (λ x. unknown_from on.0 x (last_is_question seen) rest (m + 6 + length is.before)) is.opens
    ∙ then
    ∙ ap (λ x. unknown_from on.0 x (last_is_question (onto after seen)) (62 ∷ is.rest) k) found
    ∙ at_end in
    ap unknown_of is.whole
    ∙ mark_unknown is.mark (is.head ++ is.rest) place is.is_mark
    (ap (λ x. begins_with byte_order_mark (x ++ is.rest)) d.whole) answer
  where
    first_of : (name : List ℕ) (x : ℕ) (more : List ℕ) → (a : ℕ) × (left : List ℕ) × (name ++ x ∷ more ≡ a ∷ left)
    first_of [] x more = (x, more, refl)
    first_of (a ∷ name) x more = (a, name ++ x ∷ more, refl)
