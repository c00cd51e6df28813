-- The reader of coordinates is right: it reads exactly the texts of coordinates.
use Rattle.std.proofs.Common.{◌≡◌, ℕ, inl, inr, Bool, true, false, cond, not, ◌&&◌, ◌||◌, List, [], ◌∷◌, ◌++◌, length, refl, sym, ◌∙◌, ap, subst, arith, Some, None}
use Rattle.std.specs.Prelude.{IfSome, ◌==◌, nat_le}
use Rattle.std.specs.List.{list_all}
use Rattle.std.proofs.lemmas.List.Folds.{list_all-append}
use Rattle.std.proofs.lemmas.Bool.{cond_both, and_parts, and_from, and_right, eqb-true, cases_Bool, lt-leb}
use Rattle.std.proofs.lemmas.List.{append_assoc, append-nil}
use Rattle.fault_place.specs.Reader.{reads, IsRight}
use Rattle.res_base.specs.Builders.{coord_of}
use Rattle.ascii_bytes.specs.Classes.{is_word_byte, is_plain_byte}
use Rattle.res_base.specs.Plain.{is_dot, goes_on_as_org, is_plain_org, is_plain_name, is_at_most_two_dots}
use Rattle.res_base.specs.CoordText.{is_constraint_byte, is_constraint_text, IsCoordText}
use Rattle.res_base.specs.CoordReader.{State, in_org, in_name, in_constraint, step, outcome, Fits, coord_reader}
use Rattle.res_base.specs.declared.coord.Coord.{Coord}

not_all-append : (test : ℕ → Bool) (xs ys : List ℕ) → list_all test ys ≡ false → list_all test (xs ++ ys) ≡ false
not_all-append test xs ys g = list_all-append test xs ys ∙ and_right (list_all test xs) (list_all test ys) g

all_one_more : (test : ℕ → Bool) (xs : List ℕ) (b : ℕ) → list_all test xs ≡ true → test b ≡ true
    → list_all test (xs ++ b ∷ []) ≡ true
all_one_more test xs b f g = list_all-append test xs (b ∷ [])
    ∙ and_from (list_all test xs) (test b && true) f (rw g refl)

keeps : (s : State) (prefix : List ℕ) (b : ℕ) → Fits s prefix → IfSome (step s b) (λ t. Fits t (prefix ++ b ∷ []))
keeps (in_org org in_part) prefix b fits =
    cond_both (is_word_byte b) _ _ (λ o. IfSome o (λ t. Fits t (prefix ++ b ∷ [])))
    (λ word. record {
      whole = ap (λ x. x ++ b ∷ []) fits.whole;
      goes_on = λ text. ap is_plain_org (append_assoc org (b ∷ []) text) ∙ fits.goes_on (b ∷ text) ∙ rw word refl;
    })
    (λ word. cond_both (is_dot b && in_part) _ _ (λ o. IfSome o (λ t. Fits t (prefix ++ b ∷ [])))
    (λ dot. record {
      whole = ap (λ x. x ++ b ∷ []) fits.whole;
      goes_on = λ text. ap is_plain_org (append_assoc org (b ∷ []) text) ∙ fits.goes_on (b ∷ text)
          ∙ rw (word, dot) refl;
    })
    (λ dot. cond_both (b == 58 && in_part) _ _ (λ o. IfSome o (λ t. Fits t (prefix ++ b ∷ [])))
    (λ colon.
    let both = and_parts (b == 58) in_part colon in
    let is : b ≡ 58 = eqb-true b 58 both.0 in
    record {
      whole = rw (fits.whole, is) refl;
      plain_org = ap is_plain_org (sym (append-nil org)) ∙ fits.goes_on [] ∙ both.1;
      bytes = refl;
    })
    (λ _. tt)))
keeps (in_name org name) prefix b fits =
    cond_both (is_plain_byte b) _ _ (λ o. IfSome o (λ t. Fits t (prefix ++ b ∷ [])))
    (λ plain. record {
      whole = ap (λ x. x ++ b ∷ []) fits.whole ∙ append_assoc org (58 ∷ name) (b ∷ []);
      plain_org = fits.plain_org;
      bytes = all_one_more is_plain_byte name b fits.bytes plain;
    })
    (λ _. cond_both (b == 58 && is_plain_name name) _ _ (λ o. IfSome o (λ t. Fits t (prefix ++ b ∷ [])))
    (λ colon.
    let both = and_parts (b == 58) (is_plain_name name) colon in
    let is : b ≡ 58 = eqb-true b 58 both.0 in
    record {
      whole = ap (λ x. x ++ b ∷ []) fits.whole ∙ append_assoc org (58 ∷ name) (b ∷ [])
          ∙ ap (λ c. org ++ 58 ∷ (name ++ c ∷ [])) is;
      plain_org = fits.plain_org;
      plain_name = both.1;
      bytes = refl;
    })
    (λ _. tt))
keeps (in_constraint org name text) prefix b fits =
    cond_both (is_constraint_byte b) _ _ (λ o. IfSome o (λ t. Fits t (prefix ++ b ∷ [])))
    (λ good. record {
      whole = ap (λ x. x ++ b ∷ []) fits.whole ∙ append_assoc org (58 ∷ (name ++ 58 ∷ text)) (b ∷ [])
          ∙ ap (λ x. org ++ 58 ∷ x) (append_assoc name (58 ∷ text) (b ∷ []));
      plain_org = fits.plain_org;
      plain_name = fits.plain_name;
      bytes = all_one_more is_constraint_byte text b fits.bytes good;
    })
    (λ _. tt)

gives : (s : State) (prefix : List ℕ) (coord : Coord) → Fits s prefix → outcome s ≡ Some coord
    → IsCoordText prefix coord
gives (in_org org in_part) prefix coord fits e = cc
gives (in_name org name) prefix coord fits e = cc
gives (in_constraint org name text) prefix coord fits e =
    let made : Coord = coord_of org name text in
    let decided = cond_both (is_constraint_text text) (Some made) None (λ o. o ≡ Some coord → IsCoordText prefix coord)
    (λ good same. let is : made ≡ coord = cc in subst (IsCoordText prefix) is
    (record { whole = fits.whole; org = fits.plain_org; name = fits.plain_name; constraint = good }))
    (λ _ same. let no : ⊥ = cc in absurd no) in
    decided e

-- the three segments, each read as a whole

org_read : (text org rest : List ℕ) (in_part : Bool) → goes_on_as_org in_part text ≡ true
    → reads coord_reader (text ++ 58 ∷ rest) (in_org org in_part) ≡ reads coord_reader rest (in_name (org ++ text) [])
org_read [] org rest in_part e = rw (e, append-nil) refl
org_read (c ∷ text) org rest in_part e =
    let both = and_parts (is_word_byte c || (is_dot c && in_part)) (goes_on_as_org (is_word_byte c) text) e in
    let on = org_read text (org ++ c ∷ []) rest (is_word_byte c) both.1 in
    let whole : (org ++ c ∷ []) ++ text ≡ org ++ c ∷ text = append_assoc org (c ∷ []) text in
    elim (cases_Bool (is_word_byte c)) [
      | inl word ↦ rw word (rw word at (rw whole at on))
      | inr word ↦
          let dot : (is_dot c && in_part) ≡ true = rw word at both.0 in
          rw (word, dot) (rw word at (rw whole at on))
    ]

name_read : (text org name rest : List ℕ) → list_all is_plain_byte text ≡ true → is_plain_name (name ++ text) ≡ true
    → reads coord_reader (text ++ 58 ∷ rest) (in_name org name)
    ≡ reads coord_reader rest (in_constraint org (name ++ text) [])
name_read [] org name rest e f =
    let plain : is_plain_name name ≡ true = ap is_plain_name (sym (append-nil name)) ∙ f in
    rw (plain, append-nil) refl
name_read (c ∷ text) org name rest e f =
    let both = and_parts (is_plain_byte c) (list_all is_plain_byte text) e in
    let whole : (name ++ c ∷ []) ++ text ≡ name ++ c ∷ text = append_assoc name (c ∷ []) text in
    let on = name_read text org (name ++ c ∷ []) rest both.1 (ap is_plain_name whole ∙ f) in
    rw both.0 (rw whole at on)

constraint_read : (text org name begun : List ℕ) → list_all is_constraint_byte text ≡ true
    → reads coord_reader text (in_constraint org name begun) ≡ outcome (in_constraint org name (begun ++ text))
constraint_read [] org name begun e = rw append-nil refl
constraint_read (c ∷ text) org name begun e =
    let both = and_parts (is_constraint_byte c) (list_all is_constraint_byte text) e in
    let whole : (begun ++ c ∷ []) ++ text ≡ begun ++ c ∷ text = append_assoc begun (c ∷ []) text in
    let on = constraint_read text org name (begun ++ c ∷ []) both.1 in
    rw both.0 (rw whole at on)

takes : (text : List ℕ) (coord : Coord) → IsCoordText text coord
    → reads coord_reader text (in_org [] false) ≡ Some coord
takes text coord is =
    let org = coord.«module».org in
    let name = coord.«module».name in
    let plain = and_parts (list_all is_plain_byte name) (not (is_at_most_two_dots name)) is.name in
    let bytes = and_parts (list_all is_constraint_byte coord.version)
    (not (nat_le (length coord.version) 0)) is.constraint in
    ap (λ x. reads coord_reader x (in_org [] false)) is.whole
    ∙ org_read org [] (name ++ 58 ∷ coord.version) false is.org
    ∙ name_read name org [] coord.version plain.0 is.name
    ∙ constraint_read coord.version org name [] bytes.0
    ∙ ap (λ b. cond b (Some coord) None) is.constraint

-- a letter more makes plain bytes a plain name
plain_with_letter : (name : List ℕ) → list_all is_plain_byte name ≡ true → is_plain_name (name ++ 97 ∷ []) ≡ true
plain_with_letter name e =
    let bytes = all_one_more is_plain_byte name 97 e refl in
    let dots : list_all is_dot (name ++ 97 ∷ []) ≡ false = not_all-append is_dot name (97 ∷ []) refl in
    rw (bytes, dots) refl

not_empty : (text : List ℕ) (b : ℕ) → nat_le (length (text ++ b ∷ [])) 0 ≡ false
not_empty [] b = refl
not_empty (x ∷ text) b = lt-leb (length (x ∷ (text ++ b ∷ []))) 0 (omega arith)

-- from each state some rest leads to an outcome: `a:a:1` and what is left of it
lives : (s : State) (prefix : List ℕ) → Fits s prefix → (rest : List ℕ) × (coord : Coord)
    × (reads coord_reader rest s ≡ Some coord)
lives (in_org org in_part) prefix fits = (
  97 ∷ 58 ∷ 97 ∷ 58 ∷ 49 ∷ [],
  coord_of (org ++ 97 ∷ []) (97 ∷ [])
      (49 ∷ []),
  refl,
)
lives (in_name org name) prefix fits = (
  97 ∷ 58 ∷ 49 ∷ [],
  coord_of org (name ++ 97 ∷ []) (49 ∷ []),
  rw
      (plain_with_letter name fits.bytes) refl,
)
lives (in_constraint org name text) prefix fits = (
  49 ∷ [],
  coord_of org name (text ++ 49 ∷ []),
  let bytes =
      all_one_more is_constraint_byte text 49 fits.bytes refl in rw (bytes, not_empty text 49) refl,
)

pub right : IsRight coord_reader IsCoordText
right = record {
  begins = record { whole = refl; goes_on = λ text. refl };
  keeps = keeps;
  gives = gives;
  takes = takes;
  lives = lives;
}
