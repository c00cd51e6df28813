-- How a line of a record begins, by its format, and a line of an absence record.
use Rattle.std.proofs.Common.{◌≡◌, ◌⊎◌, inl, inr, ℕ, ◌+◌, ◌≤◌, max, Bool, true, false, List, [], ◌∷◌, ◌++◌, length, Option, Some, None, refl, sym, ◌∙◌, ap, subst, arith}
use Rattle.std.specs.Prelude.{codes, is_some}
use Rattle.fault_place.specs.Place.{IsPlace}
use Rattle.fault_place.specs.Reader.{Accepts}
use Rattle.cache_layout.specs.Fields.{IsFieldsText, IsMomentText, format_head}
use Rattle.cache_layout.specs.Lines.{IsGoneLine, IsRecordLine, fields_text, head_text, moment_text}
use Rattle.cache_layout.specs.Places.{common}
use Rattle.cache_layout.specs.declared.record.Record.{Record}
use Rattle.cache_layout.proofs.Literals.{Behind, Either, behind_at, differ_at, either_left, either_place, either_right, not_behind, same_place}
use Rattle.cache_layout.proofs.Tailed.{fields_tail, moment_tail}
use Rattle.cache_layout.proofs.Tails.{some_tail}

abbrev pub first_head : List ℕ
first_head = codes "coursier-cache 1"

abbrev pub second_head : List ℕ
second_head = codes "coursier-cache 2"

abbrev First : List ℕ → Type 0
First = Behind first_head (Accepts (IsFieldsText false))

abbrev Second : List ℕ → Type 0
Second = Behind second_head (Accepts (IsFieldsText true))

head_first : (o : Option (List ℕ)) → is_some o ≡ false → head_text o ≡ first_head
head_first None e = refl
head_first (Some x) e = cc

head_second : (o : Option (List ℕ)) → is_some o ≡ true → head_text o ≡ second_head
head_second None e = cc
head_second (Some x) e = refl

pub first_line : (text rest : List ℕ) (entry : Record) → text ≡ first_head ++ rest → IsFieldsText false rest entry
    → IsRecordLine text entry
first_line text rest entry e is = record {
  whole = e ∙ ap (λ t. first_head ++ t) is.whole
      ∙ ap (λ t. t ++ fields_text entry) (sym (head_first entry.sha256 is.format));
  sha1 = is.sha1;
  sha256 = is.sha256;
  small_length = is.small_length;
  small_moment = is.small_moment;
}

pub second_line : (text rest : List ℕ) (entry : Record) → text ≡ second_head ++ rest → IsFieldsText true rest entry
    → IsRecordLine text entry
second_line text rest entry e is = record {
  whole = e ∙ ap (λ t. second_head ++ t) is.whole
      ∙ ap (λ t. t ++ fields_text entry) (sym (head_second entry.sha256 is.format));
  sha1 = is.sha1;
  sha256 = is.sha256;
  small_length = is.small_length;
  small_moment = is.small_moment;
}

into : (text : List ℕ) → Either First Second text → Accepts IsRecordLine text
into text (inl first) = (first.is.0, first_line text first.rest first.is.0 first.whole first.is.1)
into text (inr second) = (second.is.0, second_line text second.rest second.is.0 second.whole second.is.1)

fields_of : (second : Bool) (entry : Record) (text : List ℕ) → IsRecordLine text entry → is_some entry.sha256 ≡ second
    → IsFieldsText second (fields_text entry) entry
fields_of second entry text is format = record {
  whole = refl;
  format = format;
  sha1 = is.sha1;
  sha256 = is.sha256;
  small_length = is.small_length;
  small_moment = is.small_moment;
}

back : (text : List ℕ) → Accepts IsRecordLine text → Either First Second text
back text (entry, is) = by (is_some entry.sha256) refl
  where
    by : (second : Bool) → is_some entry.sha256 ≡ second → Either First Second text
    by false e = inl (record {
      rest = fields_text entry;
      whole = is.whole ∙ ap (λ t. t ++ fields_text entry) (head_first entry.sha256 e);
      is = (entry, fields_of false entry text is e);
    })
    by true e = inr (record {
      rest = fields_text entry;
      whole = is.whole ∙ ap (λ t. t ++ fields_text entry) (head_second entry.sha256 e);
      is = (entry, fields_of true entry text is e);
    })

line_place : (text : List ℕ) (n : ℕ) → IsPlace (Either First Second) text n → IsPlace (Accepts IsRecordLine) text n
line_place text n at = same_place (Either First Second) (Accepts IsRecordLine) text n into back at

pub leaves_first : (text rest : List ℕ) (n m : ℕ) → text ≡ first_head ++ rest → m ≡ 16 + n
    → IsPlace (Accepts (IsFieldsText false)) rest n → IsPlace (Accepts IsRecordLine) text m
leaves_first text rest n m e count at =
    let some = some_tail (fields_tail true) in
    let first : IsPlace First (first_head ++ rest) (16 + n) = behind_at first_head (Accepts (IsFieldsText false)) rest n
    at in
    let second : IsPlace Second (first_head ++ rest) 15 = not_behind second_head (Accepts (IsFieldsText true))
    (first_head ++ rest)
    (λ r f. differ_at 15 49 50 (first_head ++ rest) (second_head ++ r) refl refl (λ g. omega (arith, g)) f) some.0 some.1 in
    subst (λ t. IsPlace (Accepts IsRecordLine) t m) (sym e)
    (subst (λ k. IsPlace (Accepts IsRecordLine) (first_head ++ rest) k) (sym count)
    (line_place (first_head ++ rest) (16 + n)
    (either_left First Second (first_head ++ rest) (16 + n) 15 (omega arith) first second)))

pub leaves_second : (text rest : List ℕ) (n m : ℕ) → text ≡ second_head ++ rest → m ≡ 16 + n
    → IsPlace (Accepts (IsFieldsText true)) rest n → IsPlace (Accepts IsRecordLine) text m
leaves_second text rest n m e count at =
    let some = some_tail (fields_tail false) in
    let second : IsPlace Second (second_head ++ rest) (16 + n) = behind_at second_head (Accepts (IsFieldsText true)) rest n
    at in
    let first : IsPlace First (second_head ++ rest) 15 = not_behind first_head (Accepts (IsFieldsText false))
    (second_head ++ rest)
    (λ r f. differ_at 15 50 49 (second_head ++ rest) (first_head ++ r) refl refl (λ g. omega (arith, g)) f) some.0 some.1 in
    subst (λ t. IsPlace (Accepts IsRecordLine) t m) (sym e)
    (subst (λ k. IsPlace (Accepts IsRecordLine) (second_head ++ rest) k) (sym count)
    (line_place (second_head ++ rest) (16 + n)
    (either_right First Second (second_head ++ rest) 15 (16 + n) (omega arith) first second)))

pub leaves_heads : (text : List ℕ) → ((rest : List ℕ) → text ≡ first_head ++ rest → ⊥)
    → ((rest : List ℕ) → text ≡ second_head ++ rest → ⊥)
    → IsPlace (Accepts IsRecordLine) text (max (common first_head text) (common second_head text))
leaves_heads text not_first not_second =
    let one = some_tail (fields_tail false) in
    let two = some_tail (fields_tail true) in
    line_place text (max (common first_head text) (common second_head text))
    (either_place First Second text (common first_head text) (common second_head text)
    (not_behind first_head (Accepts (IsFieldsText false)) text not_first one.0 one.1)
    (not_behind second_head (Accepts (IsFieldsText true)) text not_second two.0 two.1))

-- absence records

abbrev pub gone_head : List ℕ
gone_head = codes "coursier-gone 1"

pub gone_line : (text rest : List ℕ) (moment : ℕ) → text ≡ gone_head ++ rest → IsMomentText rest moment
    → IsGoneLine text moment
gone_line text rest moment e is = record { whole = e ∙ ap (λ t. gone_head ++ t) is.whole; small = is.small }

into_gone : (text : List ℕ) → Behind gone_head (Accepts IsMomentText) text → Accepts IsGoneLine text
into_gone text behind = (behind.is.0, gone_line text behind.rest behind.is.0 behind.whole behind.is.1)

back_gone : (text : List ℕ) → Accepts IsGoneLine text → Behind gone_head (Accepts IsMomentText) text
back_gone text (moment, is) = record {
  rest = moment_text moment;
  whole = is.whole;
  is = (moment, record { whole = refl; small = is.small });
}

pub leaves_gone : (text rest : List ℕ) (n m : ℕ) → text ≡ gone_head ++ rest → m ≡ 15 + n
    → IsPlace (Accepts IsMomentText) rest n → IsPlace (Accepts IsGoneLine) text m
leaves_gone text rest n m e count at =
    subst (λ t. IsPlace (Accepts IsGoneLine) t m) (sym e)
    (subst (λ k. IsPlace (Accepts IsGoneLine) (gone_head ++ rest) k) (sym count)
    (same_place (Behind gone_head (Accepts IsMomentText)) (Accepts IsGoneLine) (gone_head ++ rest) (15 + n) into_gone
    back_gone (behind_at gone_head (Accepts IsMomentText) rest n at)))

pub leaves_gone_head : (text : List ℕ) → ((rest : List ℕ) → text ≡ gone_head ++ rest → ⊥)
    → IsPlace (Accepts IsGoneLine) text (common gone_head text)
leaves_gone_head text never =
    let some = some_tail moment_tail in
    same_place (Behind gone_head (Accepts IsMomentText)) (Accepts IsGoneLine) text (common gone_head text) into_gone
    back_gone (not_behind gone_head (Accepts IsMomentText) text never some.0 some.1)

-- a line by its format

pub head_line : (second : Bool) (text rest : List ℕ) (entry : Record) → text ≡ format_head second ++ rest
    → IsFieldsText second rest entry → IsRecordLine text entry
head_line false = first_line
head_line true = second_line

pub leaves_head : (second : Bool) (text rest : List ℕ) (n m : ℕ) → text ≡ format_head second ++ rest → m ≡ 16 + n
    → IsPlace (Accepts (IsFieldsText second)) rest n → IsPlace (Accepts IsRecordLine) text m
leaves_head false = leaves_first
leaves_head true = leaves_second
