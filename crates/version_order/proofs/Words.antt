-- A word that is no text is none of the words that have a class.
use Rattle.std.proofs.Common.{◌≡◌, ℕ, Bool, true, List, [], ◌∷◌, inl, inr, refl, subst, None}
use Rattle.std.specs.Prelude.{nat_lt}
use Rattle.std.specs.List.{list_all}
use Rattle.std.specs.Str.{bytes_eq, IsUtf8, IsAscii}
use Rattle.std.proofs.lemmas.Bool.{and_parts, cases_Bool, ltb-true}
use Rattle.std.proofs.lemmas.Slice.Eq.{bytes_eq-Decides}
use Rattle.std.proofs.lemmas.Str.{IsUtf8-from_ascii}
use Rattle.std.proofs.lemmas.Str.Ascii.{IsAscii-nil, IsAscii-cons}
use Rattle.case_table.specs.Rows.{value_at}
use Rattle.version_order.specs.Ranks.{qualifiers}

abbrev pub is_ascii : List ℕ → Bool
is_ascii = list_all (λ b. nat_lt b 128)

pub ascii_text : (bs : List ℕ) → is_ascii bs ≡ true → IsUtf8 bs
ascii_text bs e = IsUtf8-from_ascii bs (ascii bs e)
  where
    ascii : (bs : List ℕ) → is_ascii bs ≡ true → IsAscii bs
    ascii [] e = IsAscii-nil
    ascii (b ∷ bs) e =
        let both = and_parts (nat_lt b 128) (is_ascii bs) e in
        IsAscii-cons b bs (ltb-true b 128 both.0) (ascii bs both.1)

unfound : {T : Type 0} (rows : List (List ℕ × T)) (word : List ℕ) → list_all (λ row. is_ascii row.0) rows ≡ true
    → (IsUtf8 word → ⊥) → value_at word rows ≡ None
unfound [] word e foreign = refl
unfound (row ∷ rows) word e foreign =
    let both = and_parts (is_ascii row.0) (list_all (λ r. is_ascii r.0) rows) e in
    elim (cases_Bool (bytes_eq row.0 word)) [
      | inl same ↦ absurd (foreign (subst IsUtf8 ((bytes_eq-Decides row.0 word).0 same) (ascii_text row.0 both.0)))
      | inr apart ↦ rw apart (unfound rows word both.1 foreign)
    ]

pub no_qualifier : (word : List ℕ) → (IsUtf8 word → ⊥) → value_at word qualifiers ≡ None
no_qualifier word foreign = unfound qualifiers word refl foreign
