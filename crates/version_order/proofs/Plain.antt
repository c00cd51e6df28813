-- Plain bytes are a text.
use Rattle.std.proofs.Common.{◌≡◌, ℕ, ◌<◌, true, false, List, [], ◌∷◌, inl, inr, refl, sym, ◌∙◌, arith}
use Rattle.std.specs.Prelude.{nat_le, nat_lt, ◌==◌}
use Rattle.std.specs.List.{list_all}
use Rattle.std.specs.Str.{IsUtf8}
use Rattle.std.proofs.lemmas.Bool.{and_parts, and_from, or_from, cases_lt, cases_Bool, eqb-true, lt-ltb, leb-true, false≢true}
use Rattle.ascii_bytes.specs.Classes.{between, is_plain_byte}
use Rattle.version_order.proofs.Words.{is_ascii, ascii_text}

not_between : (low high c : ℕ) → high < c → between low high c ≡ false
not_between low high c above =
    elim (cases_Bool (between low high c)) [
      | inl e ↦ absurd (let below = leb-true c high (and_parts (nat_le low c) (nat_le c high) e).1 in omega (arith, above, below))
      | inr e ↦ e
    ]

not_same : (c k : ℕ) → k < c → (c == k) ≡ false
not_same c k above =
    elim (cases_Bool (c == k)) [ inl e ↦ absurd (let same = eqb-true c k e in omega (arith, above, same)) | inr e ↦ e ]

not_plain : (c : ℕ) → 122 < c → is_plain_byte c ≡ false
not_plain c above =
    or_from _ _
    (or_from _ _
    (or_from _ _
    (or_from _ _ (not_between 65 90 c (omega (arith, above))) (not_between 97 122 c above))
    (not_between 48 57 c (omega (arith, above))))
    (or_from _ _ (not_same c 95 (omega (arith, above))) (not_same c 45 (omega (arith, above)))))
    (or_from _ _ (not_same c 46 (omega (arith, above))) (not_same c 43 (omega (arith, above))))

plain_ascii : (c : ℕ) → is_plain_byte c ≡ true → nat_lt c 128 ≡ true
plain_ascii c e =
    elim (cases_lt 122 c) [
      | inl above ↦ absurd (false≢true (sym (not_plain c above) ∙ e))
      | inr below ↦ lt-ltb c 128 (omega (arith, below))
    ]

all_ascii : (text : List ℕ) → list_all is_plain_byte text ≡ true → is_ascii text ≡ true
all_ascii [] e = refl
all_ascii (c ∷ text) e =
    let both = and_parts (is_plain_byte c) (list_all is_plain_byte text) e in
    and_from (nat_lt c 128) (is_ascii text) (plain_ascii c both.0) (all_ascii text both.1)

pub plain_text : (text : List ℕ) → list_all is_plain_byte text ≡ true → IsUtf8 text
plain_text text e = ascii_text text (all_ascii text e)
