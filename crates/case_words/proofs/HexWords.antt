-- What a word of bytes decodes to.
use Rattle.std.proofs.Common.{◌≡◌, ℕ, List, [], ◌∷◌, length, codes, Ok, Err, Result, MatchResult, nat_eq, refl, sym, ap, subst, arith, eq-eqb}
use Rattle.std.proofs.lemmas.Bool.{eqb-true}
use Rattle.std.proofs.lemmas.Slice.Eq.{slice_eq-Decides}
use Rattle.std.specs.Bool.{Decides}
use Rattle.std.specs.Cmp.Lexicographic.{pointwise}
use Rattle.std.specs.Result.{IsErrAnd}
use Rattle.hex.specs.Hex.{IsBytes, decode_of, lower_digits}
use Rattle.hex.proofs.HexLemmas.{decode_of-encode_lower, length-encode_with}
use Rattle.case_words.specs.HexWord.{hex_word}

-- the dash is the word of no bytes
pub hex_word-dash : (bytes : List ℕ) → hex_word bytes ≡ codes "-" → bytes ≡ []
hex_word-dash [] e = refl
hex_word-dash (b ∷ bytes) e =
    let long = length-encode_with lower_digits (b ∷ bytes) in
    let short = ap (λ word. length word) e in
    absurd (omega (arith, long, short))

-- another word decodes to the bytes whose word it is
pub decode_of-hex_word : (bytes word : List ℕ) → IsBytes bytes → hex_word bytes ≡ word → (word ≡ codes "-" → ⊥) → decode_of word ≡ Ok bytes
decode_of-hex_word [] word own e other = absurd (other (sym e))
decode_of-hex_word (b ∷ bytes) word own e other = subst (λ w. decode_of w ≡ Ok (b ∷ bytes)) e (decode_of-encode_lower (b ∷ bytes) own)

-- the test for the dash
pub dash-Decides : (word : List ℕ) → Decides (pointwise nat_eq word (codes "-")) (word ≡ codes "-")
dash-Decides word = slice_eq-Decides (λ a b. (eqb-true a b, eq-eqb a b)) word (codes "-") (pointwise nat_eq word (codes "-")) refl

-- an error that is told from a cause
pub only_from : {V E F : Type 0} (P : V → Type 0) (told : E) {fault cause : F} (r : Result V E) → fault ≡ cause → IsErrAnd r (λ e. fault ≡ cause → e ≡ told) → MatchResult r P (λ e. e ≡ told)
only_from P told (Ok v) same h = absurd h
only_from P told (Err e) same h = h same
