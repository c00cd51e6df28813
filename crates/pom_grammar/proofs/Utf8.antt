-- A text in UTF-8 or ASCII is what std calls UTF-8.
use Rattle.std.proofs.Common.{◌≡◌, ℕ, inl, inr, ◌⊎◌, ◌+◌, ◌-◌, ◌*◌, ◌/◌, ◌%◌, ◌<◌, ◌≤◌, Bool, true, false, cond, List, [], ◌∷◌, ◌++◌, refl, sym, ◌∙◌, ap, subst, arith, Option, Some, None}
use Rattle.std.specs.Prelude.{◌==◌, nat_lt, nat_le}
use Rattle.std.specs.Str.{IsUtf8}
use Rattle.std.proofs.lemmas.Bool.{and_parts, and_from, leb-true, ltb-true, lt-ltb, le-ltb, le-leb, eqb-true, eqb-false, cases_Bool, cases_lt}
use Rattle.std.proofs.lemmas.List.{append_assoc}
use Rattle.std.proofs.lemmas.Str.{IsUtf8-append, IsUtf8-encode, IsUtf8-nil, encode_ascii}
use Rattle.ascii_bytes.specs.Classes.{between}
use lib.Utf8.{scalar, encode, low_scalar}
use Rattle.pom_grammar.specs.declared.encoding.Encoding.TheVariants.{Utf8, Ascii}
use Rattle.pom_grammar.specs.declared.encoding.Tail.{Tail}
use Rattle.pom_grammar.specs.declared.encoding.Tail.TheVariants.{Whole, One, Two, Three, AfterE0, AfterEd, AfterF0, AfterF4}
use Rattle.pom_grammar.specs.Encodings.{IsText, tails, first_of_utf8, if_between}
use Rattle.pom_grammar.proofs.Takes.{goes_on_some}
use Rattle.pom_grammar.proofs.HeadLives.{ascii_utf8}

high_scalar : (c : ℕ) → 57344 ≤ c → c < 1114112 → scalar c ≡ true
high_scalar c h k =
    let a : nat_lt c 55296 ≡ false = le-ltb c 55296 (omega arith) in
    rw a (and_from (nat_le 57344 c) (nat_lt c 1114112) (le-leb 57344 c h) (lt-ltb c 1114112 k))

two_bytes : (x b : ℕ) → 194 ≤ x → x ≤ 223 → 128 ≤ b → b ≤ 191 → encode ((x - 192) * 64 + (b - 128)) ≡ x ∷ (b ∷ [])
unfolding encode
two_bytes x b h k l u =
    let a : nat_lt ((x - 192) * 64 + (b - 128)) 128 ≡ false = le-ltb ((x - 192) * 64 + (b - 128)) 128 (omega arith) in
    let d : nat_lt ((x - 192) * 64 + (b - 128)) 2048 ≡ true = lt-ltb ((x - 192) * 64 + (b - 128)) 2048 (omega arith) in
    let p : 192 + ((x - 192) * 64 + (b - 128)) / 64 ≡ x = omega arith in
    let q : 128 + ((x - 192) * 64 + (b - 128)) % 64 ≡ b = omega arith in
    rw (a, d, p, q) refl

three_bytes : (x y b : ℕ) → 224 ≤ x → x ≤ 239 → 128 ≤ y → y ≤ 191 → 128 ≤ b → b ≤ 191 → 32 ≤ (x - 224) * 64 + (y - 128)
    → encode (((x - 224) * 64 + (y - 128)) * 64 + (b - 128)) ≡ x ∷ (y ∷ (b ∷ []))
unfolding encode
three_bytes x y b h k l u m n s =
    let c : ℕ = ((x - 224) * 64 + (y - 128)) * 64 + (b - 128) in
    let a : nat_lt (((x - 224) * 64 + (y - 128)) * 64 + (b - 128)) 128 ≡ false =
    le-ltb (((x - 224) * 64 + (y - 128)) * 64 + (b - 128)) 128 (omega arith) in
    let d : nat_lt (((x - 224) * 64 + (y - 128)) * 64 + (b - 128)) 2048 ≡ false =
    le-ltb (((x - 224) * 64 + (y - 128)) * 64 + (b - 128)) 2048 (omega arith) in
    let f : nat_lt (((x - 224) * 64 + (y - 128)) * 64 + (b - 128)) 65536 ≡ true =
    lt-ltb (((x - 224) * 64 + (y - 128)) * 64 + (b - 128)) 65536 (omega arith) in
    let p : 224 + (((x - 224) * 64 + (y - 128)) * 64 + (b - 128)) / 4096 ≡ x = omega arith in
    let q : 128 + (((x - 224) * 64 + (y - 128)) * 64 + (b - 128)) / 64 % 64 ≡ y = omega arith in
    let r : 128 + (((x - 224) * 64 + (y - 128)) * 64 + (b - 128)) % 64 ≡ b = omega arith in
    rw (a, d, f, p, q, r) refl

four_bytes : (x y z b : ℕ) → 240 ≤ x → x ≤ 244 → 128 ≤ y → y ≤ 191 → 128 ≤ z → z ≤ 191 → 128 ≤ b → b ≤ 191
    → 16 ≤ (x - 240) * 64 + (y - 128)
    → encode ((((x - 240) * 64 + (y - 128)) * 64 + (z - 128)) * 64 + (b - 128)) ≡ x ∷ (y ∷ (z ∷ (b ∷ [])))
unfolding encode
four_bytes x y z b h k l u m n v w s =
    let a : nat_lt ((((x - 240) * 64 + (y - 128)) * 64 + (z - 128)) * 64 + (b - 128)) 128 ≡ false =
    le-ltb ((((x - 240) * 64 + (y - 128)) * 64 + (z - 128)) * 64 + (b - 128)) 128 (omega arith) in
    let d : nat_lt ((((x - 240) * 64 + (y - 128)) * 64 + (z - 128)) * 64 + (b - 128)) 2048 ≡ false =
    le-ltb ((((x - 240) * 64 + (y - 128)) * 64 + (z - 128)) * 64 + (b - 128)) 2048 (omega arith) in
    let f : nat_lt ((((x - 240) * 64 + (y - 128)) * 64 + (z - 128)) * 64 + (b - 128)) 65536 ≡ false =
    le-ltb ((((x - 240) * 64 + (y - 128)) * 64 + (z - 128)) * 64 + (b - 128)) 65536 (omega arith) in
    let p : 240 + ((((x - 240) * 64 + (y - 128)) * 64 + (z - 128)) * 64 + (b - 128)) / 262144 ≡ x = omega arith in
    let q : 128 + ((((x - 240) * 64 + (y - 128)) * 64 + (z - 128)) * 64 + (b - 128)) / 4096 % 64 ≡ y = omega arith in
    let r : 128 + ((((x - 240) * 64 + (y - 128)) * 64 + (z - 128)) * 64 + (b - 128)) / 64 % 64 ≡ z = omega arith in
    let t : 128 + ((((x - 240) * 64 + (y - 128)) * 64 + (z - 128)) * 64 + (b - 128)) % 64 ≡ b = omega arith in
    rw (a, d, f, p, q, r, t) refl

-- what the bytes of a character's prefix lack
Ready1 : List ℕ → Type 0
Ready1 prefix = (b : ℕ) → 128 ≤ b → b ≤ 191 → (c : ℕ) × (scalar c ≡ true) × (encode c ≡ prefix ++ b ∷ [])

Ready2 : List ℕ → Type 0
Ready2 prefix = (b : ℕ) → 128 ≤ b → b ≤ 191 → Ready1 (prefix ++ b ∷ [])

Ready3 : List ℕ → Type 0
Ready3 prefix = (b : ℕ) → 128 ≤ b → b ≤ 191 → Ready2 (prefix ++ b ∷ [])

abbrev Ready : Tail → List ℕ → Type 0
Ready Whole prefix = prefix ≡ []
Ready One prefix = Ready1 prefix
Ready Two prefix = Ready2 prefix
Ready Three prefix = Ready3 prefix
Ready AfterE0 prefix = (b : ℕ) → 160 ≤ b → b ≤ 191 → Ready1 (prefix ++ b ∷ [])
Ready AfterEd prefix = (b : ℕ) → 128 ≤ b → b ≤ 159 → Ready1 (prefix ++ b ∷ [])
Ready AfterF0 prefix = (b : ℕ) → 144 ≤ b → b ≤ 191 → Ready2 (prefix ++ b ∷ [])
Ready AfterF4 prefix = (b : ℕ) → 128 ≤ b → b ≤ 143 → Ready2 (prefix ++ b ∷ [])

ready_two : (x : ℕ) → 194 ≤ x → x ≤ 223 → Ready1 (x ∷ [])
unfolding Ready1
ready_two x h k =
    λ b l u. ((x - 192) * 64 + (b - 128), low_scalar ((x - 192) * 64 + (b - 128)) (omega arith), two_bytes x b h k l u)

ready_three : (x y : ℕ) → 224 ≤ x → x ≤ 239 → 128 ≤ y → y ≤ 191 → 32 ≤ (x - 224) * 64 + (y - 128)
    → ((x - 224) * 64 + (y - 128) < 864) ⊎ (896 ≤ (x - 224) * 64 + (y - 128)) → Ready1 (x ∷ (y ∷ []))
unfolding Ready1
ready_three x y h k l u s t = λ b m n. (
  ((x - 224) * 64 + (y - 128)) * 64 + (b - 128),
  elim t [
    | inl below ↦ low_scalar (((x - 224) * 64 + (y - 128)) * 64 + (b - 128)) (omega arith)
    | inr above ↦ high_scalar (((x - 224) * 64 + (y - 128)) * 64 + (b - 128)) (omega arith) (omega arith)
  ],
  three_bytes x y b h k l u m n s,
)

ready_four : (x y : ℕ) → 240 ≤ x → x ≤ 244 → 128 ≤ y → y ≤ 191 → 16 ≤ (x - 240) * 64 + (y - 128)
    → (x - 240) * 64 + (y - 128) < 272 → Ready2 (x ∷ (y ∷ []))
unfolding Ready1 Ready2
ready_four x y h k l u s t = λ z m n b v w. (
  (((x - 240) * 64 + (y - 128)) * 64 + (z - 128)) * 64 + (b - 128),
  high_scalar ((((x - 240) * 64 + (y - 128)) * 64 + (z - 128)) * 64 + (b - 128)) (omega arith) (omega arith),
  four_bytes x y z b h k l u m n v w s,
)

between_from : (low high : ℕ) (left next : Tail) (c : ℕ) → if_between low high left c ≡ Some next
    → (low ≤ c) × (c ≤ high) × (left ≡ next)
between_from low high left next c f =
    elim (cases_Bool (between low high c)) [
      | inl a ↦
          let both = and_parts (nat_le low c) (nat_le c high) a in
          let is : ◌≡◌ {A = Option Tail} (Some left) (Some next) = sym (ap (λ b. cond b (Some left) None) a) ∙ f in
          let same : left ≡ next = cc in
          (leb-true low c both.0, leb-true c high both.1, same)
      | inr a ↦ let no : ◌≡◌ {A = Option Tail} None (Some next) = sym (ap (λ b. cond b (Some left) None) a)
          ∙ f in let never : ⊥ = cc in absurd never
    ]

cond_some : (b : Bool) (x : Tail) (y : Option Tail) (next : Tail) (P : Tail → Type 0) → cond b (Some x) y ≡ Some next
    → (b ≡ true → P x) → (b ≡ false → y ≡ Some next → P next) → P next
cond_some true x y next P f g h = let same : x ≡ next = cc in subst P same (g refl)
cond_some false x y next P f g h = h refl f

-- no surrogates after a first byte other than ED
sides : (c b : ℕ) → 225 ≤ c → (c ≡ 237 → ⊥) → 128 ≤ b → b ≤ 191
    → ((c - 224) * 64 + (b - 128) < 864) ⊎ (896 ≤ (c - 224) * 64 + (b - 128))
sides c b low apart l u =
    elim (cases_lt c 237) [ inl below ↦ inl (omega arith) | inr above ↦ inr (omega (arith, apart)) ]

ready_first : (c : ℕ) (next : Tail) → first_of_utf8 c ≡ Some next → (next ≡ Whole) ⊎ Ready next (c ∷ [])
unfolding Ready2 Ready3
ready_first c next f =
    cond_some (nat_lt c 128) Whole _ next (λ t. (t ≡ Whole) ⊎ Ready t (c ∷ [])) f (λ _. inl refl)
    (λ _ f1. cond_some (between 194 223 c) One _ next (λ t. (t ≡ Whole) ⊎ Ready t (c ∷ [])) f1
    (λ a. let both =
    and_parts (nat_le 194 c) (nat_le c 223) a in inr (ready_two c (leb-true 194 c both.0) (leb-true c 223 both.1)))
    (λ _ f2. cond_some (c == 224) AfterE0 _ next (λ t. (t ≡ Whole) ⊎ Ready t (c ∷ [])) f2
    (λ a. let is =
    eqb-true c 224 a in inr
    (λ b l u. ready_three c b (omega arith) (omega arith) (omega arith) u (omega arith) (inl (omega arith))))
    (λ _ f3. cond_some (c == 237) AfterEd _ next (λ t. (t ≡ Whole) ⊎ Ready t (c ∷ [])) f3
    (λ a. let is =
    eqb-true c 237 a in inr
    (λ b l u. ready_three c b (omega arith) (omega arith) l (omega arith) (omega arith) (inl (omega arith))))
    (λ not_ed f4. cond_some (between 225 239 c) Two _ next (λ t. (t ≡ Whole) ⊎ Ready t (c ∷ [])) f4
    (λ a.
    let both = and_parts (nat_le 225 c) (nat_le c 239) a in
    let low = leb-true 225 c both.0 in
    let high = leb-true c 239 both.1 in
    let apart = eqb-false c 237 not_ed in
    inr (λ b l u. ready_three c b (omega arith) high l u (omega arith) (sides c b low apart l u)))
    (λ _ f5. cond_some (c == 240) AfterF0 _ next (λ t. (t ≡ Whole) ⊎ Ready t (c ∷ [])) f5
    (λ a. let is =
    eqb-true c 240 a in inr
    (λ b l u. ready_four c b (omega arith) (omega arith) (omega arith) u (omega arith) (omega arith)))
    (λ _ f6. cond_some (between 241 243 c) Three _ next (λ t. (t ≡ Whole) ⊎ Ready t (c ∷ [])) f6
    (λ a.
    let both = and_parts (nat_le 241 c) (nat_le c 243) a in
    let low = leb-true 241 c both.0 in
    let high = leb-true c 243 both.1 in
    inr (λ b l u. ready_four c b (omega arith) (omega arith) l u (omega arith) (omega arith)))
    (λ _ f7. cond_some (c == 244) AfterF4 None next (λ t. (t ≡ Whole) ⊎ Ready t (c ∷ [])) f7
    (λ a. let is =
    eqb-true c 244 a in inr
    (λ b l u. ready_four c b (omega arith) (omega arith) l (omega arith) (omega arith) (omega arith)))
    (λ _ f8. let no : ⊥ = cc in absurd no))))))))

low_first : (c : ℕ) → first_of_utf8 c ≡ Some Whole → c < 128
low_first c f =
    let P : Tail → Type 0 = λ t. t ≡ Whole → c < 128 in
    cond_some (nat_lt c 128) Whole _ Whole P f (λ a _. ltb-true c 128 a)
    (λ _ f1. cond_some (between 194 223 c) One _ Whole P f1 (λ _ g. let no : ⊥ = cc in absurd no)
    (λ _ f2. cond_some (c == 224) AfterE0 _ Whole P f2 (λ _ g. let no : ⊥ = cc in absurd no)
    (λ _ f3. cond_some (c == 237) AfterEd _ Whole P f3 (λ _ g. let no : ⊥ = cc in absurd no)
    (λ _ f4. cond_some (between 225 239 c) Two _ Whole P f4 (λ _ g. let no : ⊥ = cc in absurd no)
    (λ _ f5. cond_some (c == 240) AfterF0 _ Whole P f5 (λ _ g. let no : ⊥ = cc in absurd no)
    (λ _ f6. cond_some (between 241 243 c) Three _ Whole P f6 (λ _ g. let no : ⊥ = cc in absurd no)
    (λ _ f7. cond_some (c == 244) AfterF4 None Whole P f7 (λ _ g. let no : ⊥ = cc in absurd no)
    (λ _ f8 _. let no : ⊥ = cc in absurd no))))))))
    refl

ascii_utf8_one : (c : ℕ) → c < 128 → IsUtf8 (c ∷ [])
ascii_utf8_one c h = let P : List ℕ → Type 0 =
    λ x. IsUtf8 x in subst P (encode_ascii c h) (IsUtf8-encode c (low_scalar c (omega arith)))

-- a character ends
ends_char : (prefix bytes : List ℕ) (b : ℕ) → Ready1 prefix → 128 ≤ b → b ≤ 191 → IsUtf8 bytes
    → IsUtf8 (prefix ++ b ∷ bytes)
unfolding Ready1
ends_char prefix bytes b ready l u rest =
    let c = ready b l u in
    let P : List ℕ → Type 0 = λ x. IsUtf8 x in
    subst P (append_assoc prefix (b ∷ []) bytes)
    (IsUtf8-append (prefix ++ b ∷ []) bytes (subst P c.2 (IsUtf8-encode c.0 c.1)) rest)

utf8_from : (bytes : List ℕ) (tail : Tail) (prefix : List ℕ) → Ready tail prefix → tails Utf8 tail bytes ≡ Some Whole
    → IsUtf8 (prefix ++ bytes)
unfolding Ready2 Ready3
utf8_from [] Whole prefix ready f = let P : List ℕ → Type 0 = λ x. IsUtf8 (x ++ []) in subst P (sym ready) IsUtf8-nil
utf8_from [] tail prefix ready f = let no : ⊥ = cc in absurd no
utf8_from (b ∷ bytes) Whole prefix ready f =
    let first = goes_on_some (first_of_utf8 b) (λ t. tails Utf8 t bytes) Whole f in
    let P : List ℕ → Type 0 = λ x. IsUtf8 (x ++ b ∷ bytes) in
    subst P (sym ready) (elim (ready_first b first.0 first.1) [
      | inl whole ↦
          let low = low_first b (first.1 ∙ ap Some whole) in
          IsUtf8-append (b ∷ []) bytes (ascii_utf8_one b low)
          (utf8_from bytes Whole [] refl (sym (ap (λ t. tails Utf8 t bytes) whole) ∙ first.2))
      | inr on ↦ utf8_from bytes first.0 (b ∷ []) on first.2
    ])
utf8_from (b ∷ bytes) One prefix ready f =
    let first = goes_on_some (if_between 128 191 Whole b) (λ t. tails Utf8 t bytes) Whole f in
    let is = between_from 128 191 Whole first.0 b first.1 in
    ends_char prefix bytes b ready is.0 is.1
    (utf8_from bytes Whole [] refl (ap (λ t. tails Utf8 t bytes) is.2 ∙ first.2))
utf8_from (b ∷ bytes) Two prefix ready f =
    let first = goes_on_some (if_between 128 191 One b) (λ t. tails Utf8 t bytes) Whole f in
    let is = between_from 128 191 One first.0 b first.1 in
    let P : List ℕ → Type 0 = λ x. IsUtf8 x in
    subst P (append_assoc prefix (b ∷ []) bytes)
    (utf8_from bytes One (prefix ++ b ∷ []) (ready b is.0 is.1) (ap (λ t. tails Utf8 t bytes) is.2 ∙ first.2))
utf8_from (b ∷ bytes) Three prefix ready f =
    let first = goes_on_some (if_between 128 191 Two b) (λ t. tails Utf8 t bytes) Whole f in
    let is = between_from 128 191 Two first.0 b first.1 in
    let P : List ℕ → Type 0 = λ x. IsUtf8 x in
    subst P (append_assoc prefix (b ∷ []) bytes)
    (utf8_from bytes Two (prefix ++ b ∷ []) (ready b is.0 is.1) (ap (λ t. tails Utf8 t bytes) is.2 ∙ first.2))
utf8_from (b ∷ bytes) AfterE0 prefix ready f =
    let first = goes_on_some (if_between 160 191 One b) (λ t. tails Utf8 t bytes) Whole f in
    let is = between_from 160 191 One first.0 b first.1 in
    let P : List ℕ → Type 0 = λ x. IsUtf8 x in
    subst P (append_assoc prefix (b ∷ []) bytes)
    (utf8_from bytes One (prefix ++ b ∷ []) (ready b is.0 is.1) (ap (λ t. tails Utf8 t bytes) is.2 ∙ first.2))
utf8_from (b ∷ bytes) AfterEd prefix ready f =
    let first = goes_on_some (if_between 128 159 One b) (λ t. tails Utf8 t bytes) Whole f in
    let is = between_from 128 159 One first.0 b first.1 in
    let P : List ℕ → Type 0 = λ x. IsUtf8 x in
    subst P (append_assoc prefix (b ∷ []) bytes)
    (utf8_from bytes One (prefix ++ b ∷ []) (ready b is.0 is.1) (ap (λ t. tails Utf8 t bytes) is.2 ∙ first.2))
utf8_from (b ∷ bytes) AfterF0 prefix ready f =
    let first = goes_on_some (if_between 144 191 Two b) (λ t. tails Utf8 t bytes) Whole f in
    let is = between_from 144 191 Two first.0 b first.1 in
    let P : List ℕ → Type 0 = λ x. IsUtf8 x in
    subst P (append_assoc prefix (b ∷ []) bytes)
    (utf8_from bytes Two (prefix ++ b ∷ []) (ready b is.0 is.1) (ap (λ t. tails Utf8 t bytes) is.2 ∙ first.2))
utf8_from (b ∷ bytes) AfterF4 prefix ready f =
    let first = goes_on_some (if_between 128 143 Two b) (λ t. tails Utf8 t bytes) Whole f in
    let is = between_from 128 143 Two first.0 b first.1 in
    let P : List ℕ → Type 0 = λ x. IsUtf8 x in
    subst P (append_assoc prefix (b ∷ []) bytes)
    (utf8_from bytes Two (prefix ++ b ∷ []) (ready b is.0 is.1) (ap (λ t. tails Utf8 t bytes) is.2 ∙ first.2))

pub utf8_text : (bytes : List ℕ) → IsText Utf8 bytes → IsUtf8 bytes
utf8_text bytes is = utf8_from bytes Whole [] refl is

pub ascii_text : (bytes : List ℕ) → IsText Ascii bytes → IsUtf8 bytes
ascii_text bytes is = utf8_text bytes (ascii_utf8 bytes Whole is).0
