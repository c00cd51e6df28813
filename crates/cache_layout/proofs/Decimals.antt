-- Decimal numbers of a range, read digit by digit.
use Rattle.std.proofs.Common.{◌≡◌, ◌⊎◌, inl, inr, ℕ, suc, ◌+◌, ◌-◌, ◌*◌, ◌/◌, ◌%◌, ◌^◌, ◌<◌, ◌≤◌, lit<, Bool, true, false, ◌&&◌, List, [], ◌∷◌, ◌++◌, length, take, drop, get_or, refl, sym, ◌∙◌, ap, subst, arith}
use Rattle.std.specs.Prelude.{nat_le}
use Rattle.std.specs.Fmt.{decimal}
use Rattle.std.specs.List.{list_all}
use Rattle.std.proofs.Math.Nat.{div-lt_self}
use Rattle.std.proofs.lemmas.Bool.{and_from, and_parts, cases_lt, le-leb, leb-true}
use Rattle.std.proofs.lemmas.Fmt.{decimal_step, decimal_digit, decimal_by_steps, decimal_injective, decimal_nonempty}
use Rattle.std.proofs.lemmas.List.{append_assoc, append-nil, append_cancel_left, length-append, length-take-le, take-append-drop, take_more, take_all}
use Rattle.std.proofs.lemmas.List.Folds.{list_all-append}
use Rattle.fault_place.specs.Place.{GoesOn, IsPlace}
use Rattle.fault_place.specs.Reader.{Accepts}
use Rattle.ascii_bytes.specs.Classes.{is_digit}
use Rattle.cache_layout.specs.Fields.{GoesOnTo, IsNumber}

-- texts by their last byte

data Ending (text : List ℕ) : Type 0 where
  empty : text ≡ [] → Ending text
  ends : (front : List ℕ) (last : ℕ) → text ≡ front ++ last ∷ [] → Ending text

ending : (text : List ℕ) → Ending text
ending [] = empty refl
ending (x ∷ text) = by (ending text)
  where
    by : Ending text → Ending (x ∷ text)
    by (empty e) = ends [] x (ap (λ t. x ∷ t) e)
    by (ends front last e) = ends (x ∷ front) last (ap (λ t. x ∷ t) e)

not_nil : {P : Type 0} (a : List ℕ) (c : ℕ) → [] ≡ a ++ c ∷ [] → P
not_nil [] c e = cc
not_nil (x ∷ a) c e = cc

tails : (x y : ℕ) (xs ys : List ℕ) → x ∷ xs ≡ y ∷ ys → xs ≡ ys
tails x y xs ys e = cc

heads : (x y : ℕ) (xs ys : List ℕ) → x ∷ xs ≡ y ∷ ys → x ≡ y
heads x y xs ys e = cc

-- texts that end alike
same_end : (a b : List ℕ) (c d : ℕ) → a ++ c ∷ [] ≡ b ++ d ∷ [] → (a ≡ b) × (c ≡ d)
same_end [] [] c d e = (refl, heads c d [] [] e)
same_end [] (y ∷ b) c d e = not_nil b d (tails c y [] (b ++ d ∷ []) e)
same_end (x ∷ a) [] c d e = not_nil a c (sym (tails x d (a ++ c ∷ []) [] e))
same_end (x ∷ a) (y ∷ b) c d e =
    let rest = same_end a b c d (tails x y (a ++ c ∷ []) (b ++ d ∷ []) e) in
    (ap (λ h. h ∷ a) (heads x y (a ++ c ∷ []) (b ++ d ∷ []) e) ∙ ap (λ t. y ∷ t) rest.0, rest.1)

-- digits

digit_is : (n : ℕ) → n < 10 → is_digit (48 + n) ≡ true
digit_is n few = and_from (nat_le 48 (48 + n)) (nat_le (48 + n) 57) (le-leb 48 (48 + n) (omega arith))
    (le-leb (48 + n) 57 (omega (arith, few)))

rest_is_small : (n : ℕ) → n % 10 < 10
rest_is_small n = omega arith

pub all_digits : (n : ℕ) → n < 2 ^ 64 → list_all is_digit (decimal n) ≡ true
all_digits n small = decimal_by_steps (λ _ ds. list_all is_digit ds ≡ true)
    (λ k few. rw (digit_is k few) refl)
    (λ k ds _ front. list_all-append is_digit ds ((48 + k % 10) ∷ [])
    ∙ and_from (list_all is_digit ds) (list_all is_digit ((48 + k % 10) ∷ [])) front
    (rw (digit_is (k % 10) (rest_is_small k)) refl))
    n small

-- the digit and the number before it, of a number of several digits
several : (number byte value : ℕ) → number < 2 ^ 64 → value < 2 ^ 64
    → decimal number ++ byte ∷ [] ≡ decimal value
    → (10 ≤ value) × (number ≡ value / 10) × (byte ≡ 48 + value % 10)
several number byte value p q e = by (cases_lt value 10)
  where
    by : ((value < 10) ⊎ (10 ≤ value)) → (10 ≤ value) × (number ≡ value / 10) × (byte ≡ 48 + value % 10)
    by (inl few) =
        let parts = same_end (decimal number) [] byte (48 + value) (e ∙ decimal_digit value few) in
        let some = decimal_nonempty number p in
        let none : length (decimal number) ≡ 0 = ap (λ t. length t) parts.0 in
        absurd (omega (arith, some, none))
    by (inr many) =
        let parts = same_end (decimal number) (decimal (value / 10)) byte (48 + value % 10)
        (e ∙ decimal_step value many q) in
        let small : value / 10 < 2 ^ 64 = omega (arith, q) in
        (many, decimal_injective number (value / 10) p small parts.0, parts.1)

single : (byte value : ℕ) → value < 2 ^ 64 → byte ∷ [] ≡ decimal value → (value < 10) × (byte ≡ 48 + value)
single byte value q e = by (cases_lt value 10)
  where
    by : ((value < 10) ⊎ (10 ≤ value)) → (value < 10) × (byte ≡ 48 + value)
    by (inl few) = (few, heads byte (48 + value) [] [] (e ∙ decimal_digit value few))
    by (inr many) =
        let parts = same_end [] (decimal (value / 10)) byte (48 + value % 10) (e ∙ decimal_step value many q) in
        let small : value / 10 < 2 ^ 64 = omega (arith, q) in
        let some = decimal_nonempty (value / 10) small in
        let none : 0 ≡ length (decimal (value / 10)) = ap (λ t. length t) parts.0 in
        absurd (omega (arith, some, none))

-- the beginning of a number is one

record IsFront (number : ℕ) (text : List ℕ) : Type 0 where
  value : ℕ
  whole : text ≡ decimal value
  high : value ≤ number
  positive : 1 ≤ number → 1 ≤ value

abbrev HasFronts : ℕ → List ℕ → Type 0
HasFronts number digits = number < 2 ^ 64 → (digits ≡ decimal number)
    × ((text rest : List ℕ) → digits ≡ text ++ rest → 0 < length text → IsFront number text)

only_byte : (c : ℕ) (text rest : List ℕ) → c ∷ [] ≡ text ++ rest → 0 < length text → text ≡ c ∷ []
only_byte c [] rest e some = absurd (omega (arith, some))
only_byte c (x ∷ []) rest e some = ap (λ h. h ∷ []) (sym (heads c x [] rest e))
only_byte c (x ∷ (y ∷ text)) rest e some = not_nil_first y (text ++ rest) (tails c x [] (y ∷ (text ++ rest)) e)
  where
    not_nil_first : {P : Type 0} (z : ℕ) (zs : List ℕ) → [] ≡ z ∷ zs → P
    not_nil_first z zs f = cc

fronts_of_more : (number : ℕ) (digits : List ℕ) → 10 ≤ number → number < 2 ^ 64
    → digits ≡ decimal (number / 10)
    → ((text rest : List ℕ) → digits ≡ text ++ rest → 0 < length text → IsFront (number / 10) text)
    → (text rest : List ℕ) → digits ++ (48 + number % 10) ∷ [] ≡ text ++ rest → 0 < length text
    → Ending rest → IsFront number text
fronts_of_more number digits many small is fronts text rest e some (empty none) = record {
  value = number;
  whole = sym (append-nil text) ∙ sym (ap (λ t. text ++ t) none) ∙ sym e ∙ ap (λ t. t ++ (48 + number % 10) ∷ []) is
      ∙ sym (decimal_step number many small);
  high = omega arith;
  positive = λ h. h;
}
fronts_of_more number digits many small is fronts text rest e some (ends front last more) =
    let whole : digits ++ (48 + number % 10) ∷ [] ≡ (text ++ front) ++ last ∷ [] = e ∙ ap (λ t. text ++ t) more
    ∙ sym (append_assoc text front (last ∷ [])) in
    let parts = same_end digits (text ++ front) (48 + number % 10) last whole in
    let inner = fronts text front parts.0 some in
    record {
      value = inner.value;
      whole = inner.whole;
      high = let h = inner.high in omega (arith, h);
      positive = λ _. inner.positive (omega (arith, many));
    }

front_of : (number : ℕ) → number < 2 ^ 64 → (text rest : List ℕ) → decimal number ≡ text ++ rest → 0 < length text
    → IsFront number text
front_of number small = (decimal_by_steps HasFronts
    (λ n few _. (
      sym (decimal_digit n few),
      λ text rest e some. record {
        value = n;
        whole = only_byte (48 + n) text rest e some ∙ sym (decimal_digit n few);
        high = omega arith;
        positive = λ h. h;
      },
    ))
    (λ n digits many front bound.
    let before = front (omega (arith, bound)) in (
      ap (λ t. t ++ (48 + n % 10) ∷ []) before.0 ∙ sym (decimal_step n many bound),
      λ text rest e some. fronts_of_more n digits many bound before.0 before.1 text rest e some (ending rest),
    ))
    number small small).1

-- the grammar of numbers of a range

-- what is known of the first bytes: there are none, or they are a number
abbrev pub Before : ℕ → ℕ → List ℕ → ℕ → ℕ → Type 0
Before least most text i number = ((i ≡ 0) × (number ≡ 0)) ⊎ IsNumber least most (take i text) number

abbrev pub Number : ℕ → ℕ → List ℕ → Type 0
Number least most = Accepts (IsNumber least most)

module _ (least most : ℕ) (low : least ≤ 1) (room : 9 ≤ most) (fits : most < 2 ^ 64) where
  pub some_number : (text : List ℕ) × Number least most text
  some_number = (decimal 1, (1, record { whole = refl; low = low; high = omega (arith, room) }))

  number_front : (text rest : List ℕ) → Number least most (text ++ rest) → 0 < length text → Number least most text
  number_front text rest (value, is) some =
      let small : value < 2 ^ 64 = let h = is.high in omega (arith, h, fits) in
      let front = front_of value small text rest (sym is.whole) some in (
        front.value,
        record {
          whole = front.whole;
          low = at_least (cases_lt least 1) is.low front.positive;
          high = let h = is.high in let g = front.high in omega (arith, h, g);
        },
      )
    where
      at_least : {n v : ℕ} → ((least < 1) ⊎ (1 ≤ least)) → least ≤ n → (1 ≤ n → 1 ≤ v) → least ≤ v
      at_least (inl none) h positive = omega (arith, none)
      at_least (inr one) h positive = let p = positive (omega (arith, one, h)) in omega (arith, p, low)

  goes_before : (text : List ℕ) (i number : ℕ) → Before least most text i number → GoesOn (Number least most) (take i text)
  goes_before text i number (inl (none, _)) =
      let P : ℕ → Type 0 = λ k. GoesOn (Number least most) (take k text) in subst P (sym none) some_number
  goes_before text i number (inr is) = (
    [],
    (
      number,
      subst (λ t. IsNumber least most t number)
          (sym (append-nil (take i text))) is,
    ),
  )

  -- a byte after which no number begins
  pub number_stops : (text : List ℕ) (i number : ℕ) → i < length text → Before least most text i number
      → (Number least most (take (i + 1) text) → ⊥) → IsPlace (Number least most) text i
  number_stops text i number inside before never =
      let count = length-take-le (i + 1) text (omega (arith, inside)) in
      let some : 0 < length (take (i + 1) text) = omega (arith, count) in
      record {
        within = omega (arith, inside);
        outside = λ is. never (number_front (take (i + 1) text) (drop (i + 1) text)
            (subst (Number least most) (sym (take-append-drop (i + 1) text)) is) some);
        goes_on = goes_before text i number before;
        no_more = λ _ (rest, is). never (number_front (take (i + 1) text) rest is some);
      }

  pub no_number : (text : List ℕ) → text ≡ [] → IsPlace (Number least most) text 0
  no_number text none = subst (λ t. IsPlace (Number least most) t 0) (sym none) (record {
    within = omega arith;
    outside = λ (value, is).
        let small : value < 2 ^ 64 = let h = is.high in omega (arith, h, fits) in
        let some = decimal_nonempty value small in
        let e : 0 ≡ length (decimal value) = ap (λ t. length t) is.whole in
        absurd (omega (arith, some, e));
    goes_on = some_number;
    no_more = λ more _. absurd (omega (arith, more));
  })

  next_of : (i number byte digit : ℕ) → byte ≡ 48 + digit → digit < 10 → least ≤ number * 10 + digit
      → number * 10 + digit ≤ most → (0 < i → 0 < number)
      → GoesOnTo least most i number byte (number * 10 + digit)
  next_of i number byte digit is few at_least at_most behind = record {
    digit = ap is_digit is ∙ digit_is digit few;
    value = let e : byte - 48 ≡ digit = omega (arith, is) in ap (λ d. number * 10 + d) (sym e);
    low = at_least;
    high = at_most;
    no_zero = behind;
  }

  -- what one more byte has to be
  pub next_is : (text : List ℕ) (i number : ℕ) → i < length text → Before least most text i number
      → Number least most (take (i + 1) text) → (more : ℕ) × GoesOnTo least most i number (get_or text i 0) more
  next_is text i number inside (inl (none, nought)) (value, is) =
      let small : value < 2 ^ 64 = let h = is.high in omega (arith, h, fits) in
      let byte = get_or text i 0 in
      let e : byte ∷ [] ≡ decimal value = sym (ap (λ k. take k text ++ byte ∷ []) none)
      ∙ sym (take_more text i 0 inside) ∙ is.whole in
      let one = single byte value small e in
      let same : number * 10 + value ≡ value = omega (arith, nought) in (
        number * 10 + value,
        next_of i number byte value one.1 one.0 (let h = is.low in omega (arith, h, same))
            (let h = is.high in omega (arith, h, same)) (λ some. absurd (omega (arith, some, none))),
      )
  next_is text i number inside (inr before) (value, is) =
      let small : value < 2 ^ 64 = let h = is.high in omega (arith, h, fits) in
      let number_small : number < 2 ^ 64 = let h = before.high in omega (arith, h, fits) in
      let byte = get_or text i 0 in
      let e : decimal number ++ byte ∷ [] ≡ decimal value = sym (ap (λ t. t ++ byte ∷ []) before.whole)
      ∙ sym (take_more text i 0 inside) ∙ is.whole in
      let parts = several number byte value number_small small e in
      let many = parts.0 in
      let tens = parts.1 in
      let same : number * 10 + value % 10 ≡ value = omega (arith, tens) in (
        number * 10 + value % 10,
        next_of i number byte (value % 10) parts.2 (rest_is_small value)
            (let h = is.low in omega (arith, h, same)) (let h = is.high in omega (arith, h, same))
            (λ _. omega (arith, many, tens)),
      )

  -- a byte with which no number goes on
  pub stops_at_byte : (text : List ℕ) (i number : ℕ) → i < length text → Before least most text i number
      → ((more : ℕ) → GoesOnTo least most i number (get_or text i 0) more → ⊥)
      → IsPlace (Number least most) text i
  stops_at_byte text i number inside before never = number_stops text i number inside before
      (λ is. let goes = next_is text i number inside before is in never goes.0 goes.1)

  next : (text : List ℕ) (i number digit : ℕ) → i < length text → Before least most text i number
      → get_or text i 0 ≡ 48 + digit → digit < 10 → (0 < i → 0 < number) → least ≤ number * 10 + digit
      → number * 10 + digit ≤ most → IsNumber least most (take (i + 1) text) (number * 10 + digit)
  next text i number digit inside (inl (none, zero)) is few no_zero at_least at_most =
      let same : number * 10 + digit ≡ digit = omega (arith, zero) in
      record {
        whole = take_more text i 0 inside ∙ ap (λ k. take k text ++ get_or text i 0 ∷ []) none
            ∙ ap (λ b. b ∷ []) is ∙ sym (decimal_digit digit few) ∙ ap (λ n. decimal n) (sym same);
        low = at_least;
        high = at_most;
      }
  next text i number digit inside (inr before) is few no_zero at_least at_most = by (cases_lt 0 i)
    where
      by : ((0 < i) ⊎ (i ≤ 0)) → IsNumber least most (take (i + 1) text) (number * 10 + digit)
      by (inl some) =
          let positive = no_zero some in
          let many : 10 ≤ number * 10 + digit = omega (arith, positive) in
          let small : number * 10 + digit < 2 ^ 64 = omega (arith, at_most, fits) in
          let tens : (number * 10 + digit) / 10 ≡ number = omega (arith, few) in
          let ones : (number * 10 + digit) % 10 ≡ digit = omega (arith, few) in
          record {
            whole = take_more text i 0 inside ∙ ap (λ t. t ++ get_or text i 0 ∷ []) before.whole
                ∙ ap (λ b. decimal number ++ b ∷ []) is
                ∙ ap (λ n. decimal n ++ (48 + digit) ∷ []) (sym tens)
                ∙ ap (λ n. decimal ((number * 10 + digit) / 10) ++ (48 + n) ∷ []) (sym ones)
                ∙ sym (decimal_step (number * 10 + digit) many small);
            low = at_least;
            high = at_most;
          }
      by (inr none) =
          let zero : i ≡ 0 = omega (arith, none) in
          let number_small : number < 2 ^ 64 = let h = before.high in omega (arith, h, fits) in
          let some = decimal_nonempty number number_small in
          let e : length (take i text) ≡ length (decimal number) = ap (λ t. length t) before.whole in
          let f : length (take i text) ≡ 0 = ap (λ k. length (take k text)) zero in
          absurd (omega (arith, some, e, f))

  -- one more digit
  pub goes_next : (text : List ℕ) (i number more : ℕ) → i < length text → Before least most text i number
      → GoesOnTo least most i number (get_or text i 0) more → IsNumber least most (take (i + 1) text) more
  goes_next text i number more inside before goes =
      let byte = get_or text i 0 in
      let ends = and_parts (nat_le 48 byte) (nat_le byte 57) goes.digit in
      let from = leb-true 48 byte ends.0 in
      let to = leb-true byte 57 ends.1 in
      let is : byte ≡ 48 + (byte - 48) = omega (arith, from) in
      let few : byte - 48 < 10 = omega (arith, from, to) in
      let at_least : least ≤ number * 10 + (byte - 48) = let h = goes.low in let e = goes.value in omega (arith, h, e) in
      let at_most : number * 10 + (byte - 48) ≤ most = let h = goes.high in let e = goes.value in omega (arith, h, e) in
      subst (λ n. IsNumber least most (take (i + 1) text) n) (sym goes.value)
      (next text i number (byte - 48) inside before is few goes.no_zero at_least at_most)

  pub read_whole : (text : List ℕ) (i number : ℕ) → length text ≤ i → (length text ≡ 0 → ⊥)
      → Before least most text i number → IsNumber least most text number
  read_whole text i number end some (inl (none, _)) = absurd (some (omega (arith, end, none)))
  read_whole text i number end some (inr is) = subst (λ t. IsNumber least most t number) (take_all i text end) is
