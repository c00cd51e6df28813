-- Names of the cache that differ.
use Rattle.std.proofs.Common.{reverse, ℕ, ◌≡◌, ◌≢◌, ◌<◌, ◌^◌, ◌++◌, Bool, true, false, eqb, List, [], ◌∷◌, get_or, codes, refl, sym, ap, ◌∙◌, true≢false}
use Rattle.std.specs.Cmp.Lexicographic.{bytes_decides}
use Rattle.std.specs.Fmt.{decimal}
use Rattle.std.proofs.lemmas.Bool.{eq-eqb, false≢true}
use Rattle.std.proofs.lemmas.Fmt.{decimal_injective}
use Rattle.std.proofs.lemmas.List.{reverse-append, reverse-reverse}
use Rattle.cache_images.specs.Places.{IsDataName, IsPartName, gone_name, part_name, record_name, record_part_name}
use Rattle.cache_layout.specs.Names.{is_data_name}
use Rattle.res_base.specs.Names.{text_eq}

pub eq_self : (n : List ℕ) → text_eq n n ≡ true
eq_self n = (bytes_decides n n).1 refl

pub eq_true : (m n : List ℕ) → text_eq m n ≡ true → m ≡ n
eq_true m n e = (bytes_decides m n).0 e

pub eq_false : (m n : List ℕ) → m ≢ n → text_eq m n ≡ false
eq_false m n apart = by (text_eq m n) refl
  where
    by : (b : Bool) → text_eq m n ≡ b → b ≡ false
    by true e = absurd (apart (eq_true m n e))
    by false e = refl

-- two numerals
differ : (a b : ℕ) → eqb a b ≡ false → a ≢ b
differ a b f e = false≢true (sym f ∙ eq-eqb a b e)

abbrev head : List ℕ → ℕ
head xs = get_or xs 0 0

-- a name that is tested is not one that fails the test
tested : (m n : List ℕ) → is_data_name m ≡ false → IsDataName n → m ≢ n
tested m n untrue named e = true≢false (sym named ∙ (ap is_data_name (sym e) ∙ untrue))

pub record_not_data : (m n : List ℕ) → IsDataName n → record_name m ≢ n
record_not_data m n named = tested (record_name m) n refl named

pub gone_not_data : (m n : List ℕ) → IsDataName n → gone_name m ≢ n
gone_not_data m n named = tested (gone_name m) n refl named

pub part_not_data : (m n : List ℕ) → IsPartName m → IsDataName n → m ≢ n
part_not_data m n p named = tested m n (ap is_data_name p.begins) named

pub part_not_record : (m n : List ℕ) → IsPartName m → m ≢ record_name n
part_not_record m n p e = differ 112 114 refl (ap head (sym p.begins ∙ e))

pub part_not_gone : (m n : List ℕ) → IsPartName m → m ≢ gone_name n
part_not_gone m n p e = differ 112 103 refl (ap head (sym p.begins ∙ e))

pub record_not_gone : (m n : List ℕ) → record_name m ≢ gone_name n
record_not_gone m n e = differ 114 103 refl (ap head e)

unprefixed : (p m n : List ℕ) → p ++ m ≡ p ++ n → m ≡ n
unprefixed [] m n e = e
unprefixed (x ∷ p) m n e = let f : p ++ m ≡ p ++ n = cc in unprefixed p m n f

pub records_apart : (m n : List ℕ) → m ≢ n → record_name m ≢ record_name n
records_apart m n apart e = apart (unprefixed (codes "records/") m n e)

pub gones_apart : (m n : List ℕ) → m ≢ n → gone_name m ≢ gone_name n
gones_apart m n apart e = apart (unprefixed (codes "gone/") m n e)

pub is_part : (k : ℕ) → IsPartName (part_name k)
is_part k = record { rest = decimal k ++ codes ".part"; begins = refl }

pub is_record_part : (k : ℕ) → IsPartName (record_part_name k)
is_record_part k = record { rest = decimal k ++ codes ".rec"; begins = refl }

last-append : (xs : List ℕ) (y : ℕ) (ys : List ℕ)
    → get_or (reverse (xs ++ (y ∷ ys))) 0 0 ≡ get_or (reverse (y ∷ ys) ++ reverse xs) 0 0
last-append xs y ys = ap (λ (l : List ℕ). get_or l 0 0) (reverse-append xs (y ∷ ys))

pub parts_not_record_parts : (j k : ℕ) → part_name j ≢ record_part_name k
parts_not_record_parts j k e =
    let f : decimal j ++ codes ".part" ≡ decimal k ++ codes ".rec" =
    unprefixed (codes "parts/") (decimal j ++ codes ".part") (decimal k ++ codes ".rec") e in
    let left : get_or (reverse (decimal j ++ codes ".part")) 0 0 ≡ 116 = last-append (decimal j) 46 (codes "part") in
    let right : get_or (reverse (decimal k ++ codes ".rec")) 0 0 ≡ 99 = last-append (decimal k) 46 (codes "rec") in
    differ 116 99 refl (sym left ∙ (ap (λ (l : List ℕ). get_or (reverse l) 0 0) f ∙ right))

unsuffixed : (m n p : List ℕ) → m ++ p ≡ n ++ p → m ≡ n
unsuffixed m n p e =
    let f : reverse p ++ reverse m ≡ reverse p ++ reverse n =
    sym (reverse-append m p) ∙ (ap reverse e ∙ reverse-append n p) in
    let g : reverse m ≡ reverse n = unprefixed (reverse p) (reverse m) (reverse n) f in
    sym (reverse-reverse m) ∙ (ap reverse g ∙ reverse-reverse n)

pub parts_apart : (j k : ℕ) → j < 2 ^ 64 → k < 2 ^ 64 → j ≢ k → part_name j ≢ part_name k
parts_apart j k lj lk apart e =
    let f = unprefixed (codes "parts/") (decimal j ++ codes ".part") (decimal k ++ codes ".part") e in
    apart (decimal_injective j k lj lk (unsuffixed (decimal j) (decimal k) (codes ".part") f))
