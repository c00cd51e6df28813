-- Each line is the line of one record.
use Rattle.std.proofs.Common.{◌≡◌, ◌⊎◌, inl, inr, ℕ, zero, suc, ◌+◌, ◌<◌, ◌^◌, Bool, true, false, cond, ◌&&◌, ◌||◌, List, [], ◌∷◌, ◌++◌, length, map, Option, Some, None, Result, Ok, refl, sym, ◌∙◌, ap, subst, arith}
use Rattle.std.specs.Prelude.{IfSome, codes, nat_lt, slice_index, ◌==◌}
use Rattle.std.specs.Fmt.{decimal}
use Rattle.std.specs.List.{All, list_all, slice_split}
use Rattle.std.proofs.lemmas.Bool.{and_from, and_parts, eq-eqb, eqb-true, ltb-true, lt-ltb, ne_eqb}
use Rattle.std.proofs.lemmas.List.{append_assoc, length-append}
use Rattle.std.proofs.lemmas.List.Elements.{All-cons, All-nil}
use Rattle.std.proofs.lemmas.List.Splits.{slice_split_at, slice_split_none}
use Rattle.std.proofs.lemmas.Option.{none-some, same_Some}
use Rattle.std.proofs.lemmas.Slice.Eq.{bytes_eq-Decides}
use Rattle.hex.specs.Hex.{IsBytes, encode_lower}
use Rattle.hex.proofs.HexLemmas.{decode_of-encode_lower}
use Rattle.fault_place.specs.Reader.{Accepts}
use Rattle.ascii_bytes.specs.Classes.{is_digit, is_letter_or_digit}
use Rattle.ascii_bytes.specs.Digits as digits
use Rattle.res_base.specs.Names.{text_eq}
use Rattle.res_base.specs.declared.reading.Check.{Check}
use Rattle.res_base.specs.declared.reading.Check.TheVariants.{Sha1, Md5, Sha256, NoCheck}
use Rattle.cache_layout.specs.Fields.{is_small_digit}
use Rattle.cache_layout.specs.Lines.{IsDigest, IsGoneLine, IsRecordLine, check_text, checks_text, digests_text, fields_text, gone_text, length_text, moment_text, record_text, sha256_text}
use Rattle.cache_layout.specs.Places.{Lacks}
use Rattle.cache_layout.specs.Readings.{bytes_or_none, candidate, check_in, checks_in, digest_in, ends_field, fits, gone_in, if_gone_line_is, if_line_is, is_bar, is_digest, is_sha256, record_in, record_of, third}
use Rattle.cache_layout.specs.declared.record.Record.{Record}
use Rattle.cache_layout.proofs.CheckLists.{checks_lack, checks_some, name_lacks}
use Rattle.cache_layout.proofs.Decimals.{all_digits}
use Rattle.cache_layout.proofs.HexDigests.{encoded_digits}
use Rattle.cache_layout.proofs.Values.{value_of}
use Rattle.cache_layout.proofs.Words.{lacks_class}

-- what is read is a line

bytes_from : (xs : List ℕ) → list_all (λ b. nat_lt b 256) xs ≡ true → IsBytes xs
bytes_from [] all i = omega arith
bytes_from (x ∷ xs) all zero = ltb-true x 256 (and_parts (nat_lt x 256) (list_all (λ b. nat_lt b 256) xs) all).0
bytes_from (x ∷ xs) all (suc i) = bytes_from xs (and_parts (nat_lt x 256) (list_all (λ b. nat_lt b 256) xs) all).1 i

digest_from : (size : ℕ) (digest : List ℕ) → is_digest size digest ≡ true → IsDigest size digest
digest_from size digest is =
    let both = and_parts (length digest == size) (list_all (λ b. nat_lt b 256) digest) is in
    (eqb-true (length digest) size both.0, bytes_from digest both.1)

sha256_from : (o : Option (List ℕ)) → is_sha256 o ≡ true → IfSome o (IsDigest 32)
sha256_from None is = tt
sha256_from (Some digest) is = digest_from 32 digest is

line_from : (text : List ℕ) (made : Record) → text_eq text (record_text made) ≡ true → fits made ≡ true
    → IsRecordLine text made
line_from text made same fit =
    let first = and_parts (is_digest 20 made.sha1)
    (is_sha256 made.sha256 && (nat_lt made.length (2 ^ 64) && nat_lt made.moment (2 ^ 64))) fit in
    let second = and_parts (is_sha256 made.sha256) (nat_lt made.length (2 ^ 64) && nat_lt made.moment (2 ^ 64)) first.1 in
    let third = and_parts (nat_lt made.length (2 ^ 64)) (nat_lt made.moment (2 ^ 64)) second.1 in
    record {
      whole = (bytes_eq-Decides text (record_text made)).0 same;
      sha1 = digest_from 20 made.sha1 first.0;
      sha256 = sha256_from made.sha256 second.0;
      small_length = ltb-true made.length (2 ^ 64) third.0;
      small_moment = ltb-true made.moment (2 ^ 64) third.1;
    }

read_some : (text : List ℕ) (made : Option Record) (entry : Record) → if_line_is text made ≡ Some entry
    → IsRecordLine text entry
read_some text None entry e = absurd (none-some entry e)
read_some text (Some made) entry e = by (text_eq text (record_text made)) (fits made) refl refl e
  where
    by : (same fit : Bool) → text_eq text (record_text made) ≡ same → fits made ≡ fit
        → cond (same && fit) (Some made) None ≡ Some entry → IsRecordLine text entry
    by true true p q f = subst (IsRecordLine text) (same_Some made entry f) (line_from text made p q)
    by true false p q f = absurd (none-some entry f)
    by false fit p q f = absurd (none-some entry f)

pub only : (text : List ℕ) (entry : Record) → record_in text ≡ Some entry → IsRecordLine text entry
only text entry e = read_some text (candidate (slice_split ends_field text)) entry e

-- a line is read

all_fields : (text : List ℕ) → Lacks 32 text → Lacks 10 text → All (λ b. ends_field b ≡ false) text
all_fields [] p q = All-nil (λ b. ends_field b ≡ false)
all_fields (x ∷ text) (space, p) (feed, q) = All-cons (λ b. ends_field b ≡ false) x text
    (rw (ne_eqb x 32 space, ne_eqb x 10 feed) refl) (all_fields text p q)

split_field : (sign : ℕ) (text rest : List ℕ) → ends_field sign ≡ true → Lacks 32 text → Lacks 10 text
    → slice_split ends_field (text ++ sign ∷ rest) ≡ text ∷ slice_split ends_field rest
split_field sign text rest is p q = slice_split_at ends_field text sign rest (all_fields text p q) is

number_lacks : (sign n : ℕ) → is_digit sign ≡ false → n < 2 ^ 64 → Lacks sign (decimal n)
number_lacks sign n other small = lacks_class is_digit sign (decimal n) other (all_digits n small)

digest_lacks : (sign : ℕ) (digest : List ℕ) → is_small_digit sign ≡ false → IsBytes digest
    → Lacks sign (encode_lower digest)
digest_lacks sign digest other are = lacks_class is_small_digit sign (encode_lower digest) other
    (encoded_digits digest are)

split_moment : (moment : ℕ) → moment < 2 ^ 64
    → slice_split ends_field (decimal moment ++ 10 ∷ []) ≡ decimal moment ∷ ([] ∷ [])
split_moment moment small = split_field 10 (decimal moment) [] refl (number_lacks 32 moment refl small)
    (number_lacks 10 moment refl small)

split_length : (len moment : ℕ) → len < 2 ^ 64 → moment < 2 ^ 64
    → slice_split ends_field (decimal len ++ moment_text moment) ≡ decimal len ∷ (decimal moment ∷ ([] ∷ []))
split_length len moment p q = split_field 32 (decimal len) (decimal moment ++ 10 ∷ []) refl
    (number_lacks 32 len refl p) (number_lacks 10 len refl p)
    ∙ ap (λ fields. decimal len ∷ fields) (split_moment moment q)

digest_back : (digest : List ℕ) → IsBytes digest → digest_in (encode_lower digest) ≡ digest
digest_back digest are = ap bytes_or_none (decode_of-encode_lower digest are)

check_back : (check : Check) → check_in (check_text check) ≡ check
check_back Sha1 = refl
check_back Md5 = refl
check_back Sha256 = refl
check_back NoCheck = refl

names_back : (checks : List Check) → map check_in (map check_text checks) ≡ checks
names_back [] = refl
names_back (c ∷ checks) = ap (λ x. x ∷ map check_in (map check_text checks)) (check_back c)
    ∙ ap (λ xs. c ∷ xs) (names_back checks)

all_bars : (text : List ℕ) → Lacks 124 text → All (λ b. is_bar b ≡ false) text
all_bars [] p = All-nil (λ b. is_bar b ≡ false)
all_bars (x ∷ text) (bar, p) = All-cons (λ b. is_bar b ≡ false) x text (ne_eqb x 124 bar) (all_bars text p)

split_names : (check : Check) (checks : List Check)
    → slice_split is_bar (checks_text (check ∷ checks)) ≡ map check_text (check ∷ checks)
split_names check [] = slice_split_none is_bar (check_text check)
    (all_bars (check_text check) (name_lacks 124 refl check))
split_names check (next ∷ checks) =
    slice_split_at is_bar (check_text check) 124 (checks_text (next ∷ checks))
    (all_bars (check_text check) (name_lacks 124 refl check)) refl
    ∙ ap (λ names. check_text check ∷ names) (split_names next checks)

some_names : (text : List ℕ) → 0 < length text → checks_in text ≡ map check_in (slice_split is_bar text)
some_names [] some = absurd (omega (arith, some))
some_names (x ∷ text) some = refl

checks_back : (checks : List Check) → checks_in (checks_text checks) ≡ checks
checks_back [] = refl
checks_back (check ∷ checks) = some_names (checks_text (check ∷ checks)) (checks_some check checks)
    ∙ ap (map check_in) (split_names check checks) ∙ names_back (check ∷ checks)

bar_other : (sign : ℕ) → is_bar sign ≡ false → 124 ≡ sign → ⊥
bar_other sign e f = let is : is_bar sign ≡ true = ap is_bar (sym f) in cc

checks_lack_both : (checks : List Check) → Lacks 32 (checks_text checks) × Lacks 10 (checks_text checks)
checks_lack_both checks = (checks_lack 32 refl (bar_other 32 refl) checks, checks_lack 10 refl (bar_other 10 refl) checks)

-- the fields of a line

split_first : (checks : List Check) (sha1 : List ℕ) (len moment : ℕ) → IsBytes sha1 → len < 2 ^ 64 → moment < 2 ^ 64
    → slice_split ends_field (checks_text checks ++ digests_text sha1 None len moment)
    ≡ checks_text checks ∷ (encode_lower sha1 ∷ (decimal len ∷ (decimal moment ∷ ([] ∷ []))))
split_first checks sha1 len moment are p q =
    split_field 32 (checks_text checks) (encode_lower sha1 ++ length_text len moment) refl (checks_lack_both checks).0
    (checks_lack_both checks).1
    ∙ ap (λ fields. checks_text checks ∷ fields)
    (split_field 32 (encode_lower sha1) (decimal len ++ moment_text moment) refl (digest_lacks 32 sha1 refl are)
    (digest_lacks 10 sha1 refl are)
    ∙ ap (λ fields. encode_lower sha1 ∷ fields) (split_length len moment p q))

split_second : (checks : List Check) (sha1 sha256 : List ℕ) (len moment : ℕ) → IsBytes sha1 → IsBytes sha256
    → len < 2 ^ 64 → moment < 2 ^ 64
    → slice_split ends_field (checks_text checks ++ digests_text sha1 (Some sha256) len moment)
    ≡ checks_text checks
    ∷ (encode_lower sha1 ∷ (encode_lower sha256 ∷ (decimal len ∷ (decimal moment ∷ ([] ∷ [])))))
split_second checks sha1 sha256 len moment are too p q =
    split_field 32 (checks_text checks) (encode_lower sha1 ++ sha256_text (Some sha256) len moment) refl
    (checks_lack_both checks).0 (checks_lack_both checks).1
    ∙ ap (λ fields. checks_text checks ∷ fields)
    (split_field 32 (encode_lower sha1) (encode_lower sha256 ++ length_text len moment) refl
    (digest_lacks 32 sha1 refl are) (digest_lacks 10 sha1 refl are)
    ∙ ap (λ fields. encode_lower sha1 ∷ fields)
    (split_field 32 (encode_lower sha256) (decimal len ++ moment_text moment) refl (digest_lacks 32 sha256 refl too)
    (digest_lacks 10 sha256 refl too)
    ∙ ap (λ fields. encode_lower sha256 ∷ fields) (split_length len moment p q)))

abbrev record_with : List Check → List ℕ → Option (List ℕ) → ℕ → ℕ → Record
record_with checks sha1 sha256 len moment = record {
  checks = checks;
  sha1 = sha1;
  sha256 = sha256;
  length = len;
  moment = moment;
}

same_record : (checks checks2 : List Check) (sha1 sha1b : List ℕ) (sha256 sha256b : Option (List ℕ))
    (len lenb moment momentb : ℕ) → checks ≡ checks2 → sha1 ≡ sha1b → sha256 ≡ sha256b → len ≡ lenb → moment ≡ momentb
    → record_with checks sha1 sha256 len moment ≡ record_with checks2 sha1b sha256b lenb momentb
same_record checks checks2 sha1 sha1b sha256 sha256b len lenb moment momentb p q r s t =
    ap (λ x. record_with x sha1 sha256 len moment) p
    ∙ ap (λ x. record_with checks2 x sha256 len moment) q
    ∙ ap (λ x. record_with checks2 sha1b x len moment) r
    ∙ ap (λ x. record_with checks2 sha1b sha256b x moment) s
    ∙ ap (λ x. record_with checks2 sha1b sha256b lenb x) t

candidate_is : (checks : List Check) (sha1 : List ℕ) (o : Option (List ℕ)) (len moment : ℕ) → IsBytes sha1
    → IfSome o IsBytes → len < 2 ^ 64 → moment < 2 ^ 64
    → candidate (slice_split ends_field (record_text (record_with checks sha1 o len moment)))
    ≡ Some (record_with checks sha1 o len moment)
candidate_is checks sha1 None len moment are _ p q =
    ap (λ fields. candidate (codes "coursier-cache" ∷ (codes "1" ∷ fields)))
    (split_first checks sha1 len moment are p q)
    ∙ ap Some (same_record (checks_in (checks_text checks)) checks (digest_in (encode_lower sha1)) sha1 None None
    (digits.decimal (decimal len)) len (digits.decimal (decimal moment)) moment (checks_back checks)
    (digest_back sha1 are) refl (value_of len p) (value_of moment q))
candidate_is checks sha1 (Some sha256) len moment are too p q =
    ap (λ fields. candidate (codes "coursier-cache" ∷ (codes "2" ∷ fields)))
    (split_second checks sha1 sha256 len moment are too p q)
    ∙ ap Some (same_record (checks_in (checks_text checks)) checks (digest_in (encode_lower sha1)) sha1
    (Some (digest_in (encode_lower sha256))) (Some sha256)
    (digits.decimal (decimal len)) len (digits.decimal (decimal moment)) moment (checks_back checks)
    (digest_back sha1 are) (ap Some (digest_back sha256 too)) (value_of len p) (value_of moment q))

all_small : (xs : List ℕ) → IsBytes xs → list_all (λ b. nat_lt b 256) xs ≡ true
all_small [] are = refl
all_small (x ∷ xs) are = and_from (nat_lt x 256) (list_all (λ b. nat_lt b 256) xs) (lt-ltb x 256 (are zero))
    (all_small xs (λ i. are (suc i)))

digest_fits : (size : ℕ) (digest : List ℕ) → IsDigest size digest → is_digest size digest ≡ true
digest_fits size digest is = and_from (length digest == size) (list_all (λ b. nat_lt b 256) digest)
    (eq-eqb (length digest) size is.0) (all_small digest is.1)

sha256_fits : (o : Option (List ℕ)) → IfSome o (IsDigest 32) → is_sha256 o ≡ true
sha256_fits None is = refl
sha256_fits (Some digest) is = digest_fits 32 digest is

some_bytes : (o : Option (List ℕ)) → IfSome o (IsDigest 32) → IfSome o IsBytes
some_bytes None is = tt
some_bytes (Some digest) is = is.1

read_line : (text : List ℕ) (entry : Record) → IsRecordLine text entry → if_line_is text (Some entry) ≡ Some entry
read_line text entry is =
    let same : text_eq text (record_text entry) ≡ true = (bytes_eq-Decides text (record_text entry)).1 is.whole in
    let fit : fits entry ≡ true = and_from (is_digest 20 entry.sha1)
    (is_sha256 entry.sha256 && (nat_lt entry.length (2 ^ 64) && nat_lt entry.moment (2 ^ 64)))
    (digest_fits 20 entry.sha1 is.sha1)
    (and_from (is_sha256 entry.sha256) (nat_lt entry.length (2 ^ 64) && nat_lt entry.moment (2 ^ 64))
    (sha256_fits entry.sha256 is.sha256)
    (and_from (nat_lt entry.length (2 ^ 64)) (nat_lt entry.moment (2 ^ 64))
    (lt-ltb entry.length (2 ^ 64) is.small_length) (lt-ltb entry.moment (2 ^ 64) is.small_moment))) in
    ap (λ b. cond b (Some entry) None)
    (and_from (text_eq text (record_text entry)) (fits entry) same fit)

pub back : (text : List ℕ) (entry : Record) → IsRecordLine text entry → record_in text ≡ Some entry
back text entry is =
    let parts : candidate (slice_split ends_field text) ≡ Some entry =
    ap (λ t. candidate (slice_split ends_field t)) is.whole
    ∙ candidate_is entry.checks entry.sha1 entry.sha256 entry.length entry.moment is.sha1.1
    (some_bytes entry.sha256 is.sha256) is.small_length is.small_moment in
    ap (if_line_is text) parts ∙ read_line text entry is

pub none_outside : (text : List ℕ) → (Accepts IsRecordLine text → ⊥) → record_in text ≡ None
none_outside text outside = by (record_in text) refl
  where
    by : (o : Option Record) → record_in text ≡ o → o ≡ None
    by None e = refl
    by (Some entry) e = absurd (outside (entry, only text entry e))

-- absence records

pub only_gone : (text : List ℕ) (moment : ℕ) → gone_in text ≡ Some moment → IsGoneLine text moment
only_gone text moment e =
    by (digits.decimal (third (slice_split ends_field text))) e
  where
    by : (made : ℕ) → if_gone_line_is text made ≡ Some moment → IsGoneLine text moment
    by made f = cases (text_eq text (gone_text made)) (nat_lt made (2 ^ 64)) refl refl f
      where
        cases : (same fit : Bool) → text_eq text (gone_text made) ≡ same → nat_lt made (2 ^ 64) ≡ fit
            → cond (same && fit) (Some made) None ≡ Some moment → IsGoneLine text moment
        cases true true p q g = subst (IsGoneLine text) (same_Some made moment g) (record {
          whole = (bytes_eq-Decides text (gone_text made)).0 p;
          small = ltb-true made (2 ^ 64) q;
        })
        cases true false p q g = absurd (none-some moment g)
        cases false fit p q g = absurd (none-some moment g)

pub back_gone : (text : List ℕ) (moment : ℕ) → IsGoneLine text moment → gone_in text ≡ Some moment
back_gone text moment is =
    let parts : third (slice_split ends_field text) ≡ decimal moment =
    ap (λ t. third (slice_split ends_field t)) is.whole
    ∙ ap (λ fields. third (codes "coursier-gone" ∷ (codes "1" ∷ fields))) (split_moment moment is.small) in
    let value : digits.decimal (third (slice_split ends_field text)) ≡ moment = ap digits.decimal parts
    ∙ value_of moment is.small in
    let same : text_eq text (gone_text moment) ≡ true = (bytes_eq-Decides text (gone_text moment)).1 is.whole in
    ap (if_gone_line_is text) value
    ∙ ap (λ b. cond b (Some moment) None) (and_from (text_eq text (gone_text moment)) (nat_lt moment (2 ^ 64)) same
    (lt-ltb moment (2 ^ 64) is.small))

pub no_gone_outside : (text : List ℕ) → (Accepts IsGoneLine text → ⊥) → gone_in text ≡ None
no_gone_outside text outside = by (gone_in text) refl
  where
    by : (o : Option ℕ) → gone_in text ≡ o → o ≡ None
    by None e = refl
    by (Some moment) e = absurd (outside (moment, only_gone text moment e))
