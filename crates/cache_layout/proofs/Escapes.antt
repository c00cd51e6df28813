-- Two URLs have two names.
use Rattle.std.proofs.Common.{◌≡◌, ◌⊎◌, inl, inr, ℕ, suc, ◌+◌, ◌*◌, ◌/◌, ◌%◌, ◌<◌, Bool, true, false, cond, List, [], ◌∷◌, ◌++◌, length, drop, get_or, take, Option, Some, None, refl, sym, ◌∙◌, ap, subst, arith}
use Rattle.std.specs.Prelude.{codes, nat_eq, slice_index}
use Rattle.std.specs.List.{flat_map, starts_with}
use Rattle.std.proofs.lemmas.Bool.{eqb-true}
use Rattle.std.proofs.lemmas.Grind.{flat_map-append}
use Rattle.std.proofs.lemmas.List.{append-nil, append_assoc, append_cancel_left, take_more}
use Rattle.std.proofs.lemmas.Option.{same_Some}
use Rattle.hex.specs.Hex.{IsBytes, hex_digit_value, upper_digits}
use Rattle.hex.proofs.HexLemmas.{IsDigits-upper_digits}
use Rattle.res_base.specs.Paths.{url_at}
use Rattle.cache_layout.specs.Addresses.{IsAddress}
use Rattle.cache_layout.specs.Names.{escaped, escaped_byte, is_data_name, is_name_byte, name_of}
use Rattle.cache_layout.proofs.AddressParts.{File, Http, address_parts}
use Rattle.cache_layout.proofs.Literals.{Behind, Either, differ_at}
use Rattle.cache_layout.proofs.Parts.{head_same, tail_same}

upper_same : (d e : ℕ) → d < 16 → e < 16 → slice_index upper_digits d ≡ slice_index upper_digits e → d ≡ e
upper_same d e p q h =
    let first = IsDigits-upper_digits d p in
    let second = IsDigits-upper_digits e q in
    let both : Some d ≡ Some e = sym first ∙ ap hex_digit_value h ∙ second in
    same_Some d e both

-- how a byte is written
data Written (byte : ℕ) : Type 0 where
  plain : is_name_byte byte ≡ true → escaped_byte byte ≡ byte ∷ [] → Written byte
  quoted : escaped_byte byte
      ≡ 37 ∷ (slice_index upper_digits (byte / 16) ∷ (slice_index upper_digits (byte % 16) ∷ [])) → Written byte

written : (byte : ℕ) → Written byte
written byte = by (is_name_byte byte) refl
  where
    by : (b : Bool) → is_name_byte byte ≡ b → Written byte
    by true e = plain e (rw e refl)
    by false e = quoted (rw e refl)

no_percent : {P : Type 0} (byte : ℕ) → is_name_byte byte ≡ true → byte ≡ 37 → P
no_percent byte is e = let other : is_name_byte byte ≡ false = ap is_name_byte e in cc

record IsSame (x y : ℕ) (xs ys : List ℕ) : Type 0 where
  first : x ≡ y
  rest : escaped xs ≡ escaped ys

same_byte : (x y : ℕ) → x < 256 → y < 256 → x / 16 ≡ y / 16 → x % 16 ≡ y % 16 → x ≡ y
same_byte x y p q e f = omega (arith, e, f)

same_first : (x y : ℕ) (xs ys : List ℕ) → x < 256 → y < 256 → Written x → Written y
    → escaped_byte x ++ escaped xs ≡ escaped_byte y ++ escaped ys → IsSame x y xs ys
same_first x y xs ys p q (plain _ e) (plain _ f) h =
    let both : x ∷ escaped xs ≡ y ∷ escaped ys = sym (ap (λ t. t ++ escaped xs) e) ∙ h ∙ ap (λ t. t ++ escaped ys) f in
    record { first = head_same x y (escaped xs) (escaped ys) both; rest = tail_same x y (escaped xs) (escaped ys) both }
same_first x y xs ys p q (plain is e) (quoted f) h =
    let high = slice_index upper_digits (y / 16) in
    let low = slice_index upper_digits (y % 16) in
    let both : x ∷ escaped xs ≡ 37 ∷ (high ∷ (low ∷ escaped ys)) = sym (ap (λ t. t ++ escaped xs) e) ∙ h
    ∙ ap (λ t. t ++ escaped ys) f in
    no_percent x is (head_same x 37 (escaped xs) (high ∷ (low ∷ escaped ys)) both)
same_first x y xs ys p q (quoted e) (plain is f) h =
    let high = slice_index upper_digits (x / 16) in
    let low = slice_index upper_digits (x % 16) in
    let both : 37 ∷ (high ∷ (low ∷ escaped xs)) ≡ y ∷ escaped ys = sym (ap (λ t. t ++ escaped xs) e) ∙ h
    ∙ ap (λ t. t ++ escaped ys) f in
    no_percent y is (sym (head_same 37 y (high ∷ (low ∷ escaped xs)) (escaped ys) both))
same_first x y xs ys p q (quoted e) (quoted f) h =
    let h1 = slice_index upper_digits (x / 16) in
    let l1 = slice_index upper_digits (x % 16) in
    let h2 = slice_index upper_digits (y / 16) in
    let l2 = slice_index upper_digits (y % 16) in
    let both : 37 ∷ (h1 ∷ (l1 ∷ escaped xs)) ≡ 37 ∷ (h2 ∷ (l2 ∷ escaped ys)) =
    sym (ap (λ t. t ++ escaped xs) e) ∙ h ∙ ap (λ t. t ++ escaped ys) f in
    let first = tail_same 37 37 (h1 ∷ (l1 ∷ escaped xs)) (h2 ∷ (l2 ∷ escaped ys)) both in
    let second = tail_same h1 h2 (l1 ∷ escaped xs) (l2 ∷ escaped ys) first in
    let high = upper_same (x / 16) (y / 16) (omega (arith, p)) (omega (arith, q))
    (head_same h1 h2 (l1 ∷ escaped xs) (l2 ∷ escaped ys) first) in
    let low = upper_same (x % 16) (y % 16) (omega arith) (omega arith)
    (head_same l1 l2 (escaped xs) (escaped ys) second) in
    record { first = same_byte x y p q high low; rest = tail_same l1 l2 (escaped xs) (escaped ys) second }

nothing : {P : Type 0} (y : ℕ) (ys : List ℕ) → Written y → [] ≡ escaped_byte y ++ escaped ys → P
nothing y ys (plain _ f) h = let e : [] ≡ y ∷ escaped ys = h ∙ ap (λ t. t ++ escaped ys) f in cc
nothing y ys (quoted f) h =
    let high = slice_index upper_digits (y / 16) in
    let low = slice_index upper_digits (y % 16) in
    let e : [] ≡ 37 ∷ (high ∷ (low ∷ escaped ys)) = h ∙ ap (λ t. t ++ escaped ys) f in cc

tail_bytes : (x : ℕ) (xs : List ℕ) → IsBytes (x ∷ xs) → IsBytes xs
tail_bytes x xs h i = h (suc i)

pub escaped_same : (xs ys : List ℕ) → IsBytes xs → IsBytes ys → escaped xs ≡ escaped ys → xs ≡ ys
escaped_same [] [] p q h = refl
escaped_same [] (y ∷ ys) p q h = nothing y ys (written y) h
escaped_same (x ∷ xs) [] p q h = nothing x xs (written x) (sym h)
escaped_same (x ∷ xs) (y ∷ ys) p q h =
    let one = same_first x y xs ys (p 0) (q 0) (written x) (written y) h in
    ap (λ b. b ∷ xs) one.first
    ∙ ap (λ t. y ∷ t) (escaped_same xs ys (tail_bytes x xs p) (tail_bytes y ys q) one.rest)

-- the three kinds of URLs, with what follows their beginning
pub data Kind (url : List ℕ) : Type 0 where
  http : (rest : List ℕ) → url ≡ codes "http://" ++ rest → name_of url ≡ codes "http/" ++ escaped rest → Kind url
  file : (rest : List ℕ) → url ≡ codes "file:/" ++ rest → name_of url ≡ codes "file/" ++ escaped rest → Kind url
  here : (rest : List ℕ) → url ≡ codes "file:" ++ rest → name_of url ≡ codes "here/" ++ escaped rest → Kind url

rest_bytes : (word rest url : List ℕ) → url ≡ word ++ rest → IsBytes url → IsBytes rest
rest_bytes [] rest url e h = subst IsBytes e h
rest_bytes (b ∷ word) rest [] e h = cc
rest_bytes (b ∷ word) rest (x ∷ url) e h = rest_bytes word rest url (tail_same x b url (word ++ rest) e)
    (tail_bytes x url h)

-- a URL of a folder, by whether a slash stands behind `file:`
kind_of_file : (rest : List ℕ) → Kind (codes "file:" ++ rest)
kind_of_file [] = here [] refl refl
kind_of_file (x ∷ rest) = by (nat_eq 47 x) refl
  where
    by : (b : Bool) → nat_eq 47 x ≡ b → Kind (codes "file:" ++ x ∷ rest)
    by true e =
        let is : 47 ≡ x = eqb-true 47 x e in
        file rest (ap (λ y. codes "file:" ++ y ∷ rest) (sym is))
        (ap (λ y. name_of (codes "file:" ++ y ∷ rest)) (sym is))
    by false e = here (x ∷ rest) refl (rw e refl)

-- an address begins so, and so does its URL
kind_of : (url rest : List ℕ) → ((url ≡ codes "http://" ++ rest) ⊎ (url ≡ codes "file:" ++ rest)) → Kind url
kind_of url rest (inl e) = http rest e (ap name_of e)
kind_of url rest (inr e) = subst Kind (sym e) (kind_of_file rest)

no_file : {P : Type 0} (a b : List ℕ) → codes "http/" ++ a ≡ codes "file/" ++ b → P
no_file a b e = differ_at 0 104 102 (codes "http/" ++ a) (codes "file/" ++ b) refl refl (λ f. omega (arith, f)) e

no_here : {P : Type 0} (a b : List ℕ) → codes "http/" ++ a ≡ codes "here/" ++ b → P
no_here a b e = differ_at 1 116 101 (codes "http/" ++ a) (codes "here/" ++ b) refl refl (λ f. omega (arith, f)) e

not_here : {P : Type 0} (a b : List ℕ) → codes "file/" ++ a ≡ codes "here/" ++ b → P
not_here a b e = differ_at 0 102 104 (codes "file/" ++ a) (codes "here/" ++ b) refl refl (λ f. omega (arith, f)) e

same_rest : (word scheme a b url other : List ℕ) → IsBytes url → IsBytes other → url ≡ scheme ++ a → other ≡ scheme ++ b
    → word ++ escaped a ≡ word ++ escaped b → url ≡ other
same_rest word scheme a b url other p q e f h =
    let rests = escaped_same a b (rest_bytes scheme a url e p) (rest_bytes scheme b other f q)
    (append_cancel_left word (escaped a) (escaped b) h) in
    e ∙ ap (λ t. scheme ++ t) rests ∙ sym f

urls_apart : (url other : List ℕ) → IsBytes url → IsBytes other → Kind url → Kind other → name_of url ≡ name_of other
    → url ≡ other
urls_apart url other p q (http a e n) (http b f m) h =
    same_rest (codes "http/") (codes "http://") a b url other p q e f (sym n ∙ h ∙ m)
urls_apart url other p q (http a e n) (file b f m) h = no_file (escaped a) (escaped b) (sym n ∙ h ∙ m)
urls_apart url other p q (http a e n) (here b f m) h = no_here (escaped a) (escaped b) (sym n ∙ h ∙ m)
urls_apart url other p q (file a e n) (http b f m) h = no_file (escaped b) (escaped a) (sym m ∙ sym h ∙ n)
urls_apart url other p q (file a e n) (file b f m) h =
    same_rest (codes "file/") (codes "file:/") a b url other p q e f (sym n ∙ h ∙ m)
urls_apart url other p q (file a e n) (here b f m) h = not_here (escaped a) (escaped b) (sym n ∙ h ∙ m)
urls_apart url other p q (here a e n) (http b f m) h = no_here (escaped b) (escaped a) (sym m ∙ sym h ∙ n)
urls_apart url other p q (here a e n) (file b f m) h = not_here (escaped b) (escaped a) (sym m ∙ sym h ∙ n)
urls_apart url other p q (here a e n) (here b f m) h =
    same_rest (codes "here/") (codes "file:") a b url other p q e f (sym n ∙ h ∙ m)

pub address_kind : (address path : List ℕ) → IsAddress address → Kind (url_at address path)
address_kind address path is = by (address_parts address is)
  where
    by : Either Http File address → Kind (url_at address path)
    by (inl web) = kind_of (url_at address path) (web.rest ++ 47 ∷ path)
        (inl (ap (λ t. t ++ 47 ∷ path) web.whole ∙ append_assoc (codes "http://") web.rest (47 ∷ path)))
    by (inr folder) = kind_of (url_at address path) (folder.rest ++ 47 ∷ path)
        (inr (ap (λ t. t ++ 47 ∷ path) folder.whole ∙ append_assoc (codes "file:") folder.rest (47 ∷ path)))

pub apart : (address path other_address other_path : List ℕ) → IsBytes (url_at address path)
    → IsBytes (url_at other_address other_path) → IsAddress address → IsAddress other_address
    → name_of (url_at address path) ≡ name_of (url_at other_address other_path)
    → url_at address path ≡ url_at other_address other_path
apart address path other_address other_path p q is are = urls_apart (url_at address path)
    (url_at other_address other_path) p q (address_kind address path is) (address_kind other_address other_path are)

-- each name is that of a data file
pub names_data : (url : List ℕ) → is_data_name (name_of url) ≡ true
names_data url = by (starts_with nat_eq url (codes "http://")) (starts_with nat_eq url (codes "file:/"))
  where
    by : (b c : Bool) → is_data_name (cond b (codes "http/" ++ escaped (drop 7 url))
        (cond c (codes "file/" ++ escaped (drop 6 url)) (codes "here/" ++ escaped (drop 5 url)))) ≡ true
    by true c = refl
    by false true = refl
    by false false = refl

-- one more byte
pub escaped_more : (text : List ℕ) (i : ℕ) → i < length text
    → escaped (take (i + 1) text) ≡ escaped (take i text) ++ escaped_byte (get_or text i 0)
escaped_more text i inside = ap escaped (take_more text i 0 inside)
    ∙ flat_map-append escaped_byte (take i text) (get_or text i 0 ∷ [])
    ∙ ap (λ t. escaped (take i text) ++ t) (append-nil (escaped_byte (get_or text i 0)))

pub data_of : (url name : List ℕ) → name ≡ name_of url → is_data_name name ≡ true
data_of url name e = ap is_data_name e ∙ names_data url
