-- Addresses and their parts.
use Rattle.std.proofs.Common.{◌≡◌, ◌⊎◌, inl, inr, ℕ, suc, ◌+◌, ◌<◌, ◌≤◌, max, Bool, true, false, cond, not, ◌&&◌, List, [], ◌∷◌, ◌++◌, length, drop, refl, sym, ◌∙◌, ap, subst, arith}
use Rattle.std.specs.Prelude.{Err, IfErr, Ok, OnOk, Result, codes, nat_eq}
use Rattle.std.specs.Fmt.{decimal}
use Rattle.std.specs.List.{All, list_all, slice_split, starts_with}
use Rattle.std.proofs.Math.Seq.{drop-append-add}
use Rattle.std.proofs.lemmas.Bool.{and_from, and_parts, eqb-true, ne_eqb}
use Rattle.std.proofs.lemmas.Bool.Decides.{Decides-eqb}
use Rattle.std.proofs.lemmas.List.{append-nil, drop-drop, length-append, length-drop}
use Rattle.std.proofs.lemmas.List.Elements.{All-cons, All-nil}
use Rattle.std.proofs.lemmas.List.Splits.{slice_split_at, slice_split_none}
use Rattle.std.proofs.lemmas.Slice.Eq.{starts_is}
use Rattle.fault_place.specs.Place.{GoesOn, IsPlace}
use Rattle.ascii_bytes.specs.Classes.{is_digit}
use Rattle.link_base.specs.FilePaths.{is_file_path, is_segment, is_segment_byte, is_slash}
use Rattle.res_base.specs.Plain.{is_at_most_two_dots}
use Rattle.cache_layout.specs.Addresses.{IsNamed, is_address, is_after_file, is_after_http, is_authority, is_host, is_host_byte, is_named, is_port, is_with}
use Rattle.cache_layout.specs.Places.{Begins, IsBefore, Lacks, common}
use Rattle.cache_layout.proofs.Decimals.{all_digits}
use Rattle.cache_layout.proofs.Literals.{Behind, Either, behind_at, differ_at, either_left, either_place, either_right, not_behind, same_place}
use Rattle.cache_layout.proofs.Parts.{Both}
use Rattle.cache_layout.proofs.Named.{named_short}
use Rattle.cache_layout.proofs.Values.{port_number}
use Rattle.cache_layout.proofs.With.{Cut, Holds, Maybe, alone, back, cut, leaves_first, leaves_second, with_second}
use Rattle.cache_layout.proofs.Words.{lacks_append, lacks_class}

-- which parts lack which signs

pub named_lacks : (has : ℕ → Bool) (sign : ℕ) → has sign ≡ false → (text : List ℕ) → IsNamed has text
    → Lacks sign text
named_lacks has sign never text is =
    lacks_class has sign text never (and_parts (list_all has text) (not (is_at_most_two_dots text)) is).0

pub host_lacks : (sign : ℕ) → is_host_byte sign ≡ false → (text : List ℕ) → is_host text ≡ true → Lacks sign text
host_lacks = named_lacks is_host_byte

port_lacks : (sign : ℕ) → is_digit sign ≡ false → (text : List ℕ) → is_port text ≡ true → Lacks sign text
port_lacks sign never text is =
    let port = port_number text is in
    subst (Lacks sign) (sym port.1.whole)
    (lacks_class is_digit sign (decimal port.0) never (all_digits port.0 (let h = port.1.high in omega (arith, h))))

no_colon : ◌≡◌ {A = ℕ} 58 47 → ⊥
no_colon e = omega (arith, e)

pub authority_lacks : (text : List ℕ) → is_authority text ≡ true → Lacks 47 text
authority_lacks text is = by (back is_host 58 is_port text is (cut 58 text) (cut 58 text).cut.begins)
  where
    second : (t : List ℕ) → Maybe is_host 58 is_port t → Lacks 47 t
    second t (inl none) = subst (Lacks 47) (sym none) tt
    second t (inr after) = subst (Lacks 47) (sym after.whole) (no_colon, port_lacks 47 refl after.rest after.is)

    by : Both (Holds is_host) (Maybe is_host 58 is_port) text → Lacks 47 text
    by both = subst (Lacks 47) (sym both.whole) (lacks_append 47 both.first both.second
        (host_lacks 47 refl both.first both.is_first) (second both.second both.is_second))

segment_lacks : (text : List ℕ) → is_named is_segment_byte text ≡ true → Lacks 47 text
segment_lacks = named_lacks is_segment_byte 47 refl

-- a path of a file is a segment, alone or before a slash and a path

all_no_slash : (text : List ℕ) → Lacks 47 text → All (λ b. is_slash b ≡ false) text
all_no_slash [] p = All-nil (λ b. is_slash b ≡ false)
all_no_slash (x ∷ text) (never, p) = All-cons (λ b. is_slash b ≡ false) x text (ne_eqb x 47 never) (all_no_slash text p)

and_true : (b : Bool) → (b && true) ≡ b
and_true true = refl
and_true false = refl

pub path_is_with : (text : List ℕ) → is_with is_segment 47 is_file_path text ≡ is_file_path text
path_is_with text = by (cut 47 text) (cut 47 text).cut.begins
  where
    by : (parts : Cut 47 text) → Begins 47 parts.rest → is_with is_segment 47 is_file_path text ≡ is_file_path text
    by parts (inl none) =
        let e : text ≡ parts.first = parts.whole ∙ ap (λ t. parts.first ++ t) none ∙ append-nil parts.first in
        let split = slice_split_none is_slash parts.first (all_no_slash parts.first parts.cut.lacks) in
        let path : is_file_path parts.first ≡ is_segment parts.first = ap (list_all is_segment) split
        ∙ and_true (is_segment parts.first) in
        ap (is_with is_segment 47 is_file_path) e ∙ alone is_segment 47 is_file_path parts.first parts.cut.lacks
        ∙ sym path ∙ ap is_file_path (sym e)
    by parts (inr (rest, more)) =
        let e : text ≡ parts.first ++ 47 ∷ rest = parts.whole ∙ ap (λ t. parts.first ++ t) more in
        let split = slice_split_at is_slash parts.first 47 rest (all_no_slash parts.first parts.cut.lacks) refl in
        let path : is_file_path (parts.first ++ 47 ∷ rest) ≡ (is_segment parts.first && is_file_path rest) =
        ap (list_all is_segment) split in
        ap (is_with is_segment 47 is_file_path) e
        ∙ with_second is_segment 47 is_file_path parts.first rest parts.cut.lacks ∙ sym path ∙ ap is_file_path (sym e)

path_place : (text : List ℕ) (n : ℕ) → IsPlace (Holds (is_with is_segment 47 is_file_path)) text n
    → IsPlace (Holds is_file_path) text n
path_place text n at = same_place (Holds (is_with is_segment 47 is_file_path)) (Holds is_file_path) text n
    (λ t is. sym (path_is_with t) ∙ is) (λ t is. path_is_with t ∙ is) at

-- what is known after some segments
pub record IsSoFar (text : List ℕ) (at : ℕ) : Type 0 where
  pub within : at ≤ length text
  pub leaves : (n : ℕ) → IsPlace (Holds is_file_path) (drop at text) n → IsPlace (Holds is_file_path) text (at + n)
  pub joins : is_file_path (drop at text) ≡ true → is_file_path text ≡ true

pub so_far_first : (text : List ℕ) → IsSoFar text 0
so_far_first text = record {
  within = omega arith;
  leaves = λ n at. let e : 0 + n ≡ n = omega arith in subst (IsPlace (Holds is_file_path) text) (sym e) at;
  joins = λ is. is;
}

pub so_far_more : (text segment rest tail : List ℕ) (at : ℕ) → IsSoFar text at → drop at text ≡ segment ++ rest
    → rest ≡ 47 ∷ tail → IsNamed is_segment_byte segment → IsSoFar text (at + (length segment + 1))
so_far_more text segment rest tail at so_far whole more is =
    let parts : drop at text ≡ segment ++ 47 ∷ tail = whole ∙ ap (λ t. segment ++ t) more in
    let behind : drop (at + (length segment + 1)) text ≡ tail = sym (drop-drop (length segment + 1) at text)
    ∙ ap (drop (length segment + 1)) parts ∙ drop-append-add segment (47 ∷ tail) 1 in
    let len : length (drop at text) ≡ length segment + length (47 ∷ tail) = ap (λ t. length t) parts
    ∙ length-append segment (47 ∷ tail) in
    let left = length-drop at text in
    let inside = so_far.within in
    let lacks = segment_lacks segment is in
    record {
      within = omega (arith, len, left, inside);
      leaves = λ n leaves.
          let at_tail : IsPlace (Holds is_file_path) tail n = subst (λ t. IsPlace (Holds is_file_path) t n) behind
          leaves in
          let count : at + (length segment + 1) + n ≡ at + (length segment + suc n) = omega arith in
          subst (IsPlace (Holds is_file_path) text) (sym count) (so_far.leaves (length segment + suc n)
          (path_place (drop at text) (length segment + suc n) (leaves_second is_segment 47 is_file_path segment_lacks
          (drop at text) segment tail n (length segment + suc n) parts lacks is refl at_tail)));
      joins = λ path.
          let tail_is : is_file_path tail ≡ true = ap is_file_path (sym behind) ∙ path in
          so_far.joins (ap is_file_path parts ∙ sym (path_is_with (segment ++ 47 ∷ tail))
          ∙ with_second is_segment 47 is_file_path segment tail lacks
          ∙ and_from (is_segment segment) (is_file_path tail) is tail_is);
    }

pub so_far_last : (text segment rest : List ℕ) (at : ℕ) → IsSoFar text at → drop at text ≡ segment ++ rest → rest ≡ []
    → IsNamed is_segment_byte segment → is_file_path text ≡ true
so_far_last text segment rest at so_far whole none is =
    let e : drop at text ≡ segment = whole ∙ ap (λ t. segment ++ t) none ∙ append-nil segment in
    so_far.joins (ap is_file_path e ∙ sym (path_is_with segment)
    ∙ alone is_segment 47 is_file_path segment (segment_lacks segment is) ∙ is)

pub so_far_bad : (text segment rest : List ℕ) (at n : ℕ) → IsSoFar text at → drop at text ≡ segment ++ rest
    → IsBefore 47 segment rest → IsPlace (IsNamed is_segment_byte) segment n
    → IsPlace (Holds is_file_path) text (at + n)
so_far_bad text segment rest at n so_far whole before leaves = so_far.leaves n (path_place (drop at text) n
    (leaves_first is_segment 47 is_file_path segment_lacks (drop at text) segment rest n whole before leaves))

-- what a text begins with

starts : (text word : List ℕ) → starts_with nat_eq text word ≡ true → text ≡ word ++ drop (length word) text
starts text word = (starts_is Decides-eqb text word (starts_with nat_eq text word) refl).0

some_path : is_file_path (codes "a") ≡ true
some_path = refl

-- what follows `file:`

abbrev Rooted : List ℕ → Type 0
Rooted = Behind (codes "/") (Holds is_file_path)

no_path : {P : Type 0} (rest : List ℕ) → is_file_path (47 ∷ rest) ≡ true → P
no_path rest e = cc

after_file_from : (text : List ℕ) (b : Bool) → starts_with nat_eq text (codes "/") ≡ b
    → cond b (is_file_path (drop 1 text)) (is_file_path text) ≡ true → Either (Holds is_file_path) Rooted text
after_file_from text true e is = inr (record { rest = drop 1 text; whole = starts text (codes "/") e; is = is })
after_file_from text false e is = inl is

after_file_path : (text : List ℕ) (b : Bool) → starts_with nat_eq text (codes "/") ≡ b → is_file_path text ≡ true
    → cond b (is_file_path (drop 1 text)) (is_file_path text) ≡ true
after_file_path text true e is = no_path (drop 1 text) (ap is_file_path (sym (starts text (codes "/") e)) ∙ is)
after_file_path text false e is = is

after_file_into : (text : List ℕ) → Either (Holds is_file_path) Rooted text → is_after_file text ≡ true
after_file_into text (inl path) = after_file_path text (starts_with nat_eq text (codes "/")) refl path
after_file_into text (inr rooted) = ap is_after_file rooted.whole ∙ rooted.is

after_file_place : (text : List ℕ) (n : ℕ) → IsPlace (Either (Holds is_file_path) Rooted) text n
    → IsPlace (Holds is_after_file) text n
after_file_place text n at = same_place (Either (Holds is_file_path) Rooted) (Holds is_after_file) text n
    after_file_into (λ t is. after_file_from t (starts_with nat_eq t (codes "/")) refl is) at

pub file_path_is : (text : List ℕ) → is_file_path text ≡ true → is_after_file text ≡ true
file_path_is text is = after_file_into text (inl is)

pub rooted_is : (text rest : List ℕ) → text ≡ codes "/" ++ rest → is_file_path rest ≡ true → is_after_file text ≡ true
rooted_is text rest e is = after_file_into text (inr (record { rest = rest; whole = e; is = is }))

pub leaves_rooted : (text rest : List ℕ) (n : ℕ) → text ≡ codes "/" ++ rest → IsPlace (Holds is_file_path) rest n
    → IsPlace (Holds is_after_file) text (1 + n)
leaves_rooted text rest n e at =
    let whole : text ≡ [] ++ text = refl in
    let path : IsPlace (Holds is_file_path) text 0 = path_place text 0
    (leaves_first is_segment 47 is_file_path segment_lacks text [] text 0 whole
    (record { lacks = tt; begins = inr (rest, e) }) (named_short is_segment_byte refl [] refl refl)) in
    let rooted : IsPlace Rooted text (1 + n) = subst (λ t. IsPlace Rooted t (1 + n)) (sym e)
    (behind_at (codes "/") (Holds is_file_path) rest n at) in
    after_file_place text (1 + n) (either_right (Holds is_file_path) Rooted text 0 (1 + n) (omega arith) path rooted)

pub leaves_unrooted : (text : List ℕ) (n : ℕ) → ((rest : List ℕ) → text ≡ codes "/" ++ rest → ⊥)
    → IsPlace (Holds is_file_path) text n → IsPlace (Holds is_after_file) text n
leaves_unrooted text n never at = after_file_place text n
    (either_left (Holds is_file_path) Rooted text n (common (codes "/") text) (none text never) at
    (not_behind (codes "/") (Holds is_file_path) text never (codes "a") some_path))
  where
    none : (t : List ℕ) → ((rest : List ℕ) → t ≡ codes "/" ++ rest → ⊥) → common (codes "/") t ≤ n
    none [] f = omega arith
    none (x ∷ t) f = by (nat_eq 47 x) refl
      where
        by : (b : Bool) → nat_eq 47 x ≡ b → cond b 1 0 ≤ n
        by true e = absurd (f t (ap (λ y. y ∷ t) (sym (eqb-true 47 x e))))
        by false e = omega arith

pub unrooted_err : {A : Type 0} (text : List ℕ) → ((rest : List ℕ) → text ≡ codes "/" ++ rest → ⊥) → (r : Result A ℕ)
    → IfErr r (IsPlace (Holds is_file_path) text) → IfErr r (IsPlace (Holds is_after_file) text)
unrooted_err text never (Ok x) h = tt
unrooted_err text never (Err n) h = leaves_unrooted text n never h

pub unrooted_ok : {A : Type 0} (text : List ℕ) (r : Result A ℕ) → OnOk r (is_file_path text ≡ true)
    → OnOk r (is_after_file text ≡ true)
unrooted_ok text (Ok x) h = file_path_is text h
unrooted_ok text (Err n) h = tt

-- an address

abbrev pub Http : List ℕ → Type 0
Http = Behind (codes "http://") (Holds is_after_http)

abbrev pub File : List ℕ → Type 0
File = Behind (codes "file:") (Holds is_after_file)

address_from : (text : List ℕ) (b c : Bool) → starts_with nat_eq text (codes "http://") ≡ b
    → starts_with nat_eq text (codes "file:") ≡ c
    → cond b (is_after_http (drop 7 text)) (cond c (is_after_file (drop 5 text)) false) ≡ true → Either Http File text
address_from text true c e f is = inl (record { rest = drop 7 text; whole = starts text (codes "http://") e; is = is })
address_from text false true e f is = inr (record { rest = drop 5 text; whole = starts text (codes "file:") f; is = is })
address_from text false false e f is = cc

pub address_parts : (text : List ℕ) → is_address text ≡ true → Either Http File text
address_parts text is = address_from text (starts_with nat_eq text (codes "http://"))
    (starts_with nat_eq text (codes "file:")) refl refl is

pub address_into : (text : List ℕ) → Either Http File text → is_address text ≡ true
address_into text (inl http) = ap is_address http.whole ∙ http.is
address_into text (inr file) = ap is_address file.whole ∙ file.is

pub http_is : (text rest : List ℕ) → text ≡ codes "http://" ++ rest → is_after_http rest ≡ true
    → is_address text ≡ true
http_is text rest e is = ap is_address e ∙ is

pub file_is : (text rest : List ℕ) → text ≡ codes "file:" ++ rest → is_after_file rest ≡ true → is_address text ≡ true
file_is text rest e is = ap is_address e ∙ is

address_place : (text : List ℕ) (n : ℕ) → IsPlace (Either Http File) text n → IsPlace (Holds is_address) text n
address_place text n at = same_place (Either Http File) (Holds is_address) text n address_into
    (λ t is. address_from t (starts_with nat_eq t (codes "http://")) (starts_with nat_eq t (codes "file:")) refl refl is)
    at

some_http : is_after_http (codes "a") ≡ true
some_http = refl

some_file : is_after_file (codes "a") ≡ true
some_file = refl

pub leaves_http : (text rest : List ℕ) (n : ℕ) → text ≡ codes "http://" ++ rest → IsPlace (Holds is_after_http) rest n
    → IsPlace (Holds is_address) text (7 + n)
leaves_http text rest n e at =
    let http : IsPlace Http text (7 + n) = subst (λ t. IsPlace Http t (7 + n)) (sym e)
    (behind_at (codes "http://") (Holds is_after_http) rest n at) in
    let file : IsPlace File text 0 = subst (λ t. IsPlace File t 0) (sym e)
    (not_behind (codes "file:") (Holds is_after_file) (codes "http://" ++ rest)
    (λ r f. differ_at 0 104 102 (codes "http://" ++ rest) (codes "file:" ++ r) refl refl (λ e. omega (arith, e)) f)
    (codes "a") some_file) in
    address_place text (7 + n) (either_left Http File text (7 + n) 0 (omega arith) http file)

pub leaves_file : (text rest : List ℕ) (n : ℕ) → text ≡ codes "file:" ++ rest → IsPlace (Holds is_after_file) rest n
    → IsPlace (Holds is_address) text (5 + n)
leaves_file text rest n e at =
    let file : IsPlace File text (5 + n) = subst (λ t. IsPlace File t (5 + n)) (sym e)
    (behind_at (codes "file:") (Holds is_after_file) rest n at) in
    let http : IsPlace Http text 0 = subst (λ t. IsPlace Http t 0) (sym e)
    (not_behind (codes "http://") (Holds is_after_http) (codes "file:" ++ rest)
    (λ r f. differ_at 0 102 104 (codes "file:" ++ rest) (codes "http://" ++ r) refl refl (λ e. omega (arith, e)) f)
    (codes "a") some_http) in
    address_place text (5 + n) (either_right Http File text 0 (5 + n) (omega arith) http file)

pub leaves_both : (text : List ℕ) → ((rest : List ℕ) → text ≡ codes "http://" ++ rest → ⊥)
    → ((rest : List ℕ) → text ≡ codes "file:" ++ rest → ⊥)
    → IsPlace (Holds is_address) text (max (common (codes "http://") text) (common (codes "file:") text))
leaves_both text no_http no_file = address_place text
    (max (common (codes "http://") text) (common (codes "file:") text))
    (either_place Http File text (common (codes "http://") text) (common (codes "file:") text)
    (not_behind (codes "http://") (Holds is_after_http) text no_http (codes "a") some_http)
    (not_behind (codes "file:") (Holds is_after_file) text no_file (codes "a") some_file))
