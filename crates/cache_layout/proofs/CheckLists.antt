-- Names of checks with a vertical bar between two.
use Rattle.std.proofs.Common.{◌≡◌, ◌⊎◌, inl, inr, ℕ, suc, ◌+◌, ◌<◌, ◌≤◌, max, Bool, false, true, List, [], ◌∷◌, ◌++◌, length, drop, map, refl, sym, ◌∙◌, ap, subst, arith}
use Rattle.std.specs.List.{list_all}
use Rattle.std.proofs.Math.Seq.{drop-append-add}
use Rattle.std.proofs.lemmas.List.{append_assoc, append-nil, drop-drop, length-append, length-drop}
use Rattle.fault_place.specs.Place.{GoesOn, IsPlace}
use Rattle.fault_place.specs.Reader.{Accepts}
use Rattle.ascii_bytes.specs.Classes.{is_letter_or_digit}
use Rattle.res_base.specs.declared.reading.Check.{Check}
use Rattle.res_base.specs.declared.reading.Check.TheVariants.{Sha1, Md5, Sha256, NoCheck}
use Rattle.cache_layout.specs.Fields.{AreChecks, IsCheckName, with_bar}
use Rattle.cache_layout.specs.Lines.{check_text, checks_text}
use Rattle.cache_layout.specs.Places.{Begins, IsBefore, Lacks, common}
use Rattle.cache_layout.proofs.Literals.{After, Either, after_at, either_place, either_right, literal, same_place}
use Rattle.cache_layout.proofs.Parts.{AreApart, Both, in_first_part, in_second}
use Rattle.cache_layout.proofs.With.{IsEmpty, no_nothing}
use Rattle.cache_layout.proofs.Words.{lacks_append, lacks_class}

name_class : (check : Check) → list_all is_letter_or_digit (check_text check) ≡ true
name_class Sha1 = refl
name_class Md5 = refl
name_class Sha256 = refl
name_class NoCheck = refl

pub name_lacks : (sign : ℕ) → is_letter_or_digit sign ≡ false → (check : Check) → Lacks sign (check_text check)
name_lacks sign never check = lacks_class is_letter_or_digit sign (check_text check) never (name_class check)

pub checks_lack : (sign : ℕ) → is_letter_or_digit sign ≡ false → (124 ≡ sign → ⊥) → (checks : List Check)
    → Lacks sign (checks_text checks)
checks_lack sign never bar [] = tt
checks_lack sign never bar (c ∷ []) = name_lacks sign never c
checks_lack sign never bar (c ∷ (d ∷ checks)) = lacks_append sign (check_text c) (124 ∷ checks_text (d ∷ checks))
    (name_lacks sign never c) (bar, checks_lack sign never bar (d ∷ checks))

-- where a name leaves the names of checks

abbrev Is : Check → List ℕ → Type 0
Is check text = text ≡ check_text check

abbrev Two : List ℕ → Type 0
Two = Either (Is Sha1) (Is Md5)

abbrev Others : List ℕ → Type 0
Others = Either (Is Sha256) (Is NoCheck)

abbrev Four : List ℕ → Type 0
Four = Either Two Others

pub no_name : (name : List ℕ) → (name ≡ check_text Sha1 → ⊥) → (name ≡ check_text Md5 → ⊥)
    → (name ≡ check_text Sha256 → ⊥) → (name ≡ check_text NoCheck → ⊥)
    → IsPlace (Accepts IsCheckName) name
    (max (max (common (check_text Sha1) name) (common (check_text Md5) name))
    (max (common (check_text Sha256) name) (common (check_text NoCheck) name)))
no_name name sha1 md5 sha256 none = same_place Four (Accepts IsCheckName) name
    (max (max (common (check_text Sha1) name) (common (check_text Md5) name))
    (max (common (check_text Sha256) name) (common (check_text NoCheck) name))) into back
    (either_place Two Others name (max (common (check_text Sha1) name) (common (check_text Md5) name))
    (max (common (check_text Sha256) name) (common (check_text NoCheck) name))
    (either_place (Is Sha1) (Is Md5) name (common (check_text Sha1) name) (common (check_text Md5) name)
    (literal (check_text Sha1) name sha1) (literal (check_text Md5) name md5))
    (either_place (Is Sha256) (Is NoCheck) name (common (check_text Sha256) name) (common (check_text NoCheck) name)
    (literal (check_text Sha256) name sha256) (literal (check_text NoCheck) name none)))
  where
    into : (t : List ℕ) → Four t → Accepts IsCheckName t
    into t (inl (inl e)) = (Sha1, e)
    into t (inl (inr e)) = (Md5, e)
    into t (inr (inl e)) = (Sha256, e)
    into t (inr (inr e)) = (NoCheck, e)

    back : (t : List ℕ) → Accepts IsCheckName t → Four t
    back t (Sha1, e) = inl (inl e)
    back t (Md5, e) = inl (inr e)
    back t (Sha256, e) = inr (inl e)
    back t (NoCheck, e) = inr (inr e)

-- one or more checks

pub record AreSome (text : List ℕ) : Type 0 where
  pub first : Check
  pub others : List Check
  pub whole : text ≡ checks_text (first ∷ others)

-- what follows a name
abbrev Rest : List ℕ → Type 0
Rest = Either IsEmpty (After 124 AreSome)

rest_begins : (text : List ℕ) → Rest text → Begins 124 text
rest_begins text (inl none) = inl none
rest_begins text (inr after) = inr (after.rest, after.whole)

apart : AreApart 124 (Accepts IsCheckName) Rest
apart = record {
  lacks = λ text is. subst (Lacks 124) (sym is.1) (name_lacks 124 refl is.0);
  begins = rest_begins;
}

into_some : (text : List ℕ) (both : Both (Accepts IsCheckName) Rest text) → Rest both.second → AreSome text
into_some text both (inl none) = record {
  first = both.is_first.0;
  others = [];
  whole = both.whole ∙ ap (λ t. both.first ++ t) none ∙ append-nil both.first ∙ both.is_first.1;
}
into_some text both (inr after) = record {
  first = both.is_first.0;
  others = after.is.first ∷ after.is.others;
  whole = both.whole ∙ ap (λ t. t ++ both.second) both.is_first.1
      ∙ ap (λ t. check_text both.is_first.0 ++ t) (after.whole ∙ ap (λ t. 124 ∷ t) after.is.whole);
}

from_some : (text : List ℕ) (first : Check) (others : List Check) → text ≡ checks_text (first ∷ others)
    → Both (Accepts IsCheckName) Rest text
from_some text first [] e = record {
  first = check_text first;
  second = [];
  whole = e ∙ sym (append-nil (check_text first));
  is_first = (first, refl);
  is_second = inl refl;
}
from_some text first (next ∷ others) e = record {
  first = check_text first;
  second = 124 ∷ checks_text (next ∷ others);
  whole = e;
  is_first = (first, refl);
  is_second = inr (record {
    rest = checks_text (next ∷ others);
    whole = refl;
    is = record { first = next; others = others; whole = refl };
  });
}

same_some : (text : List ℕ) (n : ℕ) → IsPlace (Both (Accepts IsCheckName) Rest) text n → IsPlace AreSome text n
same_some text n at = same_place (Both (Accepts IsCheckName) Rest) AreSome text n
    (λ t both. into_some t both both.is_second) (λ t some. from_some t some.first some.others some.whole) at

-- the text leaves the checks in its first name
pub leaves_name : (text name rest : List ℕ) (n : ℕ) → text ≡ name ++ rest → IsBefore 124 name rest
    → IsPlace (Accepts IsCheckName) name n → IsPlace AreSome text n
leaves_name text name rest n whole before at = same_some text n
    (subst (λ t. IsPlace (Both (Accepts IsCheckName) Rest) t n) (sym whole)
    (in_first_part apart name rest n before.lacks before.begins at [] (inl refl)))

-- or in the checks after it
pub leaves_others : (text name rest : List ℕ) (check : Check) (n m : ℕ) → text ≡ name ++ 124 ∷ rest
    → name ≡ check_text check → m ≡ length name + suc n → IsPlace AreSome rest n → IsPlace AreSome text m
leaves_others text name rest check n m whole is count at =
    let lacks : Lacks 124 name = subst (Lacks 124) (sym is) (name_lacks 124 refl check) in
    let maybe : IsPlace Rest (124 ∷ rest) (suc n) = either_right IsEmpty (After 124 AreSome) (124 ∷ rest) 0 (suc n)
    (omega arith) (no_nothing 124 rest) (after_at 124 AreSome rest n at) in
    let both = in_second apart name (124 ∷ rest) (suc n) lacks (inr (rest, refl)) (check, is) maybe in
    same_some text m (subst (λ k. IsPlace (Both (Accepts IsCheckName) Rest) text k) (sym count)
    (subst (λ t. IsPlace (Both (Accepts IsCheckName) Rest) t (length name + suc n)) (sym whole) both))

-- a text that is not empty leaves all lists of checks where it leaves those of one or more
pub leaves_all : (text : List ℕ) (n : ℕ) → (text ≡ [] → ⊥) → IsPlace AreSome text n
    → IsPlace (Accepts AreChecks) text n
leaves_all text n some at = same_place (Either IsEmpty AreSome) (Accepts AreChecks) text n into back
    (either_right IsEmpty AreSome text 0 n (omega arith) (nothing text some) at)
  where
    into : (t : List ℕ) → Either IsEmpty AreSome t → Accepts AreChecks t
    into t (inl none) = ([], none)
    into t (inr one) = (one.first ∷ one.others, one.whole)

    back : (t : List ℕ) → Accepts AreChecks t → Either IsEmpty AreSome t
    back t ([], e) = inl e
    back t (c ∷ checks, e) = inr (record { first = c; others = checks; whole = e })

    nothing : (t : List ℕ) → (t ≡ [] → ⊥) → IsPlace IsEmpty t 0
    nothing [] never = absurd (never refl)
    nothing (x ∷ t) never = no_nothing x t

-- what is known after some names: where the rest leaves the checks, the whole does, and what the rest spells goes on
pub record IsSoFar (names : List ℕ) (at : ℕ) (checks : List Check) : Type 0 where
  pub within : at ≤ length names
  pub leaves : (n : ℕ) → IsPlace AreSome (drop at names) n → IsPlace (Accepts AreChecks) names (at + n)
  pub joins : (first : Check) (others : List Check) → drop at names ≡ checks_text (first ∷ others)
      → names ≡ checks_text (checks ++ first ∷ others)

pub so_far_first : (names : List ℕ) → (names ≡ [] → ⊥) → IsSoFar names 0 []
so_far_first names some = record {
  within = omega arith;
  leaves = λ n at.
      let e : 0 + n ≡ n = omega arith in
      subst (IsPlace (Accepts AreChecks) names) (sym e) (leaves_all names n some at);
  joins = λ first others e. e;
}

-- one more name
pub so_far_more : (names name rest tail : List ℕ) (at : ℕ) (check : Check) (checks : List Check)
    → IsSoFar names at checks → drop at names ≡ name ++ rest → rest ≡ 124 ∷ tail → name ≡ check_text check
    → IsSoFar names (at + (length name + 1)) (checks ++ check ∷ [])
so_far_more names name rest tail at check checks so_far whole more is =
    let parts : drop at names ≡ name ++ 124 ∷ tail = whole ∙ ap (λ t. name ++ t) more in
    let behind : drop (at + (length name + 1)) names ≡ tail = sym (drop-drop (length name + 1) at names)
    ∙ ap (drop (length name + 1)) parts ∙ drop-append-add name (124 ∷ tail) 1 in
    let len : length (drop at names) ≡ length name + length (124 ∷ tail) = ap (λ t. length t) parts
    ∙ length-append name (124 ∷ tail) in
    let left = length-drop at names in
    let inside = so_far.within in
    record {
      within = omega (arith, len, left, inside);
      leaves = λ n leaves.
          let at_tail : IsPlace AreSome tail n = subst (λ t. IsPlace AreSome t n) behind leaves in
          let count : at + (length name + 1) + n ≡ at + (length name + suc n) = omega arith in
          subst (IsPlace (Accepts AreChecks) names) (sym count) (so_far.leaves (length name + suc n)
          (leaves_others (drop at names) name tail check n (length name + suc n) parts is refl at_tail));
      joins = λ first others e.
          let spelled : drop at names ≡ checks_text (check ∷ first ∷ others) = parts
          ∙ ap (λ t. t ++ 124 ∷ tail) is
          ∙ ap (λ t. check_text check ++ 124 ∷ t) (sym behind ∙ e) in
          so_far.joins check (first ∷ others) spelled
          ∙ ap checks_text (sym (append_assoc checks (check ∷ []) (first ∷ others)));
    }

-- the last name
pub so_far_last : (names name rest : List ℕ) (at : ℕ) (check : Check) (checks : List Check)
    → IsSoFar names at checks → drop at names ≡ name ++ rest → rest ≡ [] → name ≡ check_text check
    → names ≡ checks_text (checks ++ check ∷ [])
so_far_last names name rest at check checks so_far whole none is =
    so_far.joins check [] (whole ∙ ap (λ t. name ++ t) none ∙ append-nil name ∙ is)

-- a name that is none
pub so_far_bad : (names name rest : List ℕ) (at n : ℕ) (checks : List Check) → IsSoFar names at checks
    → drop at names ≡ name ++ rest → IsBefore 124 name rest → IsPlace (Accepts IsCheckName) name n
    → IsPlace (Accepts AreChecks) names (at + n)
so_far_bad names name rest at n checks so_far whole before leaves =
    so_far.leaves n (leaves_name (drop at names) name rest n whole before leaves)

-- one more name behind others

with_bar_some : (names : List ℕ) → 0 < length names → with_bar names ≡ names ++ 124 ∷ []
with_bar_some [] some = absurd (omega (arith, some))
with_bar_some (x ∷ names) some = refl

name_some : (check : Check) → 0 < length (check_text check)
name_some Sha1 = omega arith
name_some Md5 = omega arith
name_some Sha256 = omega arith
name_some NoCheck = omega arith

pub checks_some : (check : Check) (checks : List Check) → 0 < length (checks_text (check ∷ checks))
checks_some check [] = name_some check
checks_some check (next ∷ checks) =
    let some = name_some check in
    let e = length-append (check_text check) (124 ∷ checks_text (next ∷ checks)) in
    omega (arith, some, e)

barred : (a b c : List ℕ) → (a ++ 124 ∷ b) ++ 124 ∷ c ≡ a ++ 124 ∷ (b ++ 124 ∷ c)
barred a b c = append_assoc a (124 ∷ b) (124 ∷ c)

one_behind : (check : Check) (checks : List Check) (last : Check)
    → checks_text ((check ∷ checks) ++ last ∷ []) ≡ checks_text (check ∷ checks) ++ 124 ∷ check_text last
one_behind check [] last = refl
one_behind check (next ∷ checks) last = ap (λ t. check_text check ++ 124 ∷ t) (one_behind next checks last)
    ∙ sym (barred (check_text check) (checks_text (next ∷ checks)) (check_text last))

pub name_behind : (checks : List Check) (last : Check)
    → checks_text (checks ++ last ∷ []) ≡ with_bar (checks_text checks) ++ check_text last
name_behind [] last = refl
name_behind (check ∷ checks) last = one_behind check checks last
    ∙ sym (append_assoc (checks_text (check ∷ checks)) (124 ∷ []) (check_text last))
    ∙ ap (λ t. t ++ check_text last) (sym (with_bar_some (checks_text (check ∷ checks)) (checks_some check checks)))

-- a text that is none of the four names is the name of no check
pub no_check : (name : List ℕ) → (name ≡ check_text Sha1 → ⊥) → (name ≡ check_text Md5 → ⊥)
    → (name ≡ check_text Sha256 → ⊥) → (name ≡ check_text NoCheck → ⊥) → (check : Check) → name ≡ check_text check → ⊥
no_check name sha1 md5 sha256 none Sha1 e = sha1 e
no_check name sha1 md5 sha256 none Md5 e = md5 e
no_check name sha1 md5 sha256 none Sha256 e = sha256 e
no_check name sha1 md5 sha256 none NoCheck e = none e
