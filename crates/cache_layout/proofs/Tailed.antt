-- The fields of lines, each with what follows it.
use Rattle.std.proofs.Common.{◌≡◌, ℕ, suc, ◌+◌, ◌<◌, ◌≤◌, ◌^◌, Bool, true, false, List, [], ◌∷◌, ◌++◌, length, Option, Some, None, refl, sym, ◌∙◌, ap, subst, arith, lit<, inl, inr}
use Rattle.std.specs.Fmt.{decimal}
use Rattle.std.proofs.lemmas.List.{append_assoc}
use Rattle.fault_place.specs.Place.{GoesOn, IsPlace}
use Rattle.fault_place.specs.Reader.{Accepts}
use Rattle.ascii_bytes.specs.Classes.{is_digit}
use Rattle.hex.specs.Hex.{encode_lower}
use Rattle.res_base.specs.declared.reading.Check.{Check}
use Rattle.cache_layout.specs.Fields.{AreChecks, IsDigestText, IsDigestsText, IsEndText, IsFieldsText, IsLengthText, IsMomentText, IsNumber, is_small_digit, record_from}
use Rattle.cache_layout.specs.Lines.{IsDigest, checks_text, digests_text, length_text, moment_text, sha256_text}
use Rattle.cache_layout.specs.Places.{Begins, Lacks}
use Rattle.cache_layout.specs.declared.record.Record.{Record}
use Rattle.cache_layout.specs.declared.record_lines.Digests.{Digests}
use Rattle.cache_layout.specs.declared.record_lines.Ends.{Ends}
use Rattle.cache_layout.specs.declared.record_lines.Times.{Times}
use Rattle.cache_layout.proofs.CheckLists.{checks_lack}
use Rattle.cache_layout.proofs.HexDigests.{encoded_digits, some_digest}
use Rattle.cache_layout.proofs.Literals.{After, same_place}
use Rattle.cache_layout.proofs.Decimals.{all_digits}
use Rattle.cache_layout.proofs.Parts.{AreApart, Both}
use Rattle.cache_layout.proofs.Tails.{IsTail, some_tail}
use Rattle.cache_layout.proofs.Words.{lacks_class}

-- the greatest number of 64 bits
abbrev pub greatest : ℕ
greatest = 18446744073709551615

abbrev pub Number : List ℕ → Type 0
Number = Accepts (IsNumber 0 greatest)

fits : (n : ℕ) → n ≤ greatest → n < 2 ^ 64
fits n h = omega (arith, h)

at_most : (n : ℕ) → n < 2 ^ 64 → n ≤ greatest
at_most n h = omega (arith, h)

number_lacks : (sign : ℕ) → is_digit sign ≡ false → (text : List ℕ) → Number text → Lacks sign text
number_lacks sign never text (number, is) = subst (Lacks sign) (sym is.whole)
    (lacks_class is_digit sign (decimal number) never (all_digits number (fits number is.high)))

number_of : (n : ℕ) → n < 2 ^ 64 → Number (decimal n)
number_of n small = (n, record { whole = refl; low = omega arith; high = at_most n small })

abbrev pub Digest : ℕ → List ℕ → Type 0
Digest size = Accepts (IsDigestText size)

digest_lacks : (size : ℕ) (text : List ℕ) → Digest size text → Lacks 32 text
digest_lacks size text (digest, is) = subst (Lacks 32) (sym is.whole)
    (lacks_class is_small_digit 32 (encode_lower digest) refl (encoded_digits digest is.fits.1))

joined : (text rest a b c d : List ℕ) → text ≡ 32 ∷ rest → rest ≡ a ++ b → a ≡ c → b ≡ d → text ≡ 32 ∷ (c ++ d)
joined text rest a b c d p q r s = p ∙ ap (λ t. 32 ∷ t) (q ∙ ap (λ t. t ++ b) r ∙ ap (λ t. c ++ t) s)

-- a moment

abbrev pub IsLineEnd : List ℕ → Type 0
IsLineEnd text = text ≡ 10 ∷ []

pub moment_is : (text after a b : List ℕ) (moment : ℕ) → text ≡ 32 ∷ after → after ≡ a ++ b
    → IsNumber 0 greatest a moment → IsLineEnd b → IsMomentText text moment
moment_is text after a b moment p q number end = record {
  whole = joined text after a b (decimal moment) (10 ∷ []) p q number.whole end;
  small = fits moment number.high;
}

into_moment : (text : List ℕ) → After 32 (Both Number IsLineEnd) text → Accepts IsMomentText text
into_moment text after =
    let number = after.is.is_first in (
      number.0,
      moment_is text after.rest after.is.first after.is.second number.0 after.whole after.is.whole number.1
          after.is.is_second,
    )

from_moment : (text : List ℕ) → Accepts IsMomentText text → After 32 (Both Number IsLineEnd) text
from_moment text (moment, is) = record {
  rest = decimal moment ++ 10 ∷ [];
  whole = is.whole;
  is = record {
    first = decimal moment;
    second = 10 ∷ [];
    whole = refl;
    is_first = number_of moment is.small;
    is_second = refl;
  };
}

pub moment_tail : IsTail 10 Number IsLineEnd (Accepts IsMomentText)
moment_tail = record {
  apart = record { lacks = number_lacks 10 refl; begins = λ t e. inr ([], e) };
  into = into_moment;
  back = from_moment;
  some_first = (decimal 0, number_of 0 (lit< tt));
  some_second = (10 ∷ [], refl);
}

-- a length

abbrev pub times_of : ℕ → ℕ → Times
times_of len moment = record { length = len; moment = moment }

pub length_is : (text after a b : List ℕ) (len moment : ℕ) → text ≡ 32 ∷ after → after ≡ a ++ b
    → IsNumber 0 greatest a len → IsMomentText b moment → IsLengthText text (times_of len moment)
length_is text after a b len moment p q number end = record {
  whole = joined text after a b (decimal len) (moment_text moment) p q number.whole end.whole;
  small_length = fits len number.high;
  small_moment = end.small;
}

into_length : (text : List ℕ) → After 32 (Both Number (Accepts IsMomentText)) text → Accepts IsLengthText text
into_length text after =
    let number = after.is.is_first in
    let moment = after.is.is_second in (
      times_of number.0 moment.0,
      length_is text after.rest after.is.first after.is.second number.0 moment.0 after.whole
          after.is.whole number.1 moment.1,
    )

from_length : (text : List ℕ) → Accepts IsLengthText text → After 32 (Both Number (Accepts IsMomentText)) text
from_length text (times, is) = record {
  rest = decimal times.length ++ moment_text times.moment;
  whole = is.whole;
  is = record {
    first = decimal times.length;
    second = moment_text times.moment;
    whole = refl;
    is_first = number_of times.length is.small_length;
    is_second = (times.moment, record { whole = refl; small = is.small_moment });
  };
}

pub length_tail : IsTail 32 Number (Accepts IsMomentText) (Accepts IsLengthText)
length_tail = record {
  apart = record {
    lacks = number_lacks 32 refl;
    begins = λ t is. inr (decimal is.0 ++ 10 ∷ [], is.1.whole);
  };
  into = into_length;
  back = from_length;
  some_first = (decimal 0, number_of 0 (lit< tt));
  some_second = some_tail moment_tail;
}

-- a SHA-256

abbrev pub ends_of : Option (List ℕ) → Times → Ends
ends_of sha256 times = record { sha256 = sha256; times = times }

pub second_is : (text after a b digest : List ℕ) (times : Times) → text ≡ 32 ∷ after → after ≡ a ++ b
    → IsDigestText 32 a digest → IsLengthText b times → IsEndText true text (ends_of (Some digest) times)
second_is text after a b digest times p q is end = record {
  whole = joined text after a b (encode_lower digest) (length_text times.length times.moment) p q is.whole end.whole;
  format = refl;
  sha256 = is.fits;
  small_length = end.small_length;
  small_moment = end.small_moment;
}

into_second : (text : List ℕ) → After 32 (Both (Digest 32) (Accepts IsLengthText)) text → Accepts (IsEndText true) text
into_second text after =
    let digest = after.is.is_first in
    let times = after.is.is_second in (
      ends_of (Some digest.0) times.0,
      second_is text after.rest after.is.first after.is.second digest.0 times.0 after.whole
          after.is.whole digest.1 times.1,
    )

from_second : (text : List ℕ) (sha256 : Option (List ℕ)) (times : Times)
    → IsEndText true text (record { sha256 = sha256; times = times })
    → After 32 (Both (Digest 32) (Accepts IsLengthText)) text
from_second text None times is = absurd (not_both is.format)
  where
    not_both : false ≡ true → ⊥
    not_both e = cc
from_second text (Some digest) times is = record {
  rest = encode_lower digest ++ length_text times.length times.moment;
  whole = is.whole;
  is = record {
    first = encode_lower digest;
    second = length_text times.length times.moment;
    whole = refl;
    is_first = (digest, record { whole = refl; fits = is.sha256 });
    is_second = (times, record { whole = refl; small_length = is.small_length; small_moment = is.small_moment });
  };
}

pub second_tail : IsTail 32 (Digest 32) (Accepts IsLengthText) (Accepts (IsEndText true))
second_tail = record {
  apart = record {
    lacks = digest_lacks 32;
    begins = λ t is. inr (decimal is.0.length ++ moment_text is.0.moment, is.1.whole);
  };
  into = into_second;
  back = λ t is. from_second t is.0.sha256 is.0.times is.1;
  some_first = some_digest 32;
  some_second = some_tail length_tail;
}

-- what follows a SHA-1

pub first_is : (text : List ℕ) (times : Times) → IsLengthText text times → IsEndText false text (ends_of None times)
first_is text times is = record {
  whole = is.whole;
  format = refl;
  sha256 = tt;
  small_length = is.small_length;
  small_moment = is.small_moment;
}

pub into_first : (text : List ℕ) → Accepts IsLengthText text → Accepts (IsEndText false) text
into_first text (times, is) = (ends_of None times, first_is text times is)

from_ends_first : (text : List ℕ) (sha256 : Option (List ℕ)) (times : Times)
    → IsEndText false text (record { sha256 = sha256; times = times }) → Accepts IsLengthText text
from_ends_first text None times is =
    (times, record { whole = is.whole; small_length = is.small_length; small_moment = is.small_moment })
from_ends_first text (Some digest) times is = absurd (not_both is.format)
  where
    not_both : true ≡ false → ⊥
    not_both e = cc

pub from_first : (text : List ℕ) → Accepts (IsEndText false) text → Accepts IsLengthText text
from_first text is = from_ends_first text is.0.sha256 is.0.times is.1

pub first_place : (text : List ℕ) (n : ℕ) → IsPlace (Accepts IsLengthText) text n
    → IsPlace (Accepts (IsEndText false)) text n
first_place text n at = same_place (Accepts IsLengthText) (Accepts (IsEndText false)) text n into_first from_first at

some_end : (second : Bool) → (text : List ℕ) × Accepts (IsEndText second) text
some_end true = some_tail second_tail
some_end false = ((some_tail length_tail).0, into_first (some_tail length_tail).0 (some_tail length_tail).1)

end_begins : (text : List ℕ) (sha256 : Option (List ℕ)) (length moment : ℕ)
    → text ≡ sha256_text sha256 length moment → Begins 32 text
end_begins text None length moment e = inr (decimal length ++ moment_text moment, e)
end_begins text (Some sha256) length moment e = inr (encode_lower sha256 ++ length_text length moment, e)

abbrev pub digests_of : List ℕ → Ends → Digests
digests_of sha1 ends = record { sha1 = sha1; ends = ends }

bar_no_space : ◌≡◌ {A = ℕ} 124 32 → ⊥
bar_no_space e = omega (arith, e)

module _ (second : Bool) where
  pub digests_is : (text after a b sha1 : List ℕ) (ends : Ends) → text ≡ 32 ∷ after → after ≡ a ++ b
      → IsDigestText 20 a sha1 → IsEndText second b ends → IsDigestsText second text (digests_of sha1 ends)
  digests_is text after a b sha1 ends p q is end = record {
    whole = joined text after a b (encode_lower sha1)
        (sha256_text ends.sha256 ends.times.length ends.times.moment) p q is.whole end.whole;
    format = end.format;
    sha1 = is.fits;
    sha256 = end.sha256;
    small_length = end.small_length;
    small_moment = end.small_moment;
  }

  into_digests : (text : List ℕ) → After 32 (Both (Digest 20) (Accepts (IsEndText second))) text
      → Accepts (IsDigestsText second) text
  into_digests text after =
      let sha1 = after.is.is_first in
      let ends = after.is.is_second in (
        digests_of sha1.0 ends.0,
        digests_is text after.rest after.is.first after.is.second sha1.0 ends.0 after.whole
            after.is.whole sha1.1 ends.1,
      )

  from_digests : (text : List ℕ) → Accepts (IsDigestsText second) text
      → After 32 (Both (Digest 20) (Accepts (IsEndText second))) text
  from_digests text (digests, is) = record {
    rest = encode_lower digests.sha1
        ++ sha256_text digests.ends.sha256 digests.ends.times.length digests.ends.times.moment;
    whole = is.whole;
    is = record {
      first = encode_lower digests.sha1;
      second = sha256_text digests.ends.sha256 digests.ends.times.length digests.ends.times.moment;
      whole = refl;
      is_first = (digests.sha1, record { whole = refl; fits = is.sha1 });
      is_second = (
        digests.ends,
        record {
          whole = refl;
          format = is.format;
          sha256 = is.sha256;
          small_length = is.small_length;
          small_moment = is.small_moment;
        },
      );
    };
  }

  pub digests_tail : IsTail 32 (Digest 20) (Accepts (IsEndText second)) (Accepts (IsDigestsText second))
  digests_tail = record {
    apart = record {
      lacks = digest_lacks 20;
      begins = λ t is. end_begins t is.0.sha256 is.0.times.length is.0.times.moment is.1.whole;
    };
    into = into_digests;
    back = from_digests;
    some_first = some_digest 20;
    some_second = some_end second;
  }

  -- the checks and what follows them
  pub fields_is : (text after a b : List ℕ) (checks : List Check) (digests : Digests) → text ≡ 32 ∷ after
      → after ≡ a ++ b → AreChecks a checks → IsDigestsText second b digests
      → IsFieldsText second text (record_from checks digests)
  fields_is text after a b checks digests p q is end = record {
    whole = joined text after a b (checks_text checks)
        (digests_text digests.sha1 digests.ends.sha256 digests.ends.times.length digests.ends.times.moment) p q is
        end.whole;
    format = end.format;
    sha1 = end.sha1;
    sha256 = end.sha256;
    small_length = end.small_length;
    small_moment = end.small_moment;
  }

  into_fields : (text : List ℕ) → After 32 (Both (Accepts AreChecks) (Accepts (IsDigestsText second))) text
      → Accepts (IsFieldsText second) text
  into_fields text after =
      let checks = after.is.is_first in
      let digests = after.is.is_second in (
        record_from checks.0 digests.0,
        fields_is text after.rest after.is.first after.is.second checks.0 digests.0
            after.whole after.is.whole checks.1 digests.1,
      )

  from_fields : (text : List ℕ) → Accepts (IsFieldsText second) text
      → After 32 (Both (Accepts AreChecks) (Accepts (IsDigestsText second))) text
  from_fields text (entry, is) =
      let times : Times = record { length = entry.length; moment = entry.moment } in
      let ends : Ends = record { sha256 = entry.sha256; times = times } in
      let digests : Digests = record { sha1 = entry.sha1; ends = ends } in
      record {
        rest = checks_text entry.checks ++ digests_text entry.sha1 entry.sha256 entry.length entry.moment;
        whole = is.whole;
        is = record {
          first = checks_text entry.checks;
          second = digests_text entry.sha1 entry.sha256 entry.length entry.moment;
          whole = refl;
          is_first = (entry.checks, refl);
          is_second = (
            digests,
            record {
              whole = refl;
              format = is.format;
              sha1 = is.sha1;
              sha256 = is.sha256;
              small_length = is.small_length;
              small_moment = is.small_moment;
            },
          );
        };
      }

  pub fields_tail : IsTail 32 (Accepts AreChecks) (Accepts (IsDigestsText second)) (Accepts (IsFieldsText second))
  fields_tail = record {
    apart = record {
      lacks = λ t is. subst (Lacks 32) (sym is.1) (checks_lack 32 refl bar_no_space is.0);
      begins = λ t is. inr (
        encode_lower is.0.sha1
            ++ sha256_text is.0.ends.sha256 is.0.ends.times.length is.0.ends.times.moment,
        is.1.whole,
      );
    };
    into = into_fields;
    back = from_fields;
    some_first = ([], ([], refl));
    some_second = some_tail digests_tail;
  }
