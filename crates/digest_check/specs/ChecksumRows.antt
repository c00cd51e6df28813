-- Checksum files as servers have them, row by row.
use Rattle.std.specs.Prelude.{◌≡◌, ℕ, Option, Some, None, List, [], ◌∷◌, ◌++◌, codes, refl}
use Rattle.res_base.specs.declared.reading.Check.TheVariants as checks
use Rattle.res_base.specs.declared.reading.Digest.{Digest}
use Rattle.res_base.specs.declared.reading.Digest.TheVariants as kinds
use Rattle.digest_check.specs.ChecksumFiles.{digest_in}

abbrev lower : List ℕ
lower = codes "a9993e364706816aba3e25717850c26c9cd0d89d"

abbrev upper : List ℕ
upper = codes "A9993E364706816ABA3E25717850C26C9CD0D89D"

abbrev md5_text : List ℕ
md5_text = codes "900150983cd24fb0d6963f7d28e17f72"

-- the SHA-1 of `abc`
abbrev pub sha1_of_abc : List ℕ
sha1_of_abc =
    0xa9 ∷ 0x99 ∷ 0x3e ∷ 0x36 ∷ 0x47 ∷ 0x06 ∷ 0x81 ∷ 0x6a ∷ 0xba ∷ 0x3e ∷ 0x25 ∷ 0x71 ∷ 0x78 ∷ 0x50 ∷ 0xc2 ∷ 0x6c ∷
    0x9c ∷ 0xd0 ∷ 0xd8 ∷ 0x9d ∷ []

abbrev held : Option Digest
held = Some (kinds.Sha1 sha1_of_abc)

bare_row : digest_in checks.Sha1 lower ≡ held
bare_row = refl

named_row : digest_in checks.Sha1 (lower ++ codes "  a-1.jar\n") ≡ held
named_row = refl

labelled_row : digest_in checks.Sha1 (codes "SHA1(a-1.jar)= " ++ lower) ≡ held
labelled_row = refl

upper_row : digest_in checks.Sha1 (upper ++ codes "\r\n") ≡ held
upper_row = refl

other_kind_first_row : digest_in checks.Sha1 (md5_text ++ codes " " ++ lower) ≡ held
other_kind_first_row = refl

first_of_two_row : digest_in checks.Sha1 (lower ++ codes "\n" ++ codes "0000000000000000000000000000000000000000")
    ≡ held
first_of_two_row = refl

one_digit_more_row : digest_in checks.Sha1 (lower ++ codes "0") ≡ None
one_digit_more_row = refl

one_digit_less_row : digest_in checks.Sha1 (codes "a9993e364706816aba3e25717850c26c9cd0d89") ≡ None
one_digit_less_row = refl

cut_row : digest_in checks.Sha1 (codes "a9993e364706816aba3e 25717850c26c9cd0d89d") ≡ None
cut_row = refl

empty_row : digest_in checks.Sha256 [] ≡ None
empty_row = refl

no_check_row : digest_in checks.NoCheck lower ≡ None
no_check_row = refl
