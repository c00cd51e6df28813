-- Checks in words.
use Rattle.std.specs.Prelude.{ℕ, Bool, List, Option, Some, None, ◌&&◌, ◌==◌, not, if◌then◌else◌, codes, unwrap_or}
use Rattle.std.specs.List.{list_any}
use Rattle.res_base.specs.Names.{text_eq}
use Rattle.res_base.specs.declared.reading.Check.{Check}
use Rattle.res_base.specs.declared.reading.Check.TheVariants.{Sha1, Md5, Sha256, NoCheck}
use Rattle.word_values.specs.Members.{members_in}
use Rattle.word_values.specs.Refusals.{Read}
use Rattle.word_values.specs.Split.{members_of}
use Rattle.word_values.specs.declared.refusals.WordKind.TheVariants as kind

abbrev pub check_named : List ℕ → Option Check
check_named text =
    if text_eq text (codes "sha1") then Some Sha1 else
    if text_eq text (codes "md5") then Some Md5 else
    if text_eq text (codes "sha256") then Some Sha256 else
    if text_eq text (codes "none") then Some NoCheck else None

-- a number of its own for each check
abbrev pub check_number : Check → ℕ
check_number Sha1 = 0
check_number Md5 = 1
check_number Sha256 = 2
check_number NoCheck = 3

abbrev pub has_check : List Check → Check → Bool
has_check checks check = list_any (λ other. check_number other == check_number check) checks

abbrev pub accepts_all : Check → Bool
accepts_all check = check_number check == 3

-- no check twice, and the one that accepts every file only at the end
abbrev pub check_at : List Check → Bool → Option Check → Option Check
check_at before is_last None = None
check_at before is_last (Some check) =
    if has_check before check then None else if accepts_all check && not is_last then None else Some check

abbrev pub check_in : List Check → List ℕ → Bool → Option Check
check_in before text is_last = check_at before is_last (check_named text)

-- by SHA-1, and no check where there is no SHA-1, unless others are given
abbrev pub checks_given : (List ℕ → Option (List ℕ)) → Read (List Check)
checks_given given = members_in kind.Checks check_in (members_of (unwrap_or (given (codes "checks")) (codes "sha1|none")))
