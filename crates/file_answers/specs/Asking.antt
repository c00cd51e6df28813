-- What asking for a file under a list of checks asks of a link.
use Rattle.std.specs.Prelude.{ℕ, ◌+◌, ◌≡◌, ◌++◌, ◌⊎◌, Bool, true, false, List, Option, Result, count_by, length, ◌≤◌}
use Rattle.res_base.specs.declared.reading.Answer.{Answer}
use Rattle.res_base.specs.declared.reading.Answer.TheVariants as answers
use Rattle.res_base.specs.declared.reading.Check.{Check}
use Rattle.res_base.specs.declared.reading.Check.TheVariants as checks
use Rattle.digest_check.specs.ChecksumFiles.{suffix_of}
use Rattle.link_base.specs.Links.{failed_after}
use Rattle.link_base.specs.declared.link_errors.LinkErr.{LinkErr}

-- a check that looks at a file of its own
abbrev pub has_file : Check → Bool
has_file checks.NoCheck = false
has_file _ = true

-- how many files there are to ask for: the file itself, and the checksum file of each check that has one
abbrev pub files_of : List Check → ℕ
files_of list = 1 + count_by has_file list

-- the URL of a file, or of a checksum file beside it
abbrev pub IsBeside : List ℕ → List ℕ → Type 0
IsBeside url other = (other ≡ url) ⊎ ((check : Check) × (other ≡ url ++ suffix_of check))

-- the failed URLs after a call for a file and those beside it: where it failed, that of one of these was added
abbrev pub FailedBeside : {T : Type 0} → List ℕ → Option (List (List ℕ)) → Option (List (List ℕ)) → Result T LinkErr → Type 0
FailedBeside url before now result = (other : List ℕ) × IsBeside url other × (now ≡ failed_after before other result)

-- bytes that came whole are no more than the limit, and nothing is said to be stored
abbrev pub FitsLimit : ℕ → Answer → Type 0
FitsLimit limit (answers.Bytes bytes) = length bytes ≤ limit
FitsLimit limit (answers.Stored n) = ⊥
FitsLimit limit _ = Unit {0}
