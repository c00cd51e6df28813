-- What `Sums` has taken.
use Rattle.std.specs.Prelude.{ℕ, List}
use Rattle.md5.specs.Md5 as of_md5
use Rattle.sha1.specs.Sha1 as of_sha1
use Rattle.sha2.specs.Hashers.{Holds256}
use Rattle.digest_check.specs.declared.sums.Sums.{Sums}

-- these bytes, in whatever pieces they came
pub record IsFed (sums : Sums) (bytes : List ℕ) : Type 0 where
  pub sha1 : of_sha1.Holds sums.sha1 bytes
  pub md5 : of_md5.Holds sums.md5 bytes
  pub sha256 : Holds256 sums.sha256 bytes
