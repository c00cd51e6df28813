-- What a measure has taken.
use Rattle.std.specs.Prelude.{ℕ, ◌≡◌, List, IfSome, length}
use Rattle.sha1.specs.Sha1 as of_sha1
use Rattle.sha2.specs.Hashers.{Holds256}
use Rattle.cache_reads.specs.declared.takers.Measuring.{Measuring}

pub record IsMeasuring (measure : Measuring) (bytes : List ℕ) : Type 0 where
  pub sha1 : of_sha1.Holds measure.sha1 bytes
  pub sha256 : IfSome measure.sha256 (λ hasher. Holds256 hasher bytes)
  pub size : measure.length ≡ length bytes
