-- The digests of a file: SHA-1 and SHA-256 by FIPS 180-4, MD5 by RFC 1321.
use Rattle.std.specs.Prelude.{ℕ, Bool, false, List, Option, Some, None}
use Rattle.md5.specs.Md5.{md5}
use Rattle.sha1.specs.Sha1.{sha1}
use Rattle.sha2.specs.Sha256.{sha256}
use Rattle.res_base.specs.Names.{text_eq}
use Rattle.res_base.specs.declared.reading.Check.{Check}
use Rattle.res_base.specs.declared.reading.Check.TheVariants as checks
use Rattle.res_base.specs.declared.reading.Digest.{Digest}
use Rattle.res_base.specs.declared.reading.Digest.TheVariants as kinds
use Rattle.digest_check.specs.declared.sums.Digests.{Digests}

abbrev pub digests_of : List ℕ → Digests
digests_of bytes = record { sha1 = sha1 bytes; md5 = md5 bytes; sha256 = sha256 bytes }

-- the one of the three that a check compares
abbrev pub digest_by : Check → Digests → Option Digest
digest_by checks.Sha1 all = Some (kinds.Sha1 all.sha1)
digest_by checks.Md5 all = Some (kinds.Md5 all.md5)
digest_by checks.Sha256 all = Some (kinds.Sha256 all.sha256)
digest_by checks.NoCheck all = None

-- the digest of bytes that a check compares
abbrev pub digest_of : Check → List ℕ → Option Digest
digest_of checks.Sha1 bytes = Some (kinds.Sha1 (sha1 bytes))
digest_of checks.Md5 bytes = Some (kinds.Md5 (md5 bytes))
digest_of checks.Sha256 bytes = Some (kinds.Sha256 (sha256 bytes))
digest_of checks.NoCheck bytes = None

-- the same kind and the same bytes
abbrev pub digest_eq : Digest → Digest → Bool
digest_eq (kinds.Sha1 a) (kinds.Sha1 b) = text_eq a b
digest_eq (kinds.Md5 a) (kinds.Md5 b) = text_eq a b
digest_eq (kinds.Sha256 a) (kinds.Sha256 b) = text_eq a b
digest_eq _ _ = false
