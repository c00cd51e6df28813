-- Checks and digests in words.
use Rattle.std.specs.Prelude.{ℕ, List, ◌∷◌, ◌++◌, codes}
use Rattle.digest_check.specs.declared.sums.Digests.{Digests}
use Rattle.hex.specs.Hex.{encode_lower}
use Rattle.res_base.specs.declared.reading.Check.{Check}
use Rattle.res_base.specs.declared.reading.Check.TheVariants.{Sha1 as CheckSha1, Md5 as CheckMd5, Sha256 as CheckSha256, NoCheck}
use Rattle.res_base.specs.declared.reading.Digest.{Digest}
use Rattle.res_base.specs.declared.reading.Digest.TheVariants.{Sha1, Md5, Sha256}

abbrev pub check_word : Check → List ℕ
check_word CheckSha1 = codes "sha1"
check_word CheckMd5 = codes "md5"
check_word CheckSha256 = codes "sha256"
check_word NoCheck = codes "none"

abbrev pub digest_bytes : Digest → List ℕ
digest_bytes (Sha1 bytes) = bytes
digest_bytes (Md5 bytes) = bytes
digest_bytes (Sha256 bytes) = bytes

-- what is answered for a file with these digests
abbrev pub sums_line : Digests → List ℕ
sums_line digests = encode_lower digests.sha1 ++ 32 ∷ (encode_lower digests.md5 ++ 32 ∷ encode_lower digests.sha256)
