-- Whether a content has a wanted digest.
use Rattle.std.specs.Prelude.{ℕ, ◌≡◌, ◌⊎◌, List, Option, Some, None, Result, IsErrOf, if◌then◌else◌}
use Rattle.digest_check.specs.Digests.{digest_eq, digests_of}
use Rattle.digest_check.specs.declared.sums.Digests.{Digests}
use Rattle.res_base.specs.declared.reading.Digest.{Digest}
use Rattle.res_base.specs.declared.reading.Digest.TheVariants as kinds
use Rattle.cache_store.specs.declared.errors.StoreErr.{StoreErr}
use Rattle.cache_store.specs.declared.errors.StoreErr.TheVariants.{Differs, DiskFault, Full, PartUnknown, NoMemory as OutOfMemory}

-- the digest of the same kind
abbrev pub digest_like : Digest → Digests → Digest
digest_like (kinds.Sha1 digest) digests = kinds.Sha1 digests.sha1
digest_like (kinds.Md5 digest) digests = kinds.Md5 digests.md5
digest_like (kinds.Sha256 digest) digests = kinds.Sha256 digests.sha256

-- the digest of the same kind, where it is another one
abbrev pub other_digest : Digest → Digests → Option Digest
other_digest wanted digests =
    if digest_eq (digest_like wanted digests) wanted then None else Some (digest_like wanted digests)

-- what is another digest than the wanted one, if one is wanted
abbrev pub differing : Option Digest → Digests → Option Digest
differing None digests = None
differing (Some wanted) digests = other_digest wanted digests

-- `Differs` came exactly where these bytes have another digest than the wanted one, with both; want of memory may have
-- come first
pub record TellsDigest {T : Type 0} (wanted : Option Digest) (bytes : List ℕ) (result : Result T StoreErr) : Type 0 where
  pub only : (a b : Digest) → IsErrOf result (Differs a b) → (wanted ≡ Some a)
      × (differing wanted (digests_of bytes) ≡ Some b)
  pub always : (a b : Digest) → wanted ≡ Some a → differing wanted (digests_of bytes) ≡ Some b
      → IsErrOf result (Differs a b) ⊎ IsErrOf result OutOfMemory

abbrev pub IsDigestOrMemory : StoreErr → Type 0
IsDigestOrMemory (Differs wanted got) = Unit {0}
IsDigestOrMemory OutOfMemory = Unit {0}
IsDigestOrMemory Full = ⊥
IsDigestOrMemory (PartUnknown part) = ⊥
IsDigestOrMemory (DiskFault call) = ⊥
