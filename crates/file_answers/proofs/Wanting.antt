-- The digest that a checksum file wants, from what a link gave of the file.
use Rattle.std.proofs.Common.{ℕ, List, ◌++◌, refl}
use Rattle.std.specs.Prelude.{◌≢◌}
use Rattle.res_base.specs.declared.reading.Check.{Check}
use Rattle.res_base.specs.declared.reading.Check.TheVariants.{Sha1, Md5, Sha256, NoCheck}
use Rattle.res_base.specs.declared.reading.Digest.TheVariants as kinds
use Rattle.digest_check.specs.ChecksumFiles.{suffix_of}
use Rattle.link_base.specs.FilePaths.{IsFilePath}
use Rattle.link_base.proofs.Segments.{sha1_path_is_file_path, md5_path_is_file_path, sha256_path_is_file_path}

-- the path of a checksum file is one
pub beside_is_path : (path : List ℕ) (check : Check) → check ≢ NoCheck → IsFilePath path
    → IsFilePath (path ++ suffix_of check)
beside_is_path path NoCheck other is = absurd (other refl)
beside_is_path path Sha1 other is = sha1_path_is_file_path path is
beside_is_path path Md5 other is = md5_path_is_file_path path is
beside_is_path path Sha256 other is = sha256_path_is_file_path path is
