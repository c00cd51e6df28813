-- A key at which a link may be asked.
use Rattle.std.specs.Prelude.{ℕ, ◌<◌}
use Rattle.link_base.specs.FilePaths.{IsFilePath}
use Rattle.res_base.specs.declared.key.FileKey.{FileKey}

-- a file of one of so many repositories, at a path of files
pub record IsFileOf (repos : ℕ) (key : FileKey) : Type 0 where
  pub listed : key.repo < repos
  pub path : IsFilePath key.path
