-- Open files of a world in memory.
use Rattle.std.specs.Prelude.{ℕ, ◌≡◌, ◌≤◌, true, List, Option, Some, None, length, is_some}
use Rattle.res_base.specs.World.{at}
use Rattle.link_base.specs.Links.{Rows}
use Rattle.link_base.specs.declared.links.OpenFile.{OpenFile}

-- the number of bytes of a file, 0 of none
abbrev pub size_of : Option (List ℕ) → ℕ
size_of None = 0
size_of (Some bytes) = length bytes

-- the open file is in the world, and no more of it was given than it has, nor than its limit
pub record IsInWorld (rows : Rows) (file : OpenFile) : Type 0 where
  pub there : is_some (at rows file.url) ≡ true
  pub given_in_file : file.given ≤ size_of (at rows file.url)
  pub given_in_limit : file.given ≤ file.limit
