-- What a disk in memory has, and had: the names with which its log begins, and each change since.
use Rattle.std.specs.Prelude.{ℕ, ◌≡◌, ◌≤◌, List, Option, Some, None, length, take}
use Rattle.disk_base.specs.Images.{Image, IsImage}
use Rattle.disk_base.specs.Names.{Names, read_name, run}
use Rattle.disk_base.specs.Tables.{firmly, names_of}
use Rattle.disk_base.specs.declared.log.Log.{Log}

-- the names after so many of the changes
abbrev pub names_at : Log → ℕ → Names
names_at log k = run (take k log.calls) (names_of log.first)

abbrev pub names_now : Log → Names
names_now log = run log.calls (names_of log.first)

abbrev pub told_in : Log → Option Names
told_in log = Some (names_now log)

abbrev pub moment_in : Log → ℕ
moment_in log = length log.calls

-- an image of the names after some number of the changes
abbrev pub since_in : Log → ℕ → Image → Type 0
since_in log t i = (k : ℕ) × (t ≤ k) × (k ≤ length log.calls) × IsImage (names_at log k) i

-- names that have these firm contents
abbrev pub names_showing : Image → Names
names_showing i name = firmly (i name)
