-- What the system's answer to a look at a path says of a disk's files.
use Rattle.std.specs.Prelude.{◌≡◌, ◌⊎◌, Result, Ok, Err}
use Rattle.std.specs.Fs.{file_type, IsDir, IsFile}
use Rattle.std.specs.declared.fs.Metadata.{Metadata}
use Rattle.std.specs.IoError.{error_kind}
use Rattle.std.specs.declared.io.Error.{Error}
use Rattle.std.specs.declared.io.ErrorKind.{ErrorKind}
use Rattle.std.specs.declared.io.ErrorKind.TheVariants.{NotFound, NotADirectory, InvalidFilename}
use Rattle.real_disk.specs.declared.looks.Look.{Look}
use Rattle.real_disk.specs.declared.looks.Look.TheVariants.{Folder, File, Absent, Other}

-- there is no such file or folder, the name goes through a file, or a name is longer than the system allows
abbrev pub SaysAbsent : ErrorKind → Type 0
SaysAbsent kind = (kind ≡ NotFound) ⊎ (kind ≡ NotADirectory) ⊎ (kind ≡ InvalidFilename)

-- a folder and a file are what the system says is one; where it says that there is nothing, nothing is there; a link, a
-- pipe and what it does not tell of are something else
pub record IsLookOf (outcome : Result Metadata Error) (look : Look) : Type 0 where
  pub folder : (m : Metadata) → outcome ≡ Ok m → IsDir (file_type m) → look ≡ Folder
  pub file : (m : Metadata) → outcome ≡ Ok m → IsFile (file_type m) → look ≡ File
  pub other : (m : Metadata) → outcome ≡ Ok m → ¬ IsDir (file_type m) → ¬ IsFile (file_type m) → look ≡ Other
  pub absent : (e : Error) → outcome ≡ Err e → SaysAbsent (error_kind e) → look ≡ Absent
  pub fault : (e : Error) → outcome ≡ Err e → ¬ SaysAbsent (error_kind e) → look ≡ Other
