-- Which addresses name folders, and what the system's answer to a look at a name says of the file there.
use Rattle.std.specs.Prelude.{ℕ, ◌≡◌, ◌≢◌, ◌⊎◌, ◌++◌, ◌<◌, List, Result, Ok, Err, codes, length}
use Rattle.std.specs.Fs.{file_type, IsFile}
use Rattle.std.specs.declared.fs.Metadata.{Metadata}
use Rattle.std.specs.IoError.{error_kind}
use Rattle.std.specs.declared.io.Error.{Error}
use Rattle.std.specs.declared.io.ErrorKind.{ErrorKind}
use Rattle.std.specs.declared.io.ErrorKind.TheVariants.{NotFound, NotADirectory, InvalidFilename}
use Rattle.real_edge.specs.declared.folders.Found.{Found}
use Rattle.real_edge.specs.declared.folders.Found.TheVariants.{File, Absent, Fault}

-- an address that is not `file:` and the name of a folder
abbrev pub IsNoFolder : List ℕ → Type 0
IsNoFolder address = (folder : List ℕ) → 0 < length folder → address ≢ codes "file:" ++ folder

-- there is no such file or folder, the name goes through a file, or a name is longer than the system allows
abbrev pub SaysAbsent : ErrorKind → Type 0
SaysAbsent kind = (kind ≡ NotFound) ⊎ (kind ≡ NotADirectory) ⊎ (kind ≡ InvalidFilename)

-- what is found where the system answered with this error
pub record IsFoundOfError {F : Type 0} (error : Error) (found : Found F) : Type 0 where
  pub absent : SaysAbsent (error_kind error) → found ≡ Absent
  pub fault : (SaysAbsent (error_kind error) → ⊥) → found ≡ Fault

-- what is found where the system looked at a name: a file alone is one, also of no bytes
abbrev pub IsLook : {F : Type 0} → F → Result Metadata Error → Found F → Type 0
IsLook file (Ok metadata) found =
    (IsFile (file_type metadata) → found ≡ File file) × ((IsFile (file_type metadata) → ⊥) → found ≡ Fault)
IsLook file (Err error) found = IsFoundOfError error found
