-- What a project file is: a document whose root is `project` and which lacks no coordinate.
use Rattle.std.specs.Prelude.{◌≡◌, ℕ, Bool, true, false, List, Option, Some, None, Result, Ok, Err, codes}
use Rattle.res_base.specs.declared.pom.PomRecord.{PomRecord}
use Rattle.res_base.specs.declared.reading.Field.{Field}
use Rattle.pom_grammar.specs.declared.tree.Tree.{Tree, out-Tree}
use Rattle.pom_grammar.specs.Heads.{IsDocument}
use Rattle.pom_record.specs.declared.pom_err.PomErr.{PomErr}
use Rattle.pom_record.specs.declared.pom_err.PomErr.TheVariants.{NotProject, NoCoordinates}
use Rattle.pom_record.specs.Fields.{is_named}
use Rattle.pom_record.specs.Record.{record_in, absent}

abbrev pub unless_absent : Option Field → PomRecord → Result PomRecord PomErr
unless_absent None pom = Ok pom
unless_absent (Some coordinate) pom = Err (NoCoordinates coordinate)

abbrev pub if_project : Bool → PomRecord → Result PomRecord PomErr
if_project true pom = unless_absent (absent pom) pom
if_project false pom = Err NotProject

-- the record is the fields of the root
abbrev pub pom_of : Tree → Result PomRecord PomErr
pom_of tree = if_project (is_named (codes "project") tree) (record_in (out-Tree tree).children)

-- the bytes are a document, of whose tree this is answered
pub record IsAnswerOf (bytes : List ℕ) (answer : Result PomRecord PomErr) : Type 0 where
  pub tree : Tree
  pub is_document : IsDocument bytes tree
  pub is_answer : pom_of tree ≡ answer

abbrev pub IsPom : List ℕ → PomRecord → Type 0
IsPom bytes pom = IsAnswerOf bytes (Ok pom)
