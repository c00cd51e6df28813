-- Why bytes are no project file: as a text, and only then by the root and the coordinates.
use Rattle.std.specs.Prelude.{ℕ, List, Err}
use Rattle.pom_grammar.specs.declared.tree.TextErr.{TextErr}
use Rattle.pom_grammar.specs.declared.tree.TextErr.TheVariants.{BadText as bad_text, Doctype as doctype, TooDeep as too_deep, UnknownEncoding as unknown_encoding, NoMemory as no_memory}
use Rattle.pom_grammar.specs.Faults.{Says}
use Rattle.pom_record.specs.declared.pom_err.PomErr.{PomErr}
use Rattle.pom_record.specs.declared.pom_err.PomErr.TheVariants.{BadText, Doctype, TooDeep, UnknownEncoding, NotProject, NoCoordinates, NoMemory}
use Rattle.pom_record.specs.Projects.{IsAnswerOf}

-- the refusal of a text, as one of a project file
abbrev pub of_text : TextErr → PomErr
of_text (bad_text place) = BadText place
of_text (doctype place) = Doctype place
of_text (too_deep place) = TooDeep place
of_text (unknown_encoding place) = UnknownEncoding place
of_text no_memory = NoMemory

abbrev pub IsRefusal : List ℕ → PomErr → Type 0
IsRefusal bytes (BadText place) = Says bytes (Err (bad_text place))
IsRefusal bytes (Doctype place) = Says bytes (Err (doctype place))
IsRefusal bytes (TooDeep place) = Says bytes (Err (too_deep place))
IsRefusal bytes (UnknownEncoding place) = Says bytes (Err (unknown_encoding place))
IsRefusal bytes NotProject = IsAnswerOf bytes (Err NotProject)
IsRefusal bytes (NoCoordinates coordinate) = IsAnswerOf bytes (Err (NoCoordinates coordinate))
IsRefusal bytes NoMemory = Unit {0}
