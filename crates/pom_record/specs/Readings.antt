-- What is answered for bytes, as a function of them.
use Rattle.std.specs.Prelude.{◌≡◌, ℕ, List, Result, Ok, Err}
use Rattle.res_base.specs.declared.pom.PomRecord.{PomRecord}
use Rattle.pom_grammar.specs.declared.tree.Tree.{Tree}
use Rattle.pom_grammar.specs.declared.tree.TextErr.{TextErr}
use Rattle.pom_grammar.specs.Verdicts.{whole_verdict}
use Rattle.pom_record.specs.declared.pom_err.PomErr.{PomErr}
use Rattle.pom_record.specs.declared.pom_err.PomErr.TheVariants.{BadText, Doctype, TooDeep, UnknownEncoding, NotProject, NoCoordinates, NoMemory}
use Rattle.pom_record.specs.Projects.{pom_of}
use Rattle.pom_record.specs.Refusals.{of_text}

abbrev pub of_verdict : Result Tree TextErr → Result PomRecord PomErr
of_verdict (Ok tree) = pom_of tree
of_verdict (Err fault) = Err (of_text fault)

-- the record that the bytes spell, or why they are no project file
abbrev pub read_pom : List ℕ → Result PomRecord PomErr
read_pom bytes = of_verdict (whole_verdict bytes)

-- an answer is the one that is due, or memory ran out
abbrev pub IsAnswered : Result PomRecord PomErr → Result PomRecord PomErr → Type 0
IsAnswered due (Ok pom) = due ≡ Ok pom
IsAnswered due (Err (BadText place)) = due ≡ Err (BadText place)
IsAnswered due (Err (Doctype place)) = due ≡ Err (Doctype place)
IsAnswered due (Err (TooDeep place)) = due ≡ Err (TooDeep place)
IsAnswered due (Err (UnknownEncoding place)) = due ≡ Err (UnknownEncoding place)
IsAnswered due (Err NotProject) = due ≡ Err NotProject
IsAnswered due (Err (NoCoordinates coordinate)) = due ≡ Err (NoCoordinates coordinate)
IsAnswered due (Err NoMemory) = Unit {0}
