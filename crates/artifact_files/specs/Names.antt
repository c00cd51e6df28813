-- The name of an artifact, by the type and the classifier of an edge and the packaging of its target. The types are
-- those of Maven's artifact handlers.
use Rattle.std.specs.Prelude.{ℕ, Bool, true, false, ◌&&◌, ◌||◌, Option, None, Some, List, [], ◌∷◌, codes, if◌then◌else◌}
use Rattle.std.specs.declared.cmp.Ordering.{Ordering}
use Rattle.std.specs.Ordering.{eq_of_both, nat_cmp, on, then_cmp}
use Rattle.std.specs.Prelude.{nat_eq}
use Rattle.res_base.specs.Names.{text_cmp, text_eq}
use Rattle.res_base.specs.Plain.{is_plain_name}
use Rattle.artifact_files.specs.declared.names.FileName.{FileName}

abbrev pub is_empty_text : List ℕ → Bool
is_empty_text [] = true
is_empty_text (byte ∷ text) = false

abbrev pub or_else : List ℕ → List ℕ → List ℕ
or_else [] other = other
or_else (byte ∷ text) other = byte ∷ text

abbrev pub file_name : List ℕ → List ℕ → Option FileName
file_name ext classifier = Some (record { ext = ext; classifier = classifier })

abbrev pub jar : List ℕ → Option FileName
jar classifier = file_name (codes "jar") classifier

-- packagings that are extensions too
abbrev pub is_archive : List ℕ → Bool
is_archive packaging =
    text_eq packaging (codes "war")
    || (text_eq packaging (codes "aar")
    || (text_eq packaging (codes "ear") || (text_eq packaging (codes "rar") || text_eq packaging (codes "zip"))))

abbrev pub by_packaging : List ℕ → Option FileName
by_packaging packaging =
    if text_eq packaging (codes "pom") then None else (if is_archive packaging then file_name packaging [] else jar [])

-- types whose files are jars, with the classifier as given
abbrev pub is_jar : List ℕ → Bool
is_jar kind =
    text_eq kind (codes "bundle")
    || (text_eq kind (codes "ejb") || (text_eq kind (codes "jar") || text_eq kind (codes "maven-plugin")))

abbrev pub by_other : List ℕ → List ℕ → Option FileName
by_other kind classifier =
    if text_eq kind (codes "test-jar") then jar (or_else classifier (codes "tests")) else file_name kind classifier

abbrev pub by_docs : List ℕ → List ℕ → Option FileName
by_docs kind classifier =
    if text_eq kind (codes "javadoc") then jar (or_else classifier (codes "javadoc")) else by_other kind classifier

abbrev pub by_sources : List ℕ → List ℕ → Option FileName
by_sources kind classifier =
    if text_eq kind (codes "java-source") then jar (or_else classifier (codes "sources")) else by_docs kind classifier

abbrev pub by_jar : List ℕ → List ℕ → Option FileName
by_jar kind classifier = if is_jar kind then jar classifier else by_sources kind classifier

abbrev pub by_kind : List ℕ → List ℕ → Option FileName
by_kind kind classifier = if text_eq kind (codes "pom") then None else by_jar kind classifier

-- the packaging decides where the type is `jar` and there is no classifier
abbrev pub named : List ℕ → List ℕ → List ℕ → Option FileName
named packaging kind classifier =
    if text_eq kind (codes "jar") && is_empty_text classifier then by_packaging packaging else by_kind kind classifier

-- a file's extension is plain, and so is its classifier where it has one
abbrev pub is_fit : FileName → Bool
is_fit name = is_plain_name name.ext && (is_empty_text name.classifier || is_plain_name name.classifier)
