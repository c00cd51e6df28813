-- Fields of projects in words.
use Rattle.std.specs.Prelude.{ℕ, List, Option, None, Some, [], ◌∷◌, ◌++◌, map, codes}
use Rattle.res_base.specs.declared.coord.Coord.{Coord}
use Rattle.res_base.specs.declared.pom.DepRecord.{DepRecord}
use Rattle.res_base.specs.declared.pom.Moved.{Moved}
use Rattle.res_base.specs.declared.pom.PomRecord.{PomRecord}
use Rattle.res_base.specs.declared.pom.Property.{Property}
use Rattle.case_words.specs.HexWord.{hex_word}
use Rattle.case_words.specs.Names.{coord_word, rule_word}
use Rattle.case_words.specs.Words.{joined}

abbrev pub parent_word : Option Coord → List ℕ
parent_word None = codes "parent=none"
parent_word (Some coord) = codes "parent=" ++ coord_word coord

abbrev pub moved_word : Option Moved → List ℕ
moved_word None = codes "moved=none"
moved_word (Some moved) = codes "moved=" ++ (hex_word moved.org ++ 58 ∷ (hex_word moved.name ++ 58 ∷ hex_word moved.version))

abbrev pub property_word : Property → List ℕ
property_word property = codes "property=" ++ (hex_word property.name ++ 58 ∷ hex_word property.value)

abbrev pub field_word : List ℕ → List ℕ → List ℕ
field_word label text = label ++ (codes "=" ++ hex_word text)

-- the module of a row and its version
abbrev pub target_word : DepRecord → List ℕ
target_word dep = hex_word dep.«module».org ++ 58 ∷ (hex_word dep.«module».name ++ 58 ∷ hex_word dep.version)

-- its type, classifier, scope and `optional`
abbrev pub manner_word : DepRecord → List ℕ
manner_word dep = hex_word dep.kind ++ 58 ∷ (hex_word dep.classifier ++ 58 ∷ (hex_word dep.scope ++ 58 ∷ hex_word dep.optional))

-- the row's texts without its exclusions
abbrev pub row_word : DepRecord → List ℕ
row_word dep = target_word dep ++ 58 ∷ manner_word dep

-- the row's texts, and then its exclusions
abbrev pub dep_word : DepRecord → List ℕ
dep_word dep = joined (codes "/") (row_word dep ∷ map rule_word dep.exclusions)

-- rows, each behind a label
abbrev pub dep_words : List ℕ → List DepRecord → List (List ℕ)
dep_words label deps = map (λ dep. label ++ dep_word dep) deps

-- the fields of which each project has one
abbrev pub head_words : PomRecord → List (List ℕ)
head_words pom = codes "ok" ∷ parent_word pom.parent ∷ field_word (codes "org") pom.org ∷ field_word (codes "name") pom.name ∷ field_word (codes "version") pom.version ∷ field_word (codes "packaging") pom.packaging ∷ []

-- these words, and then the other fields
abbrev pub with_rows : List (List ℕ) → PomRecord → List (List ℕ)
with_rows words pom = words ++ map property_word pom.properties ++ dep_words (codes "dep=") pom.deps ++ dep_words (codes "managed=") pom.managed ++ (moved_word pom.moved ∷ [])

-- what is answered for a project file with these fields
abbrev pub pom_line : PomRecord → List ℕ
pom_line pom = joined (codes " ") (with_rows (head_words pom) pom)

-- what is answered for a listing with these versions
abbrev pub listing_line : List (List ℕ) → List ℕ
listing_line versions = joined (codes " ") (codes "ok" ∷ map hex_word versions)
