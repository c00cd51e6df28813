-- References as the code finds them.
use Rattle.std.specs.Prelude.{ℕ, ◌+◌, Bool, if◌then◌else◌, not, List, Option, Some, None, ◌==◌}
use Rattle.std.specs.List.{list_all}
use Rattle.ascii_bytes.specs.Signs.{ampersand}
use Rattle.pom_text.specs.declared.references.Found.{Found}
use Rattle.pom_grammar.specs.References.{Meaning, none, means, is_character}

abbrev pub meaning_of : Option Found → Meaning
meaning_of None = none
meaning_of (Some found) = means found.len found.char

abbrev pub is_no_ampersand : ℕ → Bool
is_no_ampersand c = not (c == ampersand)

abbrev pub has_no_ampersand : List ℕ → Bool
has_no_ampersand text = list_all is_no_ampersand text

abbrev pub number_meaning : ℕ → ℕ → Meaning
number_meaning value len = if is_character value then means (len + 1) value else none

-- what a name of this length means, with a semicolon after it
abbrev pub met : ℕ → Option ℕ → Meaning
met len None = none
met len (Some char) = means (len + 1) char
