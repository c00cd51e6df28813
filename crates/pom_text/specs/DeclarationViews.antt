-- What the code knows of a declaration, as the reader has it.
use Rattle.std.specs.Prelude.{ℕ, ◌≤◌, Bool, true, false, ◌==◌, List, [], ◌∷◌, slice_range}
use Rattle.ascii_bytes.specs.Signs.{question_mark}
use Rattle.pom_text.specs.declared.declaration.Named.{Named}
use Rattle.pom_text.specs.declared.declaration.Named.TheVariants.{Not, Value, Closed}
use Rattle.pom_text.specs.declared.declaration.Seen.{Seen}
use Rattle.pom_grammar.specs.Document.{Quote, single, double}
use Rattle.pom_grammar.specs.Declarations.{Found, seeking, naming, named}
use Rattle.pom_grammar.specs.Heads.{Telling}

abbrev pub quote_of : Bool → Quote
quote_of true = double
quote_of false = single

-- after the bytes below a place
abbrev pub named_view : List ℕ → ℕ → Named → Found
named_view bytes at (Not seek) = seeking seek
named_view bytes at (Value is_double start) = naming (quote_of is_double) (slice_range bytes start at)
named_view bytes at (Closed start end) = named (slice_range bytes start end)

abbrev pub start_of : Named → ℕ
start_of (Not seek) = 0
start_of (Value is_double start) = start
start_of (Closed start end) = start

abbrev pub IsNamed : ℕ → Named → Type 0
IsNamed at (Not seek) = Unit {0}
IsNamed at (Value is_double start) = start ≤ at
IsNamed at (Closed start end) = (start ≤ end) × (end ≤ at)

abbrev pub seen_view : List ℕ → ℕ → Seen → Telling
seen_view bytes at seen = record { found = named_view bytes at seen.named; utf8 = seen.utf8; ascii = seen.ascii }

-- whether a question mark was seen last
abbrev pub ends_question : List ℕ → Bool
ends_question [] = false
ends_question (c ∷ seen) = c == question_mark
