-- What the code reads of a run of bytes, as the reader does.
use Rattle.std.specs.Prelude.{◌≡◌, ℕ, ◌+◌, ◌-◌, ◌≤◌, Bool, true, false, if◌then◌else◌, ◌==◌, List, [], ◌∷◌, drop, slice_range, length, Some, Result, Err}
use Rattle.std.specs.List.{list_all}
use Rattle.ascii_bytes.specs.Signs.{dash, question_mark, closing_bracket}
use Rattle.pom_grammar.specs.declared.encoding.Encoding.{Encoding}
use Rattle.pom_grammar.specs.declared.encoding.Tail.{Tail}
use Rattle.pom_grammar.specs.declared.encoding.Tail.TheVariants.{Whole, One, Two, Three, AfterE0, AfterEd, AfterF0, AfterF4}
use Rattle.pom_grammar.specs.declared.tree.Tree.{Tree}
use Rattle.pom_grammar.specs.declared.tree.TextErr.{TextErr}
use Rattle.pom_grammar.specs.declared.tree.TextErr.TheVariants.{BadText}
use Rattle.pom_grammar.specs.Characters.{is_high, onto}
use Rattle.pom_grammar.specs.Encodings.{IsText, tails}
use Rattle.pom_grammar.specs.Document.{Mark, dashes, question, brackets}
use Rattle.pom_grammar.specs.Machine.{OpenElement, Kind, in_run, in_name, in_label, in_quotes, in_marks, OpenElements, within, State, in_segment, in_cdata, marked}
use Rattle.pom_grammar.specs.Verdicts.{verdict, stepped}

-- the same is answered from these two states, at these two places
abbrev pub Goes : Encoding → List ℕ → State → ℕ → State → ℕ → Type 0
Goes e bytes from i to j = verdict e from (drop i bytes) i ≡ verdict e to (drop j bytes) j

-- this fault is answered
abbrev pub Faults : Encoding → List ℕ → State → ℕ → TextErr → Type 0
Faults e bytes from i fault = verdict e from (drop i bytes) i ≡ Err fault

-- a run of this kind goes on from one place to another, over whole characters
pub record Runs (e : Encoding) (bytes : List ℕ) (kind : Kind) (i j : ℕ) : Type 0 where
  pub forth : i ≤ j
  pub within : j ≤ length bytes
  pub is_text : IsText e (slice_range bytes i j)
  pub goes : (place : OpenElements) (seen : List ℕ)
      → Goes e bytes (in_segment kind place seen Whole) i
      (in_segment kind place (onto (slice_range bytes i j) seen) Whole) j

-- a run of this kind breaks with this fault
abbrev pub Breaks : Encoding → List ℕ → Kind → ℕ → TextErr → Type 0
Breaks e bytes kind i fault = (place : OpenElements) (seen : List ℕ)
    → Faults e bytes (in_segment kind place seen Whole) i fault

-- in a run that no byte past ASCII stops, and a name's byte does not
abbrev pub IsNaming : Kind → Type 0
IsNaming in_run = ⊥
IsNaming in_name = Unit {0}
IsNaming (in_label name) = Unit {0}
IsNaming (in_quotes quote name) = ⊥
IsNaming (in_marks mark) = ⊥

abbrev pub is_whole : Tail → Bool
is_whole Whole = true
is_whole One = false
is_whole Two = false
is_whole Three = false
is_whole AfterE0 = false
is_whole AfterEd = false
is_whole AfterF0 = false
is_whole AfterF4 = false

-- a run that may end inside a character
pub record Partial (e : Encoding) (bytes : List ℕ) (kind : Kind) (i j : ℕ) (tail : Tail) : Type 0 where
  pub forth : i ≤ j
  pub within : j ≤ length bytes
  pub lacks : tails e Whole (slice_range bytes i j) ≡ Some tail
  pub high : list_all is_high (slice_range bytes i j) ≡ true
  pub goes : (place : OpenElements) (seen : List ℕ)
      → Goes e bytes (in_segment kind place seen Whole) i
      (in_segment kind place (onto (slice_range bytes i j) seen) tail) j

-- so many marks end a comment, an instruction or a CDATA section, with a bracket after them
abbrev pub sign_of : Mark → ℕ
sign_of dashes = dash
sign_of question = question_mark
sign_of brackets = closing_bracket

abbrev pub least_of : Mark → ℕ
least_of dashes = 2
least_of question = 1
least_of brackets = 2

-- how many of these bytes come first
abbrev pub leading : ℕ → List ℕ → ℕ
leading sign [] = 0
leading sign (c ∷ seen) = if c == sign then leading sign seen + 1 else 0

-- what is answered after a bracket that ends a comment, an instruction or a CDATA section
abbrev pub marked_verdict : Encoding → List ℕ → Mark → OpenElements → ℕ → ℕ → Result Tree TextErr
marked_verdict e bytes mark place i j =
    stepped (marked e mark place (onto (slice_range bytes i (j - 1)) [])) (BadText (j - 1))
    (λ s. verdict e s (drop j bytes) j)

-- what is left of the opening of a CDATA section
abbrev pub cdata_state : List ℕ → OpenElement → OpenElements → State
cdata_state [] frame outer = in_segment (in_marks brackets) (within frame outer) [] Whole
cdata_state (b ∷ left) frame outer = in_cdata (b ∷ left) frame outer

-- a comment, an instruction or a CDATA section goes on, after so many marks
pub record MarkRun (e : Encoding) (bytes : List ℕ) (sign least i j count : ℕ) : Type 0 where
  pub forth : i ≤ j
  pub within : j ≤ length bytes
  pub is_text : IsText e (slice_range bytes i j)
  pub count_is : count ≡ leading sign (onto (slice_range bytes i j) [])
  pub few : count ≤ j - i
  pub goes : (mark : Mark) (place : OpenElements) → sign_of mark ≡ sign → least_of mark ≡ least
      → Goes e bytes (in_segment (in_marks mark) place [] Whole) i
      (in_segment (in_marks mark) place (onto (slice_range bytes i j) []) Whole) j
