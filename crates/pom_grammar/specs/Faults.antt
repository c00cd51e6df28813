-- The faults of a text that is no document, and what an answer says of a text.
use Rattle.std.specs.Prelude.{◌≡◌, ℕ, suc, ◌+◌, Bool, true, not, List, [], ◌∷◌, ◌++◌, length, None, Result, Ok, Err, ◌==◌, codes}
use Rattle.std.specs.List.{list_all}
use Rattle.fault_place.specs.Place.{IsPlace}
use Rattle.fault_place.specs.Reader.{Accepts}
use Rattle.pom_grammar.specs.declared.encoding.Encoding.{Encoding}
use Rattle.pom_grammar.specs.declared.encoding.Tail.TheVariants.{Whole}
use Rattle.pom_grammar.specs.declared.tree.Tree.{Tree}
use Rattle.pom_grammar.specs.declared.tree.TextErr.{TextErr}
use Rattle.pom_grammar.specs.declared.tree.TextErr.TheVariants.{BadText, Doctype, TooDeep, UnknownEncoding, NoMemory}
use Rattle.pom_grammar.specs.Characters.{is_name_start}
use Rattle.pom_grammar.specs.Encodings.{next_tail}
use Rattle.pom_grammar.specs.Document.{Quote, quote_byte, IsTagPrefix, Content, top, inner, chars}
use Rattle.pom_grammar.specs.Declarations.{naming, found_in, known, IsDeclared}
use Rattle.pom_grammar.specs.Heads.{IsMark, IsHead, IsDocument, is_alive}

abbrev pub in_quotes : Quote → ℕ → Bool
in_quotes quote c = not (c == quote_byte quote)

-- a declaration names an encoding that is not known; the place is that of the name
pub record IsUnknown (bytes : List ℕ) (place : ℕ) : Type 0 where
  pub mark : List ℕ
  pub head : List ℕ
  pub rest : List ℕ
  pub text : List ℕ
  pub before : List ℕ
  pub quote : Quote
  pub name : List ℕ
  pub after : List ℕ
  pub is_mark : IsMark mark
  pub is_declared : IsDeclared text head
  pub opens : found_in before ≡ naming quote []
  pub is_name : list_all (in_quotes quote) name ≡ true
  pub split : text ≡ before ++ (name ++ quote_byte quote ∷ after)
  pub is_unknown : known name ≡ None
  pub whole : bytes ≡ mark ++ (head ++ rest)
  pub is_place : place ≡ length mark + (6 + length before)

-- `<!DOCTYPE` stands where miscellany before the root may stand
pub record IsDoctype (bytes : List ℕ) (place : ℕ) : Type 0 where
  pub encoding : Encoding
  pub mark : List ℕ
  pub head : List ℕ
  pub before : List ℕ
  pub rest : List ℕ
  pub is_mark : IsMark mark
  pub is_head : IsHead encoding head (before ++ (codes "<!DOCTYPE" ++ rest))
  pub miscellany : Content encoding top 64 chars before [] []
  pub whole : bytes ≡ mark ++ (head ++ (before ++ (codes "<!DOCTYPE" ++ rest)))
  pub is_place : place ≡ length (mark ++ (head ++ before))

-- bytes that end in the content of so many open elements
pub data Opens (e : Encoding) : ℕ → List ℕ → Type 0 where
  before_root : (bytes : List ℕ) → Content e top 64 chars bytes [] [] → Opens e 0 bytes
  inside : (n room : ℕ) (before name tag bytes text : List ℕ) (children : List Tree) → Opens e n before
      → IsTagPrefix e name tag → suc n + room ≡ 64 → Content e inner room chars bytes text children
      → Opens e (suc n) (before ++ (tag ++ (codes ">" ++ bytes)))

-- the name of a start tag begins in 64 open elements; the place is that of its bracket
pub record IsTooDeep (bytes : List ℕ) (place : ℕ) : Type 0 where
  pub encoding : Encoding
  pub mark : List ℕ
  pub head : List ℕ
  pub before : List ℕ
  pub letter : ℕ
  pub rest : List ℕ
  pub is_mark : IsMark mark
  pub is_head : IsHead encoding head (before ++ (codes "<" ++ letter ∷ rest))
  pub opens : Opens encoding 64 before
  pub is_start : is_name_start letter ≡ true
  pub is_byte : is_alive (next_tail encoding Whole letter) ≡ true
  pub whole : bytes ≡ mark ++ (head ++ (before ++ (codes "<" ++ letter ∷ rest)))
  pub is_place : place ≡ length (mark ++ (head ++ before))

-- none of those faults
pub record IsPlain (bytes : List ℕ) : Type 0 where
  pub known_encoding : (place : ℕ) → IsUnknown bytes place → ⊥
  pub no_doctype : (place : ℕ) → IsDoctype bytes place → ⊥
  pub shallow : (place : ℕ) → IsTooDeep bytes place → ⊥

-- what an answer says of a text
abbrev pub Says : List ℕ → Result Tree TextErr → Type 0
Says bytes (Ok tree) = IsDocument bytes tree
Says bytes (Err (BadText place)) = IsPlace (Accepts IsDocument) bytes place × IsPlain bytes
Says bytes (Err (Doctype place)) = IsDoctype bytes place
Says bytes (Err (TooDeep place)) = IsTooDeep bytes place
Says bytes (Err (UnknownEncoding place)) = IsUnknown bytes place
Says bytes (Err NoMemory) = Unit {0}
