-- What a document is, after its byte-order mark and declaration.
use Rattle.std.specs.Prelude.{◌≡◌, ℕ, suc, Bool, true, false, if◌then◌else◌, not, ◌&&◌, List, [], ◌∷◌, ◌++◌, ◌==◌, codes}
use Rattle.std.specs.List.{list_all}
use Rattle.ascii_bytes.specs.Signs.{less_than, apostrophe, quotation_mark}
use Rattle.ascii_bytes.specs.Classes.{is_white}
use Rattle.pom_grammar.specs.declared.encoding.Encoding.{Encoding}
use Rattle.pom_grammar.specs.declared.tree.Tree.{Tree, roll-Tree}
use Rattle.pom_grammar.specs.Characters.{has_some, is_empty, begins_with, is_name, local, skip_space, cut_space}
use Rattle.pom_grammar.specs.Encodings.{IsText, utf8_of}
use Rattle.pom_grammar.specs.References.{expanded}

-- an element: its local name, its own text without white space at the ends, and its elements
abbrev pub element : Encoding → List ℕ → List ℕ → List Tree → Tree
element e name text children =
    roll-Tree (record { name = utf8_of e (local name); text = cut_space (skip_space text); children = children })

pub record IsName (e : Encoding) (name : List ℕ) : Type 0 where
  pub named : is_name name ≡ true
  pub is_text : IsText e name

-- the name, the equals sign, and white space round it
pub record IsAssigned (e : Encoding) (bytes : List ℕ) : Type 0 where
  pub name : List ℕ
  pub left : List ℕ
  pub right : List ℕ
  pub is_name : IsName e name
  pub left_space : list_all is_white left ≡ true
  pub right_space : list_all is_white right ≡ true
  pub whole : bytes ≡ name ++ (left ++ (codes "=" ++ right))

pub data Quote : Type 0 where
  single : Quote
  double : Quote

abbrev pub quote_byte : Quote → ℕ
quote_byte single = apostrophe
quote_byte double = quotation_mark

-- no bracket, and not the quote
abbrev pub in_value : Quote → ℕ → Bool
in_value quote c = not (c == quote_byte quote) && not (c == less_than)

pub record IsAttribute (e : Encoding) (bytes : List ℕ) : Type 0 where
  pub gap : List ℕ
  pub assigned : List ℕ
  pub quote : Quote
  pub value : List ℕ
  pub some_space : has_some gap ≡ true
  pub is_gap : list_all is_white gap ≡ true
  pub is_assigned : IsAssigned e assigned
  pub is_value : list_all (in_value quote) value ≡ true
  pub is_text : IsText e value
  pub whole : bytes ≡ gap ++ (assigned ++ quote_byte quote ∷ (value ++ quote_byte quote ∷ []))

pub data Attributes (e : Encoding) : List ℕ → Type 0 where
  no_more : Attributes e []
  attribute : (prefix bytes : List ℕ) → Attributes e prefix → IsAttribute e bytes → Attributes e (prefix ++ bytes)

-- a start tag up to what ends it
pub record IsTagPrefix (e : Encoding) (name bytes : List ℕ) : Type 0 where
  pub attributes : List ℕ
  pub gap : List ℕ
  pub is_name : IsName e name
  pub are_attributes : Attributes e attributes
  pub is_gap : list_all is_white gap ≡ true
  pub whole : bytes ≡ codes "<" ++ (name ++ (attributes ++ gap))

pub record IsEndTag (name bytes : List ℕ) : Type 0 where
  pub gap : List ℕ
  pub is_gap : list_all is_white gap ≡ true
  pub whole : bytes ≡ codes "</" ++ (name ++ (gap ++ codes ">"))

-- what ends a comment, an instruction and a CDATA section, with its last byte first
pub data Mark : Type 0 where
  dashes : Mark
  question : Mark
  brackets : Mark

abbrev pub backward : Mark → List ℕ
backward dashes = codes ">--"
backward question = codes ">?"
backward brackets = codes ">]]"

-- after what was seen, its last byte first, the text goes on to the first end, and stops there
abbrev pub ends_from : Mark → List ℕ → List ℕ → Bool
ends_from mark seen [] = false
ends_from mark seen (c ∷ text) =
    if begins_with (backward mark) (c ∷ seen) then is_empty text else ends_from mark (c ∷ seen) text

-- any text up to the first such end, and that
pub record IsEnded (e : Encoding) (mark : Mark) (bytes : List ℕ) : Type 0 where
  pub ends : ends_from mark [] bytes ≡ true
  pub is_text : IsText e bytes

abbrev pub opening : Mark → List ℕ
opening dashes = codes "<!--"
opening question = codes "<?"
opening brackets = codes "<![CDATA["

-- at the top there is no text but white space, no CDATA section, and one element
pub data Level : Type 0 where
  top : Level
  inner : Level

abbrev pub IsFree : Level → List Tree → Type 0
IsFree top children = children ≡ []
IsFree inner children = Unit {0}

-- whether the last that was read is markup (or nothing), or a run of characters, which may be empty
pub data Edge : Type 0 where
  markup : Edge
  chars : Edge

abbrev pub is_plain : ℕ → Bool
is_plain c = not (c == less_than)

-- Bytes of a content in which so many more levels may open, the text of its own, and its elements.
pub data Content (e : Encoding) : Level → ℕ → Edge → List ℕ → List ℕ → List Tree → Type 0 where
  nothing : (level : Level) (room : ℕ) → Content e level room markup [] [] []
  space : (room : ℕ) (prefix text run : List ℕ) (children : List Tree) → list_all is_white run ≡ true
      → Content e top room markup prefix text children → Content e top room chars (prefix ++ run) text children
  plain : (room : ℕ) (prefix text run : List ℕ) (children : List Tree) → list_all is_plain run ≡ true → IsText e run
      → Content e inner room markup prefix text children
      → Content e inner room chars (prefix ++ run) (text ++ expanded e run) children
  comment : (level : Level) (room : ℕ) (prefix text body : List ℕ) (children : List Tree) → IsEnded e dashes body
      → Content e level room chars prefix text children
      → Content e level room markup (prefix ++ (opening dashes ++ body)) text children
  instruction : (level : Level) (room : ℕ) (prefix text body : List ℕ) (children : List Tree) → IsEnded e question body
      → Content e level room chars prefix text children
      → Content e level room markup (prefix ++ (opening question ++ body)) text children
  cdata : (room : ℕ) (prefix text body : List ℕ) (children : List Tree) → IsEnded e brackets (body ++ codes "]]>")
      → Content e inner room chars prefix text children
      → Content e inner room markup (prefix ++ (opening brackets ++ (body ++ codes "]]>")))
      (text ++ utf8_of e body) children
  empty : (level : Level) (room : ℕ) (prefix text name tag : List ℕ) (children : List Tree) → IsTagPrefix e name tag
      → IsFree level children
      → Content e level (suc room) chars prefix text children
      → Content e level (suc room) markup (prefix ++ (tag ++ codes "/>")) text (children ++ element e name [] [] ∷ [])
  child : (level : Level) (room : ℕ) (prefix text name tag within own end : List ℕ) (children grand : List Tree)
      → IsTagPrefix e name tag → IsEndTag name end → IsFree level children
      → Content e level (suc room) chars prefix text children → Content e inner room chars within own grand
      → Content e level (suc room) markup (prefix ++ (tag ++ (codes ">" ++ (within ++ end)))) text
      (children ++ element e name own grand ∷ [])

-- miscellany, one element of at most 64 levels, miscellany
abbrev pub IsBody : Encoding → List ℕ → Tree → Type 0
IsBody e bytes tree = Content e top 64 chars bytes [] (tree ∷ [])
