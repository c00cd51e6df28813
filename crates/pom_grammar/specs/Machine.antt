-- A reader of documents, byte by byte, after the byte-order mark and the declaration.
use Rattle.std.specs.Prelude.{◌≡◌, ℕ, suc, ◌+◌, Bool, true, false, if◌then◌else◌, not, List, [], ◌∷◌, ◌++◌, drop, Option, Some, None, ◌==◌, codes}
use Rattle.std.specs.List.{list_all}
use Rattle.ascii_bytes.specs.Signs.{question_mark, less_than, slash, greater_than, equals_sign, quotation_mark, apostrophe, exclamation_mark, dash, opening_bracket}
use Rattle.ascii_bytes.specs.Classes.{is_white}
use Rattle.fault_place.specs.Reader.{Reader}
use Rattle.pom_grammar.specs.declared.encoding.Encoding.{Encoding}
use Rattle.pom_grammar.specs.declared.encoding.Tail.{Tail}
use Rattle.pom_grammar.specs.declared.encoding.Tail.TheVariants.{Whole, One, Two, Three, AfterE0, AfterEd, AfterF0, AfterF4}
use Rattle.pom_grammar.specs.declared.tree.Tree.{Tree, roll-Tree}
use Rattle.pom_grammar.specs.Characters.{is_name_start, is_name_byte, has_some, begins_with, is_name, local, skip_space, cut_space, forward}
use Rattle.pom_grammar.specs.Encodings.{utf8_of, next_tail, tails}
use Rattle.pom_grammar.specs.References.{expanded}
use Rattle.pom_grammar.specs.Document.{IsName, IsAssigned, Quote, single, double, quote_byte, in_value, Attributes, IsTagPrefix, Mark, dashes, question, brackets, backward, ends_from, opening, Level, top, inner, Edge, markup, chars, is_plain, Content}

-- an open element: its name as it stands, its local name in UTF-8, its own text so far without white
-- space at the start, and its elements
pub record OpenElement : Type 0 where
  pub name : List ℕ
  pub label : List ℕ
  pub text : List ℕ
  pub children : List Tree

-- what is open: nothing, with the root where it was read; or an element, and what it is in
pub data OpenElements : Type 0 where
  outside : Option Tree → OpenElements
  within : OpenElement → OpenElements → OpenElements

abbrev pub depth : OpenElements → ℕ
depth (outside root) = 0
depth (within frame outer) = suc (depth outer)

abbrev pub level : OpenElements → Level
level (outside root) = top
level (within frame outer) = inner

abbrev pub root_list : Option Tree → List Tree
root_list None = []
root_list (Some tree) = tree ∷ []

-- whether one more element may open: one root, and 64 levels
abbrev pub has_none : Option Tree → Bool
has_none None = true
has_none (Some tree) = false

abbrev pub may_open : OpenElements → Bool
may_open (outside root) = has_none root
may_open (within frame outer) = not (depth outer == 63)

-- texts joined, the first without white space at its start
abbrev pub join : List ℕ → List ℕ → List ℕ
join [] more = skip_space more
join (c ∷ text) more = c ∷ (text ++ more)

abbrev pub with_text : OpenElement → List ℕ → OpenElement
with_text frame more =
    record { name = frame.name; label = frame.label; text = join frame.text more; children = frame.children }

abbrev pub with_child : OpenElements → Tree → OpenElements
with_child (outside root) tree = outside (Some tree)
with_child (within frame outer) tree =
    within (record {
      name = frame.name;
      label = frame.label;
      text = frame.text;
      children =
          frame.children ++ tree ∷ [];
    }) outer

abbrev pub fresh : Encoding → List ℕ → OpenElement
fresh e name = record { name = name; label = utf8_of e (local name); text = []; children = [] }

abbrev pub tree_of : OpenElement → Tree
tree_of frame = roll-Tree (record { name = frame.label; text = cut_space frame.text; children = frame.children })

-- what a run of bytes is, and where it stands
pub data Kind : Type 0 where
  in_run : Kind
  in_name : Kind
  -- the name and the value of an attribute, in a tag of this name
  in_label : List ℕ → Kind
  in_quotes : Quote → List ℕ → Kind
  in_marks : Mark → Kind

-- a place in a start tag: after white space, after an attribute's name, after `=`, after the
-- value, after the slash
pub data Spot : Type 0 where
  spaced : Spot
  equals : Spot
  value : Spot
  closed : Spot
  after_slash : Spot

pub data State : Type 0 where
  -- outside every element, with the root where it was read
  between : Option Tree → State
  -- after a bracket, after `<!`, after `<!-`
  opened : OpenElements → State
  bang : OpenElements → State
  after_dash : OpenElements → State
  -- what is left of `[CDATA[`
  in_cdata : List ℕ → OpenElement → OpenElements → State
  -- the bytes of a run so far, the last first, and what its last character lacks
  in_segment : Kind → OpenElements → List ℕ → Tail → State
  in_tag : Spot → List ℕ → OpenElements → State
  -- in an end tag: what of the name was read, and what is left of it; after the name
  in_end : List ℕ → List ℕ → OpenElement → OpenElements → State
  after_name : OpenElement → OpenElements → State

-- after markup
abbrev pub back : OpenElements → State
back (outside root) = between root
back (within frame outer) = in_segment in_run (within frame outer) [] Whole

abbrev pub stops : Kind → List ℕ → ℕ → Bool
stops in_run seen c = c == less_than
stops in_name seen c = not (is_name_byte c)
stops (in_label name) seen c = not (is_name_byte c)
stops (in_quotes quote name) seen c = not (in_value quote c)
stops (in_marks mark) seen c = begins_with (backward mark) (c ∷ seen)

-- after a name or a value in a start tag
abbrev pub tag_step : Encoding → List ℕ → OpenElements → ℕ → Option State
tag_step e name place c =
    if is_white c then Some (in_tag spaced name place) else
    if c == slash then Some (in_tag after_slash name place) else if c == greater_than
    then Some (back (within (fresh e name) place))
    else None

abbrev pub equals_step : List ℕ → OpenElements → ℕ → Option State
equals_step name place c =
    if is_white c then Some (in_tag equals name place) else if c == equals_sign then Some (in_tag value name place)
    else None

abbrev pub on_frame : OpenElements → (OpenElement → OpenElements → Option State) → Option State
on_frame (outside root) f = None
on_frame (within frame outer) f = f frame outer

-- an element's text goes on
abbrev pub marked : Encoding → Mark → OpenElements → List ℕ → Option State
marked e dashes place seen = Some (back place)
marked e question place seen = Some (back place)
marked e brackets place seen =
    on_frame place (λ frame outer. Some (back (within (with_text frame (utf8_of e (forward (drop 2 seen)))) outer)))

-- the byte after a run
abbrev pub after : Encoding → Kind → OpenElements → List ℕ → ℕ → Option State
after e in_run place seen c =
    on_frame place (λ frame outer. Some (opened (within (with_text frame (expanded e (forward seen))) outer)))
after e in_name place seen c = tag_step e (forward seen) place c
after e (in_label name) place seen c = equals_step name place c
after e (in_quotes quote name) place seen c = if c == quote_byte quote then Some (in_tag closed name place) else None
after e (in_marks mark) place seen c = marked e mark place seen

abbrev pub if_whole : Tail → Option State → Option State
if_whole Whole next = next
if_whole One next = None
if_whole Two next = None
if_whole Three next = None
if_whole AfterE0 next = None
if_whole AfterEd next = None
if_whole AfterF0 next = None
if_whole AfterF4 next = None

abbrev pub if_some_tail : Option Tail → (Tail → Option State) → Option State
if_some_tail None f = None
if_some_tail (Some tail) f = f tail

abbrev pub segment_step : Encoding → Kind → OpenElements → List ℕ → Tail → ℕ → Option State
segment_step e kind place seen tail c =
    if stops kind seen c then if_whole tail (after e kind place seen c)
    else if_some_tail (next_tail e tail c) (λ next. Some (in_segment kind place (c ∷ seen) next))

abbrev pub close : Encoding → OpenElement → OpenElements → Option State
close e frame outer = Some (back (with_child outer (tree_of frame)))

abbrev pub spot_step : Encoding → Spot → List ℕ → OpenElements → ℕ → Option State
spot_step e spaced name place c =
    if is_name_start c
    then if_some_tail (next_tail e Whole c) (λ next. Some (in_segment (in_label name) place (c ∷ []) next))
    else tag_step e name place c
spot_step e equals name place c = equals_step name place c
spot_step e value name place c =
    if is_white c then Some (in_tag value name place) else
    if c == quotation_mark then Some (in_segment (in_quotes double name) place [] Whole) else if c == apostrophe
    then Some (in_segment (in_quotes single name) place [] Whole) else None
spot_step e closed name place c = tag_step e name place c
spot_step e after_slash name place c =
    if c == greater_than then Some (back (with_child place (tree_of (fresh e name)))) else None

abbrev pub after_name_step : Encoding → OpenElement → OpenElements → ℕ → Option State
after_name_step e frame outer c =
    if is_white c then Some (after_name frame outer) else if c == greater_than then close e frame outer else None

abbrev pub end_step : Encoding → List ℕ → List ℕ → OpenElement → OpenElements → ℕ → Option State
end_step e done [] frame outer c = after_name_step e frame outer c
end_step e done (b ∷ left) frame outer c = if c == b then Some (in_end (done ++ b ∷ []) left frame outer) else None

abbrev pub cdata_step : List ℕ → OpenElement → OpenElements → ℕ → Option State
cdata_step [] frame outer c = None
cdata_step (b ∷ []) frame outer c =
    if c == b then Some (in_segment (in_marks brackets) (within frame outer) [] Whole) else None
cdata_step (b ∷ (d ∷ left)) frame outer c = if c == b then Some (in_cdata (d ∷ left) frame outer) else None

abbrev pub open_step : OpenElements → Option State → Option State
open_step place next = if may_open place then next else None

abbrev pub opened_step : Encoding → OpenElements → ℕ → Option State
opened_step e place c =
    if is_name_start c
    then open_step place
    (if_some_tail (next_tail e Whole c) (λ next. Some (in_segment in_name place (c ∷ []) next))) else
    if c == exclamation_mark then Some (bang place) else
    if c == question_mark then Some (in_segment (in_marks question) place [] Whole) else
    if c == slash then on_frame place (λ frame outer. Some (in_end [] frame.name frame outer)) else None

abbrev pub bang_step : OpenElements → ℕ → Option State
bang_step place c =
    if c == dash then Some (after_dash place) else if c == opening_bracket
    then on_frame place (λ frame outer. Some (in_cdata (codes "CDATA[") frame outer)) else None

abbrev pub step : Encoding → State → ℕ → Option State
step e (between root) c =
    if is_white c then Some (between root) else if c == less_than then Some (opened (outside root)) else None
step e (opened place) c = opened_step e place c
step e (bang place) c = bang_step place c
step e (after_dash place) c = if c == dash then Some (in_segment (in_marks dashes) place [] Whole) else None
step e (in_cdata left frame outer) c = cdata_step left frame outer c
step e (in_segment kind place seen tail) c = segment_step e kind place seen tail c
step e (in_tag spot name place) c = spot_step e spot name place c
step e (in_end done left frame outer) c = end_step e done left frame outer c
step e (after_name frame outer) c = after_name_step e frame outer c

abbrev pub outcome : State → Option Tree
outcome (between root) = root
outcome (opened place) = None
outcome (bang place) = None
outcome (after_dash place) = None
outcome (in_cdata left frame outer) = None
outcome (in_segment kind place seen tail) = None
outcome (in_tag spot name place) = None
outcome (in_end done left frame outer) = None
outcome (after_name frame outer) = None

-- What is known of a prefix that leads to a state.

pub record FitsFrame (e : Encoding) (edge : Edge) (Outer : List ℕ → Type 0) (frame : OpenElement)
    (outer : OpenElements) (prefix : List ℕ) : Type 0 where
  pub before : List ℕ
  pub tag : List ℕ
  pub bytes : List ℕ
  pub text : List ℕ
  pub room : ℕ
  pub is_outer : Outer before
  pub free : may_open outer ≡ true
  pub is_tag : IsTagPrefix e frame.name tag
  pub deep : suc (depth outer) + room ≡ 64
  pub content : Content e inner room edge bytes text frame.children
  pub labelled : frame.label ≡ utf8_of e (local frame.name)
  pub trimmed : frame.text ≡ skip_space text
  pub whole : prefix ≡ before ++ (tag ++ (codes ">" ++ bytes))

-- bytes that leave this open
abbrev pub FitsElements : Encoding → Edge → OpenElements → List ℕ → Type 0
FitsElements e edge (outside root) prefix = Content e top 64 edge prefix [] (root_list root)
FitsElements e edge (within frame outer) prefix = FitsFrame e edge (FitsElements e chars outer) frame outer prefix

-- the same, and more bytes
pub record FitsMore (e : Encoding) (place : OpenElements) (more prefix : List ℕ) : Type 0 where
  pub before : List ℕ
  pub is_place : FitsElements e chars place before
  pub whole : prefix ≡ before ++ more

pub record FitsTag (e : Encoding) (Gap : List ℕ → Type 0) (name : List ℕ) (place : OpenElements)
    (prefix : List ℕ) : Type 0 where
  pub before : List ℕ
  pub attributes : List ℕ
  pub gap : List ℕ
  pub is_place : FitsElements e chars place before
  pub free : may_open place ≡ true
  pub is_name : IsName e name
  pub are_attributes : Attributes e attributes
  pub is_gap : list_all is_white gap ≡ true
  pub some_gap : Gap gap
  pub whole : prefix ≡ before ++ (codes "<" ++ (name ++ (attributes ++ gap)))

abbrev pub AnyGap : List ℕ → Type 0
AnyGap gap = Unit {0}

abbrev pub SomeGap : List ℕ → Type 0
SomeGap gap = has_some gap ≡ true

-- an attribute's name and white space
pub record FitsEquals (e : Encoding) (name : List ℕ) (place : OpenElements) (prefix : List ℕ) : Type 0 where
  pub before : List ℕ
  pub label : List ℕ
  pub left : List ℕ
  pub is_tag : FitsTag e SomeGap name place before
  pub is_name : IsName e label
  pub left_space : list_all is_white left ≡ true
  pub whole : prefix ≡ before ++ (label ++ left)

pub record FitsAssigned (e : Encoding) (more name : List ℕ) (place : OpenElements) (prefix : List ℕ) : Type 0 where
  pub before : List ℕ
  pub assigned : List ℕ
  pub is_tag : FitsTag e SomeGap name place before
  pub is_assigned : IsAssigned e assigned
  pub whole : prefix ≡ before ++ (assigned ++ more)

abbrev pub FitsSpot : Encoding → Spot → List ℕ → OpenElements → List ℕ → Type 0
FitsSpot e spaced name place prefix = FitsTag e SomeGap name place prefix
FitsSpot e equals name place prefix = FitsEquals e name place prefix
FitsSpot e value name place prefix = FitsAssigned e [] name place prefix
FitsSpot e closed name place prefix = FitsTag e AnyGap name place prefix
FitsSpot e after_slash name place prefix =
    (before : List ℕ) × FitsTag e AnyGap name place before × (prefix ≡ before ++ codes "/")

abbrev pub Inside : OpenElements → Type 0
Inside (outside root) = ⊥
Inside (within frame outer) = Unit {0}

abbrev pub MayStand : Mark → OpenElements → Type 0
MayStand dashes place = Unit {0}
MayStand question place = Unit {0}
MayStand brackets place = Inside place

-- what stands before the bytes of a run
abbrev pub FitsKind : Encoding → Kind → OpenElements → List ℕ → Type 0
FitsKind e in_run place prefix = FitsElements e markup place prefix × Inside place
FitsKind e in_name place prefix = FitsMore e place (codes "<") prefix × (may_open place ≡ true)
FitsKind e (in_label name) place prefix = FitsTag e SomeGap name place prefix
FitsKind e (in_quotes quote name) place prefix = FitsAssigned e (quote_byte quote ∷ []) name place prefix
FitsKind e (in_marks mark) place prefix = FitsMore e place (opening mark) prefix × MayStand mark place

-- what is known of the bytes of a run
abbrev pub IsRun : Kind → List ℕ → Type 0
IsRun in_run seen = list_all is_plain (forward seen) ≡ true
IsRun in_name seen = is_name (forward seen) ≡ true
IsRun (in_label name) seen = is_name (forward seen) ≡ true
IsRun (in_quotes quote name) seen = list_all (in_value quote) (forward seen) ≡ true
IsRun (in_marks mark) seen = (text : List ℕ) → ends_from mark [] (forward seen ++ text) ≡ ends_from mark seen text

pub record FitsSegment (e : Encoding) (kind : Kind) (place : OpenElements) (seen : List ℕ) (tail : Tail)
    (prefix : List ℕ) : Type 0 where
  pub before : List ℕ
  pub is_kind : FitsKind e kind place before
  pub is_run : IsRun kind seen
  pub lacks : tails e Whole (forward seen) ≡ Some tail
  pub whole : prefix ≡ before ++ forward seen

pub record FitsEnd (e : Encoding) (done left : List ℕ) (frame : OpenElement) (outer : OpenElements)
    (prefix : List ℕ) : Type 0 where
  pub before : List ℕ
  pub is_place : FitsElements e chars (within frame outer) before
  pub split : done ++ left ≡ frame.name
  pub whole : prefix ≡ before ++ (codes "</" ++ done)

pub record FitsAfter (e : Encoding) (frame : OpenElement) (outer : OpenElements) (prefix : List ℕ) : Type 0 where
  pub before : List ℕ
  pub gap : List ℕ
  pub is_place : FitsElements e chars (within frame outer) before
  pub is_gap : list_all is_white gap ≡ true
  pub whole : prefix ≡ before ++ (codes "</" ++ (frame.name ++ gap))

pub record FitsCdata (e : Encoding) (left : List ℕ) (frame : OpenElement) (outer : OpenElements)
    (prefix : List ℕ) : Type 0 where
  pub before : List ℕ
  pub done : List ℕ
  pub is_place : FitsElements e chars (within frame outer) before
  pub split : done ++ left ≡ codes "<![CDATA["
  pub some : has_some left ≡ true
  pub whole : prefix ≡ before ++ done

abbrev pub Fits : Encoding → State → List ℕ → Type 0
Fits e (between root) prefix = FitsElements e chars (outside root) prefix
Fits e (opened place) prefix = FitsMore e place (codes "<") prefix
Fits e (bang place) prefix = FitsMore e place (codes "<!") prefix
Fits e (after_dash place) prefix = FitsMore e place (codes "<!-") prefix
Fits e (in_cdata left frame outer) prefix = FitsCdata e left frame outer prefix
Fits e (in_segment kind place seen tail) prefix = FitsSegment e kind place seen tail prefix
Fits e (in_tag spot name place) prefix = FitsSpot e spot name place prefix
Fits e (in_end done left frame outer) prefix = FitsEnd e done left frame outer prefix
Fits e (after_name frame outer) prefix = FitsAfter e frame outer prefix

-- the reader with any outcome: with `Some`, what it reads is the state that it comes to
abbrev pub reader_with : Encoding → (V : Type 0) → (State → Option V) → Reader State V
reader_with e V out = record { start = between None; step = step e; outcome = out; Fits = Fits e }

abbrev pub body_reader : Encoding → Reader State Tree
body_reader e = reader_with e Tree outcome
