-- What is answered for a text: its tree, or its first fault.
use Rattle.std.specs.Prelude.{ℕ, ◌+◌, ◌-◌, Bool, false, if◌then◌else◌, ◌&&◌, ◌||◌, List, [], ◌∷◌, drop, Option, Some, None, Result, Ok, Err, ◌==◌, codes}
use Rattle.ascii_bytes.specs.Signs.{question_mark, quotation_mark, apostrophe, greater_than}
use Rattle.pom_grammar.specs.declared.encoding.Encoding.{Encoding}
use Rattle.pom_grammar.specs.declared.encoding.Tail.TheVariants.{Whole}
use Rattle.pom_grammar.specs.declared.encoding.Seek.TheVariants.{Nothing, E, En, Enc, Enco, Encod, Encodi, Encodin, Word, Equals}
use Rattle.pom_grammar.specs.declared.tree.Tree.{Tree}
use Rattle.pom_grammar.specs.declared.tree.TextErr.{TextErr}
use Rattle.pom_grammar.specs.declared.tree.TextErr.TheVariants.{BadText, Doctype, TooDeep, UnknownEncoding}
use Rattle.pom_grammar.specs.Characters.{is_name_start, begins_with}
use Rattle.pom_grammar.specs.Encodings.{next_tail}
use Rattle.pom_grammar.specs.Declarations.{Found, seeking, naming, named, next_found, known, is_unknown, declares}
use Rattle.pom_grammar.specs.Machine.{OpenElements, outside, within, depth, State, between, opened, bang, after_dash, in_cdata, in_segment, in_tag, in_end, after_name, step, outcome}
use Rattle.pom_grammar.specs.Heads.{Reading, begin, mark_one, mark_two, starting, in_declaration, in_body, is_alive, read_step, read_outcome}

-- a start tag begins with this byte where no more level may open
abbrev pub deep_fault : Encoding → OpenElements → ℕ → ℕ → TextErr
deep_fault e (outside root) c k = BadText k
deep_fault e (within frame outer) c k =
    if is_name_start c && (is_alive (next_tail e Whole c) && depth outer == 63) then TooDeep (k - 1) else BadText k

abbrev pub root_fault : Option Tree → List ℕ → ℕ → TextErr
root_fault None text k = if begins_with (codes "DOCTYPE") text then Doctype (k - 2) else BadText k
root_fault (Some tree) text k = BadText k

abbrev pub doctype_fault : OpenElements → List ℕ → ℕ → TextErr
doctype_fault (outside root) text k = root_fault root text k
doctype_fault (within frame outer) text k = BadText k

-- the fault where a state stops before a byte and a text, at a place
abbrev pub fault_at : Encoding → State → ℕ → List ℕ → ℕ → TextErr
fault_at e (opened place) c text k = deep_fault e place c k
fault_at e (bang place) c text k = doctype_fault place (c ∷ text) k
fault_at e (between root) c text k = BadText k
fault_at e (after_dash place) c text k = BadText k
fault_at e (in_cdata left frame outer) c text k = BadText k
fault_at e (in_segment kind place seen tail) c text k = BadText k
fault_at e (in_tag spot name place) c text k = BadText k
fault_at e (in_end done left frame outer) c text k = BadText k
fault_at e (after_name frame outer) c text k = BadText k

abbrev pub ended : Option Tree → ℕ → Result Tree TextErr
ended None k = Err (BadText k)
ended (Some tree) k = Ok tree

abbrev pub stepped : {S : Type 0} → Option S → TextErr → (S → Result Tree TextErr) → Result Tree TextErr
stepped None fault f = Err fault
stepped (Some s) fault f = f s

-- what is answered from a state, where this is left of the text from a place on
abbrev pub verdict : Encoding → State → List ℕ → ℕ → Result Tree TextErr
verdict e s [] k = ended (outcome s) k
verdict e s (c ∷ text) k = stepped (step e s c) (fault_at e s c text k) (λ t. verdict e t text (k + 1))

abbrev pub reading_fault : Reading → ℕ → List ℕ → ℕ → TextErr
reading_fault begin c text k = BadText k
reading_fault mark_one c text k = BadText k
reading_fault mark_two c text k = BadText k
reading_fault (starting start) c text k = BadText k
reading_fault (in_declaration space seen telling) c text k = BadText k
reading_fault (in_body e s) c text k = fault_at e s c text k

abbrev pub reading_verdict : Reading → List ℕ → ℕ → Result Tree TextErr
reading_verdict s [] k = ended (read_outcome s) k
reading_verdict s (c ∷ text) k =
    stepped (read_step s c) (reading_fault s c text k) (λ t. reading_verdict t text (k + 1))

-- The place of an encoding's name in a declaration's text, if the name is not known: where the
-- value began, what was found, whether the last byte was a question mark.
abbrev pub start_next : Found → ℕ → ℕ → ℕ → ℕ
start_next (seeking Equals) c k start = if c == quotation_mark || c == apostrophe then k + 1 else 0
start_next (seeking Nothing) c k start = 0
start_next (seeking E) c k start = 0
start_next (seeking En) c k start = 0
start_next (seeking Enc) c k start = 0
start_next (seeking Enco) c k start = 0
start_next (seeking Encod) c k start = 0
start_next (seeking Encodi) c k start = 0
start_next (seeking Encodin) c k start = 0
start_next (seeking Word) c k start = 0
start_next (naming quote value) c k start = start
start_next (named value) c k start = start

abbrev pub if_unknown : Found → ℕ → Option ℕ
if_unknown (seeking seek) start = None
if_unknown (naming quote value) start = None
if_unknown (named value) start = if is_unknown (known value) then Some start else None

abbrev pub unknown_from : ℕ → Found → Bool → List ℕ → ℕ → Option ℕ
unknown_from start found question [] k = None
unknown_from start found question (c ∷ text) k =
    if question && c == greater_than then if_unknown found start
    else unknown_from (start_next found c k start) (next_found found c) (c == question_mark) text (k + 1)

abbrev pub byte_order_mark : List ℕ
byte_order_mark = 239 ∷ (187 ∷ (191 ∷ []))

abbrev pub unknown_after : ℕ → List ℕ → Option ℕ
unknown_after start text =
    if declares text then unknown_from 0 (seeking Nothing) false (drop 6 text) (start + 6) else None

abbrev pub unknown_of : List ℕ → Option ℕ
unknown_of bytes = if begins_with byte_order_mark bytes then unknown_after 3 (drop 3 bytes) else unknown_after 0 bytes

abbrev pub unless_unknown : Option ℕ → Result Tree TextErr → Result Tree TextErr
unless_unknown None other = other
unless_unknown (Some place) other = Err (UnknownEncoding place)

abbrev pub whole_verdict : List ℕ → Result Tree TextErr
whole_verdict bytes = unless_unknown (unknown_of bytes) (reading_verdict begin bytes 0)
