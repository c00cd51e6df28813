-- The open elements as the reader has them: the innermost comes first.
use Rattle.std.specs.Prelude.{◌≡◌, ℕ, ◌<◌, List, [], ◌∷◌, slice_index, length, None, Bool, false, if◌then◌else◌, ◌&&◌, codes}
use Rattle.pom_text.specs.declared.tree.Frame.{Frame}
use Rattle.pom_text.specs.declared.tree.Open.{Open}
use Rattle.pom_text.specs.declared.tags.TagEnd.{TagEnd}
use Rattle.pom_grammar.specs.declared.encoding.Encoding.{Encoding}
use Rattle.pom_grammar.specs.declared.tree.TextErr.TheVariants.{BadText}
use Rattle.pom_grammar.specs.Characters.{begins_with}
use Rattle.pom_grammar.specs.Machine.{OpenElements, outside, within, has_none, State, back, fresh, with_child, tree_of, tag_step, step, outcome}
use Rattle.pom_grammar.specs.Machine.{OpenElement}
use Rattle.pom_grammar.specs.Verdicts.{fault_at}

abbrev pub frame_view : Frame → OpenElement
frame_view frame = record { name = frame.raw; label = frame.label; text = frame.text; children = frame.children }

abbrev pub nest : OpenElements → List Frame → OpenElements
nest place [] = place
nest place (frame ∷ frames) = nest (within (frame_view frame) place) frames

abbrev pub open_view : Open → OpenElements
open_view «open» = nest (outside «open».root) «open».frames

-- after a start tag
abbrev pub tag_state : Encoding → TagEnd → List ℕ → OpenElements → State
tag_state e tag name place =
    if tag.is_empty then back (with_child place (tree_of (fresh e name))) else back (within (fresh e name) place)

-- a state goes on as after a name in a start tag
pub record AsTag (e : Encoding) (bytes : List ℕ) (at : ℕ) (s : State) (name : List ℕ)
    (place : OpenElements) : Type 0 where
  pub steps : at < length bytes → step e s (slice_index bytes at) ≡ tag_step e name place (slice_index bytes at)
  pub faults : (c : ℕ) (text : List ℕ) (k : ℕ) → fault_at e s c text k ≡ BadText k
  pub open_end : outcome s ≡ None

-- whether a document type is declared
abbrev pub doctype_test : OpenElements → List ℕ → Bool
doctype_test (outside root) text = has_none root && begins_with (codes "DOCTYPE") text
doctype_test (within frame outer) text = false
