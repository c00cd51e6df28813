-- A reader goes over a text byte by byte, and is right for a relation between texts and values.
use Rattle.std.specs.Prelude.{◌≡◌, ℕ, suc, List, [], ◌∷◌, ◌++◌, Option, Some, None, IfSome}

pub record Reader (State Value : Type 0) : Type 1 where
  pub start : State
  -- the state after a byte, unless no accepted text has that byte there
  pub step : State → ℕ → Option State
  -- what was read, if the text may end here
  pub outcome : State → Option Value
  -- what is known of a prefix that leads to a state
  pub Fits : State → List ℕ → Type 0

abbrev pub goes_with : {State Value : Type 0} → Option State → (State → Option Value) → Option Value
goes_with None f = None
goes_with (Some state) f = f state

-- the state after a run of bytes
abbrev pub runs : {State Value : Type 0} → Reader State Value → List ℕ → State → Option State
runs m [] state = Some state
runs m (byte ∷ text) state = goes_with (m.step state byte) (runs m text)

-- what is read where this is the rest of the text
abbrev pub reads : {State Value : Type 0} → Reader State Value → List ℕ → State → Option Value
reads m [] state = m.outcome state
reads m (byte ∷ text) state = goes_with (m.step state byte) (reads m text)

abbrev pub one_more : {State : Type 0} → Option State → (State → ℕ) → ℕ
one_more None f = 0
one_more (Some state) f = suc (f state)

-- how many bytes are read before a step is refused
abbrev pub reads_far : {State Value : Type 0} → Reader State Value → List ℕ → State → ℕ
reads_far m [] state = 0
reads_far m (byte ∷ text) state = one_more (m.step state byte) (reads_far m text)

-- after this prefix the reader is in this state
pub record At {State Value : Type 0} (m : Reader State Value) (state : State) (prefix : List ℕ) : Type 0 where
  pub fits : m.Fits state prefix
  pub reached : runs m prefix m.start ≡ Some state

-- the texts of some value
abbrev pub Accepts : {Value : Type 0} → (List ℕ → Value → Type 0) → List ℕ → Type 0
Accepts {Value} spells text = (value : Value) × spells text value

pub record IsRight {State Value : Type 0} (m : Reader State Value) (spells : List ℕ → Value → Type 0) : Type 0 where
  pub begins : m.Fits m.start []
  pub keeps : (state : State) (prefix : List ℕ) (byte : ℕ) → m.Fits state prefix
      → IfSome (m.step state byte) (λ next. m.Fits next (prefix ++ byte ∷ []))
  -- what is read is spelled
  pub gives : (state : State) (prefix : List ℕ) (value : Value) → m.Fits state prefix → m.outcome state ≡ Some value
      → spells prefix value
  -- what is spelled is read
  pub takes : (text : List ℕ) (value : Value) → spells text value → reads m text m.start ≡ Some value
  -- no state is a dead end
  pub lives : (state : State) (prefix : List ℕ) → m.Fits state prefix → (rest : List ℕ) × (value : Value)
      × (reads m rest state ≡ Some value)
