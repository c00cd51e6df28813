-- The reader of constraints, byte by byte.
use Rattle.std.specs.Prelude.{◌≡◌, ℕ, Bool, true, false, if◌then◌else◌, List, [], ◌∷◌, ◌++◌, Option, Some, None, ◌==◌, get_or, take}
use Rattle.std.specs.List.{list_all}
use Rattle.fault_place.specs.Place.{IsPlace}
use Rattle.fault_place.specs.Reader.{Reader, At, Accepts}
use Rattle.interval_sets.specs.declared.interval.Interval.{Interval}
use Rattle.version_order.specs.declared.constraint.Constraint.{Constraint}
use Rattle.version_order.specs.declared.constraint.Constraint.TheVariants.{Any, Plain, Within}
use Rattle.ascii_bytes.specs.Classes.{is_blank, is_plain_byte}
use Rattle.ascii_bytes.specs.Signs.{closing_bracket, closing_parenthesis, comma, opening_bracket, opening_parenthesis}
use Rattle.version_order.specs.Constraints.{is_bound, is_plain, IsPadded, IsOptional, opening, interval_of, only, IsConstraint}

-- which bound is read: the one after the first bracket, or the one after the comma
pub data Side : Type 0 where
  first : Bool → Side
  second : Bool → Option (List ℕ) → Side

pub data State : Type 0 where
  begin : State
  in_plain : List ℕ → State
  -- after a bracket or a comma, after blanks there, in a bound, in the blanks after it
  opened : Side → State
  before : Side → State
  inside : Side → List ℕ → State
  after : Side → List ℕ → State
  closed : Interval (List ℕ) → State

-- what ends an optional bound
abbrev pub ends : Side → Option (List ℕ) → ℕ → Option State
ends (first true) (Some bound) c =
    if c == comma then Some (opened (second true (Some bound))) else
    if c == closing_bracket then Some (closed (only bound)) else None
ends (first true) None c = if c == comma then Some (opened (second true None)) else None
ends (first false) bound c = if c == comma then Some (opened (second false bound)) else None
ends (second square lower) bound c =
    if c == closing_bracket then Some (closed (interval_of square lower bound true)) else
    if c == closing_parenthesis then Some (closed (interval_of square lower bound false)) else None

abbrev pub step : State → ℕ → Option State
step begin c =
    if c == opening_bracket then Some (opened (first true)) else
    if c == opening_parenthesis then Some (opened (first false)) else
    if is_plain_byte c then Some (in_plain (c ∷ [])) else None
step (in_plain text) c = if is_plain_byte c then Some (in_plain (text ++ c ∷ [])) else None
step (opened side) c =
    if is_blank c then Some (before side) else
    if is_plain_byte c then Some (inside side (c ∷ [])) else ends side None c
step (before side) c =
    if is_blank c then Some (before side) else
    if is_plain_byte c then Some (inside side (c ∷ [])) else None
step (inside side bound) c =
    if is_blank c then Some (after side bound) else
    if is_plain_byte c then Some (inside side (bound ++ c ∷ [])) else ends side (Some bound) c
step (after side bound) c = if is_blank c then Some (after side bound) else ends side (Some bound) c
step (closed interval) c = None

abbrev pub outcome : State → Option Constraint
outcome begin = Some Any
outcome (in_plain text) = if is_plain text then Some (Plain text) else None
outcome (opened side) = None
outcome (before side) = None
outcome (inside side bound) = None
outcome (after side bound) = None
outcome (closed interval) = Some (Within interval)

-- what stands before a bound
abbrev pub Leads : Side → List ℕ → Type 0
Leads (first square) lead = lead ≡ opening square ∷ []
Leads (second square lower) lead = (low : List ℕ) × IsOptional low lower × (lead ≡ opening square ∷ (low ++ comma ∷ []))

pub record FitsBefore (side : Side) (front : List ℕ) : Type 0 where
  pub lead : List ℕ
  pub blanks : List ℕ
  pub leads : Leads side lead
  pub are_blank : list_all is_blank blanks ≡ true
  pub whole : front ≡ lead ++ blanks

pub record FitsInside (side : Side) (bound front : List ℕ) : Type 0 where
  pub lead : List ℕ
  pub blanks : List ℕ
  pub leads : Leads side lead
  pub are_blank : list_all is_blank blanks ≡ true
  pub bounds : is_bound bound ≡ true
  pub whole : front ≡ lead ++ (blanks ++ bound)

pub record FitsAfter (side : Side) (bound front : List ℕ) : Type 0 where
  pub lead : List ℕ
  pub text : List ℕ
  pub leads : Leads side lead
  pub padded : IsPadded text bound
  pub whole : front ≡ lead ++ text

abbrev pub Fits : State → List ℕ → Type 0
Fits begin front = front ≡ []
Fits (in_plain text) front = (front ≡ text) × (is_bound text ≡ true)
Fits (opened side) front = Leads side front
Fits (before side) front = FitsBefore side front
Fits (inside side bound) front = FitsInside side bound front
Fits (after side bound) front = FitsAfter side bound front
Fits (closed interval) front = IsConstraint front (Within interval)

abbrev pub constraint_reader : Reader State Constraint
constraint_reader = record { start = begin; step = step; outcome = outcome; Fits = Fits }

-- At the place `stop` the optional bound has been read, and the byte there is to end it.
pub record IsRead (side : Side) (bound : Option (List ℕ)) (text : List ℕ) (stop : ℕ) : Type 0 where
  pub state : State
  pub at : At constraint_reader state (take stop text)
  pub steps : step state (get_or text stop 0) ≡ ends side bound (get_or text stop 0)

-- read after `from`, whichever bound is to begin there
abbrev pub IsReadFrom : ℕ → Option (List ℕ) → List ℕ → ℕ → Type 0
IsReadFrom from bound text stop =
    (side : Side) → At constraint_reader (opened side) (take from text) → IsRead side bound text stop

-- the place of a text in which a bound is to begin after `from`
abbrev pub IsPlaceFrom : ℕ → List ℕ → ℕ → Type 0
IsPlaceFrom from text place =
    (side : Side) → At constraint_reader (opened side) (take from text) → IsPlace (Accepts IsConstraint) text place
