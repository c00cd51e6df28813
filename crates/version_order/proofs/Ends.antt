-- What ends a constraint.
use Rattle.std.proofs.Common.{◌≡◌, ℕ, ◌+◌, ◌-◌, ◌<◌, ◌≤◌, Bool, true, false, not, ◌&&◌, ◌||◌, List, [], ◌∷◌, ◌++◌, length, take, get_or, refl, sym, ◌∙◌, ap, subst, arith, Option, Some, None, zero, suc, ◌⊎◌, inl, inr}
use Rattle.std.specs.Prelude.{slice_range, ◌==◌, nat_lt}
use Rattle.std.specs.List.{list_all}
use Rattle.std.proofs.lemmas.Bool.{and_parts, cases_Bool, eqb-true, eqb-false, lt-ltb, ltb-true, false≢true}
use Rattle.std.proofs.lemmas.List.{append_assoc, append-nil, take_all}
use Rattle.fault_place.specs.Place.{IsPlace}
use Rattle.fault_place.specs.Reader.{runs, At, Accepts}
use Rattle.fault_place.proofs.Readers.{at_runs, step_at, stops_at, ends_at}
use Rattle.interval_sets.specs.declared.interval.Interval.{Interval}
use Rattle.ascii_bytes.specs.Classes.{is_plain_byte}
use Rattle.version_order.specs.declared.shape.Bound.{Bound}
use Rattle.version_order.specs.Constraints.{is_bound, last_byte, is_reserved, only, IsConstraint}
use Rattle.version_order.specs.ConstraintReader.{Side, first, second, State, begin, in_plain, closed, ends, step, outcome, constraint_reader, IsRead}
use Rattle.version_order.specs.Shapes.{bound_in}
use Rattle.version_order.proofs.Reading.{right, apart}
use Rattle.version_order.proofs.Bounds.{bound_there}

other_byte : (c k : ℕ) → (c ≡ k → ⊥) → (c == k) ≡ false
other_byte c k h = elim (cases_Bool (c == k)) [ inl e ↦ absurd (h (eqb-true c k e)) | inr e ↦ e ]

-- what ends an optional bound leads on
pub ends_on : (side : Side) (bound : Option (List ℕ)) (text : List ℕ) (stop c : ℕ) (next : State) → stop < length text
    → IsRead side bound text stop → get_or text stop 0 ≡ c → ends side bound c ≡ Some next
    → At constraint_reader next (take (stop + 1) text)
ends_on side bound text stop c next inside read e f =
    step_at right text stop read.state next inside read.at (read.steps ∙ ap (ends side bound) e ∙ f)

pub ends_stuck : (side : Side) (bound : Option (List ℕ)) (text : List ℕ) (stop : ℕ) → stop < length text
    → IsRead side bound text stop → ends side bound (get_or text stop 0) ≡ None
    → IsPlace (Accepts IsConstraint) text stop
ends_stuck side bound text stop inside read e = stops_at right text stop read.state inside read.at (read.steps ∙ e)

pub second_stuck : (square : Bool) (lower bound : Option (List ℕ)) (c : ℕ) → (c ≡ 93 → ⊥) → (c ≡ 41 → ⊥)
    → ends (second square lower) bound c ≡ None
second_stuck square lower bound c f g = rw (other_byte c 93 f, other_byte c 41 g) refl

bound_there_by : (text : List ℕ) (bound : Bound) → nat_lt bound.start bound.end ≡ false → bound.start ≤ bound.end
    → bound_in text bound ≡ None
bound_there_by text bound e rises =
    elim (cases_Bool (bound.start == bound.end)) [
      | inl same ↦ rw same refl
      | inr other ↦ absurd (let less : nat_lt bound.start bound.end ≡ true = lt-ltb bound.start bound.end (omega (arith, rises, eqb-false bound.start bound.end other)) in false≢true (sym e ∙ less))
    ]

pub first_stuck : (text : List ℕ) (square : Bool) (bound : Bound) (c : ℕ) → bound.start ≤ bound.end → (c ≡ 44 → ⊥)
    → (c == 93 && (square && nat_lt bound.start bound.end)) ≡ false
    → ends (first square) (bound_in text bound) c ≡ None
first_stuck text false bound c rises f g = rw (other_byte c 44 f) refl
first_stuck text true bound c rises f g = by (bound_in text bound) refl (cases_Bool (c == 93))
  where
    by : (b : Option (List ℕ)) → bound_in text bound ≡ b → (c == 93 ≡ true) ⊎ (c == 93 ≡ false)
        → ends (first true) b c ≡ None
    by None e s = rw (other_byte c 44 f) refl
    by (Some b) e (inr s) = rw (other_byte c 44 f, s) refl
    by (Some b) e (inl s) =
        let empty : nat_lt bound.start bound.end ≡ false = sym (ap (λ p. p && nat_lt bound.start bound.end) s) ∙ g in
        let never : ⊥ = let none = bound_there_by text bound empty rises in cc in
        absurd never

pub first_single : (text : List ℕ) (square : Bool) (bound : Bound) (c : ℕ)
    → (c == 93 && (square && nat_lt bound.start bound.end)) ≡ true
    → ends (first square) (bound_in text bound) c ≡ Some (closed (only (slice_range text bound.start bound.end)))
first_single text square bound c e =
    let parts = and_parts (c == 93) (square && nat_lt bound.start bound.end) e in
    let more = and_parts square (nat_lt bound.start bound.end) parts.1 in
    rw
    (eqb-true c 93 parts.0, more.0, bound_there text bound.start bound.end bound.stop (ltb-true bound.start bound.end more.1)) refl

pub closed_stuck : (text : List ℕ) (interval : Interval (List ℕ)) (i : ℕ) → i < length text
    → At constraint_reader (closed interval) (take i text) → IsPlace (Accepts IsConstraint) text i
closed_stuck text interval i inside here = stops_at right text i (closed interval) inside here refl

-- ---- plain versions

abbrev plain_state : List ℕ → State
plain_state [] = begin
plain_state (c ∷ text) = in_plain (c ∷ text)

plain_run : (more text : List ℕ) → list_all is_plain_byte more ≡ true
    → runs constraint_reader more (in_plain text) ≡ Some (in_plain (text ++ more))
plain_run [] text e = rw append-nil refl
plain_run (c ∷ more) text e =
    let both = and_parts (is_plain_byte c) (list_all is_plain_byte more) e in
    let whole : (text ++ c ∷ []) ++ more ≡ text ++ c ∷ more = append_assoc text (c ∷ []) more in
    rw both.0 (rw whole at (plain_run more (text ++ c ∷ []) both.1))

front_run : (front : List ℕ) → list_all is_plain_byte front ≡ true
    → runs constraint_reader front begin ≡ Some (plain_state front)
front_run [] e = refl
front_run (c ∷ more) e =
    let both = and_parts (is_plain_byte c) (list_all is_plain_byte more) e in
    rw (apart is_plain_byte c 91 both.0 refl, apart is_plain_byte c 40 both.0 refl, both.0)
    (plain_run more (c ∷ []) both.1)

from_zero : (text : List ℕ) (end : ℕ) → slice_range text 0 end ≡ take end text
from_zero text end = let e : end - 0 ≡ end = omega arith in rw e refl

at_plain : (text : List ℕ) (end : ℕ) → list_all is_plain_byte (slice_range text 0 end) ≡ true
    → At constraint_reader (plain_state (take end text)) (take end text)
at_plain text end e =
    at_runs right (take end text) (plain_state (take end text))
    (front_run (take end text) (subst (λ t. list_all is_plain_byte t ≡ true) (from_zero text end) e))

pub plain_stuck : (text : List ℕ) (end : ℕ) → end < length text
    → list_all is_plain_byte (slice_range text 0 end) ≡ true → is_plain_byte (get_or text end 0) ≡ false
    → (get_or text 0 0 ≡ 91 → ⊥) → (get_or text 0 0 ≡ 40 → ⊥) → IsPlace (Accepts IsConstraint) text end
plain_stuck text end inside plain other no_square no_round =
    stops_at right text end (plain_state (take end text)) inside (at_plain text end plain)
    (by text end other no_square no_round)
  where
    by : (text : List ℕ) (end : ℕ) → is_plain_byte (get_or text end 0) ≡ false → (get_or text 0 0 ≡ 91 → ⊥)
        → (get_or text 0 0 ≡ 40 → ⊥) → step (plain_state (take end text)) (get_or text end 0) ≡ None
    by text zero other no_square no_round =
        rw (other_byte (get_or text 0 0) 91 no_square, other_byte (get_or text 0 0) 40 no_round, other) refl
    by [] (suc end) other no_square no_round = refl
    by (c ∷ text) (suc end) other no_square no_round = rw other refl

pub special_stuck : (text : List ℕ) (end : ℕ) → end ≡ length text → 0 < length text
    → list_all is_plain_byte (slice_range text 0 end) ≡ true → (last_byte text == 43 || is_reserved text) ≡ true
    → IsPlace (Accepts IsConstraint) text end
special_stuck text end last some plain special =
    ends_at right text end (plain_state (take end text)) last (at_plain text end plain)
    (ap (λ t. outcome (plain_state t)) (take_all end text (omega (arith, last))) ∙ by text some special)
  where
    refused : (p q r : Bool) → (q || r) ≡ true → (p && (not q && not r)) ≡ false
    refused true true r e = refl
    refused true false true e = refl
    refused true false false e = sym e
    refused false q r e = refl

    by : (text : List ℕ) → 0 < length text → (last_byte text == 43 || is_reserved text) ≡ true
        → outcome (plain_state text) ≡ None
    by [] some special = absurd (omega (arith, some))
    by (c ∷ text) some special =
        rw (refused (is_bound (c ∷ text)) (last_byte (c ∷ text) == 43) (is_reserved (c ∷ text)) special) refl
