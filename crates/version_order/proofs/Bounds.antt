-- Where an optional bound ends, and what the reader makes of it.
use Rattle.std.proofs.Common.{◌≡◌, ℕ, ◌+◌, ◌<◌, ◌≤◌, true, false, List, [], ◌∷◌, ◌++◌, length, take, get_or, refl, sym, subst, arith, Some, None, inl, inr, ◌⊎◌}
use Rattle.std.specs.Prelude.{slice_range, ◌==◌}
use Rattle.std.specs.List.{list_all}
use Rattle.std.proofs.lemmas.Bool.{and_parts, cases_lt, cases_Bool, eqb-true}
use Rattle.std.proofs.lemmas.List.{append_assoc, append-nil}
use Rattle.fault_place.specs.Place.{IsPlace}
use Rattle.fault_place.specs.Reader.{runs, At, Accepts}
use Rattle.fault_place.proofs.Readers.{at_run, stops_at, ends_at}
use Rattle.ascii_bytes.specs.Classes.{is_blank, is_plain_byte}
use Rattle.version_order.specs.Constraints.{IsConstraint}
use Rattle.version_order.specs.ConstraintReader.{Side, State, opened, before, inside, after, ends, step, outcome, constraint_reader, IsRead}
use Rattle.version_order.specs.Shapes.{bound_in}
use Rattle.version_order.proofs.Reading.{right, plain_not_blank}
use Rattle.version_order.proofs.Slices.{range-cons, take_range}

-- the states after blanks, before a bound and after one
abbrev pub after_blanks : Side → List ℕ → State
after_blanks side [] = opened side
after_blanks side (b ∷ blanks) = before side

abbrev pub after_bound : Side → List ℕ → List ℕ → State
after_bound side bound [] = inside side bound
after_bound side bound (b ∷ blanks) = after side bound

module _ (side : Side) where
  blanks_before : (blanks : List ℕ) → list_all is_blank blanks ≡ true
      → runs constraint_reader blanks (before side) ≡ Some (before side)
  blanks_before [] e = refl
  blanks_before (b ∷ blanks) e =
      let both = and_parts (is_blank b) (list_all is_blank blanks) e in rw both.0 (blanks_before blanks both.1)

  blanks_run : (blanks : List ℕ) → list_all is_blank blanks ≡ true
      → runs constraint_reader blanks (opened side) ≡ Some (after_blanks side blanks)
  blanks_run [] e = refl
  blanks_run (b ∷ blanks) e =
      let both = and_parts (is_blank b) (list_all is_blank blanks) e in rw both.0 (blanks_before blanks both.1)

  inside_run : (more bound : List ℕ) → list_all is_plain_byte more ≡ true
      → runs constraint_reader more (inside side bound) ≡ Some (inside side (bound ++ more))
  inside_run [] bound e = rw append-nil refl
  inside_run (b ∷ more) bound e =
      let both = and_parts (is_plain_byte b) (list_all is_plain_byte more) e in
      let whole : (bound ++ b ∷ []) ++ more ≡ bound ++ b ∷ more = append_assoc bound (b ∷ []) more in
      rw (plain_not_blank b both.0, both.0) (rw whole at (inside_run more (bound ++ b ∷ []) both.1))

  bound_run : (blanks : List ℕ) (b : ℕ) (more : List ℕ) → list_all is_plain_byte (b ∷ more) ≡ true
      → runs constraint_reader (b ∷ more) (after_blanks side blanks) ≡ Some (inside side (b ∷ more))
  bound_run [] b more e =
      let both = and_parts (is_plain_byte b) (list_all is_plain_byte more) e in
      rw (plain_not_blank b both.0, both.0) (inside_run more (b ∷ []) both.1)
  bound_run (c ∷ blanks) b more e =
      let both = and_parts (is_plain_byte b) (list_all is_plain_byte more) e in
      rw (plain_not_blank b both.0, both.0) (inside_run more (b ∷ []) both.1)

  blanks_after : (bound blanks : List ℕ) → list_all is_blank blanks ≡ true
      → runs constraint_reader blanks (after side bound) ≡ Some (after side bound)
  blanks_after bound [] e = refl
  blanks_after bound (b ∷ blanks) e =
      let both = and_parts (is_blank b) (list_all is_blank blanks) e in rw both.0 (blanks_after bound blanks both.1)

  after_run : (bound blanks : List ℕ) → list_all is_blank blanks ≡ true
      → runs constraint_reader blanks (inside side bound) ≡ Some (after_bound side bound blanks)
  after_run bound [] e = refl
  after_run bound (b ∷ blanks) e =
      let both = and_parts (is_blank b) (list_all is_blank blanks) e in rw both.0 (blanks_after bound blanks both.1)

  open_before : (blanks : List ℕ) → outcome (after_blanks side blanks) ≡ None
  open_before [] = refl
  open_before (b ∷ blanks) = refl

  open_after : (bound blanks : List ℕ) → outcome (after_bound side bound blanks) ≡ None
  open_after bound [] = refl
  open_after bound (b ∷ blanks) = refl

  steps_after : (bound blanks : List ℕ) (c : ℕ) → is_blank c ≡ false → (blanks ≡ [] → is_plain_byte c ≡ false)
      → step (after_bound side bound blanks) c ≡ ends side (Some bound) c
  steps_after bound [] c e f = rw (e, f refl) refl
  steps_after bound (b ∷ blanks) c e f = rw e refl

  steps_none : (c : ℕ) → is_blank c ≡ false → is_plain_byte c ≡ false → step (opened side) c ≡ ends side None c
  steps_none c e f = rw (e, f) refl

  stuck_before : (c : ℕ) → is_blank c ≡ false → is_plain_byte c ≡ false → step (before side) c ≡ None
  stuck_before c e f = rw (e, f) refl

  module _ (text : List ℕ) (from start end stop : ℕ) (here : At constraint_reader (opened side) (take from text)) (low : from ≤ start) (blank : list_all is_blank (slice_range text from start) ≡ true) where
    at_start : start ≤ length text
        → At constraint_reader (after_blanks side (slice_range text from start)) (take start text)
    at_start within =
        subst (At constraint_reader (after_blanks side (slice_range text from start)))
        (sym (take_range text from start low within))
        (at_run right (slice_range text from start) (take from text) (opened side) (after_blanks side (slice_range text from start)) here (blanks_run (slice_range text from start) blank))

    module _ (rises : start < end) (high : end ≤ stop) (within : stop ≤ length text) (plain : list_all is_plain_byte (slice_range text start end) ≡ true) (blank_after : list_all is_blank (slice_range text end stop) ≡ true) where
      at_end : At constraint_reader (inside side (slice_range text start end)) (take end text)
      at_end =
          let cut = range-cons text start end rises (omega (arith, high, within)) in
          let more = slice_range text (start + 1) end in
          let run = bound_run (slice_range text from start) (get_or text start 0) more (subst (λ b. list_all is_plain_byte b ≡ true) cut plain) in
          let there = at_run right (get_or text start 0 ∷ more) (take start text) (after_blanks side (slice_range text from start)) (inside side (get_or text start 0 ∷ more)) (at_start (omega (arith, rises, high, within))) run in
          subst (At constraint_reader (inside side (slice_range text start end)))
          (sym (take_range text start end (omega (arith, rises)) (omega (arith, high, within))))
          (subst (λ b. At constraint_reader (inside side b) (take start text ++ b)) (sym cut) there)

      at_stop : At constraint_reader (after_bound side (slice_range text start end) (slice_range text end stop)) (take stop text)
      at_stop =
          let bound = slice_range text start end in
          let blanks = slice_range text end stop in
          subst (At constraint_reader (after_bound side bound blanks)) (sym (take_range text end stop high within))
          (at_run right blanks (take end text) (inside side bound) (after_bound side bound blanks) at_end (after_run bound blanks blank_after))

      pub ends_open : stop ≡ length text → IsPlace (Accepts IsConstraint) text stop
      ends_open last =
          ends_at right text stop
          (after_bound side (slice_range text start end) (slice_range text end stop)) last at_stop
          (open_after (slice_range text start end) (slice_range text end stop))

      pub is_read : is_blank (get_or text stop 0) ≡ false
          → (end < length text → is_plain_byte (get_or text end 0) ≡ false) → stop < length text
          → IsRead side (Some (slice_range text start end)) text stop
      is_read no_blank other inside_text =
          let bound = slice_range text start end in
          let blanks = slice_range text end stop in
          let same : blanks ≡ [] → is_plain_byte (get_or text stop 0) ≡ false =
          λ none. by none (cases_lt end stop) in
          record { state = after_bound side bound blanks; at = at_stop; steps = steps_after bound blanks (get_or text stop 0) no_blank same }
        where
          by : slice_range text end stop ≡ [] → (end < stop) ⊎ (stop ≤ end) → is_plain_byte (get_or text stop 0) ≡ false
          by none (inl below) = let cut = range-cons text end stop below within in let never : ⊥ = cc in absurd never
          by none (inr level) =
              let e : stop ≡ end = omega (arith, high, level) in rw e (other (omega (arith, level, inside_text)))

    -- no bound: blanks alone go no further
    pub ends_bare : start ≡ length text → IsPlace (Accepts IsConstraint) text start
    ends_bare last =
        ends_at right text start (after_blanks side (slice_range text from start)) last
        (at_start (omega (arith, last))) (open_before (slice_range text from start))

    pub stops_bare : from < start → start < length text → is_blank (get_or text start 0) ≡ false
        → is_plain_byte (get_or text start 0) ≡ false → IsPlace (Accepts IsConstraint) text start
    stops_bare some inside_text no_blank other =
        let cut = range-cons text from start some (omega (arith, inside_text)) in
        let there : At constraint_reader (before side) (take start text) = subst (λ b. At constraint_reader (after_blanks side b) (take start text)) cut (at_start (omega (arith, inside_text))) in
        stops_at right text start (before side) inside_text there (stuck_before (get_or text start 0) no_blank other)

  pub no_bound_read : (text : List ℕ) (start : ℕ) → At constraint_reader (opened side) (take start text)
      → is_blank (get_or text start 0) ≡ false → is_plain_byte (get_or text start 0) ≡ false
      → IsRead side None text start
  no_bound_read text start here no_blank other =
      record { state = opened side; at = here; steps = steps_none (get_or text start 0) no_blank other }

-- a part that is not empty is a bound
pub bound_there : (text : List ℕ) (start end stop : ℕ) → start < end
    → bound_in text (record { start = start; end = end; stop = stop }) ≡ Some (slice_range text start end)
bound_there text start end stop below =
    elim (cases_Bool (start == end)) [
      | inl e ↦ absurd (let same = eqb-true start end e in omega (arith, below, same))
      | inr e ↦ rw e refl
    ]
