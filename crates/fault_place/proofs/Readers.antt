-- Where a right reader stops is the place of the text; where it ends, the text is spelled.
use Rattle.std.proofs.Common.{◌≡◌, ℕ, ◌+◌, ◌<◌, List, [], ◌∷◌, ◌++◌, length, take, drop, get_or, refl, sym, ◌∙◌, ap, subst, arith, Option, Some, None}
use Rattle.std.proofs.lemmas.List.{take-append-drop, append_assoc, append-nil, take_more, drop_more, take_all}
use Rattle.std.specs.Prelude.{IfSome}
use Rattle.fault_place.specs.Place.{GoesOn, IsPlace}
use Rattle.fault_place.specs.Reader.{Reader, goes_with, runs, reads, At, Accepts, IsRight}

-- the state in the middle of two steps that are not refused
pub goes_between : {State Value : Type 0} (before : Option State) (f : State → Option Value) (value : Value)
    → goes_with before f ≡ Some value → (state : State) × (before ≡ Some state) × (f state ≡ Some value)
goes_between None f value e = cc
goes_between (Some state) f value e = (state, refl, e)

if_some_at : {State : Type 0} (o : Option State) (state : State) (P : State → Type 0) → o ≡ Some state → IfSome o P
    → P state
if_some_at {State} o state P e h = let Q : Option State → Type 0 = λ x. IfSome x P in subst Q e h

-- a text in two parts is run, and read, part by part
pub runs-append : {State Value : Type 0} (m : Reader State Value) (prefix rest : List ℕ) (from state : State)
    → runs m prefix from ≡ Some state → runs m (prefix ++ rest) from ≡ runs m rest state
runs-append m [] rest from state e = let same : from ≡ state = cc in ap (runs m rest) same
runs-append m (byte ∷ prefix) rest from state e =
    let next = goes_between (m.step from byte) (runs m prefix) state e in
    ap (λ o. goes_with o (runs m (prefix ++ rest))) next.1 ∙ runs-append m prefix rest next.0 state next.2

pub reads-append : {State Value : Type 0} (m : Reader State Value) (prefix rest : List ℕ) (from state : State)
    → runs m prefix from ≡ Some state → reads m (prefix ++ rest) from ≡ reads m rest state
reads-append m [] rest from state e = let same : from ≡ state = cc in ap (reads m rest) same
reads-append m (byte ∷ prefix) rest from state e =
    let next = goes_between (m.step from byte) (runs m prefix) state e in
    ap (λ o. goes_with o (reads m (prefix ++ rest))) next.1 ∙ reads-append m prefix rest next.0 state next.2

-- what follows the prefix is read from the state that it leads to
pub follows : {State Value : Type 0} {m : Reader State Value} {state : State} {prefix : List ℕ} → At m state prefix
    → (rest : List ℕ) → reads m (prefix ++ rest) m.start ≡ reads m rest state
follows {m} {state} {prefix} here rest = reads-append m prefix rest m.start state here.reached

module _ {State Value : Type 0} {m : Reader State Value} {spells : List ℕ → Value → Type 0}
    (right : IsRight m spells) where
  pub at_start : At m m.start []
  at_start = record { fits = right.begins; reached = refl }

  pub at_step : (state next : State) (prefix : List ℕ) (byte : ℕ) → At m state prefix → m.step state byte ≡ Some next
      → At m next (prefix ++ byte ∷ [])
  at_step state next prefix byte here e =
      record {
        fits = if_some_at (m.step state byte) next (λ s. m.Fits s (prefix ++ byte ∷ [])) e
            (right.keeps state prefix byte here.fits);
        reached = runs-append m prefix (byte ∷ []) m.start state here.reached ∙ ap (λ o. goes_with o (runs m [])) e;
      }

  -- one byte of a text
  pub step_at : (text : List ℕ) (i : ℕ) (state next : State) → i < length text → At m state (take i text)
      → m.step state (get_or text i 0) ≡ Some next → At m next (take (i + 1) text)
  step_at text i state next within here e = subst (At m next) (sym (take_more text i 0 within))
      (at_step state next (take i text) (get_or text i 0) here e)

  -- a run of bytes at once
  pub at_run : (chunk prefix : List ℕ) (state last : State) → At m state prefix → runs m chunk state ≡ Some last
      → At m last (prefix ++ chunk)
  at_run [] prefix state last here e =
      let same : state ≡ last = cc in
      subst (At m last) (sym (append-nil prefix)) (subst (λ s. At m s prefix) same here)
  at_run (byte ∷ chunk) prefix state last here e =
      let next = goes_between (m.step state byte) (runs m chunk) last e in
      subst (At m last) (append_assoc prefix (byte ∷ []) chunk)
      (at_run chunk (prefix ++ byte ∷ []) next.0 last (at_step state next.0 prefix byte here next.1) next.2)

  pub at_runs : (prefix : List ℕ) (state : State) → runs m prefix m.start ≡ Some state → At m state prefix
  at_runs prefix state e = at_run prefix [] m.start state at_start e

  -- what is read of the rest is spelled by the whole
  pub spelled : (rest prefix : List ℕ) (state : State) (value : Value) → At m state prefix
      → reads m rest state ≡ Some value → spells (prefix ++ rest) value
  spelled [] prefix state value here e = subst (λ text. spells text value) (sym (append-nil prefix))
      (right.gives state prefix value here.fits e)
  spelled (byte ∷ rest) prefix state value here e =
      let next = goes_between (m.step state byte) (reads m rest) value e in
      subst (λ text. spells text value) (append_assoc prefix (byte ∷ []) rest)
      (spelled rest (prefix ++ byte ∷ []) next.0 value (at_step state next.0 prefix byte here next.1) next.2)

  -- each prefix that the reader goes over goes on
  pub goes_on : (state : State) (prefix : List ℕ) → At m state prefix → GoesOn (Accepts spells) prefix
  goes_on state prefix here =
      let alive = right.lives state prefix here.fits in
      (alive.0, (alive.1, spelled alive.0 prefix state alive.1 here alive.2))

  -- a text is not accepted if the reader stops in it
  pub stops_inside : (state : State) (prefix rest : List ℕ) (byte : ℕ) → At m state prefix → m.step state byte ≡ None
      → Accepts spells (prefix ++ byte ∷ rest) → ⊥
  stops_inside state prefix rest byte here e (value, is) =
      let taken = right.takes (prefix ++ byte ∷ rest) value is in
      let none : reads m (prefix ++ byte ∷ rest) m.start ≡ None = follows here (byte ∷ rest)
      ∙ ap (λ o. goes_with o (reads m rest)) e in
      cc

  -- nor if it may not end where it ends
  pub ends_inside : (state : State) (text : List ℕ) → At m state text → m.outcome state ≡ None → Accepts spells text → ⊥
  ends_inside state text here e (value, is) =
      let taken = right.takes text value is in
      let none : reads m text m.start ≡ None = ap (λ xs. reads m xs m.start) (sym (append-nil text)) ∙ follows here []
      ∙ e in
      cc

  -- the reader stops at a byte: that is the place
  pub stops_at : (text : List ℕ) (i : ℕ) (state : State) → i < length text → At m state (take i text)
      → m.step state (get_or text i 0) ≡ None → IsPlace (Accepts spells) text i
  stops_at text i state h here e =
      let prefix = take i text in
      let byte = get_or text i 0 in
      let cut : prefix ++ byte ∷ drop (i + 1) text ≡ text = ap (λ xs. prefix ++ xs) (sym (drop_more text i 0 h))
      ∙ take-append-drop i text in
      record {
        within = omega arith;
        outside = λ is. stops_inside state prefix (drop (i + 1) text) byte here e (subst (Accepts spells) (sym cut) is);
        goes_on = goes_on state prefix here;
        no_more = λ _ (rest, is). stops_inside state prefix rest byte here e
            (subst (Accepts spells) (ap (λ xs. xs ++ rest) (take_more text i 0 h)
            ∙ append_assoc prefix (byte ∷ []) rest) is);
      }

  -- the text may not end where it ends: the place is its length
  pub ends_at : (text : List ℕ) (i : ℕ) (state : State) → i ≡ length text → At m state (take i text)
      → m.outcome state ≡ None → IsPlace (Accepts spells) text i
  ends_at text i state h here e =
      let whole : take i text ≡ text = take_all i text (omega arith) in
      record {
        within = omega arith;
        outside = ends_inside state text (subst (At m state) whole here) e;
        goes_on = goes_on state (take i text) here;
        no_more = λ more _. absurd (omega arith);
      }

  -- the text may end where it ends: it is spelled
  pub ends_with : (text : List ℕ) (i : ℕ) (state : State) (value : Value) → i ≡ length text → At m state (take i text)
      → m.outcome state ≡ Some value → spells text value
  ends_with text i state value h here e = subst (λ xs. spells xs value) (take_all i text (omega arith))
      (right.gives state (take i text) value here.fits e)
