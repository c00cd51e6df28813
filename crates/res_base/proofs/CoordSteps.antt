-- The steps of the reader of coordinates, at a place of a text.
use Rattle.std.proofs.Common.{◌≡◌, ℕ, ◌+◌, ◌-◌, ◌<◌, ◌≤◌, Bool, true, false, ◌&&◌, List, [], ◌∷◌, ◌++◌, length, take, drop, get_or, Option, Some, None, refl, ◌∙◌, ap, subst, arith}
use Rattle.std.specs.Prelude.{◌==◌, slice_range}
use Rattle.std.proofs.lemmas.List.{take_more, get_or-drop, length-drop}
use Rattle.fault_place.specs.Place.{IsPlace}
use Rattle.fault_place.specs.Reader.{At, Accepts}
use Rattle.fault_place.proofs.Readers.{step_at, stops_at, ends_at, at_start, spelled}
use Rattle.ascii_bytes.specs.Classes.{is_word_byte, is_plain_byte}
use Rattle.res_base.specs.Plain.{is_dot, is_plain_name}
use Rattle.res_base.specs.CoordText.{is_constraint_byte, IsCoordText}
use Rattle.res_base.specs.CoordReader.{State, in_org, in_name, in_constraint, step, outcome, coord_in, coord_reader}
use Rattle.res_base.specs.declared.coord.Coord.{Coord}
use Rattle.res_base.proofs.CoordReaderRight.{right}

pub next : (text : List ℕ) (i : ℕ) (s t : State) → i < length text → At coord_reader s (take i text)
    → step s (get_or text i 0) ≡ Some t → At coord_reader t (take (i + 1) text)
next = step_at right

pub stops : (text : List ℕ) (i : ℕ) (s : State) → i < length text → At coord_reader s (take i text)
    → step s (get_or text i 0) ≡ None → IsPlace (Accepts IsCoordText) text i
stops = stops_at right

pub ends : (text : List ℕ) (i : ℕ) (s : State) → i ≡ length text → At coord_reader s (take i text) → outcome s ≡ None
    → IsPlace (Accepts IsCoordText) text (length text)
ends text i s all here e = let P : ℕ → Type 0 = λ n. IsPlace (Accepts IsCoordText) text n in subst P all
    (ends_at right text i s all here e)

pub org_word : (org : List ℕ) (in_part : Bool) (b : ℕ) → is_word_byte b ≡ true
    → step (in_org org in_part) b ≡ Some (in_org (org ++ b ∷ []) true)
org_word org in_part b e = rw e refl

pub org_dot : (org : List ℕ) (in_part : Bool) (b : ℕ) → is_word_byte b ≡ false → b ≡ 46 → in_part ≡ true
    → step (in_org org in_part) b ≡ Some (in_org (org ++ b ∷ []) false)
org_dot org in_part b word dot part =
    let is : (is_dot b && in_part) ≡ true = rw (dot, part) refl in
    rw (word, is) refl

pub org_colon : (org : List ℕ) (in_part : Bool) (b : ℕ) → b ≡ 58 → in_part ≡ true
    → step (in_org org in_part) b ≡ Some (in_name org [])
org_colon org in_part b e f = rw (e, f) refl

pub org_stuck : (org : List ℕ) (in_part : Bool) (b : ℕ) → is_word_byte b ≡ false → (is_dot b && in_part) ≡ false
    → (b == 58 && in_part) ≡ false → step (in_org org in_part) b ≡ None
org_stuck org in_part b e f g = rw (e, f, g) refl

-- a range with the next byte
range_more : (text : List ℕ) (from i : ℕ) → from ≤ i → i < length text
    → slice_range text from (i + 1) ≡ slice_range text from i ++ get_or text i 0 ∷ []
range_more text from i h k =
    let within : i - from < length (drop from text) = simp length-drop (omega arith) in
    let e : i + 1 - from ≡ i - from + 1 = omega arith in
    let f : from + (i - from) ≡ i = omega arith in
    let more = take_more (drop from text) (i - from) 0 within in
    let at : get_or (drop from text) (i - from) 0 ≡ get_or text i 0 = get_or-drop from text (i - from) 0
    ∙ ap (λ n. get_or text n 0) f in
    ap (λ n. take n (drop from text)) e ∙ more ∙ ap (λ b. take (i - from) (drop from text) ++ b ∷ []) at

pub in_name_more : (text org : List ℕ) (from i : ℕ) → from ≤ i → i < length text
    → At coord_reader (in_name org (slice_range text from i)) (take i text) → is_plain_byte (get_or text i 0) ≡ true
    → At coord_reader (in_name org (slice_range text from (i + 1))) (take (i + 1) text)
in_name_more text org from i h k here e =
    next text i (in_name org (slice_range text from i)) (in_name org (slice_range text from (i + 1))) k here
    (rw (range_more text from i h k, e) refl)

pub name_colon : (org name : List ℕ) (b : ℕ) → b ≡ 58 → is_plain_name name ≡ true
    → step (in_name org name) b ≡ Some (in_constraint org name [])
name_colon org name b e f = rw (e, f) refl

pub name_stuck : (org name : List ℕ) (b : ℕ) → is_plain_byte b ≡ false → (b == 58 && is_plain_name name) ≡ false
    → step (in_name org name) b ≡ None
name_stuck org name b e f = rw (e, f) refl

pub in_constraint_more : (text org name : List ℕ) (from i : ℕ) → from ≤ i → i < length text
    → At coord_reader (in_constraint org name (slice_range text from i)) (take i text)
    → is_constraint_byte (get_or text i 0) ≡ true
    → At coord_reader (in_constraint org name (slice_range text from (i + 1))) (take (i + 1) text)
in_constraint_more text org name from i h k here e =
    next text i (in_constraint org name (slice_range text from i))
    (in_constraint org name (slice_range text from (i + 1))) k here (rw (range_more text from i h k, e) refl)

pub constraint_stuck : (org name text : List ℕ) (b : ℕ) → is_constraint_byte b ≡ false
    → step (in_constraint org name text) b ≡ None
constraint_stuck org name text b e = rw e refl

-- what a text spells is what is in it, and nothing is in a text that spells none
pub in_spelled : (text : List ℕ) (coord : Coord) → IsCoordText text coord → coord_in text ≡ Some coord
in_spelled = right.takes

pub none_outside : (text : List ℕ) → (Accepts IsCoordText text → ⊥) → coord_in text ≡ None
none_outside text outside = by (coord_in text) refl
  where
    by : (o : Option Coord) → coord_in text ≡ o → o ≡ None
    by None e = refl
    by (Some coord) e = absurd (outside (coord, spelled right text [] coord_reader.start coord (at_start right) e))

pub none_at_place : (bytes text : List ℕ) (place : ℕ) → bytes ≡ text → IsPlace (Accepts IsCoordText) bytes place
    → coord_in text ≡ None
none_at_place bytes text place same at = subst (λ x. coord_in x ≡ None) same (none_outside bytes at.outside)
