-- Which interval is the first that has nothing in common with itself or a later one, found from the end.
use Rattle.std.proofs.Common.{◌≡◌, ℕ, ◌+◌, ◌-◌, ◌<◌, Bool, true, false, ◌||◌, List, [], ◌∷◌, length, length-drop, drop, take, get_or, ◌≤◌, Option, Some, None, refl, sym, ◌∙◌, ap, subst, arith}
use Rattle.std.specs.Prelude.{if◌then◌else◌, is_some}
use Rattle.std.specs.List.{list_any, find}
use Rattle.std.specs.Option.{option_map}
use Rattle.std.proofs.Math.Bool.{or_assoc, or_self}
use Rattle.std.proofs.lemmas.Bool.{false≢true}
use Rattle.std.proofs.lemmas.List.{drop_more, nil_from_length}
use Rattle.std.proofs.Math.Seq.{take-length}
use Rattle.interval_sets.specs.declared.interval.Interval.{Interval}
use Rattle.interval_sets.specs.declared.interval.End.{End}
use Rattle.interval_sets.specs.declared.interval.End.TheVariants.{Free, With, Without}
use Rattle.interval_sets.specs.Intervals.{are_apart, is_empty, leaves_nothing, greater_lower, lesser_upper}
use Rattle.version_order.specs.Ranks.{items_cmp}
use Rattle.version_order.specs.Order.{items_total}
use Rattle.reconcile_rules.specs.declared.request.IntervalRequest.{IntervalRequest}
use Rattle.reconcile_rules.specs.declared.request.Clash.{Clash}
use Rattle.reconcile_rules.specs.declared.request.Clash.TheVariants.{Apart}
use Rattle.reconcile_rules.specs.Apart.{is_apart_from, first_apart, from_first_apart, or_later, least_apart, greatest_lower, least_upper, has_empty, crosses}
use Rattle.reconcile_rules.proofs.Ends.{either_lower, either_upper}

-- a partner is found exactly where one is apart
found : (i : Interval (List ℕ)) (xs : List IntervalRequest) → is_some (first_apart i xs) ≡ list_any (is_apart_from i) xs
found i [] = refl
found i (x ∷ xs) = by (is_apart_from i x) (found i xs)
  where
    by : (t : Bool) → is_some (first_apart i xs) ≡ list_any (is_apart_from i) xs
        → is_some (option_map (λ (r : IntervalRequest). r.number) (if t then Some x else find (is_apart_from i) xs)) ≡
        (t || list_any (is_apart_from i) xs)
    by true others = refl
    by false others = others

-- two are apart where one holds nothing, or they cross
apart_parts : (i j : Interval (List ℕ))
    → are_apart items_cmp i j ≡
    ((is_empty items_cmp i || leaves_nothing items_cmp i.lower j.upper) || (leaves_nothing items_cmp j.lower i.upper || is_empty items_cmp j))
apart_parts i j =
    either_lower items_total i.lower j.lower (lesser_upper items_cmp i.upper j.upper)
    ∙ ap (λ p. p || leaves_nothing items_cmp j.lower (lesser_upper items_cmp i.upper j.upper))
    (either_upper items_total i.lower i.upper j.upper)
    ∙ ap (λ p. (is_empty items_cmp i || leaves_nothing items_cmp i.lower j.upper) || p)
    (either_upper items_total j.lower i.upper j.upper)

apart_itself : (i : Interval (List ℕ)) → are_apart items_cmp i i ≡ is_empty items_cmp i
apart_itself i =
    apart_parts i i ∙ or_self (is_empty items_cmp i || is_empty items_cmp i) ∙ or_self (is_empty items_cmp i)

regrouped : (a b e h c d : Bool) → ((a || (b || e)) || (h || (c || d))) ≡ ((e || h) || ((c || a) || (d || b)))
regrouped a b e h c d = grind arith

free_above : (l : End (List ℕ)) → leaves_nothing items_cmp l Free ≡ false
free_above Free = refl
free_above (With x) = refl
free_above (Without x) = refl

partner_later : (i : Interval (List ℕ)) (xs : List IntervalRequest) → is_empty items_cmp i ≡ false
    → list_any (is_apart_from i) xs ≡ (has_empty xs || crosses i (greatest_lower xs) (least_upper xs))
partner_later i [] some = sym (ap (λ p. p || false) (free_above i.lower))
partner_later i (x ∷ xs) some =
    let a = leaves_nothing items_cmp i.lower x.interval.upper in
    let b = leaves_nothing items_cmp x.interval.lower i.upper in
    let e = is_empty items_cmp x.interval in
    let c = leaves_nothing items_cmp i.lower (least_upper xs) in
    let d = leaves_nothing items_cmp (greatest_lower xs) i.upper in
    ap (λ p. p || list_any (is_apart_from i) xs) (apart_parts i x.interval)
    ∙ ap (λ p. ((p || a) || (b || e)) || list_any (is_apart_from i) xs) some
    ∙ ap (λ p. (a || (b || e)) || p) (partner_later i xs some)
    ∙ regrouped a b e (has_empty xs) c d
    ∙ ap (λ p. (e || has_empty xs) || (p || (d || b)))
    (sym (either_upper items_total i.lower (least_upper xs) x.interval.upper))
    ∙ ap (λ p. (e || has_empty xs) || (leaves_nothing items_cmp i.lower (least_upper (x ∷ xs)) || p))
    (sym (either_lower items_total (greatest_lower xs) x.interval.lower i.upper))

pub has_partner : (r : IntervalRequest) (later : List IntervalRequest)
    → is_some (first_apart r.interval (r ∷ later)) ≡
    ((is_empty items_cmp r.interval || has_empty later) || crosses r.interval (greatest_lower later) (least_upper later))
has_partner r later =
    found r.interval (r ∷ later)
    ∙ ap (λ p. p || list_any (is_apart_from r.interval) later) (apart_itself r.interval)
    ∙ by (is_empty items_cmp r.interval) refl
  where
    by : (t : Bool) → is_empty items_cmp r.interval ≡ t
        → (t || list_any (is_apart_from r.interval) later) ≡
        ((t || has_empty later) || crosses r.interval (greatest_lower later) (least_upper later))
    by true e = refl
    by false e = partner_later r.interval later e

-- the least pair is that of the first that has a partner
pub least_from : (xs : List IntervalRequest) → least_apart xs ≡ least_apart (from_first_apart xs)
least_from [] = refl
least_from (r ∷ later) = by (first_apart r.interval (r ∷ later)) refl (least_from later)
  where
    by : (o : Option ℕ) → first_apart r.interval (r ∷ later) ≡ o
        → least_apart later ≡ least_apart (from_first_apart later)
        → least_apart (r ∷ later) ≡ least_apart (from_first_apart (r ∷ later))
    by (Some n) e others =
        let there : is_some (first_apart r.interval (r ∷ later)) ≡ true = ap is_some e in
        let same : from_first_apart (r ∷ later) ≡ r ∷ later = rw there refl in
        sym (ap least_apart same)
    by None e others =
        let missing : is_some (first_apart r.interval (r ∷ later)) ≡ false = ap is_some e in
        let rest : from_first_apart (r ∷ later) ≡ from_first_apart later = rw missing refl in
        ap (λ (second : Option ℕ). or_later r.number second (least_apart later)) e ∙ others ∙ ap least_apart (sym rest)

abbrev pub HeadHasPartner : List IntervalRequest → Type 0
HeadHasPartner [] = Unit {0}
HeadHasPartner (r ∷ later) = is_some (first_apart r.interval (r ∷ later)) ≡ true

pub head_has_partner : (xs : List IntervalRequest) → HeadHasPartner (from_first_apart xs)
head_has_partner [] = tt
head_has_partner (r ∷ later) = by (is_some (first_apart r.interval (r ∷ later))) refl (head_has_partner later)
  where
    by : (t : Bool) → is_some (first_apart r.interval (r ∷ later)) ≡ t → HeadHasPartner (from_first_apart later)
        → HeadHasPartner (if t then r ∷ later else from_first_apart later)
    by true e others = e
    by false e others = others

-- one step of the pass from the end
module _ (asked : List IntervalRequest) (passed : ℕ) (lt : passed < length asked) (d : IntervalRequest) where
  abbrev place : ℕ
  place = length asked - 1 - passed

  abbrev x : IntervalRequest
  x = get_or asked place d

  abbrev later : List IntervalRequest
  later = drop (length asked - passed) asked

  pub at_place : drop place asked ≡ x ∷ later
  at_place =
      let next : place + 1 ≡ length asked - passed = omega (arith, lt) in
      drop_more asked place d (omega (arith, lt)) ∙ ap (λ k. x ∷ drop k asked) next

  pub grown : drop (length asked - (passed + 1)) asked ≡ x ∷ later
  grown =
      let same : length asked - (passed + 1) ≡ place = omega arith in
      ap (λ k. drop k asked) same ∙ at_place

  pub told_by : (has empty : Bool) (lower upper : End (List ℕ))
      → empty ≡ (is_empty items_cmp x.interval || has_empty later)
      → lower ≡ greatest_lower later → upper ≡ least_upper later → has ≡ (empty || crosses x.interval lower upper)
      → is_some (first_apart x.interval (x ∷ later)) ≡ has
  told_by has empty lower upper is_it is_lower is_upper told =
      has_partner x later
      ∙ sym (told
      ∙ ap (λ t. t || crosses x.interval lower upper) is_it
      ∙ ap (λ l. (is_empty items_cmp x.interval || has_empty later) || crosses x.interval l upper) is_lower
      ∙ ap
      (λ u. (is_empty items_cmp x.interval || has_empty later) || crosses x.interval (greatest_lower later) u) is_upper)

  pub found_here : is_some (first_apart x.interval (x ∷ later)) ≡ true
      → drop place asked ≡ from_first_apart (drop (length asked - (passed + 1)) asked)
  found_here so =
      let here : from_first_apart (x ∷ later) ≡ x ∷ later = rw so refl in
      at_place ∙ sym (ap from_first_apart grown ∙ here)

  pub found_later : (first : ℕ) → drop first asked ≡ from_first_apart later
      → is_some (first_apart x.interval (x ∷ later)) ≡ false
      → drop first asked ≡ from_first_apart (drop (length asked - (passed + 1)) asked)
  found_later first rest isnt =
      let on : from_first_apart (x ∷ later) ≡ from_first_apart later = rw isnt refl in
      rest ∙ sym (ap from_first_apart grown ∙ on)

-- ---- the pair, once the intervals from its first on are known

pub whole_rest : (asked : List IntervalRequest) (k : ℕ) → take (length asked - k) (drop k asked) ≡ drop k asked
whole_rest asked k = ap (λ n. take n (drop k asked)) (sym (length-drop k asked)) ∙ take-length (drop k asked)

pub begins_with : (rest : List IntervalRequest) (r : IntervalRequest) → 1 ≤ length rest → r ≡ get_or rest 0 r
    → rest ≡ r ∷ drop 1 rest
begins_with rest r le is = drop_more rest 0 r le ∙ ap (λ y. y ∷ drop 1 rest) (sym is)

module _ (asked rest : List IntervalRequest) (is : rest ≡ from_first_apart asked) where
  pub no_pair : length rest ≡ 0 → None ≡ least_apart asked
  no_pair e = sym (least_from asked ∙ ap least_apart (sym is ∙ nil_from_length rest e))

  module _ (r : IntervalRequest) (later : List IntervalRequest) (begins : rest ≡ r ∷ later) where
    whole : least_apart asked ≡ least_apart (r ∷ later)
    whole = least_from asked ∙ ap least_apart (sym is ∙ begins)

    has : is_some (first_apart r.interval (r ∷ later)) ≡ true
    has = subst HeadHasPartner (sym is ∙ begins) (head_has_partner asked)

    pub pair : (second : ℕ) → Some second ≡ first_apart r.interval rest
        → Some (Apart r.number second) ≡ least_apart asked
    pair second e =
        let at : first_apart r.interval (r ∷ later) ≡ Some second = ap (first_apart r.interval) (sym begins) ∙ sym e in
        sym (whole ∙ ap (λ (o : Option ℕ). or_later r.number o (least_apart later)) at)

    pub no_partner : None ≡ first_apart r.interval rest → ⊥
    no_partner e = false≢true (ap is_some (e ∙ ap (first_apart r.interval) begins) ∙ has)
