-- Managed lists that are kept.
use Rattle.std.proofs.Common.{◌≡◌, ℕ, zero, suc, ◌+◌, ◌≤◌, ⊎_elim, Bool, true, false, not, cond, ◌||◌, None, Some, Option, List, [], ◌∷◌, ◌++◌, append_assoc, drop, filter, refl, sym, take, ◌∙◌, ap, subst, arith, true≢false, is_some}
use Rattle.std.proofs.lemmas.List.{take-append-drop}
use Rattle.std.specs.Option.{IfSome, option_map}
use Rattle.std.specs.Prelude.{Contains, max, min}
use Rattle.std.proofs.lemmas.List.Elements.{Contains-push_cases}
use Rattle.std.proofs.lemmas.Bool.{cases_lt}
use Rattle.std.proofs.lemmas.Option.{none-some}
use Rattle.res_base.specs.Known.{Known}
use Rattle.res_base.specs.Names.{coord_eq}
use Rattle.res_base.specs.declared.coord.Coord.{Coord}
use Rattle.res_base.specs.declared.key.FileKey.{FileKey}
use Rattle.res_base.specs.declared.pom.DepRecord.{DepRecord}
use Rattle.row_lists.specs.RowLists.{with_imported}
use Rattle.pom_build.specs.Imports.{import_all, import_coord, imported, is_import, managed_from, managed_rows, managed_with, merged, past_chain}
use Rattle.pom_build.specs.Lines.{is_among, line_of}
use Rattle.pom_build.specs.Outcomes.{and_then, waits}
use Rattle.pom_build.specs.Reached.{reached, reached_by_line}
use Rattle.pom_build.specs.Tries.{IfMade, IsGathered, IsMade, IsPut, IsReady, IsRight, IsSum, IsTried, IsUpTo, Keeps, kept_at}
use Rattle.pom_build.specs.Visits.{imports_of}
use Rattle.pom_build.specs.declared.imports.Sum.{Sum}
use Rattle.pom_build.specs.declared.imports.Tried.{Tried}
use Rattle.pom_build.specs.declared.imports.Tried.TheVariants as tries
use Rattle.pom_build.specs.declared.line.Line.{Line}
use Rattle.pom_build.specs.declared.memo.Kept.{Kept}
use Rattle.pom_build.specs.declared.memo.Memo.{Memo}
use Rattle.pom_build.specs.declared.outcome.Outcome.{Outcome}
use Rattle.pom_build.specs.declared.outcome.Outcome.TheVariants.{Built, Needs, NotFound, Refused}
use Rattle.pom_build.specs.declared.build.BuildFault.{BuildFault}
use Rattle.pom_build.proofs.Chains.{alike, apart, apart_last, from_rows, imports_alike, into_rows, is_built, kept_gives, longer}
use Rattle.pom_build.proofs.Climbing.{managed_from-more}
use Rattle.pom_build.proofs.Coords.{alike_among, among_front, among_or, equal_coords, same_coord}
use Rattle.pom_build.proofs.Members.{none, first, later, first_or_later, only}

-- What is said of imports in turn.

pub waits_merged : (u v : Outcome (List DepRecord)) → waits (merged u v) ≡ (waits u || waits v)
waits_merged (Built rows) (Built more) = refl
waits_merged (Built rows) (Needs keys) = refl
waits_merged (Built rows) (NotFound why) = refl
waits_merged (Built rows) (Refused fault) = refl
waits_merged (Needs keys) (Built more) = refl
waits_merged (Needs keys) (Needs more) = refl
waits_merged (Needs keys) (NotFound why) = refl
waits_merged (Needs keys) (Refused fault) = refl
waits_merged (NotFound why) (Built more) = refl
waits_merged (NotFound why) (Needs keys) = refl
waits_merged (NotFound why) (NotFound other) = refl
waits_merged (NotFound why) (Refused fault) = refl
waits_merged (Refused fault) (Built more) = refl
waits_merged (Refused fault) (Needs keys) = refl
waits_merged (Refused fault) (NotFound why) = refl
waits_merged (Refused fault) (Refused other) = refl

-- what waits for keys waits with all that comes later
pub still_waits : (k : Coord → Outcome (List DepRecord)) (rows : List DepRecord) (u : Outcome (List DepRecord)) → waits u ≡ true → waits (import_all k u rows) ≡ true
still_waits k [] u e = e
still_waits k (row ∷ rows) u e = still_waits k rows (merged u (k (import_coord row))) (waits_merged u (k (import_coord row)) ∙ ap (λ b. b || waits (k (import_coord row))) e)

or_right : (a b : Bool) → b ≡ true → (a || b) ≡ true
or_right true b e = refl
or_right false b e = e

not_waiting : (b : Bool) → (b ≡ true → ⊥) → b ≡ false
not_waiting true never = absurd (never refl)
not_waiting false never = refl

-- the first fault stands behind rows, where nothing waits for keys
first_fault : (fault : BuildFault) (v : Outcome (List DepRecord)) → waits v ≡ false → merged (Refused fault) v ≡ Refused fault
first_fault fault (Built rows) e = refl
first_fault fault (Needs keys) e = absurd (true≢false e)
first_fault fault (NotFound why) e = refl
first_fault fault (Refused other) e = refl

pub fault_stays : (k : Coord → Outcome (List DepRecord)) (fault : BuildFault) (rows : List DepRecord) → waits (import_all k (Refused fault) rows) ≡ false → import_all k (Refused fault) rows ≡ Refused fault
fault_stays k fault [] e = refl
fault_stays k fault (row ∷ rows) e =
    let here : waits (k (import_coord row)) ≡ false = not_waiting (waits (k (import_coord row)))
    (λ w. true≢false (sym (still_waits k rows (merged (Refused fault) (k (import_coord row))) (waits_merged (Refused fault) (k (import_coord row)) ∙ w)) ∙ e)) in
    let same = first_fault fault (k (import_coord row)) here in
    ap (λ u. import_all k u rows) same ∙ fault_stays k fault rows (ap (λ u. waits (import_all k u rows)) (sym same) ∙ e)

pub import_front : (k : Coord → Outcome (List DepRecord)) (front back : List DepRecord) (u : Outcome (List DepRecord)) → import_all k u (front ++ back) ≡ import_all k (import_all k u front) back
import_front k [] back u = refl
import_front k (row ∷ front) back u = import_front k front back (merged u (k (import_coord row)))

-- where the next import waits for keys, so do all
pub waits_here : (k : Coord → Outcome (List DepRecord)) (front back : List DepRecord) (row : DepRecord) (table rows : List DepRecord)
    → import_all k (Built table) front ≡ Built rows → waits (k (import_coord row)) ≡ true → waits (import_all k (Built table) (front ++ row ∷ back)) ≡ true
waits_here k front back row table rows e w =
    ap waits (import_front k front (row ∷ back) (Built table))
    ∙ still_waits k back (merged (import_all k (Built table) front) (k (import_coord row)))
    (waits_merged (import_all k (Built table) front) (k (import_coord row)) ∙ or_right _ _ w)

-- where the next import has a fault, and no key is needed, that is the answer
pub fault_here : (k : Coord → Outcome (List DepRecord)) (front back : List DepRecord) (row : DepRecord) (table rows : List DepRecord) (fault : BuildFault)
    → import_all k (Built table) front ≡ Built rows → (waits (k (import_coord row)) ≡ false → k (import_coord row) ≡ Refused fault)
    → waits (import_all k (Built table) (front ++ row ∷ back)) ≡ false → import_all k (Built table) (front ++ row ∷ back) ≡ Refused fault
fault_here k front back row table rows fault e stops said =
    let here : waits (k (import_coord row)) ≡ false = not_waiting (waits (k (import_coord row))) (λ w. true≢false (sym (waits_here k front back row table rows e w) ∙ said)) in
    let whole : import_all k (Built table) (front ++ row ∷ back) ≡ import_all k (Refused fault) back =
    import_front k front (row ∷ back) (Built table) ∙ ap (λ u. import_all k (merged u (k (import_coord row))) back) e
    ∙ ap (λ v. import_all k (merged (Built rows) v) back) (stops here) in
    whole ∙ fault_stays k fault back (ap waits (sym whole) ∙ said)

-- what is kept of a sum
abbrev list_of : Sum → Kept
list_of sum = record { rows = sum.table; levels = suc sum.levels }

-- rows up to one of them, and from it on
pub parted : (rows : List DepRecord) (i : ℕ) (row : DepRecord) → take (i + 1) rows ≡ take i rows ++ row ∷ [] → take i rows ++ row ∷ drop (i + 1) rows ≡ rows
parted rows i row more =
    sym (append_assoc (take i rows) (row ∷ []) (drop (i + 1) rows)) ∙ ap (λ front. front ++ drop (i + 1) rows) (sym more) ∙ take-append-drop (i + 1) rows

module _ (known : Known) (repos : ℕ) where
  -- more levels reach no less
  pub reached_more : (n m : ℕ) (c one : Coord) → n ≤ m → Contains (reached known repos n c) one → Contains (reached known repos m c) one
  reached_more zero zero c one le h = h
  reached_more zero (suc m) c one le h = subst (λ x. Contains (reached known repos (suc m) c) x) (only c one h) (first c (reached_by_line (reached known repos m) (line_of known repos c)))
  reached_more (suc n) zero c one le h = absurd (omega (arith, le))
  reached_more (suc n) (suc m) c one le h =
      ⊎_elim (λ is. subst (λ x. Contains (reached known repos (suc m) c) x) is (first c (reached_by_line (reached known repos m) (line_of known repos c))))
      (λ there. later c (reached_by_line (reached known repos m) (line_of known repos c)) one
      (by (line_of known repos c) there (λ x deep. reached_more n m x one (omega (arith, le)) deep)))
      (first_or_later c (reached_by_line (reached known repos n) (line_of known repos c)) one h)
    where
      by : (u : Outcome Line) → Contains (reached_by_line (reached known repos n) u) one
          → ((x : Coord) → Contains (reached known repos n x) one → Contains (reached known repos m x) one)
          → Contains (reached_by_line (reached known repos m) u) one
      by (Built line) there further =
          let from = from_rows (reached known repos n) one (filter is_import (managed_rows line)) there in
          into_rows (reached known repos m) one (filter is_import (managed_rows line)) from.0 from.1 (further (import_coord from.0) from.2)
      by (Needs keys) there further = there
      by (NotFound why) there further = there
      by (Refused fault) there further = there

  -- what a list that is kept reaches is kept
  pub reached_kept : (chain : List Coord) (memo : Memo) → IsReady known repos chain memo → (n : ℕ) (c one : Coord) → is_some (kept_at memo c) ≡ true
      → Contains (reached known repos n c) one → is_some (kept_at memo one) ≡ true
  reached_kept chain memo ready zero c one has h = subst (λ x. is_some (kept_at memo x) ≡ true) (only c one h) has
  reached_kept chain memo ready (suc n) c one has h =
      ⊎_elim (λ is. subst (λ x. is_some (kept_at memo x) ≡ true) is has)
      (λ there. by (kept_at memo c) refl has (line_of known repos c) refl there (λ x some deep. reached_kept chain memo ready n x one some deep))
      (first_or_later c (reached_by_line (reached known repos n) (line_of known repos c)) one h)
    where
      by : (o : Option Kept) → kept_at memo c ≡ o → is_some o ≡ true → (u : Outcome Line) → line_of known repos c ≡ u → Contains (reached_by_line (reached known repos n) u) one
          → ((x : Coord) → is_some (kept_at memo x) ≡ true → Contains (reached known repos n x) one → is_some (kept_at memo one) ≡ true)
          → is_some (kept_at memo one) ≡ true
      by None e some u f there further = absurd (true≢false (sym some))
      by (Some kept) e some (Built line) f there further =
          let from = from_rows (reached known repos n) one (filter is_import (managed_rows line)) there in
          let right = ready.right c kept e in
          let row : Contains (imports_of (line_of known repos c)) from.0 = subst (λ u. Contains (imports_of u) from.0) (sym f) from.1 in
          further (import_coord from.0) (right.imports from.0 row) from.2
      by (Some kept) e some (Needs keys) f there further = absurd (none one there)
      by (Some kept) e some (NotFound why) f there further = absurd (none one there)
      by (Some kept) e some (Refused fault) f there further = absurd (none one there)

  -- a list that is kept with no more levels than are left is the answer
  pub kept_answers : (left : ℕ) (chain : List Coord) (c : Coord) (memo : Memo) (one : Kept) → IsReady known repos chain memo → kept_at memo c ≡ Some one → one.levels ≤ left
      → managed_from known repos left chain c ≡ Built one.rows
  kept_answers left chain c memo one ready e le =
      kept_gives known repos c one.rows one.levels (reached known repos one.levels c)
      (record { built = (ready.right c one e).built; all = λ x m. m }) left chain le
      (λ x m. clear x (reached_kept chain memo ready one.levels c x (ap is_some e) m))
    where
      clear : (x : Coord) → is_some (kept_at memo x) ≡ true → is_among x chain ≡ false
      clear x has = at (is_among x chain) refl
        where
          at : (b : Bool) → is_among x chain ≡ b → b ≡ false
          at true met = absurd (true≢false (sym has ∙ ap is_some (ready.clear x met)))
          at false met = refl

  -- a list that is built with less levels is the same
  pub same_rows : (left : ℕ) (chain : List Coord) (c : Coord) (memo : Memo) (one : Kept) (rows : List DepRecord) → IsReady known repos chain memo → kept_at memo c ≡ Some one → left ≤ one.levels
      → managed_from known repos left chain c ≡ Built rows → managed_from known repos left chain c ≡ Built one.rows
  same_rows left chain c memo one rows ready e le built =
      sym (alike known repos left chain c (is_built known repos _ rows built) one.levels [] le (λ x m. refl)) ∙ (ready.right c one e).built

  -- one more import, whose list is the answer and is kept
  pub up_to : (left most : ℕ) (chain : List Coord) (c : Coord) (memo : Memo) (one : Kept) → IsReady known repos chain memo → kept_at memo c ≡ Some one
      → managed_from known repos left chain c ≡ Built one.rows → min one.levels left ≤ most → IsUpTo known repos left chain most c
  up_to left most chain c memo one ready e answer few =
      ⊎_elim
      (λ less. record {
        levels = left;
        rows = one.rows;
        few = omega (arith, few, less);
        answer = answer;
        alone = alike known repos left chain c (is_built known repos _ one.rows answer) left [] (omega arith) (λ x m. refl) ∙ answer;
      })
      (λ le. record { levels = one.levels; rows = one.rows; few = omega (arith, few, le); answer = answer; alone = (ready.right c one e).built })
      (cases_lt left one.levels)

  -- the list of a project whose imports are all built
  pub new_right : (left : ℕ) (chain : List Coord) (c : Coord) (line : Line) (sum : Sum) (memo : Memo) → line_of known repos c ≡ Built line
      → IsSum known repos left (chain ++ c ∷ []) (filter (λ row. not (is_import row)) (managed_rows line)) (filter is_import (managed_rows line)) sum memo
      → managed_from known repos (suc sum.levels) [] c ≡ Built sum.table
  new_right left chain c line sum memo e made =
      managed_from-more known repos (suc sum.levels) sum.levels [] c refl refl
      ∙ ap (λ u. and_then (imported c u) (managed_with (managed_from known repos sum.levels (c ∷ [])))) e
      ∙ imports_alike (managed_from known repos left (chain ++ c ∷ [])) (managed_from known repos sum.levels (c ∷ [])) (filter is_import (managed_rows line))
      (λ row m. same row (made.each row m)) (Built (filter (λ row. not (is_import row)) (managed_rows line)))
      ∙ made.whole
    where
      or_none : (b : Bool) → b ≡ false → (b || false) ≡ false
      or_none true e = e
      or_none false e = refl

      same : (row : DepRecord) → IsUpTo known repos left (chain ++ c ∷ []) sum.levels (import_coord row)
          → managed_from known repos sum.levels (c ∷ []) (import_coord row) ≡ managed_from known repos left (chain ++ c ∷ []) (import_coord row)
      same row up =
          let far = apart known repos left (chain ++ c ∷ []) (import_coord row) (is_built known repos _ up.rows up.answer) in
          kept_gives known repos (import_coord row) up.rows up.levels (reached known repos up.levels (import_coord row))
          (record { built = up.alone; all = λ x m. m }) sum.levels (c ∷ []) up.few
          (λ x m. or_none (coord_eq x c) (apart_last x c chain (far x (reached_more up.levels left (import_coord row) x (omega (arith, up.few, made.few)) m))).1)
          ∙ sym up.answer

  -- the memo with one more list
  pub put_ready : (left : ℕ) (chain : List Coord) (c : Coord) (line : Line) (sum : Sum) (before after : Memo) → line_of known repos c ≡ Built line → is_among c chain ≡ false
      → IsReady known repos (chain ++ c ∷ []) before
      → IsSum known repos left (chain ++ c ∷ []) (filter (λ row. not (is_import row)) (managed_rows line)) (filter is_import (managed_rows line)) sum before
      → IsPut before c (record { rows = sum.table; levels = suc sum.levels }) after → IsReady known repos chain after
  put_ready left chain c line sum before after e apart ready made put =
      record { right = right; clear = clear }
    where
      keeps : Keeps before after
      keeps x has = at (coord_eq c x) (put x)
        where
          at : (b : Bool) → kept_at after x ≡ cond b (Some (list_of sum)) (kept_at before x) → is_some (kept_at after x) ≡ true
          at true e = ap is_some e
          at false e = ap is_some e ∙ has

      right : (x : Coord) (one : Kept) → kept_at after x ≡ Some one → IsRight known repos after x one
      right x one f = at (coord_eq c x) refl (sym (put x) ∙ f)
        where
          at : (b : Bool) → coord_eq c x ≡ b → cond b (Some (list_of sum)) (kept_at before x) ≡ Some one → IsRight known repos after x one
          at true same g =
              let is : list_of sum ≡ one = cc in
              subst (λ y. IsRight known repos after y one) (same_coord c x same)
              (subst (IsRight known repos after c) is
              (record {
                built = new_right left chain c line sum before e made;
                imports = λ row m. keeps (import_coord row) (made.there row (subst (λ u. Contains (imports_of u) row) e m));
              }))
          at false other g =
              let had = ready.right x one g in
              record { built = had.built; imports = λ row m. keeps (import_coord row) (had.imports row m) }

      clear : (x : Coord) → is_among x chain ≡ true → kept_at after x ≡ None
      clear x met =
          put x ∙ at (coord_eq c x) refl
        where
          at : (b : Bool) → coord_eq c x ≡ b → cond b (Some (list_of sum)) (kept_at before x) ≡ None
          at true same = absurd (true≢false (sym (alike_among c x same chain ∙ met) ∙ apart))
          at false other = ready.clear x (longer x c chain ∙ ap (λ b. b || coord_eq x c) met)

  pub no_sum : (left : ℕ) (chain : List Coord) (table : List DepRecord) (memo : Memo) → IsSum known repos left chain table [] (record { table = table; levels = 0 }) memo
  no_sum left chain table memo = record { whole = refl; few = omega arith; each = λ row m. absurd (none row m); there = λ row m. absurd (none row m) }

  -- the rows of one more import
  pub sum_more : (left : ℕ) (chain : List Coord) (table front : List DepRecord) (row : DepRecord) (sum more : Sum) (before after : Memo) (one : Kept)
      → IsSum known repos left chain table front sum before → Keeps before after → IsReady known repos chain after
      → kept_at after (import_coord row) ≡ Some one → managed_from known repos left chain (import_coord row) ≡ Built one.rows
      → more.table ≡ with_imported sum.table one.rows → more.levels ≡ max sum.levels (min one.levels left)
      → IsSum known repos left chain table (front ++ row ∷ []) more after
  sum_more left chain table front row sum more before after one made keeps ready e answer rows levels =
      let k = managed_from known repos left chain in
      let high : sum.levels ≤ more.levels = omega (arith, levels) in
      let low : min one.levels left ≤ more.levels = omega (arith, levels) in
      record {
        whole = import_front k front (row ∷ []) (Built table) ∙ ap (λ u. merged u (k (import_coord row))) made.whole ∙ ap (merged (Built sum.table)) answer ∙ ap Built (sym rows);
        few = omega (arith, levels, made.few);
        each = λ x m. ⊎_elim (λ before. wider (import_coord x) sum.levels more.levels high (made.each x before))
            (λ is. subst (λ y. IsUpTo known repos left chain more.levels (import_coord y)) is (up_to left more.levels chain (import_coord row) after one ready e answer low))
            (Contains-push_cases front row x m);
        there = λ x m. ⊎_elim (λ before. keeps (import_coord x) (made.there x before)) (λ is. subst (λ y. is_some (kept_at after (import_coord y)) ≡ true) is (ap is_some e))
            (Contains-push_cases front row x m);
      }
    where
      wider : (x : Coord) (few many : ℕ) → few ≤ many → IsUpTo known repos left chain few x → IsUpTo known repos left chain many x
      wider x few many le up = record { levels = up.levels; rows = up.rows; few = omega (arith, le, up.few); answer = up.answer; alone = up.alone }

  same_memo : (memo : Memo) → Keeps memo memo
  same_memo memo c has = has

  -- before the imports of a project are tried
  pub longer_ready : (chain : List Coord) (c : Coord) (memo : Memo) → IsReady known repos chain memo → kept_at memo c ≡ None → IsReady known repos (chain ++ c ∷ []) memo
  longer_ready chain c memo ready new =
      record { right = ready.right; clear = λ x met. ⊎_elim (λ e. ready.clear x e) (λ same. subst (λ y. kept_at memo y ≡ None) (sym (same_coord x c same)) new) (among_or x c chain met) }

  shorter_ready : (chain : List Coord) (c : Coord) (memo : Memo) → IsReady known repos (chain ++ c ∷ []) memo → IsReady known repos chain memo
  shorter_ready chain c memo ready = record { right = ready.right; clear = λ x met. ready.clear x (among_front x c chain met) }

  -- what is said of a project with a line, by its imports
  by_imports : (left : ℕ) (chain : List Coord) (c : Coord) (line : Line) → line_of known repos c ≡ Built line → is_among c chain ≡ false
      → managed_from known repos (suc left) chain c
      ≡ import_all (managed_from known repos left (chain ++ c ∷ [])) (Built (filter (λ row. not (is_import row)) (managed_rows line))) (filter is_import (managed_rows line))
  by_imports left chain c line e apart =
      managed_from-more known repos (suc left) left chain c refl apart
      ∙ ap (λ u. and_then (imported c u) (managed_with (managed_from known repos left (chain ++ c ∷ [])))) e

  pub fault_of_imports : (left : ℕ) (chain : List Coord) (c : Coord) (line : Line) (fault : BuildFault) (before after : Memo) → line_of known repos c ≡ Built line → is_among c chain ≡ false
      → IsGathered known repos left (chain ++ c ∷ []) (filter (λ row. not (is_import row)) (managed_rows line)) (filter is_import (managed_rows line)) before (tries.Fault fault) after
      → IsTried known repos (suc left) chain c before (tries.Fault fault) after
  fault_of_imports left chain c line fault before after e apart gathered =
      let same = by_imports left chain c line e apart in
      record {
        stops = λ no. same ∙ gathered.stops (ap waits (sym same) ∙ no);
        made = tt;
        ready = shorter_ready chain c after gathered.ready;
        keeps = gathered.keeps;
      }

  pub wanting_imports : (left : ℕ) (chain : List Coord) (c : Coord) (line : Line) (before after : Memo) → line_of known repos c ≡ Built line → is_among c chain ≡ false
      → IsGathered known repos left (chain ++ c ∷ []) (filter (λ row. not (is_import row)) (managed_rows line)) (filter is_import (managed_rows line)) before tries.Wanting after
      → IsTried known repos (suc left) chain c before tries.Wanting after
  wanting_imports left chain c line before after e apart gathered =
      record {
        stops = ap waits (by_imports left chain c line e apart) ∙ gathered.stops;
        made = tt;
        ready = shorter_ready chain c after gathered.ready;
        keeps = gathered.keeps;
      }

  pub built_of_imports : (left : ℕ) (chain : List Coord) (c : Coord) (line : Line) (sum : Sum) (before middle after : Memo) → line_of known repos c ≡ Built line → is_among c chain ≡ false
      → IsGathered known repos left (chain ++ c ∷ []) (filter (λ row. not (is_import row)) (managed_rows line)) (filter is_import (managed_rows line)) before (tries.Built sum) middle
      → IsPut middle c (record { rows = sum.table; levels = suc sum.levels }) after
      → IsTried known repos (suc left) chain c before (tries.Built tt) after
  built_of_imports left chain c line sum before middle after e apart gathered put =
      record {
        stops = tt;
        made = record {
          one = list_of sum;
          there = put c ∙ ap (λ b. cond b (Some (list_of sum)) (kept_at middle c)) (equal_coords.refl c);
          answer = by_imports left chain c line e apart ∙ gathered.made.whole;
        };
        ready = put_ready left chain c line sum middle after e apart gathered.ready gathered.made put;
        keeps = λ x has. kept x (gathered.keeps x has);
      }
    where
      kept : (x : Coord) → is_some (kept_at middle x) ≡ true → is_some (kept_at after x) ≡ true
      kept x has = at (coord_eq c x) (put x)
        where
          at : (b : Bool) → kept_at after x ≡ cond b (Some (list_of sum)) (kept_at middle x) → is_some (kept_at after x) ≡ true
          at true f = ap is_some f
          at false f = ap is_some f ∙ has

  -- what is said without a line
  pub wanting_line : (left lower : ℕ) (chain : List Coord) (c : Coord) (keys : List FileKey) (memo : Memo) → left ≡ suc lower → line_of known repos c ≡ Needs keys → is_among c chain ≡ false
      → IsReady known repos chain memo → IsTried known repos left chain c memo tries.Wanting memo
  wanting_line left lower chain c keys memo more e apart ready =
      record {
        stops = ap waits (managed_from-more known repos left lower chain c more apart ∙ ap (λ u. and_then (imported c u) (managed_with (managed_from known repos lower (chain ++ c ∷ [])))) e);
        made = tt;
        ready = ready;
        keeps = same_memo memo;
      }

  pub fault_of_line : (left lower : ℕ) (chain : List Coord) (c : Coord) (u : Outcome Line) (fault : BuildFault) (memo : Memo) → left ≡ suc lower → line_of known repos c ≡ u
      → imported c u ≡ Refused fault → is_among c chain ≡ false → IsReady known repos chain memo → IsTried known repos left chain c memo (tries.Fault fault) memo
  fault_of_line left lower chain c u fault memo more e refused apart ready =
      record {
        stops = λ no. managed_from-more known repos left lower chain c more apart
            ∙ ap (λ u. and_then (imported c u) (managed_with (managed_from known repos lower (chain ++ c ∷ [])))) e
            ∙ ap (λ v. and_then v (managed_with (managed_from known repos lower (chain ++ c ∷ [])))) refused;
        made = tt;
        ready = ready;
        keeps = same_memo memo;
      }

  pub empty_ready : (chain : List Coord) (memo : Memo) → memo.kept.entries ≡ [] → IsReady known repos chain memo
  empty_ready chain memo none =
      record { right = λ c one e. absurd (none-some one (sym (nothing c) ∙ e)); clear = λ c met. nothing c }
    where
      nothing : (c : Coord) → kept_at memo c ≡ None
      nothing c = rw none refl

  -- a list that takes more levels than are left, tried with nothing kept
  pub high_again : (left : ℕ) (chain : List Coord) (c : Coord) (memo fresh after : Memo) (tried : Tried (Unit {0})) → IsReady known repos chain memo
      → is_some (kept_at memo c) ≡ true → IfSome (kept_at memo c) (λ one. left ≤ one.levels)
      → IsTried known repos left chain c fresh tried after → IsTried known repos left chain c memo tried memo
  high_again left chain c memo fresh after tried ready has high once =
      record { stops = once.stops; made = made (kept_at memo c) refl has high tried once.made; ready = ready; keeps = same_memo memo }
    where
      made : (o : Option Kept) → kept_at memo c ≡ o → is_some o ≡ true → IfSome o (λ one. left ≤ one.levels) → (tried : Tried (Unit {0}))
          → IfMade tried (λ done. IsMade known repos left chain c after) → IfMade tried (λ done. IsMade known repos left chain c memo)
      made None e has high tried h = absurd (true≢false (sym has))
      made (Some one) e has high (tries.Built done) h =
          record { one = one; there = e; answer = same_rows left chain c memo one h.one.rows ready e high h.answer }
      made (Some one) e has high (tries.Fault fault) h = tt
      made (Some one) e has high tries.Wanting h = tt

  -- no level more, and a project that the chain has
  pub past_end : (chain : List Coord) (c : Coord) (fault : BuildFault) (left : ℕ) (memo : Memo) → left ≡ 0 → Refused fault ≡ past_chain chain c → IsReady known repos chain memo
      → IsTried known repos left chain c memo (tries.Fault fault) memo
  past_end chain c fault left memo none said ready =
      record { stops = λ no. ap (λ n. managed_from known repos n chain c) none ∙ sym said; made = tt; ready = ready; keeps = same_memo memo }

  pub met_in_chain : (chain : List Coord) (c : Coord) (fault : BuildFault) (left lower : ℕ) (memo : Memo) → left ≡ suc lower → is_among c chain ≡ true → Refused fault ≡ past_chain chain c
      → IsReady known repos chain memo → IsTried known repos left chain c memo (tries.Fault fault) memo
  met_in_chain chain c fault left lower memo more met said ready =
      record { stops = λ no. same ∙ sym said; made = tt; ready = ready; keeps = same_memo memo }
    where
      same : managed_from known repos left chain c ≡ past_chain chain c
      same = rw (more, met) refl

  -- a list that is kept with no more levels than are left
  pub kept_is_tried : (left : ℕ) (chain : List Coord) (c : Coord) (memo : Memo) (levels : ℕ) → IsReady known repos chain memo → option_map (λ (one : Kept). one.levels) (kept_at memo c) ≡ Some levels
      → levels ≤ left → IsTried known repos left chain c memo (tries.Built tt) memo
  kept_is_tried left chain c memo levels ready found le = by (kept_at memo c) refl found
    where
      by : (o : Option Kept) → kept_at memo c ≡ o → option_map (λ (one : Kept). one.levels) o ≡ Some levels → IsTried known repos left chain c memo (tries.Built tt) memo
      by None e f = absurd (none-some levels f)
      by (Some one) e f =
          let same : one.levels ≡ levels = cc in
          record {
            stops = tt;
            made = record { one = one; there = e; answer = kept_answers left chain c memo one ready e (omega (arith, same, le)) };
            ready = ready;
            keeps = same_memo memo;
          }

  -- the list of an import that was tried, as a sum takes it
  pub next_there : (left : ℕ) (chain : List Coord) (c : Coord) (before after : Memo) → IsTried known repos left chain c before (tries.Built tt) after → is_some (kept_at after c) ≡ true
  next_there left chain c before after tried = ap is_some tried.made.there

  pub sum_next : (left : ℕ) (chain : List Coord) (table front : List DepRecord) (row : DepRecord) (sum more : Sum) (before after : Memo)
      → IsSum known repos left chain table front sum before → IsTried known repos left chain (import_coord row) before (tries.Built tt) after
      → IfSome (kept_at after (import_coord row)) (λ kept. more.table ≡ with_imported sum.table kept.rows)
      → IfSome (kept_at after (import_coord row)) (λ kept. more.levels ≡ max sum.levels (min kept.levels left))
      → IsSum known repos left chain table (front ++ row ∷ []) more after
  sum_next left chain table front row sum more before after made tried rows levels =
      let there : kept_at after (import_coord row) ≡ Some tried.made.one = tried.made.there in
      sum_more left chain table front row sum more before after tried.made.one made tried.keeps tried.ready there tried.made.answer
      (subst (λ o. IfSome o (λ (kept : Kept). more.table ≡ with_imported sum.table kept.rows)) there rows)
      (subst (λ o. IfSome o (λ (kept : Kept). more.levels ≡ max sum.levels (min kept.levels left))) there levels)

  -- the first import that is not built ends the sum
  pub fault_next : (left : ℕ) (chain : List Coord) (table front back : List DepRecord) (row : DepRecord) (sum : Sum) (start before after : Memo) (fault : BuildFault)
      → IsSum known repos left chain table front sum before → Keeps start before → IsTried known repos left chain (import_coord row) before (tries.Fault fault) after
      → IsGathered known repos left chain table (front ++ row ∷ back) start (tries.Fault fault) after
  fault_next left chain table front back row sum start before after fault made keeps tried =
      record {
        stops = fault_here (managed_from known repos left chain) front back row table sum.table fault made.whole tried.stops;
        made = tt;
        ready = tried.ready;
        keeps = λ x has. tried.keeps x (keeps x has);
      }

  pub wanting_next : (left : ℕ) (chain : List Coord) (table front back : List DepRecord) (row : DepRecord) (sum : Sum) (start before after : Memo)
      → IsSum known repos left chain table front sum before → Keeps start before → IsTried known repos left chain (import_coord row) before tries.Wanting after
      → IsGathered known repos left chain table (front ++ row ∷ back) start tries.Wanting after
  wanting_next left chain table front back row sum start before after made keeps tried =
      record {
        stops = waits_here (managed_from known repos left chain) front back row table sum.table made.whole tried.stops;
        made = tt;
        ready = tried.ready;
        keeps = λ x has. tried.keeps x (keeps x has);
      }

  -- the same of what is equal
  pub gathered_as : (left : ℕ) (chain other : List Coord) (table rows imports all : List DepRecord) (before after : Memo) (tried said : Tried Sum)
      → chain ≡ other → table ≡ rows → imports ≡ all → tried ≡ said
      → IsGathered known repos left chain table imports before tried after → IsGathered known repos left other rows all before said after
  gathered_as left chain other table rows imports all before after tried said e f g h gathered =
      subst (λ (one : Tried Sum). IsGathered known repos left other rows all before one after) h
      (subst (λ (one : List DepRecord). IsGathered known repos left other rows one before tried after) g
      (subst (λ (one : List DepRecord). IsGathered known repos left other one imports before tried after) f
      (subst (λ (one : List Coord). IsGathered known repos left one table imports before tried after) e gathered)))

  pub tried_as : (left : ℕ) (chain : List Coord) (c other : Coord) (before after : Memo) (tried said : Tried (Unit {0})) → c ≡ other → tried ≡ said
      → IsTried known repos left chain c before tried after → IsTried known repos left chain other before said after
  tried_as left chain c other before after tried said e f once =
      subst (λ (one : Tried (Unit {0})). IsTried known repos left chain other before one after) f
      (subst (λ (one : Coord). IsTried known repos left chain one before tried after) e once)

pub not_kept : (o : Option Kept) → option_map (λ (one : Kept). one.levels) o ≡ None → o ≡ None
not_kept None e = refl
not_kept (Some one) e = cc

pub is_kept : (o : Option Kept) (levels : ℕ) → option_map (λ (one : Kept). one.levels) o ≡ Some levels → is_some o ≡ true
is_kept None levels e = cc
is_kept (Some one) levels e = refl

pub is_high : (o : Option Kept) (levels left : ℕ) → option_map (λ (one : Kept). one.levels) o ≡ Some levels → left ≤ levels → IfSome o (λ one. left ≤ one.levels)
is_high None levels left e le = tt
is_high (Some one) levels left e le = let same : one.levels ≡ levels = cc in omega (arith, same, le)
