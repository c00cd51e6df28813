-- The managed list of a project depends on the chain before it only where the chain has a project that it reaches, or
-- leaves too few levels.
use Rattle.std.proofs.Common.{◌≡◌, ℕ, zero, suc, ◌≤◌, ⊎_elim, Bool, true, false, not, ◌||◌, List, [], ◌∷◌, ◌++◌, filter, refl, sym, ◌∙◌, ap, subst, arith, true≢false}
use Rattle.std.specs.Prelude.{Contains}
use Rattle.std.proofs.lemmas.List.Elements.{Contains-append_left, Contains-append_right, Contains-append_cases}
use Rattle.std.proofs.lemmas.List.Folds.{list_any-append}
use Rattle.res_base.specs.Known.{Known}
use Rattle.res_base.specs.Names.{coord_eq}
use Rattle.res_base.specs.declared.coord.Coord.{Coord}
use Rattle.res_base.specs.declared.pom.DepRecord.{DepRecord}
use Rattle.pom_build.specs.Imports.{import_all, import_coord, imported, is_import, managed_from, managed_rows, managed_with, merged}
use Rattle.pom_build.specs.Lines.{is_among, line_of}
use Rattle.pom_build.specs.Outcomes.{and_then, unless_met}
use Rattle.pom_build.specs.Reached.{IsApart, IsKept, reached, reached_by_line, reached_by_rows}
use Rattle.pom_build.specs.declared.build.BuildFault.{BuildFault}
use Rattle.pom_build.specs.declared.build.BuildFault.TheVariants.{ImportCycle}
use Rattle.pom_build.specs.declared.line.Line.{Line}
use Rattle.pom_build.specs.declared.outcome.Outcome.{Outcome}
use Rattle.pom_build.specs.declared.outcome.Outcome.TheVariants.{Built, Needs, NotFound, Refused}
use Rattle.pom_build.proofs.Members.{none, first, later, first_or_later}

abbrev pub IsBuilt : {A : Type 0} → Outcome A → Type 0
IsBuilt (Built part) = Unit {0}
IsBuilt (Needs keys) = ⊥
IsBuilt (NotFound why) = ⊥
IsBuilt (Refused fault) = ⊥

-- What is built was built of parts that are built.

record Unmet {A : Type 0} (met : Bool) (further : Coord → Outcome A) (c : Coord) : Type 0 where
  pub new : met ≡ false
  pub part : IsBuilt (further c)

unmet : {A : Type 0} (met : Bool) (fault : BuildFault) (further : Coord → Outcome A) (c : Coord)
    → IsBuilt (unless_met met fault further c) → Unmet met further c
unmet true fault further c h = absurd h
unmet false fault further c h = record { new = refl; part = h }

unless_unmet : {A : Type 0} (met : Bool) (fault : BuildFault) (further : Coord → Outcome A) (c : Coord)
    → met ≡ false → unless_met met fault further c ≡ further c
unless_unmet true fault further c e = absurd (true≢false e)
unless_unmet false fault further c e = refl

merged_parts : (u v : Outcome (List DepRecord)) → IsBuilt (merged u v) → IsBuilt u × IsBuilt v
merged_parts (Built rows) (Built more) h = (tt, tt)
merged_parts (Built rows) (Needs keys) h = absurd h
merged_parts (Built rows) (NotFound why) h = absurd h
merged_parts (Built rows) (Refused fault) h = absurd h
merged_parts (Needs keys) (Built more) h = absurd h
merged_parts (Needs keys) (Needs more) h = absurd h
merged_parts (Needs keys) (NotFound why) h = absurd h
merged_parts (Needs keys) (Refused fault) h = absurd h
merged_parts (NotFound why) (Built more) h = absurd h
merged_parts (NotFound why) (Needs keys) h = absurd h
merged_parts (NotFound why) (NotFound other) h = absurd h
merged_parts (NotFound why) (Refused fault) h = absurd h
merged_parts (Refused fault) (Built more) h = absurd h
merged_parts (Refused fault) (Needs keys) h = absurd h
merged_parts (Refused fault) (NotFound why) h = absurd h
merged_parts (Refused fault) (Refused other) h = absurd h

module _ (k : Coord → Outcome (List DepRecord)) where
  abbrev AllBuilt : List DepRecord → Type 0
  AllBuilt rows = (row : DepRecord) → Contains rows row → IsBuilt (k (import_coord row))

  pub import_parts : (rows : List DepRecord) (so_far : Outcome (List DepRecord)) → IsBuilt (import_all k so_far rows)
      → IsBuilt so_far × AllBuilt rows
  import_parts [] so_far h = (h, λ row m. absurd (none row m))
  import_parts (row ∷ rows) so_far h =
      let after = import_parts rows (merged so_far (k (import_coord row))) h in
      let here = merged_parts so_far (k (import_coord row)) after.0 in
      (here.0, λ one m. ⊎_elim (λ is. subst (λ x. IsBuilt (k (import_coord x))) is here.1) (after.1 one) (first_or_later row rows one m))

  pub imports_alike : (l : Coord → Outcome (List DepRecord)) (rows : List DepRecord)
      → ((row : DepRecord) → Contains rows row → l (import_coord row) ≡ k (import_coord row))
      → (so_far : Outcome (List DepRecord)) → import_all l so_far rows ≡ import_all k so_far rows
  imports_alike l [] same so_far = refl
  imports_alike l (row ∷ rows) same so_far =
      ap (λ next. import_all l (merged so_far next) rows) (same row (first row rows))
      ∙ imports_alike l rows (λ one m. same one (later row rows one m)) (merged so_far (k (import_coord row)))

abbrev own : Line → Outcome (List DepRecord)
own line = Built (filter (λ row. not (is_import row)) (managed_rows line))

abbrev imports_of : Line → List DepRecord
imports_of line = filter is_import (managed_rows line)

-- a fact of a line that is built; of another there is nothing to say
abbrev OfLine : (Line → Type 0) → Outcome Line → Type 0
OfLine P (Built line) = P line
OfLine P (Needs keys) = Unit {0}
OfLine P (NotFound why) = Unit {0}
OfLine P (Refused fault) = Unit {0}

built_line : (c : Coord) (u : Outcome Line) (k : Line → Outcome (List DepRecord)) → IsBuilt (and_then (imported c u) k)
    → OfLine (λ line. IsBuilt (k line)) u
built_line c (Built line) k h = h
built_line c (Needs keys) k h = tt
built_line c (NotFound why) k h = tt
built_line c (Refused fault) k h = tt

alike_line : (c : Coord) (u : Outcome Line) (k l : Line → Outcome (List DepRecord)) → OfLine (λ line. l line ≡ k line) u
    → and_then (imported c u) l ≡ and_then (imported c u) k
alike_line c (Built line) k l h = h
alike_line c (Needs keys) k l h = refl
alike_line c (NotFound why) k l h = refl
alike_line c (Refused fault) k l h = refl

-- Coordinates of a chain.

or_right : (b : Bool) → (b || false) ≡ b
or_right true = refl
or_right false = refl

pub longer : (c one : Coord) (chain : List Coord) → is_among c (chain ++ one ∷ []) ≡ (is_among c chain || coord_eq c one)
longer c one chain =
    list_any-append (coord_eq c) chain (one ∷ []) ∙ ap (λ b. is_among c chain || b) (or_right (coord_eq c one))

neither : (a b : Bool) → (a || b) ≡ false → (a ≡ false) × (b ≡ false)
neither true b e = absurd (true≢false e)
neither false b e = (refl, e)

pub both_false : (a b : Bool) → a ≡ false → b ≡ false → (a || b) ≡ false
both_false true b e f = e
both_false false b e f = f

pub apart_last : (c one : Coord) (chain : List Coord) → is_among c (chain ++ one ∷ []) ≡ false
    → (is_among c chain ≡ false) × (coord_eq c one ≡ false)
apart_last c one chain e = neither (is_among c chain) (coord_eq c one) (sym (longer c one chain) ∙ e)

-- Coordinates that rows reach.

pub from_rows : (f : Coord → List Coord) (c : Coord) (rows : List DepRecord) → Contains (reached_by_rows f rows) c
    → (row : DepRecord) × Contains rows row × Contains (f (import_coord row)) c
from_rows f c [] h = absurd (none c h)
from_rows f c (row ∷ rows) h =
    ⊎_elim (λ here. (row, first row rows, here))
    (λ there. let l = from_rows f c rows there in (l.0, later row rows l.0 l.1, l.2))
    (Contains-append_cases (f (import_coord row)) (reached_by_rows f rows) c h)

pub into_rows : (f : Coord → List Coord) (c : Coord) (rows : List DepRecord) (row : DepRecord) → Contains rows row
    → Contains (f (import_coord row)) c → Contains (reached_by_rows f rows) c
into_rows f c [] row m h = absurd (none row m)
into_rows f c (one ∷ rows) row m h =
    ⊎_elim
    (λ is. Contains-append_left (f (import_coord one)) (reached_by_rows f rows) c (subst (λ x. Contains (f (import_coord x)) c) (sym is) h))
    (λ there. Contains-append_right (f (import_coord one)) (reached_by_rows f rows) c (into_rows f c rows row there h))
    (first_or_later one rows row m)

module _ (known : Known) (repos : ℕ) where
  abbrev next : ℕ → List Coord → Line → Outcome (List DepRecord)
  next left chain line = managed_with (managed_from known repos left chain) line

  -- the same where the project was not met
  abbrev unmet_from : ℕ → List Coord → Coord → Outcome (List DepRecord)
  unmet_from left chain c = and_then (imported c (line_of known repos c)) (next left (chain ++ c ∷ []))

  built_from : (left : ℕ) (chain : List Coord) (c : Coord) → IsBuilt (managed_from known repos (suc left) chain c)
      → Unmet (is_among c chain) (unmet_from left chain) c
  built_from left chain c h = unmet (is_among c chain) (ImportCycle (chain ++ c ∷ [])) (unmet_from left chain) c h

  -- what a list that is built reaches stands apart from the chain
  pub apart : (left : ℕ) (chain : List Coord) (c : Coord) → IsBuilt (managed_from known repos left chain c)
      → IsApart (reached known repos left c) chain
  apart zero chain c h one m = absurd h
  apart (suc left) chain c h one m =
      let parts = built_from left chain c h in
      ⊎_elim (λ is. ap (λ x. is_among x chain) (sym is) ∙ parts.new)
      (λ there.
      by (line_of known repos c) (built_line c (line_of known repos c) (next left (chain ++ c ∷ [])) parts.part) there (apart left (chain ++ c ∷ [])))
      (first_or_later c (reached_by_line (reached known repos left) (line_of known repos c)) one m)
    where
      by : (u : Outcome Line) → OfLine (λ line. IsBuilt (next left (chain ++ c ∷ []) line)) u
          → Contains (reached_by_line (reached known repos left) u) one
          → ((i : Coord) → IsBuilt (managed_from known repos left (chain ++ c ∷ []) i) → IsApart (reached known repos left i) (chain ++ c ∷ []))
          → is_among one chain ≡ false
      by (Built line) built m ih =
          let all = import_parts (managed_from known repos left (chain ++ c ∷ [])) (imports_of line) (own line) built in
          let from = from_rows (reached known repos left) one (imports_of line) m in
          (apart_last one c chain (ih (import_coord from.0) (all.1 from.0 from.1) one from.2)).0
      by (Needs keys) built m ih = absurd (none one m)
      by (NotFound why) built m ih = absurd (none one m)
      by (Refused fault) built m ih = absurd (none one m)

  -- A list that is built behind some chain is the same with more levels, and behind every chain without the projects
  -- that it reaches.
  pub alike : (levels : ℕ) (chain : List Coord) (c : Coord) → IsBuilt (managed_from known repos levels chain c)
      → (left : ℕ) (other : List Coord) → levels ≤ left → IsApart (reached known repos levels c) other
      → managed_from known repos left other c ≡ managed_from known repos levels chain c
  alike zero chain c h left other le clear = absurd h
  alike (suc levels) chain c h zero other le clear = absurd (omega (arith, le))
  alike (suc levels) chain c h (suc left) other le clear =
      let parts = built_from levels chain c h in
      let reaches : List Coord = reached_by_line (reached known repos levels) (line_of known repos c) in
      unless_unmet (is_among c other) (ImportCycle (other ++ c ∷ [])) (unmet_from left other) c (clear c (first c reaches))
      ∙ alike_line c (line_of known repos c) (next levels (chain ++ c ∷ [])) (next left (other ++ c ∷ []))
      (by (line_of known repos c) (built_line c (line_of known repos c) (next levels (chain ++ c ∷ [])) parts.part)
      (λ one m. clear one (later c reaches one m))
      (λ i built. alike levels (chain ++ c ∷ []) i built left (other ++ c ∷ []) (omega (arith, le))))
      ∙ sym (unless_unmet (is_among c chain) (ImportCycle (chain ++ c ∷ [])) (unmet_from levels chain) c parts.new)
    where
      by : (u : Outcome Line) → OfLine (λ line. IsBuilt (next levels (chain ++ c ∷ []) line)) u
          → ((one : Coord) → Contains (reached_by_line (reached known repos levels) u) one → is_among one other ≡ false)
          → ((i : Coord) → IsBuilt (managed_from known repos levels (chain ++ c ∷ []) i)
          → IsApart (reached known repos levels i) (other ++ c ∷ [])
          → managed_from known repos left (other ++ c ∷ []) i ≡ managed_from known repos levels (chain ++ c ∷ []) i)
          → OfLine (λ line. next left (other ++ c ∷ []) line ≡ next levels (chain ++ c ∷ []) line) u
      by (Built line) built clear ih =
          let all = import_parts (managed_from known repos levels (chain ++ c ∷ [])) (imports_of line) (own line) built in
          imports_alike (managed_from known repos levels (chain ++ c ∷ [])) (managed_from known repos left (other ++ c ∷ [])) (imports_of line)
          (λ row m.
          ih (import_coord row) (all.1 row m)
          (λ one reach.
          let before = apart levels (chain ++ c ∷ []) (import_coord row) (all.1 row m) one reach in
          longer one c other
          ∙ both_false (is_among one other) (coord_eq one c) (clear one (into_rows (reached known repos levels) one (imports_of line) row m reach))
          (apart_last one c chain before).1))
          (own line)
      by (Needs keys) built clear ih = tt
      by (NotFound why) built clear ih = tt
      by (Refused fault) built clear ih = tt

  pub is_built : (u : Outcome (List DepRecord)) (rows : List DepRecord) → u ≡ Built rows → IsBuilt u
  is_built u rows e = subst IsBuilt (sym e) tt

  pub kept_gives : (c : Coord) (rows : List DepRecord) (levels : ℕ) (coords : List Coord)
      → IsKept known repos c rows levels coords → (left : ℕ) (chain : List Coord) → levels ≤ left → IsApart coords chain
      → managed_from known repos left chain c ≡ Built rows
  kept_gives c rows levels coords kept left chain le clear =
      alike levels [] c (is_built _ rows kept.built) left chain le (λ one m. clear one (kept.all one m)) ∙ kept.built

  -- behind any chain, a list that is built is kept with what it reaches
  pub built_kept : (left : ℕ) (chain : List Coord) (c : Coord) (rows : List DepRecord)
      → managed_from known repos left chain c ≡ Built rows → IsKept known repos c rows left (reached known repos left c)
  built_kept left chain c rows built =
      record {
        built = alike left chain c (is_built _ rows built) left [] (omega arith) (λ one m. refl) ∙ built;
        all = λ one m. m;
      }
