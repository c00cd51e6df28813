-- What is said of a managed list that is tried, with the lists that are kept.
use Rattle.std.specs.Prelude.{◌≡◌, ⊤, ℕ, suc, ◌≤◌, true, false, None, Some, Option, List, [], ◌∷◌, Contains, is_some, if◌then◌else◌}
use Rattle.res_base.specs.Known.{Known}
use Rattle.res_base.specs.Names.{coord_eq}
use Rattle.res_base.specs.declared.coord.Coord.{Coord}
use Rattle.res_base.specs.declared.pom.DepRecord.{DepRecord}
use Rattle.pom_build.specs.CoordTables.{value_at}
use Rattle.pom_build.specs.Imports.{import_all, import_coord, managed_from}
use Rattle.pom_build.specs.Lines.{is_among, line_of}
use Rattle.pom_build.specs.Outcomes.{waits}
use Rattle.pom_build.specs.Visits.{imports_of}
use Rattle.pom_build.specs.declared.imports.Sum.{Sum}
use Rattle.pom_build.specs.declared.imports.Tried.{Tried}
use Rattle.pom_build.specs.declared.imports.Tried.TheVariants as tries
use Rattle.pom_build.specs.declared.memo.Kept.{Kept}
use Rattle.pom_build.specs.declared.memo.Memo.{Memo}
use Rattle.pom_build.specs.declared.outcome.Outcome.{Outcome}
use Rattle.pom_build.specs.declared.outcome.Outcome.TheVariants.{Built, Refused}

abbrev pub kept_at : Memo → Coord → Option Kept
kept_at memo c = value_at memo.kept c

-- one list is put in, and the others are as before
abbrev pub IsPut : Memo → Coord → Kept → Memo → Type 0
IsPut before c one after = (other : Coord) → kept_at after other ≡ if coord_eq c other then Some one else kept_at before other

-- where a try stops short: the fault is the answer unless keys are needed, or keys are needed
abbrev pub Stops : {A : Type 0} → Tried A → Outcome (List DepRecord) → Type 0
Stops (tries.Built made) answer = ⊤
Stops (tries.Fault fault) answer = waits answer ≡ false → answer ≡ Refused fault
Stops tries.Wanting answer = waits answer ≡ true

abbrev pub IfMade : {A : Type 0} → Tried A → (A → Type 0) → Type 0
IfMade (tries.Built made) P = P made
IfMade (tries.Fault fault) P = ⊤
IfMade tries.Wanting P = ⊤

-- the managed list behind no chain with so many levels, where each import has a list too
pub record IsRight (known : Known) (repos : ℕ) (memo : Memo) (c : Coord) (one : Kept) : Type 0 where
  pub built : managed_from known repos one.levels [] c ≡ Built one.rows
  pub imports : (row : DepRecord) → Contains (imports_of (line_of known repos c)) row → is_some (kept_at memo (import_coord row)) ≡ true

-- all lists are right, and no project of the chain has one
pub record IsReady (known : Known) (repos : ℕ) (chain : List Coord) (memo : Memo) : Type 0 where
  pub right : (c : Coord) (one : Kept) → kept_at memo c ≡ Some one → IsRight known repos memo c one
  pub clear : (c : Coord) → is_among c chain ≡ true → kept_at memo c ≡ None

-- the memo has the list of the project, which is the answer
pub record IsMade (known : Known) (repos left : ℕ) (chain : List Coord) (c : Coord) (memo : Memo) : Type 0 where
  pub one : Kept
  pub there : kept_at memo c ≡ Some one
  pub answer : managed_from known repos left chain c ≡ Built one.rows

-- no list is lost
abbrev pub Keeps : Memo → Memo → Type 0
Keeps before after = (c : Coord) → is_some (kept_at before c) ≡ true → is_some (kept_at after c) ≡ true

pub record IsTried (known : Known) (repos left : ℕ) (chain : List Coord) (c : Coord) (before : Memo) (tried : Tried (Unit {0})) (after : Memo) : Type 0 where
  pub stops : Stops tried (managed_from known repos left chain c)
  pub made : IfMade tried (λ done. IsMade known repos left chain c after)
  pub ready : IsReady known repos chain after
  pub keeps : Keeps before after

-- a list that is the answer, and is built behind no chain with at most so many levels
pub record IsUpTo (known : Known) (repos left : ℕ) (chain : List Coord) (most : ℕ) (c : Coord) : Type 0 where
  pub levels : ℕ
  pub rows : List DepRecord
  pub few : levels ≤ most
  pub answer : managed_from known repos left chain c ≡ Built rows
  pub alone : managed_from known repos levels [] c ≡ Built rows

-- the rows of a table and of imports, each of which is built with at most so many levels and has its list in the memo
pub record IsSum (known : Known) (repos left : ℕ) (chain : List Coord) (table : List DepRecord) (imports : List DepRecord) (sum : Sum) (memo : Memo) : Type 0 where
  pub whole : import_all (managed_from known repos left chain) (Built table) imports ≡ Built sum.table
  pub few : sum.levels ≤ left
  pub each : (row : DepRecord) → Contains imports row → IsUpTo known repos left chain sum.levels (import_coord row)
  pub there : (row : DepRecord) → Contains imports row → is_some (kept_at memo (import_coord row)) ≡ true

pub record IsGathered (known : Known) (repos left : ℕ) (chain : List Coord) (table : List DepRecord) (imports : List DepRecord) (before : Memo) (tried : Tried Sum) (after : Memo) : Type 0 where
  pub stops : Stops tried (import_all (managed_from known repos left chain) (Built table) imports)
  pub made : IfMade tried (λ sum. IsSum known repos left chain table imports sum after)
  pub ready : IsReady known repos chain after
  pub keeps : Keeps before after
