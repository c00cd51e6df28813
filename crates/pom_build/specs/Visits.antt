-- Projects that are visited to find the keys that imports need.
use Rattle.std.specs.BTreeMap.{BTreeMap}
use Rattle.std.specs.Option.{unwrap_or}
use Rattle.std.specs.Prelude.{◌≡◌, ℕ, suc, ◌≤◌, true, false, None, List, [], ◌∷◌, Contains, filter, fold, if◌then◌else◌}
use Rattle.res_base.specs.Known.{Known}
use Rattle.res_base.specs.Names.{coord_eq}
use Rattle.res_base.specs.declared.coord.Coord.{Coord}
use Rattle.res_base.specs.declared.key.FileKey.{FileKey}
use Rattle.res_base.specs.declared.pom.DepRecord.{DepRecord}
use Rattle.pom_build.specs.CoordTables.{value_at}
use Rattle.pom_build.specs.Imports.{import_coord, is_import, managed_from, managed_rows, with_key}
use Rattle.pom_build.specs.Lines.{is_among, line_of}
use Rattle.pom_build.specs.Outcomes.{needs}
use Rattle.pom_build.specs.Reads.{line_keys}
use Rattle.pom_build.specs.declared.line.Line.{Line}
use Rattle.pom_build.specs.declared.needs.Seen.{Seen}
use Rattle.pom_build.specs.declared.outcome.Outcome.{Outcome}
use Rattle.pom_build.specs.declared.outcome.Outcome.TheVariants.{Built, Needs, NotFound, Refused}

abbrev pub imports_of : Outcome Line → List DepRecord
imports_of (Built line) = filter is_import (managed_rows line)
imports_of (Needs keys) = []
imports_of (NotFound why) = []
imports_of (Refused fault) = []

-- with how many levels a project was visited
abbrev pub level_of : Seen → Coord → ℕ
level_of seen c = unwrap_or (value_at seen.levels c) 0

-- the level of one project, and those of the others as before
abbrev pub HasLevel : Seen → Coord → ℕ → Seen → Type 0
HasLevel before c level after = (one : Coord) → level_of after one ≡ if coord_eq c one then level else level_of before one

-- the keys that imports need in turn, each once
abbrev pub all_needed : (Coord → Outcome (List DepRecord)) → List FileKey → List DepRecord → List FileKey
all_needed managed keys imports = fold (λ so_far row. fold with_key so_far (needs (managed (import_coord row)))) keys imports

-- the keys of a project's line are there, and its imports were visited with the levels that are left to them
pub record IsDone (known : Known) (repos : ℕ) (seen : Seen) (c : Coord) : Type 0 where
  pub keys : (key : FileKey) → Contains (line_keys known repos c) key → known key ≡ None → Contains seen.keys key
  pub imports : (row : DepRecord) → Contains (imports_of (line_of known repos c)) row → level_of seen c ≤ suc (level_of seen (import_coord row))

-- each project that was visited is done, but for those of the chain, which have more levels than are left
pub record IsSeenIn (known : Known) (repos left : ℕ) (chain : List Coord) (seen : Seen) : Type 0 where
  pub done : (c : Coord) → 1 ≤ level_of seen c → is_among c chain ≡ false → IsDone known repos seen c
  pub stacked : (c : Coord) → is_among c chain ≡ true → left ≤ level_of seen c

pub record IsLater (chain : List Coord) (before after : Seen) : Type 0 where
  pub grows : (c : Coord) → level_of before c ≤ level_of after c
  pub kept : (c : Coord) → is_among c chain ≡ true → level_of after c ≡ level_of before c

pub record IsVisited (known : Known) (repos left : ℕ) (chain : List Coord) (c : Coord) (before after : Seen) : Type 0 where
  pub keys : after.keys ≡ fold with_key before.keys (needs (managed_from known repos left chain c))
  pub seen : IsSeenIn known repos left chain after
  pub later : IsLater chain before after
  pub there : left ≤ level_of after c

pub record IsAllVisited (known : Known) (repos left : ℕ) (chain : List Coord) (imports : List DepRecord) (before after : Seen) : Type 0 where
  pub keys : after.keys ≡ all_needed (managed_from known repos left chain) before.keys imports
  pub seen : IsSeenIn known repos left chain after
  pub later : IsLater chain before after
  pub there : (row : DepRecord) → Contains imports row → left ≤ level_of after (import_coord row)
