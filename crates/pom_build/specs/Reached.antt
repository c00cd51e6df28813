-- The projects that an import reaches, and the managed lists that may be kept.
use Rattle.std.specs.Prelude.{◌≡◌, ℕ, zero, suc, false, List, [], ◌∷◌, ◌++◌, Contains, filter}
use Rattle.res_base.specs.Known.{Known}
use Rattle.res_base.specs.declared.coord.Coord.{Coord}
use Rattle.res_base.specs.declared.pom.DepRecord.{DepRecord}
use Rattle.pom_build.specs.Imports.{import_coord, is_import, managed_from, managed_rows}
use Rattle.pom_build.specs.Lines.{is_among, line_of}
use Rattle.pom_build.specs.declared.line.Line.{Line}
use Rattle.pom_build.specs.declared.outcome.Outcome.{Outcome}
use Rattle.pom_build.specs.declared.outcome.Outcome.TheVariants.{Built, Needs, NotFound, Refused}

abbrev pub reached_by_rows : (Coord → List Coord) → List DepRecord → List Coord
reached_by_rows further [] = []
reached_by_rows further (row ∷ rows) = further (import_coord row) ++ reached_by_rows further rows

abbrev pub reached_by_line : (Coord → List Coord) → Outcome Line → List Coord
reached_by_line further (Built line) = reached_by_rows further (filter is_import (managed_rows line))
reached_by_line further (Needs keys) = []
reached_by_line further (NotFound why) = []
reached_by_line further (Refused fault) = []

-- a project and all that it imports, so many levels deep
abbrev pub reached : Known → ℕ → ℕ → Coord → List Coord
reached known repos zero c = c ∷ []
reached known repos (suc left) c = c ∷ reached_by_line (reached known repos left) (line_of known repos c)

-- none of these coordinates stands in the chain
abbrev pub IsApart : List Coord → List Coord → Type 0
IsApart coords chain = (c : Coord) → Contains coords c → is_among c chain ≡ false

-- the managed list of a project behind no chain, built with so many levels, and what it reaches by them
pub record IsKept (known : Known) (repos : ℕ) (c : Coord) (rows : List DepRecord) (levels : ℕ) (coords : List Coord) : Type 0 where
  pub built : managed_from known repos levels [] c ≡ Built rows
  pub all : (one : Coord) → Contains (reached known repos levels c) one → Contains coords one
