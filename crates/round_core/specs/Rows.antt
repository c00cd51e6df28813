-- Worked rows.
use Rattle.std.specs.Prelude.{◌≡◌, ℕ, false, Option, None, Some, List, [], ◌∷◌, codes, refl, map}
use Rattle.property_text.specs.Filled.{filled}
use Rattle.pom_build.specs.Effectives.{effective_of, filled_deps}
use Rattle.pom_build.specs.Imports.{managed_rows}
use Rattle.pom_build.specs.Lines.{line_of}
use Rattle.pom_build.specs.Names.{fill_in}
use Rattle.reconcile_rules.specs.declared.request.Asker.TheVariants.{Project}
use Rattle.reconcile_rules.specs.declared.request.Clash.TheVariants.{Above}
use Rattle.reconcile_rules.specs.declared.request.Rule.TheVariants.{Default}
use Rattle.res_base.specs.Builders.{coord_of, key_of, module_of}
use Rattle.res_base.specs.Known.{known_of}
use Rattle.res_base.specs.Paths.{listing_path_of, pom_path_of}
use Rattle.res_base.specs.declared.coord.Coord.{Coord}
use Rattle.res_base.specs.declared.key.FileKey.{FileKey}
use Rattle.res_base.specs.declared.key.Role.TheVariants as roles
use Rattle.res_base.specs.declared.pom.DepRecord.{DepRecord}
use Rattle.res_base.specs.declared.pom.Exclusion.{Exclusion}
use Rattle.res_base.specs.declared.pom.PomRecord.{PomRecord}
use Rattle.res_base.specs.declared.reading.Reading.{Reading}
use Rattle.res_base.specs.declared.reading.Reading.TheVariants as readings
use Rattle.resolution.specs.declared.ask.Ask.{Ask}
use Rattle.resolution.specs.declared.choices.Choice.TheVariants.{Version}
use Rattle.resolution.specs.declared.progress.Progress.{Progress}
use Rattle.resolution.specs.declared.progress.Progress.TheVariants.{Over, Waiting}
use Rattle.resolution.specs.declared.settled.Node.{Node}
use Rattle.resolution.specs.declared.verdict.ClashRow.{ClashRow}
use Rattle.resolution.specs.declared.verdict.Verdict.{Verdict}
use Rattle.resolution.specs.declared.verdict.Verdict.TheVariants.{Clashes, Failed, Settled, Unsettled}
use Rattle.round_core.specs.Rounds.{rounds_of}
use Rattle.scope_rules.specs.declared.scopes.Configuration.TheVariants as configurations

abbrev one : List ℕ
one = codes "1"

abbrev two : List ℕ
two = codes "2"

-- `x:NAME:VERSION`
abbrev x : List ℕ → List ℕ → Coord
x name version = coord_of (codes "x") name version

abbrev x1 : List ℕ → Coord
x1 name = x name one

abbrev dep : List ℕ → List ℕ → DepRecord
dep name version = record {
  «module» = module_of (codes "x") name;
  version = version;
  kind = [];
  classifier =
      [];
  scope = [];
  optional = [];
  exclusions = [];
}

-- one that leaves another out
abbrev without : DepRecord → List ℕ → DepRecord
without row name = record row { exclusions = record { org = codes "x"; name = name } ∷ [] }

abbrev pom : List ℕ → List ℕ → List DepRecord → PomRecord
pom name version deps =
    record {
      parent = None;
      org = codes "x";
      name = name;
      version = version;
      packaging = codes "jar";
      properties =
          [];
      deps = deps;
      managed = [];
      moved = None;
    }

abbrev at : Coord → PomRecord → FileKey × Reading
at c record_of = (key_of 0 roles.Pom (pom_path_of c), readings.Pom record_of)

-- a project with dependencies
abbrev project : List ℕ → List ℕ → List DepRecord → FileKey × Reading
project name version deps = at (x name version) (pom name version deps)

abbrev managing : List ℕ → List DepRecord → List DepRecord → FileKey × Reading
managing name managed deps = at (x1 name) (record (pom name one deps) { managed = managed })

abbrev listing : List ℕ → List (List ℕ) → FileKey × Reading
listing name versions =
    (key_of 0 roles.Listing (listing_path_of (module_of (codes "x") name)), readings.Listing versions)

abbrev asked : List Coord → ℕ → Ask
asked roots rounds =
    record {
      roots = roots;
      forced = [];
      boms = [];
      excludes = [];
      configuration = configurations.Default;
      rule =
          Default;
      rounds = rounds;
      repos = 1;
      files = false;
    }

abbrev of_a : Ask
of_a = asked (x1 (codes "a") ∷ []) 200

-- the round, and what is settled
abbrev settled_in : Verdict → Option (ℕ × List Coord)
settled_in (Settled settled) = Some (settled.round, map (λ (node : Node). node.coord) settled.nodes)
settled_in (Clashes rows) = None
settled_in (Failed rows) = None
settled_in (Unsettled rounds) = None

abbrev settled_of : Progress → Option (ℕ × List Coord)
settled_of (Over verdict) = settled_in verdict
settled_of (Waiting round choices needs) = None

abbrev resolved : List (FileKey × Reading) → Ask → Progress
resolved known ask = rounds_of (known_of known) ask

-- the newest version counts
pub newest : settled_of (resolved (
    project (codes "a") one (dep (codes "b") one ∷ dep (codes "c") (codes "1.9") ∷ [])
    ∷ project (codes "b") one (dep (codes "c") (codes "1.10") ∷ [])
    ∷ project (codes "c") (codes "1.9") []
    ∷ project (codes "c") (codes "1.10") []
    ∷ []) of_a) ≡ Some (4, x1 (codes "a") ∷ x1 (codes "b") ∷ x (codes "c") (codes "1.10") ∷ [])
unfolding filled fill_in line_of managed_rows filled_deps effective_of
newest = refl

-- m is reached without s and without t: s stays by one path, and then t is left out by that path
pub two_exclusions : settled_of (resolved (
    project (codes "a") one (dep (codes "p") one ∷ dep (codes "q") one ∷ [])
    ∷ project (codes "p") one (without (dep (codes "m") one) (codes "s") ∷ [])
    ∷ project (codes "q") one (without (dep (codes "m") one) (codes "t") ∷ [])
    ∷ project (codes "m") one (dep (codes "s") one ∷ [])
    ∷ project (codes "s") one (dep (codes "t") one ∷ [])
    ∷ project (codes "t") one []
    ∷ []) of_a) ≡ Some (5, x1 (codes "a") ∷ x1 (codes "m") ∷ x1 (codes "p") ∷ x1 (codes "q") ∷ x1 (codes "s") ∷ [])
unfolding filled fill_in line_of managed_rows filled_deps effective_of
two_exclusions = refl

-- a version that comes and goes
pub endless : resolved (
    project (codes "a") one (dep (codes "d") one ∷ [])
    ∷ project (codes "d") one (dep (codes "a") two ∷ [])
    ∷ project (codes "a") two []
    ∷ []) (record of_a { rounds = 10 }) ≡ Over (Unsettled 10)
unfolding filled fill_in line_of managed_rows filled_deps effective_of
endless = refl

abbrev chain : List (FileKey × Reading)
chain =
    project (codes "a") one (dep (codes "b") one ∷ [])
    ∷ project (codes "b") one (dep (codes "c") one ∷ [])
    ∷ project (codes "c") one (dep (codes "d") one ∷ [])
    ∷ project (codes "d") one []
    ∷ []

pub settles_at_the_limit : settled_of (resolved chain (record of_a { rounds = 5 }))
    ≡ Some (5, x1 (codes "a") ∷ x1 (codes "b") ∷ x1 (codes "c") ∷ x1 (codes "d") ∷ [])
unfolding filled fill_in line_of managed_rows filled_deps effective_of
settles_at_the_limit = refl

pub past_the_limit : resolved chain (record of_a { rounds = 4 }) ≡ Over (Unsettled 4)
unfolding filled fill_in line_of managed_rows filled_deps effective_of
past_the_limit = refl

abbrev listed : List DepRecord → Progress
listed deps = resolved (
    listing (codes "m") (codes "0.9" ∷ codes "1.0" ∷ codes "1.5" ∷ two ∷ [])
    ∷ project (codes "m") (codes "1.5") []
    ∷ project (codes "a") one (dep (codes "b") one ∷ dep (codes "m") (codes "[1.0,2.0)") ∷ [])
    ∷ project (codes "b") one deps
    ∷ []) of_a

-- the greatest listed version in the interval, also where a lower one is asked for
pub listed_version : settled_of (listed (dep (codes "m") (codes "0.9") ∷ []))
    ≡ Some (3, x1 (codes "a") ∷ x1 (codes "b") ∷ x (codes "m") (codes "1.5") ∷ [])
unfolding filled fill_in line_of managed_rows filled_deps effective_of
listed_version = refl

-- the clash, with all that is asked
pub above_the_interval : listed (dep (codes "m") (codes "2.0") ∷ []) ≡ Over (Clashes (record {
  «module» = module_of (codes "x") (codes "m");
  clash = Above 1;
  requests =
      record { text = codes "[1.0,2.0)"; «from» = Project (x1 (codes "a")) } ∷ record {
        text = codes "2.0";
        «from» =
            Project (x1 (codes "b"));
      } ∷ [];
} ∷ []))
unfolding filled fill_in line_of managed_rows filled_deps effective_of
above_the_interval = refl

-- a listing is needed once no project is
pub needs_a_listing : resolved (project (codes "a") one (dep (codes "m") (codes "[1,2)") ∷ []) ∷ []) of_a
    ≡ Waiting 1 (record { rows = record { «module» = module_of (codes "x") (codes "a"); choice = Version one } ∷ [] })
    (key_of 0 roles.Listing (codes "x/m/maven-metadata.xml") ∷ [])
unfolding filled fill_in line_of managed_rows filled_deps effective_of
needs_a_listing = refl

-- the exclusions of the words do not bar the roots
pub roots_stay : settled_of
    (resolved (project (codes "a") one [] ∷ []) (record of_a {
      excludes =
          record { org = codes "x"; name = codes "a" } ∷ [];
    })) ≡ Some (2, x1 (codes "a") ∷ [])
unfolding filled fill_in line_of managed_rows filled_deps effective_of
roots_stay = refl

-- ---- managed versions that reach the whole graph

abbrev managed_world : List (FileKey × Reading)
managed_world =
    managing (codes "a") (dep (codes "m") two ∷ []) (dep (codes "b") one ∷ [])
    ∷ managing (codes "i") (dep (codes "m") one ∷ []) []
    ∷ project (codes "b") one (dep (codes "m") one ∷ [])
    ∷ project (codes "c") one (dep (codes "m") two ∷ [])
    ∷ project (codes "m") one []
    ∷ project (codes "m") two []
    ∷ []

-- the root's managed version goes over what another project asks for
pub managed_by_the_root : settled_of (resolved managed_world of_a)
    ≡ Some (4, x1 (codes "a") ∷ x1 (codes "b") ∷ x (codes "m") two ∷ [])
unfolding filled fill_in line_of managed_rows filled_deps effective_of
managed_by_the_root = refl

-- a BOM of the words counts before the roots
pub managed_by_a_bom : settled_of (resolved managed_world (record of_a { boms = x1 (codes "i") ∷ [] }))
    ≡ Some (4, x1 (codes "a") ∷ x1 (codes "b") ∷ x1 (codes "m") ∷ [])
unfolding filled fill_in line_of managed_rows filled_deps effective_of
managed_by_a_bom = refl

-- what a root's module asks for by itself stays
pub own_text_stays : settled_of
    (resolved managed_world (record (asked (x1 (codes "c") ∷ []) 200) { boms = x1 (codes "i") ∷ [] }))
    ≡ Some (3, x1 (codes "c") ∷ x (codes "m") two ∷ [])
unfolding filled fill_in line_of managed_rows filled_deps effective_of
own_text_stays = refl
