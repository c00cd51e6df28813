-- Filling the texts of rows.
use Rattle.std.specs.Prelude.{ℕ, List, map}
use Rattle.res_base.specs.declared.pom.DepRecord.{DepRecord}
use Rattle.res_base.specs.declared.pom.Exclusion.{Exclusion}
use Rattle.res_base.specs.declared.pom.Moved.{Moved}
use Rattle.row_lists.specs.RowLists.{last_of_key}

module _ (fill : List ℕ → List ℕ) where
  abbrev pub filled_exclusion : Exclusion → Exclusion
  filled_exclusion rule = record { org = fill rule.org; name = fill rule.name }

  abbrev pub filled_row : DepRecord → DepRecord
  filled_row row =
      record {
        «module» = record { org = fill row.«module».org; name = fill row.«module».name };
        version = fill row.version;
        kind = fill row.kind;
        classifier = fill row.classifier;
        scope = fill row.scope;
        optional = fill row.optional;
        exclusions = map filled_exclusion row.exclusions;
      }

  -- keys may become one when they are filled, and then the last counts again
  abbrev pub filled_rows : List DepRecord → List DepRecord
  filled_rows rows = last_of_key (map filled_row rows)

  abbrev pub filled_moved : Moved → Moved
  filled_moved to = record { org = fill to.org; name = fill to.name; version = fill to.version }
