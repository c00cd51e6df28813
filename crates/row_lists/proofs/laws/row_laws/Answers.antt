use Rattle.std.specs.Prelude.{[]}
use Rattle.std.specs.List.{IsDistinct}
use Rattle.std.proofs.Common.{subst, filter}
use Rattle.row_lists.specs.RowLists.{last_of_key, row_key_eq}
use Rattle.row_lists.proofs.RowLemmas.{equal_keys, none_alike, with_imported-last}
use Rattle.row_lists.proofs.FoundLemmas.{distinct_imported, found_imported}
use Rattle.row_lists.proofs.laws.row_laws.Goals as goal

pub returns : goal.returns
returns c =
    record {
      keys = equal_keys;
      last = with_imported-last;
      apart = λ chosen rows. subst (IsDistinct row_key_eq) (with_imported-last chosen rows) (distinct_imported [] (filter chosen (last_of_key rows)) none_alike);
      distinct = distinct_imported;
      found = found_imported;
    }
