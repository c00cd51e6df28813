-- Whole data is bound.
use Rattle.std.proofs.Common.{ℕ, ◌≡◌, List, Option, Some, None, refl, sym, ◌∙◌}
use Rattle.std.specs.Prelude.{IsSome, option_and_then}
use Rattle.std.specs.Option.{option_map}
use Rattle.cache_layout.specs.Readings.{gone_in}
use Rattle.cache_layout.specs.declared.record.Found.{Found}
use Rattle.cache_layout.specs.declared.record.Found.TheVariants.{Whole}
use Rattle.cache_layout.specs.declared.record.Record.{Record}
use Rattle.cache_reads.specs.Finds.{absence_found, found_of}
use Rattle.disk_base.specs.Names.{IsBoundIn, Names, bytes_of}
use Rattle.disk_base.specs.declared.contents.Content.{Content}
use Rattle.file_fetch.specs.Decided.{IsFoundIn}

unfound : (absent : Option ℕ) (entry : Record) → absence_found absent ≡ Whole entry → ⊥
unfound None entry e = let no : ⊥ = cc in no
unfound (Some moment) entry e = let no : ⊥ = cc in no

found_there : (o : Option Content) (line absent : Option (List ℕ)) (entry : Record)
    → found_of (option_map bytes_of o) line absent ≡ Whole entry → IsSome o
found_there None line absent entry e = absurd (unfound (option_and_then gone_in absent) entry e)
found_there (Some c) line absent entry e = refl

-- whole data is bound
pub whole_bound : (told : Option Names) (name : List ℕ) (found : Found) (entry : Record) → IsFoundIn told name found
    → found ≡ Whole entry → IsBoundIn told name
whole_bound told name found entry is e = record {
  bound = λ s tells. found_there (s name).present _ _ entry (sym (is.is s tells) ∙ e);
}
