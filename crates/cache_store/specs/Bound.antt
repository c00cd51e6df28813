-- What is found where there is data.
use Rattle.std.specs.Prelude.{Bool, true, false}
use Rattle.cache_layout.specs.declared.record.Found.{Found}
use Rattle.cache_layout.specs.declared.record.Found.TheVariants.{Broken, Gone, Nothing, Whole}

-- data stands under the name, whole or not
abbrev pub has_data : Found → Bool
has_data (Whole entry) = true
has_data (Broken wanted got) = true
has_data (Gone moment) = false
has_data Nothing = false
