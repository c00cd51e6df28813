-- Why a reading is not put in.
use Rattle.std.specs.Prelude.{◌≡◌, None, Some, List}
use Rattle.res_base.specs.Known.{known_of}
use Rattle.res_base.specs.declared.key.FileKey.{FileKey}
use Rattle.res_base.specs.declared.reading.Reading.{Reading}
use Rattle.project_lookup.specs.KnownPairs.{place_of}
use Rattle.project_lookup.specs.declared.known.InsertErr.{InsertErr}
use Rattle.project_lookup.specs.declared.known.InsertErr.TheVariants.{AlreadyKnown, NoMemory}

-- the key is known, by the pair at the place; out of memory only for a key that is not. The reading comes back.
abbrev pub IsRefusal : List (FileKey × Reading) → FileKey → Reading → InsertErr → Type 0
IsRefusal pairs key reading (AlreadyKnown place back) = (place_of pairs key ≡ Some place) × (back ≡ reading)
IsRefusal pairs key reading (NoMemory back) = (known_of pairs key ≡ None) × (back ≡ reading)
