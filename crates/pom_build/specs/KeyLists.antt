-- Keys in a list, and a table of the same keys.
use Rattle.std.specs.BTreeMap.{BTreeMap, get}
use Rattle.std.specs.List.{list_any}
use Rattle.std.specs.Prelude.{◌≡◌, ⊤, List, is_some}
use Rattle.res_base.specs.Names.{key_cmp, key_eq}
use Rattle.res_base.specs.declared.key.FileKey.{FileKey}

-- the table has the keys of the list, and no other
abbrev pub HasKeys : List FileKey → BTreeMap FileKey (Unit {0}) → Type 0
HasKeys keys among = (key : FileKey) → is_some (get key_cmp among key) ≡ list_any (key_eq key) keys
