-- A disk that was opened as a store.
use Rattle.std.specs.Prelude.{ℕ, ◌≡◌, true, false, List, Option, Some, None, Result, Ok, Err, codes, nat_eq}
use Rattle.std.specs.List.{starts_with}
use Rattle.disk_base.specs.Names.{Names, read_name}
use Rattle.cache_store.specs.declared.errors.OpenFault.{OpenFault}
use Rattle.cache_store.specs.declared.errors.StoreErr.{StoreErr}
use Rattle.cache_store.specs.declared.store.Store.{Store}

module _ {D : Type 0} where
  abbrev pub disk_after : Result (Store D) (OpenFault D) → D
  disk_after (Ok store) = store.disk
  disk_after (Err fault) = fault.disk

  abbrev pub without_disk : Result (Store D) (OpenFault D) → Result (Store D) StoreErr
  without_disk (Ok store) = Ok store
  without_disk (Err fault) = Err fault.err

  -- the parts are unbound, and all other names read as they did
  pub record IsCleared (told : D → Option Names) (old new : D) : Type 0 where
    pub parts : (s after : Names) → told old ≡ Some s → told new ≡ Some after
        → (name : List ℕ) → starts_with nat_eq name (codes "parts/") ≡ true → read_name after name ≡ None
    pub others : (s after : Names) → told old ≡ Some s → told new ≡ Some after
        → (name : List ℕ) → starts_with nat_eq name (codes "parts/") ≡ false → read_name after name ≡ read_name s name
