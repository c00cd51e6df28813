-- The sequences of disk calls by which the cache changes.
use Rattle.std.specs.Prelude.{ℕ, Bool, true, false, List, [], ◌∷◌, ◌++◌, map}
use Rattle.cache_images.specs.Places.{gone_name, part_name, record_name, record_part_name}
use Rattle.disk_base.specs.declared.steps.DiskStep.{DiskStep}
use Rattle.disk_base.specs.declared.steps.DiskStep.TheVariants.{Start, Append, Sync, Rename, Remove, SyncNames}

-- a file is written as a part, and gets its name once it is firm
abbrev pub put_steps : List ℕ → List ℕ → List ℕ → List DiskStep
put_steps part name bytes = Start part ∷ Append part bytes ∷ Sync part ∷ Rename part name ∷ SyncNames ∷ []

-- two names are taken away
abbrev pub take_steps : List ℕ → List ℕ → List DiskStep
take_steps name other = Remove name ∷ Remove other ∷ SyncNames ∷ []

-- the two names, where something stands under one of them; where nothing does, no sync is paid
abbrev pub clear_steps : Bool → List ℕ → List ℕ → List DiskStep
clear_steps true name other = take_steps name other
clear_steps false name other = []

-- a part that is firm gets its name
abbrev pub publish_steps : List ℕ → List ℕ → List DiskStep
publish_steps part name = Rename part name ∷ SyncNames ∷ []

-- The part gets firm; the old data and the absence record are taken away for good; only then the new record comes. So no
-- crash leaves old data beside a new record. The part itself gets its name later, by `publish_steps`, and then its record
-- stands for good.
abbrev pub seal_list : Bool → List ℕ → List ℕ → List ℕ → List ℕ → List ℕ → List ℕ → List DiskStep
seal_list there part name gone record_part entry line =
    Sync part ∷ (clear_steps there name gone ++ put_steps record_part entry line)

abbrev pub seal_steps : Bool → ℕ → List ℕ → List ℕ → List DiskStep
seal_steps there number name line =
    seal_list there (part_name number) name (gone_name name) (record_part_name number) (record_name name) line

-- data is taken away for good before its absence is told
abbrev pub gone_list : Bool → List ℕ → List ℕ → List ℕ → List ℕ → List DiskStep
gone_list there name gone part line = clear_steps there name gone ++ put_steps part gone line

abbrev pub gone_steps : Bool → ℕ → List ℕ → List ℕ → List DiskStep
gone_steps there number name line = gone_list there name (gone_name name) (record_part_name number) line

-- the names are synced, so that the file shows one content; then another line for it comes
abbrev pub upgrade_list : List ℕ → List ℕ → List ℕ → List DiskStep
upgrade_list record_part entry line = SyncNames ∷ put_steps record_part entry line

abbrev pub upgrade_steps : ℕ → List ℕ → List ℕ → List DiskStep
upgrade_steps number name line = upgrade_list (record_part_name number) (record_name name) line

abbrev pub removed : List (List ℕ) → List DiskStep
removed names = map Remove names

-- what is left of parts is removed, and the names are synced, so that nothing which an earlier run took away comes back
abbrev pub open_steps : List (List ℕ) → List DiskStep
open_steps names = removed names ++ SyncNames ∷ []
