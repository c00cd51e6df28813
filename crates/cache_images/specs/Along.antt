-- That every image along the cache's sequences of calls is good.
use Rattle.std.specs.Prelude.{ℕ, ◌≡◌, Bool, false, List, [], ◌∷◌, Option, Some}
use Rattle.cache_images.specs.Leaves.{IsAbsent, IsSealed}
use Rattle.cache_images.specs.Places.{IsDataName, IsPartName, gone_name, part_name}
use Rattle.cache_images.specs.Sequences.{clear_steps, gone_steps, open_steps, publish_steps, seal_steps, upgrade_steps}
use Rattle.cache_images.specs.Sound.{EachFile}
use Rattle.disk_base.specs.Images.{Image, IsImage, MayShow}
use Rattle.disk_base.specs.Names.{Names, settled}
use Rattle.disk_base.specs.Runs.{AllAlong}
use Rattle.disk_base.specs.declared.steps.DiskStep.{DiskStep}
use Rattle.res_base.specs.Members.{Among}
use Rattle.disk_base.specs.declared.steps.DiskStep.TheVariants.{Append, Remove, Start, SyncNames}

-- what is wanted of a data file with its record, and of an absence record; soundness and faithfulness are of this form
module _ (Fits : List ℕ → List ℕ → Option (List ℕ) → Type 0) (Gone : List ℕ → List ℕ → Type 0) where
  abbrev pub AllGood : Names → Type 0
  AllGood s = (i : Image) → IsImage s i → EachFile Fits Gone i

  abbrev pub Along : List DiskStep → Names → Type 0
  Along steps s = AllAlong (EachFile Fits Gone) steps s

  pub record GoodAlong : Type 0 where
    pub starts : (s : Names) (p : List ℕ) → IsPartName p → AllGood s → Along (Start p ∷ []) s
    pub appends : (s : Names) (p bytes : List ℕ) → IsPartName p → AllGood s → Along (Append p bytes ∷ []) s
    pub drops : (s : Names) (p : List ℕ) → IsPartName p → AllGood s → Along (Remove p ∷ []) s
    pub syncs : (s : Names) → AllGood s → Along (SyncNames ∷ []) s
    pub takes : (s : Names) (there : Bool) (n : List ℕ) → IsDataName n → AllGood s
        → Along (clear_steps there n (gone_name n)) s
    pub seals : (s : Names) (there : Bool) (k : ℕ) (n line : List ℕ) → IsDataName n
        → (there ≡ false → IsAbsent (s n)) → AllGood s → Along (seal_steps there k n line) s
    pub publishes : (s : Names) (k : ℕ) (n : List ℕ) (sealed : IsSealed s k n) → Fits n sealed.bytes (Some sealed.line)
        → AllGood s → Along (publish_steps (part_name k) n) s
    pub tells_absence : (s : Names) (there : Bool) (k : ℕ) (n line : List ℕ) → IsDataName n → Gone n line → AllGood s
        → Along (gone_steps there k n line) s
    pub upgrades : (s : Names) (k : ℕ) (n line : List ℕ) → IsDataName n
        → ((d : List ℕ) → MayShow (settled (s n)) (Some d) → Fits n d (Some line)) → AllGood s
        → Along (upgrade_steps k n line) s
    pub opens : (s : Names) (names : List (List ℕ)) → ((p : List ℕ) → Among p names → IsPartName p) → AllGood s
        → Along (open_steps names) s
