-- What is counted of a link and of a disk, and what may be counted for a file.
use Rattle.std.specs.Prelude.{ℕ, ◌≡◌, ◌⊎◌, ◌≤◌, ◌+◌, ◌++◌, ◌||◌, Bool, List, [], ◌∷◌, Option, Some, None, count_by, if◌then◌else◌}
use Rattle.std.specs.List.{list_any}
use Rattle.std.specs.Option.{option_map}
use Rattle.cache_policy.specs.declared.Mode.TheVariants.{Offline}
use Rattle.digest_check.specs.ChecksumFiles.{suffix_of}
use Rattle.disk_base.specs.declared.disk_errors.DiskCall.{DiskCall}
use Rattle.file_answers.specs.Asking.{IsBeside}
use Rattle.link_base.specs.Links.{FailedLonger}
use Rattle.pool_rules.specs.Plans.{files_in, url_in}
use Rattle.pool_rules.specs.declared.plan.Plan.{Plan}
use Rattle.res_base.specs.Causes.{Rose, count_end}
use Rattle.res_base.specs.Names.{text_eq}
use Rattle.res_base.specs.declared.key.FileKey.{FileKey}
use Rattle.res_base.specs.declared.reading.Check.{Check}
use Rattle.res_base.specs.declared.reading.Check.TheVariants.{Sha1, Md5, Sha256, NoCheck}

-- at one moment: how often the link failed and was asked, the URLs at which it failed, where it tells them, how often
-- the disk failed, and at which call last
pub record Counts : Type 0 where
  pub faults : ℕ
  pub asked : ℕ
  pub failed : Option (List (List ℕ))
  pub disk_faults : ℕ
  pub disk_last : Option DiskCall

-- the counts of a link and a disk, by what these mean
abbrev pub counts_of : {L D : Type 0} → (L → ℕ) → (L → ℕ) → (L → Option (List (List ℕ))) → (D → ℕ)
    → (D → Option DiskCall) → L → D → Counts
counts_of faults asked failed disk_faults disk_last link disk = record {
  faults = faults link;
  asked = asked link;
  failed = failed link;
  disk_faults = disk_faults disk;
  disk_last = disk_last disk;
}

-- no count fell, no failed URL is forgotten, and offline nothing was asked
pub record AreLater (plan : Plan) (before now : Counts) : Type 0 where
  pub faults : before.faults ≤ now.faults
  pub asked : before.asked ≤ now.asked
  pub failed : FailedLonger before.failed now.failed
  pub disk_faults : before.disk_faults ≤ now.disk_faults
  pub silent : plan.mode ≡ Offline → now.asked ≡ before.asked

-- The link failed at a URL of this key. Offline that does not come.
pub record FailsAt (plan : Plan) (key : FileKey) (before now : Counts) : Type 0 where
  pub online : plan.mode ≡ Offline → ⊥
  pub rose : Rose before.faults now.faults
  pub url : (other : List ℕ) × IsBeside (url_in plan key) other
      × (now.failed ≡ option_map (λ urls. urls ++ other ∷ []) before.failed)

-- for one key the link was asked for its files alone, where it may be asked, and else not at all
abbrev pub AsksFiles : Bool → Plan → Counts → Counts → Type 0
AsksFiles may plan before now = now.asked ≤ before.asked + (if may then files_in plan else 0)

-- ---- counts that rise

-- b grows into n at least by what c grows into m; or it stands at its greatest value
abbrev pub RiseBeside : ℕ → ℕ → ℕ → ℕ → Type 0
RiseBeside before now less more = (before + more ≤ now + less) ⊎ (count_end ≤ now)

-- ---- URLs of a key

abbrev pub each_check : List Check
each_check = Sha1 ∷ Md5 ∷ Sha256 ∷ NoCheck ∷ []

-- the URL itself, or that of one of its checksum files
abbrev pub is_beside : List ℕ → List ℕ → Bool
is_beside url other = text_eq other url || list_any (λ check. text_eq other (url ++ suffix_of check)) each_check

-- how many of these URLs are of the key
abbrev pub urls_of : Plan → FileKey → Option (List (List ℕ)) → ℕ
urls_of plan key None = 0
urls_of plan key (Some urls) = count_by (is_beside (url_in plan key)) urls
