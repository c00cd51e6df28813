-- What is done for a key, by what the cache has of it.
use Rattle.std.specs.Prelude.{ℕ, ◌≡◌, List, Option, nat_lt, if◌then◌else◌}
use Rattle.std.specs.Option.{ForSome}
use Rattle.cache_layout.specs.declared.record.Found.{Found}
use Rattle.cache_policy.specs.Decisions.{decision}
use Rattle.cache_policy.specs.declared.Decision.{Decision}
use Rattle.cache_reads.specs.Finds.{found_in}
use Rattle.disk_base.specs.Images.{Image}
use Rattle.disk_base.specs.Names.{Names, read_name}
use Rattle.res_base.specs.Names.{role_eq}
use Rattle.res_base.specs.declared.key.FileKey.{FileKey}
use Rattle.res_base.specs.declared.key.Role.{Role}
use Rattle.res_base.specs.declared.key.Role.TheVariants.{Artifact}
use Rattle.res_base.specs.declared.reading.Answer.{Answer}
use Rattle.res_base.specs.declared.reading.Answer.TheVariants.{Bytes, Stored, TooLarge}
use Rattle.pool_rules.specs.Plans.{is_changing}
use Rattle.file_fetch.specs.Keys.{name_in}
use Rattle.pool_rules.specs.declared.plan.Plan.{Plan}

-- what is done where the cache has this of the key
abbrev pub decided : Plan → FileKey → Found → Decision
decided plan key found = decision plan.mode (is_changing key) found plan.checks plan.moment plan.ttl

-- what is done for the key over an image of the cache
abbrev pub decided_in : Plan → FileKey → Image → Decision
decided_in plan key i = decided plan key (found_in i (name_in plan key))

-- this is found under the name, where the disk tells its names
pub record IsFoundIn (told : Option Names) (name : List ℕ) (found : Found) : Type 0 where
  pub is : ForSome told (λ s. found ≡ found_in (read_name s) name)

-- what data of this length answers where it is used
abbrev pub used_of : ℕ → Role → ℕ → List ℕ → Answer
used_of limit role size bytes =
    if nat_lt limit size then TooLarge else (if role_eq role Artifact then Stored size else Bytes bytes)
