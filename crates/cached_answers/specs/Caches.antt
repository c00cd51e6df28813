-- What the cache says of keys over an image of its disk: the reading that the table of decisions uses, where it uses one.
use Rattle.std.specs.Prelude.{ℕ, Bool, ◌&&◌, List, [], Option, Some, None, if◌then◌else◌, nat_lt, slice_get, unwrap_or}
use Rattle.std.specs.List.{list_all}
use Rattle.std.specs.Option.{option_map}
use Rattle.answer_reading.specs.Readings.{reading_of}
use Rattle.cache_layout.specs.Addresses.{is_address}
use Rattle.cache_layout.specs.Names.{name_of}
use Rattle.cache_layout.specs.declared.record.Found.{Found}
use Rattle.cache_layout.specs.declared.record.Found.TheVariants.{Broken, Gone, Nothing, Whole}
use Rattle.cache_policy.specs.Decisions.{decision}
use Rattle.cache_policy.specs.declared.Decision.{Decision}
use Rattle.cache_policy.specs.declared.Decision.TheVariants.{Use, Ask, Unavailable}
use Rattle.cache_reads.specs.Finds.{found_in}
use Rattle.digest_check.specs.KeyAnswers.{within_limit}
use Rattle.disk_base.specs.Images.{Image}
use Rattle.pool_rules.specs.Plans.{is_changing, limit_in, url_in}
use Rattle.pool_rules.specs.declared.plan.Plan.{Plan}
use Rattle.res_base.specs.Known.{Known}
use Rattle.res_base.specs.declared.key.FileKey.{FileKey}
use Rattle.res_base.specs.declared.reading.Answer.{Answer}
use Rattle.res_base.specs.declared.reading.Answer.TheVariants as answers
use Rattle.res_base.specs.declared.reading.Reading.{Reading}

-- the address of a key's repository
abbrev pub address_at : Plan → FileKey → List ℕ
address_at plan key = unwrap_or (slice_get plan.addresses key.repo) []

-- the name of a key's file in the cache
abbrev pub name_at : Plan → FileKey → List ℕ
name_at plan key = name_of (url_in plan key)

-- the key is of a repository whose address reads, and its URL is a text of bytes
abbrev pub has_name : Plan → FileKey → Bool
has_name plan key = is_address (address_at plan key) && list_all (λ byte. nat_lt byte 256) (url_in plan key)

-- what is found of the key
abbrev pub found_at : Plan → FileKey → Image → Found
found_at plan key i = found_in i (name_at plan key)

-- what is done for a key of which this is found
abbrev pub decided : Plan → FileKey → Found → Decision
decided plan key found = decision plan.mode (is_changing key) found plan.checks plan.moment plan.ttl

abbrev pub decided_at : Plan → FileKey → Image → Decision
decided_at plan key i = decided plan key (found_at plan key i)

-- data answers with its bytes, unless they are more than the limit; an absence answers as such
abbrev pub answer_of : Plan → FileKey → Found → Option (List ℕ) → Option Answer
answer_of plan key (Whole entry) None = None
answer_of plan key (Whole entry) (Some bytes) = Some (within_limit (limit_in plan key) bytes (answers.Bytes bytes))
answer_of plan key (Gone moment) bytes = Some answers.Absent
answer_of plan key Nothing bytes = None
answer_of plan key (Broken wanted got) bytes = None

abbrev pub if_used : Decision → Option Answer → Option Answer
if_used Use answer = answer
if_used Ask answer = None
if_used Unavailable answer = None

-- the answer that is used over an image, if one is
abbrev pub used_at : Plan → FileKey → Image → Option Answer
used_at plan key i = if_used (decided_at plan key i) (answer_of plan key (found_at plan key i) (i (name_at plan key)))

-- all that the cache says
abbrev pub cached : Plan → Image → Known
cached plan i key = if has_name plan key then option_map (reading_of key.role) (used_at plan key i) else None
