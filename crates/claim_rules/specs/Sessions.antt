-- Sessions: what is needed, what may be asked for beside it, and when nothing is left to do.
use Rattle.std.specs.Prelude.{ℕ, ◌+◌, ◌-◌, zero, suc, Bool, false, not, if◌then◌else◌, List, [], ◌∷◌, ◌++◌}
use Rattle.std.specs.List.{filter, flat_map, list_all}
use Rattle.std.specs.Option.{is_some}
use Rattle.claim_rules.specs.Resolvers.{Standing, waiting, given, Resolver}
use Rattle.claim_rules.specs.declared.settings.Settings.{Settings}
use Rattle.res_base.specs.Builders.{key_of}
use Rattle.res_base.specs.Known.{Known}
use Rattle.res_base.specs.declared.key.FileKey.{FileKey}
use Rattle.res_base.specs.declared.key.Role.{Role}
use Rattle.res_base.specs.declared.key.Role.TheVariants.{Pom, Listing, Artifact}

abbrev pub is_known : Known → FileKey → Bool
is_known known key = is_some (known key)

abbrev pub needs_at : {V : Type 0} → Standing V → (V → List FileKey) → Known → List FileKey
needs_at (waiting keys) files known = keys
needs_at (given verdict) files known = filter (λ key. not (is_known known key)) (files verdict)

-- what rounds wait for; with a verdict, the artifacts that it wants and that are not known
abbrev pub needs : {V : Type 0} → Resolver V → Known → List FileKey
needs r known = needs_at (r.rounds known) r.files known

abbrev pub is_over_at : {V : Type 0} → Standing V → (V → List FileKey) → Known → Bool
is_over_at (waiting keys) files known = false
is_over_at (given verdict) files known = list_all (is_known known) (files verdict)

-- there is a verdict, and all artifacts that it wants are known
abbrev pub is_over : {V : Type 0} → Resolver V → Known → Bool
is_over r known = is_over_at (r.rounds known) r.files known

-- the keys of a role and a path in so many repositories, from one on
abbrev pub keys_from : ℕ → ℕ → Role → List ℕ → List FileKey
keys_from zero repo role path = []
keys_from (suc left) repo role path = key_of repo role path ∷ keys_from left (repo + 1) role path

abbrev pub unless_artifact : Role → List FileKey → List FileKey
unless_artifact Pom keys = keys
unless_artifact Listing keys = keys
unless_artifact Artifact keys = []

-- for a POM or a listing, the same file in all later repositories
abbrev pub later_keys : ℕ → FileKey → List FileKey
later_keys repos key =
    unless_artifact key.role (keys_from (repos - (key.repo + 1)) (key.repo + 1) key.role key.path)

-- an eager session asks for the needs in later repositories too
abbrev pub with_later : Settings → List FileKey → List FileKey
with_later s keys = if s.eager then flat_map (later_keys s.repos) keys else []

abbrev pub hints : {V : Type 0} → Settings → Resolver V → Known → List FileKey
hints s r known = with_later s (needs r known)

abbrev pub files_at : {V : Type 0} → Standing V → (V → List FileKey) → List FileKey
files_at (waiting keys) files = []
files_at (given verdict) files = files verdict

-- All at which rounds look, and the artifacts that their verdict wants. Over all answers of a world these are the keys
-- that are needed.
abbrev pub needed : {V : Type 0} → Resolver V → Known → List FileKey
needed r known = r.reads known ++ files_at (r.rounds known) r.files

-- with what an eager session may ask for beside them
abbrev pub touched : {V : Type 0} → Settings → Resolver V → Known → List FileKey
touched s r known = needed r known ++ with_later s (needed r known)
