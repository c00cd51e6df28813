-- Choices by name.
use Rattle.std.specs.Prelude.{ℕ, Bool, true, false, List, Option, Some, None, Ok, if◌then◌else◌, codes}
use Rattle.res_base.specs.Names.{text_eq}
use Rattle.cache_policy.specs.declared.Mode.{Mode}
use Rattle.cache_policy.specs.declared.Mode.TheVariants as mode
use Rattle.reconcile_rules.specs.declared.request.Rule.{Rule}
use Rattle.reconcile_rules.specs.declared.request.Rule.TheVariants as rule
use Rattle.scope_rules.specs.declared.scopes.Configuration.{Configuration}
use Rattle.scope_rules.specs.declared.scopes.Configuration.TheVariants as configuration
use Rattle.word_values.specs.Refusals.{Read, or_refused}
use Rattle.word_values.specs.declared.job.Command.{Command}
use Rattle.word_values.specs.declared.job.Command.TheVariants.{Resolve, Fetch, Sample}
use Rattle.word_values.specs.declared.job.Output.{Output}
use Rattle.word_values.specs.declared.job.Output.TheVariants.{Plain, Tree, Json, Classpath}
use Rattle.word_values.specs.declared.job.Pool.{Pool}
use Rattle.word_values.specs.declared.job.Pool.TheVariants as pool
use Rattle.word_values.specs.declared.refusals.WordKind.{WordKind}
use Rattle.word_values.specs.declared.refusals.WordKind.TheVariants as kind

abbrev pub configuration_in : List ℕ → Option Configuration
configuration_in text =
    if text_eq text (codes "default") then Some configuration.Default else
    if text_eq text (codes "compile") then Some configuration.Compile else
    if text_eq text (codes "runtime") then Some configuration.Runtime else None

abbrev pub rule_in : List ℕ → Option Rule
rule_in text =
    if text_eq text (codes "default") then Some rule.Default else
    if text_eq text (codes "relaxed") then Some rule.Relaxed else
    if text_eq text (codes "strict") then Some rule.Strict else
    if text_eq text (codes "semver") then Some rule.Semver else None

abbrev pub mode_in : List ℕ → Option Mode
mode_in text =
    if text_eq text (codes "missing") then Some mode.Missing else
    if text_eq text (codes "offline") then Some mode.Offline else
    if text_eq text (codes "refresh") then Some mode.Refresh else None

abbrev pub pool_in : List ℕ → Option Pool
pool_in text =
    if text_eq text (codes "board") then Some pool.Board else
    if text_eq text (codes "wave") then Some pool.Wave else None

abbrev pub switch_in : List ℕ → Option Bool
switch_in text = if text_eq text (codes "on") then Some true else if text_eq text (codes "off") then Some false else None

abbrev pub resolve_output : List ℕ → Option Output
resolve_output text =
    if text_eq text (codes "plain") then Some Plain else
    if text_eq text (codes "tree") then Some Tree else
    if text_eq text (codes "json") then Some Json else None

abbrev pub fetch_output : List ℕ → Option Output
fetch_output text =
    if text_eq text (codes "plain") then Some Plain else
    if text_eq text (codes "classpath") then Some Classpath else
    if text_eq text (codes "json") then Some Json else None

-- what a command may print
abbrev pub output_in : Command → List ℕ → Option Output
output_in Resolve text = resolve_output text
output_in Fetch text = fetch_output text
output_in Sample text = None

-- the case that is given for an option, or the usual one where none is
abbrev pub choice_given : {A : Type 0} → WordKind → A → (List ℕ → Option A) → Option (List ℕ) → Read A
choice_given k usual named None = Ok usual
choice_given k usual named (Some text) = or_refused k (named text)

abbrev pub output_given : Command → (List ℕ → Option (List ℕ)) → Read Output
output_given command given = choice_given kind.Output Plain (output_in command) (given (codes "output"))
