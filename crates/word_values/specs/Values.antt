-- The values of a command's options, in the order in which they are read: the first that does not read counts.
use Rattle.std.specs.Prelude.{ℕ, Bool, true, false, List, [], ◌∷◌, Option, None, Ok, Err, codes, length}
use Rattle.cache_policy.specs.declared.Mode.TheVariants.{Missing}
use Rattle.reconcile_rules.specs.declared.request.Rule.TheVariants.{Default as DefaultRule}
use Rattle.res_base.specs.declared.coord.Coord.{Coord}
use Rattle.resolution.specs.declared.ask.Ask.{Ask}
use Rattle.scope_rules.specs.declared.scopes.Configuration.TheVariants.{Default as DefaultConfiguration}
use Rattle.word_values.specs.Addresses.{addresses_given}
use Rattle.word_values.specs.Checks.{checks_given}
use Rattle.word_values.specs.Choices.{choice_given, configuration_in, mode_in, output_given, pool_in, rule_in, switch_in}
use Rattle.word_values.specs.Coordinates.{bom_in, forced_in, root_in}
use Rattle.word_values.specs.Exclusions.{exclusion_in}
use Rattle.word_values.specs.Members.{list_given, members_in}
use Rattle.word_values.specs.Numbers.{number_given}
use Rattle.word_values.specs.Prefixes.{prefix_given}
use Rattle.word_values.specs.Refusals.{Read, ◌>>=◌}
use Rattle.word_values.specs.declared.job.Command.{Command}
use Rattle.word_values.specs.declared.job.Command.TheVariants.{Fetch}
use Rattle.word_values.specs.declared.job.Job.{Job}
use Rattle.word_values.specs.declared.job.Pool.TheVariants.{Board}
use Rattle.word_values.specs.declared.refusals.WordKind.TheVariants as kind
use Rattle.word_values.specs.declared.refusals.WordsErr.TheVariants.{BadWords}
use Rattle.word_values.specs.declared.values.Cache.{Cache}
use Rattle.word_values.specs.declared.values.Links.{Links}
use Rattle.word_values.specs.declared.values.Rules.{Rules}
use Rattle.word_values.specs.declared.values.Shows.{Shows}

-- the texts that are given for options, by their names
abbrev pub Texts : Type 0
Texts = List ℕ → Option (List ℕ)

unfoldable pub rules_given : Texts → Read Rules
rules_given given = do
  configuration ← choice_given kind.Configuration DefaultConfiguration configuration_in (given (codes "configuration"))
  rule ← choice_given kind.Rule DefaultRule rule_in (given (codes "rule"))
  forced ← list_given kind.Force forced_in (given (codes "force"))
  boms ← list_given kind.Bom bom_in (given (codes "bom"))
  excludes ← list_given kind.Exclude exclusion_in (given (codes "exclude"))
  rounds ← number_given kind.Rounds 1 1000 200 (given (codes "rounds"))
  Ok (record { configuration = configuration; rule = rule; forced = forced; boms = boms; excludes = excludes; rounds = rounds })

unfoldable pub links_given : Texts → Read Links
links_given given = do
  parallel ← number_given kind.Parallel 1 16 6 (given (codes "parallel"))
  retries ← number_given kind.Retries 0 3 1 (given (codes "retries"))
  checks ← checks_given given
  Ok (record { parallel = parallel; retries = retries; checks = checks })

unfoldable pub cache_given : Texts → Read Cache
cache_given given = do
  mode ← choice_given kind.Mode Missing mode_in (given (codes "mode"))
  ttl ← number_given kind.Ttl 0 31536000 86400 (given (codes "ttl"))
  pool ← choice_given kind.Pool Board pool_in (given (codes "pool"))
  eager ← choice_given kind.Eager false switch_in (given (codes "eager"))
  limit ← number_given kind.Limit 1 4294967296 4294967296 (given (codes "limit"))
  Ok (record { mode = mode; ttl = ttl; pool = pool; eager = eager; limit = limit })

unfoldable pub shows_given : Command → Texts → Read Shows
shows_given command given = do
  output ← output_given command given
  prefix ← prefix_given given
  Ok (record { output = output; prefix = prefix })

-- a command without roots does not fit its options
abbrev pub roots_given : List (List ℕ) → Read (List Coord)
roots_given [] = Err (BadWords kind.Usage 0)
roots_given (root ∷ roots) = members_in kind.Roots root_in (root ∷ roots)

abbrev pub wants_files : Command → Bool
wants_files Fetch = true
wants_files _ = false

abbrev pub ask_from : Command → ℕ → Rules → List Coord → Ask
ask_from command repos rules roots = record {
  roots = roots;
  forced = rules.forced;
  boms = rules.boms;
  excludes = rules.excludes;
  configuration = rules.configuration;
  rule = rules.rule;
  rounds = rules.rounds;
  repos = repos;
  files = wants_files command;
}

abbrev pub job_from : Command → List (List ℕ) → Rules → Links → Cache → Shows → List Coord → Job
job_from command addresses rules links cache shows roots = record {
  command = command;
  ask = ask_from command (length addresses) rules roots;
  addresses = addresses;
  parallel = links.parallel;
  retries = links.retries;
  checks = links.checks;
  mode = cache.mode;
  ttl = cache.ttl;
  pool = cache.pool;
  eager = cache.eager;
  limit = cache.limit;
  output = shows.output;
  prefix = shows.prefix;
  sample = None;
}

-- the job of `resolve` or `fetch`, from the texts of its options and of its roots
unfoldable pub job_given : Command → Texts → List (List ℕ) → Read Job
job_given command given texts = do
  addresses ← addresses_given given
  rules ← rules_given given
  links ← links_given given
  cache ← cache_given given
  shows ← shows_given command given
  roots ← roots_given texts
  Ok (job_from command addresses rules links cache shows roots)
