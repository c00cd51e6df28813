-- What holds of every job that is read.
use Rattle.std.specs.Prelude.{◌≡◌, ◌≤◌, ℕ, Bool, true, false, List, [], ◌∷◌, ◌++◌, Option, Some, None, ◌&&◌, not, length, is_some}
use Rattle.std.specs.List.{list_all}
use Rattle.res_base.specs.declared.coord.Coord.{Coord}
use Rattle.resolution.specs.declared.ask.Ask.{Ask}
use Rattle.cache_layout.specs.Addresses.{is_address}
use Rattle.word_values.specs.Coordinates.{has_module, is_constraint, is_preferred}
use Rattle.word_values.specs.Prefixes.{is_printable}
use Rattle.word_values.specs.declared.job.Command.{Command}
use Rattle.word_values.specs.declared.job.Command.TheVariants.{Resolve, Fetch, Sample}
use Rattle.word_values.specs.declared.job.Job.{Job}
use Rattle.word_values.specs.declared.job.Output.{Output}
use Rattle.word_values.specs.declared.job.Output.TheVariants.{Plain, Tree, Classpath}

-- no module stands before itself, after those seen before
abbrev pub modules_apart_after : List Coord → List Coord → Bool
modules_apart_after seen [] = true
modules_apart_after seen (coord ∷ coords) = not (has_module seen coord.«module») && modules_apart_after (seen ++ coord ∷ []) coords

abbrev pub modules_apart : List Coord → Bool
modules_apart coords = modules_apart_after [] coords

pub record IsFitAsk (ask : Ask) : Type 0 where
  pub some_root : 1 ≤ length ask.roots
  pub roots : list_all (λ coord. is_constraint coord.version) ask.roots ≡ true
  pub forced : list_all (λ coord. is_preferred coord.version) ask.forced ≡ true
  pub forced_apart : modules_apart ask.forced ≡ true
  pub some_round : 1 ≤ ask.rounds
  pub most_rounds : ask.rounds ≤ 1000

-- what a command prints
abbrev pub prints : Command → Output → Bool
prints Resolve Classpath = false
prints Resolve _ = true
prints Fetch Tree = false
prints Fetch _ = true
prints Sample Plain = true
prints Sample _ = false

abbrev pub is_sample : Command → Bool
is_sample Sample = true
is_sample _ = false

-- a repository is made up for `sample` alone: from a seed, and of 1 to 10,000 modules
abbrev pub IsFitSample : Command → Option (ℕ × ℕ) → Type 0
IsFitSample Sample None = ⊥
IsFitSample Sample (Some sample) = (1 ≤ sample.1) × (sample.1 ≤ 10000)
IsFitSample _ sample = is_some sample ≡ false

pub record IsFit (job : Job) : Type 0 where
  pub ask : IsFitAsk job.ask
  pub repos : job.ask.repos ≡ length job.addresses
  pub some_repo : 1 ≤ job.ask.repos
  pub most_repos : job.ask.repos ≤ 16
  pub addresses : list_all is_address job.addresses ≡ true
  pub some_link : 1 ≤ job.parallel
  pub most_links : job.parallel ≤ 16
  pub retries : job.retries ≤ 3
  pub some_limit : 1 ≤ job.limit
  pub most_limit : job.limit ≤ 4294967296
  pub output : prints job.command job.output ≡ true
  pub prefix : list_all is_printable job.prefix ≡ true
  pub sample : IsFitSample job.command job.sample
