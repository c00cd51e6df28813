-- The job of `sample`: a resolution of one root in one repository, which is made up from a seed.
use Rattle.std.specs.Prelude.{ℕ, ◌-◌, ◌^◌, List, [], ◌∷◌, Option, Some, None, Ok, Err, codes, false}
use Rattle.cache_policy.specs.declared.Mode.TheVariants.{Missing}
use Rattle.reconcile_rules.specs.declared.request.Rule.TheVariants.{Default as DefaultRule}
use Rattle.res_base.specs.Builders.{coord_of}
use Rattle.res_base.specs.declared.coord.Coord.{Coord}
use Rattle.res_base.specs.declared.reading.Check.TheVariants.{NoCheck}
use Rattle.resolution.specs.declared.ask.Ask.{Ask}
use Rattle.scope_rules.specs.declared.scopes.Configuration.TheVariants.{Default as DefaultConfiguration}
use Rattle.word_values.specs.Numbers.{number_between}
use Rattle.word_values.specs.Refusals.{Read, ◌>>=◌, or_refused}
use Rattle.word_values.specs.declared.job.Command.TheVariants.{Sample}
use Rattle.word_values.specs.declared.job.Job.{Job}
use Rattle.word_values.specs.declared.job.Output.TheVariants.{Plain}
use Rattle.word_values.specs.declared.job.Pool.TheVariants.{Board}
use Rattle.word_values.specs.declared.refusals.WordKind.{WordKind}
use Rattle.word_values.specs.declared.refusals.WordKind.TheVariants as kind
use Rattle.word_values.specs.declared.refusals.WordsErr.TheVariants.{BadWords}

abbrev pub sample_root : Coord
sample_root = coord_of (codes "s.m") (codes "m0") (codes "1.0")

abbrev pub sample_ask : Ask
sample_ask = record {
  roots = sample_root ∷ [];
  forced = [];
  boms = [];
  excludes = [];
  configuration = DefaultConfiguration;
  rule = DefaultRule;
  rounds = 1000;
  repos = 1;
  files = false;
}

abbrev pub sample_job : ℕ → ℕ → Job
sample_job seed count = record {
  command = Sample;
  ask = sample_ask;
  addresses = codes "http://sample" ∷ [];
  parallel = 6;
  retries = 1;
  checks = NoCheck ∷ [];
  mode = Missing;
  ttl = 86400;
  pool = Board;
  eager = false;
  limit = 4294967296;
  output = Plain;
  prefix = [];
  sample = Some (seed, count);
}

-- the number at a place: without it the words do not fit the command
abbrev pub place_given : WordKind → ℕ → ℕ → Option (List ℕ) → Read ℕ
place_given k least most None = Err (BadWords kind.Usage 0)
place_given k least most (Some text) = or_refused k (number_between least most text)

abbrev pub sample_given : Option (List ℕ) → Option (List ℕ) → Read Job
sample_given seed_text count_text = do
  seed ← place_given kind.Seed 0 (2 ^ 64 - 1) seed_text
  count ← place_given kind.Count 1 10000 count_text
  Ok (sample_job seed count)
