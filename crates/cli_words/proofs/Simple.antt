-- The commands are simple ones, in which nothing has a rule on another.
use Rattle.std.proofs.Common.{◌≡◌, true, refl}
use Rattle.clap.specs.Words.{is_simple_and_free}
use Rattle.cli_words.specs.Tables.{resolve_app, sample_app}

pub resolve_is_simple : is_simple_and_free resolve_app ≡ true
unfolding resolve_app
resolve_is_simple = refl

pub sample_is_simple : is_simple_and_free sample_app ≡ true
unfolding sample_app
sample_is_simple = refl
