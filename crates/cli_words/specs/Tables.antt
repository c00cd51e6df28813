-- What may stand in the words of each command. A command of more options is one more table.
use Rattle.std.specs.Prelude.{ℕ, List, [], ◌∷◌, ◌++◌, codes, map}
use Rattle.clap.specs.Words.{App, Rule}
use Rattle.cli_words.specs.Forms.{app_with, optional, place, places, required}

-- the options of a resolution but for `--repositories`; what is given for one is read by `word_values`
abbrev pub options : List (List ℕ)
options =
    codes "configuration" ∷ codes "rule" ∷ codes "force" ∷ codes "bom" ∷ codes "exclude" ∷ codes "rounds" ∷ codes "parallel"
    ∷ codes "retries" ∷ codes "checks" ∷ codes "mode" ∷ codes "ttl" ∷ codes "pool" ∷ codes "eager" ∷ codes "limit"
    ∷ codes "output" ∷ codes "prefix" ∷ []

-- `resolve` and `fetch`: the repositories, options, and roots
unfoldable pub resolve_app : App
resolve_app = app_with (required (codes "repositories") ∷ (map optional options ++ places (codes "roots") ∷ []))

-- `sample`: a seed and a count
unfoldable pub sample_app : App
sample_app = app_with (place (codes "seed") ∷ place (codes "count") ∷ [])
