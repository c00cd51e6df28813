-- Configurations in words.
use Rattle.std.specs.Prelude.{ℕ, List, codes}
use Rattle.scope_rules.specs.declared.scopes.Configuration.{Configuration}
use Rattle.scope_rules.specs.declared.scopes.Configuration.TheVariants.{Default, Compile, Runtime}

abbrev pub configuration_word : Configuration → List ℕ
configuration_word Default = codes "default"
configuration_word Compile = codes "compile"
configuration_word Runtime = codes "runtime"
