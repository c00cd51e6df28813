-- Worked rows.
use Rattle.std.specs.Prelude.{◌≡◌, ℕ, true, false, List, [], codes, refl}
use Rattle.res_base.specs.Builders.{module_of}
use Rattle.res_base.specs.declared.pom.DepRecord.{DepRecord}
use Rattle.scope_rules.specs.Kept.{is_kept}
use Rattle.scope_rules.specs.declared.scopes.Configuration.TheVariants.{Default, Compile, Runtime}

abbrev dep : List ℕ → List ℕ → DepRecord
dep scope optional =
    record {
      «module» = module_of (codes "x") (codes "a");
      version = codes "1";
      kind = codes "jar";
      classifier = [];
      scope = scope;
      optional = optional;
      exclusions = [];
    }

pub compile_for_all : is_kept Default (dep (codes "compile") []) ≡ true
compile_for_all = refl

pub runtime_to_run : is_kept Runtime (dep (codes "runtime") (codes "false")) ≡ true
runtime_to_run = refl

pub runtime_not_to_compile : is_kept Compile (dep (codes "runtime") []) ≡ false
runtime_not_to_compile = refl

pub provided_is_left : is_kept Default (dep (codes "provided") []) ≡ false
provided_is_left = refl

pub no_scope_is_left : is_kept Default (dep [] []) ≡ false
no_scope_is_left = refl

pub optional_is_left : is_kept Compile (dep (codes "compile") (codes "true")) ≡ false
optional_is_left = refl

pub optional_by_bytes : is_kept Compile (dep (codes "compile") (codes "TRUE")) ≡ true
optional_by_bytes = refl
