-- Which dependencies a configuration keeps. The scopes are those of the Maven POM reference.
use Rattle.std.specs.Prelude.{ℕ, Bool, not, ◌&&◌, ◌||◌, List, codes}
use Rattle.res_base.specs.Names.{text_eq}
use Rattle.res_base.specs.declared.pom.DepRecord.{DepRecord}
use Rattle.scope_rules.specs.declared.scopes.Configuration.{Configuration}
use Rattle.scope_rules.specs.declared.scopes.Configuration.TheVariants.{Default, Compile, Runtime}

abbrev pub is_compile : List ℕ → Bool
is_compile scope = text_eq scope (codes "compile")

abbrev pub is_compile_or_runtime : List ℕ → Bool
is_compile_or_runtime scope = is_compile scope || text_eq scope (codes "runtime")

abbrev pub keeps_scope : Configuration → List ℕ → Bool
keeps_scope Default scope = is_compile_or_runtime scope
keeps_scope Compile scope = is_compile scope
keeps_scope Runtime scope = is_compile_or_runtime scope

-- the scope is kept, and the dependency is not optional
abbrev pub is_kept : Configuration → DepRecord → Bool
is_kept configuration dep = keeps_scope configuration dep.scope && not (text_eq dep.optional (codes "true"))
