use Rattle.std.proofs.Common.{◌≡◌, ◌-◌, []}
use Rattle.res_base.specs.Known.{known_of}
use Rattle.res_base.specs.declared.key.Role.TheVariants.{Pom}
use Rattle.project_lookup.specs.Looks.{look_from}
use Rattle.project_lookup.proofs.known.Known.look_at.Given as goal

abbrev pub invariant-loop-repo : goal.invariant-loop-repo
invariant-loop-repo l =
    (l.key.role ≡ Pom)
    × (l.key.path ≡ l.fn.path)
    × (look_from (known_of l.self.pairs) l.fn.path l.repo (l.repos - l.repo) l.reasons
    ≡ look_from (known_of l.self.pairs) l.fn.path 0 l.self.repos [])
