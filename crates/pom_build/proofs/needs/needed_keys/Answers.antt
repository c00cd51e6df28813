use Rattle.std.proofs.Common.{List, sym, subst}
use Rattle.res_base.specs.Known.{known_of}
use Rattle.res_base.specs.declared.coord.Coord.{Coord}
use Rattle.pom_build.specs.Visits.{IsSeenIn}
use Rattle.pom_build.specs.declared.needs.Seen.{Seen}
use Rattle.pom_build.proofs.Needed.{no_level, started_with}
use Rattle.pom_build.proofs.needs.needed_keys.Goals as goal

pub visit_all-requires : goal.visit_all-requires
visit_all-requires c =
    let blank : Seen = record { keys = c.new.result; levels = c.new-2.result } in
    subst (λ (chain : List Coord). IsSeenIn (known_of c.args.known.now.pairs) c.args.known.now.repos c.args.left chain c.in_ok-start.start) (sym c.in_ok-chain.ensures)
    (started_with (known_of c.args.known.now.pairs) c.args.known.now.repos c.args.left c.args.coord.now blank c.in_ok-start.start (no_level blank c.new-2.ensures.empty) c.in_ok-start.ensures.levels)
