use Rattle.std.proofs.Common.{◌≡◌, ◌-◌}
use Rattle.std.specs.Option.{option_copied}
use Rattle.res_base.specs.Known.{known_of}
use Rattle.pom_build.specs.Lines.{line_from}
use Rattle.pom_build.proofs.line.with_parents.Given as goal

abbrev pub invariant-loop-done : goal.invariant-loop-done
invariant-loop-done l =
    line_from (known_of l.known.pairs) l.known.repos (l.most - l._done) l.line (option_copied l.next) ≡ line_from (known_of l.known.pairs) l.known.repos l.most l.fn.start (option_copied l.fn.first)
