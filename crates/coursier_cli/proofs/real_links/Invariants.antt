-- One link is made in each turn.
use Rattle.std.proofs.Common.{◌≡◌, vec_len}
use Rattle.coursier_cli.proofs.real_links.Given as goal

abbrev pub invariant-loop-link : goal.invariant-loop-link
invariant-loop-link l = vec_len l.links ≡ l._link
