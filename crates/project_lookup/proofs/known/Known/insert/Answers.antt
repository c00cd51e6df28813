use Rattle.std.proofs.Common.{sym, ◌∙◌}
use Rattle.project_lookup.proofs.KnownLemmas.{unplaced}
use Rattle.project_lookup.proofs.known.Known.insert.Goals as goal

pub put-requires-clause-unknown : goal.put-requires-clause-unknown
put-requires-clause-unknown c = unplaced c.args.key c.args.self.now.pairs (sym c.place.ensures ∙ c.in-None.is)
