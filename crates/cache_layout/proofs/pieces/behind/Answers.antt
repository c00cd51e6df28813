use Rattle.std.proofs.Common.{◌≡◌}
use Rattle.std.proofs.lemmas.Bool.Decides.{Decides-eqb}
use Rattle.std.proofs.lemmas.Slice.Eq.{strip_prefix_is}
use Rattle.cache_layout.proofs.Words.{found_rest, found_none}
use Rattle.cache_layout.proofs.pieces.behind.Goals as goal

pub returns-clause-rest : goal.returns-clause-rest
returns-clause-rest c = found_rest c.args.text.now c.args.word.now _
    (strip_prefix_is Decides-eqb c.args.text.now c.args.word.now c.strip_prefix.result c.strip_prefix.ensures.cases)

pub returns-clause-none : goal.returns-clause-none
returns-clause-none c = found_none c.args.text.now c.args.word.now _
    (strip_prefix_is Decides-eqb c.args.text.now c.args.word.now c.strip_prefix.result c.strip_prefix.ensures.cases)
