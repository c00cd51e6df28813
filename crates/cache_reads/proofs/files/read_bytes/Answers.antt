use Rattle.std.proofs.Common.{[], ◌∙◌}
use Rattle.cache_reads.proofs.files.read_bytes.Goals as goal

pub returns-clause-file : goal.returns-clause-file
returns-clause-file g c = λ s f. c.from_vec.ensures ∙ c.in_ok-read_pieces.ensures.read.all s f [] c.new.ensures.items
