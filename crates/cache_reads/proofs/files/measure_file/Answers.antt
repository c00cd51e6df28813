use Rattle.std.proofs.Common.{[], ap, ◌∙◌, Bool}
use Rattle.disk_base.specs.Names.{read_name}
use Rattle.cache_reads.specs.Finds.{measured_by}
use Rattle.cache_reads.specs.Pieces.{bytes_or_none}
use Rattle.cache_reads.proofs.files.measure_file.Goals as goal

pub returns-clause-measure : goal.returns-clause-measure
returns-clause-measure g c = λ s f.
    let bytes = bytes_or_none (read_name s c.args.name.now) in
    c.finish.ensures bytes (c.in_ok-read_pieces.ensures.read.all s f [] c.new-measure.ensures.took)
    ∙ ap (λ (second : Bool). measured_by second bytes) (c.read_pieces.ensures.second ∙ c.new-measure.ensures.second)
