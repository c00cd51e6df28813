use Rattle.http_chunks.proofs.Laws.{reads_whole, too_long, begins_chunks, leaves_chunks, bad_chunk, passes_limit}
use Rattle.http_chunks.proofs.chunks_are_read.Goals as goal

pub returns-clause-reads : goal.returns-clause-reads
returns-clause-reads c = reads_whole

pub returns-clause-long : goal.returns-clause-long
returns-clause-long c = too_long

pub returns-clause-only : goal.returns-clause-only
returns-clause-only c = begins_chunks

pub returns-clause-fault : goal.returns-clause-fault
returns-clause-fault c = leaves_chunks

pub returns-clause-leaves : goal.returns-clause-leaves
returns-clause-leaves c = bad_chunk

pub returns-clause-passes : goal.returns-clause-passes
returns-clause-passes c = passes_limit
