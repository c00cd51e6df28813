use Rattle.cache_layout.proofs.LineLaws.{back, only}
use Rattle.cache_layout.proofs.record_lines.record_lines_read.Goals as goal

pub returns : goal.returns
returns c text entry = (only text entry, back text entry)
