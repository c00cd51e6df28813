use Rattle.cache_layout.proofs.LineLaws.{back_gone, only_gone}
use Rattle.cache_layout.proofs.gone.gone_lines_read.Goals as goal

pub returns : goal.returns
returns c text moment = (only_gone text moment, back_gone text moment)
