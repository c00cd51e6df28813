use Rattle.cache_layout.proofs.Escapes.{apart}
use Rattle.cache_layout.proofs.Heads.{leaves_heads}
use Rattle.cache_layout.proofs.LineLaws.{back}
use Rattle.cache_layout.proofs.names.names_apart.Goals as goal

pub returns : goal.returns
returns c = apart
