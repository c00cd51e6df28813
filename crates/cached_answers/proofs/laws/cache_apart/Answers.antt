use Rattle.cached_answers.proofs.Apart.{said_apart}
use Rattle.cached_answers.proofs.laws.cache_apart.Goals as goal

pub returns : goal.returns
returns c plan i j same key = said_apart plan i j same key
