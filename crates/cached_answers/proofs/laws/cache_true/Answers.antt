use Rattle.cached_answers.proofs.Faith.{cached_true}
use Rattle.cached_answers.proofs.laws.cache_true.Goals as goal

pub returns : goal.returns
returns c plan i w faithful key reading is = cached_true plan i w faithful key reading is
