use Rattle.cache_images.proofs.Orders.{unsound}
use Rattle.cache_images.proofs.laws.wrong_orders.Goals as goal

pub returns : goal.returns
returns c = unsound
