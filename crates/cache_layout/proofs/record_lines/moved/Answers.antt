use Rattle.std.proofs.Common.{arith}
use Rattle.cache_layout.proofs.record_lines.moved.Goals as goal

pub overflow_add-result : goal.overflow_add-result
overflow_add-result c = let fits = c.requires c.in-BadLine.place c.in-BadLine.is in omega (arith, fits)
