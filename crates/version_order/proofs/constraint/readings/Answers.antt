use Rattle.version_order.specs.Constraints.{trimmed}
use Rattle.version_order.proofs.Reading.{read_is, is_read}
use Rattle.version_order.proofs.constraint.readings.Goals as goal

pub returns : goal.returns
returns c text value = (read_is (trimmed text) value, is_read (trimmed text) value)
