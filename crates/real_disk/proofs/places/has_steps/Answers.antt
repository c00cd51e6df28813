use Rattle.std.proofs.Common.{rules, tests}
use Rattle.std.proofs.lemmas.Iterator.Search.{all_from_yields_List}
use Rattle.std.proofs.lemmas.Iterator.Splits.{YieldsList-from_slice_split}
use Rattle.real_disk.specs.DiskNames.{ends_step, is_step}
use Rattle.real_disk.proofs.places.has_steps.Goals as goal

pub returns : goal.returns
returns c = all_from_yields_List is_step _ _ _ c.all.ensures.ran (YieldsList-from_slice_split _ ends_step c.args.name.now c.split.ensures.rest c.split.ensures.done c.split.ensures.closure (λ x r q k. search (rules, tests))) (λ x r q k. search (rules, tests))
