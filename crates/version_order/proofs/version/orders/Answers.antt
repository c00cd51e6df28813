use Rattle.std.proofs.Common.{◌≡◌, sym, ◌∙◌, ap}
use Rattle.std.proofs.lemmas.Slice.Eq.{bytes_eq-Decides}
use Rattle.std.proofs.lemmas.Map.Text.{is_eq-slice_cmp}
use Rattle.std.specs.declared.cmp.Ordering.{Ordering}
use Rattle.std.specs.declared.cmp.Ordering.TheVariants.{Less, Equal, Greater}
use Rattle.std.specs.Ordering.{nat_cmp, ordering_then, is_eq}
use Rattle.std.specs.Cmp.Lexicographic.{slice_cmp}
use Rattle.version_order.specs.Order.{items_total, full_total}
use Rattle.version_order.specs.Ranks.{items_cmp}
use Rattle.version_order.proofs.version.orders.Goals as goal

pub returns-clause-by_items : goal.returns-clause-by_items
returns-clause-by_items c = items_total

pub returns-clause-full : goal.returns-clause-full
returns-clause-full c = full_total

second : (o p : Ordering) → ordering_then o p ≡ Equal → p ≡ Equal
second Less p e = cc
second Equal p e = e
second Greater p e = cc

pub returns-clause-ties : goal.returns-clause-ties
returns-clause-ties c a b e =
    (bytes_eq-Decides a b).0 (sym (is_eq-slice_cmp a b) ∙ ap is_eq (second (items_cmp a b) (slice_cmp nat_cmp a b) e))
