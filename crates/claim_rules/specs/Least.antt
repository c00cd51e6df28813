-- The least of some keys, by their order.
use Rattle.std.specs.Prelude.{List, [], ◌∷◌, Option, Some, None, fold}
use Rattle.std.specs.declared.cmp.Ordering.{Ordering}
use Rattle.std.specs.declared.cmp.Ordering.TheVariants.{Less, Equal, Greater}
use Rattle.res_base.specs.Names.{key_cmp}
use Rattle.res_base.specs.declared.key.FileKey.{FileKey}

abbrev pub by_order : Ordering → FileKey → FileKey → FileKey
by_order Less first second = first
by_order Equal first second = first
by_order Greater first second = second

abbrev pub lesser : FileKey → FileKey → FileKey
lesser first second = by_order (key_cmp first second) first second

abbrev pub least : List FileKey → Option FileKey
least [] = None
least (key ∷ keys) = Some (fold lesser key keys)
