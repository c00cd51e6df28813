-- How a `List` stores its items, so that a type may reach itself through it. Seen as a list of
-- them, it stores the items of its `Vec`, in their order.
use mathlib.Core.Path.{◌≡◌, refl, sym}
use mathlib.Core.List.{List, []}
use mathlib.Core.Former.{Former, this, list, via, children}
use base.Stored.{code_map}
use denote.RattleType.{RattleType}
use denote.HoleLaws.{Alike}
use denote.HolePlaces.{Recodes, struct_places, laid}
use denote.Hole.Carrier.{listed, list-listed}
use denote.Hole.Fix.{over}
use denote.Param.Weighed.{Weighed, w_list}
use denote.Model.Placed.{view_places}
use Rattle.std.specs.formers.vec.Vec as of_vec
use Rattle.std.specs.declared.alloc.Global.{Global}
use Rattle.std.specs.contracts.alloc.Global as allocator
use Rattle.std.specs.contracts.impls.GlobalAllocator.TheImpl.{ghosts}
use Rattle.res_base.specs.declared.list.List.TheInside.{Inside}
use Rattle.res_base.specs.declared.list.List.TheView.{view, invariant}
use Rattle.res_base.specs.contracts.list.List as seen
use Rattle.res_base.specs.contracts.list.List.TheInside as stored

abbrev pub the_former : Former {0} → Former {0}
the_former g = list g

abbrev pub the_weighed : {g : Former {0}} → Weighed g → Weighed (the_former g)
the_weighed w = w_list w

abbrev pub the_empty : List ⊥
the_empty = []

abbrev pub the_items : (X : Type 0) → List X → List X
the_items X items = items

pub the_items_listed : (X : Type 0) (items : List X) → listed _ (children (the_former this) X items) ≡ the_items X items
the_items_listed X items = list-listed X items

-- the one field
abbrev inside : Former {0}
inside = via (of_vec.the_former this Global) Inside (λ X it. it.items) (λ X v. record { items = v }) (λ X it. refl)
    (λ X v. refl)

module _ (R R' : RattleType) (h : R.Denot → R'.Denot) where
  pub the_places : Alike R R' h → Alike (seen.the_row R) (seen.the_row R') ((the_former this).map R.Denot R'.Denot h)
  the_places alike =
      let stored_alike = struct_places (stored.the_type R) (stored.the_type R') (of_vec.mapped h, tt) _
      (λ it. refl) refl (laid _ _ _ (of_vec.the_places allocator.the_row ghosts R R' h alike), tt) in
      view_places inside (list this) view (λ X Y k u. refl) (λ X u. refl) R.Denot R'.Denot h (seen.the_row R).coded
      (seen.the_row R').coded
      (invariant R.Denot) (invariant R'.Denot) (λ u p q. refl) (λ u p q. refl) (λ u e. tt) (λ u e. tt)
      (over (stored.the_row R)) (over (stored.the_row R')) stored_alike

  pub the_codes_placed : Recodes R R' h → Recodes (seen.the_row R) (seen.the_row R')
      ((the_former this).map R.Denot R'.Denot h)
  the_codes_placed same items = sym (code_map R.coded.code R'.coded.code h (λ x. sym (same x)) items)
