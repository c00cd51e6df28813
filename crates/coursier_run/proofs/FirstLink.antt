-- From the first link to all of them.
use Rattle.std.proofs.Common.{◌≡◌, ◌<◌, List, [], ◌∷◌, get_or, arith, length, drop, All, slice_set, ap, subst, sym, refl, Some}
use Rattle.std.specs.Prelude.{slice_get}
use Rattle.std.specs.List.{AllZip}
use Rattle.link_base.proofs.Zipped.{zip_refl}

pub all_first : {L : Type 0} (P : L → Type 0) (xs : List L) (x : L) → 0 < length xs → x ≡ get_or xs 0 x → All P xs → P x
all_first P xs x some is all = subst P (sym is) (all 0 x some)

-- only the first element changed
pub zip_first : {L : Type 0} (R : L → L → Type 0) → ((l : L) → R l l) → (xs : List L) (x y : L) → 0 < length xs → x ≡ get_or xs 0 x → R x y → AllZip R xs (slice_set xs 0 y)
zip_first R r [] x y some is related = absurd (omega arith)
zip_first R r (z ∷ zs) x y some is related = (subst (λ v. R v y) is related, zip_refl R r zs)

-- the others stay as they were
pub drop-set_first : {L : Type 0} (xs : List L) (y : L) → drop 1 (slice_set xs 0 y) ≡ drop 1 xs
drop-set_first [] y = refl
drop-set_first (x ∷ xs) y = refl

-- all stay as they were where the first does
pub set_first_same : {L : Type 0} (xs : List L) (x y : L) → 0 < length xs → x ≡ get_or xs 0 x → y ≡ x → slice_set xs 0 y ≡ xs
set_first_same [] x y some is same = absurd (omega arith)
set_first_same (z ∷ zs) x y some is same = cc

pub first_of : {L : Type 0} (xs : List L) (x : L) → 0 < length xs → x ≡ get_or xs 0 x → slice_get xs 0 ≡ Some x
first_of [] x some is = absurd (omega arith)
first_of (z ∷ zs) x some is = ap Some (sym is)

pub first_set : {L : Type 0} (xs : List L) (y : L) → 0 < length xs → slice_get (slice_set xs 0 y) 0 ≡ Some y
first_set [] y some = absurd (omega arith)
first_set (z ∷ zs) y some = refl
