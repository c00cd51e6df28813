-- The orders of modules and of keys tie exactly where they are one.
use Rattle.std.proofs.Common.{◌≡◌, Bool, true, false, ◌&&◌, List, ℕ, refl, sym, ◌∙◌, ap, arith}
use Rattle.std.proofs.lemmas.Bool.Decides.{nat_tests}
use Rattle.std.specs.Prelude.{◌↔◌, nat_eq}
use Rattle.std.specs.declared.cmp.Ordering.{Ordering}
use Rattle.std.specs.declared.cmp.Ordering.TheVariants.{Less, Equal, Greater}
use Rattle.std.specs.Ordering.{is_eq, nat_cmp, ordering_then}
use Rattle.std.proofs.lemmas.Map.Text.{is_eq-slice_cmp}
use Rattle.res_base.specs.Names.{key_cmp, key_eq, module_cmp, module_eq, role_number, text_cmp, text_eq}
use Rattle.res_base.specs.declared.coord.Module.{Module}
use Rattle.res_base.specs.declared.key.FileKey.{FileKey}

then_eq : (a b : Ordering) → is_eq (ordering_then a b) ≡ (is_eq a && is_eq b)
then_eq Less b = refl
then_eq Equal b = refl
then_eq Greater b = refl

pub module_cmp_eq : (a b : Module) → is_eq (module_cmp a b) ≡ module_eq a b
module_cmp_eq a b =
    then_eq (text_cmp a.org b.org) (text_cmp a.name b.name)
    ∙ ap (λ t. t && is_eq (text_cmp a.name b.name)) (is_eq-slice_cmp a.org b.org)
    ∙ ap (λ t. text_eq a.org b.org && t) (is_eq-slice_cmp a.name b.name)

number_cmp_eq : (a b : ℕ) → is_eq (nat_cmp a b) ≡ nat_eq a b
number_cmp_eq a b = grind (arith, nat_tests)

key_cmp_eq : (a b : FileKey) → is_eq (key_cmp a b) ≡ key_eq a b
key_cmp_eq a b =
    then_eq (ordering_then (nat_cmp a.repo b.repo) (text_cmp a.path b.path))
    (nat_cmp (role_number a.role) (role_number b.role))
    ∙ ap (λ t. t && is_eq (nat_cmp (role_number a.role) (role_number b.role)))
    (then_eq (nat_cmp a.repo b.repo) (text_cmp a.path b.path))
    ∙ ap (λ t. (t && is_eq (text_cmp a.path b.path)) && is_eq (nat_cmp (role_number a.role) (role_number b.role)))
    (number_cmp_eq a.repo b.repo)
    ∙ ap (λ t. (nat_eq a.repo b.repo && t) && is_eq (nat_cmp (role_number a.role) (role_number b.role)))
    (is_eq-slice_cmp a.path b.path)
    ∙ ap (λ t. (nat_eq a.repo b.repo && text_eq a.path b.path) && t)
    (number_cmp_eq (role_number a.role) (role_number b.role))

pub same_key : ((a b : FileKey) → (key_eq a b ≡ true) ↔ (a ≡ b)) → (a b : FileKey) → key_cmp a b ≡ Equal → a ≡ b
same_key decided a b h = (decided a b).0 (sym (key_cmp_eq a b) ∙ ap is_eq h)
