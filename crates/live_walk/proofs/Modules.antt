-- The tests of modules and of sets of exclusions are those of a lawful graph.
use Rattle.std.specs.Prelude.{◌≡◌, ℕ, Bool, true, false, ◌||◌, List, [], ◌∷◌, nat_eq}
use Rattle.std.proofs.Common.{refl, sym, ◌∙◌, ap, eqb-true, eq-eqb}
use Rattle.res_base.specs.Names.{module_eq, text_eq}
use Rattle.res_base.specs.declared.coord.Module.{Module}
use Rattle.exclusion_sets.specs.Exclusions.{is_excluded, is_within, join_of}
use Rattle.exclusion_sets.specs.declared.excl_set.ExclSet.{ExclSet}
use Rattle.live_walk.specs.Graphs.{Lawful}
use Rattle.live_walk.specs.Numbers.{Step, step_graph}
use Rattle.live_walk.proofs.Cut.{Within}
use Rattle.live_walk.proofs.Kept.{Covers}
use Rattle.live_walk.proofs.Members.{and_both}

pub text_itself : (a : List ℕ) → text_eq a a ≡ true
text_itself [] = refl
text_itself (byte ∷ a) = rw (eq-eqb byte byte refl) (text_itself a)

pub text_same : (a b : List ℕ) → text_eq a b ≡ true → a ≡ b
text_same [] [] h = refl
text_same [] (c ∷ b) h = absurd (cc)
text_same (byte ∷ a) [] h = absurd (cc)
text_same (byte ∷ a) (c ∷ b) h =
    let both : (nat_eq byte c ≡ true) × (text_eq a b ≡ true) = and_both (nat_eq byte c) (text_eq a b) h in
    let first : byte ≡ c = eqb-true byte c both.0 in
    let rest : a ≡ b = text_same a b both.1 in
    cc

pub module_itself : (m : Module) → module_eq m m ≡ true
module_itself m = rw (text_itself m.org, text_itself m.name) refl

pub module_same : (m n : Module) → module_eq m n ≡ true → m ≡ n
module_same m n h =
    let both : (text_eq m.org n.org ≡ true) × (text_eq m.name n.name ≡ true) =
    and_both (text_eq m.org n.org) (text_eq m.name n.name) h in
    let org : m.org ≡ n.org = text_same m.org n.org both.0 in
    let name : m.name ≡ n.name = text_same m.name n.name both.1 in
    let with_org : m ≡ record { org = n.org; name = m.name } = ap (λ z. record { org = z; name = m.name }) org in
    with_org ∙ ap (λ z. record { org = n.org; name = z }) name

-- what the sets of exclusions say of themselves
pub record SetLaws : Type 0 where
  pub excludes : (a b : ExclSet) (m : Module) → is_within a b ≡ true → is_excluded a m ≡ true → is_excluded b m ≡ true
  pub either : (a b : ExclSet) (m : Module) → is_excluded (join_of a b) m ≡ (is_excluded a m || is_excluded b m)

module _ (laws : SetLaws) (roots : List Step) (out : Module → List Step) where
  pub lawful : Lawful (step_graph roots out)
  lawful = record { decides = module_same; itself = module_itself; bars_join = laws.either }

  pub covers : Covers (step_graph roots out) is_within
  covers = record { bars_less = λ a b h. record { all = λ m. laws.excludes a b m h } }
