-- The tests of equality decide it.
use Rattle.std.proofs.Common.{◌≡◌, ℕ, Bool, true, ◌&&◌, List, refl, sym, ◌∙◌, ap, true≢false}
use Rattle.std.specs.Prelude.{◌↔◌, nat_eq}
use Rattle.std.specs.Cmp.Lexicographic.{bytes_decides}
use Rattle.std.proofs.lemmas.Bool.{and_parts, and_from, eqb-true, eq-eqb}
use Rattle.res_base.specs.Names.{coord_eq, key_eq, module_eq, role_eq, role_number, text_eq}
use Rattle.res_base.specs.declared.coord.Coord.{Coord}
use Rattle.res_base.specs.declared.coord.Module.{Module}
use Rattle.res_base.specs.declared.key.FileKey.{FileKey}
use Rattle.res_base.specs.declared.key.Role.{Role}
use Rattle.res_base.specs.declared.key.Role.TheVariants as roles

text_same : (a b : List ℕ) → text_eq a b ≡ true → a ≡ b
text_same a b = (bytes_decides a b).0

text_itself : (a : List ℕ) → text_eq a a ≡ true
text_itself a = (bytes_decides a a).1 refl

module_same : (a b : Module) → module_eq a b ≡ true → a ≡ b
module_same a b e =
    let both = and_parts (text_eq a.org b.org) (text_eq a.name b.name) e in
    ap (λ x. record { org = x; name = a.name }) (text_same a.org b.org both.0)
    ∙ ap (λ x. record { org = b.org; name = x }) (text_same a.name b.name both.1)

module_itself : (a : Module) → module_eq a a ≡ true
module_itself a = and_from (text_eq a.org a.org) (text_eq a.name a.name) (text_itself a.org) (text_itself a.name)

coord_same : (a b : Coord) → coord_eq a b ≡ true → a ≡ b
coord_same a b e =
    let both = and_parts (module_eq a.«module» b.«module») (text_eq a.version b.version) e in
    ap (λ x. record { «module» = x; version = a.version }) (module_same a.«module» b.«module» both.0)
    ∙ ap (λ x. record { «module» = b.«module»; version = x }) (text_same a.version b.version both.1)

coord_itself : (a : Coord) → coord_eq a a ≡ true
coord_itself a =
    and_from (module_eq a.«module» a.«module») (text_eq a.version a.version) (module_itself a.«module»)
    (text_itself a.version)

role_same : (a b : Role) → role_eq a b ≡ true → a ≡ b
role_same roles.Pom roles.Pom e = refl
role_same roles.Pom roles.Listing e = absurd (true≢false (sym e))
role_same roles.Pom roles.Artifact e = absurd (true≢false (sym e))
role_same roles.Listing roles.Pom e = absurd (true≢false (sym e))
role_same roles.Listing roles.Listing e = refl
role_same roles.Listing roles.Artifact e = absurd (true≢false (sym e))
role_same roles.Artifact roles.Pom e = absurd (true≢false (sym e))
role_same roles.Artifact roles.Listing e = absurd (true≢false (sym e))
role_same roles.Artifact roles.Artifact e = refl

role_itself : (a : Role) → role_eq a a ≡ true
role_itself a = eq-eqb (role_number a) (role_number a) refl

pub key_same : (a b : FileKey) → key_eq a b ≡ true → a ≡ b
key_same a b e =
    let outer = and_parts (nat_eq a.repo b.repo && text_eq a.path b.path) (role_eq a.role b.role) e in
    let inner = and_parts (nat_eq a.repo b.repo) (text_eq a.path b.path) outer.0 in
    ap (λ x. record { repo = x; role = a.role; path = a.path }) (eqb-true a.repo b.repo inner.0)
    ∙ (ap (λ x. record { repo = b.repo; role = a.role; path = x }) (text_same a.path b.path inner.1)
    ∙ ap (λ x. record { repo = b.repo; role = x; path = b.path }) (role_same a.role b.role outer.1))

pub key_itself : (a : FileKey) → key_eq a a ≡ true
key_itself a =
    and_from (nat_eq a.repo a.repo && text_eq a.path a.path) (role_eq a.role a.role)
    (and_from (nat_eq a.repo a.repo) (text_eq a.path a.path) (eq-eqb a.repo a.repo refl) (text_itself a.path))
    (role_itself a.role)

module _ {A : Type 0} (eq : A → A → Bool) (same : (a b : A) → eq a b ≡ true → a ≡ b)
    (itself : (a : A) → eq a a ≡ true) where
  decided : (a b : A) → (eq a b ≡ true) ↔ (a ≡ b)
  decided a b = (same a b, λ e. sym (ap (eq a) e) ∙ itself a)

pub text_decided : (a b : List ℕ) → (text_eq a b ≡ true) ↔ (a ≡ b)
text_decided = decided text_eq text_same text_itself

pub module_decided : (a b : Module) → (module_eq a b ≡ true) ↔ (a ≡ b)
module_decided = decided module_eq module_same module_itself

pub coord_decided : (a b : Coord) → (coord_eq a b ≡ true) ↔ (a ≡ b)
coord_decided = decided coord_eq coord_same coord_itself

pub role_decided : (a b : Role) → (role_eq a b ≡ true) ↔ (a ≡ b)
role_decided = decided role_eq role_same role_itself

pub key_decided : (a b : FileKey) → (key_eq a b ≡ true) ↔ (a ≡ b)
key_decided = decided key_eq key_same key_itself
