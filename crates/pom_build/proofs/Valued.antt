-- Values that are put one by one, and the values that names have.
use Rattle.std.proofs.Common.{◌≡◌, ℕ, Bool, true, false, cond, not, Option, None, Some, List, [], ◌∷◌, ◌++◌, filter, codes, fold, refl, sym, ◌∙◌, ap, append_assoc, append-nil}
use Rattle.std.specs.List.{flat_map}
use Rattle.std.specs.Option.{option_or, is_some}
use Rattle.std.proofs.lemmas.Cmp.{nat_list_eq_equiv}
use Rattle.std.proofs.lemmas.List.Elements.{filter-append}
use mathlib.Core.Path.{fun_ext}
use Rattle.res_base.specs.Names.{text_eq}
use Rattle.property_text.specs.Values.{value_in, with_value}
use Rattle.pom_build.specs.Lines.{projects_of}
use Rattle.pom_build.specs.Names.{Pair, fields, is_field_name, is_present, properties_in, short_fields, under, values_in}
use Rattle.pom_build.specs.Projects.{FoundProject}
use Rattle.pom_build.specs.Puts.{put_fields, put_project, put_projects, put_coordinates, put_record, put_all}
use Rattle.pom_build.specs.declared.line.Line.{Line}

-- both give each name the same value
abbrev Same : List Pair → List Pair → Type 0
Same a b = (name : List ℕ) → value_in a name ≡ value_in b name

value_in-append : (a b : List Pair) (name : List ℕ) → value_in (a ++ b) name ≡ option_or (value_in a name) (value_in b name)
value_in-append [] b name = refl
value_in-append (pair ∷ a) b name = at (text_eq name pair.0) (value_in-append a b name)
  where
    at : (found : Bool) → value_in (a ++ b) name ≡ option_or (value_in a name) (value_in b name) → cond found (Some pair.1) (value_in (a ++ b) name) ≡ option_or (cond found (Some pair.1) (value_in a name)) (value_in b name)
    at true rest = refl
    at false rest = rest

same-append : (a b more : List Pair) → Same a b → Same (a ++ more) (b ++ more)
same-append a b more same name = value_in-append a more name ∙ ap (λ first. option_or first (value_in more name)) (same name) ∙ sym (value_in-append b more name)

same-name : (a b : List ℕ) → text_eq a b ≡ true → (values : List Pair) → value_in values a ≡ value_in values b
same-name a b e [] = refl
same-name a b e (pair ∷ values) = rw (nat_list_eq_equiv.congr a b pair.0 e, same-name a b e values) refl

or-none : (first : Option (List ℕ)) → option_or first None ≡ first
or-none None = refl
or-none (Some value) = refl

-- a value put where the name has one is never seen
same-put : (values : List Pair) (pair : Pair) → Same (with_value values pair.0 pair.1) (values ++ pair ∷ [])
same-put values pair name = at (value_in values pair.0) refl
  where
    hidden : (value : List ℕ) → value_in values pair.0 ≡ Some value → (b : Bool) → text_eq name pair.0 ≡ b → value_in values name ≡ option_or (value_in values name) (cond b (Some pair.1) None)
    hidden value e true same = let known : value_in values name ≡ Some value = same-name name pair.0 same values ∙ e in rw known refl
    hidden value e false same = sym (or-none (value_in values name))

    at : (found : Option (List ℕ)) → value_in values pair.0 ≡ found → value_in (cond (is_some found) values (values ++ pair ∷ [])) name ≡ value_in (values ++ pair ∷ []) name
    at None e = refl
    at (Some value) e = hidden value e (text_eq name pair.0) refl ∙ sym (value_in-append values (pair ∷ []) name)

module _ (test : Pair → Bool) where
  abbrev put_if : List Pair → Pair → List Pair
  put_if values pair = cond (test pair) (with_value values pair.0 pair.1) values

  same-fold : (pairs values plain : List Pair) → Same values plain → Same (fold put_if values pairs) (plain ++ filter test pairs)
  same-fold [] values plain same = λ name. same name ∙ ap (λ all. value_in all name) (sym (append-nil plain))
  same-fold (pair ∷ pairs) values plain same = at (test pair) (same-fold pairs (with_value values pair.0 pair.1) (plain ++ pair ∷ []) more) (same-fold pairs values plain same)
    where
      more : Same (with_value values pair.0 pair.1) (plain ++ pair ∷ [])
      more name = same-put values pair name ∙ same-append values plain (pair ∷ []) same name

      at : (b : Bool) → Same (fold put_if (with_value values pair.0 pair.1) pairs) ((plain ++ pair ∷ []) ++ filter test pairs) → Same (fold put_if values pairs) (plain ++ filter test pairs)
          → Same (fold put_if (cond b (with_value values pair.0 pair.1) values) pairs) (plain ++ cond b (pair ∷ filter test pairs) (filter test pairs))
      at true put left = λ name. put name ∙ ap (λ all. value_in all name) (append_assoc plain (pair ∷ []) (filter test pairs))
      at false put left = λ name. left name

abbrev is_property : Pair → Bool
is_property pair = not (is_field_name pair.0)

same-projects : (projects : List FoundProject) (values plain : List Pair) → Same values plain → Same (put_projects values projects) (plain ++ filter is_property (flat_map properties_in projects))
same-projects [] values plain same name = same name ∙ ap (λ all. value_in all name) (sym (append-nil plain))
same-projects (project ∷ projects) values plain same name =
    same-projects projects (put_project values project) (plain ++ filter is_property (properties_in project)) (same-fold is_property (properties_in project) values plain same) name
    ∙ ap (λ all. value_in all name)
    (append_assoc plain (filter is_property (properties_in project)) (filter is_property (flat_map properties_in projects))
    ∙ ap (λ all. plain ++ all) (sym (filter-append is_property (properties_in project) (flat_map properties_in projects))))

same-all : (line : Line) → Same (put_all line) (values_in line)
unfolding put_coordinates put_record
same-all line name =
    let pom = line.own.pom in
    let projects : List Pair = under (codes "project.") (fields pom) in
    let poms : List Pair = under (codes "pom.") (fields pom) in
    let properties : List Pair = flat_map properties_in (projects_of line) in
    let first : Same (put_fields [] projects) (filter is_present projects) = same-fold is_present projects [] [] (λ one. refl) in
    let second : Same (put_fields (put_fields [] projects) poms) (filter is_present projects ++ filter is_present poms) = same-fold is_present poms (put_fields [] projects) (filter is_present projects) first in
    let third = same-projects (projects_of line) (put_fields (put_fields [] projects) poms) (filter is_present projects ++ filter is_present poms) second in
    let all =
    same-fold is_present (short_fields pom) (put_projects (put_fields (put_fields [] projects) poms) (projects_of line)) ((filter is_present projects ++ filter is_present poms) ++ filter is_property properties) third in
    all name ∙ ap (λ front. value_in (front ++ filter is_property properties ++ filter is_present (short_fields pom)) name) (sym (filter-append is_present projects poms))

pub value_in-put_all : (line : Line) → value_in (put_all line) ≡ value_in (values_in line)
value_in-put_all line = fun_ext (same-all line)
