-- Children that are sorted from the last one on.
use Rattle.std.proofs.Common.{◌≡◌, ◌≢◌, ℕ, zero, suc, ◌+◌, ◌<◌, ◌≤◌, Bool, true, false, cond, List, [], ◌∷◌, length, get_or, set, drop, Some, None, refl, sym, ap, ◌∙◌, arith, ◌⊎◌, inl, inr, get_or-set_same, get_or-set_other, length-set}
use Rattle.std.specs.Prelude.{slice_get}
use Rattle.std.proofs.lemmas.Slice.Eq.{bytes_eq-Decides}
use Rattle.std.proofs.lemmas.Bool.{cases_Bool, cases_eq}
use Rattle.std.proofs.lemmas.List.{drop_more}
use Rattle.std.proofs.lemmas.Option.{slice_get-get_or}
use Rattle.case_table.specs.Numbers.{name_at}
use Rattle.case_table.specs.Rows.{value_at}
use Rattle.pom_grammar.specs.declared.tree.Tree.{Tree, out-Tree}
use Rattle.pom_record.specs.Fields.{is_named, field}
use Rattle.pom_record.specs.FieldNames.{name_rows}

pub record IsSortedFrom (children : List Tree) (places : List ℕ) (at : ℕ) : Type 0 where
  pub within : at ≤ length children
  pub size : length places ≡ 18
  pub right : (k : ℕ) → k < 18 → slice_get children (get_or places k 0) ≡ field (name_at name_rows k) (drop at children)

found_here : (name : List ℕ) (child : Tree) (rest : List Tree) (b : Bool) → is_named name child ≡ b
    → field name (child ∷ rest) ≡ cond b (Some child) (field name rest)
found_here name child rest b is = ap (λ t. cond t (Some child) (field name rest)) is

-- each name leads to its number
abbrev pub Lead : Type 0
Lead = (k : ℕ) → k < 18 → value_at (name_at name_rows k) name_rows ≡ Some k

-- and what a name leads to is its number
abbrev pub LeadBack : Type 0
LeadBack = (name : List ℕ) (number : ℕ) → value_at name name_rows ≡ Some number
    → (number < 18) × (name_at name_rows number ≡ name)

same_name : Lead → (child : Tree) (k : ℕ) → k < 18 → is_named (name_at name_rows k) child ≡ true
    → value_at (out-Tree child).name name_rows ≡ Some k
same_name lead child k below is =
    ap (λ n. value_at n name_rows) ((bytes_eq-Decides (out-Tree child).name (name_at name_rows k)).0 is)
    ∙ lead k below

-- a child without a field changes nothing
pub passed : Lead → (children : List Tree) (places : List ℕ) (at : ℕ) (child : Tree)
    → IsSortedFrom children places (at + 1)
    → child ≡ get_or children at child
    → value_at (out-Tree child).name name_rows ≡ None → IsSortedFrom children places at
passed lead children places at child sorted is none =
    record { within = omega (arith, sorted.within); size = sorted.size; right = right }
  where
    inside : at < length children
    inside = omega (arith, sorted.within)

    other : (k : ℕ) → k < 18 → is_named (name_at name_rows k) child ≡ false
    other k below =
        elim (cases_Bool (is_named (name_at name_rows k) child)) [
          | inl agrees ↦ let e : Some k ≡ None = sym (same_name lead child k below agrees) ∙ none in let no : ⊥ =
              cc in absurd no
          | inr differs ↦ differs
        ]

    right : (k : ℕ) → k < 18 → slice_get children (get_or places k 0) ≡ field (name_at name_rows k) (drop at children)
    right k below =
        sorted.right k below
        ∙ sym (ap (field (name_at name_rows k))
        (drop_more children at child inside ∙ ap (λ c. c ∷ drop (at + 1) children) (sym is))
        ∙ found_here (name_at name_rows k) child (drop (at + 1) children) false (other k below))

-- a child of a field comes before the others of its name
pub placed : Lead → LeadBack → (children : List Tree) (places : List ℕ) (at : ℕ) (child : Tree) (number : ℕ)
    → IsSortedFrom children places (at + 1) → child ≡ get_or children at child
    → value_at (out-Tree child).name name_rows ≡ Some number → IsSortedFrom children (set places number at) at
placed lead back children places at child number sorted is some =
    record { within = omega (arith, sorted.within); size = size; right = right }
  where
    inside : at < length children
    inside = omega (arith, sorted.within)

    known : (number < 18) × (name_at name_rows number ≡ (out-Tree child).name)
    known = back (out-Tree child).name number some

    size : length (set places number at) ≡ 18
    size = length-set places number at ∙ sorted.size

    prefix : drop at children ≡ child ∷ drop (at + 1) children
    prefix = drop_more children at child inside ∙ ap (λ c. c ∷ drop (at + 1) children) (sym is)

    by : (k : ℕ) → k < 18 → (k ≡ number) ⊎ (k ≢ number)
        → slice_get children (get_or (set places number at) k 0) ≡ field (name_at name_rows k) (drop at children)
    by k below (inl same) =
        let named : is_named (name_at name_rows k) child ≡ true =
        (bytes_eq-Decides (out-Tree child).name (name_at name_rows k)).1
        (sym (ap (name_at name_rows) same ∙ known.1)) in
        let fits : number < length places = rw sorted.size known.0 in
        let there : get_or (set places number at) k 0 ≡ at = ap (λ n. get_or (set places number at) n 0) same
        ∙ get_or-set_same places number at 0 fits in
        ap (slice_get children) there ∙ slice_get-get_or children at child inside ∙ ap Some (sym is)
        ∙ sym (ap (field (name_at name_rows k)) prefix
        ∙ found_here (name_at name_rows k) child (drop (at + 1) children) true named)
    by k below (inr apart) =
        ap (slice_get children) (get_or-set_other places number k at 0 apart) ∙ sorted.right k below
        ∙ sym (ap (field (name_at name_rows k)) prefix
        ∙ found_here (name_at name_rows k) child (drop (at + 1) children) false other)
      where
        other : is_named (name_at name_rows k) child ≡ false
        other =
            elim (cases_Bool (is_named (name_at name_rows k) child)) [
              | inl agrees ↦ let e : Some k ≡ Some number = sym (same_name lead child k below agrees)
                  ∙ some in let same : k ≡ number = cc in absurd (apart same)
              | inr differs ↦ differs
            ]

    right : (k : ℕ) → k < 18
        → slice_get children (get_or (set places number at) k 0) ≡ field (name_at name_rows k) (drop at children)
    right k below = by k below (cases_eq k number)

abbrev repeated : ℕ → ℕ → List ℕ
repeated zero n = []
repeated (suc k) n = n ∷ repeated k n

repeated_at : (count n k : ℕ) → k < count → get_or (repeated count n) k 0 ≡ n
repeated_at zero n k h = absurd (omega (arith, h))
repeated_at (suc count) n zero h = refl
repeated_at (suc count) n (suc k) h = repeated_at count n k (omega (arith, h))

none_after : (children : List Tree) → slice_get children (length children) ≡ None
none_after [] = refl
none_after (child ∷ children) = none_after children

drop_all : (children : List Tree) → drop (length children) children ≡ []
drop_all [] = refl
drop_all (child ∷ children) = drop_all children

-- at first no child was sorted
pub unsorted : (children : List Tree) → IsSortedFrom children (repeated 18 (length children)) (length children)
unsorted children = record { within = omega arith; size = refl; right = right }
  where
    right : (k : ℕ) → k < 18
        → slice_get children (get_or (repeated 18 (length children)) k 0)
        ≡ field (name_at name_rows k) (drop (length children) children)
    right k below = ap (slice_get children) (repeated_at 18 (length children) k below) ∙ none_after children
        ∙ sym (ap (field (name_at name_rows k)) (drop_all children))
