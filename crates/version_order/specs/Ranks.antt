-- The ranks of items, the order by items and the full order.
use Rattle.std.specs.Prelude.{ℕ, Bool, ◌&&◌, ◌||◌, not, if◌then◌else◌, List, [], ◌∷◌, map, length, ◌==◌, codes, Option, Some, None, get_or}
use Rattle.std.specs.declared.cmp.Ordering.{Ordering}
use Rattle.std.specs.declared.cmp.Ordering.TheVariants.{Equal}
use Rattle.std.specs.Ordering.{nat_cmp, ordering_then, is_eq}
use Rattle.std.specs.Cmp.Lexicographic.{slice_cmp}
use Rattle.std.specs.Str.{str_to_ascii_lowercase}
use Rattle.case_table.specs.Rows.{value_at}
use Rattle.version_order.specs.RankValue.{RankValue}
use Rattle.ascii_bytes.specs.Classes.{is_digit}
use Rattle.version_order.specs.Items.{items}

-- The classes from least to greatest: alpha, beta, milestone, rc, snapshot, a release, sp, any other word, any other number.
abbrev pub release_class : ℕ
release_class = 5

abbrev pub word_class : ℕ
word_class = 7

abbrev pub number_class : ℕ
number_class = 8

-- the words that have a class of their own
abbrev pub qualifiers : List (List ℕ × ℕ)
qualifiers =
    (codes "alpha", 0) ∷ (codes "beta", 1) ∷ (codes "cr", 3) ∷ (codes "final", 5) ∷ (codes "ga", 5)
    ∷ (codes "milestone", 2) ∷ (codes "rc", 3) ∷ (codes "release", 5) ∷ (codes "snapshot", 4) ∷ (codes "sp", 6) ∷ []

-- all items of one class without bytes
abbrev pub class_rank : ℕ → RankValue
class_rank n = record { class = n; size = 0; bytes = [] }

abbrev pub empty_rank : RankValue
empty_rank = class_rank release_class

abbrev pub without_zeros : List ℕ → List ℕ
without_zeros [] = []
without_zeros (c ∷ digits) = if c == 48 then without_zeros digits else c ∷ digits

-- by the count of digits, then by the digits; a zero stands with the releases
abbrev pub number_rank : List ℕ → RankValue
number_rank [] = empty_rank
number_rank (c ∷ digits) = record { class = number_class; size = length (c ∷ digits); bytes = c ∷ digits }

abbrev pub word_rank : List ℕ → Option ℕ → RankValue
word_rank word (Some class) = class_rank class
word_rank word None = record { class = word_class; size = 0; bytes = word }

-- the rank of an item in small letters
abbrev pub rank : List ℕ → RankValue
rank [] = empty_rank
rank (c ∷ item) =
    if is_digit c then number_rank (without_zeros (c ∷ item)) else word_rank (c ∷ item) (value_at (c ∷ item) qualifiers)

-- ASCII's capital letters count as small ones
abbrev pub ranks : List ℕ → List RankValue
ranks text = map rank (items (str_to_ascii_lowercase text))

abbrev pub rank_cmp : RankValue → RankValue → Ordering
rank_cmp a b =
    ordering_then (nat_cmp a.class b.class) (ordering_then (nat_cmp a.size b.size) (slice_cmp nat_cmp a.bytes b.bytes))

abbrev pub empty_against : List RankValue → Ordering
empty_against [] = Equal
empty_against (y ∷ ys) = ordering_then (rank_cmp empty_rank y) (empty_against ys)

-- place by place, each list continued by empty items
abbrev pub ranks_cmp : List RankValue → List RankValue → Ordering
ranks_cmp [] ys = empty_against ys
ranks_cmp (x ∷ xs) [] = ordering_then (rank_cmp x empty_rank) (ranks_cmp xs [])
ranks_cmp (x ∷ xs) (y ∷ ys) = ordering_then (rank_cmp x y) (ranks_cmp xs ys)

abbrev pub items_cmp : List ℕ → List ℕ → Ordering
items_cmp a b = ranks_cmp (ranks a) (ranks b)

-- ties are broken by the bytes of the texts
abbrev pub full_cmp : List ℕ → List ℕ → Ordering
full_cmp a b = ordering_then (items_cmp a b) (slice_cmp nat_cmp a b)

abbrev pub rank_in : List ℕ → ℕ → RankValue
rank_in text place = get_or (ranks text) place empty_rank

abbrev pub ties_at : List ℕ → List ℕ → ℕ → Bool
ties_at a b place = is_eq (rank_cmp (rank_in a place) (rank_in b place))

-- the first items tie, and where they rank as 0 the second items too
abbrev pub same_series : List ℕ → List ℕ → Bool
same_series a b = ties_at a b 0 && (not (is_eq (rank_cmp (rank_in a 0) empty_rank)) || ties_at a b 1)
