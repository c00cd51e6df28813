-- Worked rows.
use Rattle.std.specs.Prelude.{◌≡◌, ℕ, zero, suc, ◌+◌, Option, None, Some, List, [], ◌∷◌, ◌++◌, ◌==◌, codes, if◌then◌else◌, length, refl, replicate}
use Rattle.property_text.specs.Filled.{as_written, filled, filled_within}
use Rattle.property_text.specs.Segments.{literal, hole, segments}
use Rattle.property_text.specs.Values.{value_in, with_value}

pub cut : segments (codes "a${b}c$d$${e}") ≡ literal (codes "a") ∷ hole (codes "b") ∷ literal (codes "c$d$") ∷ hole (codes "e") ∷ []
cut = refl

-- a name runs to the next `}`
pub cut_open : segments (codes "${a${b}${c") ≡ hole (codes "a${b") ∷ literal (codes "${c") ∷ []
cut_open = refl

pub cut_empty : segments (codes "${}}$") ≡ hole [] ∷ literal (codes "}$") ∷ []
cut_empty = refl

-- a text so many times
abbrev times : ℕ → List ℕ → List ℕ
times zero text = []
times (suc n) text = text ++ times n text

abbrev values : List ℕ → Option (List ℕ)
values = value_in ((codes "a", codes "1") ∷ (codes "b", codes "<${a}>") ∷ (codes "c", codes "${b}${b}") ∷ (codes "v", codes "${v}") ∷ (codes "none", []) ∷ (codes "a", codes "2") ∷ [])

pub no_hole : filled values (codes "a$b{c}") ≡ codes "a$b{c}"
unfolding filled
no_hole = refl

pub nested : filled values (codes "x${c}y${a}") ≡ codes "x<1><1>y1"
unfolding filled
nested = refl

pub unknown : filled values (codes "${z}${a}${a${b}") ≡ codes "${z}1${a${b}"
unfolding filled
unknown = refl

pub unclosed : filled values (codes "${a}${b") ≡ codes "1${b"
unfolding filled
unclosed = refl

pub dollars : filled values (codes "$ $$ $${a} $") ≡ codes "$ $$ $1 $"
unfolding filled
dollars = refl

pub empty_value : filled values (codes "[${none}]") ≡ codes "[]"
unfolding filled
empty_value = refl

-- a value in itself
pub endless : filled values (codes "x${a}${v}") ≡ codes "x${a}${v}"
unfolding filled
endless = refl

-- what a value gives is not read again together with what stands beside it
pub not_joined : filled (value_in ((codes "d", codes "$") ∷ (codes "o", codes "${") ∷ (codes "a", codes "1") ∷ [])) (codes "${d}{a} ${o}a}") ≡ codes "${a} ${a}"
unfolding filled
not_joined = refl

abbrev chain : List ℕ → Option (List ℕ)
chain = value_in ((codes "1", codes "${2}") ∷ (codes "2", codes "${3}") ∷ (codes "3", codes "x") ∷ [])

pub chain_at_the_limit : filled_within chain 3 9 9 (codes "${1}") ≡ codes "x"
chain_at_the_limit = refl

pub chain_past_the_limit : filled_within chain 2 9 9 (codes "${3}${2}${1}") ≡ codes "${3}${2}${1}"
chain_past_the_limit = refl

-- each replacement counts, nested or not
pub count_at_the_limit : filled_within chain 9 6 9 (codes "${3}${2}${1}") ≡ codes "xxx"
count_at_the_limit = refl

pub count_past_the_limit : filled_within chain 9 5 9 (codes "${3}${2}${1}") ≡ codes "${3}${2}${1}"
count_past_the_limit = refl

pub size_at_the_limit : filled_within chain 9 9 5 (codes "a${3}${z") ≡ codes "ax${z"
size_at_the_limit = refl

pub size_past_the_limit : filled_within chain 9 9 4 (codes "a${3}${z") ≡ codes "a${3}${z"
size_past_the_limit = refl

-- a long name may give a short text
pub size_of_the_result : filled_within (value_in ((codes "long", codes "x") ∷ [])) 9 9 1 (codes "${long}") ≡ codes "x"
size_of_the_result = refl

-- names of one byte: each up to the last has the next as its value
abbrev up_to : ℕ → List ℕ → Option (List ℕ)
up_to last [] = None
up_to last (c ∷ name) = Some (if c == last then codes "x" else as_written ((c + 1) ∷ []))

pub a_chain_of_32 : filled (up_to 32) (as_written (1 ∷ [])) ≡ codes "x"
unfolding filled
a_chain_of_32 = refl

pub a_chain_of_33 : filled (up_to 33) (as_written (1 ∷ [])) ≡ as_written (1 ∷ [])
unfolding filled
a_chain_of_33 = refl

-- 32 values of `a` for each `b`, so 33 replacements
abbrev many : List ℕ → Option (List ℕ)
many = value_in ((codes "a", []) ∷ (codes "b", times 32 (codes "${a}")) ∷ [])

pub replacements_1024 : filled many (times 31 (codes "${b}") ++ codes "${a}.") ≡ codes "."
unfolding filled
replacements_1024 = refl

pub replacements_1025 : filled many (times 31 (codes "${b}") ++ codes "${a}${a}.") ≡ times 31 (codes "${b}") ++ codes "${a}${a}."
unfolding filled
replacements_1025 = refl

-- 256 bytes
abbrev wide : List ℕ → Option (List ℕ)
wide = value_in ((codes "a", replicate 256 46) ∷ [])

pub bytes_65536 : length (filled wide (times 256 (codes "${a}"))) ≡ 65536
unfolding filled
bytes_65536 = refl

pub bytes_65537 : filled wide (codes "." ++ times 256 (codes "${a}")) ≡ codes "." ++ times 256 (codes "${a}")
unfolding filled
bytes_65537 = refl

pub first_value_counts : value_in (with_value ((codes "a", codes "1") ∷ []) (codes "a") (codes "2")) (codes "a") ≡ value_in ((codes "a", codes "1") ∷ []) (codes "a")
first_value_counts = refl
