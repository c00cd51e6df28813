-- Items cut in one pass are the items.
use Rattle.std.proofs.Common.{◌≡◌, ℕ, Bool, true, false, not, ◌&&◌, List, [], ◌∷◌, ◌++◌, inl, inr, refl, sym, ◌∙◌, ap, subst}
use Rattle.std.specs.Prelude.{flat_map}
use Rattle.std.specs.Bool.{beq}
use Rattle.std.specs.List.{list_all, slice_split, onto_first}
use Rattle.std.proofs.lemmas.Bool.{and_parts, and_from, cases_Bool, false≢true, not-true, not-false}
use Rattle.std.proofs.lemmas.List.{append_assoc, append-nil}
use Rattle.std.proofs.lemmas.List.Folds.{list_all-append}
use Rattle.ascii_bytes.specs.Classes.{is_digit}
use Rattle.version_order.specs.Items.{is_separator, runs, items}
use Rattle.version_order.specs.Cutting.{breaks, items_from}

-- all characters are digits, or none is
abbrev one_kind : List ℕ → Bool
one_kind [] = true
one_kind (d ∷ piece) = list_all (λ e. beq (is_digit d) (is_digit e)) piece

abbrev unseparated : List ℕ → Bool
unseparated = list_all (λ c. not (is_separator c))

beq-true : (p q : Bool) → beq p q ≡ true → p ≡ q
beq-true true true e = refl
beq-true true false e = absurd (false≢true e)
beq-true false true e = absurd (false≢true e)
beq-true false false e = refl

kind_of_tail : (d e : ℕ) (piece : List ℕ) → one_kind (d ∷ (e ∷ piece)) ≡ true
    → (is_digit d ≡ is_digit e) × (one_kind (e ∷ piece) ≡ true)
kind_of_tail d e piece one =
    let both = and_parts (beq (is_digit d) (is_digit e)) (list_all (λ c. beq (is_digit d) (is_digit c)) piece) one in
    let same = beq-true (is_digit d) (is_digit e) both.0 in
    (same, subst (λ k. list_all (λ c. beq k (is_digit c)) piece ≡ true) same both.1)

run_whole : (d : ℕ) (piece : List ℕ) → one_kind (d ∷ piece) ≡ true → runs (d ∷ piece) ≡ (d ∷ piece) ∷ []
run_whole d [] one = refl
run_whole d (e ∷ piece) one =
    let tail = kind_of_tail d e piece one in
    let both = and_parts (beq (is_digit d) (is_digit e)) (list_all (λ c. beq (is_digit d) (is_digit c)) piece) one in
    rw (both.0, run_whole e piece tail.1) refl

runs_whole : (piece : List ℕ) → one_kind piece ≡ true → runs piece ≡ piece ∷ []
runs_whole [] one = refl
runs_whole (d ∷ piece) one = run_whole d piece one

-- a run ends before a character of another kind
run_ends : (d : ℕ) (piece : List ℕ) (c : ℕ) (more : List ℕ) → one_kind (d ∷ piece) ≡ true
    → breaks (d ∷ piece) c ≡ true → runs ((d ∷ piece) ++ c ∷ more) ≡ (d ∷ piece) ∷ runs (c ∷ more)
run_ends d [] c more one apart = rw (not-true (beq (is_digit d) (is_digit c)) apart) refl
run_ends d (e ∷ piece) c more one apart =
    let tail = kind_of_tail d e piece one in
    let both = and_parts (beq (is_digit d) (is_digit e)) (list_all (λ k. beq (is_digit d) (is_digit k)) piece) one in
    rw (both.0, run_ends e piece c more tail.1 (subst (λ k. not (beq k (is_digit c)) ≡ true) tail.0 apart)) refl

runs_end : (piece : List ℕ) (c : ℕ) (more : List ℕ) → one_kind piece ≡ true → breaks piece c ≡ true
    → runs (piece ++ c ∷ more) ≡ piece ∷ runs (c ∷ more)
runs_end [] c more one apart = absurd (false≢true apart)
runs_end (d ∷ piece) c more one apart = run_ends d piece c more one apart

-- the first piece with a text before it
abbrev onto : List ℕ → List (List ℕ) → List (List ℕ)
onto [] pieces = pieces
onto (c ∷ text) pieces = onto_first c (onto text pieces)

split_onto : (piece text : List ℕ) → unseparated piece ≡ true
    → slice_split is_separator (piece ++ text) ≡ onto piece (slice_split is_separator text)
split_onto [] text free = refl
split_onto (c ∷ piece) text free =
    let both = and_parts (not (is_separator c)) (unseparated piece) free in
    rw (not-true (is_separator c) both.0, split_onto piece text both.1) refl

onto_piece : (piece first : List ℕ) (rest : List (List ℕ)) → onto piece (first ∷ rest) ≡ (piece ++ first) ∷ rest
onto_piece [] first rest = refl
onto_piece (c ∷ piece) first rest = ap (onto_first c) (onto_piece piece first rest)

-- a text has a first piece
first_piece : (text : List ℕ)
    → (first : List ℕ) × (rest : List (List ℕ)) × (slice_split is_separator text ≡ first ∷ rest)
first_piece [] = ([], [], refl)
first_piece (c ∷ text) =
    let next = first_piece text in
    elim (cases_Bool (is_separator c)) [
      | inl e ↦ ([], slice_split is_separator text, rw e refl)
      | inr e ↦ (c ∷ next.0, next.1, rw (e, next.2) refl)
    ]

one_kind_more : (piece : List ℕ) (c : ℕ) → one_kind piece ≡ true → breaks piece c ≡ false
    → one_kind (piece ++ c ∷ []) ≡ true
one_kind_more [] c one same = refl
one_kind_more (d ∷ piece) c one same =
    list_all-append (λ e. beq (is_digit d) (is_digit e)) piece (c ∷ [])
    ∙ and_from (list_all (λ e. beq (is_digit d) (is_digit e)) piece) (beq (is_digit d) (is_digit c) && true) one
    (and_from (beq (is_digit d) (is_digit c)) true (not-false (beq (is_digit d) (is_digit c)) same) refl)

unseparated_more : (piece : List ℕ) (c : ℕ) → unseparated piece ≡ true → is_separator c ≡ false
    → unseparated (piece ++ c ∷ []) ≡ true
unseparated_more piece c free e =
    list_all-append (λ k. not (is_separator k)) piece (c ∷ [])
    ∙ and_from (unseparated piece) (not (is_separator c) && true) free (rw e refl)

cut_separated : (piece text : List ℕ) (c : ℕ) → one_kind piece ≡ true → unseparated piece ≡ true
    → is_separator c ≡ true
    → flat_map runs (slice_split is_separator (piece ++ c ∷ text)) ≡ piece ∷ flat_map runs
    (slice_split is_separator text)
cut_separated piece text c one free e =
    let split : slice_split is_separator (c ∷ text) ≡ [] ∷ slice_split is_separator text = rw e refl in
    let pieces : slice_split is_separator (piece ++ c ∷ text) ≡ piece ∷ slice_split is_separator text =
    split_onto piece (c ∷ text) free ∙ ap (onto piece) split ∙ onto_piece piece []
    (slice_split is_separator text) ∙ ap (λ p. p ∷ slice_split is_separator text) (append-nil piece) in
    ap (flat_map runs) pieces ∙ ap (λ r. r ++ flat_map runs (slice_split is_separator text)) (runs_whole piece one)

cut_apart : (piece text : List ℕ) (c : ℕ) → one_kind piece ≡ true → unseparated piece ≡ true → is_separator c ≡ false
    → breaks piece c ≡ true
    → flat_map runs (slice_split is_separator (piece ++ c ∷ text)) ≡ piece ∷ flat_map runs
    (slice_split is_separator (c ∷ text))
cut_apart piece text c one free e apart =
    let next = first_piece text in
    let split : slice_split is_separator (c ∷ text) ≡ (c ∷ next.0) ∷ next.1 = rw (e, next.2) refl in
    let pieces : slice_split is_separator (piece ++ c ∷ text) ≡ (piece ++ c ∷ next.0) ∷ next.1 =
    split_onto piece (c ∷ text) free ∙ ap (onto piece) split ∙ onto_piece piece (c ∷ next.0) next.1 in
    ap (flat_map runs) pieces ∙ ap (λ r. r ++ flat_map runs next.1) (runs_end piece c next.0 one apart) ∙ ap
    (λ p. piece ∷ flat_map runs p) (sym split)

pub from_separator : (piece text : List ℕ) (c : ℕ) → is_separator c ≡ true
    → items_from piece (c ∷ text) ≡ piece ∷ items_from [] text
from_separator piece text c e = rw e refl

pub from_break : (piece text : List ℕ) (c : ℕ) → is_separator c ≡ false → breaks piece c ≡ true
    → items_from piece (c ∷ text) ≡ piece ∷ items_from (c ∷ []) text
from_break piece text c e b = rw (e, b) refl

pub from_more : (piece text : List ℕ) (c : ℕ) → is_separator c ≡ false → breaks piece c ≡ false
    → items_from piece (c ∷ text) ≡ items_from (piece ++ c ∷ []) text
from_more piece text c e b = rw (e, b) refl

cut_at : (text piece : List ℕ) → one_kind piece ≡ true → unseparated piece ≡ true
    → items_from piece text ≡ flat_map runs (slice_split is_separator (piece ++ text))
cut_at [] piece one free =
    sym
    (ap (flat_map runs) (split_onto piece [] free ∙ onto_piece piece [] [] ∙ ap (λ p. p ∷ []) (append-nil piece)) ∙ append-nil (runs piece) ∙ runs_whole piece one)
cut_at (c ∷ text) piece one free =
    elim (cases_Bool (is_separator c)) [
      | inl e ↦ from_separator piece text c e ∙ ap (λ r. piece ∷ r) (cut_at text [] refl refl) ∙ sym (cut_separated piece text c one free e)
      | inr e ↦
          elim (cases_Bool (breaks piece c)) [
            | inl b ↦ from_break piece text c e b ∙ ap (λ r. piece ∷ r) (cut_at text (c ∷ []) refl (rw e refl)) ∙ sym (cut_apart piece text c one free e b)
            | inr b ↦
                from_more piece text c e b
                ∙ cut_at text (piece ++ c ∷ []) (one_kind_more piece c one b) (unseparated_more piece c free e)
                ∙ ap (λ t. flat_map runs (slice_split is_separator t)) (append_assoc piece (c ∷ []) text)
          ]
    ]

pub items_cut : (text : List ℕ) → items_from [] text ≡ items text
items_cut text = cut_at text [] refl refl
