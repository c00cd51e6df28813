-- Small facts on bytes, their runs and what a text lacks after them.
use Rattle.std.proofs.Common.{◌≡◌, ℕ, Bool, true, false, cond, List, [], ◌∷◌, ◌++◌, refl, sym, ◌∙◌, ap, Option, Some, None}
use Rattle.std.specs.Prelude.{◌==◌, nat_lt}
use Rattle.std.proofs.lemmas.Bool.{and_from, ne_eqb, false≢true}
use Rattle.std.proofs.lemmas.List.{append_assoc, append-nil}
use Rattle.std.proofs.lemmas.List.Folds.{list_all-append}
use Rattle.std.specs.List.{list_all}
use Rattle.ascii_bytes.specs.Classes.{is_white}
use Rattle.pom_grammar.specs.declared.encoding.Encoding.{Encoding}
use Rattle.pom_grammar.specs.declared.encoding.Encoding.TheVariants.{Utf8, Ascii, Latin1}
use Rattle.pom_grammar.specs.declared.encoding.Tail.{Tail}
use Rattle.pom_grammar.specs.declared.encoding.Tail.TheVariants.{Whole}
use Rattle.pom_grammar.specs.Characters.{skip_space, forward, onto}
use Rattle.pom_grammar.specs.Encodings.{goes_on, tails, next_tail}
use Rattle.pom_grammar.specs.Machine.{join}

-- bytes that a test tells apart are two
pub apart : (p : ℕ → Bool) (b k : ℕ) → p b ≡ true → p k ≡ false → (b == k) ≡ false
apart p b k f g = ne_eqb b k (λ same. false≢true (sym g ∙ ap p (sym same) ∙ f))

pub every_one : (p : ℕ → Bool) (xs : List ℕ) (b : ℕ) → list_all p xs ≡ true → p b ≡ true
    → list_all p (xs ++ b ∷ []) ≡ true
every_one p xs b f g = list_all-append p xs (b ∷ [])
    ∙ and_from (list_all p xs) (list_all p (b ∷ [])) f (rw g refl)

-- bytes with the last first
pub onto_append : (xs ys seen : List ℕ) → onto (xs ++ ys) seen ≡ onto ys (onto xs seen)
onto_append [] ys seen = refl
onto_append (x ∷ xs) ys seen = onto_append xs ys (x ∷ seen)

pub forward-onto : (text seen : List ℕ) → forward (onto text seen) ≡ forward seen ++ text
forward-onto [] seen = sym (append-nil (forward seen))
forward-onto (c ∷ text) seen = forward-onto text (c ∷ seen) ∙ append_assoc (forward seen) (c ∷ []) text

pub join_skips : (text more : List ℕ) → join (skip_space text) more ≡ skip_space (text ++ more)
join_skips [] more = refl
join_skips (c ∷ text) more =
    elim (is_white c) as
    (λ b. join (cond b (skip_space text) (c ∷ text)) more
    ≡ cond b (skip_space (text ++ more)) (c ∷ (text ++ more))) [ true ↦ join_skips text more | false ↦ refl ]

-- what a text lacks
pub ascii_next : (e : Encoding) (c : ℕ) → nat_lt c 128 ≡ true → next_tail e Whole c ≡ Some Whole
ascii_next Utf8 c f = rw f refl
ascii_next Ascii c f = rw f refl
ascii_next Latin1 c f = refl

pub goes_on_some : (o : Option Tail) (f : Tail → Option Tail) (next : Tail) → goes_on o f ≡ Some next
    → (tail : Tail) × (o ≡ Some tail) × (f tail ≡ Some next)
goes_on_some None f next g = let no : ⊥ = cc in absurd no
goes_on_some (Some tail) f next g = (tail, refl, g)

on_both : (o : Option Tail) (f g h : Tail → Option Tail) → ((tail : Tail) → h tail ≡ goes_on (f tail) g)
    → goes_on o h ≡ goes_on (goes_on o f) g
on_both None f g h same = refl
on_both (Some tail) f g h same = same tail

pub tails_more : (e : Encoding) (tail : Tail) (xs ys : List ℕ)
    → tails e tail (xs ++ ys) ≡ goes_on (tails e tail xs) (λ next. tails e next ys)
tails_more e tail [] ys = refl
tails_more e tail (x ∷ xs) ys =
    on_both (next_tail e tail x) (λ next. tails e next xs) (λ next. tails e next ys) (λ next. tails e next (xs ++ ys))
    (λ next. tails_more e next xs ys)

pub tails_one : (e : Encoding) (tail mid next : Tail) (xs : List ℕ) (b : ℕ) → tails e tail xs ≡ Some mid
    → next_tail e mid b ≡ Some next → tails e tail (xs ++ b ∷ []) ≡ Some next
tails_one e tail mid next xs b f g =
    tails_more e tail xs (b ∷ [])
    ∙ ap (λ o. goes_on o (λ t. tails e t (b ∷ []))) f ∙ ap (λ o. goes_on o (λ t. Some t)) g
