-- Small facts on runs of bytes.
use Rattle.std.proofs.Common.{◌≡◌, ℕ, Bool, true, false, cond, List, [], ◌∷◌, ◌++◌, refl, sym, ◌∙◌, ap, Option, Some, None}
use Rattle.std.proofs.lemmas.Bool.{and_parts, and_from, false≢true}
use Rattle.std.proofs.lemmas.List.{append_assoc, append-nil}
use Rattle.std.specs.List.{list_all}
use Rattle.ascii_bytes.specs.Classes.{is_white}
use Rattle.pom_grammar.specs.declared.encoding.Encoding.{Encoding}
use Rattle.pom_grammar.specs.declared.encoding.Tail.{Tail}
use Rattle.pom_grammar.specs.declared.encoding.Tail.TheVariants.{Whole}
use Rattle.pom_grammar.specs.Characters.{is_name, is_name_start, is_name_byte, skip_space, forward, onto}
use Rattle.pom_grammar.specs.Encodings.{goes_on, tails, next_tail}
use Rattle.pom_grammar.specs.Machine.{join}

pub every_one : (p : ℕ → Bool) (xs : List ℕ) (b : ℕ) → list_all p xs ≡ true → p b ≡ true
    → list_all p (xs ++ b ∷ []) ≡ true
every_one p [] b f g = rw g refl
every_one p (x ∷ xs) b f g =
    let parts = and_parts (p x) (list_all p xs) f in
    and_from (p x) (list_all p (xs ++ b ∷ [])) parts.0 (every_one p xs b parts.1 g)

pub name_one : (xs : List ℕ) (b : ℕ) → is_name xs ≡ true → is_name_byte b ≡ true → is_name (xs ++ b ∷ []) ≡ true
name_one [] b f g = absurd (false≢true f)
name_one (x ∷ xs) b f g =
    let parts = and_parts (is_name_start x) (list_all is_name_byte xs) f in
    and_from (is_name_start x) (list_all is_name_byte (xs ++ b ∷ [])) parts.0 (every_one is_name_byte xs b parts.1 g)

on_tail : (e : Encoding) (o : Option Tail) (xs ys : List ℕ)
    → ((next : Tail) → tails e next (xs ++ ys) ≡ goes_on (tails e next xs) (λ t. tails e t ys))
    → goes_on o (λ next. tails e next (xs ++ ys)) ≡ goes_on (goes_on o (λ next. tails e next xs)) (λ t. tails e t ys)
on_tail e None xs ys f = refl
on_tail e (Some next) xs ys f = f next

pub tails_more : (e : Encoding) (tail : Tail) (xs ys : List ℕ)
    → tails e tail (xs ++ ys) ≡ goes_on (tails e tail xs) (λ next. tails e next ys)
tails_more e tail [] ys = refl
tails_more e tail (x ∷ xs) ys = on_tail e (next_tail e tail x) xs ys (λ next. tails_more e next xs ys)

pub tails_one : (e : Encoding) (tail mid next : Tail) (xs : List ℕ) (b : ℕ) → tails e tail xs ≡ Some mid
    → next_tail e mid b ≡ Some next → tails e tail (xs ++ b ∷ []) ≡ Some next
tails_one e tail mid next xs b f g =
    tails_more e tail xs (b ∷ []) ∙ ap (λ o. goes_on o (λ t. goes_on (next_tail e t b) (λ u. Some u))) f
    ∙ ap (λ o. goes_on o (λ u. Some u)) g

pub join_skips : (text more : List ℕ) → join (skip_space text) more ≡ skip_space (text ++ more)
join_skips [] more = refl
join_skips (c ∷ text) more =
    elim (is_white c) as
    (λ b. join (cond b (skip_space text) (c ∷ text)) more
    ≡ cond b (skip_space (text ++ more)) (c ∷ (text ++ more))) [ true ↦ join_skips text more | false ↦ refl ]

pub forward-onto : (text seen : List ℕ) → forward (onto text seen) ≡ forward seen ++ text
forward-onto [] seen = sym (append-nil (forward seen))
forward-onto (c ∷ text) seen = forward-onto text (c ∷ seen) ∙ append_assoc (forward seen) (c ∷ []) text

pub onto_one : (text seen : List ℕ) (c : ℕ) → onto (text ++ c ∷ []) seen ≡ c ∷ onto text seen
onto_one [] seen c = refl
onto_one (b ∷ text) seen c = onto_one text (b ∷ seen) c

pub one_more : (e : Encoding) (text : List ℕ) (c : ℕ)
    → tails e Whole (text ++ c ∷ []) ≡ goes_on (tails e Whole text) (λ tail. next_tail e tail c)
one_more e text c = tails_more e Whole text (c ∷ []) ∙ go (tails e Whole text)
  where
    go : (o : Option Tail) → goes_on o (λ tail. tails e tail (c ∷ [])) ≡ goes_on o (λ tail. next_tail e tail c)
    go None = refl
    go (Some tail) = last (next_tail e tail c)
      where
        last : (p : Option Tail) → goes_on p (λ t. Some t) ≡ p
        last None = refl
        last (Some t) = refl
