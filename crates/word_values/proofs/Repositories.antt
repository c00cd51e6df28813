-- What holds of the repositories of a job.
use Rattle.std.proofs.Common.{◌≡◌, ◌≤◌, ◌==◌, ℕ, Bool, true, false, cond, List, [], ◌∷◌, ◌++◌, Some, None, Ok, Err, length, IfOk, refl, subst, arith, length-append, lit≤}
use Rattle.std.proofs.lemmas.Bool.Decides.{nat_tests}
use Rattle.std.specs.List.{list_all}
use Rattle.cache_layout.specs.Addresses.{is_address}
use Rattle.word_values.specs.Addresses.{address_of, repository_in, without_slashes}
use Rattle.word_values.specs.Members.{members_in}
use Rattle.word_values.specs.Refusals.{Answers, Read}
use Rattle.word_values.specs.declared.refusals.WordKind.TheVariants as kind
use Rattle.word_values.proofs.FitLists.{all_more}
use Rattle.word_values.proofs.Kept.{kept}

-- at most 16, each an address
pub record AreRepositories (made : List (List ℕ)) : Type 0 where
  pub few : length made ≤ 16
  pub addresses : list_all is_address made ≡ true

is_one : (word member : List ℕ) → address_of word ≡ Some member → is_address member ≡ true
is_one word member e = go (is_address (without_slashes word)) refl e
  where
    go : (b : Bool) → is_address (without_slashes word) ≡ b → cond b (Some (without_slashes word)) None ≡ Some member → is_address member ≡ true
    go true q s = let same : without_slashes word ≡ member = cc in subst (λ text. is_address text ≡ true) same q
    go false q s = let no : ⊥ = cc in absurd no

step : (before : List (List ℕ)) (word : List ℕ) (is_last : Bool) (member : List ℕ) → AreRepositories before → repository_in before word is_last ≡ Some member → AreRepositories (before ++ member ∷ [])
step before word is_last member h e = go (length before == 16) refl e
  where
    go : (b : Bool) → (length before == 16) ≡ b → cond b None (address_of word) ≡ Some member → AreRepositories (before ++ member ∷ [])
    go true q s = let no : ⊥ = cc in absurd no
    go false q s = record {
      few = let few : length before ≤ 16 = h.few in simp length-append (grind (arith, nat_tests, q, few));
      addresses = all_more is_address before member h.addresses (is_one word member s);
    }

pub are_repositories : (texts made : List (List ℕ)) → members_in kind.Repositories repository_in texts ≡ Ok made → AreRepositories made
are_repositories texts made e = kept kind.Repositories repository_in AreRepositories step texts [] made (record { few = lit≤ tt; addresses = refl }) e

-- a fact of each value that is wanted holds of a value that is answered
pub of_answer : {A : Type 0} (P : A → Type 0) (wanted answer : Read A) → Answers wanted answer → ((value : A) → wanted ≡ Ok value → P value) → IfOk answer P
of_answer P wanted (Ok value) h holds = holds value h
of_answer P wanted (Err e) h holds = tt
