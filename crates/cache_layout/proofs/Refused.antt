-- A refusal with one place is one with another only where these are one.
use Rattle.std.proofs.Common.{◌≡◌, ℕ, ◌+◌, List, Result, Err, Ok, IfOk, refl, subst, sym}
use Rattle.cache_layout.specs.Fields.{moved}
use Rattle.fault_place.specs.Place.{IsPlace}
use Rattle.cache_layout.specs.declared.errors.NameErr.{NameErr}
use Rattle.cache_layout.specs.declared.errors.NameErr.TheVariants as names
use Rattle.cache_layout.specs.declared.errors.RecordErr.{RecordErr}
use Rattle.cache_layout.specs.declared.errors.RecordErr.TheVariants as lines

pub err_same : {A E : Type 0} (x y : E) → ◌≡◌ {A = Result A E} (Err x) (Err y) → x ≡ y
err_same x y e = cc

-- a refusal that was moved to a place came from one before it
pub record IsMoved (refusal : RecordErr) (before n : ℕ) : Type 0 where
  pub place : ℕ
  pub was : refusal ≡ lines.BadLine place
  pub now : n ≡ before + place

pub moved_from : (refusal : RecordErr) (before n : ℕ) → moved before refusal ≡ lines.BadLine n
    → IsMoved refusal before n
moved_from (lines.BadLine m) before n e = record { place = m; was = refl; now = let f : before + m ≡ n = cc in sym f }
moved_from lines.NoMemory before n e = cc

-- what holds of what was read
pub if_ok : {A E : Type 0} {P Q : A → Type 0} → ((x : A) → P x → Q x) → (r : Result A E) → IfOk r P → IfOk r Q
if_ok map (Ok x) h = map x h
if_ok map (Err e) h = tt

pub at_bad_line : {A : Type 0} (G : List ℕ → Type 0) (text : List ℕ) (m n : ℕ)
    → ◌≡◌ {A = Result A RecordErr} (Err (lines.BadLine m)) (Err (lines.BadLine n)) → IsPlace G text m
    → IsPlace G text n
at_bad_line G text m n e at = let same : m ≡ n = cc in subst (IsPlace G text) same at

pub at_bad_address : {A : Type 0} (G : List ℕ → Type 0) (text : List ℕ) (m n : ℕ)
    → ◌≡◌ {A = Result A NameErr} (Err (names.BadAddress m)) (Err (names.BadAddress n)) → IsPlace G text m
    → IsPlace G text n
at_bad_address G text m n e at = let same : m ≡ n = cc in subst (IsPlace G text) same at
