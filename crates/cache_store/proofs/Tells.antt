-- What a seal says of the content of its part.
use Rattle.std.proofs.Common.{ℕ, ◌≡◌, ◌⊎◌, List, Option, Some, sym, ◌∙◌, subst, inl, inr}
use Rattle.std.specs.Prelude.{IfErr, IsErrOf, Result, Ok, Err}
use Rattle.digest_check.specs.Digests.{digests_of}
use Rattle.res_base.specs.declared.reading.Digest.{Digest}
use Rattle.cache_store.proofs.Slots.{some_one}
use Rattle.cache_store.specs.Causes.{IsFromDisk}
use Rattle.cache_store.specs.Parts.{HasBytes, HoldsBytes, Parts, part_at}
use Rattle.cache_store.specs.Wanted.{TellsDigest, differing}
use Rattle.cache_store.specs.declared.errors.StoreErr.{StoreErr}
use Rattle.cache_store.specs.declared.errors.StoreErr.TheVariants.{Differs, NoMemory as OutOfMemory}
use Rattle.cache_store.specs.declared.part.Part.{Part}

pub held_bytes : (parts : Parts) (k : ℕ) (all : List ℕ) (p : Part) → part_at parts k ≡ Some p → HoldsBytes parts k all
    → HasBytes p all
held_bytes parts k all p at h = subst (λ (q : Part). HasBytes q all) (some_one h.0 p (sym h.1 ∙ at)) h.2

-- ---- which answers tell a digest that differs
one_err : {T : Type 0} (x y : StoreErr) → ◌≡◌ {A = Result T StoreErr} (Err x) (Err y) → x ≡ y
one_err x y h = cc

never_ok : {T : Type 0} (x : T) (e : StoreErr) → ◌≡◌ {A = Result T StoreErr} (Ok x) (Err e) → ⊥
never_ok x e h = (cc)

module _ (wanted : Option Digest) (all : List ℕ) where
  -- no digest differs after an answer
  same : {T : Type 0} (x : T) → TellsDigest wanted all (Ok x) → (a b : Digest) → wanted ≡ Some a
      → differing wanted (digests_of all) ≡ Some b → ⊥
  same {T} x told a b e f = never (told.always a b e f)
    where
      never : IsErrOf {T = T} (Ok x) (Differs a b) ⊎ IsErrOf {T = T} (Ok x) OutOfMemory → ⊥
      never (inl h) = never_ok x (Differs a b) h
      never (inr h) = never_ok x OutOfMemory h

  pub tells_done : {T U : Type 0} (x : T) (y : U) → TellsDigest wanted all (Ok x) → TellsDigest wanted all (Ok y)
  tells_done x y told = record {
    only = λ a b h. absurd (never_ok y (Differs a b) h);
    always = λ a b e f. absurd (same x told a b e f);
  }

  -- then a later call failed by the disk
  pub tells_fault : {T U : Type 0} (x : T) (e : StoreErr) → TellsDigest wanted all (Ok x) → IsFromDisk e
      → TellsDigest {T = U} wanted all (Err e)
  tells_fault {T} {U} x e told from = record {
    only = λ a b h. absurd (subst IsFromDisk (one_err {T = U} e (Differs a b) h) from);
    always = λ a b f k. absurd (same x told a b f k);
  }

  -- whatever a later call by the disk answers
  pub tells_after : {T U : Type 0} (x : T) (r : Result U StoreErr) → TellsDigest wanted all (Ok x) → IfErr r IsFromDisk
      → TellsDigest wanted all r
  tells_after x (Ok y) told from = tells_done x y told
  tells_after x (Err e) told from = tells_fault x e told from
