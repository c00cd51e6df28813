-- The one open part.
use Rattle.std.proofs.Common.{ℕ, ◌≡◌, ◌++◌, ⊎_elim, List, Option, Some, None, Ok, Err, refl, sym, ◌∙◌}
use Rattle.std.specs.Prelude.{IfSome}
use Rattle.cache_images.specs.Sound.{IsSound}
use Rattle.cache_store.specs.Kept.{KeepsFiles, OtherThan}
use Rattle.cache_store.specs.Parts.{HoldsBytes, OthersStay, Parts, part_at}
use Rattle.cache_store.specs.Stands.{IsNotSealedAs, disk_of, parts_of}
use Rattle.cache_store.specs.Wanted.{TellsDigest, differing}
use Rattle.cache_store.specs.declared.errors.StoreErr.TheVariants.{Differs}
use Rattle.cache_store.specs.declared.store.Store.{Store}
use Rattle.digest_check.specs.Digests.{digests_of}
use Rattle.disk_base.specs.Images.{Image}
use Rattle.disk_base.specs.Names.{Names}
use Rattle.disk_base.specs.Runs.{Keeps}
use Rattle.res_base.specs.declared.reading.Digest.{Digest}
use Rattle.file_fetch.specs.Stores.{IsOpen, IsSealedAlone, KeepsStore}

-- it is longer by a piece
pub open_longer : (old new : Parts) (number : ℕ) (piece : List ℕ) → IsOpen old number
    → IfSome (part_at new number) (λ part. part.sealed ≡ None)
    → ((all : List ℕ) → HoldsBytes old number all → HoldsBytes new number (all ++ piece)) → OthersStay number old new
    → IsOpen new number
open_longer old new number piece was unsealed bytes others = record {
  unsealed = unsealed;
  holds = (_, bytes was.holds.0 was.holds.1);
  alone = λ j not. others j not ∙ was.alone j not;
}

module _ {D : Type 0} where
  not_sealed : (store : Store D) (number : ℕ) (name : List ℕ) → IsSealedAlone (parts_of store) number name
      → (m : List ℕ) → OtherThan name m → IsNotSealedAs store number m
  not_sealed store number name sealed m other part there sealed_as =
      let same : Some sealed.part ≡ Some part = sym sealed.there ∙ there in
      let one : Some name ≡ Some m = cc in
      let e : name ≡ m = cc in
      other e

  -- it gets its name
  pub published_store : (told : D → Option Names) (moment : D → ℕ) (since : D → ℕ → Image → Type 0) (number : ℕ)
      (name : List ℕ) (old new : Store D) → IsSealedAlone (parts_of old) number name
      → Keeps told moment since IsSound (disk_of old) (disk_of new)
      → KeepsFiles told moment since (IsNotSealedAs old number) (disk_of old) (disk_of new)
      → KeepsStore told moment since (OtherThan name) old new
  published_store told moment since number name old new sealed sound stay = record {
    sound = sound;
    stay = record { each = λ m bytes named other. stay.each m bytes named (not_sealed old number name sealed m other) };
  }

differs_or : {T : Type 0} (a : Digest) (bytes : List ℕ) (x : T) → TellsDigest {T = T} (Some a) bytes (Ok x) → (o : Option Digest)
    → differing (Some a) (digests_of bytes) ≡ o → None ≡ o
differs_or a bytes x tells None e = refl
differs_or a bytes x tells (Some b) e = absurd (⊎_elim (λ h. let no : ⊥ = cc in no) (λ h. let no : ⊥ = cc in no) (tells.always a b refl e))

-- it was sealed, so no other digest was wanted
pub sealed_same : {T : Type 0} (wanted : Option Digest) (bytes : List ℕ) (x : T) → TellsDigest {T = T} wanted bytes (Ok x)
    → None ≡ differing wanted (digests_of bytes)
sealed_same None bytes x tells = refl
sealed_same (Some a) bytes x tells = differs_or a bytes x tells _ refl

-- it was not
pub sealed_other : {T : Type 0} (wanted : Option Digest) (bytes : List ℕ) (a b : Digest)
    → TellsDigest {T = T} wanted bytes (Err (Differs a b)) → Some b ≡ differing wanted (digests_of bytes)
sealed_other wanted bytes a b tells = sym (tells.only a b refl).1
