-- What the store keeps over several calls.
use Rattle.std.proofs.Common.{ℕ, List, Option}
use Rattle.cache_images.specs.Sound.{IsFaithful, IsSound}
use Rattle.cache_store.specs.Kept.{AnyFile, KeepsImages}
use Rattle.cache_store.specs.Stands.{disk_of}
use Rattle.cache_store.specs.declared.store.Store.{Store}
use Rattle.disk_base.proofs.Composed.{keeps_refl, keeps_trans}
use Rattle.disk_base.specs.Images.{Image}
use Rattle.disk_base.specs.Names.{Names}
use Rattle.res_base.specs.declared.world.WorldRow.{WorldRow}
use Rattle.file_fetch.specs.Stores.{KeepsFaith, KeepsStore}

module _ {D : Type 0} (told : D → Option Names) (moment : D → ℕ) (since : D → ℕ → Image → Type 0) where
  abbrev Kept : (List ℕ → Type 0) → Store D → Store D → Type 0
  Kept = KeepsStore told moment since

  -- by what one call of the store keeps
  pub of_images : (files : List ℕ → Type 0) (a b : Store D) → KeepsImages told moment since files (disk_of a) (disk_of b)
      → Kept files a b
  of_images files a b k = record { sound = k.sound; stay = k.stay }

  pub store_refl : (files : List ℕ → Type 0) (a : Store D) → Kept files a a
  store_refl files a = record {
    sound = keeps_refl IsSound told moment since (disk_of a);
    stay = record { each = λ m bytes named of. keeps_refl _ told moment since (disk_of a) };
  }

  -- fewer files
  pub store_fewer : (files fewer : List ℕ → Type 0) (a b : Store D) → ((m : List ℕ) → fewer m → files m) → Kept files a b
      → Kept fewer a b
  store_fewer files fewer a b less k = record {
    sound = k.sound;
    stay = record { each = λ m bytes named of. k.stay.each m bytes named (less m of) };
  }

  pub store_any : (files : List ℕ → Type 0) (a b : Store D) → Kept AnyFile a b → Kept files a b
  store_any files a b = store_fewer AnyFile files a b (λ m of. tt)

  pub store_trans : (files : List ℕ → Type 0) (a b c : Store D) → Kept files a b → Kept files b c → Kept files a c
  store_trans files a b c p q = record {
    sound = keeps_trans IsSound told moment since _ _ _ p.sound q.sound;
    stay = record {
      each = λ m bytes named of.
          keeps_trans _ told moment since _ _ _ (p.stay.each m bytes named of) (q.stay.each m bytes named of);
    };
  }

  -- a call that changes no file, and then others; and the other way round
  pub any_then : (files : List ℕ → Type 0) (a b c : Store D) → Kept AnyFile a b → Kept files b c → Kept files a c
  any_then files a b c p q = store_trans files a b c (store_any files a b p) q

  pub then_any : (files : List ℕ → Type 0) (a b c : Store D) → Kept files a b → Kept AnyFile b c → Kept files a c
  then_any files a b c p q = store_trans files a b c p (store_any files b c q)

  pub faith_trans : (w : List WorldRow) (a b c : Store D) → KeepsFaith told moment since w a b
      → KeepsFaith told moment since w b c → KeepsFaith told moment since w a c
  faith_trans w a b c p q = record { faithful = keeps_trans (IsFaithful w) told moment since _ _ _ p.faithful q.faithful }

  pub faith_refl : (w : List WorldRow) (a : Store D) → KeepsFaith told moment since w a a
  faith_refl w a = record { faithful = keeps_refl (IsFaithful w) told moment since (disk_of a) }
