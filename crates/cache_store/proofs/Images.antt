-- Each sequence of calls keeps what a crash may leave sound, faithful to each world, and every other file as it was.
use Rattle.std.proofs.Common.{ℕ, ◌≡◌, ◌≢◌, Bool, true, false, List, [], ◌∷◌, Option, Some}
use Rattle.disk_base.proofs.Composed.{keeps, keeps_refl, keeps_trans}
use Rattle.disk_base.specs.Images.{Image}
use Rattle.disk_base.specs.Names.{Names}
use Rattle.disk_base.specs.Runs.{AllAlong, Keeps, Ran}
use Rattle.disk_base.specs.declared.steps.DiskStep.{DiskStep}
use Rattle.disk_base.specs.declared.steps.DiskStep.TheVariants.{Append, Remove, Start, SyncNames}
use Rattle.cache_images.proofs.Along.{good_along}
use Rattle.cache_images.proofs.Frames.{MissAll}
use Rattle.cache_images.proofs.Held.{firm_images, held_along}
use Rattle.cache_images.proofs.Sealing.{rest_misses, seal_misses}
use Rattle.cache_images.proofs.Texts.{gone_not_data, is_part, is_record_part, part_not_data, record_not_data}
use Rattle.cache_images.specs.Along.{AllGood}
use Rattle.cache_images.specs.Leaves.{IsAbsent, IsSealed}
use Rattle.cache_images.specs.Places.{IsDataName, IsPartName, gone_name, part_name, record_part_name}
use Rattle.cache_images.specs.Sequences.{clear_steps, gone_steps, publish_steps, seal_steps, upgrade_steps}
use Rattle.cache_images.specs.Sound.{AnyLine, EachFile, HasItsRecord, IsGoneIn, IsWorlds}
use Rattle.cache_store.specs.Kept.{AnyFile, KeepsFiles, KeepsImages, OtherThan}

clear_misses : (there : Bool) (n m : List ℕ) → IsDataName m → n ≢ m → MissAll (clear_steps there n (gone_name n)) m
clear_misses true n m named other = (other, (gone_not_data n m named, (tt, tt)))
clear_misses false n m named other = tt

module _ {D : Type 0} (told : D → Option Names) (moment : D → ℕ) (since : D → ℕ → Image → Type 0) where
  -- files of which no call speaks
  pub files_kept : (files : List ℕ → Type 0) (steps : List DiskStep) (old new : D) → Ran told moment since steps old new
      → ((m : List ℕ) → IsDataName m → (s : Names) → told old ≡ Some s → files m → MissAll steps m)
      → KeepsFiles told moment since files old new
  files_kept files steps old new ran misses = record {
    each = λ m bytes named other. keeps (λ i. i m ≡ Some bytes) told moment since steps old new ran
        (λ s f all. held_along steps s m bytes (misses m named s f other) (firm_images s m bytes all));
  }

  -- where the calls are good for anything that is wanted of files
  pub kept_by : (files : List ℕ → Type 0) (steps : List DiskStep) (old new : D) → Ran told moment since steps old new
      → ((Fits : List ℕ → List ℕ → Option (List ℕ) → Type 0) (Gone : List ℕ → List ℕ → Type 0) (s : Names)
      → told old ≡ Some s → AllGood Fits Gone s → AllAlong (EachFile Fits Gone) steps s)
      → ((m : List ℕ) → IsDataName m → (s : Names) → told old ≡ Some s → files m → MissAll steps m)
      → KeepsImages told moment since files old new
  kept_by files steps old new ran along misses = record {
    sound = keeps (EachFile HasItsRecord AnyLine) told moment since steps old new ran
        (λ s f all. along HasItsRecord AnyLine s f all);
    faithful = λ w. keeps (EachFile (IsWorlds w) (IsGoneIn w)) told moment since steps old new ran
        (λ s f all. along (IsWorlds w) (IsGoneIn w) s f all);
    stay = files_kept files steps old new ran misses;
  }

  pub images_started : (old new : D) (p : List ℕ) → IsPartName p → Ran told moment since (Start p ∷ []) old new
      → KeepsImages told moment since AnyFile old new
  images_started old new p part ran =
      kept_by AnyFile (Start p ∷ []) old new ran (λ Fits Gone s f all. (good_along Fits Gone).starts s p part all)
      (λ m named s f other. (part_not_data p m part named, tt))

  pub images_appended : (old new : D) (p bytes : List ℕ) → IsPartName p
      → Ran told moment since (Append p bytes ∷ []) old new → KeepsImages told moment since AnyFile old new
  images_appended old new p bytes part ran =
      kept_by AnyFile (Append p bytes ∷ []) old new ran
      (λ Fits Gone s f all. (good_along Fits Gone).appends s p bytes part all)
      (λ m named s f other. (part_not_data p m part named, tt))

  pub images_removed : (old new : D) (p : List ℕ) → ((s : Names) → told old ≡ Some s → IsPartName p)
      → Ran told moment since (Remove p ∷ []) old new → KeepsImages told moment since AnyFile old new
  images_removed old new p part ran =
      kept_by AnyFile (Remove p ∷ []) old new ran
      (λ Fits Gone s f all. (good_along Fits Gone).drops s p (part s f) all)
      (λ m named s f other. (part_not_data p m (part s f) named, tt))

  pub images_synced : (old new : D) → Ran told moment since (SyncNames ∷ []) old new
      → KeepsImages told moment since AnyFile old new
  images_synced old new ran =
      kept_by AnyFile (SyncNames ∷ []) old new ran (λ Fits Gone s f all. (good_along Fits Gone).syncs s all)
      (λ m named s f other. (tt, tt))

  pub images_read : (old new : D) → Ran told moment since [] old new → KeepsImages told moment since AnyFile old new
  images_read old new ran = kept_by AnyFile [] old new ran (λ Fits Gone s f all. all) (λ m named s f other. tt)

  pub images_taken : (there : Bool) (old new : D) (n : List ℕ) → IsDataName n
      → Ran told moment since (clear_steps there n (gone_name n)) old new
      → KeepsImages told moment since (OtherThan n) old new
  images_taken there old new n named ran =
      kept_by (OtherThan n) (clear_steps there n (gone_name n)) old new ran
      (λ Fits Gone s f all. (good_along Fits Gone).takes s there n named all)
      (λ m is s f other. clear_misses there n m is other)

  pub images_sealed : (there : Bool) (old new : D) (k : ℕ) (n line : List ℕ) → IsDataName n
      → (there ≡ false → (s : Names) → told old ≡ Some s → IsAbsent (s n))
      → Ran told moment since (seal_steps there k n line) old new → KeepsImages told moment since (OtherThan n) old new
  images_sealed there old new k n line named absent ran =
      kept_by (OtherThan n) (seal_steps there k n line) old new ran
      (λ Fits Gone s f all. (good_along Fits Gone).seals s there k n line named (λ e. absent e s f) all)
      (λ m is s f other. seal_misses there k n line m (part_not_data (part_name k) m (is_part k) is) other
      (gone_not_data n m is) (part_not_data (record_part_name k) m (is_record_part k) is) (record_not_data n m is))

  -- a part that is published, where it fits
  pub images_published : (Fits : List ℕ → List ℕ → Option (List ℕ) → Type 0) (Gone : List ℕ → List ℕ → Type 0)
      (old new : D) (k : ℕ) (n : List ℕ)
      → ((s : Names) → told old ≡ Some s → (sealed : IsSealed s k n) × Fits n sealed.bytes (Some sealed.line))
      → Ran told moment since (publish_steps (part_name k) n) old new
      → Keeps told moment since (EachFile Fits Gone) old new
  images_published Fits Gone old new k n seals ran =
      keeps (EachFile Fits Gone) told moment since (publish_steps (part_name k) n) old new ran
      (λ s f all. let is = seals s f in (good_along Fits Gone).publishes s k n is.0 is.1 all)

  pub published_stay : (files : List ℕ → Type 0) (old new : D) (k : ℕ) (n : List ℕ)
      → ((m : List ℕ) → files m → n ≢ m) → Ran told moment since (publish_steps (part_name k) n) old new
      → KeepsFiles told moment since files old new
  published_stay files old new k n differ ran =
      files_kept files (publish_steps (part_name k) n) old new ran
      (λ m named s f other. ((part_not_data (part_name k) m (is_part k) named, differ m other), (tt, tt)))

  pub images_gone : (Fits : List ℕ → List ℕ → Option (List ℕ) → Type 0) (Gone : List ℕ → List ℕ → Type 0)
      (there : Bool) (old new : D) (k : ℕ) (n line : List ℕ) → IsDataName n → Gone n line
      → Ran told moment since (gone_steps there k n line) old new → Keeps told moment since (EachFile Fits Gone) old new
  images_gone Fits Gone there old new k n line named is ran =
      keeps (EachFile Fits Gone) told moment since (gone_steps there k n line) old new ran
      (λ s f all. (good_along Fits Gone).tells_absence s there k n line named is all)

  pub gone_stay : (there : Bool) (old new : D) (k : ℕ) (n line : List ℕ)
      → Ran told moment since (gone_steps there k n line) old new → KeepsFiles told moment since (OtherThan n) old new
  gone_stay there old new k n line ran =
      files_kept (OtherThan n) (gone_steps there k n line) old new ran
      (λ m named s f other. rest_misses there n (gone_name n) (record_part_name k) (gone_name n) line m other
      (gone_not_data n m named) (part_not_data (record_part_name k) m (is_record_part k) named) (gone_not_data n m named))

  pub upgrade_stay : (old new : D) (k : ℕ) (n line : List ℕ)
      → Ran told moment since (upgrade_steps k n line) old new → KeepsFiles told moment since AnyFile old new
  upgrade_stay old new k n line ran =
      files_kept AnyFile (upgrade_steps k n line) old new ran
      (λ m named s f other.
      let p = part_not_data (record_part_name k) m (is_record_part k) named in
      (tt, (p, (p, (p, ((p, record_not_data n m named), (tt, tt)))))))

  pub images_trans : (files : List ℕ → Type 0) (a b c : D) → KeepsImages told moment since files a b
      → KeepsImages told moment since files b c → KeepsImages told moment since files a c
  images_trans files a b c p q = record {
    sound = keeps_trans (EachFile HasItsRecord AnyLine) told moment since a b c p.sound q.sound;
    faithful = λ w. keeps_trans (EachFile (IsWorlds w) (IsGoneIn w)) told moment since a b c (p.faithful w) (q.faithful w);
    stay = record {
      each = λ m bytes named other. keeps_trans (λ i. i m ≡ Some bytes) told moment since a b c
          (p.stay.each m bytes named other) (q.stay.each m bytes named other);
    };
  }

  pub images_same : (files : List ℕ → Type 0) (disk : D) → KeepsImages told moment since files disk disk
  images_same files disk = record {
    sound = keeps_refl (EachFile HasItsRecord AnyLine) told moment since disk;
    faithful = λ w. keeps_refl (EachFile (IsWorlds w) (IsGoneIn w)) told moment since disk;
    stay = record { each = λ m bytes named other. keeps_refl (λ i. i m ≡ Some bytes) told moment since disk };
  }
