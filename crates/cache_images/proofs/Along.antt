-- Every image along the cache's sequences of calls is good.
use Rattle.std.proofs.Common.{ℕ, List, Option}
use Rattle.cache_images.proofs.Good.{from_images}
use Rattle.cache_images.proofs.Sealing.{append_along, clear_along, gone_along, publish_along, remove_along, removes_along, seal_along, start_along, sync_along, upgrade_along}
use Rattle.cache_images.specs.Along.{GoodAlong}

pub good_along : (Fits : List ℕ → List ℕ → Option (List ℕ) → Type 0) (Gone : List ℕ → List ℕ → Type 0)
    → GoodAlong Fits Gone
good_along Fits Gone = record {
  starts = λ s p part all. start_along Fits Gone s p part (from_images Fits Gone s all);
  appends = λ s p bytes part all. append_along Fits Gone s p bytes part (from_images Fits Gone s all);
  drops = λ s p part all. remove_along Fits Gone s p part (from_images Fits Gone s all);
  syncs = λ s all. sync_along Fits Gone s (from_images Fits Gone s all);
  takes = λ s there n named all. clear_along Fits Gone s there n named (from_images Fits Gone s all);
  seals = λ s there k n line named absent all.
      seal_along Fits Gone s there k n line named absent (from_images Fits Gone s all);
  publishes = λ s k n sealed fits all. publish_along Fits Gone s k n sealed fits (from_images Fits Gone s all);
  tells_absence = λ s there k n line named is all.
      gone_along Fits Gone s there k n line named is (from_images Fits Gone s all);
  upgrades = λ s k n line named fits all.
      upgrade_along Fits Gone s k n line named fits (from_images Fits Gone s all);
  opens = λ s names parts all. removes_along Fits Gone names s parts (from_images Fits Gone s all);
}
