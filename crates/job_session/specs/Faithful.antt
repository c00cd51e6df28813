-- Caches that began faithful to a world.
use Rattle.std.specs.Prelude.{Option}
use Rattle.cache_images.specs.Sound.{IsFaithful}
use Rattle.disk_base.specs.Names.{Names}
use Rattle.fetch_pool.specs.Turns.{AllNow, TellsNames}
use Rattle.link_base.specs.Links.{Rows}

-- the disk tells its names, and each image that a crash may leave of it now is faithful to this world
pub record TellsFaithful {D : Type 0} (told : D → Option Names) (w : Rows) (disk : D) : Type 0 where
  pub tells : TellsNames told
  pub now : AllNow told (IsFaithful w) disk
