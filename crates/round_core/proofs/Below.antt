-- What the crates below say, in one record.
use Rattle.std.specs.Prelude.{◌≡◌, ◌↔◌, ◌<◌, ℕ, false, List, length, Contains}
use Rattle.live_walk.proofs.Modules.{SetLaws}
use Rattle.pom_build.specs.Effectives.{effective_of}
use Rattle.pom_build.specs.NeededKeys.{IsOpen, needed_by}
use Rattle.pom_build.specs.Outcomes.{is_waiting}
use Rattle.pom_build.specs.Reads.{Agree, effective_keys}
use Rattle.pom_build.specs.declared.build.Build.TheVariants.{Needs}
use Rattle.project_lookup.specs.Listings.{is_unknown, listing_of}
use Rattle.res_base.specs.Known.{Grows, Known}
use Rattle.res_base.specs.declared.coord.Coord.{Coord}
use Rattle.res_base.specs.declared.coord.Module.{Module}
use Rattle.res_base.specs.declared.key.FileKey.{FileKey}

pub record Below : Type 0 where
  pub sets : SetLaws
  pub answer_grows : (before after : Known) (repos : ℕ) (c : Coord) → Grows before after
      → is_waiting (effective_of before repos c) ≡ false → effective_of after repos c ≡ effective_of before repos c
  pub keys_grow : (before after : Known) (repos : ℕ) (c : Coord) (key : FileKey) → Grows before after
      → Contains (effective_keys before repos c) key → Contains (effective_keys after repos c) key
  pub answer_reads : (known other : Known) (repos : ℕ) (c : Coord) → Agree known other (effective_keys known repos c)
      → effective_of other repos c ≡ effective_of known repos c
  pub keys_read : (known other : Known) (repos : ℕ) (c : Coord) → Agree known other (effective_keys known repos c)
      → effective_keys other repos c ≡ effective_keys known repos c
  pub needed : (known : Known) (repos : ℕ) (c : Coord) (key : FileKey)
      → Contains (needed_by (effective_of known repos c)) key ↔ IsOpen known repos c key
  pub some : (known : Known) (repos : ℕ) (c : Coord) (keys : List FileKey) → effective_of known repos c ≡ Needs keys
      → 0 < length keys
  pub listing_grows : (before after : Known) (m : Module) (repo : ℕ) → Grows before after
      → is_unknown (listing_of before m repo) ≡ false → listing_of after m repo ≡ listing_of before m repo
