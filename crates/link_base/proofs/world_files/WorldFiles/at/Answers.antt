use Rattle.std.proofs.Common.{ap, sym, ◌∙◌}
use Rattle.link_base.specs.UrlPlaces.{bytes_at}
use Rattle.link_base.proofs.FirstPlaces.{bytes_at-place_from}
use Rattle.link_base.proofs.world_files.WorldFiles.at.Goals as goal

pub returns-in-None : goal.returns-in-None
returns-in-None c =
    let rows = c.args.self.now.world.rows in
    ap (bytes_at rows) (sym c.in-None.is ∙ c.place_of.ensures) ∙ bytes_at-place_from rows c.args.url.now

pub returns-in-Some : goal.returns-in-Some
returns-in-Some c =
    let rows = c.args.self.now.world.rows in
    let found = ap (bytes_at rows) (sym c.in-Some.is ∙ c.place_of.ensures) ∙ bytes_at-place_from rows c.args.url.now in
    c.row_bytes.ensures ∙ rw c.as_slice.ensures found
