use Rattle.res_base.specs.Paths.{slashed, dash_of}
use Rattle.res_base.proofs.PathShapes.{file_shape}
use Rattle.res_base.proofs.paths.file_path.Goals as goal

pub returns : goal.returns
returns c =
    let coord = c.args.coord.now in
    rw (
      c.from_string.ensures,
      c.in_ok-path.ensures.ok,
      c.as_str-folder.ensures,
      c.in_ok-folder.ensures,
      c.as_str.ensures,
      c.as_str-name.ensures,
      c.as_str-version.ensures,
      c.dash_before-dash.ensures,
    )
    (file_shape (slashed coord.«module».org) coord.«module».name coord.version
    (dash_of c.args.classifier.now) c.args.classifier.now c.args.ext.now)
