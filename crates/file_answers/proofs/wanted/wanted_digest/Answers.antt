use Rattle.file_answers.proofs.Wanting.{beside_is_path}
use Rattle.file_answers.proofs.wanted.wanted_digest.Goals as goal

pub get-requires : goal.get-requires
get-requires g c =
    rw (c.as_str.ensures, c.in_ok-beside.ensures)
    (beside_is_path c.args.path.now c.args.check c.requires.kind c.requires.path)
