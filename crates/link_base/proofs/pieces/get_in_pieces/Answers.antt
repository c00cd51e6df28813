use Rattle.std.proofs.Common.{◌≡◌, ◌+◌, ◌++◌, ◌∙◌, ap, length, length-append, refl, arith, true, not, is_ok}
use Rattle.res_base.specs.Paths.{url_at}
use Rattle.res_base.specs.World.{at}
use Rattle.link_base.proofs.ByPieces.{open_at, whole_at_end, large_past_limit, begins_further}
use Rattle.link_base.proofs.Kept.{kept_trans}
use Rattle.link_base.proofs.pieces.get_in_pieces.Goals as goal

pub returns-in-End-clause-answer : goal.returns-in-End-clause-answer
returns-in-End-clause-answer g c = λ w agrees.
    let before = c.pieces.invariant in
    let url = url_at c.args.address.now c.args.path.now in
    let bytes = c.pieces.bytes.items in
    let piece = c.next_piece.new.into.items in
    let file = open_at url c.args.limit bytes in
    let answer = c.in_ok-next_piece.ensures.answer w (before.kept.agreement w agrees) file before.opened in
    let next = rw c.in-End.is at answer in
    rw c.from_vec.ensures
    (whole_at_end file (at w url) bytes piece c.args.limit (before.begins w agrees) refl before.within next)

pub returns-in-TooLarge-clause-answer : goal.returns-in-TooLarge-clause-answer
returns-in-TooLarge-clause-answer g c = λ w agrees.
    let before = c.pieces.invariant in
    let url = url_at c.args.address.now c.args.path.now in
    let file = open_at url c.args.limit c.pieces.bytes.items in
    let answer = c.in_ok-next_piece.ensures.answer w (before.kept.agreement w agrees) file before.opened in
    let next = rw c.in-TooLarge.is at answer in
    large_past_limit file (at w url) c.next_piece.new.into.items c.args.limit refl next

pub pieces-smaller : goal.pieces-smaller
pieces-smaller g c =
    let before = c.pieces.invariant in
    let bytes = c.pieces.bytes.items in
    let piece = c.next_piece.new.into.items in
    let longer = c.extend_from_slice.new.self.items in
    let added : is_ok c.extend_from_slice.result ≡ true = c.is_err.ensures.negation ∙ ap not c.if-is_err.false in
    let items : longer ≡ bytes ++ piece =
    c.extend_from_slice.ensures.items ∙ rw (added, c.as_slice.ensures.value) refl in
    let size : length longer ≡ length bytes + length piece = ap length items ∙ length-append _ _ in
    let file = open_at (url_at c.args.address.now c.args.path.now) c.args.limit bytes in
    let fits = rw c.in-Piece.is at (c.in_ok-next_piece.ensures.within file before.opened) in
    omega (arith, size, fits.some, fits.within)

pub pieces-preserved : goal.pieces-preserved
pieces-preserved g c =
    let link = g.L.Link in
    let before = c.pieces.invariant in
    let after = c.in_ok-next_piece.ensures in
    let bytes = c.pieces.bytes.items in
    let piece = c.next_piece.new.into.items in
    let longer = c.extend_from_slice.new.self.items in
    let added : is_ok c.extend_from_slice.result ≡ true = c.is_err.ensures.negation ∙ ap not c.if-is_err.false in
    let items : longer ≡ bytes ++ piece =
    c.extend_from_slice.ensures.items ∙ rw (added, c.as_slice.ensures.value) refl in
    let size : length longer ≡ length bytes + length piece = ap length items ∙ length-append _ _ in
    let url = url_at c.args.address.now c.args.path.now in
    let file = open_at url c.args.limit bytes in
    let fits = rw c.in-Piece.is at (after.within file before.opened) in
    let moved = rw before.opened at (rw c.in-Piece.is at after.moved) in
    record {
      opened = rw size moved;
      within = omega (arith, size, fits.within);
      begins = λ w agrees.
          let next = rw c.in-Piece.is at (after.answer w (before.kept.agreement w agrees) file before.opened) in
          rw items (begins_further file (at w url) bytes piece (before.begins w agrees) refl next);
      faults = after.cause.quiet (λ e. let no : ⊥ = cc in no) ∙ before.faults;
      asked = after.asked ∙ before.asked;
      failed = after.failed ∙ before.failed;
      kept = kept_trans link.agrees link.faults link.asked link.failed_urls _ _ _ before.kept after.kept;
    }
