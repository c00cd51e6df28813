use Rattle.std.proofs.Common.{◌≡◌, ◌≢◌, ℕ, rules, sym, ap, ◌∙◌, subst, [], length, None, Some, Ok}
use Rattle.link_base.specs.declared.links.Next.TheVariants.{Piece}
use Rattle.std.specs.Option.{option_map}
use Rattle.link_base.specs.Links.{file_after_piece, given_more, IsWithinPiece, IsNext}
use Rattle.res_base.specs.World.{at}
use Rattle.http_link.specs.Answers.{settled}
use Rattle.http_link.proofs.PageFacts.{PageLaws}
use Rattle.http_link.proofs.LinkFacts.{piece_answers, end_moved, end_within, end_all, end_fault, agrees_reading, known_reading}
use Rattle.http_link.proofs.OpenFacts.{known_count, agrees_count, fits_piece, next_answers}
use Rattle.http_link.proofs.HearFacts.{nil_of}
use Rattle.http_link.proofs.http_link.HttpLink.give.Goals as goal

pub returns-then-is_empty-clause-moved : goal.returns-then-is_empty-clause-moved
returns-then-is_empty-clause-moved g c =
    ap (option_map (λ now. now.file)) c.requires.closed
    ∙ subst (λ k. None ≡ file_after_piece (Some c.args.reading.file) (settled (Ok k)) c.args.into.now.items) (sym c.end_of.ensures)
    (end_moved c.args.reading.opening.ended c.args.reading.file c.args.into.now.items)

pub returns-then-is_empty-clause-within : goal.returns-then-is_empty-clause-within
returns-then-is_empty-clause-within g c =
    let none : c.args.reading.opening.pending.items ≡ [] = nil_of c.args.reading.opening.pending.len
    c.args.reading.opening.pending.items c.args.reading.opening.pending.ok.0 (sym c.is_empty.ensures ∙ c.if-is_empty.true) in
    subst (λ k. IsWithinPiece c.args.reading.file (settled (Ok k)) c.args.into.now.items) (sym c.end_of.ensures)
    (end_within c.args.reading.opening.ended c.args.reading.file c.args.into.now.items
    c.args.reading.opening.pending.items c.requires.empty none (known_reading c.args.reading).full)

pub returns-then-is_empty-clause-answer : goal.returns-then-is_empty-clause-answer
returns-then-is_empty-clause-answer g c = λ w tell a.
    let none : c.args.reading.opening.pending.items ≡ [] = nil_of c.args.reading.opening.pending.len
    c.args.reading.opening.pending.items c.args.reading.opening.pending.ok.0 (sym c.is_empty.ensures ∙ c.if-is_empty.true) in
    next_answers w c.args.reading.file (settled (Ok c.end_of.result)) c.args.into.now.items
    (subst (λ k. IsNext c.args.reading.file (at w c.args.reading.file.url) (settled (Ok k)) c.args.into.now.items)
    (sym c.end_of.ensures)
    (end_all _ _ w c.args.reading.file c.args.reading.opening.reader c.args.reading.opening.pending.items
    c.args.reading.opening.ended tell.0 none tell.1 a c.args.into.now.items))

pub returns-then-is_empty-clause-fault : goal.returns-then-is_empty-clause-fault
returns-then-is_empty-clause-fault g c = λ w a failed.
    let none : c.args.reading.opening.pending.items ≡ [] = nil_of c.args.reading.opening.pending.len
    c.args.reading.opening.pending.items c.args.reading.opening.pending.ok.0 (sym c.is_empty.ensures ∙ c.if-is_empty.true) in
    end_fault _ _ w c.args.reading.file c.args.reading.opening.reader c.args.reading.opening.pending.items
    c.args.reading.opening.ended none c.requires.ready a (ap (λ k. settled (Ok k)) (sym c.end_of.ensures) ∙ failed)

pub reading_of-requires : goal.reading_of-requires
reading_of-requires g c =
    let count : length c.as_slice.result.now ≡ length c.args.reading.opening.pending.items =
    ap length c.as_slice.ensures.value in
    let rest : c.swap.new.y.items ≡ [] = ap (λ v. v.items) c.swap.ensures.y_after ∙ c.requires.empty in
    known_count c.args.reading.opening.ended c.args.reading.opening.reader c.args.reading.file.limit
    c.args.reading.file.given (length c.as_slice.result.now) c.args.reading.opening.pending.items c.swap.new.y.items count rest
    (known_reading c.args.reading)

pub returns-clause-moved : goal.returns-clause-moved
returns-clause-moved g c =
    let count : length c.as_slice.result.now ≡ length c.args.reading.opening.pending.items =
    ap length c.as_slice.ensures.value in
    let piece : c.swap.new.x.items ≡ c.args.reading.opening.pending.items = ap (λ v. v.items) c.swap.ensures.x_after in
    ap Some (c.reading_of.ensures.file
    ∙ ap (λ (n : ℕ). given_more n c.args.reading.file) (count ∙ ap length (sym piece)))

pub returns-clause-within : goal.returns-clause-within
returns-clause-within g c =
    let some : c.args.reading.opening.pending.items ≢ [] = search rules in
    fits_piece c.args.reading c.swap.new.x.items (ap (λ v. v.items) c.swap.ensures.x_after) some

pub returns-clause-answer : goal.returns-clause-answer
returns-clause-answer g c = λ w tell a.
    let laws : PageLaws = record {
      starts = c.content_grows.ensures.starts;
      grows = c.content_grows.ensures.grows;
      one = c.one_outcome.ensures;
      reads = c.read_is_outcome.ensures;
      shows = c.shown_is_seen.ensures;
    } in
    let piece : c.swap.new.x.items ≡ c.args.reading.opening.pending.items = ap (λ v. v.items) c.swap.ensures.x_after in
    next_answers w c.args.reading.file (Ok Piece) c.swap.new.x.items
    (subst (λ k. IsNext c.args.reading.file (at w c.args.reading.file.url) (Ok Piece) k) (sym piece)
    (piece_answers _ _ w c.args.reading.file c.args.reading.opening.reader c.args.reading.opening.pending.items
    c.args.reading.opening.ended tell.0 laws tell.1 a))

pub returns-clause-agrees : goal.returns-clause-agrees
returns-clause-agrees g c = λ w a.
    let count : length c.as_slice.result.now ≡ length c.args.reading.opening.pending.items =
    ap length c.as_slice.ensures.value in
    let rest : c.swap.new.y.items ≡ [] = ap (λ v. v.items) c.swap.ensures.y_after ∙ c.requires.empty in
    agrees_reading _ _ w c.reading_of.result _ _ c.reading_of.ensures.file c.reading_of.ensures.opening
    (agrees_count _ _ w c.args.reading.file c.args.reading.opening.reader (length c.as_slice.result.now)
    c.args.reading.opening.pending.items c.swap.new.y.items c.args.reading.opening.ended count rest a)
