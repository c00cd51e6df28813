use Rattle.std.proofs.Common.{sym, ◌∙◌, subst}
use Rattle.http_wire.specs.Readers.{IsShown}
use Rattle.http_link.proofs.PageFacts.{PageLaws, known, page_gone, page_other, page_moved, page_nowhere, page_file, found_whole}
use Rattle.http_link.proofs.pages.page_of.Goals as goal

pub returns-in-Whole : goal.returns-in-Whole
returns-in-Whole c = λ told connection limit most reply kinds h some.
    let laws : PageLaws = record {
      starts = c.content_grows.ensures.starts;
      grows = c.content_grows.ensures.grows;
      one
          = c.one_outcome.ensures;
      reads = c.read_is_outcome.ensures;
      shows = c.shown_is_seen.ensures;
    } in
    let k = known c.args.step told connection c.args.reader limit most reply c.args.pending.items laws h some in
    found_whole told connection limit most reply c.opened.result (page_file told c.args.reader limit reply laws k
    (sym c.in-Whole.is ∙ kinds k.seen k.shown)) (c.opened.ensures told connection limit most reply h some)

pub returns-in-Gone : goal.returns-in-Gone
returns-in-Gone c = λ told connection limit most reply kinds h some.
    let laws : PageLaws = record {
      starts = c.content_grows.ensures.starts;
      grows = c.content_grows.ensures.grows;
      one
          = c.one_outcome.ensures;
      reads = c.read_is_outcome.ensures;
      shows = c.shown_is_seen.ensures;
    } in
    let k = known c.args.step told connection c.args.reader limit most reply c.args.pending.items laws h some in
    page_gone told c.args.reader limit reply k (sym c.in-Gone.is ∙ kinds k.seen k.shown)

pub returns-in-Other : goal.returns-in-Other
returns-in-Other c = λ told connection limit most reply kinds h some.
    let laws : PageLaws = record {
      starts = c.content_grows.ensures.starts;
      grows = c.content_grows.ensures.grows;
      one
          = c.one_outcome.ensures;
      reads = c.read_is_outcome.ensures;
      shows = c.shown_is_seen.ensures;
    } in
    let k = known c.args.step told connection c.args.reader limit most reply c.args.pending.items laws h some in
    page_other told c.args.reader limit reply k (sym c.in-Other.is ∙ kinds k.seen k.shown)

pub returns-in-None : goal.returns-in-None
returns-in-None c = λ told connection limit most reply kinds h some.
    let laws : PageLaws = record {
      starts = c.content_grows.ensures.starts;
      grows = c.content_grows.ensures.grows;
      one
          = c.one_outcome.ensures;
      reads = c.read_is_outcome.ensures;
      shows = c.shown_is_seen.ensures;
    } in
    let k = known c.args.step told connection c.args.reader limit most reply c.args.pending.items laws h some in
    page_nowhere told c.args.reader limit reply k (sym c.in-Elsewhere.is ∙ kinds k.seen k.shown)
    (rw c.in-None.is at (c.in_ok-location_of-in-Elsewhere.ensures k.seen (subst (IsShown k.seen) (sym c.head.ensures)
    k.shown)))

pub returns : goal.returns
returns c = λ told connection limit most reply kinds h some.
    let laws : PageLaws = record {
      starts = c.content_grows.ensures.starts;
      grows = c.content_grows.ensures.grows;
      one
          = c.one_outcome.ensures;
      reads = c.read_is_outcome.ensures;
      shows = c.shown_is_seen.ensures;
    } in
    let k = known c.args.step told connection c.args.reader limit most reply c.args.pending.items laws h some in
    page_moved told c.args.reader limit reply c.in-Some.location k (sym c.in-Elsewhere.is ∙ kinds k.seen k.shown)
    (rw c.in-Some.is at (c.in_ok-location_of-in-Elsewhere.ensures k.seen (subst (IsShown k.seen) (sym c.head.ensures)
    k.shown)))
