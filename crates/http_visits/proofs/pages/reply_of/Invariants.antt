use Rattle.std.proofs.Common.{◌≡◌, drop}
use Rattle.http_visits.specs.Replies.{reply_of}
use Rattle.http_visits.proofs.pages.reply_of.Given as goal

abbrev pub invariant-loop-page : goal.invariant-loop-page
invariant-loop-page l =
    reply_of (drop l.page-index l.pages) l.authority l.request ≡ reply_of l.pages l.authority l.request
