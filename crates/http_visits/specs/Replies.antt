-- What is replied to a request.
use Rattle.std.specs.Prelude.{List, [], ◌∷◌, ◌&&◌, if◌then◌else◌}
use Rattle.res_base.specs.Names.{text_eq}
use Rattle.http_wire.specs.Fields.{Bytes}
use Rattle.http_visits.specs.declared.pages.Page.{Page}

-- the reply of the first page with this authority and this request; without one it is empty
abbrev pub reply_of : List Page → Bytes → Bytes → Bytes
reply_of [] authority request = []
reply_of (page ∷ pages) authority request =
    if text_eq page.authority authority && text_eq page.request request then page.reply else reply_of pages authority
    request
