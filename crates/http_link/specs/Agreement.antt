-- When a link over pages agrees with a world.
use Rattle.std.specs.Prelude.{ℕ, ◌≡◌, List, ◌++◌, Option, Some, None, length, Result}
use Rattle.http_wire.specs.declared.reply_reader.ReplyReader.{ReplyReader}
use Rattle.http_wire.specs.declared.replies.ReplyErr.{ReplyErr}
use Rattle.http_wire.specs.Fields.{Bytes}
use Rattle.http_wire.specs.Outcomes.{Outcome, IsOutcome}
use Rattle.link_base.specs.Links.{Rows}
use Rattle.link_base.specs.declared.links.OpenFile.{OpenFile}
use Rattle.res_base.specs.World.{at}
use Rattle.http_link.specs.declared.http_link.Reading.{Reading}
use Rattle.http_visits.specs.declared.pages.Page.{Page}
use Rattle.http_link.specs.declared.wire.Connection.{Connection}
use Rattle.http_visits.specs.declared.places.Place.{Place}
use Rattle.http_link.specs.Openings.{IsTail}
use Rattle.http_link.specs.Visited.{SaysFile}
use Rattle.http_visits.specs.Pages.{file_says}
use Rattle.http_visits.specs.Visits.{FitsWorld, PagesAgree, IsPlaceOf}

-- whatever whole reply this is, its file fits what is held
abbrev pub FitsFile : Option Bytes → ℕ → Bytes → Type 0
FitsFile held limit reply = (whole : Outcome) → IsOutcome limit reply whole
    → FitsWorld held limit (file_says whole.closed whole.content)

-- the world holds the open file, and what was given and waits is the beginning of a reply that fits it, which pages that are
-- told say at its URL
pub record FileAgrees (pages : Option (List Page)) (connection : Option Connection) (w : Rows) (file : OpenFile)
    (reader : ReplyReader) (pending : Bytes) (ended : Option (Result (Unit {0}) ReplyErr)) : Type 0 where
  pub held : Bytes
  pub there : at w file.url ≡ Some held
  pub given : Bytes
  pub as_long : length given ≡ file.given
  pub reply : Bytes
  pub tail : IsTail pages connection reader file.limit reply (given ++ pending) ended
  pub fits : (rows : List Page) → pages ≡ Some rows → FitsFile (Some held) file.limit reply
  pub start : Place
  pub place : IsPlaceOf file.url start
  pub says : (rows : List Page) → pages ≡ Some rows → SaysFile rows file.limit start reply

abbrev pub ReadingAgrees : Option (List Page) → Option Connection → Rows → Option Reading → Type 0
ReadingAgrees pages connection w None = Unit {0}
ReadingAgrees pages connection w (Some reading) =
    FileAgrees pages connection w reading.file reading.opening.reader reading.opening.pending.items
    reading.opening.ended

-- the pages are told, and say what the world holds
abbrev pub PagesTell : Option (List Page) → Rows → Type 0
PagesTell pages w = (rows : List Page) × (pages ≡ Some rows) × PagesAgree rows w

-- the pages are told and say what the world holds, and so does the reply of an open file
pub record Agrees (pages : Option (List Page)) (connection : Option Connection) (reading : Option Reading)
    (w : Rows) : Type 0 where
  pub rows : List Page
  pub told : pages ≡ Some rows
  pub agree : PagesAgree rows w
  pub open_file : ReadingAgrees pages connection w reading
