-- What a link answers, and what each call keeps.
use Rattle.std.specs.Prelude.{ℕ, ◌≡◌, ◌≤◌, ◌+◌, ◌++◌, ◌<◌, List, [], ◌∷◌, Option, Some, None, if◌then◌else◌, length, take, drop, nat_le, Result, Ok, Err, IfOk}
use Rattle.std.specs.Option.{ForSome, option_map}
use Rattle.res_base.specs.World.{at}
use Rattle.res_base.specs.declared.world.WorldRow.{WorldRow}
use Rattle.link_base.specs.declared.links.OpenFile.{OpenFile}
use Rattle.link_base.specs.declared.links.Got.{Got}
use Rattle.link_base.specs.declared.links.Got.TheVariants.{Bytes, Absent, TooLarge}
use Rattle.link_base.specs.declared.links.Opened.{Opened}
use Rattle.link_base.specs.declared.links.Opened.TheVariants.{Ready, Absent as Missing}
use Rattle.link_base.specs.declared.links.Next.{Next}
use Rattle.link_base.specs.declared.links.Next.TheVariants.{Piece, End, TooLarge as PastLimit}
use Rattle.link_base.specs.declared.link_errors.LinkErr.{LinkErr}
use Rattle.link_base.specs.declared.link_errors.LinkErr.TheVariants.{Failed, NoMemory}

-- the rows of a world
abbrev pub Rows : Type 0
Rows = List WorldRow

-- what is to be got of a file, or of none, under a limit
abbrev pub got_of : Option (List ℕ) → ℕ → Got
got_of None limit = Absent
got_of (Some bytes) limit = if nat_le (length bytes) limit then Bytes bytes else TooLarge

-- a call for a whole file answered what this world holds at the URL
abbrev pub AnswersGet : Rows → List ℕ → ℕ → Result Got LinkErr → Type 0
AnswersGet w url limit result = IfOk result (λ got. got ≡ got_of (at w url) limit)

-- no more bytes than the limit
abbrev pub FitsLimit : ℕ → Got → Type 0
FitsLimit limit (Bytes bytes) = length bytes ≤ limit
FitsLimit limit Absent = Unit {0}
FitsLimit limit TooLarge = Unit {0}

-- what opening a file, or none, answers
abbrev pub opened_of : Option (List ℕ) → Opened
opened_of None = Missing
opened_of (Some bytes) = Ready

-- opening a file answered whether this world holds one at the URL
abbrev pub AnswersOpen : Rows → List ℕ → Result Opened LinkErr → Type 0
AnswersOpen w url result = IfOk result (λ opened. opened ≡ opened_of (at w url))

-- the open file after an open that answered so
abbrev pub file_after_open : List ℕ → ℕ → Result Opened LinkErr → Option OpenFile
file_after_open url limit (Ok Ready) = Some (record { url = url; limit = limit; given = 0 })
file_after_open url limit (Ok Missing) = None
file_after_open url limit (Err e) = None

-- an open file once n more bytes of it were given
abbrev pub given_more : ℕ → OpenFile → OpenFile
given_more n file = record { url = file.url; limit = file.limit; given = file.given + n }

-- the open file after a call for its next piece: any answer but a piece closes it
abbrev pub file_after_piece : Option OpenFile → Result Next LinkErr → List ℕ → Option OpenFile
file_after_piece file (Ok Piece) piece = option_map (given_more (length piece)) file
file_after_piece file (Ok End) piece = None
file_after_piece file (Ok PastLimit) piece = None
file_after_piece file (Err e) piece = None

abbrev pub url_of_file : Option OpenFile → List ℕ
url_of_file None = []
url_of_file (Some file) = file.url

-- the failed URLs after a call at this one that answered so
abbrev pub failed_after : {T : Type 0} → Option (List (List ℕ)) → List ℕ → Result T LinkErr → Option (List (List ℕ))
failed_after before url (Ok x) = before
failed_after before url (Err Failed) = option_map (λ urls. urls ++ (url ∷ [])) before
failed_after before url (Err NoMemory) = before

-- a piece has 1 to 65,536 bytes, and the limit is not passed
pub record FitsPiece (file : OpenFile) (piece : List ℕ) : Type 0 where
  pub some : 0 < length piece
  pub few : length piece ≤ 65536
  pub within : file.given + length piece ≤ file.limit

-- what is so of each answer to a call for the next piece, whatever the file holds
abbrev pub IsWithinPiece : OpenFile → Result Next LinkErr → List ℕ → Type 0
IsWithinPiece file (Ok Piece) piece = FitsPiece file piece
IsWithinPiece file (Ok End) piece = piece ≡ []
IsWithinPiece file (Ok PastLimit) piece = (piece ≡ []) × (file.given ≡ file.limit)
IsWithinPiece file (Err e) piece = piece ≡ []

-- what is so of it where these bytes, or none, stand at the URL: a piece goes on from what was given, the end comes
-- where all was given, and the limit counts only where there are more bytes
abbrev pub IsNext : OpenFile → Option (List ℕ) → Result Next LinkErr → List ℕ → Type 0
IsNext file None (Ok next) piece = ⊥
IsNext file None (Err e) piece = Unit {0}
IsNext file (Some bytes) (Ok Piece) piece = piece ≡ take (length piece) (drop file.given bytes)
IsNext file (Some bytes) (Ok End) piece = file.given ≡ length bytes
IsNext file (Some bytes) (Ok PastLimit) piece = file.limit < length bytes
IsNext file (Some bytes) (Err e) piece = Unit {0}

-- a call for the next piece of the open file answered what this world holds at its URL
abbrev pub AnswersPiece : Rows → Option OpenFile → Result Next LinkErr → List ℕ → Type 0
AnswersPiece w opened result piece = ForSome opened (λ file. IsNext file (at w file.url) result piece)

-- the failed URLs have the earlier ones as a prefix, and are told where they were
abbrev pub FailedLonger : Option (List (List ℕ)) → Option (List (List ℕ)) → Type 0
FailedLonger old new = (more : List (List ℕ)) × (new ≡ option_map (λ urls. urls ++ more) old)

-- what every call of a link keeps: the worlds that it agrees with; no count falls; no failed URL is forgotten
pub record LinkKept {L : Type 0} (agrees : L → Rows → Type 0) (faults asked : L → ℕ)
    (failed_urls : L → Option (List (List ℕ))) (old new : L) : Type 0 where
  pub agreement : (w : Rows) → agrees old w → agrees new w
  pub faults_later : faults old ≤ faults new
  pub asked_later : asked old ≤ asked new
  pub failed_longer : FailedLonger (failed_urls old) (failed_urls new)
