-- An artifact that comes in pieces.
use Rattle.std.specs.Prelude.{ℕ, ◌≡◌, ◌<◌, ◌≤◌, List, Option, Some, None, IsTrue, length}
use Rattle.file_answers.specs.Demands.{is_of}
use Rattle.file_answers.specs.declared.demand.Demand.{Demand}
use Rattle.file_answers.specs.declared.demand.Demand.TheVariants.{AnyBytes, DigestOf, Undecided}
use Rattle.link_base.specs.declared.links.OpenFile.{OpenFile}
use Rattle.pool_rules.specs.Plans.{url_in}
use Rattle.pool_rules.specs.declared.plan.Plan.{Plan}
use Rattle.res_base.specs.declared.key.FileKey.{FileKey}

-- the open file of an artifact, of which so many bytes were given
abbrev pub artifact_at : Plan → FileKey → ℕ → OpenFile
artifact_at plan key given = record { url = url_in plan key; limit = plan.limit; given = given }

-- Of a file with these bytes all are held, and their number is told; or the file is too large.
abbrev pub HasReceived : Option (List ℕ) → ℕ → (List ℕ → Type 0) → Option ℕ → Type 0
HasReceived None limit Holds got = ⊥
HasReceived (Some bytes) limit Holds None = limit < length bytes
HasReceived (Some bytes) limit Holds (Some count) = Holds bytes × (count ≡ length bytes) × (length bytes ≤ limit)

-- a wanted digest is of the kind of its check
abbrev pub IsKind : Demand → Type 0
IsKind AnyBytes = Unit {0}
IsKind (DigestOf check digest) = IsTrue (is_of check digest)
IsKind Undecided = Unit {0}
