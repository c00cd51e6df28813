-- What is got of what a reply says.
use Rattle.std.specs.Prelude.{◌≡◌, ◌≢◌, [], Option, Some, None, Result, Ok, Err}
use Rattle.http_wire.specs.declared.replies.ReplyErr.{ReplyErr}
use Rattle.http_wire.specs.declared.replies.ReplyErr.TheVariants.{BadHead, HeadTooLong, BadLength, BadChunk, Encoded, EndedEarly, BodyTooLong, NoMemory}
use Rattle.link_base.specs.declared.links.Next.{Next}
use Rattle.link_base.specs.declared.links.Next.TheVariants.{End, TooLarge as PastLimit}
use Rattle.http_wire.specs.Fields.{Bytes}
use Rattle.link_base.specs.declared.links.Got.{Got}
use Rattle.link_base.specs.declared.links.Got.TheVariants.{Bytes as WholeFile, Absent, TooLarge}
use Rattle.http_visits.specs.Pages.{Says, file, absent, moved, large, faulty, IsFault}

abbrev pub IsGot : Says → Got → Type 0
IsGot (file body) got = got ≡ WholeFile body
IsGot absent got = got ≡ Absent
IsGot (moved location) got = ⊥
IsGot (large body) got = got ≡ TooLarge
IsGot (faulty body) got = ⊥

-- nothing is got of a fault alone
abbrev pub IsGotOf : Says → Option Got → Type 0
IsGotOf says None = IsFault says
IsGotOf says (Some got) = IsGot says got

-- what is got of a reply that ended so, with this content; nothing where it is at fault
abbrev pub got_said : Result (Unit {0}) ReplyErr → Bytes → Option Got
got_said (Ok u) body = Some (WholeFile body)
got_said (Err BadHead) body = None
got_said (Err HeadTooLong) body = None
got_said (Err BadLength) body = None
got_said (Err BadChunk) body = None
got_said (Err Encoded) body = None
got_said (Err EndedEarly) body = None
got_said (Err BodyTooLong) body = Some TooLarge
got_said (Err NoMemory) body = None

-- a piece waits, or the reply has ended
abbrev pub IsReady : Bytes → Option (Result (Unit {0}) ReplyErr) → Type 0
IsReady pending None = pending ≢ []
IsReady pending (Some ended) = Unit {0}

-- how an open file ends, nothing waiting; nothing where its reply is at fault
abbrev pub end_of : Option (Result (Unit {0}) ReplyErr) → Option Next
end_of None = None
end_of (Some (Ok u)) = Some End
end_of (Some (Err BadHead)) = None
end_of (Some (Err HeadTooLong)) = None
end_of (Some (Err BadLength)) = None
end_of (Some (Err BadChunk)) = None
end_of (Some (Err Encoded)) = None
end_of (Some (Err EndedEarly)) = None
end_of (Some (Err BodyTooLong)) = Some PastLimit
end_of (Some (Err NoMemory)) = None
