-- How a claim ends.
use Rattle.std.specs.Prelude.{◌≡◌, Option, Some, None, Result, Ok, Err}
use Rattle.claim_rules.specs.Histories.{What, arrive, broke, give_back}
use Rattle.claim_rules.specs.declared.why.Why.TheVariants as whys
use Rattle.file_fetch.specs.declared.errors.GetErr.{GetErr}
use Rattle.file_fetch.specs.declared.errors.GetErr.TheVariants.{Link, NotCached, Disk, NoMemory}
use Rattle.pool_rules.specs.Counts.{Counts}
use Rattle.pool_rules.specs.declared.finish.EndCause.{EndCause}
use Rattle.pool_rules.specs.declared.finish.EndCause.TheVariants as causes
use Rattle.pool_rules.specs.declared.finish.Finish.{Finish}
use Rattle.pool_rules.specs.declared.finish.Finish.TheVariants as finishes
use Rattle.res_base.specs.Causes.{Rose}
use Rattle.res_base.specs.declared.key.FileKey.{FileKey}
use Rattle.res_base.specs.declared.reading.Reading.{Reading}

abbrev pub finish_by : EndCause → Finish
finish_by (causes.Disk call) = finishes.Disk call
finish_by causes.Memory = finishes.Memory

-- the entry by which a claim of the key ends, where this was got for it, and the work ends so or goes on
abbrev pub taken : FileKey → Reading → Option Finish → What
taken key reading None = arrive key reading
taken key reading (Some finish) = give_back key

abbrev pub failed : FileKey → GetErr → What
failed key Link = broke key whys.Link
failed key NotCached = broke key whys.NotCached
failed key (Disk call) = give_back key
failed key NoMemory = give_back key

abbrev pub what_of : FileKey → Result Reading GetErr → Option Finish → What
what_of key (Ok reading) finish = taken key reading finish
what_of key (Err why) finish = failed key why

-- Only a disk that failed, and want of memory, end the work. An answer ends it only where there is no memory for it.
abbrev pub MayTake : Option Finish → Option EndCause → Type 0
MayTake None ended = ended ≡ None
MayTake (Some finish) ended = (finish ≡ finishes.Memory) × (ended ≡ Some causes.Memory)

abbrev pub MayFail : GetErr → Option Finish → Option EndCause → Type 0
MayFail Link finish ended = (finish ≡ None) × (ended ≡ None)
MayFail NotCached finish ended = (finish ≡ None) × (ended ≡ None)
MayFail (Disk call) finish ended = (finish ≡ Some (finishes.Disk call)) × (ended ≡ Some (causes.Disk call))
MayFail NoMemory finish ended = (finish ≡ Some finishes.Memory) × (ended ≡ Some causes.Memory)

abbrev pub MayEnd : Result Reading GetErr → Option Finish → Option EndCause → Type 0
MayEnd (Ok reading) finish ended = MayTake finish ended
MayEnd (Err why) finish ended = MayFail why finish ended

-- The work ended so: the disk failed, at this call last; or memory was wanted.
abbrev pub EndsBy : Option EndCause → Counts → Counts → Finish → Type 0
EndsBy ended before now finishes.Over = ⊥
EndsBy ended before now (finishes.Stuck key why) = ⊥
EndsBy ended before now finishes.TooMany = ⊥
EndsBy ended before now (finishes.Disk call) =
    Rose before.disk_faults now.disk_faults × (now.disk_last ≡ Some call) × (ended ≡ Some (causes.Disk call))
EndsBy ended before now finishes.Memory = ended ≡ Some causes.Memory
