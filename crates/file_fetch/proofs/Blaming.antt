-- Whose fault it is that there is no answer, over several calls.
use Rattle.std.proofs.Common.{ℕ, ◌≡◌, ◌≤◌, List, Option, Some, None, Ok, Err, refl, subst, arith}
use Rattle.disk_base.specs.declared.disk_errors.DiskCall.{DiskCall}
use Rattle.link_base.specs.declared.link_errors.LinkErr.TheVariants as links
use Rattle.res_base.specs.Causes.{HasCause, Rose}
use Rattle.file_fetch.specs.Causes.{Failing, HasDiskFault, HasLinkFault}
use Rattle.file_fetch.specs.declared.errors.GetErr.{GetErr}
use Rattle.file_fetch.specs.declared.errors.GetErr.TheVariants.{Link, Disk, NoMemory}

rose_before : (a b c : ℕ) → a ≤ b → Rose b c → Rose a c
rose_before a b c le rose = omega (arith, le, rose)

-- ---- the disk

-- one that is not the disk's
pub no_disk_fault : (before now : ℕ) (last : Option DiskCall) (why : Option GetErr) → before ≤ now
    → ((call : DiskCall) → why ≡ Some (Disk call) → ⊥) → HasDiskFault before now last why
no_disk_fault before now last why le not = record {
  later = le;
  rose = λ call e. absurd (not call e);
  last_call = λ call e. absurd (not call e);
}

pub disk_after : (before mid now : ℕ) (last : Option DiskCall) (why : Option GetErr) → before ≤ mid
    → HasDiskFault mid now last why → HasDiskFault before now last why
disk_after before mid now last why le fault = record {
  later = omega (arith, le, fault.later);
  rose = λ call e. rose_before before mid now le (fault.rose call e);
  last_call = fault.last_call;
}

-- ---- the link

-- a link that was not asked
pub link_still : (count : ℕ) (why : Option GetErr) → (why ≡ Some Link → ⊥) → HasLinkFault count count why
link_still count why not = record { later = omega arith; rose = λ e. absurd (not e); quiet = λ e. refl }

pub link_fine : {T : Type 0} (before now : ℕ) (x : T) → HasCause {T = T} links.Failed before now (Ok x)
    → HasLinkFault before now None
link_fine before now x cause = record {
  later = cause.later;
  rose = λ e. let no : ⊥ = cc in absurd no;
  quiet = λ e. cause.quiet (λ h. let no : ⊥ = cc in no);
}

pub link_failed : {T : Type 0} (before now : ℕ) → HasCause {T = T} links.Failed before now (Err links.Failed)
    → HasLinkFault before now (Some Link)
link_failed before now cause = record {
  later = cause.later;
  rose = λ e. cause.failed refl;
  quiet = λ e. let no : ⊥ = cc in absurd no;
}

pub link_memory : {T : Type 0} (before now : ℕ) → HasCause {T = T} links.Failed before now (Err links.NoMemory)
    → HasLinkFault before now (Some NoMemory)
link_memory before now cause = record {
  later = cause.later;
  rose = λ e. let no : ⊥ = cc in absurd no;
  quiet = λ e. let no : ⊥ = cc in absurd no;
}

-- a call of the link, and then one of the store, or another one of the link
pub link_then : (before mid now : ℕ) (why : Option GetErr) → mid ≡ before → HasLinkFault mid now why
    → HasLinkFault before now why
link_then before mid now why same fault = subst (λ (n : ℕ). HasLinkFault n now why) same fault

-- the link failed, or had answered, and then the store gave no answer
pub link_other : (before now : ℕ) (why : Option GetErr) → before ≤ now → (why ≡ Some Link → ⊥) → (why ≡ None → ⊥)
    → HasLinkFault before now why
link_other before now why le not none = record { later = le; rose = λ e. absurd (not e); quiet = λ e. absurd (none e) }

-- ---- the failed URLs

pub failing_still : (url : List ℕ) (urls : Option (List (List ℕ))) (why : Option GetErr) → (why ≡ Some Link → ⊥)
    → Failing url urls urls why
failing_still url urls why not = record { added = λ e. absurd (not e); quiet = λ e. refl }

pub failing_other : (url : List ℕ) (before now : Option (List (List ℕ))) (why : Option GetErr) → (why ≡ Some Link → ⊥)
    → (why ≡ None → ⊥) → Failing url before now why
failing_other url before now why not none = record { added = λ e. absurd (not e); quiet = λ e. absurd (none e) }

pub failing_then : (url : List ℕ) (before mid now : Option (List (List ℕ))) (why : Option GetErr) → mid ≡ before
    → Failing url mid now why → Failing url before now why
failing_then url before mid now why same f = subst (λ (u : Option (List (List ℕ))). Failing url u now why) same f
