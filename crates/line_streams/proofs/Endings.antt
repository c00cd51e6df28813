-- What follows from how a command ends, whatever was to be said and why.
use Rattle.std.proofs.Common.{◌≡◌, ◌⊎◌, ℕ, Result, Ok, Err, inl, inr, refl, ⊎_elim}
use Rattle.line_streams.specs.Outcomes.{Streams, IsCut, IsSaid, whole, cut_out, cut_err, IsSaidOf, Ends, says, no_memory}
use Rattle.line_streams.specs.declared.said.Said.{Said}
use Rattle.res_base.specs.declared.memory.NoMemory.{NoMemory}

-- what is said was justified, or there was no memory
pub ends_of : (Justified : Said → Type 0) (s : Streams) (out_rose err_rose : Type 0) (result : Result Said NoMemory) (status : ℕ)
    → ((said : Said) → result ≡ Ok said → Justified said) → IsSaidOf s out_rose err_rose result status → Ends Justified s out_rose err_rose status
ends_of Justified s out_rose err_rose (Ok said) status why is = says said (why said refl) is
ends_of Justified s out_rose err_rose (Err refusal) status why is = no_memory is

pub cut_wider : (a b : Type 0) (status : ℕ) → (a → b) → IsCut a status → IsCut b status
cut_wider a b status f (inl five) = inl five
cut_wider a b status f (inr six) = inr (six.0, f six.1)

pub said_wider : (s : Streams) (out out' err err' : Type 0) (said : Said) (status : ℕ) → (out → out') → (err → err')
    → IsSaid s out err said status → IsSaid s out' err' said status
said_wider s out out' err err' said status f h (whole told) = whole told
said_wider s out out' err err' said status f h (cut_out is cut parts) =
    cut_out is (cut_wider (out ⊎ err) (out' ⊎ err') status (⊎_elim (λ o. inl (f o)) (λ e. inr (h e))) cut) parts
said_wider s out out' err err' said status f h (cut_err is cut parts) = cut_err is (cut_wider err err' status h cut) parts

-- from what holds of less to what holds of more
pub ends_wider : (J J' : Said → Type 0) (s : Streams) (out out' err err' : Type 0) (status : ℕ)
    → ((said : Said) → J said → J' said) → (out → out') → (err → err') → Ends J s out err status → Ends J' s out' err' status
ends_wider J J' s out out' err err' status j f h (says said justified is) =
    says said (j said justified) (said_wider s out out' err err' said status f h is)
ends_wider J J' s out out' err err' status j f h (no_memory lacking) =
    no_memory (record { cut = cut_wider err err' status h lacking.cut; line = lacking.line })
