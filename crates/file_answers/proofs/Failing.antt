-- The failed URLs of a call whose refusal is handed on.
use Rattle.std.proofs.Common.{◌≡◌, ◌∙◌, ℕ, List, Option, Result, Ok, Err, IsErrAnd, ap}
use Rattle.link_base.specs.Links.{failed_after}
use Rattle.link_base.specs.declared.link_errors.LinkErr.{LinkErr}
use Rattle.file_answers.specs.Asking.{FailedBeside, IsBeside}

pub handed_on : (T : Type 0) (url other : List ℕ) (before mid now : Option (List (List ℕ))) (error : LinkErr)
    (result : Result T LinkErr) → IsBeside url other → now ≡ failed_after {T = T} mid other (Err error) → mid ≡ before
    → IsErrAnd result (λ e. e ≡ error) → FailedBeside url before now result
handed_on T url other before mid now error (Ok x) beside failed earlier same = absurd same
handed_on T url other before mid now error (Err e) beside failed earlier same =
    (other, beside, rw same (failed ∙ ap (λ urls. failed_after {T = T} urls other (Err error)) earlier))
