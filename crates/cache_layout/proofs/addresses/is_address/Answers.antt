use Rattle.std.proofs.Common.{◌≡◌, ℕ, List, Result, Ok, Err, OnOk, IfErr, is_ok, ap, sym, ◌∙◌}
use Rattle.std.proofs.lemmas.Bool.{false_from_ne_true}
use Rattle.fault_place.specs.Place.{IsPlace}
use Rattle.cache_layout.specs.Addresses.{IsAddress, is_address}
use Rattle.cache_layout.proofs.addresses.is_address.Goals as goal

told : (text : List ℕ) (read : Result Unit ℕ) → OnOk read (IsAddress text) → IfErr read (IsPlace IsAddress text)
    → is_ok read ≡ is_address text
told text (Ok unit) taken refused = sym taken
told text (Err place) taken refused = sym (false_from_ne_true (is_address text) refused.outside)

pub returns : goal.returns
returns c =
    let answer = told _ c.read_address.result c.read_address.ensures.read c.read_address.ensures.refused in
    c.is_ok.ensures.value ∙ answer ∙ ap is_address c.as_bytes.ensures.value
