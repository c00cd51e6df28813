-- Text that goes out piece by piece.
use Rattle.std.proofs.Common.{◌≡◌, ◌++◌, ℕ, List, Option, Some, None, refl, ap, ◌∙◌, append_assoc}
use Rattle.link_base.specs.Sinks.{gained, GainsPrefix}

pub gained-gained : (written : Option (List ℕ)) (a b : List ℕ) → gained (gained written a) b ≡ gained written (a ++ b)
gained-gained None a b = refl
gained-gained (Some before) a b = ap Some (append_assoc before a b)

-- one piece more was sent
pub one_more : (text sent left piece rest : List ℕ) → text ≡ sent ++ left → left ≡ piece ++ rest → text ≡ (sent ++ piece) ++ rest
one_more text sent left piece rest whole cut = whole ∙ rw cut (simp append_assoc)

pub went_on : (before then now : Option (List ℕ)) (sent piece : List ℕ) → then ≡ gained before sent → now ≡ gained then piece → now ≡ gained before (sent ++ piece)
went_on before then now sent piece a b = b ∙ (ap (λ x. gained x piece) a ∙ gained-gained before sent piece)

-- some of a piece went out behind the pieces before it
pub some_of : (before then now : Option (List ℕ)) (text sent piece rest : List ℕ) → then ≡ gained before sent → text ≡ (sent ++ piece) ++ rest
    → GainsPrefix then now piece → GainsPrefix before now text
some_of before then now text sent piece rest a whole part = record {
  sent = sent ++ part.sent;
  rest = part.rest ++ rest;
  parts = whole ∙ rw part.parts (simp append_assoc);
  went = went_on before then now sent part.sent a part.went;
}
