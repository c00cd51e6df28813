-- What every call of a link keeps, over several calls.
use Rattle.std.proofs.Common.{ℕ, ◌++◌, List, [], Option, Some, None, refl, ap, sym, append-nil, append_assoc, arith}
use Rattle.link_base.specs.Links.{Rows, LinkKept, FailedLonger}

pub longer_refl : (urls : Option (List (List ℕ))) → FailedLonger urls urls
longer_refl None = ([], refl)
longer_refl (Some urls) = ([], ap Some (sym (append-nil urls)))

pub longer_trans : (a b c : Option (List (List ℕ))) → FailedLonger a b → FailedLonger b c → FailedLonger a c
longer_trans None b c p q = (p.0 ++ q.0, rw q.1 (rw p.1 refl))
longer_trans (Some urls) b c p q = (p.0 ++ q.0, rw q.1 (rw p.1 (ap Some (append_assoc urls p.0 q.0))))

module _ {L : Type 0} (agrees : L → Rows → Type 0) (faults asked : L → ℕ)
    (failed_urls : L → Option (List (List ℕ))) where
  abbrev Kept : L → L → Type 0
  Kept = LinkKept agrees faults asked failed_urls

  pub kept_refl : (link : L) → Kept link link
  kept_refl link = record {
    agreement = λ w h. h;
    faults_later = omega arith;
    asked_later = omega arith;
    failed_longer = longer_refl (failed_urls link);
  }

  pub kept_trans : (a b c : L) → Kept a b → Kept b c → Kept a c
  kept_trans a b c p q = record {
    agreement = λ w h. q.agreement w (p.agreement w h);
    faults_later = omega (arith, p.faults_later, q.faults_later);
    asked_later = omega (arith, p.asked_later, q.asked_later);
    failed_longer = longer_trans _ _ _ p.failed_longer q.failed_longer;
  }
