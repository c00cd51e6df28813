-- Worked rows of the order by items.
use Rattle.std.specs.Prelude.{◌≡◌, true, false, [], ◌∷◌, codes, refl}
use Rattle.std.specs.declared.cmp.Ordering.TheVariants.{Less, Equal, Greater}
use Rattle.version_order.specs.Items.{items}
use Rattle.version_order.specs.Ranks.{items_cmp, full_cmp, same_series}

pub cut : items (codes "1-alpha2..b3") ≡ codes "1" ∷ codes "alpha" ∷ codes "2" ∷ [] ∷ codes "b" ∷ codes "3" ∷ []
cut = refl

pub trailing_separator : items (codes "1.") ≡ codes "1" ∷ [] ∷ []
trailing_separator = refl

pub no_text : items [] ≡ [] ∷ []
no_text = refl

pub alpha_beta : items_cmp (codes "1-alpha") (codes "1-beta") ≡ Less
alpha_beta = refl

pub beta_milestone : items_cmp (codes "1-beta") (codes "1-milestone") ≡ Less
beta_milestone = refl

pub milestone_rc : items_cmp (codes "1-milestone") (codes "1-rc") ≡ Less
milestone_rc = refl

pub rc_cr : items_cmp (codes "1-rc") (codes "1-CR") ≡ Equal
rc_cr = refl

pub cr_snapshot : items_cmp (codes "1-cr") (codes "1-SNAPSHOT") ≡ Less
cr_snapshot = refl

pub snapshot_release : items_cmp (codes "1-SNAPSHOT") (codes "1") ≡ Less
snapshot_release = refl

pub zeros_after : items_cmp (codes "1") (codes "1.0") ≡ Equal
zeros_after = refl

pub final_after : items_cmp (codes "1.0") (codes "1-ga") ≡ Equal
final_after = refl

pub ga_sp : items_cmp (codes "1-ga") (codes "1-sp") ≡ Less
ga_sp = refl

pub sp_word : items_cmp (codes "1-sp") (codes "1-abc") ≡ Less
sp_word = refl

pub words : items_cmp (codes "1-abc") (codes "1-x") ≡ Less
words = refl

pub word_number : items_cmp (codes "1-x") (codes "1.1") ≡ Less
word_number = refl

pub leading_zero : items_cmp (codes "1.1") (codes "1.01") ≡ Equal
leading_zero = refl

pub by_count_of_digits : items_cmp (codes "1.9") (codes "1.10") ≡ Less
by_count_of_digits = refl

pub empty_is_zero : items_cmp [] (codes "0") ≡ Equal
empty_is_zero = refl

pub long_numbers : items_cmp (codes "1234567890123456789012345") (codes "1234567890123456789012346") ≡ Less
long_numbers = refl

pub broken_by_bytes : full_cmp (codes "1.0") (codes "1") ≡ Greater
broken_by_bytes = refl

pub series_of_one : same_series (codes "1.2") (codes "1.9") ≡ true
series_of_one = refl

pub series_of_zero : same_series (codes "0.2") (codes "0.3") ≡ false
series_of_zero = refl
