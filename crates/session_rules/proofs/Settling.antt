-- Sessions that are over.
use Rattle.std.proofs.Common.{◌≡◌, Bool, true, false, ◌&&◌, List, [], ◌∷◌, Option, Some, None, refl, sym, ◌∙◌, ap, true≢false, map}
use Rattle.std.specs.List.{list_all}
use Rattle.std.specs.Option.{is_some}
use Rattle.claim_rules.specs.Resolvers.{Resolver, Standing, given, waiting}
use Rattle.claim_rules.specs.Sessions.{is_known, is_over, is_over_at}
use Rattle.res_base.specs.Known.{Grows, Known}
use Rattle.res_base.specs.declared.key.FileKey.{FileKey}
use Rattle.res_base.specs.declared.reading.Reading.{Reading}
use Rattle.session_rules.specs.Outcomes.{IsSettled}

-- the verdict of a session that is over
pub verdict_of : {V : Type 0} (r : Resolver V) (known : Known) (standing : Standing V) → r.rounds known ≡ standing
    → is_over r known ≡ true
    → (verdict : V) × IsSettled r known verdict (map known (r.files verdict))
verdict_of r known (waiting keys) is over =
    absurd (true≢false (sym over ∙ ap (λ p. is_over_at p r.files known) is))
verdict_of r known (given verdict) is over = (verdict, record { rounds = is; over = over; read = refl })

both_true : (a b : Bool) → (a && b) ≡ true → (a ≡ true) × (b ≡ true)
both_true true b e = (refl, e)
both_true false b e = absurd (true≢false (sym e))

-- readings of keys that are known stay what they are
same_at : (some all : Known) → Grows some all → (key : FileKey) (o : Option Reading) → some key ≡ o
    → is_some o ≡ true → some key ≡ all key
same_at some all grows key None is known = absurd (true≢false (sym known))
same_at some all grows key (Some reading) is known = is ∙ sym (grows key reading is)

same_readings : (some all : Known) → Grows some all → (keys : List FileKey) → list_all (is_known some) keys ≡ true
    → map some keys ≡ map all keys
same_readings some all grows [] known = refl
same_readings some all grows (key ∷ keys) known =
    let both = both_true (is_known some key) (list_all (is_known some) keys) known in
    ap (λ o. o ∷ map some keys) (same_at some all grows key (some key) refl both.0)
    ∙ ap (λ os. all key ∷ os) (same_readings some all grows keys both.1)

pub files_known : {V : Type 0} (r : Resolver V) (known : Known) (verdict : V) → r.rounds known ≡ given verdict
    → is_over r known ≡ true
    → list_all (is_known known) (r.files verdict) ≡ true
files_known r known verdict is over = ap (λ p. is_over_at p r.files known) (sym is) ∙ over

pub read_more : {V : Type 0} (r : Resolver V) (some all : Known) (verdict : V) (readings : List (Option Reading))
    → Grows some all
    → IsSettled r some verdict readings → readings ≡ map all (r.files verdict)
read_more r some all verdict readings grows s =
    s.read ∙ same_readings some all grows (r.files verdict) (files_known r some verdict s.rounds s.over)

verdict_in : {V : Type 0} → V → Standing V → V
verdict_in other (waiting keys) = other
verdict_in other (given verdict) = verdict

pub same_verdict : {V : Type 0} (first second : V) → given first ≡ given second → first ≡ second
unfolding verdict_in
same_verdict first second e = ap (verdict_in first) e

pub only_one : {V : Type 0} (r : Resolver V) (known : Known) (first second : V) (these those : List (Option Reading))
    → IsSettled r known first these → IsSettled r known second those → (first ≡ second) × (these ≡ those)
only_one r known first second these those a b =
    let same : first ≡ second = same_verdict first second (sym a.rounds ∙ b.rounds) in
    (same, a.read ∙ ap (λ v. map known (r.files v)) same ∙ sym b.read)
