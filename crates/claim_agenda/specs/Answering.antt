-- What a claim answers, from what is needed and what may be asked for beside it.
use Rattle.std.specs.Prelude.{◌&&◌, Bool, not, List, nat_lt}
use Rattle.std.specs.List.{list_all}
use Rattle.claim_rules.specs.Claims.{free_among, of_hint, of_need, unless_over, unless_stuck}
use Rattle.claim_rules.specs.Counts.{claims, is_broken}
use Rattle.claim_rules.specs.Histories.{History, any_in_flight}
use Rattle.claim_rules.specs.Least.{least}
use Rattle.claim_rules.specs.declared.claim.Claim.{Claim}
use Rattle.claim_rules.specs.declared.settings.Settings.{Settings}
use Rattle.res_base.specs.declared.key.FileKey.{FileKey}

abbrev pub all_broken : Settings → History → List FileKey → Bool
all_broken s h needs = list_all (is_broken s.retries h) needs && not (any_in_flight h)

abbrev pub hint_from : Settings → History → List FileKey → Claim
hint_from s h hints = of_hint (least (free_among s.retries h hints)) (nat_lt (claims h) s.limits.hint_claims)

abbrev pub need_from : Settings → History → List FileKey → List FileKey → Claim
need_from s h needs hints =
    of_need (least (free_among s.retries h needs)) (nat_lt (claims h) s.limits.claims) (hint_from s h hints)

-- `claim_of`, where it is known whether the session is over, and what its needs and hints are
abbrev pub answer_from : Settings → History → Bool → List FileKey → List FileKey → Claim
answer_from s h over needs hints =
    unless_over over (unless_stuck (all_broken s h needs) (least needs) (need_from s h needs hints))
