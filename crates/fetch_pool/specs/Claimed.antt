-- How work ends where nothing is claimed.
use Rattle.std.specs.Prelude.{◌≡◌, true, Some, None}
use Rattle.claim_rules.specs.Claims.{claim_of}
use Rattle.claim_rules.specs.Resolvers.{Resolver}
use Rattle.claim_rules.specs.declared.claim.Claim.TheVariants as answers
use Rattle.pool_rules.specs.Boards.{Desk}
use Rattle.pool_rules.specs.Ends.{last_why}
use Rattle.pool_rules.specs.declared.finish.EndCause.TheVariants as causes
use Rattle.pool_rules.specs.declared.finish.Finish.{Finish}
use Rattle.pool_rules.specs.declared.finish.Finish.TheVariants as finishes

-- the finish is what a claim answered, or memory was wanted
abbrev pub Answers : {V : Type 0} → Resolver V → Desk → Finish → Type 0
Answers r desk finishes.Over = (claim_of desk.settings r desk.history ≡ answers.Over) × (desk.ended ≡ None) × (desk.caught_up ≡ true)
Answers r desk (finishes.Stuck key why) = (claim_of desk.settings r desk.history ≡ answers.Stuck key) × (desk.ended ≡ None) × (last_why desk.history key ≡ Some why)
Answers r desk finishes.TooMany = (claim_of desk.settings r desk.history ≡ answers.TooMany) × (desk.ended ≡ None)
Answers r desk (finishes.Disk call) = ⊥
Answers r desk finishes.Memory = desk.ended ≡ Some causes.Memory
