use Rattle.std.proofs.Common.{◌≡◌, ◌+◌, ◌-◌, suc, arith, ◌∷◌, [], ◌++◌, append_assoc, ap, sym, ◌∙◌}
use Rattle.claim_rules.specs.Sessions.{keys_from}
use Rattle.res_base.specs.Builders.{key_of}
use Rattle.claim_agenda.proofs.agenda.push_later.Goals as goal

pub loop-repo-preserved : goal.loop-repo-preserved
loop-repo-preserved c =
    let items = c.loop-repo.hints.items in
    let repo = c.loop-repo.repo in
    let repos = c.args.repos in
    let role = c.args.key.now.role in
    let path = c.args.key.now.path in
    let rest = keys_from (repos - (repo + 1)) (repo + 1) role path in
    let one_less : repos - repo ≡ suc (repos - (repo + 1)) = omega arith in
    let pushed : c.push.new.self.items ≡ items ++ key_of repo role c.in_ok-copy.field-0 ∷ [] = c.in_ok-push.ensures.items in
    let copied : c.in_ok-copy.field-0 ≡ path = c.in_ok-copy.ensures in
    ap (λ made. made ++ rest) pushed
    ∙ append_assoc items (key_of repo role c.in_ok-copy.field-0 ∷ []) rest
    ∙ ap (λ one. items ++ key_of repo role one ∷ rest) copied
    ∙ ap (λ left. items ++ keys_from left repo role path) (sym one_less)
    ∙ c.loop-repo.invariant
