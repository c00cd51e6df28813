use Rattle.std.proofs.Common.{◌≤◌, length}
use Rattle.word_values.specs.Addresses.{repository_in}
use Rattle.word_values.specs.Members.{members_in}
use Rattle.word_values.specs.Split.{texts_of}
use Rattle.word_values.specs.declared.refusals.WordKind.TheVariants as kind
use Rattle.word_values.proofs.Repositories.{are_repositories, of_answer}
use Rattle.word_values.proofs.addresses.addresses_given.Goals as goal

pub returns-clause-few : goal.returns-clause-few
returns-clause-few g c =
    let texts = texts_of c.as_slice.result.now in
    of_answer (λ made. length made ≤ 16) (members_in kind.Repositories repository_in texts) _ c.read_members.ensures
    (λ made e. (are_repositories texts made e).few)
