use Rattle.std.specs.List.Sorted.{IsPermutation}
use Rattle.std.proofs.lemmas.List.Sorted.{Contains-permutation, IsPermutation-sym}
use Rattle.claim_agenda.proofs.Members.{from_contains, to_contains}
use Rattle.claim_agenda.proofs.agenda.in_order.Goals as goal

pub returns-clause-same : goal.returns-clause-same
returns-clause-same c =
    let keys = c.args.keys.items in
    let sorted = c.sort.new.self.items in
    let moved : IsPermutation keys sorted = c.sort.ensures.permutation in
    record {
      there = λ key m.
          from_contains keys key (Contains-permutation sorted keys key (IsPermutation-sym keys sorted moved) (to_contains sorted key m));
      back = λ key m. from_contains sorted key (Contains-permutation keys sorted key moved (to_contains keys key m));
    }
