use Rattle.std.proofs.Common.{◌≡◌, ◌+◌, List, [], ◌∷◌, ◌++◌, refl, sym, ap, subst, ◌∙◌, drop, take, arith}
use Rattle.std.proofs.Math.ListN.{drop_of_length-le}
use Rattle.std.proofs.lemmas.List.{take_all}
use Rattle.claim_rules.specs.Histories.{History, give_back}
use Rattle.fetch_pool.proofs.Batching.{each_last, each_none}
use Rattle.fetch_pool.proofs.Flights.{all_landed, first_held, first_left, flying_less, last_taken}
use Rattle.fetch_pool.proofs.Keeping.{board_on}
use Rattle.fetch_pool.specs.Flights.{OnlyFlying, with_each}
use Rattle.pool_rules.specs.Works.{with_entry}
use Rattle.res_base.specs.declared.key.FileKey.{FileKey}
use Rattle.fetch_pool.proofs.ends.hand_all_back.Goals as goal

pub hand_back-requires : goal.hand_back-requires
hand_back-requires g c =
    let keys : List FileKey = c.args.keys.now in
    let i = c.loop-key.key-index in
    let key : FileKey = c.key-item.result in
    let split : drop i keys ≡ key ∷ drop (i + 1) keys = first_left keys i key c.loop-key-test.true c.key-item.is in
    record {
      held = first_held c.equality_decided.ensures.keys c.loop-key.board.core.history c.args.seat (drop (i + 1) keys) key
          (subst (λ rest. OnlyFlying c.loop-key.board.core.history c.args.seat rest) split c.loop-key.invariant.flying);
    }

pub loop-key-init : goal.loop-key-init
loop-key-init g c = record {
  same = record { ask = refl; settings = refl; plan = refl; store = refl; rows = refl };
  ended = refl;
  history = each_none c.args.seat (λ key. give_back key) c.args.board.now.core.history;
  flying = c.requires.flying;
}

pub loop-key-preserved : goal.loop-key-preserved
loop-key-preserved g c =
    let old = c.args.board.now in
    let mid = c.loop-key.board in
    let new = c.hand_back.new.board in
    let seat = c.args.seat in
    let keys : List FileKey = c.args.keys.now in
    let i = c.loop-key.key-index in
    let key : FileKey = c.key-item.result in
    let split : drop i keys ≡ key ∷ drop (i + 1) keys = first_left keys i key c.loop-key-test.true c.key-item.is in
    let next : take (i + 1) keys ≡ take i keys ++ key ∷ [] = last_taken keys i key c.loop-key-test.true c.key-item.is in
    record {
      same = board_on old mid new c.loop-key.invariant.same c.hand_back.ensures.same;
      ended = c.hand_back.ensures.ended ∙ c.loop-key.invariant.ended;
      history =
          c.hand_back.ensures.history
          ∙ ap (λ (h : History). with_entry h seat (give_back key)) c.loop-key.invariant.history
          ∙ each_last seat (λ one. give_back one) old.core.history (take i keys) key
          ∙ ap (λ (xs : List FileKey). with_each old.core.history seat (λ one. give_back one) xs) (sym next);
      flying =
          subst (λ h. OnlyFlying h seat (drop (i + 1) keys)) (sym c.hand_back.ensures.history)
          (flying_less c.equality_decided.ensures.keys mid.core.history seat (drop (i + 1) keys) key (give_back key)
          (record { end = refl; same = refl })
          (subst (λ rest. OnlyFlying mid.core.history seat rest) split c.loop-key.invariant.flying));
    }

pub returns : goal.returns
returns g c =
    let keys : List FileKey = c.args.keys.now in
    let i = c.loop-key.key-index in
    let all : take i keys ≡ keys = take_all i keys (omega (arith, c.loop-key-test.false)) in
    let none : drop i keys ≡ [] = drop_of_length-le keys {i = i} (omega (arith, c.loop-key-test.false)) in
    record {
      same = c.loop-key.invariant.same;
      history = c.loop-key.invariant.history
          ∙ ap (λ (xs : List FileKey). with_each c.args.board.now.core.history c.args.seat (λ one. give_back one) xs) all;
      ended = c.loop-key.invariant.ended;
      landed = all_landed c.flights_told.ensures.some c.loop-key.board.core.history c.args.seat
          (subst (λ rest. OnlyFlying c.loop-key.board.core.history c.args.seat rest) none c.loop-key.invariant.flying);
    }
