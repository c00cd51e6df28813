use Rattle.std.proofs.Common.{rules, sym}
use Rattle.word_values.specs.Values.{cache_given}
use Rattle.word_values.proofs.Chains.{exact_exit, pass, stop}
use Rattle.word_values.proofs.values.cache_given.Goals as goal

pub returns-in_err-mode : goal.returns-in_err-mode
unfolding cache_given
returns-in_err-mode g c =
    exact_exit _ _ _ c.from_residual.ensures.1
    (stop _ _ _ (sym c.in_err-mode.ensures))

pub returns-in_err-ttl : goal.returns-in_err-ttl
unfolding cache_given
returns-in_err-ttl g c =
    exact_exit _ _ _ c.from_residual-in_err-ttl.ensures.1
    (pass _ _ _ _ (sym c.in_ok-mode.ensures) (stop _ _ _ (sym c.in_err-ttl.ensures.value)))

pub returns-in_err-pool : goal.returns-in_err-pool
unfolding cache_given
returns-in_err-pool g c =
    exact_exit _ _ _ c.from_residual-in_err-pool.ensures.1
    (pass _ _ _ _ (sym c.in_ok-mode.ensures)
    (pass _ _ _ _ (sym c.in_ok-ttl.ensures.value) (stop _ _ _ (sym c.in_err-pool.ensures))))

pub returns-in_err-eager : goal.returns-in_err-eager
unfolding cache_given
returns-in_err-eager g c =
    exact_exit _ _ _ c.from_residual-in_err-eager.ensures.1
    (pass _ _ _ _ (sym c.in_ok-mode.ensures)
    (pass _ _ _ _ (sym c.in_ok-ttl.ensures.value)
    (pass _ _ _ _ (sym c.in_ok-pool.ensures) (stop _ _ _ (sym c.in_err-eager.ensures)))))

pub returns-in_err-limit : goal.returns-in_err-limit
unfolding cache_given
returns-in_err-limit g c =
    exact_exit _ _ _ c.from_residual-in_err-limit.ensures.1
    (pass _ _ _ _ (sym c.in_ok-mode.ensures)
    (pass _ _ _ _ (sym c.in_ok-ttl.ensures.value)
    (pass _ _ _ _ (sym c.in_ok-pool.ensures)
    (pass _ _ _ _ (sym c.in_ok-eager.ensures) (stop _ _ _ (sym c.in_err-limit.ensures.value))))))

pub returns : goal.returns
unfolding cache_given
returns g c =
    sym
    (pass _ _ _ _ (sym c.in_ok-mode.ensures)
    (pass _ _ _ _ (sym c.in_ok-ttl.ensures.value)
    (pass _ _ _ _ (sym c.in_ok-pool.ensures)
    (pass _ _ _ _ (sym c.in_ok-eager.ensures)
    (pass _ _ _ _ (sym c.in_ok-limit.ensures.value) (search rules))))))
