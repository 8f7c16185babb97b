use Rattle.exact_lin.specs.Reckoning.{wide_limit}
use Rattle.std.proofs.Common.{◌≡◌, subst}
use Rattle.exact_lin.specs.Reckonings.{IsDefined}
use Rattle.basics.proofs.Lists.{each_left}
use Rattle.timed_meaning.specs.Told.{Tells, raised, raised_reckoned}
use Rattle.timed_meaning.specs.Moves.{settled, settled_reckoned}
use Rattle.timed_meaning.proofs.Amounts.{part-fault, second-part}
use Rattle.timed_meaning.proofs.moving.shift.Goals as goal

pub returns-in-Ok : goal.returns-in-Ok
returns-in-Ok c = second-part c.settle.result _ _ _ _ c.in-Ok.ensures.0 (λ u q. q)
    (subst (λ l. Tells c.settle.result (settled_reckoned c.args.elapsed (record { values = c.args.values.now; rates = l }) c.args.entries.now) (λ _. record { values = c.settle.new.values; rates = c.settle.new.rates } ≡ settled c.args.elapsed (record { values = c.args.values.now; rates = l }) c.args.entries.now)) c.in-Ok.ensures.1 c.settle.ensures)

pub returns-in-Err : goal.returns-in-Err
returns-in-Err c = part-fault c.in-Err.fault _ _ _ _
    (λ d. each_left (IsDefined wide_limit) (raised_reckoned c.args.rates.now c.args.entries.now) (settled_reckoned c.args.elapsed (record { values = c.args.values.now; rates = raised c.args.rates.now c.args.entries.now }) c.args.entries.now) d)
    c.in-Err.ensures
