use Rattle.plan_validator.proofs.Meeting.{following-at, following-there}
use Rattle.plan_validator.proofs.constraints.is_met_at.Goals as goal

pub returns-in-Some : goal.returns-in-Some
returns-in-Some c = λ hard states f h e t n. c.is_met.ensures states (following-at hard c.args.automata.now states c.args.at c.args.trail.now c.in-Some.automaton.now f h e c.in-Some.ensures.lookup.1) t n

pub returns-in-None : goal.returns-in-None
returns-in-None c = λ hard states f h e t n. absurd (following-there hard c.args.automata.now states c.args.at f h c.in-None.ensures.lookup.3)
