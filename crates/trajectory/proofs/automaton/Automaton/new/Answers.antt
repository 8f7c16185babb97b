use Rattle.trajectory.proofs.Verdicts.{follows_none}
use Rattle.trajectory.proofs.automaton.Automaton.new.Goals as goal

pub returns-clause-follows : goal.returns-clause-follows
returns-clause-follows c = follows_none c.in_ok-copy_trail.field-0 c.args.trail.now c.begin.result (c.in_ok-copy_trail.ensures {u = tt}) c.begin.ensures
