use Rattle.std.proofs.Common.{true, false}
use Rattle.trajectory.proofs.Verdicts.{verdict-other}
use Rattle.trajectory.proofs.automaton.Automaton.verdict.Goals as goal

pub returns-then-self : goal.returns-then-self
returns-then-self c states h = verdict-other c.args.self.now c.in_default.not-Within states h true c.if-self.true

pub returns-else-self : goal.returns-else-self
returns-else-self c states h = verdict-other c.args.self.now c.in_default.not-Within states h false c.if-self.false
