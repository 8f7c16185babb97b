use Rattle.std.proofs.Common.{◌∙◌, sym}
use Rattle.timed_meaning.proofs.Advancing.{unmoved}
use Rattle.timed_meaning.proofs.standings.Standing.advance.Goals as goal

pub returns-then-len-eq0 : goal.returns-then-len-eq0
returns-then-len-eq0 c = λ plan e. let u = unmoved c.args.parts.now c.requires.well_made plan c.args.from c.args.to c.args.self.now.facts.items c.args.self.now.fluents.items c.requires.kept.fluents c.requires.kept.fits (sym c.len.ensures ∙ c.if-len-eq0.true) in (u.0, (c.requires.kept, u.1))
