use Rattle.std.proofs.Common.{◌≡◌, drop}
use Rattle.plan_validator.specs.Firsts.{all_noted}
use Rattle.plan_validator.specs.Clashes.{window_notes}
use Rattle.plan_validator.proofs.clashes.note_window.Given as goal

abbrev pub invariant-loop-other : goal.invariant-loop-other
invariant-loop-other l = all_noted l.least.place (window_notes l.parts l.rules l.lines l.first (drop l.other-index l.later)) ≡ all_noted l.fn.least.place (window_notes l.parts l.rules l.lines l.first l.later)
