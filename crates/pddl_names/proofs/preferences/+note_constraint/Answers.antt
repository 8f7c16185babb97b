use Rattle.pddl_names.specs.Files.{constraint_preferences}
use Rattle.pddl_names.proofs.Noting.{noted-loop, noted-constraint-And, noted-constraint-Forall, noted-constraint-Hard, noted-constraint-Preference}
use Rattle.pddl_names.proofs.preferences.+note_constraint.Goals as goal

pub loop-part-preserved : goal.loop-part-preserved
loop-part-preserved t c = noted-loop constraint_preferences _ _ _ c.part-item.result _ _ c.loop-part-test.true c.part-item.is c.loop-part.invariant c.in_ok-note_constraint-in-And.ensures

pub returns-after-loop-part : goal.returns-after-loop-part
returns-after-loop-part t c = noted-constraint-And c.args.names.now c.in-And.is c.as_slice-part-items.ensures c.loop-part-test.false c.loop-part.invariant

pub returns-in_ok-note_constraint-in-Forall : goal.returns-in_ok-note_constraint-in-Forall
returns-in_ok-note_constraint-in-Forall t c = noted-constraint-Forall c.args.names.now c.in-Forall.is c.get.ensures c.in_ok-note_constraint-in-Forall.ensures

pub returns-in-Hard : goal.returns-in-Hard
returns-in-Hard t c = noted-constraint-Hard c.args.names.now c.in-Hard.is

pub returns-in_ok-note_name-in-Preference : goal.returns-in_ok-note_name-in-Preference
returns-in_ok-note_name-in-Preference t c = noted-constraint-Preference c.args.names.now c.in-Preference.is c.in_ok-note_name-in-Preference.ensures
