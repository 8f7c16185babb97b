use Rattle.pddl_names.specs.Files.{goal_preferences}
use Rattle.pddl_names.proofs.Noting.{noted-loop, noted-goal-And, noted-goal-Forall, noted-goal-Condition, noted-goal-Preference}
use Rattle.pddl_names.proofs.preferences.+note_goal.Goals as goal

pub loop-part-preserved : goal.loop-part-preserved
loop-part-preserved t c = noted-loop goal_preferences _ _ _ c.part-item.result _ _ c.loop-part-test.true c.part-item.is c.loop-part.invariant c.in_ok-note_goal-in-And.ensures

pub returns-after-loop-part : goal.returns-after-loop-part
returns-after-loop-part t c = noted-goal-And c.args.names.now c.in-And.is c.as_slice-part-items.ensures c.loop-part-test.false c.loop-part.invariant

pub returns-in_ok-note_goal-in-Forall : goal.returns-in_ok-note_goal-in-Forall
returns-in_ok-note_goal-in-Forall t c = noted-goal-Forall c.args.names.now c.in-Forall.is c.get.ensures c.in_ok-note_goal-in-Forall.ensures

pub returns-in-Condition : goal.returns-in-Condition
returns-in-Condition t c = noted-goal-Condition c.args.names.now c.in-Condition.is

pub returns-in_ok-note_name-in-Preference : goal.returns-in_ok-note_name-in-Preference
returns-in_ok-note_name-in-Preference t c = noted-goal-Preference c.args.names.now c.in-Preference.is c.in_ok-note_name-in-Preference.ensures
