use Rattle.std.proofs.Common.{◌∙◌, sym, ap, None}
use Rattle.pddl_terms.specs.declared.trees.ConForm.TheVariants as con
use Rattle.pddl_terms.proofs.Building.{preference-end, preference-word, preference-list}
use Rattle.pddl_terms.proofs.constraints.preference.Goals as goal

pub returns-in-End : goal.returns-in-End
returns-in-End c = sym (preference-end c.args.place _ _ c.in-End.ensures)

pub returns-in_ok-trail_tree-in-Word : goal.returns-in_ok-trail_tree-in-Word
returns-in_ok-trail_tree-in-Word c = preference-word c.args.place _ _ _ c.in-Word.ensures.here _ _ c.in_ok-name-in-Word.ensures c.in_ok-trail_tree-in-Word.ensures

pub returns-in_ok-trail_tree-in-List : goal.returns-in_ok-trail_tree-in-List
returns-in_ok-trail_tree-in-List c = ap (con.Preference c.args.place None) c.in_ok-trail_tree-in-List.ensures ∙ sym (preference-list c.args.place _ _ _ _ c.in-List.ensures.here)
