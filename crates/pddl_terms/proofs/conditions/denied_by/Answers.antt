use Rattle.std.proofs.Common.{◌∙◌, ap, refl}
use Rattle.pddl_terms.specs.declared.trees.CondTree.TheVariants as cond
use Rattle.pddl_terms.specs.Content.{lexeme, content_at}
use Rattle.pddl_terms.specs.Conditions.{denied_by}
use Rattle.pddl_terms.proofs.Building.{at_head, answered_at}
use Rattle.pddl_terms.proofs.conditions.denied_by.Goals as goal

pub returns-in-LeftOut : goal.returns-in-LeftOut
returns-in-LeftOut c = at_head (λ h. denied_by h c.args.place (lexeme c.args.forms.now.text c.args.word) (content_at c.args.forms.now c.args.from)) c.in-LeftOut.is refl

pub returns-in_ok-new-in-Not : goal.returns-in_ok-new-in-Not
returns-in_ok-new-in-Not c = at_head (λ h. denied_by h c.args.place (lexeme c.args.forms.now.text c.args.word) (content_at c.args.forms.now c.args.from)) c.in-Not.is (ap (cond.Not c.args.place) (c.in_ok-new-in-Not.ensures ∙ c.in_ok-inner-in-Not.ensures))

pub returns-in-Equal : goal.returns-in-Equal
returns-in-Equal c = answered_at (λ h. denied_by h c.args.place (lexeme c.args.forms.now.text c.args.word) (content_at c.args.forms.now c.args.from)) _ c.in-Equal.is c.equal.ensures

pub returns-in-Compare : goal.returns-in-Compare
returns-in-Compare c = answered_at (λ h. denied_by h c.args.place (lexeme c.args.forms.now.text c.args.word) (content_at c.args.forms.now c.args.from)) _ c.in-Compare.is c.compare.ensures
