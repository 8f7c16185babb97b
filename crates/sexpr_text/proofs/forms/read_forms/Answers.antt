use Rattle.sexpr_text.proofs.Unique.{taken_from, refused_from}
use Rattle.sexpr_text.proofs.forms.read_forms.Goals as goal

pub returns-clause-taken : goal.returns-clause-taken
returns-clause-taken c = taken_from _ _ c.forms_of.ensures.tokens c.forms_of.ensures.fault

pub returns-clause-refused : goal.returns-clause-refused
returns-clause-refused c = refused_from _ _ c.forms_of.ensures.tokens c.forms_of.ensures.fault
