use Rattle.pddl_names.specs.Scopes.{variables_of}
use Rattle.pddl_names.specs.Walks.{formula_offences}
use Rattle.pddl_names.proofs.Least.{least-loop}
use Rattle.pddl_names.proofs.WalkSteps.{formula-Empty, formula-Atom, formula-Equal, formula-And, formula-Or, formula-Not, formula-Imply, formula-Exists, formula-Forall, formula-LeftOut}
use Rattle.pddl_names.proofs.formulas.+formulas.Goals as goal

pub first_in_formula-returns-in-Empty : goal.first_in_formula-returns-in-Empty
first_in_formula-returns-in-Empty t c = formula-Empty c.args.phase c.args.tables.now (variables_of c.args.scope.now) c.in-Empty.is

pub first_in_formula-returns-in-Atom : goal.first_in_formula-returns-in-Atom
first_in_formula-returns-in-Atom t c = formula-Atom c.args.phase c.args.tables.now (variables_of c.args.scope.now) c.in-Atom.is c.first_in_atom.ensures

pub first_in_formula-returns-in-Equal : goal.first_in_formula-returns-in-Equal
first_in_formula-returns-in-Equal t c = formula-Equal c.args.phase c.args.tables.now (variables_of c.args.scope.now) c.in-Equal.is c.first_in_equal.ensures

pub first_in_formula-returns-in_ok-first_in_formulas-in-And : goal.first_in_formula-returns-in_ok-first_in_formulas-in-And
first_in_formula-returns-in_ok-first_in_formulas-in-And t c = formula-And c.args.phase c.args.tables.now (variables_of c.args.scope.now) c.in-And.is c.as_slice.ensures c.in_ok-first_in_formulas-in-And.ensures

pub first_in_formula-returns-in_ok-first_in_formulas-in-Or : goal.first_in_formula-returns-in_ok-first_in_formulas-in-Or
first_in_formula-returns-in_ok-first_in_formulas-in-Or t c = formula-Or c.args.phase c.args.tables.now (variables_of c.args.scope.now) c.in-Or.is c.as_slice-in-Or.ensures c.in_ok-first_in_formulas-in-Or.ensures

pub first_in_formula-returns-in_ok-first_in_formula-in-Not : goal.first_in_formula-returns-in_ok-first_in_formula-in-Not
first_in_formula-returns-in_ok-first_in_formula-in-Not t c = formula-Not c.args.phase c.args.tables.now (variables_of c.args.scope.now) c.in-Not.is c.get.ensures c.in_ok-first_in_formula-in-Not.ensures

pub first_in_formula-returns-in_ok-second-in-Imply : goal.first_in_formula-returns-in_ok-second-in-Imply
first_in_formula-returns-in_ok-second-in-Imply t c = formula-Imply c.args.phase c.args.tables.now (variables_of c.args.scope.now) c.in-Imply.is c.get-in-Imply.ensures c.get-in-Imply-2.ensures c.in_ok-first-in-Imply.ensures c.in_ok-second-in-Imply.ensures c.earlier.ensures

pub first_in_formula-returns-in_ok-rest-in-Exists : goal.first_in_formula-returns-in_ok-rest-in-Exists
first_in_formula-returns-in_ok-rest-in-Exists t c = formula-Exists c.args.phase c.args.tables.now (variables_of c.args.scope.now) c.in-Exists.is c.as_slice-groups.ensures c.in_ok-variables-in-Exists.ensures c.get-in-Exists.ensures c.in_ok-own-in-Exists.ensures c.in_ok-rest-in-Exists.ensures c.earlier-in-Exists.ensures

pub first_in_formula-returns-in_ok-rest-in-Forall : goal.first_in_formula-returns-in_ok-rest-in-Forall
first_in_formula-returns-in_ok-rest-in-Forall t c = formula-Forall c.args.phase c.args.tables.now (variables_of c.args.scope.now) c.in-Forall.is c.as_slice-groups-in-Forall.ensures c.in_ok-variables-in-Forall.ensures c.get-in-Forall.ensures c.in_ok-own-in-Forall.ensures c.in_ok-rest-in-Forall.ensures c.earlier-in-Forall.ensures

pub first_in_formula-returns-in-LeftOut : goal.first_in_formula-returns-in-LeftOut
first_in_formula-returns-in-LeftOut t c = formula-LeftOut c.args.phase c.args.tables.now (variables_of c.args.scope.now) c.in-LeftOut.is

pub first_in_formulas-loop-part-preserved : goal.first_in_formulas-loop-part-preserved
first_in_formulas-loop-part-preserved t c = least-loop (formula_offences c.args.phase c.args.tables.now (variables_of c.args.scope.now)) _ _ c.part-item.result _ _ _ c.loop-part-test.true c.part-item.is c.loop-part.invariant c.earlier-found.ensures c.in_ok-other.ensures
