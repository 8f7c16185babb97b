-- Believed: what may follow in a list, where one line of the grammar says it.
use Rattle.std.specs.Prelude.{Bool, true, false, Option, Some, None}
use Rattle.pddl_terms.specs.declared.grammar.ActionPlace.{ActionPlace}
use Rattle.pddl_terms.specs.declared.grammar.ActionPlace.TheVariants as action
use Rattle.pddl_terms.specs.declared.grammar.ActionSort.TheVariants.{Instant, Durative}
use Rattle.pddl_terms.specs.declared.grammar.DomainGiven.{DomainGiven}
use Rattle.pddl_terms.specs.declared.grammar.DomainLine.TheVariants as of_domain
use Rattle.pddl_terms.specs.declared.grammar.DomainRest.{DomainRest}
use Rattle.pddl_terms.specs.declared.grammar.DomainRest.TheVariants as domain
use Rattle.pddl_terms.specs.declared.grammar.ProblemGiven.{ProblemGiven}
use Rattle.pddl_terms.specs.declared.grammar.ProblemLine.TheVariants as of_problem
use Rattle.pddl_terms.specs.declared.grammar.ProblemRest.{ProblemRest}
use Rattle.pddl_terms.specs.declared.grammar.ProblemRest.TheVariants as problem
use Rattle.pddl_terms.specs.declared.grammar.Line.{Line}
use Rattle.pddl_terms.specs.declared.grammar.Line.TheVariants as line
use Rattle.pddl_terms.specs.declared.grammar.Rest.{Rest}
use Rattle.pddl_terms.specs.declared.grammar.Rest.TheVariants as rest

-- a place of an action where one line is wanted, and what may follow behind it
abbrev pub action_wanted : ActionPlace → Option Line
action_wanted (action.Parameters sort) = Some line.VariableList
action_wanted action.Duration = Some line.Dur
action_wanted (action.Condition Instant) = Some line.Cond
action_wanted (action.Condition Durative) = Some (line.Domain of_domain.TimedCond)
action_wanted place = None

abbrev pub action_after : ActionPlace → Rest
action_after (action.Parameters sort) = rest.Action (action.Body sort)
action_after action.Duration = rest.Action action.Timed
action_after (action.Condition sort) = rest.Action (action.Tail sort)
action_after place = rest.Nothing

-- the same in a domain
abbrev pub no_domain_section : DomainGiven
no_domain_section = record {
  requirements = false;
  types = false;
  constants = false;
  predicates = false;
  functions = false;
  constraints = false;
}

abbrev pub domain_wanted : DomainRest → Option Line
domain_wanted domain.Heading = Some (line.Domain of_domain.Heading)
domain_wanted domain.Functions = Some (line.Domain of_domain.Declared)
domain_wanted domain.FunctionsMore = Some (line.Domain of_domain.Declared)
domain_wanted domain.Factors = Some line.Expr
domain_wanted r = None

abbrev pub domain_after : DomainRest → Rest
domain_after domain.Heading = rest.Domain (domain.Sections no_domain_section)
domain_after domain.Functions = rest.Domain domain.FunctionsMore
domain_after domain.FunctionsMore = rest.Domain domain.FunctionsMore
domain_after domain.Factors = rest.One (line.Domain of_domain.Time)
domain_after r = rest.Nothing

-- the same in a problem
abbrev pub no_problem_section : ProblemGiven
no_problem_section = record {
  requirements = false;
  objects = false;
  init = false;
  goal = false;
  constraints = false;
  time_costs = false;
  metric = false;
}

abbrev pub problem_wanted : ProblemRest → Option Line
problem_wanted problem.Heading = Some (line.Problem of_problem.Heading)
problem_wanted problem.DomainName = Some (line.Problem of_problem.DomainName)
problem_wanted problem.CostFormula = Some line.Tree
problem_wanted problem.CostCurve = Some (line.Problem of_problem.Piece)
problem_wanted r = None

abbrev pub problem_after : ProblemRest → Rest
problem_after problem.Heading = rest.Problem problem.DomainName
problem_after problem.DomainName = rest.Problem (problem.Sections no_problem_section)
problem_after problem.CostFormula = rest.Problem problem.CostCurve
problem_after problem.CostCurve = rest.Many (line.Problem of_problem.Piece)
problem_after r = rest.Nothing

-- the line of what has to stand next
abbrev pub wanted : Rest → Option Line
wanted (rest.One l) = Some l
wanted (rest.Two l m) = Some l
wanted (rest.Many l) = Some l
wanted (rest.OneAndSome l) = Some l
wanted (rest.Some l) = Some l
wanted (rest.OneAndMaybe l) = Some l
wanted (rest.Maybe l) = Some l
wanted (rest.OptionalName l) = Some l
wanted (rest.Action place) = action_wanted place
wanted (rest.Domain r) = domain_wanted r
wanted (rest.Problem r) = problem_wanted r
wanted r = None

-- what may follow behind that
abbrev pub after : Rest → Rest
after (rest.Two l m) = rest.One m
after (rest.Many l) = rest.Many l
after (rest.OneAndSome l) = rest.Some l
after (rest.Some l) = rest.Many l
after (rest.OneAndMaybe l) = rest.Maybe l
after (rest.Action place) = action_after place
after (rest.Domain r) = domain_after r
after (rest.Problem r) = problem_after r
after r = rest.Nothing

-- the rest, where the test says yes
abbrev pub only_if : Bool → Rest → Option Rest
only_if true r = Some r
only_if false r = None
