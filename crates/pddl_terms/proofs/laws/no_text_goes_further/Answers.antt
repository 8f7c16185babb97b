use Rattle.std.proofs.Common.{refl}
use Rattle.pddl_terms.specs.declared.grammar.DomainLine.TheVariants as of_domain
use Rattle.pddl_terms.specs.declared.grammar.ProblemLine.TheVariants as of_problem
use Rattle.pddl_terms.specs.declared.grammar.Line.TheVariants as line
use Rattle.pddl_terms.proofs.FileOrder.{file_stops}
use Rattle.pddl_terms.proofs.Stopping.{stops, item_stops}
use Rattle.pddl_terms.proofs.laws.no_text_goes_further.Goals as goal

pub returns : goal.returns
returns c = record {
  item = item_stops;
  list = λ low x y r place. stops x r low place y;
  domain = λ forms place y. file_stops forms (line.Domain of_domain.File) place y (λ w k. refl);
  problem = λ forms place y. file_stops forms (line.Problem of_problem.File) place y (λ w k. refl);
}
