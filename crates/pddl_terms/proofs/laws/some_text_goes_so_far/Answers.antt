use Rattle.pddl_terms.proofs.GoingOn.{goes_on, item_goes_on}
use Rattle.pddl_terms.proofs.laws.some_text_goes_so_far.Goals as goal

pub returns : goal.returns
returns c = record {
  item = item_goes_on;
  list = λ r x place h f. let on = goes_on x r place h f in (on.other, on.same, on.right);
}
