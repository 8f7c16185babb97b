use Rattle.std.proofs.Common.{◌∙◌, ap, subst}
use Rattle.std.specs.Prelude.{IsPermutation}
use Rattle.std.proofs.lemmas.List.Sorted.{IsPermutation-map}
use Rattle.timed_meaning.specs.Owned.{steps_of}
use Rattle.timed_meaning.specs.Sorts.{at_time}
use Rattle.timed_meaning.proofs.Listed.{steps-owned}
use Rattle.timed_meaning.proofs.listing.sorted_steps.Goals as goal

pub returns-clause-sorted : goal.returns-clause-sorted
returns-clause-sorted c =
    let are = ap steps_of c.in_ok-out.ensures ∙ steps-owned c.args.parts.now c.args.lines.now in
    record {
      falls = c.in_ok-sort_steps.ensures.sorted;
      stable = λ t. c.in_ok-sort_steps.ensures.stable t ∙ ap (at_time t) are;
      permutation = subst (λ l. IsPermutation l (steps_of c.sort_steps.new.steps.items)) are (IsPermutation-map (λ s. s.step) c.in_ok-out.out.items c.sort_steps.new.steps.items c.in_ok-sort_steps.ensures.permutation);
    }

pub returns-clause-owners : goal.returns-clause-owners
returns-clause-owners c = subst (λ l. IsPermutation l c.sort_steps.new.steps.items) c.in_ok-out.ensures c.in_ok-sort_steps.ensures.permutation
