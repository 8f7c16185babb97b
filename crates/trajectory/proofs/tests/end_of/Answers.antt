use Rattle.std.proofs.Common.{◌≡◌, ◌<◌, ℕ, List, ◌∷◌, [], lit<}
use Rattle.std.specs.List.{All}
use Rattle.std.proofs.lemmas.List.Elements.{All-nil, All-cons, All-same}
use Rattle.task_types.specs.Touch.{trail_facts}
use Rattle.trajectory.specs.Following.{constraint_of}
use Rattle.trajectory.proofs.tests.end_of.Goals as goal

two_facts : (xs : List ℕ) → xs ≡ 0 ∷ 1 ∷ [] → All (λ f. f < 2) xs
two_facts xs e = All-same (λ f. f < 2) xs (0 ∷ 1 ∷ []) e (All-cons (λ f. f < 2) 0 (1 ∷ []) (lit< tt) (All-cons (λ f. f < 2) 1 [] (lit< tt) (All-nil (λ f. f < 2))))

pub step-requires-clause-covered : goal.step-requires-clause-covered
step-requires-clause-covered c = two_facts (trail_facts (constraint_of c.loop-first.automaton)) c.loop-first.invariant.0
