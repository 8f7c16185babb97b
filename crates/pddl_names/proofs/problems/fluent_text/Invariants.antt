use Rattle.std.proofs.Common.{◌≡◌, take, ◌++◌, ◌∷◌}
use Rattle.std.specs.List.{flat_map}
use Rattle.pddl_names.specs.Files.{term_text}
use Rattle.pddl_names.proofs.problems.fluent_text.Given as goal

abbrev pub invariant-loop-term : goal.invariant-loop-term
invariant-loop-term l = l.text ≡ l.initial.text ++ flat_map (λ t. 32 ∷ term_text t) (take l.term-index l.term-items)
