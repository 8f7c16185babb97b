use Rattle.std.proofs.Common.{◌≡◌, ◌∷◌, map, take}
use Rattle.ground_world.specs.Shown.{env_of}
use Rattle.grounder.proofs.changing_atoms.add_bound.Given as goal

abbrev pub invariant-loop-bound : goal.invariant-loop-bound
invariant-loop-bound l = l.key ≡ l.predicate ∷ map (λ b. b.1) (env_of (take l.bound-index l.env))
