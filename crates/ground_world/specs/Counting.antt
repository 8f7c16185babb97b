-- Private: counts that stop at a cap, one more than the limit, on the way.
use Rattle.std.specs.Prelude.{ℕ, ◌+◌, ◌*◌, min, Bool, List, [], ◌∷◌, Option, Some, None}
use Rattle.std.specs.Option.{option_map}
use Rattle.pddl_terms.specs.declared.trees.SoftTree.{SoftTree}
use Rattle.pddl_terms.specs.declared.trees.Trajectory.{Trajectory}
use Rattle.pddl_terms.specs.declared.files.ActionDef.{ActionDef}
use Rattle.pddl_names.specs.Declarations.{Text}
use Rattle.ground_world.specs.World.{World, either, columns}
use Rattle.ground_world.specs.Bindings.{choice_count}
use Rattle.ground_world.specs.Leaves.{Leaf, Named, Cost}
use Rattle.ground_world.specs.Counts.{somes, fit_limits, around_count, body_count, soft_count, trajectory_count, formula_count}

abbrev pub capped : Option ℕ → Option ℕ
capped n = option_map (min 65537) n

-- the counts of two parts of a goal together
abbrev pub both : Option ℕ → Option ℕ → Option ℕ
both None n = n
both (Some m) n = Some (m + either 0 (λ k. k) n)

-- the counts of the parts of an `and` together; none are an empty list, which counts as one
abbrev pub somes_or_one : List (Option ℕ) → Option ℕ
somes_or_one [] = Some 1
somes_or_one (n ∷ ns) = somes (n ∷ ns)

-- ---- what is within the limits

abbrev pub action_fits : World → ActionDef → Bool
action_fits w a = fit_limits (choice_count (columns w a.parameters)) (body_count w a.body)

-- a preference or a constraint inside some bindings
abbrev pub preference_fits : World → ℕ → Leaf (Named SoftTree) → Bool
preference_fits w outer l = fit_limits (outer * around_count w l.around) (soft_count w l.leaf.body)

abbrev pub constraint_fits : World → ℕ → Leaf (Option Text × Trajectory) → Bool
constraint_fits w outer l = fit_limits (outer * around_count w l.around) (trajectory_count w l.leaf.1)

abbrev pub cost_fits : World → Cost → Bool
cost_fits w c = fit_limits 1 (formula_count w c.formula)
