-- Private: what the code's parts of preferences stand for, how much they count, and what they compare.
use Rattle.std.specs.Prelude.{ℕ, List, [], map}
use Rattle.pddl_terms.specs.declared.trees.CondTree.TheVariants as cond
use Rattle.pddl_terms.specs.declared.trees.FactForm.TheVariants as form
use Rattle.ground_world.specs.World.{World, Env}
use Rattle.ground_world.specs.Conditions.{Part, condition_parts}
use Rattle.ground_world.specs.Counts.{condition_count, formula_count, together}
use Rattle.grounder.specs.Terms as terms
use Rattle.grounder.specs.Terms.{OfFacts, OfNumbers}
use Rattle.grounder.specs.declared.preferences.PreferencePart.{PreferencePart}
use Rattle.grounder.specs.declared.preferences.PreferencePart.TheVariants.{Formula, SameTerms, SameValues, Numbers}

abbrev pub preference_of : PreferencePart → terms.PreferencePart
preference_of (Formula f) = OfFacts f.now
preference_of (SameTerms at l r) = OfFacts (form.Equal at l.now r.now)
preference_of (SameValues at l r) = OfNumbers (cond.Equal at l.now r.now)
preference_of (Numbers c) = OfNumbers c.now

abbrev pub preferences_of : List PreferencePart → List terms.PreferencePart
preferences_of xs = map preference_of xs

-- how many literals and comparisons a part of a preference has
abbrev pub preference_count : World → terms.PreferencePart → ℕ
preference_count w (OfFacts f) = formula_count w f
preference_count w (OfNumbers c) = condition_count w c

abbrev pub preferences_count : World → List terms.PreferencePart → ℕ
preferences_count w xs = together (map (preference_count w) xs)

-- the parts of the condition that a part of a preference is
abbrev pub compared_parts : World → Env → terms.PreferencePart → List Part
compared_parts w env (OfFacts f) = []
compared_parts w env (OfNumbers c) = condition_parts w env c
