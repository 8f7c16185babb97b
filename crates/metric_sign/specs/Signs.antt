-- Believed: the terms that only a metric has, the total time, violated preferences and time costs, whose coefficient in
-- the minimised form is below 0.
use Rattle.std.specs.Prelude.{ℕ, if◌then◌else◌, List, [], ◌∷◌, ◌++◌, is_none}
use Rattle.std.specs.List.{flat_map}
use Rattle.rational.specs.Rational.{zeroℚ}
use Rattle.exact_lin.specs.Forms.{LinearForm, coefficient}
use Rattle.pddl_terms.specs.declared.faults.Kind.TheVariants as kind
use Rattle.pddl_terms.specs.declared.trees.ExprTree.{ExprTree, fold-ExprTree}
use Rattle.pddl_terms.specs.declared.trees.ExprTree.TheOpen.{ExprTree-F}
use Rattle.pddl_terms.specs.declared.files.Domain.{Domain}
use Rattle.pddl_terms.specs.declared.files.Metric.{Metric}
use Rattle.pddl_terms.specs.declared.files.Problem.{Problem}
use Rattle.pddl_names.specs.declared.offences.Offence.{Offence}
use Rattle.pddl_names.specs.Offences.{offence, least}
use Rattle.pddl_forms.specs.TimeCosts.{is_below}
use Rattle.pddl_forms.specs.Functions.{functions_of}
use Rattle.pddl_forms.specs.Forms.{some_offences, metric_offences}
use Rattle.ground_world.specs.World.{either, World}
use Rattle.ground_world.specs.FirstState.{world}
use Rattle.ground_world.specs.Expressions.{Unknowns, own_unknown, preference_unknown, cost_unknown}
use Rattle.ground_world.specs.Leaves.{unknowns, metric_value}

-- a term at the place, where the coefficient of its unknown is below 0
abbrev pub sign_offences : LinearForm → ℕ → ℕ → List Offence
sign_offences f v at = if is_below (coefficient f.terms v) zeroℚ then offence kind.MetricSign at ∷ [] else []

abbrev pub term_layer : World → Unknowns → LinearForm → ExprTree-F (List Offence) → List Offence
term_layer w us f (ExprTree-F.Number at q) = []
term_layer w us f (ExprTree-F.Fluent a) = []
term_layer w us f (ExprTree-F.Duration at) = []
term_layer w us f (ExprTree-F.Sum at parts) = flat_map (λ part. part) parts
term_layer w us f (ExprTree-F.Product at parts) = flat_map (λ part. part) parts
term_layer w us f (ExprTree-F.Negative at part) = part
term_layer w us f (ExprTree-F.Difference at left right) = left ++ right
term_layer w us f (ExprTree-F.Quotient at left right) = left ++ right
term_layer w us f (ExprTree-F.LeftOut at) = []
term_layer w us f (ExprTree-F.TotalTime at) = sign_offences f (own_unknown w) at
term_layer w us f (ExprTree-F.Violated at n) = sign_offences f (preference_unknown w us n.bytes) at
term_layer w us f (ExprTree-F.TimeCost at n) = sign_offences f (cost_unknown w us n.bytes) at

-- Each occurrence of a term whose coefficient in the form is below 0, whatever its own sign is where it stands.
unfoldable pub term_offences : World → Unknowns → LinearForm → ExprTree → List Offence
term_offences w us f e = fold-ExprTree (List Offence) (term_layer w us f) e

-- A metric that lacks a value, divides by 0 or passes 128 bits is refused when it is grounded.
abbrev pub valued_offences : World → Unknowns → Metric → List Offence
valued_offences w us m = either [] (λ f. term_offences w us f m.expression) (metric_value w us [] m)

-- The signs are asked where the metric is linear and holds no list that is left out.
unfoldable pub metric_sign_offences : Domain → Problem → List Offence
metric_sign_offences d p = if is_none (least (some_offences (metric_offences (functions_of d)) p.metric))
    then some_offences (valued_offences (world d p) (unknowns d p)) p.metric else []
