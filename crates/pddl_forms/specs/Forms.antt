-- Believed: all that is wrong in the forms of a domain, and of a problem of a domain, section by section.
use Rattle.std.specs.Prelude.{ℕ, List, [], ◌∷◌, ◌++◌, Option, Some, None}
use Rattle.std.specs.List.{flat_map}
use Rattle.pddl_terms.specs.declared.faults.Kind.TheVariants as kind
use Rattle.pddl_terms.specs.declared.files.ActionBody.{ActionBody}
use Rattle.pddl_terms.specs.declared.files.ActionBody.TheVariants as body
use Rattle.pddl_terms.specs.declared.files.ActionDef.{ActionDef}
use Rattle.pddl_terms.specs.declared.files.Domain.{Domain}
use Rattle.pddl_terms.specs.declared.files.Metric.{Metric}
use Rattle.pddl_terms.specs.declared.files.Problem.{Problem}
use Rattle.pddl_forms.specs.declared.functions.Functions.{Functions}
use Rattle.pddl_names.specs.declared.offences.Offence.{Offence}
use Rattle.pddl_forms.specs.Offences.{offence}
use Rattle.pddl_forms.specs.TypedLists.{typed_offences, declared_offences}
use Rattle.pddl_forms.specs.Functions.{functions_of}
use Rattle.pddl_forms.specs.Expressions.{expression_offences}
use Rattle.pddl_forms.specs.Conditions.{condition_offences, timed_condition_offences, duration_offences}
use Rattle.pddl_forms.specs.Formulas.{constraint_offences}
use Rattle.pddl_forms.specs.Effects.{effect_offences, timed_effect_offences}
use Rattle.pddl_forms.specs.Goals.{goal_offences}
use Rattle.pddl_forms.specs.TimeCosts.{time_cost_offences}
use Rattle.pddl_forms.specs.TimedLiterals.{init_offences}
use Rattle.pddl_forms.specs.Requirements.{requirements_offences}

-- what may be missing
abbrev pub some_offences : {A : Type 0} → (A → List Offence) → Option A → List Offence
some_offences offences None = []
some_offences offences (Some x) = offences x

-- a section that is left out
abbrev pub section_offences : ℕ → List Offence
section_offences at = offence kind.LeftOut at ∷ []

abbrev pub sections_offences : List ℕ → List Offence
sections_offences places = flat_map section_offences places

abbrev pub body_offences : Functions → ActionBody → List Offence
body_offences fs (body.Instant condition effect) =
    some_offences (condition_offences fs) condition ++ some_offences (effect_offences fs) effect
body_offences fs (body.Durative duration condition effect) =
    duration_offences fs duration ++ some_offences (timed_condition_offences fs) condition
    ++ some_offences (timed_effect_offences fs) effect

abbrev pub action_offences : Functions → ActionDef → List Offence
action_offences fs a = typed_offences a.parameters ++ body_offences fs a.body

abbrev pub metric_offences : Functions → Metric → List Offence
metric_offences fs m = expression_offences fs m.expression

-- what a domain declares
abbrev pub declarations_offences : Domain → List Offence
declarations_offences d =
    requirements_offences d.requirements ++ typed_offences d.types ++ typed_offences d.constants
    ++ flat_map declared_offences d.predicates ++ flat_map declared_offences d.functions

-- a domain with these functions
unfoldable pub domain_forms_with : Functions → Domain → List Offence
domain_forms_with fs d =
    declarations_offences d ++ some_offences (constraint_offences fs) d.constraints
    ++ flat_map (action_offences fs) d.actions ++ sections_offences d.left_out

abbrev pub domain_forms : Domain → List Offence
domain_forms d = domain_forms_with (functions_of d) d

-- what a problem tells
abbrev pub facts_offences : Problem → List Offence
facts_offences p = requirements_offences p.requirements ++ typed_offences p.objects ++ init_offences p.init

-- what a problem asks of plans
abbrev pub wishes_offences : Functions → Problem → List Offence
wishes_offences fs p =
    goal_offences fs p.goal ++ some_offences (constraint_offences fs) p.constraints
    ++ flat_map (time_cost_offences fs) p.time_costs ++ some_offences (metric_offences fs) p.metric

-- a problem of a domain with these functions
unfoldable pub problem_forms_with : Functions → Problem → List Offence
problem_forms_with fs p = facts_offences p ++ (wishes_offences fs p ++ sections_offences p.left_out)

abbrev pub problem_forms : Domain → Problem → List Offence
problem_forms d p = problem_forms_with (functions_of d) p
