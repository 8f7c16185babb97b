-- Believed: how much a domain and a problem of it may hold: parameters, objects, pieces of a time cost.
use Rattle.std.specs.Prelude.{ℕ, ◌-◌, List, [], ◌∷◌, ◌++◌, length, slice_get, Option, Some, None}
use Rattle.std.specs.List.{flat_map}
use Rattle.pddl_terms.specs.declared.faults.Kind.TheVariants as kind
use Rattle.pddl_terms.specs.declared.files.ActionDef.{ActionDef}
use Rattle.pddl_terms.specs.declared.files.CostCurve.{CostCurve}
use Rattle.pddl_terms.specs.declared.files.CostCurve.TheVariants as curve
use Rattle.pddl_terms.specs.declared.files.Declared.{Declared}
use Rattle.pddl_terms.specs.declared.files.Declared.TheVariants as declared
use Rattle.pddl_terms.specs.declared.files.Domain.{Domain}
use Rattle.pddl_terms.specs.declared.files.PieceDef.{PieceDef}
use Rattle.pddl_terms.specs.declared.files.PieceDef.TheVariants as piece
use Rattle.pddl_terms.specs.declared.files.Problem.{Problem}
use Rattle.pddl_terms.specs.declared.files.TimeCost.{TimeCost}
use Rattle.pddl_terms.specs.declared.files.TimeCost.TheVariants as cost
use Rattle.pddl_terms.specs.declared.trees.Group.{Group}
use Rattle.pddl_terms.specs.declared.trees.Name.{Name}
use Rattle.pddl_names.specs.declared.offences.Offence.{Offence}
use Rattle.pddl_forms.specs.Offences.{offence}

-- the most constants of a domain and objects of a problem, together
abbrev pub objects_limit : ℕ
objects_limit = 512

-- the most parameters of an action or a predicate
abbrev pub parameters_limit : ℕ
parameters_limit = 12

-- the most pieces of a time cost
abbrev pub pieces_limit : ℕ
pieces_limit = 16

-- the names of a typed list, in the order of the text
abbrev pub names_in : List Group → List Name
names_in groups = flat_map (λ g. g.names) groups

-- the first name past so many
abbrev pub past : Option Name → List Offence
past None = []
past (Some n) = offence kind.Limit n.at ∷ []

-- a typed list of at most so many names
abbrev pub at_most : ℕ → List Group → List Offence
at_most most groups = past (slice_get (names_in groups) most)

abbrev pub predicate_limits : Declared → List Offence
predicate_limits (declared.Named at n parameters) = at_most parameters_limit parameters
predicate_limits (declared.LeftOut at) = []

abbrev pub action_limits : ActionDef → List Offence
action_limits a = at_most parameters_limit a.parameters

unfoldable pub domain_limits : Domain → List Offence
domain_limits d = at_most objects_limit d.constants ++ flat_map predicate_limits d.predicates ++ flat_map action_limits d.actions

-- where a piece begins
abbrev pub piece_place : PieceDef → ℕ
piece_place (piece.Piece at until from to) = at
piece_place (piece.LeftOut at) = at

-- the first piece past so many
abbrev pub past_piece : Option PieceDef → List Offence
past_piece None = []
past_piece (Some p) = offence kind.Limit (piece_place p) ∷ []

abbrev pub curve_limits : CostCurve → List Offence
curve_limits (curve.Three soft hard top) = []
curve_limits (curve.Pieces ps) = past_piece (slice_get ps pieces_limit)

abbrev pub time_cost_limits : TimeCost → List Offence
time_cost_limits (cost.Named at n t c) = curve_limits c
time_cost_limits (cost.LeftOut at) = []

-- The objects of a problem come behind the constants of its domain.
unfoldable pub problem_limits : Domain → Problem → List Offence
problem_limits d p = at_most (objects_limit - length (names_in d.constants)) p.objects ++ flat_map time_cost_limits p.time_costs
