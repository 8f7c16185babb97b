-- Believed: what is left out in typed lists and declarations.
use Rattle.std.specs.Prelude.{List, [], ◌∷◌}
use Rattle.std.specs.List.{flat_map}
use Rattle.pddl_terms.specs.declared.faults.Kind.TheVariants as kind
use Rattle.pddl_terms.specs.declared.files.Declared.{Declared}
use Rattle.pddl_terms.specs.declared.files.Declared.TheVariants as declared
use Rattle.pddl_terms.specs.declared.trees.Group.{Group}
use Rattle.pddl_terms.specs.declared.trees.TypeName.{TypeName}
use Rattle.pddl_terms.specs.declared.trees.TypeName.TheVariants as type
use Rattle.pddl_names.specs.declared.offences.Offence.{Offence}
use Rattle.pddl_forms.specs.Offences.{offence}

-- A type is a name: `( either .. )` is left out.
abbrev pub type_offences : TypeName → List Offence
type_offences type.Object = []
type_offences (type.Named n) = []
type_offences (type.LeftOut at) = offence kind.LeftOut at ∷ []

abbrev pub group_offences : Group → List Offence
group_offences g = type_offences g.of

abbrev pub typed_offences : List Group → List Offence
typed_offences groups = flat_map group_offences groups

-- a predicate or a function
abbrev pub declared_offences : Declared → List Offence
declared_offences (declared.Named at n parameters) = typed_offences parameters
declared_offences (declared.LeftOut at) = offence kind.LeftOut at ∷ []
