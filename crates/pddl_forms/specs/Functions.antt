-- Believed: the functions of a domain, and which of them are static.
use Rattle.std.specs.Prelude.{Bool, not, List, [], ◌∷◌, Option, Some, None}
use Rattle.std.specs.List.{flat_map}
use Rattle.pddl_names.specs.Declarations.{Text, among, with_new}
use Rattle.pddl_terms.specs.declared.files.ActionBody.{ActionBody}
use Rattle.pddl_terms.specs.declared.files.ActionBody.TheVariants as body
use Rattle.pddl_terms.specs.declared.files.ActionDef.{ActionDef}
use Rattle.pddl_terms.specs.declared.files.Declared.{Declared}
use Rattle.pddl_terms.specs.declared.files.Declared.TheVariants as declared
use Rattle.pddl_terms.specs.declared.files.Domain.{Domain}
use Rattle.pddl_terms.specs.declared.trees.Call.{Call}
use Rattle.pddl_terms.specs.declared.trees.Call.TheVariants as call
use Rattle.pddl_terms.specs.declared.trees.EffTree.{EffTree, fold-EffTree}
use Rattle.pddl_terms.specs.declared.trees.EffTree.TheOpen.{EffTree-F}
use Rattle.pddl_terms.specs.declared.trees.TimedEff.{TimedEff, fold-TimedEff}
use Rattle.pddl_terms.specs.declared.trees.TimedEff.TheOpen.{TimedEff-F}
use Rattle.pddl_forms.specs.declared.functions.Functions.{Functions}

-- the function of a fluent
abbrev pub function_of : Call → List Text
function_of (call.Named a) = a.name.bytes ∷ []
function_of (call.LeftOut at) = []

-- the functions that an effect changes, in the order of the text; a list that is left out changes nothing
abbrev pub changed_layer : EffTree-F (List Text) → List Text
changed_layer (EffTree-F.Empty at) = []
changed_layer (EffTree-F.And at parts) = flat_map (λ part. part) parts
changed_layer (EffTree-F.Add a) = []
changed_layer (EffTree-F.Delete at fact) = []
changed_layer (EffTree-F.Change at how fluent amount) = function_of fluent
changed_layer (EffTree-F.LeftOut at) = []

unfoldable pub changed_by : EffTree → List Text
changed_by effect = fold-EffTree (List Text) changed_layer effect

-- the same for an effect of a durative action; a rate changes its fluent
abbrev pub timed_changed_layer : TimedEff-F (List Text) → List Text
timed_changed_layer (TimedEff-F.Empty at) = []
timed_changed_layer (TimedEff-F.And at parts) = flat_map (λ part. part) parts
timed_changed_layer (TimedEff-F.AtStart at effect) = changed_by effect
timed_changed_layer (TimedEff-F.AtEnd at effect) = changed_by effect
timed_changed_layer (TimedEff-F.Rate at trend fluent rate) = function_of fluent
timed_changed_layer (TimedEff-F.LeftOut at) = []

unfoldable pub timed_changed_by : TimedEff → List Text
timed_changed_by effect = fold-TimedEff (List Text) timed_changed_layer effect

abbrev pub changed_by_some : Option EffTree → List Text
changed_by_some None = []
changed_by_some (Some effect) = changed_by effect

abbrev pub timed_changed_by_some : Option TimedEff → List Text
timed_changed_by_some None = []
timed_changed_by_some (Some effect) = timed_changed_by effect

abbrev pub changed_by_body : ActionBody → List Text
changed_by_body (body.Instant condition effect) = changed_by_some effect
changed_by_body (body.Durative duration condition effect) = timed_changed_by_some effect

abbrev pub changed_by_action : ActionDef → List Text
changed_by_action a = changed_by_body a.body

abbrev pub declared_name : Declared → List Text
declared_name (declared.Named at n parameters) = n.bytes ∷ []
declared_name (declared.LeftOut at) = []

-- the functions of a domain: the names that are declared, and those that some effect changes
unfoldable pub functions_of : Domain → Functions
functions_of d = record {
  declared = with_new [] (flat_map declared_name d.functions);
  changed = with_new [] (flat_map changed_by_action d.actions);
}

-- A function is static where no effect of the domain changes it.
abbrev pub is_static : Functions → Text → Bool
is_static fs name = not (among fs.changed name)
