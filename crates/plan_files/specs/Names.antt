-- Believed: what names and arguments stand for in a task; upper and lower case are the same.
use Rattle.std.specs.Prelude.{ℕ, Bool, ◌&&◌, nat_eq, List, [], ◌∷◌, position, Option, Some, option_map, option_and_then}
use Rattle.std.specs.List.{list_any}
use Rattle.std.specs.Cmp.Lexicographic.{pointwise}
use Rattle.std.specs.Str.{str_eq_ignore_ascii_case}
use Rattle.task_types.specs.declared.parts.TaskParts.{TaskParts}
use Rattle.task_types.specs.Trace.{is_some_and}
use Rattle.task_types.specs.WellMade.{arguments_fit}

-- the same word, but for upper and lower case
abbrev pub same_word : List ℕ → List ℕ → Bool
same_word word other = str_eq_ignore_ascii_case word other

-- the number of the object that a word names
abbrev pub object_named : TaskParts → List ℕ → Option ℕ
object_named task word = position (λ name. same_word word name) task.objects

-- the numbers of the objects that some words name, where each names one
abbrev pub objects_named : TaskParts → List (List ℕ) → Option (List ℕ)
objects_named task [] = Some []
objects_named task (w ∷ ws) = option_and_then (λ o. option_map (λ os. o ∷ os) (objects_named task ws)) (object_named task w)

-- Whether some words name objects that fit the parameters of an action of the domain that the first word names.
abbrev pub is_typed : TaskParts → List ℕ → List (List ℕ) → Bool
is_typed task name args = is_some_and (λ os. list_any (λ s. same_word name s.name && arguments_fit os s.params) task.schemas) (objects_named task args)

-- the number of the ground action of this name with these objects; of several the least
abbrev pub action_with : TaskParts → List ℕ → List ℕ → Option ℕ
action_with task name os = position (λ a. same_word name a.name && pointwise nat_eq os a.args) task.actions

abbrev pub action_named : TaskParts → List ℕ → List (List ℕ) → Option ℕ
action_named task name args = option_and_then (action_with task name) (objects_named task args)

-- whether a word names an action of the domain that takes time
abbrev pub names_durative : TaskParts → List ℕ → Bool
names_durative task name = list_any (λ s. same_word name s.name && s.durative) task.schemas
