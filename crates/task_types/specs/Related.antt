-- Private: lists of facts, fluents and actions to which a snap action stands in some relation, tables that lead back from them, and rows of touches.
use Rattle.std.specs.Prelude.{ℕ, ◌<◌, ◌≡◌, ◌==◌, ◌&&◌, ◌||◌, Bool, true, false, if◌then◌else◌, List, [], ◌∷◌, ◌++◌, length, slice_index_or}
use Rattle.std.specs.List.{flat_map, enumerate_from}
use Rattle.task_types.specs.declared.actions.Snap.{Snap}
use Rattle.task_types.specs.declared.parts.TaskParts.{TaskParts}
use Rattle.task_types.specs.declared.touches.relations.Relation.{Relation}
use Rattle.task_types.specs.declared.touches.relations.Relation.TheVariants.{LookedFacts, ChangedFacts, LookedFluents, WrittenFluents, BentFluents, OwnAction}
use Rattle.task_types.specs.Sets.{is_in}
use Rattle.task_types.specs.Plan.{snap_of}
use Rattle.task_types.specs.Clash.{condition_facts, condition_fluents, read_facts, changed_facts, read_fluents, written_fluents}
use Rattle.task_types.specs.declared.touches.index.Index.{Index}
use Rattle.task_types.specs.declared.tokens.Token.{Token}
use Rattle.task_types.specs.declared.tokens.Token.TheVariants as token
use Rattle.task_types.specs.declared.tokens.Touch.{Touch}
use Rattle.task_types.specs.declared.tokens.Touch.TheVariants.{Look, Mark, Bend}
use Rattle.task_types.specs.Touch.{watches, bent_fluents, started_or_ended, looks, marks, bends, touches_on}

-- what a snap action looks at, changes or bends, and the action that it starts or ends
abbrev pub related : TaskParts → Relation → Snap → List ℕ
related task LookedFacts s = read_facts s ++ flat_map condition_facts (watches task s)
related task ChangedFacts s = changed_facts s
related task LookedFluents s = read_fluents task s ++ flat_map condition_fluents (watches task s)
related task WrittenFluents s = written_fluents s
related task BentFluents s = bent_fluents task s
related task OwnAction s = started_or_ended s

-- how many facts, fluents or actions there are, of the kind that is related
abbrev pub related_count : TaskParts → Relation → ℕ
related_count task LookedFacts = length task.facts
related_count task ChangedFacts = length task.facts
related_count task LookedFluents = length task.fluents
related_count task WrittenFluents = length task.fluents
related_count task BentFluents = length task.fluents
related_count task OwnAction = length task.actions

-- A table tells the snap actions that are so related to each number.
abbrev pub Tells : TaskParts → Relation → List (List ℕ) → Type 0
Tells task relation rows = (n s : ℕ) → is_in s (slice_index_or rows n []) ≡ is_in n (related task relation (snap_of task s))

-- A number was put in the rows of some numbers, and the other rows are as they were.
pub record IsPut (before after : List (List ℕ)) (rows : List ℕ) (put : ℕ) : Type 0 where
  pub long : length after ≡ length before
  pub each : (n s : ℕ) → n < length before → is_in s (slice_index_or after n []) ≡ (is_in s (slice_index_or before n []) || ((put == s) && is_in n rows))

-- A table leads back where row n has the places of the lists in which n stands, and no other.
pub record LeadsBack (rows : List (List ℕ)) (count : ℕ) (lists : List (List ℕ)) : Type 0 where
  pub long : length rows ≡ count
  pub each : (n s : ℕ) → n < count → is_in s (slice_index_or rows n []) ≡ is_in n (slice_index_or lists s [])

-- Flags for the numbers below a count tell which of them stand in a list.
pub record IsFlags (flags : List Bool) (count : ℕ) (numbers : List ℕ) : Type 0 where
  pub long : length flags ≡ count
  pub each : (n : ℕ) → n < count → slice_index_or flags n false ≡ is_in n numbers

-- ---- the tables of a task, and rows of touches

-- An index of a task has a table for each relation.
pub record IsIndex (task : TaskParts) (index : Index) : Type 0 where
  pub looked_facts : Tells task LookedFacts index.looked_facts
  pub changed_facts : Tells task ChangedFacts index.changed_facts
  pub looked_fluents : Tells task LookedFluents index.looked_fluents
  pub written_fluents : Tells task WrittenFluents index.written_fluents
  pub bent_fluents : Tells task BentFluents index.bent_fluents
  pub own_actions : Tells task OwnAction index.own_actions

-- a snap action touches a token in one way
abbrev pub touches_by : TaskParts → Touch → Snap → Token → Bool
touches_by task Look s t = looks task s t
touches_by task Mark s t = marks task s t
touches_by task Bend s t = bends task s t

-- Some snap actions are those that touch a token in one way.
abbrev pub AreTouching : TaskParts → Touch → Token → List ℕ → Type 0
AreTouching task touch t snaps = (s : ℕ) → is_in s snaps ≡ touches_by task touch (snap_of task s) t

abbrev pub row_of : List (List ℕ) → ℕ → List ℕ
row_of rows n = slice_index_or rows n []

-- the snap actions that an index finds to touch a token in one way
abbrev pub found : Index → Touch → Token → List ℕ
found index Look (token.Fact f) = row_of index.looked_facts f
found index Look (token.Fluent f) = row_of index.looked_fluents f
found index Look (token.Comparison a fluents) = row_of index.own_actions a
found index Look (token.Formulas facts) = []
found index Look (token.Action a) = []
found index Mark (token.Fact f) = row_of index.changed_facts f
found index Mark (token.Fluent f) = row_of index.written_fluents f
found index Mark (token.Comparison a fluents) = flat_map (row_of index.written_fluents) fluents
found index Mark (token.Formulas facts) = flat_map (row_of index.changed_facts) facts
found index Mark (token.Action a) = row_of index.own_actions a
found index Bend (token.Fact f) = []
found index Bend (token.Fluent f) = row_of index.bent_fluents f
found index Bend (token.Comparison a fluents) = flat_map (row_of index.bent_fluents) fluents
found index Bend (token.Formulas facts) = []
found index Bend (token.Action a) = []

abbrev pub same_touch : Touch → Touch → Bool
same_touch Look Look = true
same_touch Mark Mark = true
same_touch Bend Bend = true
same_touch _ _ = false

-- the last entry of a row is this one
abbrev pub is_last : ℕ → Touch → List (ℕ × Touch) → Bool
is_last n t [] = false
is_last n t (x ∷ []) = (x.0 == n) && same_touch x.1 t
is_last n t (x ∷ y ∷ ys) = is_last n t (y ∷ ys)

-- a row with an entry at its end, once
abbrev pub put_last : ℕ → Touch → List (ℕ × Touch) → List (ℕ × Touch)
put_last n t row = if is_last n t row then row else (row ++ (n, t) ∷ [])

-- A touch of a token was put into the rows of some snap actions.
pub record ArePut (before after : List (List (ℕ × Touch))) (n : ℕ) (t : Touch) (snaps : List ℕ) : Type 0 where
  pub long : length after ≡ length before
  pub each : (s : ℕ) → s < length before → slice_index_or after s [] ≡ (if is_in s snaps then put_last n t (slice_index_or before s []) else slice_index_or before s [])

-- a touch of a token put at the end of the row of a snap action, where the snap action is among those
abbrev pub put_where : ℕ → Touch → List ℕ → ℕ → List (ℕ × Touch) → List (ℕ × Touch)
put_where n t snaps s row = if is_in s snaps then put_last n t row else row

-- All touches of a token were put into the rows.
pub record IsPutInAll (before after : List (List (ℕ × Touch))) (index : Index) (n : ℕ) (t : Token) : Type 0 where
  pub long : length after ≡ length before
  pub each : (s : ℕ) → s < length before → slice_index_or after s [] ≡ put_where n Bend (found index Bend t) s (put_where n Mark (found index Mark t) s (put_where n Look (found index Look t) s (slice_index_or before s [])))

-- the touches of a snap action on the first tokens of a list
abbrev pub touches_on_first : TaskParts → Snap → List Token → List (ℕ × Touch)
touches_on_first task s ts = flat_map (λ t. touches_on task s t.0 t.1) (enumerate_from 0 ts)

-- Each row has the touches of its snap action on the first tokens.
pub record HaveTouches (task : TaskParts) (rows : List (List (ℕ × Touch))) (ts : List Token) : Type 0 where
  pub long : length rows ≡ length task.snaps
  pub each : (s : ℕ) → s < length task.snaps → slice_index_or rows s [] ≡ touches_on_first task (snap_of task s) ts
