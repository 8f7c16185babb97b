-- Believed: tokens, and how snap actions touch them: what ties two steps of an ordering together.
-- The table is this project's own; docs/ORDERINGS.md says why it is so, and where it asks for more than PDDL does.
use Rattle.std.specs.Prelude.{ℕ, Bool, true, false, List, [], ◌∷◌, ◌++◌, map, length, if◌then◌else◌, option_to_list, is_some}
use Rattle.std.specs.List.{filter, flat_map, enumerate_from}
use Rattle.task_types.specs.declared.actions.Action.{Action}
use Rattle.task_types.specs.declared.actions.Snap.{Snap}
use Rattle.task_types.specs.declared.actions.SnapKind.{SnapKind}
use Rattle.task_types.specs.declared.actions.SnapKind.TheVariants.{Start, End, Instant, Timed}
use Rattle.task_types.specs.declared.conditions.Condition.{Condition}
use Rattle.task_types.specs.declared.constraints.Trail.{Trail}
use Rattle.task_types.specs.declared.costs.Soft.{Soft}
use Rattle.task_types.specs.declared.costs.Soft.TheVariants as soft
use Rattle.task_types.specs.declared.formulas.FactTree.{FactTree, fold-FactTree}
use Rattle.task_types.specs.declared.formulas.FactTree.TheOpen.{FactTree-F}
use Rattle.task_types.specs.declared.tokens.Touch.{Touch}
use Rattle.task_types.specs.declared.tokens.Touch.TheVariants.{Look, Mark, Bend}
use Rattle.task_types.specs.declared.tokens.Token.{Token}
use Rattle.task_types.specs.declared.tokens.Token.TheVariants as token
use Rattle.task_types.specs.declared.parts.TaskParts.{TaskParts}
use Rattle.task_types.specs.Sets.{is_in, meet, are_several, numbers}
use Rattle.task_types.specs.Plan.{action_of, snap_of}
use Rattle.task_types.specs.Clash.{form_fluents, condition_facts, condition_fluents, read_facts, changed_facts, read_fluents, assigned_fluents, written_fluents}

-- A snap action is timed where it is that of timed initial literals.
abbrev pub is_timed : SnapKind → Bool
is_timed Start = false
is_timed End = false
is_timed Instant = false
is_timed Timed = true

abbrev pub is_start_or_end : SnapKind → Bool
is_start_or_end Start = true
is_start_or_end End = true
is_start_or_end Instant = false
is_start_or_end Timed = false

-- the durative action that a snap action starts or ends, where there is one
abbrev pub started_or_ended : Snap → List ℕ
started_or_ended s = filter (λ a. is_start_or_end s.kind) (option_to_list s.action)

-- A start or an end watches the over-all condition of its action.
abbrev pub watches : TaskParts → Snap → List Condition
watches task s = map (λ a. (action_of task a).over_all) (started_or_ended s)

-- A start or an end bends the fluents on which its action has a rate, also a rate of 0.
abbrev pub bent_fluents : TaskParts → Snap → List ℕ
bent_fluents task s = flat_map (λ a. map (λ r. r.0) (snap_of task (action_of task a).start).rates) (started_or_ended s)

-- the fluents of the comparisons of a goal preference; no other soft term has fluents
abbrev pub soft_fluents : Soft → List ℕ
soft_fluents (soft.Trail c w) = []
soft_fluents (soft.Goal formula forms w) = flat_map form_fluents forms
soft_fluents (soft.Late formula c w) = []
soft_fluents (soft.Pieces formula ps w) = []

-- the fluents that the condition and the effect expressions of a snap action read, and those that it assigns
abbrev pub snap_tracked : Snap → List ℕ
snap_tracked s = condition_fluents s.condition ++ flat_map (λ e. form_fluents e.1.form) (s.effect.assigns ++ s.effect.increases) ++ assigned_fluents s

-- the fluents that the over-all condition and the duration bounds of an action read
abbrev pub action_tracked : Action → List ℕ
action_tracked a = condition_fluents a.over_all ++ flat_map (λ b. form_fluents b.form) a.bounds

-- A fluent is tracked where a condition, an effect expression, a duration bound, the goal or a preference reads it, or
-- an effect assigns it; any other fluent is a meter, which nothing but the cost reads.
abbrev pub tracked_fluents : TaskParts → List ℕ
tracked_fluents task = flat_map snap_tracked task.snaps ++ flat_map action_tracked task.actions ++ condition_fluents task.goal ++ flat_map soft_fluents task.soft

-- A step looks at what its condition, effect expressions and duration bounds read, and at the facts, fluents and groups
-- of the over-all condition of its action.
abbrev pub looks : TaskParts → Snap → Token → Bool
looks task s (token.Fact f) = is_in f (read_facts s ++ flat_map condition_facts (watches task s))
looks task s (token.Fluent f) = is_in f (read_fluents task s ++ flat_map condition_fluents (watches task s))
looks task s (token.Comparison a fluents) = is_in a (started_or_ended s)
looks task s (token.Formulas facts) = false
looks task s (token.Action a) = false

-- A step marks the facts that it adds or deletes and the fluents that it assigns or increases, the groups that hold one
-- of these, and the action that it starts or ends.
abbrev pub marks : TaskParts → Snap → Token → Bool
marks task s (token.Fact f) = is_in f (changed_facts s)
marks task s (token.Fluent f) = is_in f (written_fluents s)
marks task s (token.Comparison a fluents) = meet fluents (written_fluents s)
marks task s (token.Formulas facts) = meet facts (changed_facts s)
marks task s (token.Action a) = is_in a (started_or_ended s)

-- A start or an end bends the fluents on which its action has a rate, and the groups that hold one of these.
abbrev pub bends : TaskParts → Snap → Token → Bool
bends task s (token.Fact f) = false
bends task s (token.Fluent f) = is_in f (bent_fluents task s)
bends task s (token.Comparison a fluents) = meet fluents (bent_fluents task s)
bends task s (token.Formulas facts) = false
bends task s (token.Action a) = false

-- the facts of a formula, from those of its parts
abbrev pub facts_of_parts : FactTree-F (List ℕ) → List ℕ
facts_of_parts FactTree-F.True = []
facts_of_parts (FactTree-F.Is l) = l.fact ∷ []
facts_of_parts (FactTree-F.Not part) = part
facts_of_parts (FactTree-F.And parts) = flat_map (λ part. part) parts
facts_of_parts (FactTree-F.Or parts) = flat_map (λ part. part) parts

unfoldable pub tree_facts : FactTree → List ℕ
tree_facts formula = fold-FactTree (List ℕ) facts_of_parts formula

abbrev pub trail_facts : Trail → List ℕ
trail_facts c = tree_facts c.first ++ tree_facts c.second

-- The facts of a soft term stand in a group, but for a goal preference, which looks at the last state alone.
abbrev pub soft_facts : Soft → List ℕ
soft_facts (soft.Trail c w) = trail_facts c
soft_facts (soft.Goal formula forms w) = []
soft_facts (soft.Late formula c w) = tree_facts formula
soft_facts (soft.Pieces formula ps w) = tree_facts formula

-- the groups of the over-all comparisons of an action that have two or more fluents
abbrev pub comparison_tokens : ℕ → Action → List Token
comparison_tokens a action = map (λ form. token.Comparison a (form_fluents form)) (filter (λ form. are_several (form_fluents form)) action.over_all.comparisons)

-- The tokens, numbered from 0: each fact, each tracked fluent, the groups of the over-all comparisons with two or more
-- fluents, the groups of the hard constraints and soft terms with two or more facts, and each durative action.
unfoldable pub tokens : TaskParts → List Token
tokens task = map token.Fact (numbers (length task.facts))
    ++ map token.Fluent (filter (λ f. is_in f (tracked_fluents task)) (numbers (length task.fluents)))
    ++ flat_map (λ a. comparison_tokens a.0 a.1) (enumerate_from 0 task.actions)
    ++ map token.Formulas (filter are_several (map trail_facts task.hard ++ map soft_facts task.soft))
    ++ map (λ a. token.Action a.0) (filter (λ a. is_some a.1.end) (enumerate_from 0 task.actions))

-- the touches of a snap action on one token
abbrev pub touches_on : TaskParts → Snap → ℕ → Token → List (ℕ × Touch)
touches_on task s n t = (if looks task s t then (n, Look) ∷ [] else []) ++ (if marks task s t then (n, Mark) ∷ [] else []) ++ (if bends task s t then (n, Bend) ∷ [] else [])

-- The touches of a snap action are its looks, marks and bends, token by token in the order of the tokens.
unfoldable pub touches_of : TaskParts → Snap → List (ℕ × Touch)
touches_of task s = flat_map (λ t. touches_on task s t.0 t.1) (enumerate_from 0 (tokens task))
