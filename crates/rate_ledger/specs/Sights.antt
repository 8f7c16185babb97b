-- Believed: which steps look at a fluent or mark it, by itself or in a group of it.
use Rattle.std.specs.Prelude.{ℕ, ◌≡◌, ◌==◌, ◌&&◌, ◌||◌, Bool, true, false}
use Rattle.std.specs.List.{list_any}
use Rattle.task_types.specs.declared.actions.Snap.{Snap}
use Rattle.task_types.specs.declared.parts.TaskParts.{TaskParts}
use Rattle.task_types.specs.declared.tokens.Token.{Token}
use Rattle.task_types.specs.declared.tokens.Token.TheVariants as token
use Rattle.task_types.specs.Sets.{is_in}
use Rattle.task_types.specs.Touch.{looks, marks, tokens}

-- a token is the fluent's own, or that of a group of fluents that it is one of
abbrev pub covers : ℕ → Token → Bool
covers f (token.Fact g) = false
covers f (token.Fluent g) = g == f
covers f (token.Comparison a fluents) = is_in f fluents
covers f (token.Formulas facts) = false
covers f (token.Action a) = false

-- A snap action sees a fluent where it looks at it or marks it, or a group of it.
abbrev pub Sees : TaskParts → Snap → ℕ → Type 0
Sees task s f = list_any (λ t. covers f t && (marks task s t || looks task s t)) (tokens task) ≡ true
