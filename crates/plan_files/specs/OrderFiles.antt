-- Believed: what a line of an ordering file stands for, what is asked of it in turn, and what an ordering file is.
use Rattle.std.specs.Prelude.{ℕ, ◌≡◌, ◌-◌, ◌⊎◌, ◌&&◌, Bool, true, nat_lt, IsTrue, List, [], ◌∷◌, ◌++◌, length, slice_index, Option, Some, None, option_map, is_some, Result, Ok, Err, find, if◌then◌else◌}
use Rattle.basics.specs.Duties.{Duty, AllMet, IsFirstUnmet}
use Rattle.basics.specs.Texts.{is_digits, number}
use Rattle.rational.specs.Rational.{ℚ}
use Rattle.task_types.specs.declared.actions.Action.{Action}
use Rattle.task_types.specs.declared.parts.TaskParts.{TaskParts}
use Rattle.task_types.specs.Order.{Order, IsClosedOrdering}
use Rattle.task_types.specs.Plan.{action_of}
use Rattle.task_types.specs.Tests.{◌=?◌}
use Rattle.ordering.specs.declared.faults.OrderFault.{OrderFault}
use Rattle.ordering.specs.declared.faults.OrderFault.TheVariants as order
use Rattle.ordering.specs.declared.orderings.StepOrdering.{StepOrdering}
use Rattle.ordering.specs.Orderings.{order_of, no_steps, with_step, with_pair}
use Rattle.ordering.specs.Refusals.{push_refusal, pair_refusal, closing_refusal}
use Rattle.plan_files.specs.declared.faults.LineKind.{LineKind}
use Rattle.plan_files.specs.declared.faults.LineKind.TheVariants as kind
use Rattle.plan_files.specs.declared.faults.LineFault.{LineFault}
use Rattle.plan_files.specs.declared.faults.LineFault.TheVariants.{At, Memory}
use Rattle.plan_files.specs.declared.order_words.Doing.{Doing}
use Rattle.plan_files.specs.declared.order_words.Doing.TheVariants.{Start, End, Do}
use Rattle.plan_files.specs.Lines.{written_lines}
use Rattle.plan_files.specs.Names.{is_typed, action_named}
use Rattle.plan_files.specs.OrderWords.{OrderWords, Acts, Timed, Pair, Orders}
use Rattle.plan_files.specs.PlanFiles.{StandsFor, IsNumber}

-- the bytes are a whole number from 0 to 4,294,967,295 in decimal digits
abbrev pub is_count : List ℕ → Bool
is_count bytes = is_digits bytes && nat_lt (number bytes) 4294967296

-- ---- what a line stands for

-- A line puts a step to an ordering, or sets two steps apart, which it names by their numbers.
pub data Put : Type 0 where
  Step : (snap : ℕ) → Put
  Apart : (first second : ℕ) → Put

-- the snap action that starts or ends an action that takes time, or does one that takes none
abbrev pub snap_for : Doing → Action → Option ℕ
snap_for Start a = if is_some a.end then Some a.start else None
snap_for End a = a.end
snap_for Do a = if is_some a.end then None else Some a.start

-- the timed step at a moment
abbrev pub timed_at : TaskParts → ℚ → Option ℕ
timed_at task q = option_map (λ t. t.1) (find (λ t. t.0 =? q) task.timed)

-- The words put this; nothing where the task has no such step.
abbrev pub Puts : TaskParts → OrderWords → Option Put → Type 0
Puts task (Acts what name args) p = (a : ℕ) × (action_named task name args ≡ Some a) × (p ≡ option_map Step (snap_for what (action_of task a)))
Puts task (Timed moment) p = (q : ℚ) × StandsFor moment q × (p ≡ option_map Step (timed_at task q))
Puts task (Pair first second) p = p ≡ Some (Apart (number first) (number second))

-- ---- what is asked of it

abbrev pub HasNumbers : OrderWords → Type 0
HasNumbers (Acts what name args) = Unit {0}
HasNumbers (Timed moment) = IsNumber moment
HasNumbers (Pair first second) = IsTrue (is_count first && is_count second)

abbrev pub has_types : TaskParts → OrderWords → Bool
has_types task (Acts what name args) = is_typed task name args
has_types task (Timed moment) = true
has_types task (Pair first second) = true

abbrev pub is_ground : TaskParts → OrderWords → Bool
is_ground task (Acts what name args) = is_some (action_named task name args)
is_ground task (Timed moment) = true
is_ground task (Pair first second) = true

-- What is asked of the words of a line in turn: that their numbers are numbers; that their action and objects are there,
-- as many and of such types as the action asks; and that grounding kept the action.
abbrev pub word_duties : TaskParts → ℕ → OrderWords → List (Duty (ℕ × LineKind))
word_duties task line w =
    record { fault = (line, kind.Number); Met = HasNumbers w }
    ∷ record { fault = (line, kind.Name); Met = IsTrue (has_types task w) }
    ∷ record { fault = (line, kind.Unground); Met = IsTrue (is_ground task w) } ∷ []

-- ---- line by line

-- an ordering so far, and the number of the line of each of its steps
pub record Begun : Type 0 where
  pub order : Order
  pub lines : List ℕ

abbrev pub nothing_yet : Begun
nothing_yet = record { order = no_steps; lines = [] }

abbrev pub after : Begun → ℕ → Put → Begun
after b line (Step s) = record { order = with_step b.order s; lines = b.lines ++ line ∷ [] }
after b line (Apart first second) = record { order = with_pair b.order first second; lines = b.lines }

-- What is put is refused where there is no such step, or as an ordering refuses a step or a pair.
abbrev pub refusal : TaskParts → Order → Option Put → Option OrderFault
refusal task o None = Some order.UnknownStep
refusal task o (Some (Step s)) = push_refusal task o s
refusal task o (Some (Apart first second)) = pair_refusal (length o.steps) first second

-- A line is taken where it has words of which all is met that is asked, and what they put is not refused.
pub record Takes (task : TaskParts) (b : Begun) (line : ℕ × List ℕ) (p : Put) : Type 0 where
  pub words : OrderWords
  pub says : Orders line.1 words
  pub met : AllMet (word_duties task line.0 words)
  pub puts : Puts task words (Some p)
  pub taken : refusal task b.order (Some p) ≡ None

-- It is refused for its form,
abbrev pub HasNoForm : ℕ × List ℕ → ℕ × LineKind → Type 0
HasNoForm line f = ((w : OrderWords) → ¬ Orders line.1 w) × (f ≡ (line.0, kind.Shape))

-- or for the first thing asked of its words that is not met,
abbrev pub HasWrongWords : TaskParts → ℕ × List ℕ → ℕ × LineKind → Type 0
HasWrongWords task line f = (w : OrderWords) × Orders line.1 w × IsFirstUnmet (word_duties task line.0 w) f

-- or where the ordering refuses what they put.
pub record IsOutOfOrder (task : TaskParts) (b : Begun) (line : ℕ × List ℕ) (f : ℕ × LineKind) : Type 0 where
  pub words : OrderWords
  pub says : Orders line.1 words
  pub met : AllMet (word_duties task line.0 words)
  pub put : Option Put
  pub puts : Puts task words put
  pub fault : OrderFault
  pub refused : refusal task b.order put ≡ Some fault
  pub told : f ≡ (line.0, kind.Order fault)

abbrev pub Refuses : TaskParts → Begun → ℕ × List ℕ → ℕ × LineKind → Type 0
Refuses task b line f = HasNoForm line f ⊎ (HasWrongWords task line f ⊎ IsOutOfOrder task b line f)

-- all lines are taken, and this comes of it
abbrev pub Becomes : TaskParts → Begun → List (ℕ × List ℕ) → Begun → Type 0
Becomes task b [] end = b ≡ end
Becomes task b (line ∷ lines) end = (p : Put) × Takes task b line p × Becomes task (after b line.0 p) lines end

-- the first line that is not taken is refused so
abbrev pub StopsAt : TaskParts → Begun → List (ℕ × List ℕ) → ℕ × LineKind → Type 0
StopsAt task b [] f = ⊥
StopsAt task b (line ∷ lines) f = Refuses task b line f ⊎ ((p : Put) × Takes task b line p × StopsAt task (after b line.0 p) lines f)

-- ---- the whole file

-- what keeps an ordering from being closed stands at the line of the start that has no end, else at line 0
abbrev pub line_of_fault : List ℕ → OrderFault → ℕ
line_of_fault lines (order.OpenAction k) = slice_index lines (k - 1)
line_of_fault lines order.UnknownStep = 0
line_of_fault lines order.Running = 0
line_of_fault lines order.EndWithoutStart = 0
line_of_fault lines order.TilMissing = 0
line_of_fault lines order.TilOrder = 0
line_of_fault lines order.Cycle = 0
line_of_fault lines order.Limit = 0
line_of_fault lines order.Memory = 0

-- The text is an ordering file of the task that stands for this ordering, which is closed.
pub record IsOrderFile (task : TaskParts) (text : List ℕ) (o : Order) : Type 0 where
  pub end : Begun
  pub becomes : Becomes task nothing_yet (written_lines text) end
  pub order : o ≡ end.order
  pub closed : IsClosedOrdering task o

-- All lines are taken, but what comes of them isn't closed.
pub record IsLeftOpen (task : TaskParts) (text : List ℕ) (f : ℕ × LineKind) : Type 0 where
  pub end : Begun
  pub becomes : Becomes task nothing_yet (written_lines text) end
  pub fault : OrderFault
  pub lacks : closing_refusal task end.order ≡ Some fault
  pub told : f ≡ (line_of_fault end.lines fault, kind.Order fault)

-- The text is refused at its first line that is not taken, else for what isn't closed.
abbrev pub IsOrderRefusedAt : TaskParts → List ℕ → ℕ × LineKind → Type 0
IsOrderRefusedAt task text f = StopsAt task nothing_yet (written_lines text) f ⊎ IsLeftOpen task text f

-- A reader answers the ordering exactly where the text is an ordering file, and else where and why it is refused.
abbrev pub ReadsOrder : TaskParts → List ℕ → Result StepOrdering LineFault → Type 0
ReadsOrder task text (Ok o) = IsOrderFile task text (order_of o)
ReadsOrder task text (Err (At line k)) = IsOrderRefusedAt task text (line, k)
ReadsOrder task text (Err Memory) = Unit {0}
