-- Believed: what a line of a plan file stands for, what is asked of it in turn, and what a plan file is.
use Rattle.std.specs.Prelude.{ℕ, ◌≡◌, ◌+◌, ◌<◌, ◌||◌, Bool, true, false, not, IsTrue, List, [], ◌∷◌, ◌++◌, Option, Some, None, option_to_list, is_some, Result, Ok, Err}
use Rattle.std.specs.List.{AllByRecursion}
use Rattle.basics.specs.Duties.{Duty, AllMet, IsFirstUnmet}
use Rattle.rational.specs.Rational.{ℚ}
use Rattle.exact_lin.specs.Reckoning.{wide_limit, Fits}
use Rattle.task_types.specs.declared.parts.TaskParts.{TaskParts}
use Rattle.task_types.specs.declared.plans.PlanLine.{PlanLine}
use Rattle.task_types.specs.Plan.{Plan, action_of}
use Rattle.timed_meaning.specs.TimedPlans.{line_limit, EndIsDefined}
use Rattle.plan_text.specs.Numbers.{Spells}
use Rattle.plan_files.specs.declared.faults.LineKind.{LineKind}
use Rattle.plan_files.specs.declared.faults.LineKind.TheVariants.{Shape, Number, Name, Unground, Limit, Wide}
use Rattle.plan_files.specs.declared.faults.LineFault.{LineFault}
use Rattle.plan_files.specs.declared.faults.LineFault.TheVariants.{At, Memory}
use Rattle.plan_files.specs.Lines.{written_lines}
use Rattle.plan_files.specs.PlanWords.{PlanWords, Says}
use Rattle.plan_files.specs.Names.{is_typed, action_named, names_durative}

-- the bytes stand for this number, whose parts in lowest terms do not pass 128 bits
abbrev pub StandsFor : List ℕ → ℚ → Type 0
StandsFor bytes q = Spells bytes q × Fits wide_limit q

abbrev pub IsNumber : List ℕ → Type 0
IsNumber bytes = (q : ℚ) × StandsFor bytes q

-- An action that takes time lasts as long as the bracket says; another has no duration, whatever the bracket says.
abbrev pub Lasts : Bool → Option (List ℕ) → Option ℚ → Type 0
Lasts true (Some d) (Some q) = StandsFor d q
Lasts true (Some d) None = ⊥
Lasts true None duration = ⊥
Lasts false bracket (Some q) = ⊥
Lasts false bracket None = Unit {0}

-- The words tell this line of a plan, which stands in the line of the text with this number.
pub record Tells (task : TaskParts) (number : ℕ) (w : PlanWords) (l : PlanLine) : Type 0 where
  pub action : action_named task w.name w.args ≡ Some l.action
  pub starts : StandsFor w.start l.at
  pub lasts : Lasts (is_some (action_of task l.action).end) w.duration l.duration
  pub line : l.line ≡ number

-- a bracket is there where the action that is named takes time
abbrev pub has_bracket : TaskParts → PlanWords → Bool
has_bracket task w = not (names_durative task w.name) || is_some w.duration

-- What is asked of a line in turn: that it has the form; that its numbers are numbers; that its action and objects are
-- there, as many and of such types as the action asks; and that grounding kept the action.
abbrev pub form_duties : TaskParts → ℕ × List ℕ → List (Duty (ℕ × LineKind))
form_duties task line =
    record { fault = (line.0, Shape); Met = (w : PlanWords) × Says line.1 w × IsTrue (has_bracket task w) }
    ∷ record { fault = (line.0, Number); Met = (w : PlanWords) → Says line.1 w → AllByRecursion IsNumber (w.start ∷ option_to_list w.duration) }
    ∷ record { fault = (line.0, Name); Met = (w : PlanWords) → Says line.1 w → IsTrue (is_typed task w.name w.args) }
    ∷ record { fault = (line.0, Unground); Met = (w : PlanWords) → Says line.1 w → IsTrue (is_some (action_named task w.name w.args)) }
    ∷ []

-- Then, k lines having been read before it, that there are not too many, and that its end is defined.
abbrev pub end_duties : TaskParts → ℕ → ℕ × List ℕ → List (Duty (ℕ × LineKind))
end_duties task k line =
    record { fault = (line.0, Limit); Met = k < line_limit }
    ∷ record { fault = (line.0, Wide); Met = (w : PlanWords) (l : PlanLine) → Says line.1 w → Tells task line.0 w l → EndIsDefined l }
    ∷ []

abbrev pub line_duties : TaskParts → ℕ → ℕ × List ℕ → List (Duty (ℕ × LineKind))
line_duties task k line = form_duties task line ++ end_duties task k line

-- the same of some lines, line by line
abbrev pub duties_from : TaskParts → ℕ → List (ℕ × List ℕ) → List (Duty (ℕ × LineKind))
duties_from task k [] = []
duties_from task k (line ∷ lines) = line_duties task k line ++ duties_from task (k + 1) lines

-- the lines of a plan are those that these lines of a text tell, one by one
abbrev pub TellEach : TaskParts → List (ℕ × List ℕ) → Plan → Type 0
TellEach task [] [] = Unit {0}
TellEach task [] (l ∷ ls) = ⊥
TellEach task (line ∷ lines) [] = ⊥
TellEach task (line ∷ lines) (l ∷ ls) = ((w : PlanWords) × Says line.1 w × Tells task line.0 w l) × TellEach task lines ls

-- The text is a plan file of the task that stands for this plan.
pub record IsPlanFile (task : TaskParts) (text : List ℕ) (plan : Plan) : Type 0 where
  pub met : AllMet (duties_from task 0 (written_lines text))
  pub tells : TellEach task (written_lines text) plan

-- The text is refused at this line, the least of which something that is asked isn't met, with the first such thing.
abbrev pub IsRefusedAt : TaskParts → List ℕ → ℕ × LineKind → Type 0
IsRefusedAt task text f = IsFirstUnmet (duties_from task 0 (written_lines text)) f

-- A reader answers the plan exactly where the text is a plan file, and else where and why it is refused.
abbrev pub ReadsPlan : TaskParts → List ℕ → Result Plan LineFault → Type 0
ReadsPlan task text (Ok plan) = IsPlanFile task text plan
ReadsPlan task text (Err (At line kind)) = IsRefusedAt task text (line, kind)
ReadsPlan task text (Err Memory) = Unit {0}
