-- Private: a line of a plan file read part by part.
use Rattle.std.specs.Prelude.{ℕ, ◌≡◌, ◌<◌, ◌∷◌, [], ◌++◌, IsTrue, List, length, Option, Some, None, option_to_list, is_some, Result, Ok, Err}
use Rattle.std.specs.List.{AllByRecursion}
use Rattle.basics.specs.Duties.{AllMet, IsFirstUnmet}
use Rattle.rational.specs.Rational.{ℚ}
use Rattle.task_types.specs.declared.parts.TaskParts.{TaskParts}
use Rattle.task_types.specs.declared.plans.PlanLine.{PlanLine}
use Rattle.task_types.specs.Plan.{Plan, is_formed}
use Rattle.timed_meaning.specs.TimedPlans.{line_limit, EndIsDefined, IsBuiltFor}
use Rattle.plan_files.specs.declared.faults.LineKind.TheVariants.{Name, Unground, Limit, Wide}
use Rattle.plan_files.specs.declared.faults.LineFault.{LineFault}
use Rattle.plan_files.specs.declared.faults.LineFault.TheVariants.{At, Memory}
use Rattle.plan_files.specs.declared.plan_lines.LineParts.{LineParts}
use Rattle.plan_files.specs.declared.plan_lines.LineNumbers.{LineNumbers}
use Rattle.plan_files.specs.declared.words.PlanText.{PlanText}
use Rattle.plan_files.specs.PlanWords.{PlanWords, Says}
use Rattle.plan_files.specs.WordsSeen.{words_seen}
use Rattle.plan_files.specs.PlanFiles.{StandsFor, IsNumber, Tells, has_bracket, form_duties, line_duties}
use Rattle.plan_files.specs.Names.{is_typed, action_named}

-- the words of the line, with a bracket where one is needed; none where it has no such words
abbrev pub ReadsWords : TaskParts → List ℕ → Option PlanText → Type 0
ReadsWords task line (Some text) = Says line (words_seen text) × IsTrue (has_bracket task (words_seen text))
ReadsWords task line None = (w : PlanWords) → Says line w → IsTrue (has_bracket task w) → ⊥

-- what a bracket stands for; none where it is no number
abbrev pub ReadsBracket : Option (List ℕ) → Option (Option ℚ) → Type 0
ReadsBracket (Some d) (Some (Some q)) = StandsFor d q
ReadsBracket (Some d) (Some None) = ⊥
ReadsBracket (Some d) None = ¬ IsNumber d
ReadsBracket None (Some (Some q)) = ⊥
ReadsBracket None (Some None) = Unit {0}
ReadsBracket None None = ⊥

abbrev pub ReadsNumbers : PlanWords → Option LineNumbers → Type 0
ReadsNumbers w (Some n) = StandsFor w.start n.start × ReadsBracket w.duration (Some n.bracket)
ReadsNumbers w None = ¬ AllByRecursion IsNumber (w.start ∷ option_to_list w.duration)

-- the line of a plan with these parts
abbrev pub line_of : LineParts → ℕ → PlanLine
line_of p number = record { action = p.action; at = p.start; duration = p.duration; line = number }

-- The parts are those of a line, or the name and arguments are wrong.
abbrev pub ReadsParts : TaskParts → ℕ → PlanWords → Result LineParts LineFault → Type 0
ReadsParts task number w (Ok p) = IsTrue (is_typed task w.name w.args) × Tells task number w (line_of p number) × IsTrue (is_formed task (line_of p number))
ReadsParts task number w (Err (At n Name)) = (n ≡ number) × ¬ IsTrue (is_typed task w.name w.args)
ReadsParts task number w (Err (At n Unground)) = (n ≡ number) × IsTrue (is_typed task w.name w.args) × ¬ IsTrue (is_some (action_named task w.name w.args))
ReadsParts task number w (Err (At n kind)) = ⊥
ReadsParts task number w (Err Memory) = Unit {0}

-- The line has the form, and these parts; or it is refused for the first thing that is wrong.
abbrev pub ReadsLine : TaskParts → ℕ → List ℕ → Result LineParts LineFault → Type 0
ReadsLine task number line (Ok p) = AllMet (form_duties task (number, line)) × ((w : PlanWords) × Says line w × Tells task number w (line_of p number)) × IsTrue (is_formed task (line_of p number))
ReadsLine task number line (Err (At n kind)) = IsFirstUnmet (form_duties task (number, line)) (n, kind)
ReadsLine task number line (Err Memory) = Unit {0}

-- The line of these parts is put at the end; or there are too many lines, or its end is undefined.
abbrev pub PushesParts : TaskParts → Plan → Plan → ℕ → LineParts → Result Unit LineFault → Type 0
PushesParts task old new number p (Ok u) = (length old < line_limit) × EndIsDefined (line_of p number) × (new ≡ old ++ line_of p number ∷ []) × (IsBuiltFor task old → IsBuiltFor task new)
PushesParts task old new number p (Err (At n Limit)) = (n ≡ number) × ¬ (length old < line_limit)
PushesParts task old new number p (Err (At n Wide)) = (n ≡ number) × (length old < line_limit) × ¬ EndIsDefined (line_of p number)
PushesParts task old new number p (Err (At n kind)) = ⊥
PushesParts task old new number p (Err Memory) = Unit {0}

-- The line is put at the end of a plan that was built for the task; or it is refused, or memory ran out.
abbrev pub TakesLine : TaskParts → Plan → Plan → ℕ × List ℕ → Result Unit LineFault → Type 0
TakesLine task old new line (Ok u) = AllMet (line_duties task (length old) line) × ((l : PlanLine) × (new ≡ old ++ l ∷ []) × ((w : PlanWords) × Says line.1 w × Tells task line.0 w l)) × (IsBuiltFor task old → IsBuiltFor task new)
TakesLine task old new line (Err (At n kind)) = IsFirstUnmet (line_duties task (length old) line) (n, kind)
TakesLine task old new line (Err Memory) = Unit {0}
