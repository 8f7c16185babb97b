-- Believed: what may follow in a list of a problem.
--   problem = ( define ( problem NAME ) ( :domain NAME ) psec* )
--   psec    = ( :requirements KEYWORD* ) | ( :objects typed ) | ( :init init* ) | ( :goal goal ) | ( :constraints con )
--           | ( :time-costs late* ) | ( :metric dir mexpr )          dir = minimize | maximize
--   init    = atom | ( not atom ) | ( = fluent NUMBER ) | ( at NUMBER atom ) | ( at NUMBER ( not atom ) )
--   late    = ( NAME tree NUMBER NUMBER NUMBER ) | ( NAME tree piece+ )          piece = ( NUMBER NUMBER NUMBER )
-- Every section stands once at most but those that are left out; `:init` and `:goal` have to stand.
use Rattle.std.specs.Prelude.{ℕ, Bool, true, false, ◌||◌, ◌&&◌, List, Option, Some, None, if◌then◌else◌}
use lib.Chars.{codes}
use Rattle.sexpr_text.specs.declared.token.TokenKind.{TokenKind}
use Rattle.pddl_terms.specs.declared.problem_heads.InitHead.{InitHead}
use Rattle.pddl_terms.specs.declared.problem_heads.InitHead.TheVariants as init
use Rattle.pddl_terms.specs.declared.problem_heads.ProblemHead.{ProblemHead}
use Rattle.pddl_terms.specs.declared.problem_heads.ProblemHead.TheVariants as section
use Rattle.pddl_terms.specs.declared.grammar.ProblemGiven.{ProblemGiven}
use Rattle.pddl_terms.specs.declared.grammar.ProblemLine.{ProblemLine}
use Rattle.pddl_terms.specs.declared.grammar.ProblemLine.TheVariants as of_problem
use Rattle.pddl_terms.specs.declared.grammar.ProblemRest.{ProblemRest}
use Rattle.pddl_terms.specs.declared.grammar.ProblemRest.TheVariants as problem
use Rattle.pddl_terms.specs.declared.grammar.Line.TheVariants as line
use Rattle.pddl_terms.specs.declared.grammar.Listed.TheVariants.{Names}
use Rattle.pddl_terms.specs.declared.grammar.Rest.{Rest}
use Rattle.pddl_terms.specs.declared.grammar.Rest.TheVariants.{One, Two, Many, Skipped, Typed, Whole, Problem}
use Rattle.pddl_terms.specs.Words.{same_word, is_left_out, is_name, is_variable, is_number}
use Rattle.pddl_terms.specs.Grammar.{only_if, problem_after}
use Rattle.pddl_terms.specs.Typed.{named}
use Rattle.pddl_terms.specs.Goals.{goal_head, goal_rest, soft_head, soft_rest, soft_denied_rest, measure_head, measure_rest}

-- Sections.

-- what a word begins as a section
unfoldable pub problem_head : List ℕ → ProblemHead
problem_head word =
    if is_left_out word then section.LeftOut
    else (if same_word word (codes ":requirements") then section.Requirements
    else (if same_word word (codes ":objects") then section.Objects
    else (if same_word word (codes ":init") then section.Init
    else (if same_word word (codes ":goal") then section.Goal
    else (if same_word word (codes ":constraints") then section.Constraints
    else (if same_word word (codes ":time-costs") then section.TimeCosts
    else (if same_word word (codes ":metric") then section.Metric
    else section.Unknown)))))))

abbrev pub problem_section_rest : ProblemHead → Option Rest
problem_section_rest section.LeftOut = Some Skipped
problem_section_rest section.Requirements = Some (Many line.Keyword)
problem_section_rest section.Objects = Some (Typed Names)
problem_section_rest section.Init = Some (Many (line.Problem of_problem.Init))
problem_section_rest section.Goal = Some (One (line.Problem of_problem.Goal))
problem_section_rest section.Constraints = Some (One line.Con)
problem_section_rest section.TimeCosts = Some (Many (line.Problem of_problem.TimeCost))
problem_section_rest section.Metric = Some (Problem problem.Metric)
problem_section_rest section.Unknown = None

-- whether a section that stands once at most has been given
abbrev pub is_given : ProblemGiven → ProblemHead → Bool
is_given given section.LeftOut = false
is_given given section.Requirements = given.requirements
is_given given section.Objects = given.objects
is_given given section.Init = given.init
is_given given section.Goal = given.goal
is_given given section.Constraints = given.constraints
is_given given section.TimeCosts = given.time_costs
is_given given section.Metric = given.metric
is_given given section.Unknown = false

-- the sections that are given, with one more
abbrev pub and_given : ProblemGiven → ProblemHead → ProblemGiven
and_given given section.LeftOut = given
and_given given section.Requirements = record given { requirements = true }
and_given given section.Objects = record given { objects = true }
and_given given section.Init = record given { init = true }
and_given given section.Goal = record given { goal = true }
and_given given section.Constraints = record given { constraints = true }
and_given given section.TimeCosts = record given { time_costs = true }
and_given given section.Metric = record given { metric = true }
and_given given section.Unknown = given

-- Entries.

-- what a word begins in `:init`
unfoldable pub init_head : List ℕ → InitHead
init_head word =
    if is_left_out word then init.LeftOut
    else (if same_word word (codes "not") then init.Not
    else (if same_word word (codes "=") then init.Value
    else (if same_word word (codes "at") then init.At
    else init.Named)))

abbrev pub init_rest : InitHead → TokenKind → Option Rest
init_rest init.LeftOut kind = Some Skipped
init_rest init.Not kind = Some (One line.Atom)
init_rest init.Value kind = Some (Two line.Fluent line.Number)
init_rest init.At kind = Some (Problem problem.AtInit)
init_rest init.Named kind = named kind

-- what a timed literal makes true or false
abbrev pub literal_rest : InitHead → TokenKind → Option Rest
literal_rest init.LeftOut kind = Some Skipped
literal_rest init.Not kind = Some (One line.Atom)
literal_rest init.Value kind = named kind
literal_rest init.At kind = named kind
literal_rest init.Named kind = named kind

-- behind `at`: a moment, or the first term
abbrev pub at_init : TokenKind → Option Rest
at_init kind = if is_number kind then Some (One (line.Problem of_problem.Literal)) else only_if (is_name kind || is_variable kind) (Many line.Term)

-- ( NAME tree .. )
abbrev pub time_cost_rest : List ℕ → TokenKind → Option Rest
time_cost_rest word kind = if is_left_out word then Some Skipped else only_if (is_name kind) (Problem problem.CostFormula)

-- ( NUMBER NUMBER NUMBER )
abbrev pub piece_rest : List ℕ → TokenKind → Option Rest
piece_rest word kind = if is_left_out word then Some Skipped else only_if (is_number kind) (Two line.Number line.Number)

-- What may follow a first word.

unfoldable pub problem_begins : ProblemLine → List ℕ → TokenKind → Option Rest
problem_begins of_problem.File word kind = only_if (same_word word (codes "define")) (Problem problem.Heading)
problem_begins of_problem.Heading word kind = only_if (same_word word (codes "problem")) (One line.Name)
problem_begins of_problem.DomainName word kind = only_if (same_word word (codes ":domain")) (One line.Name)
problem_begins of_problem.Section word kind = problem_section_rest (problem_head word)
problem_begins of_problem.Init word kind = init_rest (init_head word) kind
problem_begins of_problem.Literal word kind = literal_rest (init_head word) kind
problem_begins of_problem.Goal word kind = goal_rest (goal_head word) kind
problem_begins of_problem.Soft word kind = soft_rest (soft_head word) kind
problem_begins of_problem.SoftDenied word kind = soft_denied_rest (soft_head word) kind
problem_begins of_problem.TimeCost word kind = time_cost_rest word kind
problem_begins of_problem.Piece word kind = piece_rest word kind
problem_begins of_problem.Measure word kind = measure_rest (measure_head word) kind

abbrev pub problem_stands : ProblemLine → TokenKind → Bool
problem_stands of_problem.Measure kind = is_name kind || is_number kind
problem_stands l kind = false

-- whether ( ) is a list of the line
abbrev pub problem_may_be_empty : ProblemLine → Bool
problem_may_be_empty of_problem.Goal = true
problem_may_be_empty of_problem.Soft = true
problem_may_be_empty of_problem.SoftDenied = true
problem_may_be_empty l = false

-- What may follow in a list.

abbrev pub problem_may_end : ProblemRest → Bool
problem_may_end (problem.Sections given) = given.init && given.goal
problem_may_end problem.AtInit = true
problem_may_end r = false

unfoldable pub problem_takes : ProblemRest → List ℕ → TokenKind → Option Rest
problem_takes problem.AtInit word kind = at_init kind
problem_takes problem.CostCurve word kind = only_if (is_number kind) (Two line.Number line.Number)
problem_takes problem.Metric word kind =
    only_if (same_word word (codes "minimize") || same_word word (codes "maximize")) (One (line.Problem of_problem.Measure))
problem_takes r word kind = None

-- no section twice of those that stand once at most
abbrev pub problem_section_enters : ProblemGiven → List ℕ → Option Rest
problem_section_enters given first = if is_given given (problem_head first) then None else Some (Whole (line.Problem of_problem.Section))

abbrev pub problem_leaves : ProblemRest → List ℕ → Rest
problem_leaves (problem.Sections given) first = Problem (problem.Sections (and_given given (problem_head first)))
problem_leaves r first = problem_after r
