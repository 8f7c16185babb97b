-- Believed: what refusals of texts, of ground tasks and of lines say.
use Rattle.std.specs.Prelude.{ℕ, List, ◌++◌, codes, decimal, Option, Some, None}
use Rattle.sexpr_text.specs.declared.fault.LexFault.{LexFault}
use Rattle.sexpr_text.specs.declared.fault.LexFault.TheVariants as lex
use Rattle.pddl_terms.specs.declared.faults.PddlFault.{PddlFault}
use Rattle.pddl_terms.specs.declared.faults.PddlFault.TheVariants as pddl
use Rattle.grounder.specs.declared.faults.GroundFault.{GroundFault}
use Rattle.grounder.specs.declared.faults.GroundFault.TheVariants as ground
use Rattle.ordering.specs.declared.faults.OrderFault.{OrderFault}
use Rattle.ordering.specs.declared.faults.OrderFault.TheVariants as order
use Rattle.plan_files.specs.declared.faults.LineFault.{LineFault}
use Rattle.plan_files.specs.declared.faults.LineFault.TheVariants as fault
use Rattle.plan_files.specs.declared.faults.LineKind.{LineKind}
use Rattle.plan_files.specs.declared.faults.LineKind.TheVariants as line
use Rattle.reply_text.specs.Words.{kind_word, limit_word}

-- a file, or the ground task, is refused for this at this place
abbrev pub refused_at : (what word unit : List ℕ) → ℕ → List ℕ
refused_at what word unit place =
    codes "refused " ++ what ++ codes " " ++ word ++ codes " at " ++ unit ++ codes " " ++ decimal place ++ codes "\n"

-- A domain or a problem is refused at a byte; nothing is said where memory ran out.
abbrev pub lexed_text : List ℕ → LexFault → Option (List ℕ)
lexed_text file (lex.Byte place) = Some (refused_at file (codes "Byte") (codes "byte") place)
lexed_text file (lex.Open place) = Some (refused_at file (codes "Open") (codes "byte") place)
lexed_text file (lex.Close place) = Some (refused_at file (codes "Close") (codes "byte") place)
lexed_text file (lex.Deep place) = Some (refused_at file (codes "Deep") (codes "byte") place)
lexed_text file (lex.LongName place) = Some (refused_at file (codes "LongName") (codes "byte") place)
lexed_text file (lex.Number place) = Some (refused_at file (codes "Number") (codes "byte") place)
lexed_text file lex.Memory = None

abbrev pub pddl_text : List ℕ → PddlFault → Option (List ℕ)
pddl_text file (pddl.Lex fault) = lexed_text file fault
pddl_text file (pddl.At kind place) = Some (refused_at file (kind_word kind) (codes "byte") place)
pddl_text file pddl.Memory = None

-- A ground task is refused for a limit, or at a byte of the domain or the problem.
abbrev pub ground_text : GroundFault → Option (List ℕ)
ground_text (ground.Limit name) = Some (codes "refused ground " ++ limit_word name ++ codes "\n")
ground_text (ground.Wide place) = Some (refused_at (codes "ground") (codes "Wide") (codes "byte") place)
ground_text (ground.NoValue place) = Some (refused_at (codes "ground") (codes "NoValue") (codes "byte") place)
ground_text ground.Memory = None

-- a line whose end passes 128 bits
abbrev pub wide_line : ℕ → List ℕ
wide_line number = codes "wide line " ++ decimal number ++ codes "\n"

-- An ordering refuses what a line puts, or isn't closed.
abbrev pub order_text : List ℕ → ℕ → OrderFault → Option (List ℕ)
order_text file number order.UnknownStep = Some (refused_at file (codes "UnknownStep") (codes "line") number)
order_text file number order.Running = Some (refused_at file (codes "Running") (codes "line") number)
order_text file number order.EndWithoutStart = Some (refused_at file (codes "EndWithoutStart") (codes "line") number)
order_text file number (order.OpenAction line) = Some (refused_at file (codes "OpenAction") (codes "line") number)
order_text file number order.TilMissing = Some (refused_at file (codes "TilMissing") (codes "line") number)
order_text file number order.TilOrder = Some (refused_at file (codes "TilOrder") (codes "line") number)
order_text file number order.Cycle = Some (refused_at file (codes "Cycle") (codes "line") number)
order_text file number order.Limit = Some (refused_at file (codes "Limit") (codes "line") number)
order_text file number order.Memory = None

-- A plan file or an ordering file is refused at a line; a line whose end passes 128 bits is no refusal of the file.
abbrev pub line_text : List ℕ → LineFault → Option (List ℕ)
line_text file (fault.At number line.Shape) = Some (refused_at file (codes "Shape") (codes "line") number)
line_text file (fault.At number line.Number) = Some (refused_at file (codes "Number") (codes "line") number)
line_text file (fault.At number line.Name) = Some (refused_at file (codes "Name") (codes "line") number)
line_text file (fault.At number line.Unground) = Some (refused_at file (codes "Unground") (codes "line") number)
line_text file (fault.At number line.Limit) = Some (refused_at file (codes "Limit") (codes "line") number)
line_text file (fault.At number line.Wide) = Some (wide_line number)
line_text file (fault.At number (line.Order f)) = order_text file number f
line_text file fault.Memory = None
