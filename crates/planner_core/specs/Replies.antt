-- Believed: the replies that every command may give, and the codes of their statuses.
use Rattle.std.specs.Prelude.{ℕ, List, ◌++◌, codes, decimal}
use Rattle.planner_core.specs.declared.status.Status.{Status}
use Rattle.planner_core.specs.declared.status.Status.TheVariants.{Done, Negative, Usage, Refused, Budget, ReadFault, WriteFault, NoMemory}
use Rattle.planner_core.specs.declared.reply.Role.{Role}
use Rattle.planner_core.specs.declared.reply.Role.TheVariants.{Domain, Problem, Plan}

-- the exit status of the program
abbrev pub code_of : Status → ℕ
code_of Done = 0
code_of Negative = 1
code_of Usage = 2
code_of Refused = 3
code_of Budget = 4
code_of ReadFault = 5
code_of WriteFault = 6
code_of NoMemory = 7

-- what a reply says: its text, and the status that the program ends with once it is written
pub record Said : Type 0 where
  pub status : Status
  pub text : List ℕ

-- the word for a file in a refusal
abbrev pub role_word : Role → List ℕ
role_word Domain = codes "domain"
role_word Problem = codes "problem"
role_word Plan = codes "plan"

-- the words are no command's
abbrev pub usage : Said
usage = record {
  status = Usage;
  text = codes "usage: fluxplan validate or schedule or plan or check or demo\n";
}

-- the fetch of this name failed
abbrev pub read_fault : List ℕ → Said
read_fault name = record { status = ReadFault; text = codes "read fault " ++ name ++ codes "\n" }

-- this file is longer than the longest that is read; so many of its bytes were taken
abbrev pub too_long : Role → ℕ → Said
too_long role count = record {
  status = Refused;
  text = codes "refused " ++ role_word role ++ codes " Long " ++ decimal count ++ codes "\n";
}

-- a status that an answer to texts may have
abbrev pub IsAnswerStatus : Status → Type 0
IsAnswerStatus Done = Unit {0}
IsAnswerStatus Negative = Unit {0}
IsAnswerStatus Refused = Unit {0}
IsAnswerStatus Budget = Unit {0}
IsAnswerStatus Usage = ⊥
IsAnswerStatus ReadFault = ⊥
IsAnswerStatus WriteFault = ⊥
IsAnswerStatus NoMemory = ⊥
