-- Believed: what it is to read a whole file.
use Rattle.std.specs.Prelude.{◌≡◌, ◌⊎◌, ℕ, List, [], Option, Some, None, Result, IfOk, IfErr, MatchResult}
use Rattle.sexpr_text.specs.declared.fault.LexFault.{LexFault}
use Rattle.sexpr_text.specs.declared.fault.LexFault.TheVariants as lex
use Rattle.sexpr_text.specs.declared.token.Token.{Token}
use Rattle.sexpr_text.specs.Forms.{Lexed}
use Rattle.sexpr_text.specs.LexFault.{IsFirstFault}
use Rattle.sexpr_text.specs.Token.{AreTokens}
use Rattle.pddl_terms.specs.declared.faults.Kind.{Kind}
use Rattle.pddl_terms.specs.declared.faults.Kind.TheVariants.{Shape}
use Rattle.pddl_terms.specs.declared.faults.PddlFault.{PddlFault}
use Rattle.pddl_terms.specs.declared.faults.PddlFault.TheVariants.{Lex, At, Memory}
use Rattle.pddl_terms.specs.declared.grammar.DomainLine.TheVariants as of_domain
use Rattle.pddl_terms.specs.declared.grammar.ProblemLine.TheVariants as of_problem
use Rattle.pddl_terms.specs.declared.grammar.Line.TheVariants as line
use Rattle.pddl_terms.specs.declared.grammar.Rest.{Rest}
use Rattle.pddl_terms.specs.declared.grammar.Rest.TheVariants.{One}
use Rattle.pddl_terms.specs.Shape.{IsFirst}

-- the line of a whole domain, or of a whole problem, and nothing behind it
abbrev pub domain_file : Rest
domain_file = One (line.Domain of_domain.File)

abbrev pub problem_file : Rest
problem_file = One (line.Problem of_problem.File)

abbrev pub lexed : List ℕ → List Token → Lexed
lexed text tokens = record { text = text; tokens = tokens }

-- a fault of the tokens, where memory doesn't run out
abbrev pub of_lexer : LexFault → PddlFault
of_lexer lex.Memory = Memory
of_lexer fault = Lex fault

-- a call may refuse the tokens of the text so: by its first fault, or for want of memory
abbrev pub MayRefuseTokens : List ℕ → PddlFault → Type 0
MayRefuseTokens text (Lex fault) = IsFirstFault text fault
MayRefuseTokens text (At kind place) = ⊥
MayRefuseTokens text Memory = Unit {0}

-- What a file of some kind is: `wrong` are the places of the wrong shape in its tokens, `told` is the tree that they
-- tell where none is, and `later` what is wrong with a tree behind its shape, if something is.
module _ {A : Type 0} (wrong : Lexed → List ℕ) (told : Lexed → A) (later : A → Option PddlFault) (text : List ℕ) where
  -- the text is such a file, with this tree
  pub record IsFile (tree : A) : Type 0 where
    pub tokens : List Token
    pub lexes : AreTokens text tokens
    pub shape : wrong (lexed text tokens) ≡ []
    pub tree_is : tree ≡ told (lexed text tokens)
    pub right : later tree ≡ None

  -- The tokens have the wrong shape, and there first.
  pub record IsWrongShape (kind : Kind) (place : ℕ) : Type 0 where
    pub tokens : List Token
    pub lexes : AreTokens text tokens
    pub kind_is : kind ≡ Shape
    pub first : IsFirst place (wrong (lexed text tokens))

  -- The tokens have the right shape, and this is wrong with their tree.
  pub record IsWrongTree (kind : Kind) (place : ℕ) : Type 0 where
    pub tokens : List Token
    pub lexes : AreTokens text tokens
    pub shape : wrong (lexed text tokens) ≡ []
    pub offence : later (told (lexed text tokens)) ≡ Some (At kind place)

  -- this is wrong with the text before all else
  abbrev pub IsFileFault : PddlFault → Type 0
  IsFileFault (Lex fault) = IsFirstFault text fault
  IsFileFault (At kind place) = IsWrongShape kind place ⊎ IsWrongTree kind place
  IsFileFault Memory = ⊥

  -- a call may refuse the text so
  abbrev pub MayRefuseFile : PddlFault → Type 0
  MayRefuseFile Memory = Unit {0}
  MayRefuseFile fault = IsFileFault fault

  -- What a call answers that reads such a file. Unless memory runs out, it is the tree where the text is such a file,
  -- and else what is wrong with it before all else.
  pub record ReadsFile (result : Result A PddlFault) : Type 0 where
    pub read : IfOk result IsFile
    pub fault : IfErr result MayRefuseFile
    pub taken : (tree : A) → IsFile tree → MatchResult result (λ found. found ≡ tree) (λ fault. fault ≡ Memory)
    pub refused : (fault : PddlFault) → IsFileFault fault → MatchResult result (λ found. ⊥) (λ f. (f ≡ fault) ⊎ (f ≡ Memory))
