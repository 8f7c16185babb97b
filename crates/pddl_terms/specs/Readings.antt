-- Believed: what it is to read a part of a text.
use Rattle.std.specs.Prelude.{◌≡◌, ◌⊎◌, ℕ, List, [], Result, IfOk, IfErr, MatchResult}
use Rattle.sexpr_text.specs.declared.token.TokenKind.{TokenKind}
use Rattle.sexpr_text.specs.declared.token.TokenKind.TheVariants.{Variable}
use Rattle.pddl_terms.specs.declared.faults.Kind.TheVariants.{Shape}
use Rattle.pddl_terms.specs.declared.faults.PddlFault.{PddlFault}
use Rattle.pddl_terms.specs.declared.faults.PddlFault.TheVariants.{At, Memory}
use Rattle.pddl_terms.specs.declared.grammar.Listed.{Listed}
use Rattle.pddl_terms.specs.declared.grammar.Listed.TheVariants.{Names, Variables}
use Rattle.pddl_terms.specs.declared.grammar.Rest.TheVariants.{Typed}
use Rattle.pddl_terms.specs.Content.{Content}
use Rattle.pddl_terms.specs.Shape.{wrong, kind_ahead, IsFirst}

-- The grammar derives what stands there as this tree: no place of it has the wrong shape, and it is the tree that is
-- told for what stands there.
pub record Derives {A : Type 0} (wrong_places : List ℕ) (told found : A) : Type 0 where
  pub shape : wrong_places ≡ []
  pub tree : found ≡ told

-- the fault of a call that does the shape phase alone: the first place of the wrong shape, or no memory
abbrev pub MayFail : List ℕ → PddlFault → Type 0
MayFail wrong_places (At Shape place) = IsFirst place wrong_places
MayFail wrong_places Memory = Unit {0}
MayFail wrong_places fault = ⊥

-- What a call answers that does the shape phase alone. Unless memory runs out, it is the tree that the grammar derives,
-- or else the first place of the wrong shape.
pub record Reads {A : Type 0} (wrong_places : List ℕ) (told : A) (result : Result A PddlFault) : Type 0 where
  pub read : IfOk result (Derives wrong_places told)
  pub fault : IfErr result (MayFail wrong_places)
  pub taken : (tree : A) → Derives wrong_places told tree → MatchResult result (λ found. found ≡ tree) (λ fault. fault ≡ Memory)
  pub refused : (place : ℕ) → IsFirst place wrong_places → MatchResult result (λ found. ⊥) (λ fault. (fault ≡ At Shape place) ⊎ (fault ≡ Memory))

-- a typed list is one of variables where a variable begins it, and else one of names
abbrev pub lists_of_kind : TokenKind → Listed
lists_of_kind Variable = Variables
lists_of_kind kind = Names

abbrev pub listed : Content → Listed
listed x = lists_of_kind (kind_ahead x)

-- the places of the wrong shape in a typed list, from the token on at which it begins
abbrev pub wrong_typed : Content → List ℕ
wrong_typed x = wrong (Typed (listed x)) x
