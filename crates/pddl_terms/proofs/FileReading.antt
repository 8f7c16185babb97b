-- The answers of a call that reads a whole file.
use Rattle.std.proofs.Common.{◌≡◌, ◌⊎◌, ℕ, List, [], ◌∷◌, sym, ◌∙◌, ap, subst, inl, inr, refl, Option, Some, None, Ok, Err}
use Rattle.sexpr_text.specs.declared.fault.LexFault.{LexFault}
use Rattle.sexpr_text.specs.declared.fault.LexFault.TheVariants as lex
use Rattle.sexpr_text.specs.declared.token.Token.{Token}
use Rattle.sexpr_text.specs.Forms.{Lexed}
use Rattle.sexpr_text.specs.LexFault.{IsFirstFault, MayRefuse}
use Rattle.sexpr_text.specs.Token.{AreTokens}
use Rattle.sexpr_text.proofs.Unique.{one_list, no_fault, one_fault}
use Rattle.pddl_terms.specs.declared.faults.Kind.{Kind}
use Rattle.pddl_terms.specs.declared.faults.Kind.TheVariants.{Shape}
use Rattle.pddl_terms.specs.declared.faults.PddlFault.{PddlFault}
use Rattle.pddl_terms.specs.declared.faults.PddlFault.TheVariants.{Lex, At, Memory}
use Rattle.pddl_terms.specs.Shape.{IsFirst}
use Rattle.pddl_terms.specs.Files.{lexed, of_lexer, MayRefuseTokens, IsFile, IsWrongShape, IsWrongTree, IsFileFault, ReadsFile}
use Rattle.pddl_terms.proofs.Reading.{not_both, same_first}

-- a text with its tokens, by its two parts
pub by_parts : (forms : Lexed) (text : List ℕ) → forms.text ≡ text → forms ≡ lexed text forms.tokens
by_parts forms text e = ap (λ t. lexed t forms.tokens) e

-- the lexer's refusal, as one of a file
pub refuses-tokens : (text : List ℕ) (fault : LexFault) → MayRefuse text fault → MayRefuseTokens text (of_lexer fault)
refuses-tokens text (lex.Byte place) r = r
refuses-tokens text (lex.Open place) r = r
refuses-tokens text (lex.Close place) r = r
refuses-tokens text (lex.Deep place) r = r
refuses-tokens text (lex.LongName place) r = r
refuses-tokens text (lex.Number place) r = r
refuses-tokens text lex.Memory r = tt

module _ {A : Type 0} (wrong : Lexed → List ℕ) (told : Lexed → A) (later : A → Option PddlFault) (text : List ℕ) where
  Wrong : Kind → ℕ → Type 0
  Wrong kind place = IsWrongShape wrong told later text kind place ⊎ IsWrongTree wrong told later text kind place

  -- a text with a fault of its tokens is refused for nothing else
  no_other : (fault : LexFault) → IsFirstFault text fault → (kind : Kind) (place : ℕ) → Wrong kind place → ⊥
  unfolding Wrong
  no_other fault f kind place (inl w) = no_fault text w.tokens w.lexes fault f.fault
  no_other fault f kind place (inr w) = no_fault text w.tokens w.lexes fault f.fault

  pub file-memory : ReadsFile wrong told later text (Err Memory)
  file-memory = record { read = tt; fault = tt; taken = λ tree d. refl; refused = λ fault f. inr refl }

  file-lexer : (fault : LexFault) → IsFirstFault text fault → ReadsFile wrong told later text (Err (Lex fault))
  unfolding Wrong
  file-lexer fault f = record {
    read = tt;
    fault = f;
    taken = λ tree d. absurd (no_fault text d.tokens d.lexes fault f.fault);
    refused = refused;
  }
    where
      refused : (other : PddlFault) → IsFileFault wrong told later text other → (Lex fault ≡ other) ⊎ (Lex fault ≡ Memory)
      refused (Lex other) g = inl (ap Lex (one_fault text fault other f g))
      refused (At kind place) w = absurd (no_other fault f kind place w)
      refused Memory w = absurd w

  pub file-tokens : (fault : PddlFault) → MayRefuseTokens text fault → ReadsFile wrong told later text (Err fault)
  file-tokens (Lex fault) f = file-lexer fault f
  file-tokens (At kind place) f = absurd f
  file-tokens Memory f = file-memory

  -- the tokens of a text are one list
  module _ (tokens : List Token) (lexes : AreTokens text tokens) where
    same : (others : List Token) → AreTokens text others → lexed text others ≡ lexed text tokens
    same others o = ap (lexed text) (one_list text others tokens o lexes)

    pub file-shape : (place : ℕ) → IsFirst place (wrong (lexed text tokens)) → ReadsFile wrong told later text (Err (At Shape place))
    unfolding Wrong
    file-shape place first = record {
      read = tt;
      fault = inl (record { tokens = tokens; lexes = lexes; kind_is = refl; first = first });
      taken = λ tree d. absurd (not_both _ place (sym (ap wrong (same d.tokens d.lexes)) ∙ d.shape) first);
      refused = refused;
    }
      where
        refused : (other : PddlFault) → IsFileFault wrong told later text other → (At Shape place ≡ other) ⊎ (At Shape place ≡ Memory)
        refused (Lex other) g = absurd (no_fault text tokens lexes other g.fault)
        refused (At kind at) (inl w) =
            let here : IsFirst at (wrong (lexed text tokens)) = subst (λ l. IsFirst at (wrong l)) (same w.tokens w.lexes) w.first in
            inl (ap (At Shape) (same_first _ place at first here) ∙ ap (λ k. At k at) (sym w.kind_is))
        refused (At kind at) (inr w) = absurd (not_both _ place (sym (ap wrong (same w.tokens w.lexes)) ∙ w.shape) first)
        refused Memory w = absurd w

    module _ (shape : wrong (lexed text tokens) ≡ []) where
      pub file-tree : (found : A) → found ≡ told (lexed text tokens) → later found ≡ None → ReadsFile wrong told later text (Ok found)
      unfolding Wrong
      file-tree found e right = record {
        read = record { tokens = tokens; lexes = lexes; shape = shape; tree_is = e; right = right };
        fault = tt;
        taken = λ tree d. e ∙ ap told (sym (same d.tokens d.lexes)) ∙ sym d.tree_is;
        refused = refused;
      }
        where
          refused : (other : PddlFault) → IsFileFault wrong told later text other → ⊥
          refused (Lex other) g = no_fault text tokens lexes other g.fault
          refused (At kind at) (inl w) = not_both _ at (ap wrong (same w.tokens w.lexes) ∙ shape) w.first
          refused (At kind at) (inr w) =
              let none : ◌≡◌ {A = Option PddlFault} (Some (At kind at)) None = sym w.offence ∙ ap (λ l. later (told l)) (same w.tokens w.lexes) ∙ ap later (sym e) ∙ right in cc
          refused Memory w = w

      pub file-later : (kind : Kind) (place : ℕ) → later (told (lexed text tokens)) ≡ Some (At kind place) → ReadsFile wrong told later text (Err (At kind place))
      unfolding Wrong
      file-later kind place offence = record {
        read = tt;
        fault = inr (record { tokens = tokens; lexes = lexes; shape = shape; offence = offence });
        taken = λ tree d.
            let none : ◌≡◌ {A = Option PddlFault} (Some (At kind place)) None =
            sym offence ∙ ap (λ l. later (told l)) (sym (same d.tokens d.lexes)) ∙ ap later (sym d.tree_is) ∙ d.right in absurd cc;
        refused = refused;
      }
        where
          refused : (other : PddlFault) → IsFileFault wrong told later text other → (At kind place ≡ other) ⊎ (At kind place ≡ Memory)
          refused (Lex other) g = absurd (no_fault text tokens lexes other g.fault)
          refused (At k at) (inl w) = absurd (not_both _ at (ap wrong (same w.tokens w.lexes) ∙ shape) w.first)
          refused (At k at) (inr w) =
              let both : ◌≡◌ {A = Option PddlFault} (Some (At kind place)) (Some (At k at)) = sym offence ∙ ap (λ l. later (told l)) (sym (same w.tokens w.lexes)) ∙ w.offence in inl cc
          refused Memory w = absurd w
