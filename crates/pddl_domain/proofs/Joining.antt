-- The phases one after the other, and a file behind its shape.
use Rattle.std.proofs.Common.{◌≡◌, ◌⊎◌, ℕ, List, [], ◌∷◌, sym, ◌∙◌, ap, subst, inl, inr, Option, Some, None, Ok, Err}
use Rattle.sexpr_text.specs.Forms.{Lexed}
use Rattle.pddl_terms.specs.declared.faults.Kind.{Kind}
use Rattle.pddl_terms.specs.declared.faults.PddlFault.{PddlFault}
use Rattle.pddl_terms.specs.declared.faults.PddlFault.TheVariants.{Lex, At, Memory}
use Rattle.pddl_terms.specs.Files.{MayRefuseFile, IsFile, IsFileFault, IsWrongShape, IsWrongTree, ReadsFile}
use Rattle.pddl_terms.proofs.FileReading.{file-tokens, file-shape, file-tree, file-later, file-memory}
use Rattle.pddl_names.specs.declared.offences.Offence.{Offence}
use Rattle.pddl_names.specs.Offences.{least}
use Rattle.pddl_domain.specs.Phases.{or_later, first_of_phases}

-- a phase with an offence, or one without before the others
module _ (phase : List Offence) (later : List (List Offence)) where
  pub in_phase : (o : Offence) → Some o ≡ least phase → Some o ≡ first_of_phases (phase ∷ later)
  in_phase o e = ap (λ n. or_later n (first_of_phases later)) e

  pub past_phase : (found : Option Offence) → None ≡ least phase → found ≡ first_of_phases later → found ≡ first_of_phases (phase ∷ later)
  past_phase found e f = f ∙ ap (λ n. or_later n (first_of_phases later)) e

pub last_phase : (phase : List Offence) (found : Option Offence) → found ≡ least phase → found ≡ first_of_phases (phase ∷ [])
last_phase phase None e = ap (λ n. or_later n None) e
last_phase phase (Some o) e = ap (λ n. or_later n None) e

-- A call that has read a file as far as its shape says, and what it answers behind.
module _ {A : Type 0} (wrong : Lexed → List ℕ) (told : Lexed → A) (later : A → Option PddlFault) (text : List ℕ) where
  abbrev no_more : A → Option PddlFault
  no_more tree = None

  pub accepted : (tree : A) → ReadsFile wrong told no_more text (Ok tree) → later tree ≡ None → ReadsFile wrong told later text (Ok tree)
  accepted tree r e = let f : IsFile wrong told no_more text tree = r.read in file-tree wrong told later text f.tokens f.lexes f.shape tree f.tree_is e

  pub offended : (tree : A) (kind : Kind) (place : ℕ) → ReadsFile wrong told no_more text (Ok tree) → later tree ≡ Some (At kind place)
      → ReadsFile wrong told later text (Err (At kind place))
  offended tree kind place r e = let f : IsFile wrong told no_more text tree = r.read in
      file-later wrong told later text f.tokens f.lexes f.shape kind place (ap later (sym f.tree_is) ∙ e)

  of_shape : (kind : Kind) (place : ℕ) → IsWrongShape wrong told no_more text kind place ⊎ IsWrongTree wrong told no_more text kind place
      → ReadsFile wrong told later text (Err (At kind place))
  of_shape kind place (inl w) = subst (λ (k : Kind). ReadsFile wrong told later text (Err (At k place))) (sym w.kind_is) (file-shape wrong told later text w.tokens w.lexes place w.first)
  of_shape kind place (inr w) = let none : ◌≡◌ {A = Option PddlFault} None (Some (At kind place)) = w.offence in absurd cc

  of_fault : (fault : PddlFault) → MayRefuseFile wrong told no_more text fault → ReadsFile wrong told later text (Err fault)
  of_fault (Lex fault) f = file-tokens wrong told later text (Lex fault) f
  of_fault (At kind place) f = of_shape kind place f
  of_fault Memory f = file-memory wrong told later text

  pub misshapen : (fault : PddlFault) → ReadsFile wrong told no_more text (Err fault) → ReadsFile wrong told later text (Err fault)
  misshapen fault r = of_fault fault r.fault

  -- A text is one file at most, and has one fault at most, and not both.

  pub one_tree : (tree other : A) → IsFile wrong told later text tree → IsFile wrong told later text other → tree ≡ other
  one_tree tree other f g = (file-tree wrong told later text f.tokens f.lexes f.shape tree f.tree_is f.right).taken other g

  pub no_fault : (tree : A) (fault : PddlFault) → IsFile wrong told later text tree → IsFileFault wrong told later text fault → ⊥
  no_fault tree fault f g = (file-tree wrong told later text f.tokens f.lexes f.shape tree f.tree_is f.right).refused fault g

  by_place : (kind : Kind) (place : ℕ) → IsWrongShape wrong told later text kind place ⊎ IsWrongTree wrong told later text kind place
      → ReadsFile wrong told later text (Err (At kind place))
  by_place kind place (inl w) = subst (λ (k : Kind). ReadsFile wrong told later text (Err (At k place))) (sym w.kind_is) (file-shape wrong told later text w.tokens w.lexes place w.first)
  by_place kind place (inr w) = file-later wrong told later text w.tokens w.lexes w.shape kind place w.offence

  not_memory : {fault : PddlFault} → (fault ≡ Memory) → IsFileFault wrong told later text fault → ⊥
  not_memory {fault} e f = subst (λ (x : PddlFault). IsFileFault wrong told later text x) e f

  left : {fault other : PddlFault} → (fault ≡ other) ⊎ (fault ≡ Memory) → IsFileFault wrong told later text fault → fault ≡ other
  left (inl e) f = e
  left (inr e) f = absurd (not_memory e f)

  pub one_fault : (fault other : PddlFault) → IsFileFault wrong told later text fault → IsFileFault wrong told later text other → fault ≡ other
  one_fault (Lex fault) other f g = left ((file-tokens wrong told later text (Lex fault) f).refused other g) f
  one_fault (At kind place) other f g = left ((by_place kind place f).refused other g) f
  one_fault Memory other f g = absurd f
