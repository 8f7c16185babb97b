-- The answers of a call that does the shape phase alone.
use Rattle.std.proofs.Common.{◌≡◌, ℕ, List, [], ◌∷◌, sym, ◌∙◌, inl, inr, refl, Ok, Err, ap}
use Rattle.pddl_terms.specs.declared.faults.Kind.TheVariants.{Shape}
use Rattle.pddl_terms.specs.declared.faults.PddlFault.{PddlFault}
use Rattle.pddl_terms.specs.declared.faults.PddlFault.TheVariants.{At, Memory}
use Rattle.pddl_terms.specs.Shape.{IsFirst}
use Rattle.pddl_terms.specs.Readings.{Reads}

pub not_both : (places : List ℕ) (place : ℕ) → places ≡ [] → IsFirst place places → ⊥
not_both places place e f = let both : ◌≡◌ {A = List ℕ} [] (place ∷ f.0) = sym e ∙ f.1 in cc

pub same_first : (places : List ℕ) (place other : ℕ) → IsFirst place places → IsFirst other places → place ≡ other
same_first places place other f g = let both : ◌≡◌ {A = List ℕ} (place ∷ f.0) (other ∷ g.0) = sym f.1 ∙ g.1 in cc

module _ {A : Type 0} (places : List ℕ) (told : A) where
  pub reads-tree : (found : A) → places ≡ [] → found ≡ told → Reads places told (Ok found)
  reads-tree found e f = record {
    read = record { shape = e; tree = f };
    fault = tt;
    taken = λ tree d. f ∙ sym d.tree;
    refused = λ place first. not_both places place e first;
  }

  pub reads-shape : (place : ℕ) → IsFirst place places → Reads places told (Err (At Shape place))
  reads-shape place first = record {
    read = tt;
    fault = first;
    taken = λ tree d. absurd (not_both places place d.shape first);
    refused = λ other g. inl (ap (At Shape) (same_first places place other first g));
  }

  pub reads-memory : (fault : PddlFault) → fault ≡ Memory → Reads places told (Err fault)
  reads-memory fault e = rw e (record {
    read = tt;
    fault = tt;
    taken = λ tree d. refl;
    refused = λ place first. inr refl;
  })
