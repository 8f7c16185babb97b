-- The operands of a list, one more expression.
use Rattle.std.proofs.Common.{◌≡◌, refl, sym, ap, ap₂, ◌∙◌, ℕ, ◌+◌, ◌<◌, List, [], ◌∷◌, ◌++◌, map, length, take, get_or, Option, Some, None, append_assoc}
use Rattle.std.specs.List.{flat_map}
use Rattle.std.proofs.lemmas.List.{map-append, append-nil}
use Rattle.std.proofs.lemmas.List.Concat.{flat_map-append}
use Rattle.exact_lin.specs.Forms.{LinearForm}
use Rattle.ground_world.specs.World.{either}
use Rattle.ground_world.specs.declared.operations.Flaw.{Flaw}
use Rattle.ground_world.specs.Expressions.{Reckoned, all_values}
use Rattle.ground_world.specs.Operations.{joined}
use Rattle.ground_world.proofs.Steps.{taken}

joined-cons : (f : LinearForm) (o : Option (List LinearForm)) (v : Option LinearForm)
    → joined (either None (λ fs. Some (f ∷ fs)) o) v ≡ either None (λ fs. Some (f ∷ fs)) (joined o v)
joined-cons f None v = refl
joined-cons f (Some fs) None = refl
joined-cons f (Some fs) (Some g) = refl

one_by : (v : Option LinearForm) → either None (λ f. either None (λ fs. Some (f ∷ fs)) (Some [])) v ≡ joined (Some []) v
one_by None = refl
one_by (Some f) = refl

cons_by : (before after : Option (List LinearForm)) (w v : Option LinearForm) → after ≡ joined before w
    → either None (λ f. either None (λ fs. Some (f ∷ fs)) after) v
    ≡ joined (either None (λ f. either None (λ fs. Some (f ∷ fs)) before) v) w
cons_by before after w None h = refl
cons_by before after w (Some f) h = ap (either None (λ fs. Some (f ∷ fs))) h ∙ sym (joined-cons f before w)

pub all_values-more : (rs : List Reckoned) (r : Reckoned) → all_values (rs ++ (r ∷ [])) ≡ joined (all_values rs) r.value
all_values-more [] r = one_by r.value
all_values-more (q ∷ rs) r = cons_by (all_values rs) (all_values (rs ++ (r ∷ []))) r.value q.value (all_values-more rs r)

module _ {X : Type 0} (f : X → Reckoned) (xs : List X) (i : ℕ) (x : X) (lt : i < length xs) (at : x ≡ get_or xs i x) where
  mapped : map f (take (i + 1) xs) ≡ map f (take i xs) ++ (f x ∷ [])
  mapped = ap (map f) (taken xs i x lt at) ∙ map-append f (take i xs) (x ∷ [])

  pub one_value_more : (before after : Option (List LinearForm)) (v : Option LinearForm)
      → before ≡ all_values (map f (take i xs)) → v ≡ (f x).value → after ≡ joined before v
      → after ≡ all_values (map f (take (i + 1) xs))
  one_value_more before after v h k a =
      a ∙ ap₂ joined h k ∙ sym (all_values-more (map f (take i xs)) (f x)) ∙ ap all_values (sym mapped)

  pub flaws_more : (old before after : List Flaw)
      → before ≡ old ++ flat_map (λ (r : Reckoned). r.flaws) (map f (take i xs)) → after ≡ before ++ (f x).flaws
      → after ≡ old ++ flat_map (λ (r : Reckoned). r.flaws) (map f (take (i + 1) xs))
  flaws_more old before after h a =
      a ∙ ap (λ l. l ++ (f x).flaws) h ∙ append_assoc old _ _
      ∙ ap (λ l. old ++ l) (ap (λ l. flat_map (λ (r : Reckoned). r.flaws) (map f (take i xs)) ++ l) (sym (append-nil (f x).flaws))
      ∙ sym (flat_map-append (λ (r : Reckoned). r.flaws) (map f (take i xs)) (f x ∷ []))
      ∙ ap (flat_map (λ (r : Reckoned). r.flaws)) (sym mapped))
