-- A work in steps, each of which makes something or has a fault, comes to one end at most.
use Rattle.std.proofs.Common.{◌≡◌, inl, inr, sym, ◌∙◌, ap, subst, Result, Ok, Err}
use Rattle.planner_core.specs.Steps.{After}

-- a step makes one thing at most, has one fault at most, and not both
pub record IsFunctional {A F : Type 0} (Step : Result A F → Type 0) : Type 0 where
  pub made : (x y : A) → Step (Ok x) → Step (Ok y) → x ≡ y
  pub fault : (f g : F) → Step (Err f) → Step (Err g) → f ≡ g
  pub apart : (x : A) (f : F) → Step (Ok x) → Step (Err f) → ⊥

-- one thing at most is so
abbrev pub AreOne : {B : Type 0} → (B → Type 0) → Type 0
AreOne {B = B} P = (a b : B) → P a → P b → a ≡ b

module _ {A F B : Type 0} (Step : Result A F → Type 0) (told : F → B) (rest : A → B → Type 0) where
  pub after_one : IsFunctional Step → ((x : A) → AreOne (rest x)) → AreOne (After Step told rest)
  after_one one more a b (inl h) (inl k) = h.1.1 ∙ (ap told (one.fault h.0 k.0 h.1.0 k.1.0) ∙ sym k.1.1)
  after_one one more a b (inl h) (inr k) = absurd (one.apart k.0 h.0 k.1.0 h.1.0)
  after_one one more a b (inr h) (inl k) = absurd (one.apart h.0 k.0 h.1.0 k.1.0)
  after_one one more a b (inr h) (inr k) =
      more k.0 a b (subst (λ (x : A). rest x a) (one.made h.0 k.0 h.1.0 k.1.0) h.1.1) k.1.1
