-- Believed: what a check asks in turn, and the fault that it names where something isn't met.
use Rattle.std.specs.Prelude.{◌≡◌, List, [], ◌∷◌, ◌⊎◌, Bool, IsTrue, Result}
use Rattle.std.specs.Result.{MatchResult}

-- something that has to be met, and the fault where it isn't
pub record Duty (F : Type 0) : Type 1 where
  pub fault : F
  pub Met : Type 0

-- the duty that a test passes
abbrev pub duty : {F : Type 0} → F → Bool → Duty F
duty fault passed = record { fault = fault; Met = IsTrue passed }

abbrev pub AllMet : {F : Type 0} → List (Duty F) → Type 0
AllMet [] = Unit {0}
AllMet (d ∷ ds) = d.Met × AllMet ds

-- the first duty that isn't met has the fault f
abbrev pub IsFirstUnmet : {F : Type 0} → List (Duty F) → F → Type 0
IsFirstUnmet [] f = ⊥
IsFirstUnmet (d ∷ ds) f = ((¬ d.Met) × (d.fault ≡ f)) ⊎ (d.Met × IsFirstUnmet ds f)

-- the answer is Ok exactly where all duties are met, else the fault, as `named` names it, of the first that isn't
abbrev pub Judges : {A E F : Type 0} → Result A E → (E → F) → List (Duty F) → Type 0
Judges result named ds = MatchResult result (λ _. AllMet ds) (λ e. IsFirstUnmet ds (named e))

-- each duty is met or isn't
abbrev pub AllDecided : {F : Type 0} → List (Duty F) → Type 0
AllDecided [] = Unit {0}
AllDecided (d ∷ ds) = (d.Met ⊎ (¬ d.Met)) × AllDecided ds
