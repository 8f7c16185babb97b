-- States told by lists, and tellings joined.
use Rattle.std.proofs.Common.{◌≡◌, refl, ap, ◌∙◌, ℕ, zero, suc, Bool, List, [], ◌∷◌, ◌++◌, map, take, drop}
use Rattle.std.specs.Prelude.{slice_index_or, Result, Ok, Err}
use Rattle.std.specs.List.{AllByRecursion, flat_map}
use Rattle.rational.specs.Rational.{ℚ, zeroℚ}
use Rattle.exact_lin.specs.Reckonings.{Reckoning}
use Rattle.exact_lin.specs.declared.faults.FormFault.{FormFault}
use Rattle.exact_lin.specs.declared.faults.FormFault.TheVariants.{Wide, Memory}
use Rattle.task_types.specs.declared.parts.TaskParts.{TaskParts}
use Rattle.task_types.specs.State.{State}
use Rattle.timed_meaning.specs.Answers.{told, Defined, Tells, Facts, Fluents}

-- two lists that tell the facts and the fluents of a state tell the state
pub told-is : (task : TaskParts) (facts : List Bool) (fluents : List ℚ) (s : State) → Facts task facts s → Fluents task fluents s → told facts fluents ≡ s
told-is task facts fluents s f g = ap (λ (h : ℕ → Bool). let r : State = record { facts = h; fluents = λ f. slice_index_or fluents f zeroℚ } in r) f.tells
    ∙ ap (λ (h : ℕ → ℚ). let r : State = record { facts = s.facts; fluents = h } in r) g.tells

pub flat_map-map : {X Y A : Type 0} (g : Y → List A) (f : X → Y) (xs : List X) → flat_map (λ x. g (f x)) xs ≡ flat_map g (map f xs)
flat_map-map g f [] = refl
flat_map-map g f (x ∷ xs) = ap (λ l. g (f x) ++ l) (flat_map-map g f xs)

-- each element of a part of a list
pub each-take : {X : Type 0} (P : X → Type 0) (n : ℕ) (xs : List X) → AllByRecursion P xs → AllByRecursion P (take n xs)
each-take P zero xs h = tt
each-take P (suc n) [] h = tt
each-take P (suc n) (x ∷ xs) h = (h.0, each-take P n xs h.1)

pub each-drop : {X : Type 0} (P : X → Type 0) (n : ℕ) (xs : List X) → AllByRecursion P xs → AllByRecursion P (drop n xs)
each-drop P zero xs h = h
each-drop P (suc n) [] h = tt
each-drop P (suc n) (x ∷ xs) h = each-drop P n xs h.1

-- a telling of the same reckonings, and of what follows from what was told
pub tells-so : {A : Type 0} (r : Result A FormFault) (rs ss : List Reckoning) (P Q : A → Type 0) → (Defined rs → Defined ss) → (Defined ss → Defined rs) → ((a : A) → P a → Q a) → Tells r rs P → Tells r ss Q
tells-so (Ok a) rs ss P Q f g h t = (f t.0, h a t.1)
tells-so (Err Wide) rs ss P Q f g h t = λ d. t (g d)
tells-so (Err Memory) rs ss P Q f g h t = tt
