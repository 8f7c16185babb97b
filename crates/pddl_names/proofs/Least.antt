-- The offence of least place, of parts of a list.
use Rattle.std.proofs.Common.{◌≡◌, refl, sym, ap, ◌∙◌, ℕ, ◌+◌, ◌<◌, Bool, true, false, List, [], ◌∷◌, ◌++◌, Option, Some, None, if◌then◌else◌, arith, length, nat_le, append-nil, take, get_or}
use Rattle.std.specs.List.{flat_map}
use Rattle.std.proofs.lemmas.List.{take_more}
use Rattle.std.proofs.lemmas.List.Concat.{flat_map-append}
use Rattle.std.proofs.lemmas.Bool.Decides.{nat_tests}
use Rattle.pddl_names.specs.declared.offences.Offence.{Offence}
use Rattle.pddl_names.specs.declared.offences.Phase.{Phase}
use Rattle.pddl_names.specs.declared.offences.Phase.TheVariants as phase
use Rattle.pddl_names.specs.Offences.{earlier, least}
use Rattle.pddl_names.specs.Calls.{in_names}

pub earlier-none : (a : Option Offence) → earlier a None ≡ a
earlier-none None = refl
earlier-none (Some p) = refl

module _ (a b c : Offence) where
  by_tests : (x y z : Bool) → nat_le a.place b.place ≡ x → nat_le b.place c.place ≡ y → nat_le a.place c.place ≡ z
      → earlier (if x then Some a else Some b) (Some c) ≡ earlier (Some a) (if y then Some b else Some c)
  by_tests true true z h k l = ap (λ t. if t then Some a else Some c) (l ∙ from z l) ∙ sym (ap (λ t. if t then Some a else Some b) h)
    where
      from : (z : Bool) → nat_le a.place c.place ≡ z → z ≡ true
      from true l = refl
      from false l = absurd (grind (arith, nat_tests))
  by_tests true false z h k l = refl
  by_tests false true z h k l = ap (λ t. if t then Some b else Some c) k ∙ sym (ap (λ t. if t then Some a else Some b) h)
  by_tests false false z h k l = ap (λ t. if t then Some b else Some c) k ∙ sym (ap (λ t. if t then Some a else Some c) (l ∙ from z l))
    where
      from : (z : Bool) → nat_le a.place c.place ≡ z → z ≡ false
      from false l = refl
      from true l = absurd (grind (arith, nat_tests))

pub earlier-assoc : (a b c : Option Offence) → earlier (earlier a b) c ≡ earlier a (earlier b c)
earlier-assoc None b c = refl
earlier-assoc (Some p) None c = refl
earlier-assoc (Some p) (Some q) None = earlier-none (earlier (Some p) (Some q))
earlier-assoc (Some p) (Some q) (Some r) = by_tests p q r _ _ _ refl refl refl

pub least-none : ◌≡◌ {A = Option Offence} None (least [])
least-none = refl

pub least-one : (o : Offence) → Some o ≡ least (o ∷ [])
least-one o = refl

pub least-append : (xs ys : List Offence) → least (xs ++ ys) ≡ earlier (least xs) (least ys)
least-append [] ys = refl
least-append (p ∷ xs) ys = ap (earlier (Some p)) (least-append xs ys) ∙ sym (earlier-assoc (Some p) (least xs) (least ys))

pub least-both : (a b : Option Offence) (xs ys : List Offence) → a ≡ least xs → b ≡ least ys → earlier a b ≡ least (xs ++ ys)
least-both a b xs ys h k = ap (λ o. earlier o b) h ∙ ap (earlier (least xs)) k ∙ sym (least-append xs ys)

-- one more item of a list
pub least-more : {A : Type 0} (f : A → List Offence) (before xs : List A) (x : A) (found next : Option Offence)
    → xs ≡ before ++ x ∷ [] → found ≡ least (flat_map f before) → next ≡ earlier found (least (f x)) → next ≡ least (flat_map f xs)
least-more f before xs x found next e j n =
    n ∙ ap (λ a. earlier a (least (f x))) j
    ∙ sym (ap (λ l. least (flat_map f l)) e ∙ ap least (flat_map-append f before (x ∷ []) ∙ ap (λ l. flat_map f before ++ l) (append-nil (f x))) ∙ least-append (flat_map f before) (f x))

-- A loop over the items keeps the least so far.
pub least-loop : {A : Type 0} (f : A → List Offence) (xs : List A) (i : ℕ) (x : A) (found next other : Option Offence)
    → i < length xs → x ≡ get_or xs i x → found ≡ least (flat_map f (take i xs)) → next ≡ earlier found other → other ≡ least (f x) → next ≡ least (flat_map f (take (i + 1) xs))
least-loop f xs i x found next other h e j n k =
    least-more f (take i xs) (take (i + 1) xs) x found next (take_more xs i x h ∙ ap (λ y. take i xs ++ y ∷ []) (sym e)) j (n ∙ ap (earlier found) k)

-- what is asked of names alone
module _ (p : Phase) (xs : List Offence) where
  pub least-named : (r : Option Offence) → p ≡ phase.Names → r ≡ least xs → r ≡ least (in_names p xs)
  least-named r e h = h ∙ ap (λ q. least (in_names q xs)) (sym e)

  pub least-unnamed : p ≡ phase.Types → ◌≡◌ {A = Option Offence} None (least (in_names p xs))
  least-unnamed e = ap (λ q. least (in_names q xs)) (sym e)

module _ (p : Phase) (xs ys : List Offence) where
  pub both-named : (own twice r : Option Offence) → p ≡ phase.Names → own ≡ least xs → twice ≡ least ys → r ≡ earlier own twice → r ≡ least (xs ++ in_names p ys)
  both-named own twice r e h k n = n ∙ least-both own twice xs (in_names p ys) h (least-named p ys twice e k)

  pub own-unnamed : (own : Option Offence) → p ≡ phase.Types → own ≡ least xs → own ≡ least (xs ++ in_names p ys)
  own-unnamed own e h = h ∙ ap least (sym (append-nil xs)) ∙ ap (λ q. least (xs ++ in_names q ys)) (sym e)
