-- What is wrong in an expression, form by form.
use Rattle.std.proofs.Common.{◌≡◌, refl, sym, ap, ◌∙◌, ℕ, Bool, true, false, not, ◌&&◌, List, [], ◌∷◌, ◌++◌, map, if◌then◌else◌, length, Option, nat_le, ◌<◌, ◌≤◌, ◌+◌, take, get_or}
use Rattle.std.specs.List.{flat_map}
use Rattle.pddl_terms.specs.declared.trees.ExprTree.{ExprTree, fold-ExprTree, fold-roll-ExprTree}
use Rattle.pddl_terms.specs.declared.trees.ExprTree.TheOpen.{ExprTree-F}
use Rattle.pddl_terms.specs.declared.trees.ExprTree.TheVariants as expr
use Rattle.pddl_terms.specs.declared.trees.Atom.{Atom}
use Rattle.pddl_terms.specs.declared.trees.Name.{Name}
use Rattle.rational.specs.Rational.{ℚ}
use Rattle.pddl_terms.specs.declared.faults.Kind.TheVariants as kind
use Rattle.pddl_forms.specs.declared.functions.Functions.{Functions}
use Rattle.pddl_forms.specs.Offences.{offence, unless, least_with}
use Rattle.pddl_forms.specs.Functions.{is_static}
use Rattle.std.specs.List.{filter, list_all}
use Rattle.std.proofs.lemmas.List.{take_more, length-take}
use Rattle.std.proofs.Common.{suc, ap₂, nat_eq, arith}
use Rattle.std.proofs.lemmas.Bool.Decides.{Decides-eqb}
use Rattle.basics.proofs.Bools.{and_assoc}
use Rattle.basics.proofs.Lists.{filter-shorter}
use Rattle.pddl_forms.specs.Expressions.{Judged, judged, all_offences, changing_count, expression_layer, judgement, is_constant, is_changing, expression_offences}
use Rattle.pddl_names.specs.declared.offences.Offence.{Offence}
use Rattle.pddl_forms.proofs.Least.{least_of, least_with-append}

list_all-map : {A : Type 0} (f : A → Judged) (xs : List A) → list_all (λ part. part.is_constant) (map f xs) ≡ list_all (λ x. (f x).is_constant) xs
list_all-map f [] = refl
list_all-map f (x ∷ xs) = ap (λ b. (f x).is_constant && b) (list_all-map f xs)

offences-map : {A : Type 0} (f : A → Judged) (xs : List A) → all_offences (map f xs) ≡ flat_map (λ x. (f x).offences) xs
offences-map f [] = refl
offences-map f (x ∷ xs) = ap (λ os. (f x).offences ++ os) (offences-map f xs)

count-map : {A : Type 0} (f : A → Judged) (xs : List A) → changing_count (map f xs) ≡ length (filter (λ x. not (f x).is_constant) xs)
count-map f [] = refl
count-map f (x ∷ xs) = by (f x).is_constant (count-map f xs)
  where
    by : (b : Bool) → changing_count (map f xs) ≡ length (filter (λ x. not (f x).is_constant) xs)
        → length (if not b then f x ∷ filter (λ part. not part.is_constant) (map f xs) else filter (λ part. not part.is_constant) (map f xs)) ≡ length (if not b then x ∷ filter (λ x. not (f x).is_constant) xs else filter (λ x. not (f x).is_constant) xs)
    by true e = e
    by false e = ap suc e

pub judgement-number : (fs : Functions) (at : ℕ) (value : ℚ) → judgement fs (expr.Number at value) ≡ judged true []
unfolding judgement
judgement-number fs at value =
    ap (λ t. fold-ExprTree Judged (expression_layer fs) t) (sym (expr.rolls-Number at value))
    ∙ fold-roll-ExprTree Judged (expression_layer fs) (ExprTree-F.Number at value)

pub judgement-fluent : (fs : Functions) (a : Atom) → judgement fs (expr.Fluent a) ≡ judged (is_static fs a.name.bytes) []
unfolding judgement
judgement-fluent fs a =
    ap (λ t. fold-ExprTree Judged (expression_layer fs) t) (sym (expr.rolls-Fluent a))
    ∙ fold-roll-ExprTree Judged (expression_layer fs) (ExprTree-F.Fluent a)

pub judgement-duration : (fs : Functions) (at : ℕ) → judgement fs (expr.Duration at) ≡ judged false []
unfolding judgement
judgement-duration fs at =
    ap (λ t. fold-ExprTree Judged (expression_layer fs) t) (sym (expr.rolls-Duration at))
    ∙ fold-roll-ExprTree Judged (expression_layer fs) (ExprTree-F.Duration at)

pub judgement-sum : (fs : Functions) (at : ℕ) (parts : List ExprTree) → judgement fs (expr.Sum at parts) ≡ judged (list_all (is_constant fs) parts) (flat_map (expression_offences fs) parts)
unfolding judgement
judgement-sum fs at parts =
    ap (λ t. fold-ExprTree Judged (expression_layer fs) t) (sym (expr.rolls-Sum at parts))
    ∙ fold-roll-ExprTree Judged (expression_layer fs) (ExprTree-F.Sum at parts)
    ∙ ap₂ judged (list_all-map (fold-ExprTree Judged (expression_layer fs)) parts) (offences-map (fold-ExprTree Judged (expression_layer fs)) parts)

pub judgement-product : (fs : Functions) (at : ℕ) (parts : List ExprTree) → judgement fs (expr.Product at parts) ≡ judged (list_all (is_constant fs) parts) (flat_map (expression_offences fs) parts ++ unless (nat_le (length (filter (is_changing fs) parts)) 1) kind.Nonlinear at)
unfolding judgement
judgement-product fs at parts =
    ap (λ t. fold-ExprTree Judged (expression_layer fs) t) (sym (expr.rolls-Product at parts))
    ∙ fold-roll-ExprTree Judged (expression_layer fs) (ExprTree-F.Product at parts)
    ∙ ap₂ judged (list_all-map (fold-ExprTree Judged (expression_layer fs)) parts) (ap₂ (λ os n. os ++ unless (nat_le n 1) kind.Nonlinear at) (offences-map (fold-ExprTree Judged (expression_layer fs)) parts) (count-map (fold-ExprTree Judged (expression_layer fs)) parts))

pub judgement-negative : (fs : Functions) (at : ℕ) (part : ExprTree) → judgement fs (expr.Negative at part) ≡ judgement fs part
unfolding judgement
judgement-negative fs at part =
    ap (λ t. fold-ExprTree Judged (expression_layer fs) t) (sym (expr.rolls-Negative at part))
    ∙ fold-roll-ExprTree Judged (expression_layer fs) (ExprTree-F.Negative at part)

pub judgement-difference : (fs : Functions) (at : ℕ) (left : ExprTree) (right : ExprTree) → judgement fs (expr.Difference at left right) ≡ judged (is_constant fs left && is_constant fs right) (expression_offences fs left ++ expression_offences fs right)
unfolding judgement
judgement-difference fs at left right =
    ap (λ t. fold-ExprTree Judged (expression_layer fs) t) (sym (expr.rolls-Difference at left right))
    ∙ fold-roll-ExprTree Judged (expression_layer fs) (ExprTree-F.Difference at left right)

pub judgement-quotient : (fs : Functions) (at : ℕ) (left : ExprTree) (right : ExprTree) → judgement fs (expr.Quotient at left right) ≡ judged (is_constant fs left && is_constant fs right) (expression_offences fs left ++ expression_offences fs right ++ unless (is_constant fs right) kind.Nonlinear at)
unfolding judgement
judgement-quotient fs at left right =
    ap (λ t. fold-ExprTree Judged (expression_layer fs) t) (sym (expr.rolls-Quotient at left right))
    ∙ fold-roll-ExprTree Judged (expression_layer fs) (ExprTree-F.Quotient at left right)

pub judgement-leftout : (fs : Functions) (at : ℕ) → judgement fs (expr.LeftOut at) ≡ judged true (offence kind.LeftOut at ∷ [])
unfolding judgement
judgement-leftout fs at =
    ap (λ t. fold-ExprTree Judged (expression_layer fs) t) (sym (expr.rolls-LeftOut at))
    ∙ fold-roll-ExprTree Judged (expression_layer fs) (ExprTree-F.LeftOut at)

pub judgement-totaltime : (fs : Functions) (at : ℕ) → judgement fs (expr.TotalTime at) ≡ judged false []
unfolding judgement
judgement-totaltime fs at =
    ap (λ t. fold-ExprTree Judged (expression_layer fs) t) (sym (expr.rolls-TotalTime at))
    ∙ fold-roll-ExprTree Judged (expression_layer fs) (ExprTree-F.TotalTime at)

pub judgement-violated : (fs : Functions) (at : ℕ) (n : Name) → judgement fs (expr.Violated at n) ≡ judged false []
unfolding judgement
judgement-violated fs at n =
    ap (λ t. fold-ExprTree Judged (expression_layer fs) t) (sym (expr.rolls-Violated at n))
    ∙ fold-roll-ExprTree Judged (expression_layer fs) (ExprTree-F.Violated at n)

pub judgement-timecost : (fs : Functions) (at : ℕ) (n : Name) → judgement fs (expr.TimeCost at n) ≡ judged false []
unfolding judgement
judgement-timecost fs at n =
    ap (λ t. fold-ExprTree Judged (expression_layer fs) t) (sym (expr.rolls-TimeCost at n))
    ∙ fold-roll-ExprTree Judged (expression_layer fs) (ExprTree-F.TimeCost at n)

-- ---- what is told of a form is told of the tree that is it
module _ (fs : Functions) where
  pub told-constant : {tree form : ExprTree} {j : Judged} {constant : Bool} → tree ≡ form → judgement fs form ≡ j
      → constant ≡ j.is_constant → constant ≡ is_constant fs tree
  told-constant e f h = h ∙ sym (ap (is_constant fs) e ∙ ap (λ (j : Judged). j.is_constant) f)

  module _ (found : Option Offence) where
    pub told-found : {tree form : ExprTree} {j : Judged} {next : Option Offence} → tree ≡ form → judgement fs form ≡ j
        → next ≡ least_with found j.offences → next ≡ least_with found (expression_offences fs tree)
    told-found e f h = h ∙ sym (ap (λ t. least_with found (expression_offences fs t)) e ∙ ap (λ (j : Judged). least_with found j.offences) f)

    -- one part, and then another
    pub two-found : {x y left right : ExprTree} {first second : Option Offence} → x ≡ left → y ≡ right
        → first ≡ least_with found (expression_offences fs x) → second ≡ least_with first (expression_offences fs y)
        → second ≡ least_with found (expression_offences fs left ++ expression_offences fs right)
    two-found {left = left} {right = right} e f h k =
        k ∙ ap₂ (λ a t. least_with a (expression_offences fs t)) (h ∙ ap (λ t. least_with found (expression_offences fs t)) e) f
        ∙ sym (least_with-append found (expression_offences fs left) (expression_offences fs right))

-- ---- one part more
all-behind : {A : Type 0} (p : A → Bool) (x : A) (ys : List A) → list_all p (ys ++ x ∷ []) ≡ (list_all p ys && p x)
all-behind p x [] = by (p x)
  where
    by : (b : Bool) → (b && true) ≡ b
    by true = refl
    by false = refl
all-behind p x (y ∷ ys) = ap (λ b. p y && b) (all-behind p x ys) ∙ sym (and_assoc (p y) (list_all p ys) (p x))

pub all-next : {A : Type 0} (p : A → Bool) (so_far next : Bool) (xs : List A) (i : ℕ) (x : A) → i < length xs → x ≡ get_or xs i x
    → so_far ≡ list_all p (take i xs) → next ≡ (so_far && p x) → next ≡ list_all p (take (i + 1) xs)
all-next p so_far next xs i x h e j n = n ∙ ap (λ b. b && p x) j ∙ sym (ap (list_all p) (take_more xs i x h ∙ ap (λ y. take i xs ++ y ∷ []) (sym e)) ∙ all-behind p x (take i xs))

count-behind : {A : Type 0} (p : A → Bool) (x : A) (ys : List A) → length (filter p (ys ++ x ∷ [])) ≡ length (filter p ys) + (if p x then 1 else 0)
count-behind p x [] = by (p x)
  where
    by : (t : Bool) → length (if t then x ∷ [] else []) ≡ 0 + (if t then 1 else 0)
    by true = refl
    by false = refl
count-behind p x (y ∷ ys) = by (p y) (count-behind p x ys)
  where
    by : (t : Bool) → length (filter p (ys ++ x ∷ [])) ≡ length (filter p ys) + (if p x then 1 else 0)
        → length (if t then y ∷ filter p (ys ++ x ∷ []) else filter p (ys ++ x ∷ [])) ≡ length (if t then y ∷ filter p ys else filter p ys) + (if p x then 1 else 0)
    by true r = omega (arith, r)
    by false r = r

pub count-next : {A : Type 0} (p : A → Bool) (so_far next : ℕ) (xs : List A) (i : ℕ) (x : A) → i < length xs → x ≡ get_or xs i x
    → so_far ≡ length (filter p (take i xs)) → next ≡ so_far + (if p x then 1 else 0) → next ≡ length (filter p (take (i + 1) xs))
count-next p so_far next xs i x h e j n = n ∙ ap (λ k. k + (if p x then 1 else 0)) j ∙ sym (ap (λ l. length (filter p l)) (take_more xs i x h ∙ ap (λ y. take i xs ++ y ∷ []) (sym e)) ∙ count-behind p x (take i xs))

pub count-within : {A : Type 0} (p : A → Bool) (xs : List A) (i : ℕ) → i < length xs → length (filter p (take i xs)) < length xs
count-within {A = A} p xs i h = let r = filter-shorter p (take i xs) in omega (arith, r, length-take {A = A})

some_count : (k : ℕ) → nat_eq (suc k) 0 ≡ false
some_count k = by (nat_eq (suc k) 0) refl
  where
    by : (b : Bool) → nat_eq (suc k) 0 ≡ b → b ≡ false
    by true e = absurd (omega (arith, (Decides-eqb (suc k) 0).0 e))
    by false e = refl

-- all are constants where none changes
pub none-changes : (fs : Functions) (es : List ExprTree) → nat_eq (length (filter (is_changing fs) es)) 0 ≡ list_all (is_constant fs) es
none-changes fs [] = refl
none-changes fs (e ∷ es) = by (is_constant fs e) (none-changes fs es)
  where
    by : (b : Bool) → nat_eq (length (filter (is_changing fs) es)) 0 ≡ list_all (is_constant fs) es
        → nat_eq (length (if not b then e ∷ filter (is_changing fs) es else filter (is_changing fs) es)) 0 ≡ (b && list_all (is_constant fs) es)
    by true r = r
    by false r = some_count (length (filter (is_changing fs) es))

pub ruleset judgements = (judgement-number, judgement-fluent, judgement-duration, judgement-sum, judgement-product, judgement-negative, judgement-difference, judgement-quotient, judgement-leftout, judgement-totaltime, judgement-violated, judgement-timecost, least_of)
