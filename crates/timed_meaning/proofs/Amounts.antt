-- An amount told from its three reckonings.
use Rattle.exact_lin.specs.Reckoning.{wide_limit}
use Rattle.std.specs.Prelude.{slice_index_or, ◌↔◌}
use Rattle.std.proofs.lemmas.List.{drop_more}
use Rattle.std.proofs.Common.{◌≡◌, ◌<◌, ◌+◌, length, drop, [], ◌∷◌, ◌++◌, List, ℕ, subst, sym, ◌∙◌, ap, append_assoc}
use Rattle.std.specs.List.{flat_map}
use Rattle.std.proofs.lemmas.List.Concat.{flat_map-append}
use Rattle.basics.proofs.Lists.{each_left, each_right}
use Rattle.std.specs.Prelude.{Result, Ok, Err}
use Rattle.rational.specs.Rational.{ℚ, ◌+ℚ◌, ◌*ℚ◌}
use Rattle.exact_lin.specs.declared.faults.FormFault.{FormFault}
use Rattle.exact_lin.specs.declared.faults.FormFault.TheVariants.{Wide, Memory}
use Rattle.task_types.specs.declared.conditions.Amount.{Amount}
use Rattle.task_types.specs.State.{State, value}
use Rattle.task_types.specs.Plan.{Step}
use Rattle.task_types.specs.Course.{amount}
use Rattle.exact_lin.specs.Reckonings.{Reckoning, Sum, Product, Value, IsDefined}
use Rattle.task_types.specs.Reckoned.{amount_reckoned}
use Rattle.timed_meaning.specs.Told.{Defined, Tells}

summed : (step : Step) (s : State) (a : Amount) (r : Result ℚ FormFault) → Defined (Value a.form s.fluents ∷ []) → Defined (Product a.duration step.duration ∷ [])
    → Tells r (Sum (value a.form s.fluents) (a.duration *ℚ step.duration) ∷ []) (λ q. q ≡ value a.form s.fluents +ℚ a.duration *ℚ step.duration)
    → Tells r (amount_reckoned step s a) (λ q. q ≡ amount step s a)
summed step s a (Ok q) d e h = ((d.0, (e.0, h.0)), h.1)
summed step s a (Err Wide) d e h = λ all. h (all.1.1)
summed step s a (Err Memory) d e h = tt

pub amount-told : (step : Step) (s : State) (a : Amount) (form d timed : ℚ) (r : Result ℚ FormFault) → Defined (Value a.form s.fluents ∷ []) → form ≡ value a.form s.fluents → d ≡ step.duration → Defined (Product a.duration d ∷ []) → timed ≡ a.duration *ℚ d
    → Tells r (Sum form timed ∷ []) (λ q. q ≡ form +ℚ timed) → Tells r (amount_reckoned step s a) (λ q. q ≡ amount step s a)
amount-told step s a form d timed r v p l e q h = summed step s a r v (subst (λ x. Defined (Product a.duration x ∷ [])) l e)
    (subst (λ x. Tells r (Sum (value a.form s.fluents) x ∷ []) (λ q. q ≡ value a.form s.fluents +ℚ x)) (q ∙ ap (λ x. a.duration *ℚ x) l) (subst (λ x. Tells r (Sum x timed ∷ []) (λ q. q ≡ x +ℚ timed)) p h))

-- a fault of a part is one of the whole
pub part-fault : {A B : Type 0} (f : FormFault) (part all : List Reckoning) (P : A → Type 0) (Q : B → Type 0) → (Defined all → Defined part) → Tells (Err f) part P → Tells (Err f) all Q
part-fault Wide part all P Q h t = λ d. t (h d)
part-fault Memory part all P Q h t = tt

pub append-in : (rs ss : List Reckoning) → Defined rs → Defined ss → Defined (rs ++ ss)
append-in [] ss h k = k
append-in (r ∷ rs) ss h k = (h.0, append-in rs ss h.1 k)

-- two parts, the first of which is told
pub second-part : {A : Type 0} (r : Result A FormFault) (rs ss : List Reckoning) (P Q : A → Type 0) → Defined rs → ((a : A) → P a → Q a) → Tells r ss P → Tells r (rs ++ ss) Q
second-part (Ok a) rs ss P Q d g t = (append-in rs ss d t.0, g a t.1)
second-part (Err Wide) rs ss P Q d g t = λ all. t (each_right (IsDefined wide_limit) rs ss all)
second-part (Err Memory) rs ss P Q d g t = tt

pub flat_split : {X : Type 0} (g : X → List Reckoning) (xs ys : List X) → Defined (flat_map g xs ++ flat_map g ys) → Defined (flat_map g (xs ++ ys))
flat_split g xs ys d = subst Defined (sym (flat_map-append g xs ys)) d

pub flat_first : {X : Type 0} (g : X → List Reckoning) (xs ys : List X) → Defined (flat_map g (xs ++ ys)) → Defined (flat_map g xs)
flat_first g xs ys d = each_left (IsDefined wide_limit) (flat_map g xs) (flat_map g ys) (subst Defined (flat_map-append g xs ys) d)

-- ---- one element more of a loop that pushes lists, and of what it reckons

pub pushed_next : {X A : Type 0} (F : X → List A) (out new all : List A) (xs : List X) (i : ℕ) (x : X) → i < length xs → x ≡ slice_index_or xs i x → new ≡ out ++ F x → out ++ flat_map F (drop i xs) ≡ all → new ++ flat_map F (drop (i + 1) xs) ≡ all
pushed_next F out new all xs i x h e n k = ap (λ l. l ++ flat_map F (drop (i + 1) xs)) n ∙ append_assoc out (F x) (flat_map F (drop (i + 1) xs))
    ∙ ap (λ y. out ++ (F y ++ flat_map F (drop (i + 1) xs))) e
    ∙ ap (λ l. out ++ flat_map F l) (sym (drop_more xs i x h)) ∙ k

pub head_defined : {X : Type 0} (G : X → List Reckoning) (xs : List X) (i : ℕ) (x : X) → i < length xs → x ≡ slice_index_or xs i x → Defined (flat_map G (drop i xs)) → Defined (G x)
head_defined G xs i x h e d = subst (λ y. Defined (G y)) (sym e) (each_left (IsDefined wide_limit) (G (slice_index_or xs i x)) (flat_map G (drop (i + 1) xs)) (subst (λ l. Defined (flat_map G l)) (drop_more xs i x h) d))

pub rest_defined : {X : Type 0} (G : X → List Reckoning) (xs : List X) (i : ℕ) (x : X) (all : List Reckoning) → i < length xs → x ≡ slice_index_or xs i x → Defined (G x) → Defined all ↔ Defined (flat_map G (drop i xs)) → Defined all ↔ Defined (flat_map G (drop (i + 1) xs))
rest_defined G xs i x all h e d k = (
  λ a. each_right (IsDefined wide_limit) (G (slice_index_or xs i x)) (flat_map G (drop (i + 1) xs)) (subst (λ l. Defined (flat_map G l)) (drop_more xs i x h) (k.0 a)),
  λ r. k.1 (subst (λ l. Defined (flat_map G l)) (sym (drop_more xs i x h)) (append-in (G (slice_index_or xs i x)) (flat_map G (drop (i + 1) xs)) (subst (λ y. Defined (G y)) e d) r)),
)

pub told-steps : {X A : Type 0} (G : X → List Reckoning) (xs ys os bs : List X) → os ≡ xs → bs ≡ ys → (r : Result A FormFault) (P Q : A → Type 0) → ((a : A) → P a → Q a) → Defined (flat_map G os) → Tells r (flat_map G bs) P → Tells r (flat_map G (xs ++ ys)) Q
told-steps G xs ys os bs e f r P Q g d t = subst (λ l. Tells r l Q) (sym (flat_map-append G xs ys)) (second-part r (flat_map G xs) (flat_map G ys) P Q (subst (λ l. Defined (flat_map G l)) e d) g (subst (λ l. Tells r (flat_map G l) P) f t))
