-- The least of some places, one more place.
use Rattle.std.proofs.Common.{◌≡◌, refl, sym, ap, ◌∙◌, ℕ, suc, ◌+◌, ◌<◌, ◌≤◌, arith, min, List, [], ◌∷◌, ◌++◌, length, take, drop, get_or, Option, Some, None}
use Rattle.std.proofs.lemmas.List.{take-append-drop, append-nil, get_or_default}
use Rattle.ground_world.specs.World.{either}
use Rattle.ground_world.specs.declared.operations.Flaw.{Flaw}
use Rattle.ground_world.specs.declared.operations.Flaw.TheVariants.{TooWide, ZeroDivisor}
use Rattle.ground_world.specs.Expressions.{wide_places, zero_divisors}
use Rattle.ground_world.proofs.Steps.{taken}
use Rattle.grounder.specs.Answer.{least}
use Rattle.basics.proofs.Lists.{drop_item}

same_some : (a b : ℕ) → a ≡ b → ◌≡◌ {A = Option ℕ} (Some a) (Some b)
same_some a b e = ap Some e

pub least-push : (ps : List ℕ) (p : ℕ) → least (ps ++ (p ∷ [])) ≡ Some (either p (min p) (least ps))
least-push [] p = refl
least-push (q ∷ ps) p = ap (λ o. Some (either q (min q) o)) (least-push ps p) ∙ by (least ps)
  where
    by : (o : Option ℕ) → ◌≡◌ {A = Option ℕ} (Some (min q (either p (min p) o))) (Some (min p (either q (min q) o)))
    by None = same_some (min q p) (min p q) (omega arith)
    by (Some m) = same_some (min q (min p m)) (min p (min q m)) (omega arith)

module _ (xs : List ℕ) (i x : ℕ) (lt : i < length xs) (at : x ≡ get_or xs i x) where
  pub least-more : (o : Option ℕ) → o ≡ least (take i xs) → ◌≡◌ {A = Option ℕ} (Some (either x (min x) o)) (least (take (i + 1) xs))
  least-more o e = ap (λ o. Some (either x (min x) o)) e ∙ sym (least-push (take i xs) x) ∙ ap least (sym (taken xs i x lt at))

-- ---- flaws

wide-push : (fs : List Flaw) (p : ℕ) → zero_divisors fs ≡ [] → wide_places (fs ++ (TooWide p ∷ [])) ≡ wide_places fs ++ (p ∷ [])
wide-push [] p e = refl
wide-push (TooWide q ∷ fs) p e = ap (λ ps. q ∷ ps) (wide-push fs p e)
wide-push (ZeroDivisor q ∷ fs) p e = cc

wide-stop : (fs : List Flaw) (p : ℕ) (gs : List Flaw) → wide_places (fs ++ (ZeroDivisor p ∷ gs)) ≡ wide_places fs
wide-stop [] p gs = refl
wide-stop (TooWide q ∷ fs) p gs = ap (λ ps. q ∷ ps) (wide-stop fs p gs)
wide-stop (ZeroDivisor q ∷ fs) p gs = refl

pub zeros-append : (fs gs : List Flaw) → zero_divisors (fs ++ gs) ≡ zero_divisors fs ++ zero_divisors gs
zeros-append [] gs = refl
zeros-append (TooWide q ∷ fs) gs = zeros-append fs gs
zeros-append (ZeroDivisor q ∷ fs) gs = ap (λ ps. q ∷ ps) (zeros-append fs gs)

module _ (fs : List Flaw) (i : ℕ) (f : Flaw) (lt : i < length fs) (at : f ≡ get_or fs i f) where
  -- what the flaws before this one tell
  abbrev pub SoFar : Option ℕ → ℕ → Type 0
  SoFar o n = (o ≡ least (wide_places (take n fs))) × (zero_divisors (take n fs) ≡ [])

  pub wide-more : (o : Option ℕ) (p : ℕ) → SoFar o i → f ≡ TooWide p → SoFar (Some (either p (min p) o)) (i + 1)
  wide-more o p h e = (
    ap (λ o. Some (either p (min p) o)) h.0 ∙ sym (least-push (wide_places (take i fs)) p)
        ∙ ap least (sym (wide-push (take i fs) p h.1)) ∙ ap (λ g. least (wide_places (take i fs ++ (g ∷ [])))) (sym e) ∙ ap (λ gs. least (wide_places gs)) (sym (taken fs i f lt at)),
    ap zero_divisors (taken fs i f lt at) ∙ zeros-append (take i fs) (f ∷ []) ∙ ap (λ ps. ps ++ zero_divisors (f ∷ [])) h.1 ∙ ap (λ g. zero_divisors (g ∷ [])) e,
  )

  pub wide-stops : (o : Option ℕ) (p : ℕ) → o ≡ least (wide_places (take i fs)) → f ≡ ZeroDivisor p → o ≡ least (wide_places fs)
  wide-stops o p h e =
      h ∙ ap least (sym (wide-stop (take i fs) p (drop (i + 1) fs))) ∙ ap (λ g. least (wide_places (take i fs ++ (g ∷ drop (i + 1) fs)))) (sym e)
      ∙ ap (λ gs. least (wide_places (take i fs ++ gs))) (sym (drop_item fs i f lt at)) ∙ ap (λ gs. least (wide_places gs)) (take-append-drop i fs)

  pub zero-more : (o : Option ℕ) (p : ℕ) → o ≡ least (zero_divisors (take i fs)) → f ≡ ZeroDivisor p → ◌≡◌ {A = Option ℕ} (Some (either p (min p) o)) (least (zero_divisors (take (i + 1) fs)))
  zero-more o p h e =
      ap (λ o. Some (either p (min p) o)) h ∙ sym (least-push (zero_divisors (take i fs)) p)
      ∙ ap (λ g. least (zero_divisors (take i fs) ++ zero_divisors (g ∷ []))) (sym e) ∙ ap least (sym (zeros-append (take i fs) (f ∷ []))) ∙ ap (λ gs. least (zero_divisors gs)) (sym (taken fs i f lt at))

  pub zero-same : (o : Option ℕ) (p : ℕ) → o ≡ least (zero_divisors (take i fs)) → f ≡ TooWide p → o ≡ least (zero_divisors (take (i + 1) fs))
  zero-same o p h e =
      h ∙ ap least (sym (append-nil (zero_divisors (take i fs)))) ∙ ap (λ g. least (zero_divisors (take i fs) ++ zero_divisors (g ∷ []))) (sym e)
      ∙ ap least (sym (zeros-append (take i fs) (f ∷ []))) ∙ ap (λ gs. least (zero_divisors gs)) (sym (taken fs i f lt at))

pub least-at : (xs : List ℕ) (i d : ℕ) (o : Option ℕ) → i < length xs → o ≡ least (take i xs)
    → ◌≡◌ {A = Option ℕ} (Some (either (get_or xs i d) (min (get_or xs i d)) o)) (least (take (i + 1) xs))
least-at xs i d o lt e = least-more xs i (get_or xs i d) lt (get_or_default xs i d (get_or xs i d) lt) o e

-- a flaw that was read
pub flaw_read : (fs : List Flaw) (i : ℕ) (d f : Flaw) → i < length fs → get_or fs i d ≡ f → f ≡ get_or fs i f
flaw_read fs i d f lt e = sym (get_or_default fs i f d lt ∙ e)
