-- Words that name objects, word by word, and objects that fit parameters.
use Rattle.std.proofs.Common.{◌≡◌, refl, sym, ap, ◌∙◌, ℕ, ◌+◌, ◌<◌, ◌≤◌, Bool, true, false, cond, ◌&&◌, List, [], ◌∷◌, ◌++◌, length, drop, arith, append_assoc}
use Rattle.std.specs.Prelude.{slice_index_or, Option, Some, None, nat_eq}
use Rattle.std.specs.List.{list_any}
use Rattle.std.specs.Option.{option_map, option_and_then}
use Rattle.std.proofs.lemmas.List.{drop_more, drop_all, append-nil}
use Rattle.task_types.specs.declared.parts.TaskParts.{TaskParts}
use Rattle.task_types.specs.WellMade.{arguments_fit}
use Rattle.plan_files.specs.Tokens.{is_run}
use Rattle.plan_files.specs.WordsSeen.{runs_in_front}
use Rattle.plan_files.specs.WordScan.{run_first}
use Rattle.plan_files.specs.Names.{object_named, objects_named}
use Rattle.plan_files.proofs.WordsIn.{run_first-is}

-- ---- objects
-- some words name these objects, and these words are left
pub record Named (task : TaskParts) (all : List (List ℕ)) (done : List ℕ) (rest : List (List ℕ)) : Type 0 where
  pub left : objects_named task all ≡ option_map (λ os. done ++ os) (objects_named task rest)

pub named-begin : (task : TaskParts) (all : List (List ℕ)) → Named task all [] all
named-begin task all = record { left = same (objects_named task all) }
  where
    same : (o : Option (List ℕ)) → o ≡ option_map (λ os. [] ++ os) o
    same None = refl
    same (Some os) = refl

runs-next : (ts us : List (List ℕ)) (w : List ℕ) → run_first ts ≡ Some (w, us) → runs_in_front ts ≡ w ∷ runs_in_front us
runs-next ts us w e = let p = run_first-is ts w us e in ap runs_in_front p.1 ∙ first (is_run w) p.0
  where
    first : (b : Bool) → b ≡ true → cond b (w ∷ runs_in_front us) [] ≡ w ∷ runs_in_front us
    first true f = refl
    first false f = cc

abbrev pair : List ℕ → List (List ℕ) → List ℕ × List (List ℕ)
pair a b = (a, b)

pub runs-none : (ts : List (List ℕ)) → run_first ts ≡ None → runs_in_front ts ≡ []
runs-none [] e = refl
runs-none (t ∷ ts) e = go (is_run t) e
  where
    go : (b : Bool) → cond b (Some (pair t ts)) None ≡ None → cond b (t ∷ runs_in_front ts) [] ≡ []
    go true f = cc
    go false f = refl

pub named-next : (task : TaskParts) (all : List (List ℕ)) (done : List ℕ) (w : List ℕ) (ws : List (List ℕ)) (o : ℕ) → object_named task w ≡ Some o → Named task all done (w ∷ ws) → Named task all (done ++ o ∷ []) ws
named-next task all done w ws o e n = record { left = n.left ∙ ap (λ f. option_map (λ os. done ++ os) (option_and_then (λ o. option_map (λ os. o ∷ os) (objects_named task ws)) f)) e ∙ further (objects_named task ws) }
  where
    further : (f : Option (List ℕ)) → option_map (λ os. done ++ os) (option_map (λ os. o ∷ os) f) ≡ option_map (λ os. (done ++ o ∷ []) ++ os) f
    further None = refl
    further (Some os) = ap Some (sym (append_assoc done (o ∷ []) os))

pub named-stop : (task : TaskParts) (all : List (List ℕ)) (done : List ℕ) (w : List ℕ) (ws : List (List ℕ)) → object_named task w ≡ None → Named task all done (w ∷ ws) → objects_named task all ≡ None
named-stop task all done w ws e n = n.left ∙ ap (λ f. option_map (λ os. done ++ os) (option_and_then (λ o. option_map (λ os. o ∷ os) (objects_named task ws)) f)) e

pub named-end : (task : TaskParts) (all : List (List ℕ)) (done : List ℕ) → Named task all done [] → objects_named task all ≡ Some done
named-end task all done n = n.left ∙ ap Some (append-nil done)

-- ---- arguments
-- these arguments and parameters are left of a comparison
pub record FitLeft (os : List ℕ) (ps : List (List ℕ)) (i : ℕ) : Type 0 where
  pub left : arguments_fit os ps ≡ arguments_fit (drop i os) (drop i ps)

pub fit-begin : (os : List ℕ) (ps : List (List ℕ)) → FitLeft os ps 0
fit-begin os ps = record { left = refl }

module _ (os : List ℕ) (ps : List (List ℕ)) (i : ℕ) (o : ℕ) (p : List ℕ) (h : i < length os) (k : i < length ps) (e : o ≡ slice_index_or os i o) (f : p ≡ slice_index_or ps i p) (n : FitLeft os ps i) where
  here : arguments_fit os ps ≡ (list_any (λ x. nat_eq x o) p && arguments_fit (drop (i + 1) os) (drop (i + 1) ps))
  here = n.left ∙ ap (λ l. arguments_fit l (drop i ps)) (drop_more os i o h ∙ ap (λ x. x ∷ drop (i + 1) os) (sym e))
      ∙ ap (λ l. arguments_fit (o ∷ drop (i + 1) os) l) (drop_more ps i p k ∙ ap (λ x. x ∷ drop (i + 1) ps) (sym f))

  pub fit-next : list_any (λ x. nat_eq x o) p ≡ true → FitLeft os ps (i + 1)
  fit-next g = record { left = here ∙ ap (λ b. b && arguments_fit (drop (i + 1) os) (drop (i + 1) ps)) g }

  pub fit-stop : list_any (λ x. nat_eq x o) p ≡ false → arguments_fit os ps ≡ false
  fit-stop g = here ∙ ap (λ b. b && arguments_fit (drop (i + 1) os) (drop (i + 1) ps)) g

pub fit-end : (os : List ℕ) (ps : List (List ℕ)) (i : ℕ) → length os ≤ i → length ps ≤ i → FitLeft os ps i → arguments_fit os ps ≡ true
fit-end os ps i h k n = n.left ∙ ap (λ l. arguments_fit l (drop i ps)) (drop_all i os h) ∙ ap (λ l. arguments_fit [] l) (drop_all i ps k)

pub fit-lengths : (os : List ℕ) (ps : List (List ℕ)) → ¬ (length os ≡ length ps) → arguments_fit os ps ≡ false
fit-lengths [] [] n = absurd (n refl)
fit-lengths [] (p ∷ ps) n = refl
fit-lengths (o ∷ os) [] n = refl
fit-lengths (o ∷ os) (p ∷ ps) n = ap (λ b. list_any (λ x. nat_eq x o) p && b) (fit-lengths os ps (λ e. n (omega (arith, e)))) ∙ and_false (list_any (λ x. nat_eq x o) p)
  where
    and_false : (b : Bool) → (b && false) ≡ false
    and_false true = refl
    and_false false = refl
