-- The greatest of a list, one number after the other.
use Rattle.std.proofs.Common.{◌≡◌, refl, sym, ap, ◌∙◌, ℕ, ◌+◌, ◌<◌, List, [], ◌∷◌, ◌++◌, length, drop}
use Rattle.std.specs.Prelude.{slice_index_or}
use Rattle.std.specs.List.{flat_map}
use Rattle.std.proofs.lemmas.List.{drop_more}
use Rattle.std.proofs.lemmas.List.Sorted.{IsPermutation-append_comm}
use Rattle.rational.specs.Rational.{ℚ}
use Rattle.task_types.specs.declared.plans.PlanLine.{PlanLine}
use Rattle.task_types.specs.Plan.{Plan, end_of}
use Rattle.task_types.specs.Cost.{greater, greatest, total_time}
use Rattle.task_types.proofs.Greatest.{greatest_reordered}

greater-assoc : (x y g : ℚ) → greater x (greater y g) ≡ greater (greater x y) g
greater-assoc x y g =
    greatest_reordered (x ∷ y ∷ g ∷ []) (g ∷ x ∷ y ∷ []) (IsPermutation-append_comm (x ∷ y ∷ []) (g ∷ []))
    ∙ greatest_reordered (g ∷ greater x y ∷ []) (greater x y ∷ g ∷ []) (IsPermutation-append_comm (g ∷ []) (greater x y ∷ []))

pub greatest-first : (x y : ℚ) (ys : List ℚ) → greatest (x ∷ y ∷ ys) ≡ greatest (greater x y ∷ ys)
greatest-first x y [] = refl
greatest-first x y (z ∷ zs) = greater-assoc x y (greatest (z ∷ zs))

abbrev pub times : PlanLine → List ℚ
times l = l.at ∷ end_of l ∷ []

-- the first line
pub latest-begin : (lines rest : Plan) (l : PlanLine) (end new : ℚ) → lines ≡ l ∷ rest → end ≡ end_of l → new ≡ greater l.at end → greatest (new ∷ flat_map times rest) ≡ total_time lines
latest-begin lines rest l end new e f n = ap (λ q. greatest (q ∷ flat_map times rest)) (n ∙ ap (greater l.at) f) ∙ sym (greatest-first l.at (end_of l) (flat_map times rest)) ∙ ap total_time (sym e)

-- one line more
pub latest-more : (last all : ℚ) (lines : Plan) (i : ℕ) (l : PlanLine) (end middle new : ℚ) → i < length lines → l ≡ slice_index_or lines i l → end ≡ end_of l
    → middle ≡ greater last l.at → new ≡ greater middle end → greatest (last ∷ flat_map times (drop i lines)) ≡ all → greatest (new ∷ flat_map times (drop (i + 1) lines)) ≡ all
latest-more last all lines i l end middle new h e f m n k =
    ap (λ q. greatest (q ∷ rest)) (n ∙ ap (greater middle) f)
    ∙ sym (greatest-first middle (end_of l) rest)
    ∙ ap (λ q. greatest (q ∷ end_of l ∷ rest)) m
    ∙ sym (greatest-first last l.at (end_of l ∷ rest))
    ∙ ap (λ r. greatest (last ∷ r)) (sym (ap (flat_map times) (drop_more lines i l h ∙ ap (λ r. r ∷ drop (i + 1) lines) (sym e))))
    ∙ k
  where
    rest : List ℚ
    rest = flat_map times (drop (i + 1) lines)
