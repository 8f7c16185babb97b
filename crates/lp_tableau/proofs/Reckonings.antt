-- The parts of a pivot, put together.
use Rattle.std.proofs.Common.{◌≡◌, ℕ, List, map, sym, subst, ap, ◌∙◌, Result, Ok, Err}
use Rattle.std.specs.Prelude.{MatchResult}
use Rattle.rational.specs.Rational.{ℚ}
use Rattle.lp_tableau.specs.declared.tableau.Tableau.{Tableau}
use Rattle.lp_tableau.specs.declared.pivot.Room.{Room}
use Rattle.lp_tableau.specs.Dictionaries.{row_of}
use Rattle.lp_tableau.specs.RowLists.{shown_rows, AreReady}
use Rattle.lp_tableau.specs.Tableaus.{dictionary_of, IsReckoned}
use Rattle.lp_tableau.specs.Pivots.{solved, replaced, CanSolve, CanReplaceAll, CanPivot}

pub reckoned : {A E S : Type 0} (value : S → ℚ) (limit : ℕ) (t : Tableau S) (room : Room S) (i j : ℕ) (row s solution : List ℚ) (spare : List (List ℚ)) (cost : List ℚ) (result : Result A E)
    → row_of (dictionary_of value t) i ≡ row → s ≡ solution → CanSolve limit row j × (solution ≡ solved row j) → map value room.solution.items ≡ s → shown_rows value room.rows.items ≡ spare → map value room.cost.items ≡ cost
    → MatchResult result (λ _. CanReplaceAll limit (dictionary_of value t) s i j × AreReady s i j (shown_rows value t.rows.items) spare × (cost ≡ replaced s j (dictionary_of value t).cost)) (λ _. ¬ CanReplaceAll limit (dictionary_of value t) s i j)
    → MatchResult result (λ _. IsReckoned value limit t room i j) (λ _. ¬ CanPivot limit (dictionary_of value t) i j)
reckoned value limit t room i j row s solution spare cost (Ok x) e b c so f g r =
    let s_is : s ≡ solved (row_of (dictionary_of value t) i) j = b ∙ c.1 ∙ ap (λ (u : List ℚ). solved u j) (sym e) in
    record {
      defined = record { leaving = subst (λ (u : List ℚ). CanSolve limit u j) (sym e) c.0; all = subst (λ (u : List ℚ). CanReplaceAll limit (dictionary_of value t) u i j) s_is r.0 };
      solution = so ∙ s_is;
      rows = subst (λ (u : List ℚ). AreReady u i j (shown_rows value t.rows.items) (shown_rows value room.rows.items)) (sym so) (subst (λ (x : List (List ℚ)). AreReady s i j (shown_rows value t.rows.items) x) (sym f) r.1);
      cost = g ∙ r.2 ∙ ap (λ (u : List ℚ). replaced u j (dictionary_of value t).cost) s_is;
    }
reckoned value limit t room i j row s solution spare cost (Err x) e b c so f g r =
    λ p. r (subst (λ (u : List ℚ). CanReplaceAll limit (dictionary_of value t) u i j) (sym (b ∙ c.1 ∙ ap (λ (u : List ℚ). solved u j) (sym e))) p.all)
