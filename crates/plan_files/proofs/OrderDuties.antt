-- A line of an ordering file that is read part by part.
use Rattle.std.proofs.Common.{◌≡◌, refl, sym, ap, subst, ◌∙◌, ℕ, ◌<◌, Bool, true, false, ◌&&◌, List, length, inl, inr}
use Rattle.std.specs.Prelude.{IsTrue, Option, Some, None, option_map, option_and_then, is_some, Result, Ok, Err, if◌then◌else◌}
use Rattle.basics.specs.Texts.{number}
use Rattle.rational.specs.Rational.{ℚ}
use Rattle.task_types.specs.declared.parts.TaskParts.{TaskParts}
use Rattle.task_types.specs.Plan.{action_of}
use Rattle.task_types.specs.WellMade.{IsWellMade}
use Rattle.plan_files.specs.declared.faults.LineKind.TheVariants as kind
use Rattle.plan_files.specs.declared.faults.LineFault.{LineFault}
use Rattle.plan_files.specs.declared.faults.LineFault.TheVariants.{At, Memory}
use Rattle.plan_files.specs.declared.order_lines.Put.{Put as PutRead}
use Rattle.plan_files.specs.declared.order_words.Doing.{Doing}
use Rattle.plan_files.specs.Names.{is_typed, action_named}
use Rattle.plan_files.specs.PlanFiles.{StandsFor}
use Rattle.plan_files.specs.OrderWords.{OrderWords, Acts, Timed, Pair, Orders}
use Rattle.plan_files.specs.OrderFiles.{is_count, Step, Apart, snap_for, timed_at}
use Rattle.plan_files.specs.OrderParts.{count_read, apart_read, put_seen, IsKnown, ReadsPut, ReadsPutLine}
use Rattle.plan_files.proofs.KnownSteps.{snap-known, timed-known}

module _ (task : TaskParts) (w : IsWellMade task) (line : ℕ) where
  pub acted-read : (what : Doing) (name : List ℕ) (args : List (List ℕ)) (a : ℕ) (p : Option PutRead)
      → is_typed task name args ≡ true → action_named task name args ≡ Some a → a < length task.actions
      → option_map put_seen p ≡ option_map Step (snap_for what (action_of task a)) → ReadsPut task line (Acts what name args) (Ok p)
  acted-read what name args a p typed found below told =
      ((tt, (typed, (ap is_some found, tt))), (a, found, told), subst (IsKnown task) (sym told) (snap-known task w a what below))

  pub timed-read : (moment : List ℕ) (q : ℚ) (p : Option PutRead) → StandsFor moment q → option_map put_seen p ≡ option_map Step (timed_at task q) → ReadsPut task line (Timed moment) (Ok p)
  timed-read moment q p s e = (((q, s), (refl, (refl, tt))), (q, s, e), subst (IsKnown task) (sym e) (timed-known task w q))

-- ---- pairs
counted : (bytes : List ℕ) (n : ℕ) (b : Bool) → is_count bytes ≡ b → (if b then Some (number bytes) else None) ≡ Some n → (is_count bytes ≡ true) × (number bytes ≡ n)
counted bytes n true e f = (e, cc)
counted bytes n false e f = absurd (cc)

pub paired-read : (task : TaskParts) (line : ℕ) (first second : List ℕ) (p : PutRead) → Some (put_seen p) ≡ apart_read first second → ReadsPut task line (Pair first second) (Ok (Some p))
paired-read task line first second p e = go (count_read first) (count_read second) refl refl e
  where
    go : (o q : Option ℕ) → count_read first ≡ o → count_read second ≡ q → Some (put_seen p) ≡ option_and_then (λ i. option_map (λ j. Apart i j) q) o → ReadsPut task line (Pair first second) (Ok (Some p))
    go None q f g h = absurd (cc)
    go (Some i) None f g h = absurd (cc)
    go (Some i) (Some j) f g h =
        let a = counted first i (is_count first) refl f in
        let b = counted second j (is_count second) refl g in
        let both : IsTrue (is_count first && is_count second) = rw (a.0, b.0) refl in
        let told : Some (put_seen p) ≡ Some (Apart (number first) (number second)) = h ∙ ap (λ m. Some (Apart m j)) (sym a.1) ∙ ap (λ m. Some (Apart (number first) m)) (sym b.1) in
        ((both, (refl, (refl, tt))), told, subst (IsKnown task) (sym told) tt)

not_both : (a b : Bool) (m n : ℕ) → None ≡ option_and_then (λ i. option_map (λ j. Apart i j) (if b then Some n else None)) (if a then Some m else None) → ¬ IsTrue (a && b)
not_both true true m n e = absurd (cc)
not_both true false m n e = λ h. let f : false ≡ true = h in cc
not_both false b m n e = λ h. let f : false ≡ true = h in cc

pub paired-refused : (task : TaskParts) (line : ℕ) (first second : List ℕ) → None ≡ apart_read first second → ReadsPut task line (Pair first second) (Err (At line kind.Number))
paired-refused task line first second e = inl (not_both (is_count first) (is_count second) (number first) (number second) e, refl)

-- ---- a line
pub put-read : (task : TaskParts) (line : ℕ × List ℕ) (w : OrderWords) (r : Result (Option PutRead) LineFault) → Orders line.1 w → ReadsPut task line.0 w r → ReadsPutLine task line r
put-read task line w (Ok p) says h = ((w, says, h.0, h.1), h.2)
put-read task line w (Err (At n k)) says h = inr (w, says, h)
put-read task line w (Err Memory) says h = tt
