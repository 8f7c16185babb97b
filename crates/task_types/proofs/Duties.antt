-- A plan is valid exactly where each of its duties is met.
use Rattle.std.proofs.Common.{◌≡◌, refl, ℕ, ◌+◌, Bool, true, List, [], ◌∷◌, ◌++◌, map}
use Rattle.std.specs.Prelude.{◌↔◌}
use Rattle.std.specs.List.{AllByRecursion, list_all, flat_map, enumerate_from}
use Rattle.basics.specs.Duties.{Duty, duty, AllMet}
use Rattle.basics.proofs.Duties.{AllMet-append, AllMet-left, AllMet-right}
use Rattle.basics.proofs.Lists.{all_append, all_left, all_right}
use Rattle.basics.proofs.Bools.{and_left, and_right, and_in}
use Rattle.task_types.specs.declared.parts.TaskParts.{TaskParts}
use Rattle.task_types.specs.declared.parts.Rules.{Rules}
use Rattle.task_types.specs.declared.plans.PlanLine.{PlanLine}
use Rattle.task_types.specs.State.{holds}
use Rattle.task_types.specs.Plan.{Plan, Step, IsFormed, line_steps, timed_steps}
use Rattle.task_types.specs.Course.{last_state}
use Rattle.task_types.specs.Trace.{trace, met}
use Rattle.task_types.specs.declared.plans.Reason.{Reason}
use Rattle.task_types.specs.declared.plans.Reason.TheVariants as reason
use Rattle.task_types.specs.Valid.{Valid, duties, clash_duties, line_over_alls, over_alls, HoldsOverAll, is_in_time, has_fit_duration, can_start, can_end, are_apart, all_apart, each_apart}
use Rattle.task_types.proofs.Everyone.{all_map}
use Rattle.task_types.proofs.Reasons.{over_all-segments, every_instant-every_segment}

met_in : {X : Type 0} (r : X → Reason) (p : X → Bool) (xs : List X) → list_all p xs ≡ true → AllMet (map (λ x. duty (r x) (p x)) xs)
met_in r p [] h = tt
met_in r p (x ∷ xs) h = (and_left (p x) (list_all p xs) h, met_in r p xs (and_right (p x) (list_all p xs) h))

met_out : {X : Type 0} (r : X → Reason) (p : X → Bool) (xs : List X) → AllMet (map (λ x. duty (r x) (p x)) xs) → list_all p xs ≡ true
met_out r p [] h = refl
met_out r p (x ∷ xs) h = and_in (p x) (list_all p xs) h.0 (met_out r p xs h.1)

numbered_in : {X : Type 0} (p : X → Bool) (n : ℕ) (xs : List X) → list_all p xs ≡ true → AllMet (map (λ c. duty (reason.Constraint c.0) (p c.1)) (enumerate_from n xs))
numbered_in p n [] h = tt
numbered_in p n (x ∷ xs) h = (and_left (p x) (list_all p xs) h, numbered_in p (n + 1) xs (and_right (p x) (list_all p xs) h))

numbered_out : {X : Type 0} (p : X → Bool) (n : ℕ) (xs : List X) → AllMet (map (λ c. duty (reason.Constraint c.0) (p c.1)) (enumerate_from n xs)) → list_all p xs ≡ true
numbered_out p n [] h = refl
numbered_out p n (x ∷ xs) h = and_in (p x) (list_all p xs) h.0 (numbered_out p (n + 1) xs h.1)

over_alls_in : (task : TaskParts) (plan : Plan) (ls : List PlanLine) → AllByRecursion (λ l. AllMet (line_over_alls task plan l)) ls → AllMet (over_alls task plan ls)
over_alls_in task plan [] h = tt
over_alls_in task plan (l ∷ ls) h = AllMet-append (line_over_alls task plan l) (over_alls task plan ls) h.0 (over_alls_in task plan ls h.1)

over_alls_out : (task : TaskParts) (plan : Plan) (ls : List PlanLine) → AllMet (over_alls task plan ls) → AllByRecursion (λ l. AllMet (line_over_alls task plan l)) ls
over_alls_out task plan [] h = tt
over_alls_out task plan (l ∷ ls) h = (AllMet-left (line_over_alls task plan l) (over_alls task plan ls) h, over_alls_out task plan ls (AllMet-right (line_over_alls task plan l) (over_alls task plan ls) h))

module _ (task : TaskParts) (rules : Rules) where
  A : Step → Step → Bool
  A x y = are_apart task rules x y

  beside_in : (xs ys zs : List Step) → all_apart task rules xs ys ≡ true → all_apart task rules xs zs ≡ true → all_apart task rules xs (ys ++ zs) ≡ true
  beside_in [] ys zs h k = refl
  beside_in (x ∷ xs) ys zs h k = and_in (list_all (are_apart task rules x) (ys ++ zs)) (all_apart task rules xs (ys ++ zs))
      (all_append (are_apart task rules x) ys zs (and_left (list_all (are_apart task rules x) ys) (all_apart task rules xs ys) h) (and_left (list_all (are_apart task rules x) zs) (all_apart task rules xs zs) k))
      (beside_in xs ys zs (and_right (list_all (are_apart task rules x) ys) (all_apart task rules xs ys) h) (and_right (list_all (are_apart task rules x) zs) (all_apart task rules xs zs) k))

  beside_left : (xs ys zs : List Step) → all_apart task rules xs (ys ++ zs) ≡ true → all_apart task rules xs ys ≡ true
  beside_left [] ys zs h = refl
  beside_left (x ∷ xs) ys zs h = and_in (list_all (are_apart task rules x) ys) (all_apart task rules xs ys)
      (all_left (are_apart task rules x) ys zs (and_left (list_all (are_apart task rules x) (ys ++ zs)) (all_apart task rules xs (ys ++ zs)) h)) (beside_left xs ys zs (and_right (list_all (are_apart task rules x) (ys ++ zs)) (all_apart task rules xs (ys ++ zs)) h))

  beside_right : (xs ys zs : List Step) → all_apart task rules xs (ys ++ zs) ≡ true → all_apart task rules xs zs ≡ true
  beside_right [] ys zs h = refl
  beside_right (x ∷ xs) ys zs h = and_in (list_all (are_apart task rules x) zs) (all_apart task rules xs zs)
      (all_right (are_apart task rules x) ys zs (and_left (list_all (are_apart task rules x) (ys ++ zs)) (all_apart task rules xs (ys ++ zs)) h)) (beside_right xs ys zs (and_right (list_all (are_apart task rules x) (ys ++ zs)) (all_apart task rules xs (ys ++ zs)) h))

  none_beside : (xs : List Step) → all_apart task rules xs [] ≡ true
  none_beside [] = refl
  none_beside (x ∷ xs) = none_beside xs

  each_in : (xs ys : List Step) → each_apart task rules xs ≡ true → each_apart task rules ys ≡ true → all_apart task rules xs ys ≡ true → each_apart task rules (xs ++ ys) ≡ true
  each_in [] ys h k l = k
  each_in (x ∷ xs) ys h k l = and_in (list_all (are_apart task rules x) (xs ++ ys)) (each_apart task rules (xs ++ ys))
      (all_append (are_apart task rules x) xs ys (and_left (list_all (are_apart task rules x) xs) (each_apart task rules xs) h) (and_left (list_all (are_apart task rules x) ys) (all_apart task rules xs ys) l))
      (each_in xs ys (and_right (list_all (are_apart task rules x) xs) (each_apart task rules xs) h) k (and_right (list_all (are_apart task rules x) ys) (all_apart task rules xs ys) l))

  each_out : (xs ys : List Step) → each_apart task rules (xs ++ ys) ≡ true → (each_apart task rules xs ≡ true) × (each_apart task rules ys ≡ true) × (all_apart task rules xs ys ≡ true)
  each_out [] ys h = (refl, h, refl)
  each_out (x ∷ xs) ys h = let r = each_out xs ys (and_right (list_all (are_apart task rules x) (xs ++ ys)) (each_apart task rules (xs ++ ys)) h) in
      let l = and_left (list_all (are_apart task rules x) (xs ++ ys)) (each_apart task rules (xs ++ ys)) h in (
        and_in (list_all (are_apart task rules x) xs) (each_apart task rules xs) (all_left (are_apart task rules x) xs ys l) r.0,
        r.1,
        and_in (list_all (are_apart task rules x) ys) (all_apart task rules xs ys) (all_right (are_apart task rules x) xs ys l) r.2,
      )

  lines_in : (l : PlanLine) (xs : List Step) (ms : List PlanLine) → all_apart task rules xs (flat_map (line_steps task) ms) ≡ true → AllMet (map (λ m. duty (reason.Clash l.line m.line) (all_apart task rules xs (line_steps task m))) ms)
  lines_in l xs [] h = tt
  lines_in l xs (m ∷ ms) h = (beside_left xs (line_steps task m) (flat_map (line_steps task) ms) h, lines_in l xs ms (beside_right xs (line_steps task m) (flat_map (line_steps task) ms) h))

  lines_out : (l : PlanLine) (xs : List Step) (ms : List PlanLine) → AllMet (map (λ m. duty (reason.Clash l.line m.line) (all_apart task rules xs (line_steps task m))) ms) → all_apart task rules xs (flat_map (line_steps task) ms) ≡ true
  lines_out l xs [] h = none_beside xs
  lines_out l xs (m ∷ ms) h = beside_in xs (line_steps task m) (flat_map (line_steps task) ms) h.0 (lines_out l xs ms h.1)

  timed_in : (l : PlanLine) (xs ts : List Step) → all_apart task rules xs ts ≡ true → AllMet (map (λ s. duty (reason.ClashTimed l.line s.time) (all_apart task rules xs (s ∷ []))) ts)
  timed_in l xs [] h = tt
  timed_in l xs (s ∷ ts) h = (beside_left xs (s ∷ []) ts h, timed_in l xs ts (beside_right xs (s ∷ []) ts h))

  timed_out : (l : PlanLine) (xs ts : List Step) → AllMet (map (λ s. duty (reason.ClashTimed l.line s.time) (all_apart task rules xs (s ∷ []))) ts) → all_apart task rules xs ts ≡ true
  timed_out l xs [] h = none_beside xs
  timed_out l xs (s ∷ ts) h = beside_in xs (s ∷ []) ts h.0 (timed_out l xs ts h.1)

  clashes_in : (plan : Plan) → each_apart task rules (flat_map (line_steps task) plan) ≡ true → all_apart task rules (flat_map (line_steps task) plan) (timed_steps task) ≡ true → AllMet (clash_duties task rules plan)
  clashes_in [] h k = tt
  clashes_in (l ∷ ls) h k =
      let r = each_out (line_steps task l) (flat_map (line_steps task) ls) h in
      AllMet-append (duty (reason.Clash l.line l.line) (each_apart task rules (line_steps task l)) ∷ map (λ m. duty (reason.Clash l.line m.line) (all_apart task rules (line_steps task l) (line_steps task m))) ls ++ map (λ s. duty (reason.ClashTimed l.line s.time) (all_apart task rules (line_steps task l) (s ∷ []))) (timed_steps task)) (clash_duties task rules ls)
      (AllMet-append (duty (reason.Clash l.line l.line) (each_apart task rules (line_steps task l)) ∷ map (λ m. duty (reason.Clash l.line m.line) (all_apart task rules (line_steps task l) (line_steps task m))) ls) (map (λ s. duty (reason.ClashTimed l.line s.time) (all_apart task rules (line_steps task l) (s ∷ []))) (timed_steps task))
      (r.0, lines_in l (line_steps task l) ls r.2)
      (timed_in l (line_steps task l) (timed_steps task) (all_left (λ x. list_all (are_apart task rules x) (timed_steps task)) (line_steps task l) (flat_map (line_steps task) ls) k)))
      (clashes_in ls r.1 (all_right (λ x. list_all (are_apart task rules x) (timed_steps task)) (line_steps task l) (flat_map (line_steps task) ls) k))

  clashes_out : (plan : Plan) → AllMet (clash_duties task rules plan) → (each_apart task rules (flat_map (line_steps task) plan) ≡ true) × (all_apart task rules (flat_map (line_steps task) plan) (timed_steps task) ≡ true)
  clashes_out [] h = (refl, refl)
  clashes_out (l ∷ ls) h =
      let firsts = duty (reason.Clash l.line l.line) (each_apart task rules (line_steps task l)) ∷ map (λ m. duty (reason.Clash l.line m.line) (all_apart task rules (line_steps task l) (line_steps task m))) ls in
      let seconds = map (λ s. duty (reason.ClashTimed l.line s.time) (all_apart task rules (line_steps task l) (s ∷ []))) (timed_steps task) in
      let here = AllMet-left (firsts ++ seconds) (clash_duties task rules ls) h in
      let mine = AllMet-left firsts seconds here in
      let rest = clashes_out ls (AllMet-right (firsts ++ seconds) (clash_duties task rules ls) h) in (
        each_in (line_steps task l) (flat_map (line_steps task) ls) mine.0 rest.0 (lines_out l (line_steps task l) ls mine.1),
        all_append (λ x. list_all (are_apart task rules x) (timed_steps task)) (line_steps task l) (flat_map (line_steps task) ls) (timed_out l (line_steps task l) (timed_steps task) (AllMet-right firsts seconds here)) rest.1,
      )

-- eight lists of duties, one after another
append_eight : (a b c d e f g h : List (Duty Reason)) → AllMet a → AllMet b → AllMet c → AllMet d → AllMet e → AllMet f → AllMet g → AllMet h → AllMet (a ++ b ++ c ++ d ++ e ++ f ++ g ++ h)
append_eight a b c d e f g h p q r s t u v w = AllMet-append (a ++ b ++ c ++ d ++ e ++ f ++ g) h (AllMet-append (a ++ b ++ c ++ d ++ e ++ f) g (AllMet-append (a ++ b ++ c ++ d ++ e) f (AllMet-append (a ++ b ++ c ++ d) e (AllMet-append (a ++ b ++ c) d (AllMet-append (a ++ b) c (AllMet-append a b p q) r) s) t) u) v) w

split_eight : (a b c d e f g h : List (Duty Reason)) → AllMet (a ++ b ++ c ++ d ++ e ++ f ++ g ++ h) → AllMet a × AllMet b × AllMet c × AllMet d × AllMet e × AllMet f × AllMet g × AllMet h
split_eight a b c d e f g h m =
    let m7 = AllMet-left (a ++ b ++ c ++ d ++ e ++ f ++ g) h m in
    let m6 = AllMet-left (a ++ b ++ c ++ d ++ e ++ f) g m7 in
    let m5 = AllMet-left (a ++ b ++ c ++ d ++ e) f m6 in
    let m4 = AllMet-left (a ++ b ++ c ++ d) e m5 in
    let m3 = AllMet-left (a ++ b ++ c) d m4 in
    let m2 = AllMet-left (a ++ b) c m3 in
    (AllMet-left a b m2, AllMet-right a b m2, AllMet-right (a ++ b) c m3, AllMet-right (a ++ b ++ c) d m4, AllMet-right (a ++ b ++ c ++ d) e m5, AllMet-right (a ++ b ++ c ++ d ++ e) f m6, AllMet-right (a ++ b ++ c ++ d ++ e ++ f) g m7, AllMet-right (a ++ b ++ c ++ d ++ e ++ f ++ g) h m)

-- a formed plan is valid exactly where each duty is met
pub valid-duties : (task : TaskParts) (rules : Rules) (plan : Plan) → IsFormed task plan → Valid task rules plan ↔ AllMet (duties task rules plan)
unfolding duties
valid-duties task rules plan formed = (there, back)
  where
    there : Valid task rules plan → AllMet (duties task rules plan)
    there v = append_eight _ _ _ _ _ _ _ _
        (met_in (λ l. reason.Time l.line) (is_in_time rules) plan v.in_time)
        (met_in (λ l. reason.Duration l.line) (has_fit_duration task rules plan) plan v.durations)
        (clashes_in task rules plan (and_left (each_apart task rules (flat_map (line_steps task) plan)) (all_apart task rules (flat_map (line_steps task) plan) (timed_steps task)) v.apart) (and_right (each_apart task rules (flat_map (line_steps task) plan)) (all_apart task rules (flat_map (line_steps task) plan) (timed_steps task)) v.apart))
        (met_in (λ l. reason.Start l.line) (can_start task plan) plan v.starts)
        (met_in (λ l. reason.End l.line) (can_end task plan) plan v.ends)
        (over_alls_in task plan plan (all_map (HoldsOverAll task plan) (λ l. AllMet (line_over_alls task plan l)) plan (λ l h. over_all-segments task plan l h) v.over_all))
        (v.goal, tt)
        (numbered_in (λ c. met c (trace task plan)) 1 task.hard v.constraints)

    back : AllMet (duties task rules plan) → Valid task rules plan
    back m = let r = split_eight (map (λ l. duty (reason.Time l.line) (is_in_time rules l)) plan) (map (λ l. duty (reason.Duration l.line) (has_fit_duration task rules plan l)) plan) (clash_duties task rules plan) (map (λ l. duty (reason.Start l.line) (can_start task plan l)) plan) (map (λ l. duty (reason.End l.line) (can_end task plan l)) plan) (over_alls task plan plan) (duty reason.Goal (holds task.goal (last_state task plan)) ∷ []) (map (λ c. duty (reason.Constraint c.0) (met c.1 (trace task plan))) (enumerate_from 1 task.hard)) m in
        let c = clashes_out task rules plan r.2 in
        record {
          formed = formed;
          in_time = met_out (λ l. reason.Time l.line) (is_in_time rules) plan r.0;
          durations = met_out (λ l. reason.Duration l.line) (has_fit_duration task rules plan) plan r.1;
          apart = and_in (each_apart task rules (flat_map (line_steps task) plan)) (all_apart task rules (flat_map (line_steps task) plan) (timed_steps task)) c.0 c.1;
          starts = met_out (λ l. reason.Start l.line) (can_start task plan) plan r.3;
          ends = met_out (λ l. reason.End l.line) (can_end task plan) plan r.4;
          over_all = every_instant-every_segment task plan formed (over_alls_out task plan plan r.5);
          goal = r.6.0;
          constraints = numbered_out (λ c. met c (trace task plan)) 1 task.hard r.7;
        }
