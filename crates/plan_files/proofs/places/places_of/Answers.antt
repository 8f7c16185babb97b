use Rattle.std.proofs.Common.{◌≡◌, ℕ, List, [], ◌∷◌, length, refl, sym, ap, ◌∙◌, cond, Some}
use Rattle.std.specs.HashMap.{get}
use Rattle.plan_files.specs.Entries.{Key}
use Rattle.plan_files.proofs.Filling.{same_key, filled-next, filled-end}
use Rattle.plan_files.proofs.places.places_of.Goals as goal

none : (xs : List Key) → length xs ≡ 0 → xs ≡ []
none [] e = refl
none (x ∷ xs) e = absurd (cc)

pub loop-key-preserved : goal.loop-key-preserved
loop-key-preserved c = filled-next c.args.keys.items c.loop-key.keys.items c.pop.new.self.items c.in-Some.key c.loop-key.places c.insert.new.self c.in-Some.ensures.items c.loop-key.invariant
    (λ q. c.in_ok-insert.ensures.updates.0 q
    ∙ ap (λ (v : ℕ). cond (same_key c.in-Some.key q) (Some v) (get same_key c.loop-key.places q)) (c.number_of.ensures ∙ c.len.ensures ∙ c.pop.new.self.ok.0))

pub returns : goal.returns
returns c = filled-end c.args.keys.items c.loop-key.keys.items c.loop-key.places (none c.loop-key.keys.items (sym c.loop-key.keys.ok.0 ∙ c.in_default.ensures.cases.0)) c.loop-key.invariant
