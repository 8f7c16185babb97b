use Rattle.std.proofs.Common.{◌≡◌, ◌∙◌, ap, ap₂, sym, refl, ℕ, List, map, ◌&&◌, Bool, true, false, [], ◌∷◌, Vec, if◌then◌else◌}
use Rattle.std.specs.declared.alloc.Global.{Global}
use Rattle.std.proofs.lemmas.List.{take_all}
use Rattle.pddl_names.specs.Declarations.{with_new}
use Rattle.ground_world.specs.Shown.{world_of}
use Rattle.ground_world.specs.Building.{is_changing}
use Rattle.ground_world.proofs.Ascending.{has}
use Rattle.ground_world.proofs.FluentOrder.{kept-more}
use Rattle.ground_world.proofs.fluents.fluents.Goals as goal

none : (b : Bool) → false ≡ (b && false)
none true = refl
none false = refl

pub loop-fluent-init : goal.loop-fluent-init
loop-fluent-init c = λ a. ap (λ l. has l a) c.new-fluents.ensures ∙ none (is_changing (world_of c.args.tables.now) c.args.functions.now a)

pub loop-fluent-preserved : goal.loop-fluent-preserved
loop-fluent-preserved c =
    let passes = is_changing (world_of c.args.tables.now) c.args.functions.now in
    kept-more passes c.keys-fluent-items.result.now c.loop-fluent.fluent-index c.fluent-item.result c.loop-fluent.fluents c.add_fluent.new.fluents
    c.loop-fluent-test.true c.fluent-item.is c.loop-fluent.invariant
    (c.in_ok-add_fluent.ensures ∙ ap (λ (f : List ℕ). with_new c.loop-fluent.fluents (if passes f then f ∷ [] else [])) c.as_slice.ensures.value)

pub returns : goal.returns
returns c =
    let passes = is_changing (world_of c.args.tables.now) c.args.functions.now in
    record {
      sorted = c.in_ok-sort.ensures.sorted;
      members = λ a. c.in_ok-sort.ensures.members a ∙ c.loop-fluent.invariant a
          ∙ ap (λ b. passes a && b)
          (ap (λ (l : List (Vec ℕ Global)). has (map (λ k. k.items) l) a) (take_all c.loop-fluent.fluent-index c.keys-fluent-items.result.now c.loop-fluent-test.false)
          ∙ ap (λ (l : List (List ℕ)). has l a) c.keys-fluent-items.ensures);
    }
