use Rattle.std.proofs.Common.{◌≡◌, ◌∙◌, ap, min, List, ℕ}
use Rattle.ground_world.specs.World.{columns}
use Rattle.ground_world.specs.Bindings.{choice_count}
use Rattle.ground_world.specs.Shown.{columns_of, world_of}
use Rattle.ground_world.specs.declared.choosing.Variable.{Variable}
use Rattle.ground_world.proofs.Capped.{inner-capped}
use Rattle.ground_world.proofs.outer_bindings.inner_count.Goals as goal

pub returns : goal.returns
returns c = λ n h.
    let w = world_of c.args.tables.now in
    let ways = c.choices_within-ways.result in
    let all : ways ≡ min 1048577 (choice_count (columns w c.args.groups.now)) =
    c.choices_within-ways.ensures ∙ ap (λ (vs : List Variable). min 1048577 (choice_count (columns_of vs))) c.as_slice-slots.ensures
    ∙ ap (λ (cs : List (List ℕ)). min 1048577 (choice_count cs)) c.in_ok-variables.ensures.columns in
    c.min.ensures ∙ ap (λ k. min k 1048577) c.saturating_mul.ensures
    ∙ inner-capped c.args.outer ways n (choice_count (columns w c.args.groups.now)) h all
