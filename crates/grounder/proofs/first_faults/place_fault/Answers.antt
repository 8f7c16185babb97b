use Rattle.std.proofs.Common.{◌≡◌, refl, ap₂, ◌∙◌, Option, Some, None}
use Rattle.ground_world.specs.World.{either}
use Rattle.grounder.specs.declared.faults.GroundFault.{GroundFault}
use Rattle.grounder.proofs.first_faults.place_fault.Goals as goal

last : (o : Option GroundFault) → o ≡ either None (λ f. Some f) o
last None = refl
last (Some f) = refl

pub returns : goal.returns
returns c = c.first_of-2.ensures
    ∙ ap₂ (λ (rest first : Option GroundFault). either rest (λ f. Some f) first)
    (c.first_of.ensures ∙ ap₂ (λ (rest first : Option GroundFault). either rest (λ f. Some f) first) (c.none_at.ensures ∙ last _) c.wide_at-2.ensures)
    c.wide_at.ensures
