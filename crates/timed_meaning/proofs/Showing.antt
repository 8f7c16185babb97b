-- A standing by itself shows the state that it told.
use Rattle.std.proofs.Common.{◌≡◌, ◌∙◌, ap, length}
use Rattle.task_types.specs.declared.parts.TaskParts.{TaskParts}
use Rattle.task_types.specs.State as meaning
use Rattle.timed_meaning.specs.declared.standings.Standing.{Standing}
use Rattle.timed_meaning.specs.declared.states.State.{State}
use Rattle.timed_meaning.specs.Answers.{told}
use Rattle.timed_meaning.specs.Standings.{shown, IsKept}
use Rattle.timed_meaning.specs.States.{Shows}

pub shows : (task : TaskParts) (st : Standing) (s : State) (meant : meaning.State) → IsKept task st → shown st ≡ meant → (s.facts.items ≡ st.facts.items) × (s.fluents.items ≡ st.fluents.items) → Shows task s meant
shows task st s meant k m e = record {
  facts = ap length e.0 ∙ k.facts;
  fluents = ap length e.1 ∙ k.fluents;
  state = ap (λ fs. told fs s.fluents.items) e.0 ∙ ap (told st.facts.items) e.1 ∙ m;
}
