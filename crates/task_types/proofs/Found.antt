-- What an index finds for a token are the snap actions that touch it.
use Rattle.std.proofs.Common.{◌≡◌, refl, ap, ◌∙◌, ℕ, ◌||◌, ◌==◌, List, [], ◌∷◌}
use Rattle.std.specs.List.{flat_map}
use Rattle.std.proofs.lemmas.List.Folds.{list_any-append}
use Rattle.task_types.specs.declared.parts.TaskParts.{TaskParts}
use Rattle.task_types.specs.declared.touches.relations.Relation.{Relation}
use Rattle.task_types.specs.declared.touches.relations.Relation.TheVariants.{ChangedFacts, WrittenFluents, BentFluents}
use Rattle.task_types.specs.declared.touches.index.Index.{Index}
use Rattle.task_types.specs.declared.tokens.Token.{Token}
use Rattle.task_types.specs.declared.tokens.Token.TheVariants as token
use Rattle.task_types.specs.declared.tokens.Touch.{Touch}
use Rattle.task_types.specs.declared.tokens.Touch.TheVariants.{Look, Mark, Bend}
use Rattle.task_types.specs.Sets.{is_in, meet}
use Rattle.task_types.specs.Plan.{snap_of}
use Rattle.task_types.specs.Related.{related, Tells, IsIndex, AreTouching, found, row_of}

rows_tell : (task : TaskParts) (r : Relation) (rows : List (List ℕ)) → Tells task r rows → (ns : List ℕ) (s : ℕ) → is_in s (flat_map (row_of rows) ns) ≡ meet ns (related task r (snap_of task s))
rows_tell task r rows h [] s = refl
rows_tell task r rows h (n ∷ ns) s = list_any-append (λ y. y == s) (row_of rows n) (flat_map (row_of rows) ns) ∙ ap (λ b. b || is_in s (flat_map (row_of rows) ns)) (h n s) ∙ ap (λ b. is_in n (related task r (snap_of task s)) || b) (rows_tell task r rows h ns s)

pub found-touching : (task : TaskParts) (index : Index) → IsIndex task index → (touch : Touch) (t : Token) → AreTouching task touch t (found index touch t)
found-touching task index h Look (token.Fact f) s = h.looked_facts f s
found-touching task index h Look (token.Fluent f) s = h.looked_fluents f s
found-touching task index h Look (token.Comparison a fluents) s = h.own_actions a s
found-touching task index h Look (token.Formulas facts) s = refl
found-touching task index h Look (token.Action a) s = refl
found-touching task index h Mark (token.Fact f) s = h.changed_facts f s
found-touching task index h Mark (token.Fluent f) s = h.written_fluents f s
found-touching task index h Mark (token.Comparison a fluents) s = rows_tell task WrittenFluents index.written_fluents h.written_fluents fluents s
found-touching task index h Mark (token.Formulas facts) s = rows_tell task ChangedFacts index.changed_facts h.changed_facts facts s
found-touching task index h Mark (token.Action a) s = h.own_actions a s
found-touching task index h Bend (token.Fact f) s = refl
found-touching task index h Bend (token.Fluent f) s = h.bent_fluents f s
found-touching task index h Bend (token.Comparison a fluents) s = rows_tell task BentFluents index.bent_fluents h.bent_fluents fluents s
found-touching task index h Bend (token.Formulas facts) s = refl
found-touching task index h Bend (token.Action a) s = refl
