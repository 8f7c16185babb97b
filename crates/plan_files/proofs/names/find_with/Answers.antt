use Rattle.std.proofs.Common.{◌≡◌, ◌∙◌, List, ℕ, ap, sym, ◌&&◌, Option, Some}
use Rattle.std.specs.Prelude.{map, position}
use Rattle.std.specs.List.{list_any}
use Rattle.std.specs.Str.{str_to_ascii_lowercase}
use Rattle.task_types.specs.declared.actions.Action.{Action}
use Rattle.task_types.specs.declared.actions.Schema.{Schema}
use Rattle.task_types.specs.WellMade.{arguments_fit}
use Rattle.plan_files.specs.Names.{same_word, action_with}
use Rattle.plan_files.specs.Finding.{fits_some}
use Rattle.plan_files.specs.Entries.{Entry, same_entry, action_entry}
use Rattle.plan_files.proofs.Found.{entry, action-found}
use Rattle.plan_files.proofs.Instances.{found-fits}
use Rattle.plan_files.proofs.names.find_with.Goals as goal

looked : (actions : List Action) (name os : List ℕ) (e : Entry) (o : Option ℕ) → o ≡ position (same_entry e) (map {B = Entry} action_entry actions) → e ≡ entry (str_to_ascii_lowercase name) os
    → position (λ a. same_entry (entry (str_to_ascii_lowercase name) os) (action_entry a)) actions ≡ o
looked actions name os e o f g = sym (f ∙ ap (λ (x : Entry). position (same_entry x) (map {B = Entry} action_entry actions)) g ∙ action-found actions name os)

pub returns-in-Some : goal.returns-in-Some
returns-in-Some c =
    let task = c.args.names.now.task.now.parts in
    let found : action_with task c.args.name.now c.args.objects.items ≡ Some c.in-Some.action =
    looked task.actions c.args.name.now c.args.objects.items _ _ (c.in-Some.ensures (map {B = Entry} action_entry task.actions) c.requires.actions) c.in_ok-key.ensures in
    (found-fits task c.args.names.now.task.now.well_made c.args.name.now c.args.objects.items c.in-Some.action found, found)

pub returns-then-fit_some : goal.returns-then-fit_some
returns-then-fit_some c =
    let task = c.args.names.now.task.now.parts in
    let test = λ (os : List ℕ) (ss : List Schema). list_any (λ s. same_word c.args.name.now s.name && arguments_fit os s.params) ss in
    let fits : c.fit_some.result ≡ fits_some task c.args.name.now c.args.objects.items =
    c.fit_some.ensures ∙ ap (λ os. test os c.schemas.result.now) (c.as_slice.ensures.value ∙ ap (λ (e : Entry). e.1) c.in_ok-key.ensures) ∙ ap (test c.args.objects.items) c.schemas.ensures in
    (sym fits ∙ c.if-fit_some.true, looked task.actions c.args.name.now c.args.objects.items _ _ (c.in-None.ensures (map {B = Entry} action_entry task.actions) c.requires.actions) c.in_ok-key.ensures)
