use Rattle.std.proofs.Common.{◌∙◌, List, ℕ, ap}
use Rattle.std.specs.Prelude.{map, position}
use Rattle.std.specs.Str.{str_to_ascii_lowercase}
use Rattle.plan_files.specs.Entries.{Entry, same_entry, object_entry}
use Rattle.plan_files.proofs.Found.{entry, object-found}
use Rattle.plan_files.proofs.names.object_of.Goals as goal

pub returns : goal.returns
returns c =
    let objects = c.args.names.now.task.now.parts.objects in
    c.find.ensures (map {B = Entry} object_entry objects) c.requires.objects
    ∙ ap (λ (e : Entry). position (same_entry e) (map {B = Entry} object_entry objects)) (c.in_ok-key.ensures ∙ ap (λ (os : List ℕ). entry (str_to_ascii_lowercase c.args.word.now) os) c.new.ensures.items)
    ∙ object-found objects c.args.word.now
