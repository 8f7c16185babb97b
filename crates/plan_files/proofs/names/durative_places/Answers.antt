use Rattle.std.proofs.Common.{◌^◌, List, ap, ◌∙◌, map}
use Rattle.task_types.specs.declared.actions.Schema.{Schema}
use Rattle.plan_files.specs.Entries.{Entry, schema_entry, durative_of}
use Rattle.plan_files.proofs.Instances.{schemas-few}
use Rattle.plan_files.proofs.Found.{durative-few}
use Rattle.plan_files.proofs.names.durative_places.Goals as goal

pub places_of-requires : goal.places_of-requires
places_of-requires c = durative-few c.in_ok-keys.keys.items c.args.task.now.parts.schemas (2 ^ 32)
    (c.in_ok-keys.ensures ∙ ap (λ (ss : List Schema). map {B = Entry} schema_entry (durative_of ss)) c.schemas.ensures) (schemas-few c.args.task.now.parts c.args.task.now.well_made)
