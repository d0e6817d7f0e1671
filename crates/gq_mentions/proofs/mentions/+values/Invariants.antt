use Rattle.std.proofs.Common.{◌≡◌, ◌++◌, drop}
use Rattle.std.specs.List.{flat_map}
use Rattle.gq_tree.specs.Forest.{labels}
use Rattle.gq_tree.specs.Views.{values_view, entries_view}
use Rattle.gq_mentions.specs.Mentions.{part_mentions}
use Rattle.gq_mentions.specs.Views.{mentions_view}
use Rattle.gq_mentions.proofs.mentions.+values.Given as goal

abbrev pub invariant-put_items-loop-value : goal.invariant-put_items-loop-value
invariant-put_items-loop-value l =
    mentions_view l.all.items ++ flat_map (part_mentions l.number) (labels (values_view (drop l.value-index l.values)))
    ≡ mentions_view l.initial.all.items ++ flat_map (part_mentions l.number) (labels (values_view l.values))

abbrev pub invariant-put_fields-loop-field : goal.invariant-put_fields-loop-field
invariant-put_fields-loop-field l =
    mentions_view l.all.items ++ flat_map (part_mentions l.number) (labels (entries_view (drop l.field-index l.fields)))
    ≡ mentions_view l.initial.all.items ++ flat_map (part_mentions l.number) (labels (entries_view l.fields))
