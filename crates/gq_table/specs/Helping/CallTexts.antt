-- Texts by which the rows of a table are found: calls that are one have one text. No contract of a public call is about them.
use Rattle.std.specs.Prelude.{[], ◌++◌, Option, Some, None, codes, decimal, if◌then◌else◌}
use Rattle.gq_tree.specs.Forest.{none, more}
use Rattle.gq_meaning.specs.Values as value
use Rattle.gq_meaning.specs.Values.{Text, Leaf, Says, Part, Value, Values}
use Rattle.gq_meaning.specs.Results.{Call}

abbrev pub leaf_text : Leaf → Text
leaf_text (value.boolean b) = if b then codes "true" else codes "false"
leaf_text (value.number spelling) = spelling
leaf_text (value.text content) = codes "\"" ++ content

abbrev pub says_text : Says → Text
says_text value.null = codes "null"
says_text (value.leaf v) = leaf_text v
says_text (value.enum name) = name
says_text value.list = codes "["
says_text value.object = codes "{"

abbrev pub key_text : Option Text → Text
key_text None = []
key_text (Some name) = name ++ codes ":"

abbrev pub values_text : Values → Text
values_text none = []
values_text (more part below rest) = ((key_text part.key ++ (says_text part.says ++ values_text below)) ++ codes ",") ++ values_text rest

abbrev pub content_text : Value → Text
content_text v = key_text v.label.key ++ (says_text v.label.says ++ values_text v.below)

abbrev pub tree_text : Value → Text
tree_text v = content_text v ++ codes ","

abbrev pub call_text : Call → Text
call_text c = decimal c.number ++ (c.type_name ++ (codes "." ++ (c.field ++ (codes "(" ++ values_text c.arguments))))
