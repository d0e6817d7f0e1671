-- What the code's values stand for.
use Rattle.std.specs.Prelude.{ℕ, List, map, Option}
use Rattle.std.specs.Borrow.{Bor}
use Rattle.gq_tree.specs.declared.types.TypeRef.{TypeRef}
use Rattle.gq_table.specs.declared.results.Outcome.{Outcome}
use Rattle.gq_meaning.specs.Depth.{depth}
use Rattle.gq_tree.specs.Plain.{erase_values}
use Rattle.std.specs.Option.{option_map, option_map_or}
use Rattle.gq_tree.specs.declared.tree.Field.{Field}
use Rattle.gq_tree.specs.declared.tree.Selection.TheViews.{out-Field}
use Rattle.gq_tree.specs.Views.{name_of, alias_of, argument_view, below_of, type_view}
use Rattle.gq_meaning.specs.Selected.{key_of, set_of}
use Rattle.gq_table.specs.Views.{answer_view}
use Rattle.gq_meaning.specs.Values.{Text}
use Rattle.gq_meaning.specs.Results.{Answer}
use Rattle.gq_meaning.specs.Expand.{Asked, Setting}
use Rattle.gq_meaning.specs.Response.{FieldType, setting}
use Rattle.gq_meaning.specs.Views.{set_in}
use Rattle.gq_collect.specs.declared.collect.Taken.{Taken}
use Rattle.gq_collect.specs.declared.world.World.{World}
use Rattle.gq_collect.specs.World.{given_by}

abbrev pub asked_of : Taken → Asked
asked_of t = record { key = t.key.now; name = t.name.now; arguments = erase_values (map argument_view t.arguments.now); set = set_in t.set.now }

-- the field of the tree
abbrev pub asked_in : Field → Asked
asked_in f = record {
  key = key_of (alias_of (out-Field f).alias) (name_of (out-Field f).name);
  name = (out-Field f).name.text;
  arguments = erase_values (map argument_view (out-Field f).arguments.items);
  set = set_of (below_of (out-Field f).set);
}

abbrev pub asked_all : List Taken → List Asked
asked_all ts = map asked_of ts

abbrev pub setting_in : World → Text → Setting
setting_in w object = setting (given_by w) object

abbrev pub type_seen : Option (Bor TypeRef) → Option FieldType
type_seen o = option_map (λ t. type_view t.now) o

abbrev pub found_seen : Option (Bor Outcome) → Option Answer
found_seen o = option_map (λ r. answer_view r.now) o

-- how deep the results in it nest
abbrev pub depth_seen : Option (Bor Outcome) → ℕ
depth_seen o = option_map_or (λ r. depth (answer_view r.now).below) o 0
