-- What the code's fields, sets and tables stand for.
use Rattle.std.specs.Prelude.{List, length, map}
use Rattle.gq_tree.specs.Views.{name_of, alias_of, argument_view, below_of, sels_view}
use Rattle.gq_tree.specs.declared.tree.Selection.TheViews.{out-Field}
use Rattle.gq_types.specs.Look.{types_view, text_of}
use Rattle.gq_document.specs.FieldSets.{SetOf, FieldAt}
use Rattle.gq_merging.specs.Helping.SetTables.{MemberOf, RowOf}
use Rattle.gq_merging.specs.Helping.HubTables.{SpreadOf}
use Rattle.gq_merging.specs.declared.sets.StandingField.{StandingField}
use Rattle.gq_merging.specs.declared.sets.StandingSet.{StandingSet}
use Rattle.gq_merging.specs.declared.sets.StandingSpread.{StandingSpread}
use Rattle.gq_merging.specs.declared.rows.Member.{Member}
use Rattle.gq_merging.specs.declared.rows.Row.{Row}
use Rattle.gq_merging.specs.Helping.PairTables.{MetOf, LookOf}
use Rattle.gq_merging.specs.declared.pairs.Met.{Met}
use Rattle.gq_merging.specs.declared.pairs.Look.{Look}

abbrev pub field_at : StandingField → FieldAt
field_at f = record {
  file = f.file;
  parent = text_of f.parent;
  alias = alias_of (out-Field f.field.now).alias;
  name = name_of (out-Field f.field.now).name;
  arguments = map argument_view (out-Field f.field.now).arguments.items;
  place = (out-Field f.field.now).span;
  below = below_of (out-Field f.field.now).set;
}

abbrev pub fields_at : List StandingField → List FieldAt
fields_at fs = map field_at fs

abbrev pub set_at : StandingSet → SetOf
set_at s = record { file = s.file; parent = text_of s.parent; selections = sels_view s.selections.now }

abbrev pub sets_at : List StandingSet → List SetOf
sets_at ss = map set_at ss

abbrev pub spread_at : StandingSpread → SpreadOf
spread_at s = record { text = s.name.now; alone = sels_view s.alone.now }

abbrev pub all_spreads_at : List StandingSpread → List SpreadOf
all_spreads_at ss = map spread_at ss

abbrev pub member_view : Member → MemberOf
member_view m = record { field_at = field_at m.it; below = m.below }

abbrev pub members_view : List Member → List MemberOf
members_view ms = map member_view ms

abbrev pub row_view : Row → RowOf
row_view r = record { set = set_at r.set; members = members_view r.members.items; spreads = r.spreads.items }

abbrev pub rows_view : List Row → List RowOf
rows_view rs = map row_view rs

abbrev pub met_view : Met → MetOf
met_view m = record { left = member_view m.left; right = member_view m.right }

abbrev pub look_view : Look → LookOf
look_view l = record {
  entries = types_view l.types.now;
  purpose = l.purpose;
  rows = rows_view l.rows.now;
  count = length l.rows.now;
  size = l.size;
}
