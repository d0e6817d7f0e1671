-- What the code's fragments stand for.
use Rattle.std.specs.Prelude.{map}
use Rattle.gq_tree.specs.Views.{name_of, directive_view, sels_view}
use Rattle.gq_document.specs.Definitions.{FragmentOf}
use Rattle.gq_reshape.specs.declared.fragments.FragmentIn.{FragmentIn}

abbrev pub fragment_found : FragmentIn → FragmentOf
fragment_found f = record {
  file = f.file;
  name = name_of f.definition.now.name;
  on = name_of f.definition.now.on;
  directives = map directive_view f.definition.now.directives.items;
  set = sels_view f.definition.now.set.items.items;
  braces = f.definition.now.set.span;
  place = f.definition.now.span;
}
