-- Where the selections of a project stand in its documents.
use Rattle.std.proofs.Common.{◌≡◌, ℕ, List, ◌++◌, Option, Some, slice_get, Contains, refl, sym, ap, ◌∙◌, subst}
use Rattle.gq_text.specs.declared.place.Span.{Span}
use Rattle.gq_tree.specs.declared.tree.OperationKind.{OperationKind}
use Rattle.gq_tree.specs.Forest.{more, row}
use Rattle.gq_tree.specs.Plain.{Head, Sel, Sels, Def}
use Rattle.gq_types.specs.Entries.{Text, EntryOf}
use Rattle.gq_types.specs.Roots.{root_of}
use Rattle.gq_tree.specs.Readings.{ParsedOf}
use Rattle.gq_document.specs.Definitions.{OperationOf, FragmentOf, operations_of, fragments_of}
use Rattle.gq_document.specs.Selections.{SelectedOf, IsSelectionWithin, of_operation, of_fragment}
use Rattle.gq_meaning.specs.Selected.{set_of}
use Rattle.gq_meaning.specs.Thin.{IsIn}
use Rattle.gq_meaning.specs.Rewritten.{Static}
use Rattle.gq_laws.specs.Rewriting.KnownBefore.{IsTyped, type_below, EndsSet, ends_here}
use Rattle.gq_laws.specs.Rewriting.Documents as documents
use Rattle.gq_laws.specs.Rewriting.Documents.{OfSet, IsSetOf, EndsSetIn, AreTyped}
use Rattle.gq_laws.specs.Rewriting.Edits.{HasDocument}
use Rattle.gq_laws.specs.Rewriting.Statics.{static_of, roots_in}
use Rattle.gq_laws.proofs.Rewriting.Located.{number_in, each_in, set_at, bounds}
use Rattle.gq_laws.proofs.Rewriting.Parents.{Begins, begins, ends_again, ends_below, ends_row}
use Rattle.gq_laws.proofs.Rewriting.Executables.{trees_read, StandsIn, fragment_stands, operation_stands, Rooted, Selected, root_is}

-- the last selections of a set in a set, below a selection, and behind some
pub ends_in : (static : Static) (roots : OperationKind → Text) (tree : List (Def Span)) {u v : Text} {mid last : Sels Span} → EndsSetIn static roots tree u mid → EndsSet static u mid v last → EndsSetIn static roots tree v last
ends_in static roots tree s e = record { definition = s.definition; stands = s.stands; root = s.root; set = s.set; is_set = s.is_set; ends = ends_again static s.ends e }

pub below_in : (static : Static) (roots : OperationKind → Text) (tree : List (Def Span)) {u c : Text} {h : Head Span} {b r : Sels Span} → EndsSetIn static roots tree u (more h b r) → type_below static u h ≡ Some c → EndsSetIn static roots tree c b
below_in static roots tree s k = record { definition = s.definition; stands = s.stands; root = s.root; set = s.set; is_set = s.is_set; ends = ends_below static s.ends k }

pub row_in : (static : Static) (roots : OperationKind → Text) (tree : List (Def Span)) {u : Text} (before others : List (Sel Span)) → EndsSetIn static roots tree u (row (before ++ others)) → EndsSetIn static roots tree u (row others)
row_in static roots tree {u} before others s = ends_in static roots tree s (ends_row static u before others)

-- A selection of a document, with the type of its parent.
pub record BeginsIn (static : Static) (roots : OperationKind → Text) (tree : List (Def Span)) (s : SelectedOf) : Type 0 where
  pub parent : Text
  pub is_parent : s.parent ≡ Some parent
  pub rest : Sels Span
  pub ends : EndsSetIn static roots tree parent (more s.selection.label s.selection.below rest)

module _ (readings : List ParsedOf) (es : List EntryOf) where
  abbrev static : Static
  static = static_of es

  abbrev roots : OperationKind → Text
  roots = roots_in es

  -- a definition that stands in the document
  in_document : (file : ℕ) (document : HasDocument (trees_read readings) file) (k : ℕ) (d : Def Span) → file ≡ k → StandsIn (trees_read readings) k d → IsIn d document.tree
  in_document file document k d e s =
      let there : Some document.tree ≡ Some s.tree = sym document.is_tree ∙ ap (slice_get (trees_read readings)) e ∙ s.is_tree in
      let same : s.tree ≡ document.tree = cc in
      subst (IsIn d) same s.stands

  pub operation_ends : (o : OperationOf) → Contains (operations_of readings) o → (document : HasDocument (trees_read readings) o.file) → EndsSetIn static roots document.tree (roots o.kind) o.set
  operation_ends o c document = let s = operation_stands readings o c in
      record { definition = _; stands = in_document o.file document o.file _ refl s; root = roots o.kind; set = o.set; is_set = documents.of_operation; ends = ends_here }

  pub fragment_ends : (f : FragmentOf) → Contains (fragments_of readings) f → (document : HasDocument (trees_read readings) f.file) → EndsSetIn static roots document.tree f.on.text f.set
  fragment_ends f c document = let s = fragment_stands readings f c in
      record { definition = _; stands = in_document f.file document f.file _ refl s; root = f.on.text; set = f.set; is_set = documents.of_fragment; ends = ends_here }

  -- what stands among the selections of a set in place
  in_set : (file : ℕ) (document : HasDocument (trees_read readings) file) → AreTyped static roots (trees_read readings) → (d : Def Span) → IsIn d document.tree → {t : Text} {set : Sels Span} → IsSetOf roots d t set →
      (parent inner : Option Text) (s : Sel Span) → parent ≡ Some t → IsSelectionWithin es parent set inner s → Begins static t set inner s
  in_set file document typed d m {t} {set} is_set parent inner s e w =
      let b = bounds roots 0 document.tree document.in_place d m is_set in
      let known = each_in (OfSet roots (λ t set. IsTyped static t (set_of set))) 0 (trees_read readings) typed document.tree (number_in (trees_read readings) file document.tree document.is_tree) d m in
      begins es t b.from b.to e w (set_at roots (λ t set. IsTyped static t (set_of set)) d is_set known) b.nested

  pub selection_ends : Rooted readings es → AreTyped static roots (trees_read readings) → (s : SelectedOf) → Selected readings es s → (document : HasDocument (trees_read readings) s.file) → BeginsIn static roots document.tree s
  selection_ends rooted typed s (of_operation {o} c w) document =
      let there = operation_stands readings o c in
      let m = in_document s.file document o.file _ w.0 there in
      let t = rooted o c in
      let b = in_set s.file document typed _ m documents.of_operation (root_of es o.kind) s.parent s.selection (t.1 ∙ ap Some (sym (root_is readings es o.kind t.0 t.1))) w.1 in
      record { parent = b.parent; is_parent = b.is_parent; rest = b.rest; ends = record { definition = _; stands = m; root = roots o.kind; set = o.set; is_set = documents.of_operation; ends = b.ends } }
  selection_ends rooted typed s (of_fragment {f} c w) document =
      let there = fragment_stands readings f c in
      let m = in_document s.file document f.file _ w.0 there in
      let b = in_set s.file document typed _ m documents.of_fragment (Some f.on.text) s.parent s.selection refl w.1 in
      record { parent = b.parent; is_parent = b.is_parent; rest = b.rest; ends = record { definition = _; stands = m; root = f.on.text; set = f.set; is_set = documents.of_fragment; ends = b.ends } }
