-- The uses of variables, as an index tells them, are those of the rules.
use Rattle.std.proofs.Common.{◌≡◌, ℕ, ◌+◌, List, [], ◌∷◌, ◌++◌, Option, Some, Contains, refl, sym, ap, subst, ⊎_elim, flat_map}
use Rattle.std.specs.List.{AllByRecursion, enumerate_from}
use Rattle.std.proofs.lemmas.List.Elements.{Contains-append_left, Contains-append_right, Contains-append_cases, All-contains, All-from_recursion}
use Rattle.gq_text.specs.declared.place.Span.{Span}
use Rattle.gq_tree.specs.Forest.{none, more, labels, labels_in}
use Rattle.gq_tree.specs.Plain.{NameOf, Says, Part, Val, Vals, DirectiveOf, VariableOf, InputOf, Head, Sels, Def, variable, int, float, string, boolean, null, enum, list, object, field, spread, inline, operation, fragment, type_system}
use Rattle.gq_project.specs.declared.document.Doc.{Doc}
use Rattle.gq_tree.specs.Readings as reading
use Rattle.gq_parse.specs.Parsed.{IsParsed, AreParsed}
use Rattle.gq_parse.specs.Parsed as readings
use Rattle.gq_types.specs.Entries.{Text, EntryOf}
use Rattle.gq_types.specs.Arguments.{directive_arguments}
use Rattle.gq_types.specs.Roots.{root_of}
use Rattle.gq_types.proofs.Gathered.{nothing_in, first, later, only, cases_cons, from_flat, to_flat}
use Rattle.gq_tree.specs.Readings.{ParsedOf, definitions_read, in_document}
use Rattle.gq_document.specs.Definitions.{OperationOf, FragmentOf, operation_in, fragment_in}
use Rattle.gq_document.specs.Selections.{SelectedOf, parent_below, IsSelectionWithin, IsOfOperation, IsOfFragment}
use Rattle.gq_document.specs.Selections as selections
use Rattle.gq_index.specs.VariableNames.{says_variable, part_variable, value_variables, argument_variables, directive_variables, head_variables, selection_variables, used_variables}
use Rattle.gq_index.specs.Occurrences.{DefinitionOf, executable_in}
use Rattle.gq_variables.specs.Uses.{PlaceOf, UseOf, part_place, argument_place, field_arguments, directives_of, StandsIn, here, within, after, StandsInValue, StandsInArguments, StandsInDirectives, StandsInSelection, in_arguments, in_directives, IsUsedInOperation, in_selection, in_directive, in_variable, IsUsedInFragment, within_selection, within_directive}
use Rattle.gq_laws.specs.Renaming.Uses.{UsedInOperation, UsedInFragment, UsesAreThoseOfTheRules}
use Rattle.gq_laws.proofs.Renaming.Keyed.{HasKey, KeyedArguments, KeyedDirectives, KeyedHead, KeyedSelections, KeyedDef, document_keyed}

-- a member of a list of which all has a property
pub of_all : {A : Type 0} (P : A → Type 0) (xs : List A) (x : A) → AllByRecursion P xs → Contains xs x → P x
of_all P xs x h c = All-contains P xs x (All-from_recursion P xs h) c

-- the variable that a literal is
is_variable : (s : Says Span) (name : NameOf Span) → Contains (says_variable s) name → (span : Span) × (s ≡ variable name span)
is_variable (variable other place) name c = (place, ap (λ (n : NameOf Span). variable n place) (sym (only other name c)))
is_variable (int text place) name c = nothing_in name c
is_variable (float text place) name c = nothing_in name c
is_variable (string text place) name c = nothing_in name c
is_variable (boolean value place) name c = nothing_in name c
is_variable (null place) name c = nothing_in name c
is_variable (enum other) name c = nothing_in name c
is_variable (list place) name c = nothing_in name c
is_variable (object place) name c = nothing_in name c

abbrev Below : Vals Span → List (NameOf Span)
Below vs = flat_map part_variable (labels vs)

module _ (es : List EntryOf) where
  -- literals in a row
  stands_in : (at : Option (NameOf Span) → PlaceOf) (vs : Vals Span) (name : NameOf Span) → Contains (Below vs) name → (place : PlaceOf) × StandsIn es at vs name place
  stands_in at none name c = nothing_in name c
  stands_in at (more part below rest) name c =
      ⊎_elim
      (λ own. let v = is_variable part.says name own in (at part.key, here v.1))
      (λ others. let p = from_flat part_variable (labels below ++ labels rest) name others in
      ⊎_elim
      (λ inner. let w = stands_in (part_place es (at part.key)) below name (to_flat part_variable (labels below) p.0 name inner p.2) in (w.0, within w.1))
      (λ behind. let w = stands_in at rest name (to_flat part_variable (labels rest) p.0 name behind p.2) in (w.0, after w.1))
      (Contains-append_cases (labels below) (labels rest) p.0 p.1))
      (Contains-append_cases (part_variable part) (flat_map part_variable (labels below ++ labels rest)) name c)

  from_stands : {at : Option (NameOf Span) → PlaceOf} {vs : Vals Span} {name : NameOf Span} {place : PlaceOf} → StandsIn es at vs name place → Contains (Below vs) name
  from_stands (here {part = part} {below = below} {rest = rest} {name = name} {span = span} is) =
      Contains-append_left (part_variable part) (flat_map part_variable (labels below ++ labels rest)) name (subst (λ (s : Says Span). Contains (says_variable s) name) (sym is) (first name name [] refl))
  from_stands (within {part = part} {below = below} {rest = rest} {name = name} inner) =
      let p = from_flat part_variable (labels below) name (from_stands inner) in
      Contains-append_right (part_variable part) (flat_map part_variable (labels below ++ labels rest)) name (to_flat part_variable (labels below ++ labels rest) p.0 name (Contains-append_left (labels below) (labels rest) p.0 p.1) p.2)
  from_stands (after {part = part} {below = below} {rest = rest} {name = name} behind) =
      let p = from_flat part_variable (labels rest) name (from_stands behind) in
      Contains-append_right (part_variable part) (flat_map part_variable (labels below ++ labels rest)) name (to_flat part_variable (labels below ++ labels rest) p.0 name (Contains-append_right (labels below) (labels rest) p.0 p.1) p.2)

  value_stands : (whole : PlaceOf) (v : Val Span) (name : NameOf Span) → Contains (value_variables v) name → (place : PlaceOf) × StandsInValue es whole v name place
  value_stands whole v name c =
      let p = from_flat part_variable (labels_in v) name c in
      stands_in (λ key. whole) (more v.label v.below none) name (to_flat part_variable (labels (more v.label v.below none)) p.0 name (kept p.0 p.1) p.2)
    where
      kept : (p : Part Span) → Contains (labels_in v) p → Contains (labels (more v.label v.below none)) p
      kept p d = ⊎_elim (λ e. first v.label p (labels v.below ++ []) e) (λ b. later v.label p (labels v.below ++ []) (Contains-append_left (labels v.below) [] p b)) (cases_cons v.label p (labels v.below) d)

  from_value : (whole : PlaceOf) (v : Val Span) (name : NameOf Span) (place : PlaceOf) → StandsInValue es whole v name place → Contains (value_variables v) name
  from_value whole v name place s =
      let p = from_flat part_variable (labels (more v.label v.below none)) name (from_stands s) in
      to_flat part_variable (labels_in v) p.0 name (kept p.0 p.1) p.2
    where
      kept : (p : Part Span) → Contains (labels (more v.label v.below none)) p → Contains (labels_in v) p
      kept p d = ⊎_elim (λ e. first v.label p (labels v.below) e) (λ b. later v.label p (labels v.below) (⊎_elim (λ h. h) (λ n. nothing_in p n) (Contains-append_cases (labels v.below) [] p b))) (cases_cons v.label p (labels v.below ++ []) d)

  -- arguments and directives
  arguments_stand : (definitions : Option (List (InputOf Span))) (vs : List (Val Span)) (name : NameOf Span) → KeyedArguments vs → Contains (argument_variables vs) name → (place : PlaceOf) × StandsInArguments es definitions vs name place
  arguments_stand definitions vs name keyed c =
      let v = from_flat value_variables vs name c in
      let k = of_all HasKey vs v.0 keyed v.1 in
      let w = value_stands (argument_place definitions k.key.text) v.0 name v.2 in
      (w.0, record { argument = v.0; given = v.1; key = k.key; is_key = k.is; stands = w.1 })

  from_arguments : (definitions : Option (List (InputOf Span))) (vs : List (Val Span)) (name : NameOf Span) (place : PlaceOf) → StandsInArguments es definitions vs name place → Contains (argument_variables vs) name
  from_arguments definitions vs name place s = to_flat value_variables vs s.argument name s.given (from_value (argument_place definitions s.key.text) s.argument name place s.stands)

  abbrev In : DirectiveOf Span → List (NameOf Span)
  In d = argument_variables d.arguments

  directives_stand : (ds : List (DirectiveOf Span)) (name : NameOf Span) → KeyedDirectives ds → Contains (directive_variables ds) name → (place : PlaceOf) × StandsInDirectives es ds name place
  directives_stand ds name keyed c =
      let d = from_flat In ds name c in
      let w = arguments_stand (directive_arguments es d.0.name.text) d.0.arguments name (of_all (λ (x : DirectiveOf Span). KeyedArguments x.arguments) ds d.0 keyed d.1) d.2 in
      (w.0, record { directive = d.0; given = d.1; stands = w.1 })

  pub from_directives : (ds : List (DirectiveOf Span)) (name : NameOf Span) (place : PlaceOf) → StandsInDirectives es ds name place → Contains (directive_variables ds) name
  from_directives ds name place s = to_flat In ds s.directive name s.given (from_arguments (directive_arguments es s.directive.name.text) s.directive.arguments name place s.stands)

  -- selections
  head_stands : (parent : Option Text) (h : Head Span) (name : NameOf Span) → KeyedHead h → Contains (head_variables h) name → (place : PlaceOf) × StandsInSelection es parent h name place
  head_stands parent (field alias other arguments directives braces place) name keyed c =
      ⊎_elim
      (λ a. let w = arguments_stand (field_arguments es parent other.text) arguments name keyed.0 a in (w.0, in_arguments refl w.1))
      (λ b. let w = directives_stand directives name keyed.1 b in (w.0, in_directives w.1))
      (Contains-append_cases (argument_variables arguments) (directive_variables directives) name c)
  head_stands parent (spread other directives place) name keyed c = let w = directives_stand directives name keyed c in (w.0, in_directives w.1)
  head_stands parent (inline on directives braces place) name keyed c = let w = directives_stand directives name keyed c in (w.0, in_directives w.1)

  below_directives : (h : Head Span) (name : NameOf Span) → Contains (directive_variables (directives_of h)) name → Contains (head_variables h) name
  below_directives (field alias other arguments directives braces place) name c = Contains-append_right (argument_variables arguments) (directive_variables directives) name c
  below_directives (spread other directives place) name c = c
  below_directives (inline on directives braces place) name c = c

  from_head : (parent : Option Text) (h : Head Span) (name : NameOf Span) (place : PlaceOf) → StandsInSelection es parent h name place → Contains (head_variables h) name
  from_head parent h name place (in_arguments {alias = alias} {field_name = other} {arguments = arguments} {directives = directives} {braces = braces} {span = span} is s) =
      subst (λ (x : Head Span). Contains (head_variables x) name) (sym is)
      (Contains-append_left (argument_variables arguments) (directive_variables directives) name (from_arguments (field_arguments es parent other.text) arguments name place s))
  from_head parent h name place (in_directives s) = below_directives h name (from_directives (directives_of h) name place s)

  -- each selection stands among them, under some parent
  record Stands (parent : Option Text) (ss : Sels Span) (h : Head Span) : Type 0 where
    inner : Option Text
    one : Rattle.gq_tree.specs.Plain.Sel Span
    stands : IsSelectionWithin es parent ss inner one
    is : one.label ≡ h

  stands_among : (parent : Option Text) (ss : Sels Span) (h : Head Span) → Contains (labels ss) h → Stands parent ss h
  stands_among parent none h c = nothing_in h c
  stands_among parent (more head below rest) h c =
      ⊎_elim
      (λ e. record { inner = parent; one = record { label = head; below = below }; stands = selections.here; is = e })
      (λ others.
      ⊎_elim
      (λ b. let w = stands_among (parent_below es parent head) below h b in record { inner = w.inner; one = w.one; stands = selections.within w.stands; is = w.is })
      (λ b. let w = stands_among parent rest h b in record { inner = w.inner; one = w.one; stands = selections.after w.stands; is = w.is })
      (Contains-append_cases (labels below) (labels rest) h others))
      (cases_cons head h (labels below ++ labels rest) c)

  from_among : {parent : Option Text} {ss : Sels Span} {inner : Option Text} {one : Rattle.gq_tree.specs.Plain.Sel Span} → IsSelectionWithin es parent ss inner one → Contains (labels ss) one.label
  from_among (selections.here {head = head} {below = below} {rest = rest}) = first head head (labels below ++ labels rest) refl
  from_among (selections.within {head = head} {below = below} {rest = rest} {selection = one} s) = later head one.label (labels below ++ labels rest) (Contains-append_left (labels below) (labels rest) one.label (from_among s))
  from_among (selections.after {head = head} {below = below} {rest = rest} {selection = one} s) = later head one.label (labels below ++ labels rest) (Contains-append_right (labels below) (labels rest) one.label (from_among s))

  record Selected (parent : Option Text) (ss : Sels Span) (name : NameOf Span) : Type 0 where
    inner : Option Text
    one : Rattle.gq_tree.specs.Plain.Sel Span
    stands : IsSelectionWithin es parent ss inner one
    place : PlaceOf
    used : StandsInSelection es inner one.label name place

  selected : (parent : Option Text) (ss : Sels Span) (name : NameOf Span) → KeyedSelections ss → Contains (selection_variables ss) name → Selected parent ss name
  selected parent ss name keyed c =
      let h = from_flat head_variables (labels ss) name c in
      let s = stands_among parent ss h.0 h.1 in
      let w = head_stands s.inner h.0 name (of_all KeyedHead (labels ss) h.0 keyed h.1) h.2 in
      record { inner = s.inner; one = s.one; stands = s.stands; place = w.0; used = subst (λ (x : Head Span). StandsInSelection es s.inner x name w.0) (sym s.is) w.1 }

  from_selected : {parent : Option Text} {ss : Sels Span} {inner : Option Text} {one : Rattle.gq_tree.specs.Plain.Sel Span} {name : NameOf Span} {place : PlaceOf} → IsSelectionWithin es parent ss inner one → StandsInSelection es inner one.label name place → Contains (selection_variables ss) name
  from_selected {ss = ss} {inner = inner} {one = one} {name = name} {place = place} s used = to_flat head_variables (labels ss) one.label name (from_among s) (from_head inner one.label name place used)

  abbrev InVariable : VariableOf Span → List (NameOf Span)
  InVariable v = directive_variables v.directives

  -- operations
  operation_uses : (file : ℕ) (x : Def Span) (o : OperationOf) (name : NameOf Span) → KeyedDef x → operation_in file x ≡ o ∷ [] → Contains (used_variables x) name → UsedInOperation es o name
  operation_uses file (operation kind other variables directives set braces place) o name keyed is c =
      let own : OperationOf = record { file = file; kind = kind; name = other; variables = variables; directives = directives; set = set; braces = braces; place = place } in
      let same : own ≡ o = cc in
      subst (λ (p : OperationOf). UsedInOperation es p name) same
      (⊎_elim
      (λ a. let v = from_flat InVariable variables name a in
      let w = directives_stand v.0.directives name (of_all (λ (y : VariableOf Span). KeyedDirectives y.directives) variables v.0 keyed.0 v.1) v.2 in
      record { use_of = record { file = file; name = name; place = w.0 }; is = in_variable refl v.1 w.1; named = refl })
      (λ b.
      ⊎_elim
      (λ a. let w = directives_stand directives name keyed.1 a in record { use_of = record { file = file; name = name; place = w.0 }; is = in_directive refl w.1; named = refl })
      (λ a. let w = selected (root_of es kind) set name keyed.2 a in
      let s : SelectedOf = record { file = file; parent = w.inner; selection = w.one } in
      let of : IsOfOperation es own s = (refl, w.stands) in
      record { use_of = record { file = file; name = name; place = w.place }; is = in_selection {s = s} of refl w.used; named = refl })
      (Contains-append_cases (directive_variables directives) (selection_variables set) name b))
      (Contains-append_cases (flat_map InVariable variables) (directive_variables directives ++ selection_variables set) name c))
  operation_uses file (fragment other on directives set braces place) o name keyed is c = absurd (cc)
  operation_uses file (type_system one) o name keyed is c = absurd (cc)

  from_operation : (file : ℕ) (kind : Rattle.gq_tree.specs.declared.tree.OperationKind.OperationKind) (other : Option (NameOf Span)) (variables : List (VariableOf Span)) (directives : List (DirectiveOf Span)) (set : Sels Span) (braces place : Span) (u : UseOf) →
      IsUsedInOperation es (record { file = file; kind = kind; name = other; variables = variables; directives = directives; set = set; braces = braces; place = place }) u → Contains (used_variables (operation kind other variables directives set braces place)) u.name
  from_operation file kind other variables directives set braces place u (in_selection {s = s} of e used) =
      Contains-append_right (flat_map InVariable variables) (directive_variables directives ++ selection_variables set) u.name
      (Contains-append_right (directive_variables directives) (selection_variables set) u.name (from_selected of.1 used))
  from_operation file kind other variables directives set braces place u (in_directive e used) =
      Contains-append_right (flat_map InVariable variables) (directive_variables directives ++ selection_variables set) u.name
      (Contains-append_left (directive_variables directives) (selection_variables set) u.name (from_directives directives u.name u.place used))
  from_operation file kind other variables directives set braces place u (in_variable {v = v} e stands used) =
      Contains-append_left (flat_map InVariable variables) (directive_variables directives ++ selection_variables set) u.name (to_flat InVariable variables v u.name stands (from_directives v.directives u.name u.place used))

  operation_back : (file : ℕ) (x : Def Span) (o : OperationOf) (name : NameOf Span) → operation_in file x ≡ o ∷ [] → UsedInOperation es o name → Contains (used_variables x) name
  operation_back file (operation kind other variables directives set braces place) o name is w =
      let own : OperationOf = record { file = file; kind = kind; name = other; variables = variables; directives = directives; set = set; braces = braces; place = place } in
      let same : own ≡ o = cc in
      subst (λ (n : NameOf Span). Contains (used_variables (operation kind other variables directives set braces place)) n) w.named
      (from_operation file kind other variables directives set braces place w.use_of (subst (λ (p : OperationOf). IsUsedInOperation es p w.use_of) (sym same) w.is))
  operation_back file (fragment other on directives set braces place) o name is w = absurd (cc)
  operation_back file (type_system one) o name is w = absurd (cc)

  -- fragments
  fragment_uses : (file : ℕ) (x : Def Span) (f : FragmentOf) (name : NameOf Span) → KeyedDef x → fragment_in file x ≡ f ∷ [] → Contains (used_variables x) name → UsedInFragment es f name
  fragment_uses file (fragment other on directives set braces place) f name keyed is c =
      let own : FragmentOf = record { file = file; name = other; on = on; directives = directives; set = set; braces = braces; place = place } in
      let same : own ≡ f = cc in
      subst (λ (p : FragmentOf). UsedInFragment es p name) same
      (⊎_elim
      (λ a. let w = directives_stand directives name keyed.0 a in record { use_of = record { file = file; name = name; place = w.0 }; is = within_directive refl w.1; named = refl })
      (λ a. let w = selected (Some on.text) set name keyed.1 a in
      let s : SelectedOf = record { file = file; parent = w.inner; selection = w.one } in
      let of : IsOfFragment es own s = (refl, w.stands) in
      record { use_of = record { file = file; name = name; place = w.place }; is = within_selection {s = s} of refl w.used; named = refl })
      (Contains-append_cases (directive_variables directives) (selection_variables set) name c))
  fragment_uses file (operation kind other variables directives set braces place) f name keyed is c = absurd (cc)
  fragment_uses file (type_system one) f name keyed is c = absurd (cc)

  from_fragment : (file : ℕ) (other on : NameOf Span) (directives : List (DirectiveOf Span)) (set : Sels Span) (braces place : Span) (u : UseOf) →
      IsUsedInFragment es (record { file = file; name = other; on = on; directives = directives; set = set; braces = braces; place = place }) u → Contains (used_variables (fragment other on directives set braces place)) u.name
  from_fragment file other on directives set braces place u (within_selection {s = s} of e used) = Contains-append_right (directive_variables directives) (selection_variables set) u.name (from_selected of.1 used)
  from_fragment file other on directives set braces place u (within_directive e used) = Contains-append_left (directive_variables directives) (selection_variables set) u.name (from_directives directives u.name u.place used)

  fragment_back : (file : ℕ) (x : Def Span) (f : FragmentOf) (name : NameOf Span) → fragment_in file x ≡ f ∷ [] → UsedInFragment es f name → Contains (used_variables x) name
  fragment_back file (fragment other on directives set braces place) f name is w =
      let own : FragmentOf = record { file = file; name = other; on = on; directives = directives; set = set; braces = braces; place = place } in
      let same : own ≡ f = cc in
      subst (λ (n : NameOf Span). Contains (used_variables (fragment other on directives set braces place)) n) w.named
      (from_fragment file other on directives set braces place w.use_of (subst (λ (p : FragmentOf). IsUsedInFragment es p w.use_of) (sym same) w.is))
  fragment_back file (operation kind other variables directives set braces place) f name is w = absurd (cc)
  fragment_back file (type_system one) f name is w = absurd (cc)

-- the executable definitions of documents have named arguments
keyed_one : (file : ℕ) (x : Def Span) → KeyedDef x → AllByRecursion (λ e. KeyedDef e.definition) (executable_in file x)
keyed_one file (operation kind name variables directives set braces place) h = (h, tt)
keyed_one file (fragment name on directives set braces place) h = (h, tt)
keyed_one file (type_system one) h = tt

all_append : {A : Type 0} (P : A → Type 0) (xs ys : List A) → AllByRecursion P xs → AllByRecursion P ys → AllByRecursion P (xs ++ ys)
all_append P [] ys h g = g
all_append P (x ∷ xs) ys h g = (h.0, all_append P xs ys h.1 g)

tree_keyed : (file : ℕ) (tree : List (Def Span)) → AllByRecursion KeyedDef tree → AllByRecursion (λ e. KeyedDef e.definition) (flat_map (executable_in file) tree)
tree_keyed file [] h = tt
tree_keyed file (d ∷ ds) h = all_append (λ e. KeyedDef e.definition) (executable_in file d) (flat_map (executable_in file) ds) (keyed_one file d h.0) (tree_keyed file ds h.1)

reading_keyed : (text : List ℕ) (r : ParsedOf) → IsParsed text r → AllByRecursion KeyedDef (definitions_read r)
reading_keyed text (reading.tree d) p = document_keyed p.derived
reading_keyed text (reading.syntax place) p = tt
reading_keyed text (reading.limit place) p = tt

project_keyed : (file : ℕ) (documents : List Doc) (rs : List ParsedOf) → AreParsed documents rs → AllByRecursion (λ e. KeyedDef e.definition) (flat_map (λ r. in_document executable_in r.0 r.1) (enumerate_from file rs))
project_keyed file documents [] p = tt
project_keyed file [] (r ∷ rs) p = elim p [ ]
project_keyed file (document ∷ documents) (r ∷ rs) (readings.more p ps) =
    all_append (λ e. KeyedDef e.definition) (in_document executable_in file r) (flat_map (λ r. in_document executable_in r.0 r.1) (enumerate_from (file + 1) rs))
    (tree_keyed file (definitions_read r) (reading_keyed document.text r p)) (project_keyed (file + 1) documents rs ps)

pub uses_are : UsesAreThoseOfTheRules
uses_are documents ds x d stands es name =
    let all : AllByRecursion (λ e. KeyedDef e.definition) ds = subst (λ (l : List DefinitionOf). AllByRecursion (λ e. KeyedDef e.definition) l) (sym x.is) (project_keyed 0 documents x.readings x.are_readings) in
    let keyed = of_all (λ (e : DefinitionOf). KeyedDef e.definition) ds d all stands in
    record {
      of_operation = λ o is. (operation_uses es d.file d.definition o name keyed is, operation_back es d.file d.definition o name is);
      of_fragment = λ f is. (fragment_uses es d.file d.definition f name keyed is, fragment_back es d.file d.definition f name is);
    }
