-- What is bare does not see a change of places, nor one of the names of fragments and variables.
use Rattle.std.proofs.Common.{◌≡◌, ℕ, List, [], ◌∷◌, Option, Some, None, map, refl, sym, ap, ◌∙◌}
use Rattle.std.specs.Option.{option_map}
use Rattle.gq_text.specs.declared.place.Span.{Span}
use Rattle.gq_tree.specs.Forest.{Forest, Tree, none, more, relabel, relabel_tree}
use Rattle.gq_tree.specs.Plain.{NameOf, Says, variable, int, float, string, boolean, null, enum, list, object, Part, Val, TypeOf, named, list_of, non_null, DirectiveOf, VariableOf, Head, field, spread, inline, Sels, Def, operation, fragment, type_system, place_name, place_says, place_part, place_value, place_type, place_directive, place_variable, place_head, place_def, no_place, erase_document}
use Rattle.gq_tree.specs.Readings.{ParsedOf, definitions_read}
use Rattle.gq_renamed.specs.Renamings.{Renaming, renamed_text}
use Rattle.gq_renamed.specs.Renamed.{rename_says, rename_part, rename_value, rename_directive, rename_definition, rename_head, rename_def, next_number, rename_document}
use Rattle.gq_renamed.specs.Projects.{number_behind, rename_trees}
use Rattle.gq_fault.specs.declared.fault.Fault.{Fault}
use Rattle.gq_types.specs.Entries.{Text}
use Rattle.gq_document.specs.Definitions.{OperationOf, FragmentOf}
use Rattle.gq_document.specs.Executable.{ExecutableOf}
use Rattle.gq_laws.specs.Placing.Places.{erase_operation, erase_fragment, SameButPlaces, PlacesDoNotMatter}
use Rattle.gq_laws.specs.Placing.Names.{nameless, bare_says, bare_part, bare_value, bare_directive, bare_variable, shown_name, named_head, named_def, forgotten, bare_def, bare_operation, bare_fragment, SameButNames, NamesDoNotMatter}
use Rattle.gq_laws.proofs.Placing.Forgetting.{tree}
use Rattle.gq_types.proofs.Placing.Lists.{weaken}

-- a change that is not seen in the parts is not seen in the whole
module _ {A B K : Type 0} (f : A → B) (g : B → K) (k : A → K) (each : (a : A) → g (f a) ≡ k a) where
  pub list_same : (xs : List A) → map g (map f xs) ≡ map k xs
  list_same [] = refl
  list_same (x ∷ xs) = ap (λ z. z ∷ map g (map f xs)) (each x) ∙ ap (λ z. k x ∷ z) (list_same xs)

  option_same : (o : Option A) → option_map g (option_map f o) ≡ option_map k o
  option_same None = refl
  option_same (Some a) = ap (λ z. Some z) (each a)

  pub forest_same : (t : Forest A) → relabel g (relabel f t) ≡ relabel k t
  forest_same none = refl
  forest_same (more l b r) =
      ap (λ z. more z (relabel g (relabel f b)) (relabel g (relabel f r))) (each l) ∙ ap (λ z. more (k l) z (relabel g (relabel f r))) (forest_same b)
      ∙ ap (λ z. more (k l) (relabel k b) z) (forest_same r)

  tree_same : (t : Tree A) → relabel_tree g (relabel_tree f t) ≡ relabel_tree k t
  tree_same t = ap (λ z. tree z (relabel g (relabel f t.below))) (each t.label) ∙ ap (λ z. tree (k t.label) z) (forest_same t.below)

abbrev part : Option (NameOf (Unit {0})) → Says (Unit {0}) → Part (Unit {0})
part key says = record { key = key; says = says }

abbrev directive : NameOf (Unit {0}) → List (Val (Unit {0})) → DirectiveOf (Unit {0})
directive name arguments = record { name = name; arguments = arguments; place = tt }

abbrev variable_of : TypeOf (Unit {0}) → Option (Val (Unit {0})) → List (DirectiveOf (Unit {0})) → VariableOf (Unit {0})
variable_of type_ref default directives = record { name = nameless; place = tt; type_ref = type_ref; default = default; directives = directives }

abbrev bare_key : {P : Type 0} → Option (NameOf P) → Option (NameOf (Unit {0}))
bare_key key = option_map (place_name no_place) key

-- other places
module _ {P Q : Type 0} (shown : Text → Text) (f : P → Q) where
  says_placed : (s : Says P) → bare_says (place_says f s) ≡ bare_says s
  says_placed (variable name place) = refl
  says_placed (int text place) = refl
  says_placed (float text place) = refl
  says_placed (string text place) = refl
  says_placed (boolean value place) = refl
  says_placed (null place) = refl
  says_placed (enum name) = refl
  says_placed (list place) = refl
  says_placed (object place) = refl

  key_placed : (k : Option (NameOf P)) → bare_key (option_map (place_name f) k) ≡ bare_key k
  key_placed None = refl
  key_placed (Some name) = refl

  part_placed : (p : Part P) → bare_part (place_part f p) ≡ bare_part p
  part_placed p = ap (λ z. part z (bare_says (place_says f p.says))) (key_placed p.key) ∙ ap (λ z. part (bare_key p.key) z) (says_placed p.says)

  pub value_placed : (v : Val P) → bare_value (place_value f v) ≡ bare_value v
  value_placed v = tree_same (place_part f) bare_part bare_part part_placed v

  values_placed : (vs : List (Val P)) → map bare_value (map (place_value f) vs) ≡ map bare_value vs
  values_placed vs = list_same (place_value f) bare_value bare_value value_placed vs

  pub directive_placed : (d : DirectiveOf P) → bare_directive (place_directive f d) ≡ bare_directive d
  directive_placed d = ap (λ z. directive (place_name no_place d.name) z) (values_placed d.arguments)

  directives_placed : (ds : List (DirectiveOf P)) → map bare_directive (map (place_directive f) ds) ≡ map bare_directive ds
  directives_placed ds = list_same (place_directive f) bare_directive bare_directive directive_placed ds

  type_placed : (t : TypeOf P) → place_type no_place (place_type f t) ≡ place_type no_place t
  type_placed (named name) = refl
  type_placed (list_of item) = ap (λ z. list_of z) (type_placed item)
  type_placed (non_null inner) = ap (λ z. non_null z) (type_placed inner)

  variable_placed : (v : VariableOf P) → bare_variable (place_variable f v) ≡ bare_variable v
  variable_placed v =
      ap (λ z. variable_of z (option_map bare_value (option_map (place_value f) v.default)) (map bare_directive (map (place_directive f) v.directives))) (type_placed v.type_ref)
      ∙ ap (λ z. variable_of (place_type no_place v.type_ref) z (map bare_directive (map (place_directive f) v.directives))) (option_same (place_value f) bare_value bare_value value_placed v.default)
      ∙ ap (λ z. variable_of (place_type no_place v.type_ref) (option_map bare_value v.default) z) (directives_placed v.directives)

  braces_placed : (b : Option P) → option_map no_place (option_map f b) ≡ option_map no_place b
  braces_placed None = refl
  braces_placed (Some place) = refl

  head_placed : (h : Head P) → named_head shown (place_head f h) ≡ named_head shown h
  head_placed (field a n vs ds b p) =
      ap (λ z. field z (place_name no_place n) (map bare_value (map (place_value f) vs)) (map bare_directive (map (place_directive f) ds)) (option_map no_place (option_map f b)) tt) (key_placed a)
      ∙ ap (λ z. field (bare_key a) (place_name no_place n) z (map bare_directive (map (place_directive f) ds)) (option_map no_place (option_map f b)) tt) (values_placed vs)
      ∙ ap (λ z. field (bare_key a) (place_name no_place n) (map bare_value vs) z (option_map no_place (option_map f b)) tt) (directives_placed ds)
      ∙ ap (λ z. field (bare_key a) (place_name no_place n) (map bare_value vs) (map bare_directive ds) z tt) (braces_placed b)
  head_placed (spread n ds p) = ap (λ z. spread (shown_name shown n) z tt) (directives_placed ds)
  head_placed (inline o ds b p) = ap (λ z. inline z (map bare_directive (map (place_directive f) ds)) tt tt) (key_placed o) ∙ ap (λ z. inline (bare_key o) z tt tt) (directives_placed ds)

  set_placed : (set : Sels P) → relabel (named_head shown) (relabel (place_head f) set) ≡ relabel (named_head shown) set
  set_placed set = forest_same (place_head f) (named_head shown) (named_head shown) head_placed set

  pub def_placed : (d : Def P) → named_def shown (place_def f d) ≡ named_def shown d
  def_placed (operation kind name vs ds set b p) =
      ap (λ z. Some (operation kind z (map bare_variable (map (place_variable f) vs)) (map bare_directive (map (place_directive f) ds)) (relabel (named_head shown) (relabel (place_head f) set)) tt tt)) (key_placed name)
      ∙ ap (λ z. Some (operation kind (bare_key name) z (map bare_directive (map (place_directive f) ds)) (relabel (named_head shown) (relabel (place_head f) set)) tt tt)) (list_same (place_variable f) bare_variable bare_variable variable_placed vs)
      ∙ ap (λ z. Some (operation kind (bare_key name) (map bare_variable vs) z (relabel (named_head shown) (relabel (place_head f) set)) tt tt)) (directives_placed ds)
      ∙ ap (λ z. Some (operation kind (bare_key name) (map bare_variable vs) (map bare_directive ds) z tt tt)) (set_placed set)
  def_placed (fragment name on ds set b p) =
      ap (λ z. Some (fragment (shown_name shown name) (place_name no_place on) z (relabel (named_head shown) (relabel (place_head f) set)) tt tt)) (directives_placed ds)
      ∙ ap (λ z. Some (fragment (shown_name shown name) (place_name no_place on) (map bare_directive ds) z tt tt)) (set_placed set)
  def_placed (type_system definition) = refl

-- how names were shown before a rename
abbrev pub shown_before : (Text → Text) → Renaming → List ℕ → Text → Text
shown_before shown renaming new text = shown (renamed_text renaming.fragments new text)

-- other names
module _ {P : Type 0} (shown : Text → Text) (renaming : Renaming) (new : List ℕ) where
  says_renamed : (s : Says P) → bare_says (rename_says renaming new s) ≡ bare_says s
  says_renamed (variable name place) = refl
  says_renamed (int text place) = refl
  says_renamed (float text place) = refl
  says_renamed (string text place) = refl
  says_renamed (boolean value place) = refl
  says_renamed (null place) = refl
  says_renamed (enum name) = refl
  says_renamed (list place) = refl
  says_renamed (object place) = refl

  part_renamed : (p : Part P) → bare_part (rename_part renaming new p) ≡ bare_part p
  part_renamed p = ap (λ z. part (bare_key p.key) z) (says_renamed p.says)

  value_renamed : (v : Val P) → bare_value (rename_value renaming new v) ≡ bare_value v
  value_renamed v = tree_same (rename_part renaming new) bare_part bare_part part_renamed v

  values_renamed : (vs : List (Val P)) → map bare_value (map (rename_value renaming new) vs) ≡ map bare_value vs
  values_renamed vs = list_same (rename_value renaming new) bare_value bare_value value_renamed vs

  directive_renamed : (d : DirectiveOf P) → bare_directive (rename_directive renaming new d) ≡ bare_directive d
  directive_renamed d = ap (λ z. directive (place_name no_place d.name) z) (values_renamed d.arguments)

  directives_renamed : (ds : List (DirectiveOf P)) → map bare_directive (map (rename_directive renaming new) ds) ≡ map bare_directive ds
  directives_renamed ds = list_same (rename_directive renaming new) bare_directive bare_directive directive_renamed ds

  head_renamed : (h : Head P) → named_head shown (rename_head renaming new h) ≡ named_head (shown_before shown renaming new) h
  head_renamed (field a n vs ds b p) =
      ap (λ z. field (bare_key a) (place_name no_place n) z (map bare_directive (map (rename_directive renaming new) ds)) (option_map no_place b) tt) (values_renamed vs)
      ∙ ap (λ z. field (bare_key a) (place_name no_place n) (map bare_value vs) z (option_map no_place b) tt) (directives_renamed ds)
  head_renamed (spread n ds p) = ap (λ z. spread (shown_name (shown_before shown renaming new) n) z tt) (directives_renamed ds)
  head_renamed (inline o ds b p) = ap (λ z. inline (bare_key o) z tt tt) (directives_renamed ds)

  set_renamed : (set : Sels P) → relabel (named_head shown) (relabel (rename_head renaming new) set) ≡ relabel (named_head (shown_before shown renaming new)) set
  set_renamed set = forest_same (rename_head renaming new) (named_head shown) (named_head (shown_before shown renaming new)) head_renamed set

  pub def_renamed : (d : Def P) → named_def shown (rename_def renaming new d) ≡ named_def (shown_before shown renaming new) d
  def_renamed (operation kind name vs ds set b p) =
      ap (λ z. Some (operation kind (bare_key name) z (map bare_directive (map (rename_directive renaming new) ds)) (relabel (named_head shown) (relabel (rename_head renaming new) set)) tt tt)) (list_same (rename_definition renaming new) bare_variable bare_variable (λ v. refl) vs)
      ∙ ap (λ z. Some (operation kind (bare_key name) (map bare_variable vs) z (relabel (named_head shown) (relabel (rename_head renaming new) set)) tt tt)) (directives_renamed ds)
      ∙ ap (λ z. Some (operation kind (bare_key name) (map bare_variable vs) (map bare_directive ds) z tt tt)) (set_renamed set)
  def_renamed (fragment name on ds set b p) =
      ap (λ z. Some (fragment (shown_name (shown_before shown renaming new) name) (place_name no_place on) z (relabel (named_head shown) (relabel (rename_head renaming new) set)) tt tt)) (directives_renamed ds)
      ∙ ap (λ z. Some (fragment (shown_name (shown_before shown renaming new) name) (place_name no_place on) (map bare_directive ds) z tt tt)) (set_renamed set)
  def_renamed (type_system definition) = refl

-- documents
abbrev pub named_read : (Text → Text) → ParsedOf → List (Option (Def (Unit {0})))
named_read shown reading = map (named_def shown) (definitions_read reading)

abbrev named_documents : {P : Type 0} → (Text → Text) → List (List (Def P)) → List (List (Option (Def (Unit {0}))))
named_documents shown trees = map (λ ds. map (named_def shown) ds) trees

-- each definition renamed by its own rule, where each shows the names so afterwards as they were shown before
module _ {P : Type 0} (shown before : Text → Text) (rule : ℕ → Renaming) (new : List ℕ) (each : (n : ℕ) (d : Def P) → named_def shown (rename_def (rule n) new d) ≡ named_def before d) where
  document_renamed : (k : ℕ) (ds : List (Def P)) → map (named_def shown) (rename_document rule k new ds) ≡ map (named_def before) ds
  document_renamed k [] = refl
  document_renamed k (d ∷ ds) =
      ap (λ z. z ∷ map (named_def shown) (rename_document rule (next_number d k) new ds)) (each k d) ∙ ap (λ z. named_def before d ∷ z) (document_renamed (next_number d k) ds)

  trees_renamed : (k : ℕ) (ts : List (List (Def P))) → named_documents shown (rename_trees rule k new ts) ≡ named_documents before ts
  trees_renamed k [] = refl
  trees_renamed k (t ∷ ts) =
      ap (λ z. z ∷ named_documents shown (rename_trees rule (number_behind t k) new ts)) (document_renamed k t) ∙ ap (λ z. map (named_def before) t ∷ z) (trees_renamed (number_behind t k) ts)

read_same : (shown : Text → Text) (rs : List ParsedOf) → named_documents shown (map erase_document (map definitions_read rs)) ≡ map (named_read shown) rs
read_same shown [] = refl
read_same shown (r ∷ rs) =
    ap (λ z. z ∷ named_documents shown (map erase_document (map definitions_read rs))) (list_same (place_def no_place) (named_def shown) (named_def shown) (def_placed shown no_place) (definitions_read r))
    ∙ ap (λ z. named_read shown r ∷ z) (read_same shown rs)

pub renamed_alike : (shown before : Text → Text) (rule : ℕ → Renaming) (new : List ℕ) → ((n : ℕ) (d : Def (Unit {0})) → named_def shown (rename_def (rule n) new d) ≡ named_def before d) → (rs qs : List ParsedOf) →
    map erase_document (map definitions_read qs) ≡ rename_trees rule 0 new (map erase_document (map definitions_read rs)) → map (named_read shown) qs ≡ map (named_read before) rs
renamed_alike shown before rule new each rs qs e =
    sym (read_same shown qs) ∙ ap (named_documents shown) e ∙ trees_renamed shown before rule new each 0 (map erase_document (map definitions_read rs)) ∙ read_same before rs

-- definitions that are equal but for places
def_bare : (d u : Def Span) → place_def no_place d ≡ place_def no_place u → bare_def d ≡ bare_def u
def_bare d u e = sym (def_placed forgotten no_place d) ∙ ap (λ z. bare_def z) e ∙ def_placed forgotten no_place u

abbrev operation_def : OperationOf → Def Span
operation_def o = operation o.kind o.name o.variables o.directives o.set o.braces o.place

abbrev fragment_def : FragmentOf → Def Span
fragment_def f = fragment f.name f.on f.directives f.set f.braces f.place

operation_bare : (o p : OperationOf) → erase_operation o ≡ erase_operation p → bare_operation o ≡ bare_operation p
operation_bare o p e = ap (λ z. (z.0, bare_def (operation_def o))) e ∙ ap (λ z. (p.file, z)) (def_bare (operation_def o) (operation_def p) (ap (λ z. z.1) e))

fragment_bare : (f g : FragmentOf) → erase_fragment f ≡ erase_fragment g → bare_fragment f ≡ bare_fragment g
fragment_bare f g e = ap (λ z. (z.0, bare_def (fragment_def f))) e ∙ ap (λ z. (g.file, z)) (def_bare (fragment_def f) (fragment_def g) (ap (λ z. z.1) e))

-- what is equal but for places is equal but for places and names
bare_of : (x y : ExecutableOf) → SameButPlaces x y → SameButNames x y
bare_of x y s = record {
  entries = s.entries;
  operations = weaken erase_operation bare_operation operation_bare x.operations y.operations s.operations;
  fragments = weaken erase_fragment bare_fragment fragment_bare x.fragments y.fragments s.fragments;
}

pub by_names : (IsFault : ExecutableOf → Fault → Type 0) → NamesDoNotMatter IsFault → PlacesDoNotMatter IsFault
by_names IsFault law x y s f h = law x y (bare_of x y s) f h
