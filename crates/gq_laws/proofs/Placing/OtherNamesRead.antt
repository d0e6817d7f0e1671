-- What is read after a fragment was renamed to a fresh name is, but for places, what was read before with its fragments called
-- otherwise.
use Rattle.std.proofs.Common.{◌≡◌, ℕ, Bool, true, false, List, [], ◌∷◌, ◌++◌, map, refl, sym, ap, ◌∙◌, subst, Contains}
use Rattle.std.specs.Prelude.{if◌then◌else◌}
use Rattle.std.specs.Option.{option_map}
use Rattle.std.specs.Str.{bytes_eq}
use Rattle.std.proofs.lemmas.List.Elements.{Contains-append_left, Contains-append_right}
use Rattle.std.proofs.lemmas.Slice.Eq.{bytes_eq-Decides}
use Rattle.gq_text.specs.declared.place.Span.{Span}
use Rattle.gq_fault.specs.declared.fault.Fault.{Fault}
use Rattle.gq_tree.specs.Forest.{Forest, none, more, labels, relabel}
use Rattle.gq_tree.specs.Names.{spread_name, spread_names}
use Rattle.gq_tree.specs.Plain.{NameOf, Says, Part, Val, DirectiveOf, VariableOf, Head, Sels, Def, variable, int, float, string, boolean, null, enum, list, object}
use Rattle.gq_tree.specs.Plain.{field, spread, inline, operation, fragment, type_system, place_name, place_value, place_variable, place_directive, place_head, place_def, no_place, erase_document}
use Rattle.gq_tree.specs.Readings.{ParsedOf, definitions_read}
use Rattle.gq_types.specs.Entries.{Text, EntryOf}
use Rattle.gq_types.proofs.Gathered.{first, later, to_flat}
use Rattle.gq_renamed.specs.Renamings.{Renaming, fragment_called, renamed_text}
use Rattle.gq_renamed.specs.Renamed.{rename_says, rename_part, rename_value, rename_directive, rename_definition, rename_head, rename_def, next_number, rename_document}
use Rattle.gq_renamed.specs.Projects.{number_behind, rename_trees}
use Rattle.gq_document.specs.Definitions.{OperationOf, FragmentOf, operation_in, fragment_in, operations_of, fragments_of}
use Rattle.gq_document.specs.Executable.{ExecutableOf}
use Rattle.gq_spreads.specs.FragmentSpreadTargetDefined.{of_operation, of_fragment}
use Rattle.gq_rules.specs.Files.{together}
use Rattle.gq_laws.specs.Placing.Places.{erase_operation, erase_fragment, erase_read, SameButPlaces, PlacesDoNotMatter}
use Rattle.gq_laws.specs.Placing.Names.{IsFresh, FragmentRenamesKeepFaultless}
use Rattle.gq_laws.proofs.Placing.Bare.{list_same, forest_same}
use Rattle.gq_laws.proofs.Placing.Documents.{everywhere, in_all, operation_that, fragment_that, operation_each, fragment_each}
use Rattle.gq_laws.proofs.Placing.OtherNames.{other_name, other_head, other_set, other_operation, other_fragment, other_names, KeepsApart}

-- what changes no part changes nothing
module _ {A : Type 0} (f : A → A) (each : (a : A) → f a ≡ a) where
  pub list_itself : (xs : List A) → map f xs ≡ xs
  list_itself [] = refl
  list_itself (x ∷ xs) = ap (λ z. z ∷ map f xs) (each x) ∙ ap (λ z. x ∷ z) (list_itself xs)

  pub forest_itself : (t : Forest A) → relabel f t ≡ t
  forest_itself none = refl
  forest_itself (more l b r) = ap (λ z. more z (relabel f b) (relabel f r)) (each l) ∙ ap (λ z. more l z (relabel f r)) (forest_itself b) ∙ ap (λ z. more l b z) (forest_itself r)

-- changes that agree on what stands there
pub lists_agree : {A B : Type 0} (f g : A → B) (xs : List A) → ((a : A) → Contains xs a → f a ≡ g a) → map f xs ≡ map g xs
lists_agree f g [] each = refl
lists_agree f g (x ∷ xs) each = ap (λ z. z ∷ map f xs) (each x (first x x xs refl)) ∙ ap (λ z. g x ∷ z) (lists_agree f g xs (λ a c. each a (later x a xs c)))

pub forests_agree : {A B : Type 0} (f g : A → B) (t : Forest A) → ((a : A) → Contains (labels t) a → f a ≡ g a) → relabel f t ≡ relabel g t
forests_agree f g none each = refl
forests_agree f g (more l b r) each =
    ap (λ z. more z (relabel f b) (relabel f r)) (each l (first l l (labels b ++ labels r) refl))
    ∙ ap (λ z. more (g l) z (relabel f r)) (forests_agree f g b (λ a c. each a (later l a (labels b ++ labels r) (Contains-append_left (labels b) (labels r) a c))))
    ∙ ap (λ z. more (g l) (relabel g b) z) (forests_agree f g r (λ a c. each a (later l a (labels b ++ labels r) (Contains-append_right (labels b) (labels r) a c))))

-- a rename of fragments changes no variable
module _ (old new : Text) where
  abbrev called : Text → Text
  called text = renamed_text (λ t. bytes_eq t old) new text

  abbrev Bare : Type 0
  Bare = Unit {0}

  abbrev renaming : Renaming
  renaming = fragment_called old

  says_itself : (s : Says Bare) → rename_says renaming new s ≡ s
  says_itself (variable name place) = refl
  says_itself (int text place) = refl
  says_itself (float text place) = refl
  says_itself (string text place) = refl
  says_itself (boolean value place) = refl
  says_itself (null place) = refl
  says_itself (enum name) = refl
  says_itself (list place) = refl
  says_itself (object place) = refl

  part_itself : (p : Part Bare) → rename_part renaming new p ≡ p
  part_itself p = ap (λ z. record { key = p.key; says = z }) (says_itself p.says)

  value_itself : (v : Val Bare) → rename_value renaming new v ≡ v
  value_itself v =
      ap (λ z. record { label = z; below = relabel (rename_part renaming new) v.below }) (part_itself v.label)
      ∙ ap (λ z. record { label = v.label; below = z }) (forest_itself (rename_part renaming new) part_itself v.below)

  values_itself : (vs : List (Val Bare)) → map (rename_value renaming new) vs ≡ vs
  values_itself vs = list_itself (rename_value renaming new) value_itself vs

  directive_itself : (d : DirectiveOf Bare) → rename_directive renaming new d ≡ d
  directive_itself d = ap (λ z. record { name = d.name; arguments = z; place = d.place }) (values_itself d.arguments)

  directives_itself : (ds : List (DirectiveOf Bare)) → map (rename_directive renaming new) ds ≡ ds
  directives_itself ds = list_itself (rename_directive renaming new) directive_itself ds

  abbrev bare_head : Head Span → Head Bare
  bare_head h = rename_head renaming new (place_head no_place h)

  head_renamed : (h : Head Span) → bare_head h ≡ place_head no_place (other_head called h)
  head_renamed (field a n vs ds b p) =
      let of : List (Val Bare) → List (DirectiveOf Bare) → Head Bare = λ us es. field (option_map (place_name no_place) a) (place_name no_place n) us es (option_map no_place b) tt in
      let ds2 = map (place_directive no_place) ds in
      ap (λ z. of z (map (rename_directive renaming new) ds2)) (values_itself (map (place_value no_place) vs)) ∙ ap (of (map (place_value no_place) vs)) (directives_itself ds2)
  head_renamed (spread n ds p) = ap (λ z. spread (place_name no_place (other_name called n)) z tt) (directives_itself (map (place_directive no_place) ds))
  head_renamed (inline o ds b p) = ap (λ z. inline (option_map (place_name no_place) o) z tt tt) (directives_itself (map (place_directive no_place) ds))

  set_renamed : (set : Sels Span) → relabel (rename_head renaming new) (relabel (place_head no_place) set) ≡ relabel (place_head no_place) (other_set called set)
  set_renamed set =
      forest_same (place_head no_place) (rename_head renaming new) bare_head (λ h. refl) set
      ∙ sym (forest_same (other_head called) (place_head no_place) bare_head (λ h. sym (head_renamed h)) set)

  abbrev bare_def : Def Span → Def Bare
  bare_def d = rename_def renaming new (place_def no_place d)

  operation_renamed : (n : ℕ) (d : Def Span) → map (λ o. erase_operation (other_operation called o)) (operation_in n d) ≡ operation_that n (bare_def d)
  operation_renamed n (operation kind name vs ds set b p) =
      let of : List (VariableOf Bare) → List (DirectiveOf Bare) → Sels Bare → List (ℕ × Def Bare) = λ us es z. (n, operation kind (option_map (place_name no_place) name) us es z tt tt) ∷ [] in
      let vs2 = map (place_variable no_place) vs in
      let ds2 = map (place_directive no_place) ds in
      let set2 = relabel (rename_head renaming new) (relabel (place_head no_place) set) in
      ap (of vs2 ds2) (sym (set_renamed set)) ∙ ap (λ z. of vs2 z set2) (sym (directives_itself ds2))
      ∙ ap (λ z. of z (map (rename_directive renaming new) ds2) set2) (sym (list_itself (rename_definition renaming new) (λ v. refl) vs2))
  operation_renamed n (fragment name on ds set b p) = refl
  operation_renamed n (type_system definition) = refl

  fragment_renamed : (n : ℕ) (d : Def Span) → map (λ f. erase_fragment (other_fragment called f)) (fragment_in n d) ≡ fragment_that n (bare_def d)
  fragment_renamed n (fragment name on ds set b p) =
      let of : List (DirectiveOf Bare) → Sels Bare → List (ℕ × Def Bare) = λ es z. (n, fragment (place_name no_place (other_name called name)) (place_name no_place on) es z tt tt) ∷ [] in
      let ds2 = map (place_directive no_place) ds in
      ap (of ds2) (sym (set_renamed set)) ∙ ap (λ z. of z (relabel (rename_head renaming new) (relabel (place_head no_place) set))) (sym (directives_itself ds2))
  fragment_renamed n (operation kind name vs ds set b p) = refl
  fragment_renamed n (type_system definition) = refl

  -- the trees
  document_renamed : (k : ℕ) (ds : List (Def Span)) → rename_document (λ n. renaming) k new (erase_document ds) ≡ map bare_def ds
  document_renamed k [] = refl
  document_renamed k (d ∷ ds) = ap (λ z. bare_def d ∷ z) (document_renamed (next_number (place_def no_place d) k) ds)

  abbrev bare_read : ParsedOf → List (Def Bare)
  bare_read r = map bare_def (definitions_read r)

  trees_renamed : (k : ℕ) (rs : List ParsedOf) → rename_trees (λ n. renaming) k new (map erase_document (map definitions_read rs)) ≡ map bare_read rs
  trees_renamed k [] = refl
  trees_renamed k (r ∷ rs) =
      let behind = number_behind (erase_document (definitions_read r)) k in
      ap (λ z. z ∷ rename_trees (λ n. renaming) behind new (map erase_document (map definitions_read rs))) (document_renamed k (definitions_read r))
      ∙ ap (λ z. bare_read r ∷ z) (trees_renamed behind rs)

  pub read_renamed : (es : List EntryOf) (rs qs : List ParsedOf) → map erase_document (map definitions_read qs) ≡ rename_trees (λ n. renaming) 0 new (map erase_document (map definitions_read rs)) →
      SameButPlaces (together es qs) (other_names called (together es rs))
  read_renamed es rs qs e =
      let reads : map erase_read qs ≡ map bare_read rs = sym (list_same definitions_read erase_document erase_read (λ r. refl) qs) ∙ e ∙ trees_renamed 0 rs in
      record {
        entries = refl;
        operations = in_all (place_def no_place) erase_operation operation_in operation_that operation_each 0 qs ∙ ap (everywhere operation_that) reads
            ∙ sym (in_all bare_def (λ o. erase_operation (other_operation called o)) operation_in operation_that operation_renamed 0 rs)
            ∙ sym (list_same (other_operation called) erase_operation (λ o. erase_operation (other_operation called o)) (λ o. refl) (operations_of rs));
        fragments = in_all (place_def no_place) erase_fragment fragment_in fragment_that fragment_each 0 qs ∙ ap (everywhere fragment_that) reads
            ∙ sym (in_all bare_def (λ f. erase_fragment (other_fragment called f)) fragment_in fragment_that fragment_renamed 0 rs)
            ∙ sym (list_same (other_fragment called) erase_fragment (λ f. erase_fragment (other_fragment called f)) (λ f. refl) (fragments_of rs));
      }

  -- Where the new name is fresh, to rename is to exchange the two, which keeps all names apart.
  abbrev exchanged : Text → Text
  exchanged text = if bytes_eq text old then new else (if bytes_eq text new then old else text)

  exchanged_apart : KeepsApart exchanged
  exchanged_apart a b e = by (bytes_eq a old) (bytes_eq a new) (bytes_eq b old) (bytes_eq b new) refl refl refl refl e
    where
      is : (t u : Text) → bytes_eq t u ≡ true → t ≡ u
      is t u h = (bytes_eq-Decides t u).0 h

      not : (t u : Text) → bytes_eq t u ≡ false → (t ≡ u → ⊥)
      not t u h same = let yes = (bytes_eq-Decides t u).1 same in absurd (cc)

      by : (p q r s : Bool) → bytes_eq a old ≡ p → bytes_eq a new ≡ q → bytes_eq b old ≡ r → bytes_eq b new ≡ s →
          (if p then new else (if q then old else a)) ≡ (if r then new else (if s then old else b)) → a ≡ b
      by true q true s ao an bo bn same = is a old ao ∙ sym (is b old bo)
      by true q false true ao an bo bn same = is a old ao ∙ sym same ∙ sym (is b new bn)
      by true q false false ao an bo bn same = absurd (not b new bn (sym same))
      by false true true s ao an bo bn same = is a new an ∙ sym same ∙ sym (is b old bo)
      by false true false true ao an bo bn same = is a new an ∙ sym (is b new bn)
      by false true false false ao an bo bn same = absurd (not b old bo (sym same))
      by false false true s ao an bo bn same = absurd (not a new an same)
      by false false false true ao an bo bn same = absurd (not a old ao same)
      by false false false false ao an bo bn same = same

  called_exchanged : (text : Text) → (text ≡ new → ⊥) → called text ≡ exchanged text
  called_exchanged text fresh = ap (λ z. if bytes_eq text old then new else z) (by (bytes_eq text new) refl)
    where
      by : (s : Bool) → bytes_eq text new ≡ s → text ≡ (if s then old else text)
      by true e = absurd (fresh ((bytes_eq-Decides text new).0 e))
      by false e = refl

  abbrev AllFresh : Sels Span → Type 0
  AllFresh set = (name : NameOf Span) → Contains (spread_names set) name → name.text ≡ new → ⊥

  name_exchanged : (name : NameOf Span) → (name.text ≡ new → ⊥) → other_name called name ≡ other_name exchanged name
  name_exchanged name fresh = ap (λ z. record { text = z; place = name.place }) (called_exchanged name.text fresh)

  head_exchanged : (h : Head Span) → ((name : NameOf Span) → Contains (spread_name h) name → name.text ≡ new → ⊥) → other_head called h ≡ other_head exchanged h
  head_exchanged (field a n vs ds b p) fresh = refl
  head_exchanged (spread n ds p) fresh = ap (λ z. spread z ds p) (name_exchanged n (fresh n (first n n [] refl)))
  head_exchanged (inline o ds b p) fresh = refl

  set_exchanged : (set : Sels Span) → AllFresh set → other_set called set ≡ other_set exchanged set
  set_exchanged set fresh = forests_agree (other_head called) (other_head exchanged) set (λ h c. head_exchanged h (λ name d. fresh name (to_flat spread_name (labels set) h name c d)))

  operation_exchanged : (o : OperationOf) → AllFresh o.set → other_operation called o ≡ other_operation exchanged o
  operation_exchanged o fresh = ap (λ z. record {
    file = o.file;
    kind = o.kind;
    name = o.name;
    variables = o.variables;
    directives = o.directives;
    set = z;
    braces = o.braces;
    place = o.place;
  }) (set_exchanged o.set fresh)

  fragment_exchanged : (f : FragmentOf) → (f.name.text ≡ new → ⊥) → AllFresh f.set → other_fragment called f ≡ other_fragment exchanged f
  fragment_exchanged f unnamed fresh =
      let of : NameOf Span → Sels Span → FragmentOf = λ name set. record {
        file = f.file;
        name = name;
        on = f.on;
        directives = f.directives;
        set = set;
        braces = f.braces;
        place = f.place;
      } in
      ap (λ z. of z (other_set called f.set)) (name_exchanged f.name unnamed) ∙ ap (of (other_name exchanged f.name)) (set_exchanged f.set fresh)

  names_exchanged : (x : ExecutableOf) → IsFresh x new → other_names called x ≡ other_names exchanged x
  names_exchanged x fresh =
      let of : List OperationOf → List FragmentOf → ExecutableOf = λ os fs. record { entries = x.entries; operations = os; fragments = fs } in
      ap (λ z. of z (map (other_fragment called) x.fragments))
      (lists_agree (other_operation called) (other_operation exchanged) x.operations (λ o c. operation_exchanged o (λ name d. fresh.in_spreads o.file name (of_operation c d refl))))
      ∙ ap (of (map (other_operation exchanged) x.operations))
      (lists_agree (other_fragment called) (other_fragment exchanged) x.fragments
      (λ f c. fragment_exchanged f (fresh.in_fragments f c) (λ name d. fresh.in_spreads f.file name (of_fragment c d refl))))

-- So a rule that sees neither places nor how fragments are called, where they are kept apart, keeps what is faultless.
pub names_keep : (IsFault : ExecutableOf → Fault → Type 0) → PlacesDoNotMatter IsFault →
    ((shown : Text → Text) → KeepsApart shown → (x : ExecutableOf) (f : Fault) → IsFault (other_names shown x) f → IsFault x f) → FragmentRenamesKeepFaultless IsFault
names_keep IsFault places names es old new before after e fresh faultless f h =
    let x = together es before in
    let g = places (together es after) (other_names (called old new) x) (read_renamed old new es before after e) f h in
    faultless g.0 (names (exchanged old new) (exchanged_apart old new) x g.0 (subst (λ z. IsFault z g.0) (names_exchanged old new x fresh) g.1))
