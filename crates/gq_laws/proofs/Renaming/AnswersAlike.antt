-- Operations of one number before and after the rename of a variable have the same data and errors.
use Rattle.std.proofs.Common.{◌≡◌, ℕ, zero, suc, ◌+◌, Bool, true, false, List, [], ◌∷◌, ◌++◌, length, Option, Some, None, refl, sym, ap, subst, ◌∙◌, map, Contains, arith}
use Rattle.std.specs.Prelude.{◌↔◌, ◌==◌, option_and_then, if◌then◌else◌}
use Rattle.std.specs.List.{AllZip, flat_map, list_any}
use Rattle.std.specs.Option.{option_map}
use Rattle.std.specs.Str.{bytes_eq}
use Rattle.std.proofs.lemmas.Grind.{flat_map-append}
use Rattle.std.proofs.lemmas.List.{map-append}
use Rattle.std.proofs.lemmas.List.Elements.{Contains-append_left, Contains-append_right}
use Rattle.gq_text.specs.declared.place.Span.{Span}
use Rattle.gq_tree.specs.Forest as forest
use Rattle.gq_tree.specs.Forest.{Forest, labels, labels_in, relabel}
use Rattle.gq_tree.specs.Plain as tree
use Rattle.gq_tree.specs.Plain.{NameOf, FieldDefinitionOf, Says, Part, Val, DirectiveOf, Head, Sels, Def, operation, fragment, type_system, no_place, place_name, place_says, place_part, place_value, place_directive, place_head, erase_all, erase_values}
use Rattle.gq_tree.specs.Names.{spread_name, spread_names}
use Rattle.gq_tree.proofs.ForestLemmas.{relabel_labels}
use Rattle.gq_tree.proofs.NameLemmas.{spread_names_placed}
use Rattle.gq_types.specs.Entries.{EntryOf}
use Rattle.gq_types.specs.Names.{field_named}
use Rattle.gq_types.proofs.Gathered.{nothing_in, first, later, only, from_map, to_flat}
use Rattle.gq_document.specs.Definitions.{OperationOf, FragmentOf, operation_in, fragment_in}
use Rattle.gq_document.specs.Reaches.{Reaches, at_once, through}
use Rattle.gq_index.specs.VariableNames.{says_variable, part_variable, value_variables, argument_variables, directive_variables, head_variables, selection_variables, used_variables}
use Rattle.gq_index.specs.Occurrences.{DefinitionOf}
use Rattle.gq_index.specs.VariableGroups.{VariableGroup, with_operation, with_fragment, ReachesUser, UsesVariable, IsOperationAt, IsFragmentAt, fragments_among}
use Rattle.gq_renamed.specs.Renamings.{Renaming, variable_called, nothing_renamed, renamed_text}
use Rattle.gq_renamed.specs.Renamed.{rename_says, rename_part, rename_value, rename_directive, rename_selections}
use Rattle.gq_cut.specs.Cut.{variable_in}
use Rattle.gq_table.specs.Rows.{RowOf, row_of}
use Rattle.gq_meaning.specs.Values.{Text, Values, text}
use Rattle.gq_meaning.specs.Results as result
use Rattle.gq_meaning.specs.Results.{Path, Call}
use Rattle.gq_meaning.specs.Shown.{Data}
use Rattle.gq_meaning.specs.Selected.{Directives, Arguments, Set, bare, set_of}
use Rattle.gq_meaning.specs.Expand.{find_definition}
use Rattle.gq_meaning.specs.Response.{Responds}
use Rattle.gq_meaning.specs.Helping.Alike.{SetsAlike, ends, fields, spreads, inlines, FoundAlike, neither, both, AreAlike}
use Rattle.gq_meaning.proofs.Places.{set_forgets}
use Rattle.gq_meaning.proofs.TextLemmas.{same_text}
use Rattle.gq_coerce.specs.Literals.{coerced_arguments}
use Rattle.gq_collect.specs.Fragments.{definition_of}
use Rattle.gq_collect.specs.Given.{typename, call_of, given_in}
use Rattle.gq_laws.specs.Renaming.Helping.Alike.{IsFresh, AreFresh, ValuesAlike, TakesAlike, ArgumentsAlike}
use Rattle.gq_laws.specs.Renaming.Helping.Paired.{ArePaired, none, more, DefinesVariable, VariablesAreDefined, VariableRenamesAnswerAlike}
use Rattle.gq_laws.proofs.Renaming.OneByOne.{OperationsMatch, FragmentsMatch, OperationsIn, operations_in, fragments_in}
use Rattle.gq_laws.proofs.Renaming.SetsRenamed.{values_itself, bare_itself}
use Rattle.gq_laws.proofs.Renaming.NewNames.{stands_at}
use Rattle.gq_laws.proofs.Renaming.AlikeBack.{same_responses}
use Rattle.gq_laws.proofs.Renaming.VariableKept.{is_member, no_member}

-- Where there are no places, none is forgotten.
abbrev Nowhere : Type 0
Nowhere = Unit {0}

-- what is gathered from changed items, where each gives its own changed
gathered : {X Y A B : Type 0} (h : X → Y) (k : A → B) (f : X → List A) (g : Y → List B) → ((x : X) → g (h x) ≡ map k (f x)) → (xs : List X) → flat_map g (map h xs) ≡ map k (flat_map f xs)
gathered h k f g each [] = refl
gathered h k f g each (x ∷ xs) = ap (λ r. r ++ flat_map g (map h xs)) (each x) ∙ ap (λ r. map k (f x) ++ r) (gathered h k f g each xs) ∙ sym (map-append k (f x) (flat_map f xs))

-- the variables of what has other places
module _ {P Q : Type 0} (f : P → Q) where
  says_placed : (s : Says P) → says_variable (place_says f s) ≡ map (place_name f) (says_variable s)
  says_placed (tree.variable name place) = refl
  says_placed (tree.int written place) = refl
  says_placed (tree.float written place) = refl
  says_placed (tree.string written place) = refl
  says_placed (tree.boolean value place) = refl
  says_placed (tree.null place) = refl
  says_placed (tree.enum name) = refl
  says_placed (tree.list place) = refl
  says_placed (tree.object place) = refl

  part_placed : (p : Part P) → part_variable (place_part f p) ≡ map (place_name f) (part_variable p)
  part_placed p = says_placed p.says

  value_placed : (v : Val P) → value_variables (place_value f v) ≡ map (place_name f) (value_variables v)
  value_placed v =
      ap (λ (ls : List (Part Q)). part_variable (place_part f v.label) ++ flat_map part_variable ls) (relabel_labels (place_part f) v.below)
      ∙ gathered (place_part f) (place_name f) part_variable part_variable part_placed (labels_in v)

  arguments_placed : (vs : List (Val P)) → argument_variables (map (place_value f) vs) ≡ map (place_name f) (argument_variables vs)
  arguments_placed = gathered (place_value f) (place_name f) value_variables value_variables value_placed

  directives_placed : (ds : List (DirectiveOf P)) → directive_variables (map (place_directive f) ds) ≡ map (place_name f) (directive_variables ds)
  directives_placed = gathered (place_directive f) (place_name f) (λ d. argument_variables d.arguments) (λ d. argument_variables d.arguments) (λ d. arguments_placed d.arguments)

  head_placed : (h : Head P) → head_variables (place_head f h) ≡ map (place_name f) (head_variables h)
  head_placed (tree.field alias name arguments directives braces place) =
      ap (λ (l : List (NameOf Q)). l ++ directive_variables (map (place_directive f) directives)) (arguments_placed arguments)
      ∙ ap (λ (l : List (NameOf Q)). map (place_name f) (argument_variables arguments) ++ l) (directives_placed directives)
      ∙ sym (map-append (place_name f) (argument_variables arguments) (directive_variables directives))
  head_placed (tree.spread name directives place) = directives_placed directives
  head_placed (tree.inline on directives braces place) = directives_placed directives

  selections_placed : (s : Sels P) → selection_variables (relabel (place_head f) s) ≡ map (place_name f) (selection_variables s)
  selections_placed s = ap (flat_map head_variables) (relabel_labels (place_head f) s) ∙ gathered (place_head f) (place_name f) head_variables head_variables head_placed (labels s)

-- Two functions that do the same to what has only such names do the same to all.
map_same : {X Y N : Type 0} (f g : X → Y) (names : X → List N) (G : N → Type 0) → ((x : X) → ((n : N) → Contains (names x) n → G n) → f x ≡ g x) →
    (xs : List X) → ((n : N) → Contains (flat_map names xs) n → G n) → map f xs ≡ map g xs
map_same f g names G each [] h = refl
map_same {Y = Y} f g names G each (x ∷ xs) h =
    ap (λ (y : Y). y ∷ map f xs) (each x (λ n c. h n (Contains-append_left (names x) (flat_map names xs) n c)))
    ∙ ap (λ (ys : List Y). g x ∷ ys) (map_same f g names G each xs (λ n c. h n (Contains-append_right (names x) (flat_map names xs) n c)))

-- The names in what stands at a selection, below it, and behind it.
module _ {L N : Type 0} (names : L → List N) (l : L) (below rest : Forest L) (n : N) where
  at_label : Contains (names l) n → Contains (flat_map names (labels (forest.more l below rest))) n
  at_label c = Contains-append_left (names l) (flat_map names (labels below ++ labels rest)) n c

  at_below : Contains (flat_map names (labels below)) n → Contains (flat_map names (labels (forest.more l below rest))) n
  at_below c =
      Contains-append_right (names l) (flat_map names (labels below ++ labels rest)) n
      (subst (λ (xs : List N). Contains xs n) (sym (flat_map-append names (labels below) (labels rest))) (Contains-append_left (flat_map names (labels below)) (flat_map names (labels rest)) n c))

  at_rest : Contains (flat_map names (labels rest)) n → Contains (flat_map names (labels (forest.more l below rest))) n
  at_rest c =
      Contains-append_right (names l) (flat_map names (labels below ++ labels rest)) n
      (subst (λ (xs : List N). Contains xs n) (sym (flat_map-append names (labels below) (labels rest))) (Contains-append_right (flat_map names (labels below)) (flat_map names (labels rest)) n c))

-- two rules that rename the same of the variables that are used
module _ (k r : Renaming) (new : Text) where
  abbrev Same : NameOf Nowhere → Type 0
  Same n = k.variables n.text ≡ r.variables n.text

  abbrev AreSame : List (NameOf Nowhere) → Type 0
  AreSame names = (n : NameOf Nowhere) → Contains names n → Same n

  says_same : (s : Says Nowhere) → AreSame (says_variable s) → rename_says k new s ≡ rename_says r new s
  says_same (tree.variable name place) h = ap (λ (b : Bool). let s : Says Nowhere = tree.variable (record { text = if b then new else name.text; place = name.place }) place in s) (h name (first name name [] refl))
  says_same (tree.int written place) h = refl
  says_same (tree.float written place) h = refl
  says_same (tree.string written place) h = refl
  says_same (tree.boolean value place) h = refl
  says_same (tree.null place) h = refl
  says_same (tree.enum name) h = refl
  says_same (tree.list place) h = refl
  says_same (tree.object place) h = refl

  part_same : (p : Part Nowhere) → AreSame (part_variable p) → rename_part k new p ≡ rename_part r new p
  part_same p h = ap (λ (s : Says Nowhere). let q : Part Nowhere = record { key = p.key; says = s } in q) (says_same p.says h)

  forest_same : (s : Forest (Part Nowhere)) → AreSame (flat_map part_variable (labels s)) → relabel (rename_part k new) s ≡ relabel (rename_part r new) s
  forest_same forest.none h = refl
  forest_same (forest.more l b s) h =
      ap (λ (x : Part Nowhere). forest.more x (relabel (rename_part k new) b) (relabel (rename_part k new) s)) (part_same l (λ n c. h n (at_label part_variable l b s n c)))
      ∙ ap (λ (x : Forest (Part Nowhere)). forest.more (rename_part r new l) x (relabel (rename_part k new) s)) (forest_same b (λ n c. h n (at_below part_variable l b s n c)))
      ∙ ap (λ (x : Forest (Part Nowhere)). forest.more (rename_part r new l) (relabel (rename_part r new) b) x) (forest_same s (λ n c. h n (at_rest part_variable l b s n c)))

  value_same : (v : Val Nowhere) → AreSame (value_variables v) → rename_value k new v ≡ rename_value r new v
  value_same v h =
      ap (λ (l : Part Nowhere). let w : Val Nowhere = record { label = l; below = relabel (rename_part k new) v.below } in w)
      (part_same v.label (λ n c. h n (Contains-append_left (part_variable v.label) (flat_map part_variable (labels v.below)) n c)))
      ∙ ap (λ (b : Forest (Part Nowhere)). let w : Val Nowhere = record { label = rename_part r new v.label; below = b } in w)
      (forest_same v.below (λ n c. h n (Contains-append_right (part_variable v.label) (flat_map part_variable (labels v.below)) n c)))

  values_same : (vs : Arguments) → AreSame (argument_variables vs) → map (rename_value k new) vs ≡ map (rename_value r new) vs
  values_same = map_same (rename_value k new) (rename_value r new) value_variables Same value_same

  directive_same : (d : DirectiveOf Nowhere) → AreSame (argument_variables d.arguments) → rename_directive k new d ≡ rename_directive r new d
  directive_same d h = ap (λ (vs : Arguments). let e : DirectiveOf Nowhere = record { name = d.name; arguments = vs; place = d.place } in e) (values_same d.arguments h)

  directives_same : (ds : Directives) → AreSame (directive_variables ds) → map (rename_directive k new) ds ≡ map (rename_directive r new) ds
  directives_same = map_same (rename_directive k new) (rename_directive r new) (λ d. argument_variables d.arguments) Same directive_same

-- Directives and arguments with names changed, where none becomes one with another; and a fragment that keeps its name, of which something is known.
module _ (r : Renaming) (new : Text) (Led : Text → Type 0) where
  abbrev pub IsLed : Text → Text → Type 0
  IsLed f f_after = (f ≡ f_after) × Led f

  abbrev pub DirectivesFresh : Directives → Directives → Type 0
  DirectivesFresh w w_after = (w_after ≡ map (rename_directive r new) w) × AreFresh r new (directive_variables w)

  abbrev pub ArgumentsFresh : Arguments → Arguments → Type 0
  ArgumentsFresh a a_after = (a_after ≡ map (rename_value r new) a) × AreFresh r new (argument_variables a)

  abbrev SetsFresh : Set → Set → Type 0
  SetsFresh = SetsAlike IsLed DirectivesFresh ArgumentsFresh

  -- a set that is renamed by another rule, which says the same of its variables
  module _ (k : Renaming) (no_fragment : (t : Text) → k.fragments t ≡ false) where
    abbrev Good : {P : Type 0} → NameOf P → Type 0
    Good n = (k.variables n.text ≡ r.variables n.text) × IsFresh r new n.text

    abbrev AreGood : {P : Type 0} → List (NameOf P) → Type 0
    AreGood {P} names = (n : NameOf P) → Contains names n → Good n

    abbrev AreLed : {P : Type 0} → List (NameOf P) → Type 0
    AreLed {P} names = (n : NameOf P) → Contains names n → Led n.text

    directives_fresh : (ds : Directives) → AreGood (directive_variables ds) → DirectivesFresh (bare ds) (bare (map (rename_directive k new) ds))
    directives_fresh ds h = (
      bare_itself (map (rename_directive k new) ds) ∙ directives_same k r new ds (λ n c. (h n c).0) ∙ ap (λ (ws : Directives). map (rename_directive r new) ws) (sym (bare_itself ds)),
      subst (λ (ws : Directives). AreFresh r new (directive_variables ws)) (sym (bare_itself ds)) (λ n c. (h n c).1),
    )

    arguments_fresh : (vs : Arguments) → AreGood (argument_variables vs) → ArgumentsFresh (erase_values vs) (erase_values (map (rename_value k new) vs))
    arguments_fresh vs h = (
      values_itself (map (rename_value k new) vs) ∙ values_same k r new vs (λ n c. (h n c).0) ∙ ap (λ (ws : Arguments). map (rename_value r new) ws) (sym (values_itself vs)),
      subst (λ (ws : Arguments). AreFresh r new (argument_variables ws)) (sym (values_itself vs)) (λ n c. (h n c).1),
    )

    fragment_led : (f : Text) → Led f → IsLed f (renamed_text k.fragments new f)
    fragment_led f h = (sym (ap (λ (b : Bool). if b then new else f) (no_fragment f)), h)

    set_fresh : (t : Sels Nowhere) → AreGood (selection_variables t) → AreLed (spread_names t) → SetsFresh (set_of t) (set_of (rename_selections k new t))
    set_fresh forest.none g l = ends
    set_fresh (forest.more (tree.field alias name arguments directives braces place) below rest) g l =
        let head : Head Nowhere = tree.field alias name arguments directives braces place in
        fields
        (directives_fresh directives (λ n c. g n (at_label head_variables head below rest n (Contains-append_right (argument_variables arguments) (directive_variables directives) n c))))
        (arguments_fresh arguments (λ n c. g n (at_label head_variables head below rest n (Contains-append_left (argument_variables arguments) (directive_variables directives) n c))))
        (set_fresh below (λ n c. g n (at_below head_variables head below rest n c)) (λ n c. l n (at_below spread_name head below rest n c)))
        (set_fresh rest (λ n c. g n (at_rest head_variables head below rest n c)) (λ n c. l n (at_rest spread_name head below rest n c)))
    set_fresh (forest.more (tree.spread name directives place) below rest) g l =
        let head : Head Nowhere = tree.spread name directives place in
        spreads
        (directives_fresh directives (λ n c. g n (at_label head_variables head below rest n c)))
        (fragment_led name.text (l name (at_label spread_name head below rest name (first name name [] refl))))
        (set_fresh rest (λ n c. g n (at_rest head_variables head below rest n c)) (λ n c. l n (at_rest spread_name head below rest n c)))
    set_fresh (forest.more (tree.inline on directives braces place) below rest) g l =
        let head : Head Nowhere = tree.inline on directives braces place in
        inlines
        (directives_fresh directives (λ n c. g n (at_label head_variables head below rest n c)))
        (set_fresh below (λ n c. g n (at_below head_variables head below rest n c)) (λ n c. l n (at_below spread_name head below rest n c)))
        (set_fresh rest (λ n c. g n (at_rest head_variables head below rest n c)) (λ n c. l n (at_rest spread_name head below rest n c)))

    -- so is one with places
    placed_fresh : (s s_after : Sels Span) → erase_all s_after ≡ rename_selections k new (erase_all s) → AreGood (selection_variables s) → AreLed (spread_names s) → SetsFresh (set_of s) (set_of s_after)
    placed_fresh s s_after e g l =
        let whole = set_fresh (erase_all s) good led in
        let own = subst (λ (x : Set). SetsFresh x (set_of (rename_selections k new (erase_all s)))) (set_forgets s) whole in
        subst (λ (x : Set). SetsFresh (set_of s) x) (sym (ap (λ (t : Sels Nowhere). set_of t) e) ∙ set_forgets s_after) own
      where
        good : AreGood (selection_variables (erase_all s))
        good n c =
            let w = from_map (place_name no_place) (selection_variables s) n (subst (λ (l : List (NameOf Nowhere)). Contains l n) (selections_placed no_place s) c) in
            subst (λ (m : NameOf Nowhere). Good m) w.2 (g w.0 w.1)

        led : AreLed (spread_names (erase_all s))
        led n c =
            let w = from_map (place_name no_place) (spread_names s) n (subst (λ (l : List (NameOf Nowhere)). Contains l n) (spread_names_placed no_place s) c) in
            subst (λ (m : NameOf Nowhere). Led m.text) w.2 (l w.0 w.1)

-- a definition has one fragment or none
is_alone : (file : ℕ) (d : Def Span) (g : FragmentOf) → Contains (fragment_in file d) g → fragment_in file d ≡ g ∷ []
is_alone file (operation kind name variables directives set braces place) g c = nothing_in g c
is_alone file (fragment name on directives set braces place) g c = ap (λ (f : FragmentOf). f ∷ []) (sym (only _ g c))
is_alone file (type_system one) g c = nothing_in g c

-- what is found of one name, before and after, where the sets of all fragments of that name are alike
module _ (rule : ℕ → Renaming) (new : Text) (no_fragment : (m : ℕ) (t : Text) → (rule m).fragments t ≡ false) (F : Text → Text → Type 0) (W : Directives → Directives → Type 0) (A : Arguments → Arguments → Type 0) (f : Text) where
  abbrev AlikeAt : ℕ → FragmentOf → Type 0
  AlikeAt m g = (s_after : Sels Span) → erase_all s_after ≡ rename_selections (rule m) new (erase_all g.set) → SetsAlike F W A (set_of g.set) (set_of s_after)

  abbrev Found : List FragmentOf → List FragmentOf → Type 0
  Found fs gs = FoundAlike F W A (find_definition (map definition_of fs) f) (find_definition (map definition_of gs) f)

  name_stays : (m : ℕ) (a b : FragmentOf) → FragmentsMatch (rule m) new a b → a.name.text ≡ b.name.text
  name_stays m a b h = sym (h.name ∙ ap (λ (t : Bool). if t then new else a.name.text) (no_fragment m a.name.text))

  found_before : (m : ℕ) (xs ys us vs : List FragmentOf) → AllZip (FragmentsMatch (rule m) new) xs ys → ((g : FragmentOf) → Contains xs g → g.name.text ≡ f → AlikeAt m g) → Found us vs → Found (xs ++ us) (ys ++ vs)
  found_before m [] [] us vs z h rest = rest
  found_before m [] (b ∷ ys) us vs z h rest = absurd z
  found_before m (a ∷ xs) [] us vs z h rest = absurd z
  found_before m (a ∷ xs) (b ∷ ys) us vs z h rest =
      subst (λ (t : Text). FoundAlike F W A (find_definition (map definition_of (a ∷ (xs ++ us))) f) (if bytes_eq f t then Some (definition_of b) else find_definition (map definition_of (ys ++ vs)) f))
      (name_stays m a b z.0)
      (by (bytes_eq f a.name.text) refl (found_before m xs ys us vs z.1 (λ g c. h g (later a g xs c)) rest))
    where
      by : (t : Bool) → bytes_eq f a.name.text ≡ t → Found (xs ++ us) (ys ++ vs) →
          FoundAlike F W A (if t then Some (definition_of a) else find_definition (map definition_of (xs ++ us)) f) (if t then Some (definition_of b) else find_definition (map definition_of (ys ++ vs)) f)
      by true e others = both z.0.on (h a (first a a xs refl) (sym (same_text f a.name.text e)) b.set z.0.set)
      by false e others = others

  found_paired : {m : ℕ} {ds ds_after : List DefinitionOf} → ArePaired rule new m ds ds_after → ((k : ℕ) (g : FragmentOf) → IsFragmentAt ds k g → g.name.text ≡ f → AlikeAt (k + m) g) → Found (fragments_among ds) (fragments_among ds_after)
  found_paired none h = neither
  found_paired (more {n = m} {d = d} {d_after = d_after} {ds = ds} {ds_after = ds_after} e others) h =
      found_before m (fragment_in d.file d.definition) (fragment_in d_after.file d_after.definition) (fragments_among ds) (fragments_among ds_after)
      (fragments_in (rule m) new d.file d_after.file d.definition d_after.definition e)
      (λ g c same. subst (λ (x : ℕ). AlikeAt x g) (omega arith) (h 0 g (record { definition = d; at = refl; is = is_alone d.file d.definition g c }) same))
      (found_paired others (λ k g stands same. subst (λ (x : ℕ). AlikeAt x g) (omega arith) (h (suc k) g (record { definition = stands.definition; at = stands.at; is = stands.is }) same)))

-- as many fragments
module _ (rule : ℕ → Renaming) (new : Text) where
  count_before : (r : Renaming) (xs ys us vs : List FragmentOf) → AllZip (FragmentsMatch r new) xs ys → length (map definition_of us) ≡ length (map definition_of vs) → length (map definition_of (xs ++ us)) ≡ length (map definition_of (ys ++ vs))
  count_before r [] [] us vs z e = e
  count_before r [] (b ∷ ys) us vs z e = absurd z
  count_before r (a ∷ xs) [] us vs z e = absurd z
  count_before r (a ∷ xs) (b ∷ ys) us vs z e = ap suc (count_before r xs ys us vs z.1 e)

  same_count : {m : ℕ} {ds ds_after : List DefinitionOf} → ArePaired rule new m ds ds_after → length (map definition_of (fragments_among ds)) ≡ length (map definition_of (fragments_among ds_after))
  same_count none = refl
  same_count (more {n = m} {d = d} {d_after = d_after} {ds = ds} {ds_after = ds_after} e others) =
      count_before (rule m) (fragment_in d.file d.definition) (fragment_in d_after.file d_after.definition) (fragments_among ds) (fragments_among ds_after)
      (fragments_in (rule m) new d.file d_after.file d.definition d_after.definition e) (same_count others)

-- variables in the selections of a definition are used there
module _ (ds : List DefinitionOf) where
  operation_uses : (n : ℕ) (o : OperationOf) → IsOperationAt ds n o → (v : NameOf Span) → Contains (selection_variables o.set) v → UsesVariable ds v.text n
  operation_uses n o h v c = record { definition = h.definition; at = h.at; name = v; used = by h.definition.definition h.is; same = refl }
    where
      by : (d : Def Span) → operation_in h.definition.file d ≡ o ∷ [] → Contains (used_variables d) v
      by (operation kind name variables directives set braces place) e =
          let same : set ≡ o.set = cc in
          let among = flat_map (λ w. directive_variables w.directives) variables in
          Contains-append_right among (directive_variables directives ++ selection_variables set) v
          (Contains-append_right (directive_variables directives) (selection_variables set) v (subst (λ (s : Sels Span). Contains (selection_variables s) v) (sym same) c))
      by (fragment name on directives set braces place) e = absurd (cc)
      by (type_system one) e = absurd (cc)

  fragment_uses : (k : ℕ) (g : FragmentOf) → IsFragmentAt ds k g → (v : NameOf Span) → Contains (selection_variables g.set) v → UsesVariable ds v.text k
  fragment_uses k g h v c = record { definition = h.definition; at = h.at; name = v; used = by h.definition.definition h.is; same = refl }
    where
      by : (d : Def Span) → fragment_in h.definition.file d ≡ g ∷ [] → Contains (used_variables d) v
      by (operation kind name variables directives set braces place) e = absurd (cc)
      by (fragment name on directives set braces place) e =
          let same : set ≡ g.set = cc in
          Contains-append_right (directive_variables directives) (selection_variables set) v (subst (λ (s : Sels Span). Contains (selection_variables s) v) (sym same) c)
      by (type_system one) e = absurd (cc)

  fragment_stands : (k : ℕ) (g : FragmentOf) → IsFragmentAt ds k g → Contains (fragments_among ds) g
  fragment_stands k g h =
      to_flat (λ (d : DefinitionOf). fragment_in d.file d.definition) ds h.definition g (stands_at ds k h.definition h.at)
      (subst (λ (fs : List FragmentOf). Contains fs g) (sym h.is) (first g g [] refl))

-- no rule renames a fragment
no_fragment_in : (old : Text) (group : List ℕ) (m : ℕ) (t : Text) → (variable_in group old m).fragments t ≡ false
no_fragment_in old group m t = by (list_any (λ x. x == m) group)
  where
    by : (b : Bool) → (if b then variable_called old else nothing_renamed).fragments t ≡ false
    by true = refl
    by false = refl

-- a rename of a variable, and an operation
module _ (ds ds_after : List DefinitionOf) (old new : Text) (definition : ℕ) (group : List ℕ) (paired : ArePaired (variable_in group old) new 0 ds ds_after)
    (members : (n : ℕ) → Contains group n ↔ VariableGroup ds old definition n) (defined : VariablesAreDefined ds)
    (free : (n : ℕ) (o : OperationOf) → VariableGroup ds old definition n → IsOperationAt ds n o → DefinesVariable o new → ⊥)
    (n : ℕ) (o : OperationOf) (stands : IsOperationAt ds n o) where
  abbrev r : Renaming
  r = variable_in group old n

  -- each fragment of that name is reached
  abbrev pub Led : Text → Type 0
  Led f = (k : ℕ) (g : FragmentOf) → IsFragmentAt ds k g → g.name.text ≡ f → Reaches (fragments_among ds) o.set g

  is_fresh : (t : Text) → DefinesVariable o t → IsFresh r new t
  is_fresh t d = by (list_any (λ x. x == n) group) refl
    where
      by : (b : Bool) → list_any (λ x. x == n) group ≡ b → IsFresh (if b then variable_called old else nothing_renamed) new t
      by true e other called stays same = free n o (is_member old new definition group ds members n e) stands (subst (λ (x : Text). DefinesVariable o x) same d)
      by false e other called stays same = absurd (cc)

  -- the rule of another definition says the same of a variable, if the two are in the group together where the variable is the one that is renamed
  agree : (k : ℕ) (t : Text) → (t ≡ old → VariableGroup ds old definition k ↔ VariableGroup ds old definition n) → (variable_in group old k).variables t ≡ r.variables t
  agree k t h = by (list_any (λ x. x == k) group) (list_any (λ x. x == n) group) refl refl
    where
      other_text : (t ≡ old → ⊥) → (u : Bool) → bytes_eq t old ≡ u → bytes_eq t old ≡ false
      other_text differs true e = absurd (differs (same_text t old e))
      other_text differs false e = e

      by : (b c : Bool) → list_any (λ x. x == k) group ≡ b → list_any (λ x. x == n) group ≡ c → (if b then variable_called old else nothing_renamed).variables t ≡ (if c then variable_called old else nothing_renamed).variables t
      by true true e i = refl
      by true false e i = other_text (λ same. no_member old new definition group ds members n i ((h same).0 (is_member old new definition group ds members k e))) (bytes_eq t old) refl
      by false true e i = sym (other_text (λ same. no_member old new definition group ds members k e ((h same).1 (is_member old new definition group ds members n i))) (bytes_eq t old) refl)
      by false false e i = refl

  -- the operation and a fragment that it reaches and that uses the variable are in the group together
  together : (k : ℕ) (g : FragmentOf) → IsFragmentAt ds k g → Reaches (fragments_among ds) o.set g → UsesVariable ds old k → VariableGroup ds old definition k ↔ VariableGroup ds old definition n
  together k g there reached uses =
      let user : ReachesUser ds old n k = record { operation = o; fragment = g; is_operation = stands; is_fragment = there; reached = reached; uses = uses } in
      ((λ h. with_fragment h user), (λ h. with_operation h user))

  pub operation_fresh : (s_after : Sels Span) → erase_all s_after ≡ rename_selections r new (erase_all o.set) → SetsFresh r new Led (set_of o.set) (set_of s_after)
  operation_fresh s_after e =
      placed_fresh r new Led r (no_fragment_in old group n) o.set s_after e
      (λ v c. (refl, is_fresh v.text ((defined n o stands v.text).0 (operation_uses ds n o stands v c))))
      (λ name c k g there same. at_once (fragment_stands ds k g there) (record { name = name; stands = c; names = sym same }))

  fragment_fresh : (k : ℕ) (g : FragmentOf) → IsFragmentAt ds k g → Reaches (fragments_among ds) o.set g → (s_after : Sels Span) → erase_all s_after ≡ rename_selections (variable_in group old k) new (erase_all g.set) → SetsFresh r new Led (set_of g.set) (set_of s_after)
  fragment_fresh k g there reached s_after e =
      placed_fresh r new Led (variable_in group old k) (no_fragment_in old group k) g.set s_after e
      (λ v c. let uses = fragment_uses ds k g there v c in
      (agree k v.text (λ same. together k g there reached (subst (λ (t : Text). UsesVariable ds t k) same uses)), is_fresh v.text ((defined n o stands v.text).1 k g there reached uses)))
      (λ name c j f here same. through reached (fragment_stands ds j f here) (record { name = name; stands = c; names = sym same }))

  found_fresh : (f : Text) → Led f → FoundAlike (IsLed r new Led) (DirectivesFresh r new Led) (ArgumentsFresh r new Led) (find_definition (map definition_of (fragments_among ds)) f) (find_definition (map definition_of (fragments_among ds_after)) f)
  found_fresh f led =
      found_paired (variable_in group old) new (no_fragment_in old group) (IsLed r new Led) (DirectivesFresh r new Led) (ArgumentsFresh r new Led) f paired
      (λ k g there same s_after e. fragment_fresh k g there (led k g there same) s_after (subst (λ (x : ℕ). erase_all s_after ≡ rename_selections (variable_in group old x) new (erase_all g.set)) (omega arith) e))

  module _ (takes : TakesAlike) (arguments : ArgumentsAlike) (es : List EntryOf) (rows : List RowOf) (before after : Values) (values : ValuesAlike r new before after) where
    call_same : (p : Text) (m : ℕ) (f : Text) (a : Arguments) → AreFresh r new (argument_variables a) → call_of es before p m f a ≡ call_of es after p m f (map (rename_value r new) a)
    call_same p m f a fresh = by (field_named es p f)
      where
        by : (d : Option (FieldDefinitionOf Span)) → option_and_then {U = Call} (λ d. option_map (λ v. record { type_name = p; number = m; field = f; arguments = v }) (coerced_arguments es before d.arguments a)) d ≡ option_and_then {U = Call} (λ d. option_map (λ v. record { type_name = p; number = m; field = f; arguments = v }) (coerced_arguments es after d.arguments (map (rename_value r new) a))) d
        by None = refl
        by (Some d) = ap (λ (vs : Option Values). option_map {U = Call} (λ v. record { type_name = p; number = m; field = f; arguments = v }) vs) (sym (arguments r new before after values es d.arguments a fresh))

    pub are_alike : AreAlike (IsLed r new Led) (DirectivesFresh r new Led) (ArgumentsFresh r new Led) (given_in es rows before) (map definition_of (fragments_among ds)) (given_in es rows after) (map definition_of (fragments_among ds_after))
    are_alike = record {
      count = same_count (variable_in group old) new paired;
      fragments = λ f g k. subst (λ (x : Text). FoundAlike (IsLed r new Led) (DirectivesFresh r new Led) (ArgumentsFresh r new Led) (find_definition (map definition_of (fragments_among ds)) f) (find_definition (map definition_of (fragments_among ds_after)) x)) k.0 (found_fresh f k.1);
      takes = λ w w_after e. sym (ap (λ ws. (given_in es rows after).takes ws) e.0 ∙ takes r new before after values w e.1);
      look = λ p m f a a_after e.
          ap (λ (c : Option Call). if bytes_eq f typename then Some (record { label = result.leaf (text p); below = forest.none }) else option_and_then (row_of rows) c) (call_same p m f a e.1)
          ∙ ap (λ (x : Arguments). (given_in es rows after).look p m f x) (sym e.0);
      call = λ p m f a a_after e. ap (λ (c : Option Call). if bytes_eq f typename then None else c) (call_same p m f a e.1) ∙ ap (λ (x : Arguments). (given_in es rows after).call p m f x) (sym e.0);
      applies = λ c p. refl;
      is_composite = λ t. refl;
      type_of = λ p f. refl;
      leaf_at = λ t v. refl;
    }

    alike_answers : (s_after : Sels Span) → erase_all s_after ≡ rename_selections r new (erase_all o.set) → (type_name : Text) (d : Data) (errors : List Path) →
        Responds (given_in es rows before) (map definition_of (fragments_among ds)) type_name (set_of o.set) d errors ↔ Responds (given_in es rows after) (map definition_of (fragments_among ds_after)) type_name (set_of s_after) d errors
    alike_answers s_after e type_name d errors =
        same_responses (IsLed r new Led) (DirectivesFresh r new Led) (ArgumentsFresh r new Led) (given_in es rows before) (map definition_of (fragments_among ds)) (given_in es rows after) (map definition_of (fragments_among ds_after)) are_alike (refl, λ n c. nothing_in n c)
        type_name (set_of o.set) (set_of s_after) (operation_fresh s_after e) d errors

-- operations of one number match
module _ (rule : ℕ → Renaming) (new : Text) where
  is_first : (d c : DefinitionOf) (o : OperationOf) → Some d ≡ Some c → operation_in c.file c.definition ≡ o ∷ [] → operation_in d.file d.definition ≡ o ∷ []
  is_first d c o e is = let same : c ≡ d = cc in subst (λ (x : DefinitionOf). operation_in x.file x.definition ≡ o ∷ []) same is

  numbered : {m : ℕ} {ds ds_after : List DefinitionOf} → ArePaired rule new m ds ds_after → (n : ℕ) (o o_after : OperationOf) → IsOperationAt ds n o → IsOperationAt ds_after n o_after → OperationsMatch (rule (n + m)) new o o_after
  numbered none zero o o_after h k = absurd (let e = h.at in cc)
  numbered none (suc n) o o_after h k = absurd (let e = h.at in cc)
  numbered (more {n = m} {d = d} {d_after = d_after} e others) zero o o_after h k =
      let R : OperationOf → OperationOf → Type 0 = OperationsIn (rule m) new d d_after in
      let z : AllZip R (operation_in d.file d.definition) (operation_in d_after.file d_after.definition) = operations_in (rule m) new d.file d_after.file d.definition d_after.definition e in
      let left : AllZip R (o ∷ []) (operation_in d_after.file d_after.definition) = subst (λ (xs : List OperationOf). AllZip R xs (operation_in d_after.file d_after.definition)) (is_first d h.definition o h.at h.is) z in
      let both_one : AllZip R (o ∷ []) (o_after ∷ []) = subst (λ (xs : List OperationOf). AllZip R (o ∷ []) xs) (is_first d_after k.definition o_after k.at k.is) left in
      subst (λ (x : ℕ). OperationsMatch (rule x) new o o_after) (omega arith) both_one.0.same
  numbered (more {n = m} e others) (suc n) o o_after h k =
      subst (λ (x : ℕ). OperationsMatch (rule x) new o o_after) (omega arith)
      (numbered others n o o_after (record { definition = h.definition; at = h.at; is = h.is }) (record { definition = k.definition; at = k.at; is = k.is }))

module _ (takes : TakesAlike) (arguments : ArgumentsAlike) where
  -- the operations have the same data and errors
  pub answers_alike : VariableRenamesAnswerAlike
  answers_alike ds ds_after old new definition group paired members defined free n o o_after stands stands_after es rows before after values type_name d errors =
      let match = numbered (variable_in group old) new paired n o o_after stands stands_after in
      let same : erase_all o_after.set ≡ rename_selections (variable_in group old n) new (erase_all o.set) = subst (λ (x : ℕ). erase_all o_after.set ≡ rename_selections (variable_in group old x) new (erase_all o.set)) (omega arith) match.set in
      alike_answers ds ds_after old new definition group paired members defined free n o stands takes arguments es rows before after values o_after.set same type_name d errors
