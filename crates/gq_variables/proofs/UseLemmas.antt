-- The lists of uses hold the uses that stand in values, arguments, directives, selections, operations and fragments.
use Rattle.std.proofs.Common.{◌≡◌, ◌↔◌, ℕ, zero, suc, ◌<◌, List, [], ◌∷◌, ◌++◌, Option, Some, None, length, refl, sym, ap, subst, ◌∙◌, arith, Contains, map, inl, inr, Vec, Global}
use Rattle.std.specs.Prelude.{All, flat_map, slice_get}
use Rattle.std.specs.Option.{option_map, option_map_or}
use Rattle.std.proofs.lemmas.List.Elements.{Contains-append_left, Contains-append_right, Contains-append_cases, All-contains}
use Rattle.std.proofs.lemmas.List.{length-map}
use Rattle.std.proofs.lemmas.Option.{slice_get-map, slice_get-get_or}
use Rattle.gq_text.specs.declared.place.Span.{Span}
use Rattle.gq_tree.specs.Forest.{none, more}
use Rattle.gq_tree.specs.Plain.{NameOf, Says, Val, Vals, InputOf, DirectiveOf, VariableOf, Head, field, spread, inline, variable, int, float, string, boolean, null, enum, list, object}
use Rattle.gq_names.proofs.RepeatLemmas.{contains_none, contains_first}
use Rattle.gq_graph.specs.Reach.{Reach, row}
use Rattle.gq_types.specs.Entries.{Text, EntryOf}
use Rattle.gq_types.specs.Arguments.{directive_arguments}
use Rattle.gq_document.specs.Definitions.{OperationOf, FragmentOf}
use Rattle.gq_document.specs.Selections.{SelectedOf, operation_selections, fragment_selections}
use Rattle.gq_document.specs.Reaches.{Reaches, at_once, through}
use Rattle.gq_document.specs.Executable.{ExecutableOf}
use Rattle.gq_document.proofs.SelectionLemmas.{operation_holds, fragment_holds}
use Rattle.gq_spreads.specs.Spreads.{ReachesNumber}
use Rattle.gq_spreads.specs.declared.spreads.Spreads.{Spreads}
use Rattle.gq_variables.specs.Uses.{PlaceOf, UseOf, part_place, argument_place, field_arguments, directives_of, StandsIn, here, within, after, StandsInValue, StandsInArguments, StandsInDirectives, StandsInSelection, in_arguments, in_directives, IsUsedInOperation, in_selection, in_directive, in_variable, IsUsedInFragment, within_selection, within_directive}
use Rattle.gq_variables.specs.ReachedUses.{ReachesUse, of_itself, of_fragment}
use Rattle.gq_variables.specs.Helping.UsesPlaces.{own_uses, uses_among, value_uses, uses_under, uses_of_argument, argument_uses, uses_of_directive, directive_uses, head_uses, uses_of_selection, selection_uses, variable_uses, operation_uses, fragment_uses, row_at}
use Rattle.gq_variables.specs.Helping.Leading.{AreLeadingInParts}
use Rattle.gq_variables.specs.Helping.Behind.{IsBehind, AreBehindStarts, AreBehind}
use Rattle.gq_types.proofs.Gathered.{nothing_in, only, from_flat, to_flat}

abbrev use_of : ℕ → NameOf Span → PlaceOf → UseOf
use_of file name place = record { file = file; name = name; place = place }

module _ (es : List EntryOf) (file : ℕ) where
  -- literals
  own_is : (place : PlaceOf) (says : Says Span) (u : UseOf) → Contains (own_uses file place says) u → (span : Span) × (says ≡ variable u.name span) × (u.file ≡ file) × (u.place ≡ place)
  own_is place (variable name span) u c =
      let e = only (use_of file name place) u c in
      (span, ap (λ (w : UseOf). variable w.name span) (sym e), ap (λ (w : UseOf). w.file) e, ap (λ (w : UseOf). w.place) e)
  own_is place (int text span) u c = absurd (contains_none u c)
  own_is place (float text span) u c = absurd (contains_none u c)
  own_is place (string text span) u c = absurd (contains_none u c)
  own_is place (boolean value span) u c = absurd (contains_none u c)
  own_is place (null span) u c = absurd (contains_none u c)
  own_is place (enum name) u c = absurd (contains_none u c)
  own_is place (list span) u c = absurd (contains_none u c)
  own_is place (object span) u c = absurd (contains_none u c)

  from_among : (at : Option (NameOf Span) → PlaceOf) (vals : Vals Span) (u : UseOf) → Contains (uses_among es file at vals) u → (u.file ≡ file) × StandsIn es at vals u.name u.place
  from_among at none u c = absurd (contains_none u c)
  from_among at (more part below rest) u c =
      elim (Contains-append_cases (own_uses file (at part.key) part.says ++ uses_among es file (part_place es (at part.key)) below) (uses_among es file at rest) u c) [
        | inl first ↦ elim (Contains-append_cases (own_uses file (at part.key) part.says) (uses_among es file (part_place es (at part.key)) below) u first) [
          | inl own ↦ (let o = own_is (at part.key) part.says u own in (o.2, subst (λ p. StandsIn es at (more part below rest) u.name p) (sym o.3) (here o.1)))
          | inr inner ↦ (let q = from_among (part_place es (at part.key)) below u inner in (q.0, within q.1))
        ]
        | inr later ↦ (let q = from_among at rest u later in (q.0, after q.1))
      ]

  to_among : {at : Option (NameOf Span) → PlaceOf} {vals : Vals Span} {name : NameOf Span} {place : PlaceOf} → StandsIn es at vals name place → Contains (uses_among es file at vals) (use_of file name place)
  to_among (here {at} {part} {below} {rest} {name} {span} says) =
      Contains-append_left (own_uses file (at part.key) part.says ++ uses_among es file (part_place es (at part.key)) below) (uses_among es file at rest) (use_of file name (at part.key))
      (Contains-append_left (own_uses file (at part.key) part.says) (uses_among es file (part_place es (at part.key)) below) (use_of file name (at part.key))
      (subst (λ s. Contains (own_uses file (at part.key) s) (use_of file name (at part.key))) (sym says) (contains_first (use_of file name (at part.key)) [] (use_of file name (at part.key)) refl)))
  to_among (within {at} {part} {below} {rest} {name} {place} inner) =
      Contains-append_left (own_uses file (at part.key) part.says ++ uses_among es file (part_place es (at part.key)) below) (uses_among es file at rest) (use_of file name place)
      (Contains-append_right (own_uses file (at part.key) part.says) (uses_among es file (part_place es (at part.key)) below) (use_of file name place) (to_among inner))
  to_among (after {at} {part} {below} {rest} {name} {place} later) =
      Contains-append_right (own_uses file (at part.key) part.says ++ uses_among es file (part_place es (at part.key)) below) (uses_among es file at rest) (use_of file name place) (to_among later)

  from_value : (place : PlaceOf) (value : Val Span) (u : UseOf) → Contains (value_uses es file place value) u → (u.file ≡ file) × StandsInValue es place value u.name u.place
  from_value place value u c = from_among (λ key. place) (more value.label value.below none) u (Contains-append_left (value_uses es file place value) [] u c)

  to_value : (whole : PlaceOf) (value : Val Span) (name : NameOf Span) (place : PlaceOf) → StandsInValue es whole value name place → Contains (value_uses es file whole value) (use_of file name place)
  to_value whole value name place s = elim (Contains-append_cases (value_uses es file whole value) [] (use_of file name place) (to_among s)) [
    | inl found ↦ found
    | inr nothing ↦ absurd (contains_none (use_of file name place) nothing)
  ]

  -- arguments
  from_arguments : (definitions : Option (List (InputOf Span))) (arguments : List (Val Span)) (u : UseOf) → Contains (argument_uses es file definitions arguments) u →
      (u.file ≡ file) × StandsInArguments es definitions arguments u.name u.place
  from_arguments definitions arguments u c = (let r = from_flat (uses_of_argument es file definitions) arguments u c in by_key r.0 r.1 r.0.label.key refl r.2)
    where
      by_key : (a : Val Span) → Contains arguments a → (key : Option (NameOf Span)) → a.label.key ≡ key → Contains (uses_under es file definitions a key) u →
          (u.file ≡ file) × StandsInArguments es definitions arguments u.name u.place
      by_key a given None e d = absurd (contains_none u d)
      by_key a given (Some key) e d =
          let q = from_value (argument_place definitions key.text) a u d in
          (q.0, record { argument = a; given = given; key = key; is_key = e; stands = q.1 })

  to_arguments : (definitions : Option (List (InputOf Span))) (arguments : List (Val Span)) (name : NameOf Span) (place : PlaceOf) → StandsInArguments es definitions arguments name place →
      Contains (argument_uses es file definitions arguments) (use_of file name place)
  to_arguments definitions arguments name place w =
      to_flat (uses_of_argument es file definitions) arguments w.argument (use_of file name place) w.given
      (subst (λ k. Contains (uses_under es file definitions w.argument k) (use_of file name place)) (sym w.is_key)
      (to_value (argument_place definitions w.key.text) w.argument name place w.stands))

  -- directives
  from_directives : (directives : List (DirectiveOf Span)) (u : UseOf) → Contains (directive_uses es file directives) u → (u.file ≡ file) × StandsInDirectives es directives u.name u.place
  from_directives directives u c =
      let r = from_flat (uses_of_directive es file) directives u c in
      let q = from_arguments (directive_arguments es r.0.name.text) r.0.arguments u r.2 in
      (q.0, record { directive = r.0; given = r.1; stands = q.1 })

  to_directives : (directives : List (DirectiveOf Span)) (name : NameOf Span) (place : PlaceOf) → StandsInDirectives es directives name place → Contains (directive_uses es file directives) (use_of file name place)
  to_directives directives name place w =
      to_flat (uses_of_directive es file) directives w.directive (use_of file name place) w.given
      (to_arguments (directive_arguments es w.directive.name.text) w.directive.arguments name place w.stands)

  -- selections
  from_head : (parent : Option Text) (head : Head Span) (u : UseOf) → Contains (head_uses es file parent head) u → (u.file ≡ file) × StandsInSelection es parent head u.name u.place
  from_head parent (field alias name arguments directives braces span) u c =
      elim (Contains-append_cases (argument_uses es file (field_arguments es parent name.text) arguments) (directive_uses es file directives) u c) [
        | inl a ↦ (let q = from_arguments (field_arguments es parent name.text) arguments u a in (q.0, in_arguments refl q.1))
        | inr d ↦ (let q = from_directives directives u d in (q.0, in_directives q.1))
      ]
  from_head parent (spread name directives span) u c = (let q = from_directives directives u c in (q.0, in_directives q.1))
  from_head parent (inline on directives braces span) u c = (let q = from_directives directives u c in (q.0, in_directives q.1))

  directives_stand : (parent : Option Text) (head : Head Span) (u : UseOf) → Contains (directive_uses es file (directives_of head)) u → Contains (head_uses es file parent head) u
  directives_stand parent (field alias name arguments directives braces span) u c = Contains-append_right (argument_uses es file (field_arguments es parent name.text) arguments) (directive_uses es file directives) u c
  directives_stand parent (spread name directives span) u c = c
  directives_stand parent (inline on directives braces span) u c = c

  to_head : (parent : Option Text) (head : Head Span) (name : NameOf Span) (place : PlaceOf) → StandsInSelection es parent head name place → Contains (head_uses es file parent head) (use_of file name place)
  to_head parent head name place (in_arguments {alias} {field_name} {arguments} {directives} {braces} {span} is s) =
      subst (λ h. Contains (head_uses es file parent h) (use_of file name place)) (sym is)
      (Contains-append_left (argument_uses es file (field_arguments es parent field_name.text) arguments) (directive_uses es file directives) (use_of file name place)
      (to_arguments (field_arguments es parent field_name.text) arguments name place s))
  to_head parent head name place (in_directives s) = directives_stand parent head (use_of file name place) (to_directives (directives_of head) name place s)

module _ (es : List EntryOf) where
  from_selections : (selections : List SelectedOf) (u : UseOf) → Contains (selection_uses es selections) u →
      (s : SelectedOf) × Contains selections s × (u.file ≡ s.file) × StandsInSelection es s.parent s.selection.label u.name u.place
  from_selections selections u c =
      let r = from_flat (uses_of_selection es) selections u c in
      let q = from_head es r.0.file r.0.parent r.0.selection.label u r.2 in
      (r.0, r.1, q.0, q.1)

  to_selections : (selections : List SelectedOf) (u : UseOf) (s : SelectedOf) → Contains selections s → u.file ≡ s.file → StandsInSelection es s.parent s.selection.label u.name u.place →
      Contains (selection_uses es selections) u
  to_selections selections u s stands file inside =
      to_flat (uses_of_selection es) selections s u stands
      (subst (λ k. Contains (head_uses es k s.parent s.selection.label) u) file (to_head es u.file s.parent s.selection.label u.name u.place inside))

  directives_at : (file : ℕ) (directives : List (DirectiveOf Span)) (u : UseOf) → u.file ≡ file → StandsInDirectives es directives u.name u.place → Contains (directive_uses es file directives) u
  directives_at file directives u is s = subst (λ k. Contains (directive_uses es k directives) u) is (to_directives es u.file directives u.name u.place s)

  -- operations
  from_operation : (o : OperationOf) (u : UseOf) → Contains (operation_uses es o) u → IsUsedInOperation es o u
  from_operation o u c =
      elim (Contains-append_cases (selection_uses es (operation_selections es o)) (directive_uses es o.file o.directives ++ variable_uses es o.file o.variables) u c) [
        | inl a ↦ (let q = from_selections (operation_selections es o) u a in in_selection ((operation_holds es o q.0).0 q.1) q.2 q.3)
        | inr b ↦ elim (Contains-append_cases (directive_uses es o.file o.directives) (variable_uses es o.file o.variables) u b) [
          | inl d ↦ (let q = from_directives es o.file o.directives u d in in_directive q.0 q.1)
          | inr v ↦ (let r = from_flat (λ (v : VariableOf Span). directive_uses es o.file v.directives) o.variables u v in
              let q = from_directives es o.file r.0.directives u r.2 in in_variable q.0 r.1 q.1)
        ]
      ]

  to_operation : (o : OperationOf) (u : UseOf) → IsUsedInOperation es o u → Contains (operation_uses es o) u
  to_operation o u (in_selection {s} stands file inside) =
      Contains-append_left (selection_uses es (operation_selections es o)) (directive_uses es o.file o.directives ++ variable_uses es o.file o.variables) u
      (to_selections (operation_selections es o) u s ((operation_holds es o s).1 stands) file inside)
  to_operation o u (in_directive file inside) =
      Contains-append_right (selection_uses es (operation_selections es o)) (directive_uses es o.file o.directives ++ variable_uses es o.file o.variables) u
      (Contains-append_left (directive_uses es o.file o.directives) (variable_uses es o.file o.variables) u (directives_at o.file o.directives u file inside))
  to_operation o u (in_variable {v} file defined inside) =
      Contains-append_right (selection_uses es (operation_selections es o)) (directive_uses es o.file o.directives ++ variable_uses es o.file o.variables) u
      (Contains-append_right (directive_uses es o.file o.directives) (variable_uses es o.file o.variables) u
      (to_flat (λ (v : VariableOf Span). directive_uses es o.file v.directives) o.variables v u defined (directives_at o.file v.directives u file inside)))

  -- fragments
  from_fragment : (f : FragmentOf) (u : UseOf) → Contains (fragment_uses es f) u → IsUsedInFragment es f u
  from_fragment f u c = elim (Contains-append_cases (selection_uses es (fragment_selections es f)) (directive_uses es f.file f.directives) u c) [
    | inl a ↦ (let q = from_selections (fragment_selections es f) u a in within_selection ((fragment_holds es f q.0).0 q.1) q.2 q.3)
    | inr d ↦ (let q = from_directives es f.file f.directives u d in within_directive q.0 q.1)
  ]

  to_fragment : (f : FragmentOf) (u : UseOf) → IsUsedInFragment es f u → Contains (fragment_uses es f) u
  to_fragment f u (within_selection {s} stands file inside) =
      Contains-append_left (selection_uses es (fragment_selections es f)) (directive_uses es f.file f.directives) u
      (to_selections (fragment_selections es f) u s ((fragment_holds es f s).1 stands) file inside)
  to_fragment f u (within_directive file inside) =
      Contains-append_right (selection_uses es (fragment_selections es f)) (directive_uses es f.file f.directives) u (directives_at f.file f.directives u file inside)

-- a fragment that is reached is there
reached_stands : (fs : List FragmentOf) {set : _} {f : FragmentOf} → Reaches fs set f → Contains fs f
reached_stands fs (at_once stands s) = stands
reached_stands fs (through reached stands s) = stands

-- what is gathered from the fragments that are found
pub behind_found : (rows : List (List UseOf)) (of_fragments : List (Vec ℕ Global)) (starts numbers : List ℕ) (uses : List UseOf) → All (λ n. Reach starts (row of_fragments) n) numbers →
    ((n : ℕ) → Reach starts (row of_fragments) n → Contains numbers n) → uses ≡ flat_map (row_at rows) numbers → AreBehindStarts rows of_fragments starts uses
behind_found rows of_fragments starts numbers uses sound complete are u = (
  λ c.
      let r = from_flat (row_at rows) numbers u (subst (λ us. Contains us u) are c) in
      record { number = r.0; led = All-contains (λ n. Reach starts (row of_fragments) n) numbers r.0 sound r.1; stands = r.2 },
  λ w. subst (λ us. Contains us u) (sym are) (to_flat (row_at rows) numbers w.number u (complete w.number w.led) w.stands),
)

-- those behind the same spreads
pub behind_as : (rows : List (List UseOf)) (s : Spreads) (m n : ℕ) (uses : List UseOf) → row s.of_operations.items m ≡ row s.of_operations.items n → AreBehind rows s m uses → AreBehind rows s n uses
behind_as rows s m n uses same are = subst (λ starts. (u : UseOf) → Contains uses u ↔ IsBehind rows (row s.of_fragments.items) starts u) same are

-- the row of a fragment
row_of : (x : ExecutableOf) (k : ℕ) (f : FragmentOf) → slice_get x.fragments k ≡ Some f → row_at (map (fragment_uses x.entries) x.fragments) k ≡ fragment_uses x.entries f
row_of x k f at =
    ap (λ (r : Option (List UseOf)). option_map_or (λ (row : List UseOf). row) r [])
    (slice_get-map (fragment_uses x.entries) x.fragments k ∙ ap (option_map (fragment_uses x.entries)) at)

-- where a use stands in a row, a fragment has its number
row_within : (rows : List (List UseOf)) (k : ℕ) (u : UseOf) → Contains (row_at rows k) u → k < length rows
row_within [] k u there = nothing_in u there
row_within (r ∷ rows) zero u there = omega arith
row_within (r ∷ rows) (suc k) u there = let rest = row_within rows k u there in omega (arith, rest)

used_inside : (x : ExecutableOf) (k : ℕ) (u : UseOf) → Contains (row_at (map (fragment_uses x.entries) x.fragments) k) u → k < length x.fragments
used_inside x k u there = subst (λ n. k < n) (length-map x.fragments (fragment_uses x.entries)) (row_within (map (fragment_uses x.entries) x.fragments) k u there)

-- uses behind rows by which an operation leads only to what it reaches belong to it
pub from_behind : (x : ExecutableOf) (o : OperationOf) (of_fragments : List (Vec ℕ Global)) (starts : List ℕ)
    → ((k : ℕ) → k < length x.fragments → Reach starts (row of_fragments) k → ReachesNumber x.fragments o.set k) →
    (behind : List UseOf) → AreBehindStarts (map (fragment_uses x.entries) x.fragments) of_fragments starts behind → (u : UseOf) → Contains behind u → ReachesUse x o u
from_behind x o of_fragments starts sound behind are u c =
    let w = (are u).0 c in
    let r = sound w.number (used_inside x w.number u w.stands) w.led in
    of_fragment r.reached (from_fragment x.entries r.fragment u (subst (λ us. Contains us u) (row_of x w.number r.fragment r.at) w.stands))

-- The uses behind both parts of the spreads of an operation are with its own all that belong to it.
module _ (x : ExecutableOf) (s : Spreads) (own_rows : List (Vec ℕ Global)) (lead : AreLeadingInParts x s own_rows) (number : ℕ) (o : OperationOf) (is : slice_get x.operations number ≡ Some o)
    (own behind : List UseOf) (own_are : AreBehindStarts (map (fragment_uses x.entries) x.fragments) s.of_fragments.items (row own_rows number) own)
    (are : AreBehind (map (fragment_uses x.entries) x.fragments) s number behind) where
  from_reached : (u : UseOf) → Contains ((operation_uses x.entries o ++ own) ++ behind) u → ReachesUse x o u
  from_reached u c = elim (Contains-append_cases (operation_uses x.entries o ++ own) behind u c) [
    | inl first ↦ elim (Contains-append_cases (operation_uses x.entries o) own u first) [
      | inl itself ↦ of_itself (from_operation x.entries o u itself)
      | inr beside ↦ from_behind x o s.of_fragments.items (row own_rows number) (λ k below. lead.own_sound number o k is below) own own_are u beside
    ]
    | inr others ↦ from_behind x o s.of_fragments.items (row s.of_operations.items number) (λ k below. lead.sound number o k is below) behind are u others
  ]

  to_reached : (u : UseOf) → ReachesUse x o u → Contains ((operation_uses x.entries o ++ own) ++ behind) u
  to_reached u (of_itself used) = Contains-append_left (operation_uses x.entries o ++ own) behind u (Contains-append_left (operation_uses x.entries o) own u (to_operation x.entries o u used))
  to_reached u (of_fragment {f} reached used) =
      let c = reached_stands x.fragments reached in
      let at : slice_get x.fragments c.0 ≡ Some f = slice_get-get_or x.fragments c.0 f c.1 ∙ ap Some c.2 in
      let there = to_fragment x.entries f u used in
      let stands = subst (λ us. Contains us u) (sym (row_of x c.0 f at)) there in
      elim (lead.complete number o c.0 f u is at there (record { fragment = f; at = at; reached = reached })) [
        | inl shared ↦ Contains-append_right (operation_uses x.entries o ++ own) behind u ((are u).1 (record { number = c.0; led = shared; stands = stands }))
        | inr alone ↦ Contains-append_left (operation_uses x.entries o ++ own) behind u
            (Contains-append_right (operation_uses x.entries o) own u ((own_are u).1 (record { number = c.0; led = alone; stands = stands })))
      ]

  pub reached_are : (u : UseOf) → Contains ((operation_uses x.entries o ++ own) ++ behind) u ↔ ReachesUse x o u
  reached_are u = (from_reached u, to_reached u)
