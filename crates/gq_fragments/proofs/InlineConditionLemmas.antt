-- What is told of type conditions at any depth, whatever the types of parents are.
use Rattle.std.proofs.Common.{◌≡◌, ℕ, ◌+◌, ◌<◌, List, [], ◌∷◌, ◌++◌, Option, Some, drop, get_or, length, map, refl, sym, ap, ◌∙◌, append_assoc}
use Rattle.std.specs.Prelude.{flat_map}
use Rattle.std.proofs.lemmas.List.{drop_more}
use Rattle.std.proofs.lemmas.Grind.{flat_map-append}
use Rattle.gq_fault.specs.declared.fault.Fault.{Fault}
use Rattle.gq_tree.specs.Forest.{labels, none, more}
use Rattle.gq_tree.specs.Plain.{Sels}
use Rattle.gq_text.specs.declared.place.Span.{Span}
use Rattle.gq_types.specs.Entries.{Text, EntryOf}
use Rattle.gq_types.specs.Roots.{root_of}
use Rattle.gq_document.specs.Definitions.{OperationOf, FragmentOf}
use Rattle.gq_document.specs.Executable.{ExecutableOf}
use Rattle.gq_document.specs.Selections.{parent_below, selected_among, operation_selections, fragment_selections}
use Rattle.gq_fragments.specs.Helping.FragmentPlaces.{conditions_in, conditions_in_fragment, conditions_in_operation, condition_of_selected, conditions_of_selections, selections}

inline_among : (es : List EntryOf) (file : ℕ) (parent : Option Text) (ss : Sels Span) → flat_map (conditions_in es file) (labels ss) ≡ conditions_of_selections es (selected_among es file parent ss)
inline_among es file parent none = refl
inline_among es file parent (more head below rest) =
    ap (λ (l : List Fault). conditions_in es file head ++ l)
    (flat_map-append (conditions_in es file) (labels below) (labels rest)
    ∙ ap (λ (l : List Fault). l ++ flat_map (conditions_in es file) (labels rest)) (inline_among es file (parent_below es parent head) below)
    ∙ ap (λ (l : List Fault). conditions_of_selections es (selected_among es file (parent_below es parent head) below) ++ l) (inline_among es file parent rest)
    ∙ sym (flat_map-append (condition_of_selected es) (selected_among es file (parent_below es parent head) below) (selected_among es file parent rest)))

in_operations : (es : List EntryOf) (os : List OperationOf) → flat_map (conditions_in_operation es) os ≡ conditions_of_selections es (flat_map (operation_selections es) os)
in_operations es [] = refl
in_operations es (o ∷ os) =
    ap (λ (l : List Fault). l ++ flat_map (conditions_in_operation es) os) (inline_among es o.file (root_of es o.kind) o.set)
    ∙ ap (λ (l : List Fault). conditions_of_selections es (operation_selections es o) ++ l) (in_operations es os)
    ∙ sym (flat_map-append (condition_of_selected es) (operation_selections es o) (flat_map (operation_selections es) os))

in_fragments : (es : List EntryOf) (fs : List FragmentOf) → flat_map (conditions_in_fragment es) fs ≡ conditions_of_selections es (flat_map (fragment_selections es) fs)
in_fragments es [] = refl
in_fragments es (f ∷ fs) =
    ap (λ (l : List Fault). l ++ flat_map (conditions_in_fragment es) fs) (inline_among es f.file (Some f.on.text) f.set)
    ∙ ap (λ (l : List Fault). conditions_of_selections es (fragment_selections es f) ++ l) (in_fragments es fs)
    ∙ sym (flat_map-append (condition_of_selected es) (fragment_selections es f) (flat_map (fragment_selections es) fs))

pub all_inline : (x : ExecutableOf) → flat_map (conditions_in_operation x.entries) x.operations ++ flat_map (conditions_in_fragment x.entries) x.fragments ≡ conditions_of_selections x.entries (selections x)
all_inline x =
    ap (λ (l : List Fault). l ++ flat_map (conditions_in_fragment x.entries) x.fragments) (in_operations x.entries x.operations)
    ∙ ap (λ (l : List Fault). conditions_of_selections x.entries (flat_map (operation_selections x.entries) x.operations) ++ l) (in_fragments x.entries x.fragments)
    ∙ sym (flat_map-append (condition_of_selected x.entries) (flat_map (operation_selections x.entries) x.operations) (flat_map (fragment_selections x.entries) x.fragments))

-- one more is looked at
pub one_more : {X Y : Type 0} (view : X → Y) (f : Y → List Fault) (xs : List X) (i : ℕ) (x : X) (first so_far now : List Fault) → i < length xs → x ≡ get_or xs i x
    → so_far ++ flat_map f (map view (drop i xs)) ≡ first ++ flat_map f (map view xs) → now ≡ so_far ++ f (view x)
    → now ++ flat_map f (map view (drop (i + 1) xs)) ≡ first ++ flat_map f (map view xs)
one_more {X} {Y} view f xs i x first so_far now inside item before is =
    let left : List Fault = flat_map f (map view (drop (i + 1) xs)) in
    let cut : drop i xs ≡ x ∷ drop (i + 1) xs = drop_more xs i x inside ∙ ap (λ (y : X). y ∷ drop (i + 1) xs) (sym item) in
    ap (λ (l : List Fault). l ++ left) is
    ∙ append_assoc so_far (f (view x)) left
    ∙ ap (λ (ys : List X). so_far ++ flat_map f (map view ys)) (sym cut)
    ∙ before
