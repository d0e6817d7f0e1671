-- The names that the rename of a fragment changes are those that are called by its name.
use Rattle.std.proofs.Common.{◌≡◌, ℕ, List, [], ◌∷◌, ◌++◌, Bool, refl, sym, ap, ◌∙◌, append-nil}
use Rattle.std.specs.List.{filter, flat_map}
use Rattle.std.specs.Str.{bytes_eq}
use Rattle.std.proofs.lemmas.List.Elements.{filter-append}
use Rattle.gq_text.specs.declared.place.Span.{Span}
use Rattle.gq_tree.specs.Forest.{labels}
use Rattle.gq_tree.specs.Plain.{NameOf, VariableOf, Head, Sels, Def, field, spread, inline, operation, fragment, type_system}
use Rattle.gq_tree.specs.Names.{spread_name, spread_names, names_in, fragment_names}
use Rattle.gq_renamed.specs.Renamings.{Renaming, fragment_called}
use Rattle.gq_renamed.specs.Renamed.{next_number}
use Rattle.gq_renamed.specs.Changed.{changed_name, changed_in_directives, changed_in_head, changed_in_selections, changed_in_def, changed_in_document}
use Rattle.gq_renamed.proofs.Regrammar.{nothing_in, no_change, nothing_in_arguments, nothing_in_directives}

abbrev called : List ℕ → NameOf Span → Bool
called old n = bytes_eq n.text old

head_called : (old : List ℕ) (h : Head Span) → changed_in_head (fragment_called old) h ≡ filter (called old) (spread_name h)
head_called old (field alias name arguments directives braces place) =
    ap (λ (l : List (NameOf Span)). l ++ changed_in_directives (fragment_called old) directives) (nothing_in_arguments (fragment_called old) (λ text. refl) arguments)
    ∙ nothing_in_directives (fragment_called old) (λ text. refl) directives
head_called old (spread name directives place) =
    ap (λ (l : List (NameOf Span)). changed_name (fragment_called old).fragments name ++ l) (nothing_in_directives (fragment_called old) (λ text. refl) directives)
    ∙ append-nil (changed_name (fragment_called old).fragments name)
head_called old (inline on directives braces place) = nothing_in_directives (fragment_called old) (λ text. refl) directives

filtered : {A B : Type 0} (p : B → Bool) (f g : A → List B) → ((x : A) → f x ≡ filter p (g x)) → (xs : List A) → flat_map f xs ≡ filter p (flat_map g xs)
filtered p f g h [] = refl
filtered {A} {B} p f g h (x ∷ xs) =
    ap (λ (l : List B). l ++ flat_map f xs) (h x) ∙ ap (λ (l : List B). filter p (g x) ++ l) (filtered p f g h xs) ∙ sym (filter-append p (g x) (flat_map g xs))

selections_called : (old : List ℕ) (ss : Sels Span) → changed_in_selections (fragment_called old) ss ≡ filter (called old) (spread_names ss)
selections_called old ss = filtered (called old) (changed_in_head (fragment_called old)) spread_name (head_called old) (labels ss)

def_called : (old : List ℕ) (d : Def Span) → changed_in_def (fragment_called old) d ≡ filter (called old) (names_in d)
def_called old (operation kind name variables directives set braces place) =
    let r : Renaming = fragment_called old in
    ap (λ (l : List (NameOf Span)). l ++ (changed_in_directives r directives ++ changed_in_selections r set)) (nothing_in (λ (v : VariableOf Span). changed_name r.variables v.name) (λ v. no_change r (λ text. refl) v.name) variables)
    ∙ ap (λ (l : List (NameOf Span)). l ++ changed_in_selections r set) (nothing_in_directives r (λ text. refl) directives)
    ∙ selections_called old set
def_called old (fragment name on directives set braces place) =
    let r : Renaming = fragment_called old in
    ap (λ (l : List (NameOf Span)). changed_name r.fragments name ++ (l ++ changed_in_selections r set)) (nothing_in_directives r (λ text. refl) directives)
    ∙ ap (λ (l : List (NameOf Span)). changed_name r.fragments name ++ l) (selections_called old set)
    ∙ sym (filter-append (called old) (name ∷ []) (spread_names set))
def_called old (type_system one) = refl

pub document_called : (old : List ℕ) (k : ℕ) (ds : List (Def Span)) → changed_in_document (λ n. fragment_called old) k ds ≡ filter (called old) (fragment_names ds)
document_called old k [] = refl
document_called old k (d ∷ ds) =
    ap (λ (l : List (NameOf Span)). l ++ changed_in_document (λ n. fragment_called old) (next_number d k) ds) (def_called old d)
    ∙ ap (λ (l : List (NameOf Span)). filter (called old) (names_in d) ++ l) (document_called old (next_number d k) ds)
    ∙ sym (filter-append (called old) (names_in d) (fragment_names ds))
