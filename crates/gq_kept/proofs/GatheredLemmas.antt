-- What is gathered.
use Rattle.std.proofs.Common.{◌≡◌, ℕ, suc, ◌+◌, ◌<◌, ◌≤◌, List, [], ◌∷◌, ◌++◌, map, length, drop, get_or, sym, ◌∙◌, ap, subst, append-nil, append_assoc, add-one, drop-cons, arith}
use Rattle.std.proofs.Math.ListN.{drop_of_length-le}
use Rattle.std.specs.Arc.{arc_value}
use Rattle.gq_tree.specs.declared.type_system.TypeSystemDefinition.{TypeSystemDefinition}
use Rattle.gq_tree.specs.Plain.{TypeSystemOf, no_place, place_type_system}
use Rattle.gq_tree.specs.Views.{type_system_view}
use Rattle.gq_types.specs.declared.entry.Entry.{Entry}
use Rattle.gq_types.specs.Entries.{Text, entry_view, entries_view}
use Rattle.gq_laws.specs.Placing.OtherFields.{definition_without, erase_without}
use Rattle.gq_kept.specs.Helping.Gathered.{Gathered}

-- nothing is, where what is said holds of any names
pub nothing_gathered : (names : List Text) {Holds : List Text → Type 0} → ((texts : List Text) → Holds texts) → Gathered names names Holds
nothing_gathered names h = record { added = []; behind = sym (append-nil names); holds = λ more. h (names ++ more) }

-- what is said may be weaker
pub gathered_weaker : {before after : List Text} {Holds Is : List Text → Type 0} → ((texts : List Text) → Holds texts → Is texts) → Gathered before after Holds → Gathered before after Is
gathered_weaker {after = after} w g = record { added = g.added; behind = g.behind; holds = λ more. w (after ++ more) (g.holds more) }

-- an entry more of each list
abbrev AreAlike : List Text → List Entry → List Entry → Type 0
AreAlike texts es us = map (erase_without texts) (entries_view es) ≡ map (erase_without texts) (entries_view us)

one_more : (texts : List Text) (es us rest others : List Entry) (e u : Entry) → es ≡ e ∷ rest → us ≡ u ∷ others → erase_without texts (entry_view e) ≡ erase_without texts (entry_view u) →
    AreAlike texts rest others → AreAlike texts es us
one_more texts es us rest others e u p q alike h = rw (p, q) (ap (λ d. d ∷ map (erase_without texts) (entries_view rest)) alike ∙ ap (λ r. erase_without texts (entry_view u) ∷ r) h)

pub at_place : {A : Type 0} (xs : List A) (i : ℕ) (x : A) → i < length xs → x ≡ get_or xs i x → drop i xs ≡ x ∷ drop (i + 1) xs
at_place xs i x h e = rw add-one (drop-cons xs i x h ∙ ap (λ y. y ∷ drop (suc i) xs) (sym e))

pub gathered_more : (es us : List Entry) (i : ℕ) (e u : Entry) (d c : TypeSystemDefinition) (before after : List Text) →
    i < length es → length es ≡ length us → e ≡ get_or es i e → u ≡ get_or us i u →
    d ≡ arc_value (get_or es i e).definition → c ≡ arc_value (get_or us i u).definition →
    Gathered before after (λ texts. place_type_system no_place (definition_without texts (type_system_view d)) ≡ place_type_system no_place (definition_without texts (type_system_view c))) →
    ((more : List Text) → AreAlike (before ++ more) (drop i es) (drop i us) → AreAlike (before ++ more) es us) →
    (more : List Text) → AreAlike (after ++ more) (drop (i + 1) es) (drop (i + 1) us) → AreAlike (after ++ more) es us
gathered_more es us i e u d c before after h same at_e at_u of_e of_u g so_far more rest =
    let grown : after ++ more ≡ before ++ (g.added ++ more) = ap (λ r. r ++ more) g.behind ∙ append_assoc before g.added more in
    let seen : TypeSystemDefinition → TypeSystemOf (Unit {0}) = λ x. place_type_system no_place (definition_without (after ++ more) (type_system_view x)) in
    let of_entry : Entry → TypeSystemDefinition = λ x. arc_value x.definition in
    let alike : erase_without (after ++ more) (entry_view e) ≡ erase_without (after ++ more) (entry_view u) =
    ap seen (ap of_entry at_e ∙ sym of_e) ∙ g.holds more ∙ ap seen (of_u ∙ ap of_entry (sym at_u)) in
    let here : AreAlike (after ++ more) (drop i es) (drop i us) =
    one_more (after ++ more) (drop i es) (drop i us) (drop (i + 1) es) (drop (i + 1) us) e u (at_place es i e h at_e) (at_place us i u (omega (arith, h, same)) at_u) alike rest in
    subst (λ texts. AreAlike texts es us) (sym grown) (so_far (g.added ++ more) (subst (λ texts. AreAlike texts (drop i es) (drop i us)) grown here))

-- all were looked at
pub all_gathered : (es us : List Entry) (i : ℕ) (names : List Text) → length es ≤ i → length es ≡ length us →
    ((more : List Text) → AreAlike (names ++ more) (drop i es) (drop i us) → AreAlike (names ++ more) es us) → AreAlike names es us
all_gathered es us i names h same so_far =
    let none_left : AreAlike (names ++ []) (drop i es) (drop i us) =
    ap (λ r. map (erase_without (names ++ [])) (entries_view r)) (drop_of_length-le es h ∙ sym (drop_of_length-le us (omega (arith, h, same)))) in
    subst (λ texts. AreAlike texts es us) (append-nil names) (so_far [] none_left)
