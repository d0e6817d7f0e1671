-- Walks over the arguments of a directive.
use Rattle.std.proofs.Common.{◌≡◌, ℕ, suc, ◌+◌, ◌<◌, ◌≤◌, Bool, true, false, List, length, get_or, drop, map, Option, Some, sym, ap, ◌∙◌, add-one, drop-cons}
use Rattle.std.proofs.Math.ListN.{drop_of_length-le}
use Rattle.std.specs.Prelude.{codes, if◌then◌else◌}
use Rattle.std.specs.Option.{option_map_or}
use Rattle.std.specs.Str.{bytes_eq}
use Rattle.gq_text.specs.declared.place.Span.{Span}
use Rattle.gq_tree.specs.declared.value.Argument.{Argument}
use Rattle.gq_tree.specs.Plain.{Val}
use Rattle.gq_tree.specs.Views.{value_view as literal_view, argument_view}
use Rattle.gq_meaning.specs.Values.{Text, Values}
use Rattle.gq_meaning.specs.Directives.{holds_true, argument_of}

-- arguments
abbrev pub of_if : List Argument → Option (Val Span)
of_if xs = argument_of (codes "if") (map argument_view xs)

argument_next : (xs : List Argument) (i : ℕ) (x : Argument) → i < length xs → x ≡ get_or xs i x → of_if (drop i xs) ≡ (if bytes_eq (codes "if") x.name.text then Some (argument_view x) else of_if (drop (i + 1) xs))
argument_next xs i x l q =
    ap of_if (drop-cons xs i x l) ∙ ap (λ z. if bytes_eq (codes "if") z.name.text then Some (argument_view z) else of_if (drop (suc i) xs)) (sym q)
    ∙ ap (λ z. if bytes_eq (codes "if") x.name.text then Some (argument_view x) else of_if (drop z xs)) (sym (add-one i))

pub argument_here : (vars : Values) (all xs : List Argument) (i : ℕ) (x : Argument) (a : Text) (b r : Bool) → xs ≡ all → i < length xs → x ≡ get_or xs i x → a ≡ x.name.text → b ≡ bytes_eq (codes "if") a → b ≡ true →
    r ≡ holds_true vars (literal_view x.value).label.says → of_if all ≡ of_if (drop i xs) → r ≡ option_map_or (λ v. holds_true vars v.label.says) (of_if all) false
argument_here vars all xs i x a b r s l q n t h v w =
    v ∙ sym (ap (λ o. option_map_or (λ v. holds_true vars v.label.says) o false) (w ∙ argument_next xs i x l q ∙ ap (λ z. if z then Some (argument_view x) else of_if (drop (i + 1) xs)) (ap (bytes_eq (codes "if")) (sym n) ∙ sym t ∙ h)))

pub argument_later : (all xs : List Argument) (i : ℕ) (x : Argument) (a : Text) (b : Bool) → i < length xs → x ≡ get_or xs i x → a ≡ x.name.text → b ≡ bytes_eq (codes "if") a → b ≡ false → of_if all ≡ of_if (drop i xs) → of_if all ≡ of_if (drop (i + 1) xs)
argument_later all xs i x a b l q n t h w = w ∙ argument_next xs i x l q ∙ ap (λ z. if z then Some (argument_view x) else of_if (drop (i + 1) xs)) (ap (bytes_eq (codes "if")) (sym n) ∙ sym t ∙ h)

pub no_argument : (vars : Values) (all xs : List Argument) (i : ℕ) → length xs ≤ i → of_if all ≡ of_if (drop i xs) → false ≡ option_map_or (λ v. holds_true vars v.label.says) (of_if all) false
no_argument vars all xs i l w = sym (ap (λ o. option_map_or (λ v. holds_true vars v.label.says) o false) (w ∙ ap of_if (drop_of_length-le xs l)))
