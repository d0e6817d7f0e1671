-- The rewritten documents as they are read again.
use Rattle.std.proofs.Common.{◌≡◌, ℕ, length, Bool, true, false, List, [], ◌∷◌, ◌++◌, Some, map, find, cond, refl, sym, ap, ◌∙◌, subst}
use Rattle.std.specs.List.{AllZip}
use Rattle.std.specs.Option.{option_map}
use Rattle.std.proofs.lemmas.List.{map-append}
use Rattle.gq_text.specs.declared.place.Span.{Span}
use Rattle.gq_tree.specs.declared.tree.OperationKind.{OperationKind}
use Rattle.gq_tree.specs.Plain.{Def, operation, fragment, type_system, no_place, place_name, place_variable, place_directive, erase_all, erase_document}
use Rattle.gq_meaning.specs.Values.{Text}
use Rattle.gq_meaning.specs.Selected.{set_of}
use Rattle.gq_meaning.specs.Acyclic.{SpreadsBelow, IsRanked}
use Rattle.gq_meaning.specs.Results.{Path, Call}
use Rattle.gq_meaning.specs.Shown.{Data}
use Rattle.gq_meaning.specs.Response.{Given, root, Responds, Calls}
use Rattle.gq_meaning.specs.Rewritten.{Static, Rewritten, AreKept, HasSubtypes, NamesAgree}
use Rattle.gq_meaning.proofs.EditsLemmas.{rewrites_keep}
use Rattle.gq_meaning.proofs.Places.{set_forgets}
use Rattle.gq_laws.specs.Rewriting.Documents.{definitions_in, definitions_of, Operation, operations_in, operations_of, OperationBecomes, Restates}

-- fragments forget places
fragments_forget : {P : Type 0} (ds : List (Def P)) → definitions_in (erase_document ds) ≡ definitions_in ds
fragments_forget [] = refl
fragments_forget (operation kind name variables directives set braces place ∷ ds) = fragments_forget ds
fragments_forget (fragment name on directives set braces place ∷ ds) =
    ap (λ z. record { name = name.text; on = on.text; set = z } ∷ definitions_in (erase_document ds)) (set_forgets set)
    ∙ ap (λ z. record { name = name.text; on = on.text; set = set_of set } ∷ z) (fragments_forget ds)
fragments_forget (type_system definition ∷ ds) = fragments_forget ds

pub definitions_forget : {P : Type 0} (trees : List (List (Def P))) → definitions_of (map erase_document trees) ≡ definitions_of trees
definitions_forget [] = refl
definitions_forget (tree ∷ trees) = ap (λ z. z ++ definitions_of (map erase_document trees)) (fragments_forget tree) ∙ ap (λ z. definitions_in tree ++ z) (definitions_forget trees)

-- an operation, its places forgotten
abbrev pub erase_operation : {P : Type 0} → Operation P → Operation (Unit {0})
erase_operation o = record {
  kind = o.kind;
  name = option_map (place_name no_place) o.name;
  variables = map (place_variable no_place) o.variables;
  directives = map (place_directive no_place) o.directives;
  set = erase_all o.set;
}

operations_forget_in : {P : Type 0} (ds : List (Def P)) → operations_in (erase_document ds) ≡ map erase_operation (operations_in ds)
operations_forget_in [] = refl
operations_forget_in (operation kind name variables directives set braces place ∷ ds) =
    ap (λ z. erase_operation (record { kind = kind; name = name; variables = variables; directives = directives; set = set }) ∷ z) (operations_forget_in ds)
operations_forget_in (fragment name on directives set braces place ∷ ds) = operations_forget_in ds
operations_forget_in (type_system definition ∷ ds) = operations_forget_in ds

pub operations_forget : {P : Type 0} (trees : List (List (Def P))) → operations_of (map erase_document trees) ≡ map erase_operation (operations_of trees)
operations_forget [] = refl
operations_forget (tree ∷ trees) =
    ap (λ z. z ++ operations_of (map erase_document trees)) (operations_forget_in tree)
    ∙ ap (λ z. map erase_operation (operations_in tree) ++ z) (operations_forget trees)
    ∙ sym (map-append erase_operation (operations_in tree) (operations_of trees))

module _ (static : Static) (roots : OperationKind → Text) (trees after : List (List (Def Span))) (restates : Restates static roots trees (map erase_document after)) where
  -- the fragments of the documents that are read again
  pub fragments_after : AreKept static (definitions_of trees) (definitions_of after)
  fragments_after = subst (AreKept static (definitions_of trees)) (definitions_forget after) restates.fragments

  -- and the operations
  abbrev pub Becomes : Operation Span → Operation Span → Type 0
  Becomes o o' = OperationBecomes static (definitions_of trees) (definitions_of after) roots o (erase_operation o')

  zip_map : {A B C : Type 0} (R : A → C → Type 0) (f : B → C) (xs : List A) (ys : List B) → AllZip R xs (map f ys) → AllZip (λ x y. R x (f y)) xs ys
  zip_map R f [] [] h = tt
  zip_map R f [] (y ∷ ys) h = absurd h
  zip_map R f (x ∷ xs) [] h = absurd h
  zip_map R f (x ∷ xs) (y ∷ ys) h = (h.0, zip_map R f xs ys h.1)

  pub operations_after : AllZip Becomes (operations_of trees) (operations_of after)
  operations_after =
      zip_map (OperationBecomes static (definitions_of trees) (definitions_of after) roots) erase_operation (operations_of trees) (operations_of after)
      (subst (λ ds. AllZip (OperationBecomes static (definitions_of trees) ds roots) (operations_of trees) (map erase_operation (operations_of after))) (definitions_forget after)
      (subst (AllZip (OperationBecomes static (definitions_of trees) (definitions_of (map erase_document after)) roots) (operations_of trees)) (operations_forget after) restates.operations))

-- What a test finds first in one list, it finds in another whose items go with those of the first.
pub found_with : {A B : Type 0} (R : A → B → Type 0) (p : A → Bool) (q : B → Bool) → ((x : A) (y : B) → R x y → p x ≡ q y) → (xs : List A) (ys : List B) → AllZip R xs ys → (x : A) → find p xs ≡ Some x → (y : B) × (find q ys ≡ Some y) × R x y
found_with R p q same [] ys h x e = cc
found_with R p q same (a ∷ xs) [] h x e = absurd h
found_with R p q same (a ∷ xs) (b ∷ ys) h x e = by (p a) refl (λ k. found_with R p q same xs ys h.1 x k)
  where
    by : (t : Bool) → p a ≡ t → (find p xs ≡ Some x → (y : _) × (find q ys ≡ Some y) × R x y) → (y : _) × (find q (b ∷ ys) ≡ Some y) × R x y
    by true t next =
        let here : Some a ≡ Some x = sym (ap (λ z. cond z (Some a) (find p xs)) t) ∙ e in
        let is : a ≡ x = cc in
        (b, ap (λ z. cond z (Some b) (find q ys)) (sym (same a b h.0) ∙ t), subst (λ z. R z b) is h.0)
    by false t next =
        let i = next (sym (ap (λ z. cond z (Some a) (find p xs)) t) ∙ e) in
        (i.0, ap (λ z. cond z (Some b) (find q ys)) (sym (same a b h.0) ∙ t) ∙ i.1, i.2)

-- An operation and what it becomes have the same responses and calls.
pub meaning_kept : (static : Static) (roots : OperationKind → Text) (trees after : List (List (Def Span))) → Restates static roots trees (map erase_document after) → (g : Given) → g.takes [] ≡ true → (rank rank' : Text → ℕ) →
    IsRanked rank (definitions_of trees) → IsRanked rank' (definitions_of after) → HasSubtypes static g → (o o' : Operation Span) → OperationBecomes static (definitions_of trees) (definitions_of after) roots o (erase_operation o') →
    SpreadsBelow rank (length (definitions_of trees)) (set_of o.set) → SpreadsBelow rank' (length (definitions_of after)) (set_of o'.set) → NamesAgree g (definitions_of trees) (root (roots o.kind) (set_of o.set)) →
    ((d : Data) (es : List Path) → Responds g (definitions_of trees) (roots o.kind) (set_of o.set) d es → Responds g (definitions_of after) (roots o.kind) (set_of o'.set) d es)
    × ((cs : List Call) → Calls g (definitions_of trees) (roots o.kind) (set_of o.set) cs → Calls g (definitions_of after) (roots o.kind) (set_of o'.set) cs)
meaning_kept static roots trees after restates g always rank rank' ranked ranked' subtypes o o' becomes low low' agree =
    rewrites_keep static g (definitions_of trees) (definitions_of after) always (fragments_after static roots trees after restates) rank rank' ranked ranked' subtypes (roots o.kind) (set_of o.set) (set_of o'.set)
    (subst (Rewritten static (definitions_of trees) (definitions_of after) (roots o.kind) (set_of o.set)) (set_forgets o'.set) becomes.set) low low' agree
