-- The operations and the fragments of a project before and after a change of names, one by one.
use Rattle.std.proofs.Common.{◌≡◌, ℕ, suc, ◌+◌, List, [], ◌∷◌, ◌++◌, Option, refl, sym, ap, subst, map, arith}
use Rattle.std.specs.List.{AllZip}
use Rattle.std.specs.Option.{option_map}
use Rattle.gq_text.specs.declared.place.Span.{Span}
use Rattle.gq_tree.specs.declared.tree.OperationKind.{OperationKind}
use Rattle.gq_tree.specs.Plain.{NameOf, VariableOf, DirectiveOf, Sels, Def, operation, fragment, type_system, no_place, place_name, place_variable, place_def, erase_all}
use Rattle.gq_document.specs.Definitions.{OperationOf, FragmentOf, operation_in, fragment_in}
use Rattle.gq_index.specs.Occurrences.{DefinitionOf}
use Rattle.gq_index.specs.VariableGroups.{IsOperationAt, fragments_among}
use Rattle.gq_renamed.specs.Renamings.{Renaming, renamed_text}
use Rattle.gq_renamed.specs.Renamed.{rename_definition, rename_selections, rename_def}
use Rattle.gq_meaning.specs.Values.{Text}
use Rattle.gq_laws.specs.Renaming.Helping.Paired.{ArePaired, none, more}
use Rattle.gq_laws.proofs.Renaming.PairedLemmas.{operations_among}

zip_append : {A B : Type 0} (R : A → B → Type 0) (xs : List A) (ys : List B) (us : List A) (vs : List B) → AllZip R xs ys → AllZip R us vs → AllZip R (xs ++ us) (ys ++ vs)
zip_append R [] [] us vs h k = k
zip_append R [] (y ∷ ys) us vs h k = absurd h
zip_append R (x ∷ xs) [] us vs h k = absurd h
zip_append R (x ∷ xs) (y ∷ ys) us vs h k = (h.0, zip_append R xs ys us vs h.1 k)

zip_weaker : {A B : Type 0} (R S : A → B → Type 0) → ((x : A) (y : B) → R x y → S x y) → (xs : List A) (ys : List B) → AllZip R xs ys → AllZip S xs ys
zip_weaker R S f [] [] h = tt
zip_weaker R S f [] (y ∷ ys) h = absurd h
zip_weaker R S f (x ∷ xs) [] h = absurd h
zip_weaker R S f (x ∷ xs) (y ∷ ys) h = (f x y h.0, zip_weaker R S f xs ys h.1)

-- places forgotten, the one is the other with names changed
pub record OperationsMatch (r : Renaming) (new : Text) (o o_after : OperationOf) : Type 0 where
  pub kind : o.kind ≡ o_after.kind
  pub name : option_map (place_name no_place) o_after.name ≡ option_map (place_name no_place) o.name
  pub variables : map (place_variable no_place) o_after.variables ≡ map (rename_definition r new) (map (place_variable no_place) o.variables)
  pub set : erase_all o_after.set ≡ rename_selections r new (erase_all o.set)

pub record FragmentsMatch (r : Renaming) (new : Text) (f f_after : FragmentOf) : Type 0 where
  pub name : f_after.name.text ≡ renamed_text r.fragments new f.name.text
  pub on : f.on.text ≡ f_after.on.text
  pub set : erase_all f_after.set ≡ rename_selections r new (erase_all f.set)

-- what equal definitions say
record SameOperation {P : Type 0} (k l : OperationKind) (n m : Option (NameOf P)) (v w : List (VariableOf P)) (s t : Sels P) : Type 0 where
  kind : k ≡ l
  name : n ≡ m
  variables : v ≡ w
  set : s ≡ t

same_operation : {P : Type 0} (k l : OperationKind) (n m : Option (NameOf P)) (v w : List (VariableOf P)) (d e : List (DirectiveOf P)) (s t : Sels P) (b c p q : P) → operation k n v d s b p ≡ operation l m w e t c q → SameOperation k l n m v w s t
same_operation k l n m v w d e s t b c p q h = record { kind = (let g = h in cc); name = (let g = h in cc); variables = (let g = h in cc); set = (let g = h in cc) }

record SameFragment {P : Type 0} (n m o u : NameOf P) (s t : Sels P) : Type 0 where
  name : n ≡ m
  on : o ≡ u
  set : s ≡ t

same_fragment : {P : Type 0} (n m o u : NameOf P) (d e : List (DirectiveOf P)) (s t : Sels P) (b c p q : P) → fragment n o d s b p ≡ fragment m u e t c q → SameFragment n m o u s t
same_fragment n m o u d e s t b c p q h = record { name = (let g = h in cc); on = (let g = h in cc); set = (let g = h in cc) }

-- an operation of a definition, and of the other
pub record OperationsIn (r : Renaming) (new : Text) (d d_after : DefinitionOf) (o o_after : OperationOf) : Type 0 where
  pub is : operation_in d.file d.definition ≡ o ∷ []
  pub is_after : operation_in d_after.file d_after.definition ≡ o_after ∷ []
  pub same : OperationsMatch r new o o_after

pub operations_in : (r : Renaming) (new : Text) (file file_after : ℕ) (d d_after : Def Span) → place_def no_place d_after ≡ rename_def r new (place_def no_place d) →
    AllZip (OperationsIn r new (record { file = file; definition = d }) (record { file = file_after; definition = d_after })) (operation_in file d) (operation_in file_after d_after)
operations_in r new file file_after (operation kind name variables directives set braces place) (operation kind' name' variables' directives' set' braces' place') e =
    let s = same_operation _ _ _ _ _ _ _ _ _ _ _ _ _ _ e in
    (record { is = refl; is_after = refl; same = record { kind = sym s.kind; name = s.name; variables = s.variables; set = s.set } }, tt)
operations_in r new file file_after (fragment name on directives set braces place) (fragment name' on' directives' set' braces' place') e = tt
operations_in r new file file_after (type_system one) (type_system other) e = tt
operations_in r new file file_after d d_after e = absurd (cc)

pub fragments_in : (r : Renaming) (new : Text) (file file_after : ℕ) (d d_after : Def Span) → place_def no_place d_after ≡ rename_def r new (place_def no_place d) → AllZip (FragmentsMatch r new) (fragment_in file d) (fragment_in file_after d_after)
fragments_in r new file file_after (operation kind name variables directives set braces place) (operation kind' name' variables' directives' set' braces' place') e = tt
fragments_in r new file file_after (fragment name on directives set braces place) (fragment name' on' directives' set' braces' place') e =
    let s = same_fragment _ _ _ _ _ _ _ _ _ _ _ _ e in
    (record { name = ap (λ (n : NameOf (Unit {0})). n.text) s.name; on = sym (ap (λ (n : NameOf (Unit {0})). n.text) s.on); set = s.set }, tt)
fragments_in r new file file_after (type_system one) (type_system other) e = tt
fragments_in r new file file_after d d_after e = absurd (cc)

-- an operation before and after, of one number
pub record OperationsAt (rule : ℕ → Renaming) (new : Text) (k : ℕ) (ds ds_after : List DefinitionOf) (o o_after : OperationOf) : Type 0 where
  pub number : ℕ
  pub stands : IsOperationAt ds number o
  pub stands_after : IsOperationAt ds_after number o_after
  pub same : OperationsMatch (rule (k + number)) new o o_after

module _ (rule : ℕ → Renaming) (new : Text) where
  first_at : (k : ℕ) (d d_after : DefinitionOf) (ds ds_after : List DefinitionOf) (o o_after : OperationOf) → OperationsIn (rule k) new d d_after o o_after → OperationsAt rule new k (d ∷ ds) (d_after ∷ ds_after) o o_after
  first_at k d d_after ds ds_after o o_after h = record {
    number = 0;
    stands = record { definition = d; at = refl; is = h.is };
    stands_after = record { definition = d_after; at = refl; is = h.is_after };
    same = subst (λ (n : ℕ). OperationsMatch (rule n) new o o_after) (omega arith) h.same;
  }

  next_at : (k : ℕ) (d d_after : DefinitionOf) (ds ds_after : List DefinitionOf) (o o_after : OperationOf) → OperationsAt rule new (suc k) ds ds_after o o_after → OperationsAt rule new k (d ∷ ds) (d_after ∷ ds_after) o o_after
  next_at k d d_after ds ds_after o o_after h = record {
    number = suc h.number;
    stands = record { definition = h.stands.definition; at = h.stands.at; is = h.stands.is };
    stands_after = record { definition = h.stands_after.definition; at = h.stands_after.at; is = h.stands_after.is };
    same = subst (λ (n : ℕ). OperationsMatch (rule n) new o o_after) (omega arith) h.same;
  }

  pub operations_zip : {k : ℕ} {ds ds_after : List DefinitionOf} → ArePaired rule new k ds ds_after → AllZip (OperationsAt rule new k ds ds_after) (operations_among ds) (operations_among ds_after)
  operations_zip none = tt
  operations_zip (more {n = k} {d = d} {d_after = d_after} {ds = ds} {ds_after = ds_after} e others) =
      let R : OperationOf → OperationOf → Type 0 = OperationsAt rule new k (d ∷ ds) (d_after ∷ ds_after) in
      zip_append R (operation_in d.file d.definition) (operation_in d_after.file d_after.definition) (operations_among ds) (operations_among ds_after)
      (zip_weaker (OperationsIn (rule k) new d d_after) R (first_at k d d_after ds ds_after) (operation_in d.file d.definition) (operation_in d_after.file d_after.definition)
      (operations_in (rule k) new d.file d_after.file d.definition d_after.definition e))
      (zip_weaker (OperationsAt rule new (suc k) ds ds_after) R (next_at k d d_after ds ds_after) (operations_among ds) (operations_among ds_after) (operations_zip others))

pub fragments_zip : (r : Renaming) (new : Text) {k : ℕ} {ds ds_after : List DefinitionOf} → ArePaired (λ n. r) new k ds ds_after → AllZip (FragmentsMatch r new) (fragments_among ds) (fragments_among ds_after)
fragments_zip r new none = tt
fragments_zip r new (more {d = d} {d_after = d_after} {ds = ds} {ds_after = ds_after} e others) =
    zip_append (FragmentsMatch r new) (fragment_in d.file d.definition) (fragment_in d_after.file d_after.definition) (fragments_among ds) (fragments_among ds_after)
    (fragments_in r new d.file d_after.file d.definition d_after.definition e) (fragments_zip r new others)
