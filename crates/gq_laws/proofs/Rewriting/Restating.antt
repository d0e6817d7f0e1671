-- Documents in which selections are rewritten, from what is so of each set.
use Rattle.std.proofs.Common.{◌≡◌, ◌⊎◌, inl, inr, ℕ, suc, ◌+◌, ◌<◌, ◌≤◌, Bool, true, false, cond, List, [], ◌∷◌, ◌++◌, Option, Some, None, map, filter, length, refl, sym, ap, ◌∙◌, subst, arith, nat_eq}
use Rattle.std.specs.Prelude.{if◌then◌else◌}
use Rattle.std.specs.List.{AllByRecursion, AllZip}
use Rattle.std.specs.Str.{bytes_eq}
use Rattle.std.proofs.lemmas.Bool.Decides.{nat_tests}
use Rattle.gq_text.specs.declared.place.Span.{Span}
use Rattle.gq_tree.specs.declared.tree.OperationKind.{OperationKind}
use Rattle.gq_tree.specs.Plain.{Sels, Def, operation, fragment, type_system, no_place, place_def, erase_all}
use Rattle.gq_meaning.specs.Values.{Text}
use Rattle.gq_meaning.specs.Selected.{set_of}
use Rattle.gq_meaning.specs.Expand.{Definition, find_definition}
use Rattle.gq_meaning.specs.Thin.{IsIn}
use Rattle.gq_meaning.specs.Rewritten.{Static, Rewritten, AreKept}
use Rattle.gq_meaning.proofs.TextLemmas.{same_text, text_same}
use Rattle.gq_rewritten.specs.Rewrites.{Bare, Rewrite, with_set, is_kept, rewritten_document, rewritten_from}
use Rattle.gq_laws.specs.Rewriting.KnownBefore.{IsFound}
use Rattle.gq_laws.specs.Rewriting.Documents.{definition_in, definitions_in, definitions_of, Operation, operations_in, operations_of, EachFrom, OfSet, change_in, OperationBecomes, Restates}
use Rattle.gq_laws.specs.Rewriting.Edits.{IsNamed, GoesAs}
use Rattle.gq_laws.proofs.Rewriting.Conditions.{IsNew}
use Rattle.gq_laws.proofs.Rewriting.Each.{all_map, each_map, each_always}
use Rattle.gq_laws.proofs.Rewriting.Matches.{Matched, counterpart, FragmentBecomes, kept_with, documents_matched}

-- lists
pub in_left : {A : Type 0} (x : A) (xs ys : List A) → IsIn x xs → IsIn x (xs ++ ys)
in_left x [] ys m = absurd m
in_left x (z ∷ xs) ys (inl e) = inl e
in_left x (z ∷ xs) ys (inr m) = inr (in_left x xs ys m)

pub in_right : {A : Type 0} (x : A) (xs ys : List A) → IsIn x ys → IsIn x (xs ++ ys)
in_right x [] ys m = m
in_right x (z ∷ xs) ys m = inr (in_right x xs ys m)

absent_append : (f : Text) (xs ys : List Definition) → find_definition xs f ≡ None → find_definition ys f ≡ None → find_definition (xs ++ ys) f ≡ None
absent_append f [] ys h k = k
absent_append f (x ∷ xs) ys h k = by (bytes_eq f x.name) refl (λ e. absent_append f xs ys e k)
  where
    by : (b : Bool) → bytes_eq f x.name ≡ b → (find_definition xs f ≡ None → find_definition (xs ++ ys) f ≡ None) → find_definition (x ∷ xs ++ ys) f ≡ None
    by true e next = let found = ap (λ z. if z then Some x else find_definition xs f) (sym e) ∙ h in cc
    by false e next = ap (λ z. if z then Some x else find_definition (xs ++ ys) f) e ∙ next (ap (λ z. if z then Some x else find_definition xs f) (sym e) ∙ h)

-- whether it is the name that goes
is_gone : (old : Option Text) (f : Text) → (old ≡ Some f) ⊎ (old ≡ Some f → ⊥)
is_gone None f = inr (λ e. cc)
is_gone (Some g) f = by (bytes_eq g f) refl
  where
    by : (b : Bool) → bytes_eq g f ≡ b → (Some g ≡ Some f) ⊎ (Some g ≡ Some f → ⊥)
    by true e = inl (ap Some (same_text g f e))
    by false e = inr (λ q. let same : g ≡ f = cc in let t = text_same g f same in cc)

module _ (static : Static) (ds ds' : List Definition) where
  abbrev pub Keeps : Definition → Definition → Type 0
  Keeps d d' = (d.on ≡ d'.on) × Rewritten static ds ds' d.on d.set d'.set

  pub all_kept : (old : Option Text) (new : Option Definition) → Matched Keeps old new ds ds' → ((f : Text) → old ≡ Some f → find_definition ds' f ≡ None) → ((n : Definition) → new ≡ Some n → find_definition ds n.name ≡ None) →
      AreKept static ds ds'
  all_kept old new matched absent free = record { each = λ f d d' e e' o. by f d d' e e' (is_gone old f) }
    where
      by : (f : Text) (d d' : Definition) → find_definition ds f ≡ Some d → find_definition ds' f ≡ Some d' → (old ≡ Some f) ⊎ (old ≡ Some f → ⊥) → Rewritten static ds ds' d.on d.set d'.set
      by f d d' e e' (inl g) = let none = absent f g in cc
      by f d d' e e' (inr g) =
          let c = counterpart Keeps old new f d matched e g (λ n is q. let none = free n is in let there : find_definition ds n.name ≡ Some d = ap (find_definition ds) q ∙ e in cc) in
          let same : c.definition ≡ d' = cc in
          subst (λ z. Rewritten static ds ds' d.on d.set z.set) same c.becomes.1

abbrev pub SameCondition : Definition → Definition → Type 0
SameCondition d d' = d.on ≡ d'.on

-- what is found before and after, whatever becomes of the sets
pub still_found : (ds ds' : List Definition) (old : Option Text) (new : Option Definition) → Matched SameCondition old new ds ds' → ((n : Definition) → new ≡ Some n → find_definition ds n.name ≡ None) →
    (f : Text) (d : Definition) → find_definition ds f ≡ Some d → (old ≡ Some f → ⊥) → IsFound ds ds' f
still_found ds ds' old new matched free f d e g =
    let c = counterpart SameCondition old new f d matched e g (λ n is q. let none = free n is in let there : find_definition ds n.name ≡ Some d = ap (find_definition ds) q ∙ e in cc) in
    record { before = d; after = c.definition; is_before = e; is_after = c.is_found; same_on = c.becomes }

pub conditions_matched : (old : Option Text) (new : Option Definition) (r : Rewrite) (file : ℕ) (trees : List (List (Def Span))) → AllByRecursion (IsNew new) r.added → EachFrom (GoesAs r old) file trees →
    Matched SameCondition old new (definitions_of trees) (definitions_of (rewritten_from r file trees))
conditions_matched old new r file trees come leave =
    documents_matched SameCondition old new r file trees come leave (each_always (λ k. FragmentBecomes SameCondition old new (change_in r k)) always file trees)
  where
    always : (k : ℕ) (d : Def Span) → FragmentBecomes SameCondition old new (change_in r k) d
    always k (operation kind name variables directives set braces place) = tt
    always k (fragment name on directives set braces place) = refl
    always k (type_system definition) = tt

-- no fragment of the name that goes is left
gone_row : (old : Option Text) (f : Text) → old ≡ Some f → (change : Sels Span → Bare) (keep : Def Span → Bool) (tree : List (Def Span)) → AllByRecursion (λ d. IsNamed old d → keep d ≡ false) tree →
    find_definition (definitions_in (map (with_set change) (filter keep tree) ++ [])) f ≡ None
gone_row old f g change keep [] all = refl
gone_row old f g change keep (d ∷ tree) all = by d (keep d) all.0 (gone_row old f g change keep tree all.1)
  where
    by : (x : Def Span) (b : Bool) → (IsNamed old x → b ≡ false) → find_definition (definitions_in (map (with_set change) (filter keep tree) ++ [])) f ≡ None →
        find_definition (definitions_in (map (with_set change) (cond b (x ∷ filter keep tree) (filter keep tree)) ++ [])) f ≡ None
    by x false l next = next
    by (operation kind name variables directives set braces place) true l next = next
    by (fragment name on directives set braces place) true l next = by_name (bytes_eq f name.text) refl
      where
        by_name : (b : Bool) → bytes_eq f name.text ≡ b → (if bytes_eq f name.text then Some (record { name = name.text; on = on.text; set = set_of (change set) }) else find_definition (definitions_in (map (with_set change) (filter keep tree) ++ [])) f) ≡ None
        by_name true e = let q : true ≡ false = l (g ∙ ap Some (same_text f name.text e)) in cc
        by_name false e = ap (λ z. if z then Some (record { name = name.text; on = on.text; set = set_of (change set) }) else find_definition (definitions_in (map (with_set change) (filter keep tree) ++ [])) f) e ∙ next
    by (type_system definition) true l next = next

gone_document : (old : Option Text) (f : Text) → old ≡ Some f → (r : Rewrite) → r.added ≡ [] → (file : ℕ) (tree : List (Def Span)) → AllByRecursion (GoesAs r old file) tree → find_definition (definitions_in (rewritten_document r file tree)) f ≡ None
gone_document old f g r nothing file tree all = by (nat_eq r.file file)
  where
    named : AllByRecursion (λ d. IsNamed old d → is_kept r.dropped file d ≡ false) tree
    named = all_map (GoesAs r old file) (λ d. IsNamed old d → is_kept r.dropped file d ≡ false) (λ d h. h.1) tree all

    by : (b : Bool) → find_definition (definitions_in (if b then map (with_set r.change) (filter (is_kept r.dropped file) tree) ++ r.added else map (place_def no_place) (filter (is_kept r.dropped file) tree))) f ≡ None
    by true = subst (λ z. find_definition (definitions_in (map (with_set r.change) (filter (is_kept r.dropped file) tree) ++ z)) f ≡ None) (sym nothing) (gone_row old f g r.change (is_kept r.dropped file) tree named)
    by false = subst (λ z. find_definition (definitions_in z) f ≡ None) (sym (kept_with SameCondition old None (filter (is_kept r.dropped file) tree))) (gone_row old f g erase_all (is_kept r.dropped file) tree named)

pub gone_absent : (old : Option Text) (f : Text) → old ≡ Some f → (r : Rewrite) → r.added ≡ [] → (file : ℕ) (trees : List (List (Def Span))) → EachFrom (GoesAs r old) file trees → find_definition (definitions_of (rewritten_from r file trees)) f ≡ None
gone_absent old f g r nothing file [] all = refl
gone_absent old f g r nothing file (tree ∷ trees) all =
    absent_append f (definitions_in (rewritten_document r file tree)) (definitions_of (rewritten_from r (suc file) trees)) (gone_document old f g r nothing file tree all.0) (gone_absent old f g r nothing (suc file) trees all.1)

-- the fragment that is added stands after
in_row : (n : Definition) (xs added : List (Def (Unit {0}))) → IsIn n (definitions_in added) → IsIn n (definitions_in (xs ++ added))
in_row n [] added m = m
in_row n (x ∷ xs) added m = in_right n (definition_in x) (definitions_in (xs ++ added)) (in_row n xs added m)

pub new_stands : (n : Definition) (r : Rewrite) → IsIn n (definitions_in r.added) → (file : ℕ) (trees : List (List (Def Span))) → file ≤ r.file → r.file < file + length trees → IsIn n (definitions_of (rewritten_from r file trees))
new_stands n r m file [] l h = absurd (omega (arith, l, h))
new_stands n r m file (tree ∷ trees) l h = by (nat_eq r.file file) refl (λ k. new_stands n r m (suc file) trees k (omega (arith, h)))
  where
    by : (b : Bool) → nat_eq r.file file ≡ b → (suc file ≤ r.file → IsIn n (definitions_of (rewritten_from r (suc file) trees))) → IsIn n (definitions_in (rewritten_document r file tree) ++ definitions_of (rewritten_from r (suc file) trees))
    by true e next =
        subst (λ b. IsIn n (definitions_in (if b then map (with_set r.change) (filter (is_kept r.dropped file) tree) ++ r.added else map (place_def no_place) (filter (is_kept r.dropped file) tree)) ++ definitions_of (rewritten_from r (suc file) trees))) (sym e)
        (in_left n (definitions_in (map (with_set r.change) (filter (is_kept r.dropped file) tree) ++ r.added)) (definitions_of (rewritten_from r (suc file) trees)) (in_row n (map (with_set r.change) (filter (is_kept r.dropped file) tree)) r.added m))
    by false e next =
        let other : suc file ≤ r.file = grind (arith, nat_tests) in
        in_right n (definitions_in (rewritten_document r file tree)) (definitions_of (rewritten_from r (suc file) trees)) (next other)

module _ (static : Static) (ds ds' : List Definition) (roots : OperationKind → Text) where
  abbrev pub SetBecomes : (Sels Span → Bare) → Def Span → Type 0
  SetBecomes change = OfSet roots (λ t set. Rewritten static ds ds' t (set_of set) (set_of (change set)))

  abbrev Zipped : List (Operation Span) → List (Operation (Unit {0})) → Type 0
  Zipped = AllZip (OperationBecomes static ds ds' roots)

  zip_append : (xs us : List (Operation Span)) (ys vs : List (Operation (Unit {0}))) → Zipped xs ys → Zipped us vs → Zipped (xs ++ us) (ys ++ vs)
  zip_append [] us [] vs h k = k
  zip_append [] us (y ∷ ys) vs h k = absurd h
  zip_append (x ∷ xs) us [] vs h k = absurd h
  zip_append (x ∷ xs) us (y ∷ ys) vs h k = (h.0, zip_append xs us ys vs h.1 k)

  none_added : (new : Option Definition) (added : List (Def (Unit {0}))) → AllByRecursion (IsNew new) added → Zipped [] (operations_in added)
  none_added new [] all = tt
  none_added new (operation kind name variables directives set braces place ∷ added) all = absurd all.0
  none_added new (fragment name on directives set braces place ∷ added) all = none_added new added all.1
  none_added new (type_system definition ∷ added) all = absurd all.0

  row_zipped : (old : Option Text) (new : Option Definition) (change : Sels Span → Bare) (keep : Def Span → Bool) (added : List (Def (Unit {0}))) → AllByRecursion (IsNew new) added → (tree : List (Def Span)) →
      AllByRecursion (λ d. keep d ≡ false → IsNamed old d) tree → AllByRecursion (SetBecomes change) tree → Zipped (operations_in tree) (operations_in (map (with_set change) (filter keep tree) ++ added))
  row_zipped old new change keep added come [] leave become = none_added new added come
  row_zipped old new change keep added come (d ∷ tree) leave become = by d (keep d) leave.0 become.0 (row_zipped old new change keep added come tree leave.1 become.1)
    where
      by : (x : Def Span) (b : Bool) → (b ≡ false → IsNamed old x) → SetBecomes change x → Zipped (operations_in tree) (operations_in (map (with_set change) (filter keep tree) ++ added)) →
          Zipped (operations_in (x ∷ tree)) (operations_in (map (with_set change) (cond b (x ∷ filter keep tree) (filter keep tree)) ++ added))
      by (operation kind name variables directives set braces place) true l b next = (record { kind = refl; name = refl; variables = refl; directives = refl; set = b }, next)
      by (operation kind name variables directives set braces place) false l b next = absurd (l refl)
      by (fragment name on directives set braces place) true l b next = next
      by (fragment name on directives set braces place) false l b next = next
      by (type_system definition) true l b next = next
      by (type_system definition) false l b next = next

  document_zipped : (old : Option Text) (new : Option Definition) (r : Rewrite) (file : ℕ) (tree : List (Def Span)) → AllByRecursion (IsNew new) r.added → AllByRecursion (GoesAs r old file) tree →
      AllByRecursion (SetBecomes (change_in r file)) tree → Zipped (operations_in tree) (operations_in (rewritten_document r file tree))
  document_zipped old new r file tree come leave become = by (nat_eq r.file file) become
    where
      leaving : AllByRecursion (λ d. is_kept r.dropped file d ≡ false → IsNamed old d) tree
      leaving = all_map (GoesAs r old file) (λ d. is_kept r.dropped file d ≡ false → IsNamed old d) (λ d h. h.0) tree leave

      by : (b : Bool) → AllByRecursion (SetBecomes (if b then r.change else erase_all)) tree →
          Zipped (operations_in tree) (operations_in (if b then map (with_set r.change) (filter (is_kept r.dropped file) tree) ++ r.added else map (place_def no_place) (filter (is_kept r.dropped file) tree)))
      by true become = row_zipped old new r.change (is_kept r.dropped file) r.added come tree leaving become
      by false become =
          subst (λ z. Zipped (operations_in tree) (operations_in z)) (sym (kept_with SameCondition old new (filter (is_kept r.dropped file) tree))) (row_zipped old new erase_all (is_kept r.dropped file) [] tt tree leaving become)

  documents_zipped : (old : Option Text) (new : Option Definition) (r : Rewrite) (file : ℕ) (trees : List (List (Def Span))) → AllByRecursion (IsNew new) r.added → EachFrom (GoesAs r old) file trees →
      EachFrom (λ k. SetBecomes (change_in r k)) file trees → Zipped (operations_of trees) (operations_of (rewritten_from r file trees))
  documents_zipped old new r file [] come leave become = tt
  documents_zipped old new r file (tree ∷ trees) come leave become =
      zip_append (operations_in tree) (operations_of trees) (operations_in (rewritten_document r file tree)) (operations_of (rewritten_from r (suc file) trees))
      (document_zipped old new r file tree come leave.0 become.0) (documents_zipped old new r (suc file) trees come leave.1 become.1)

  sets_matched : (old : Option Text) (new : Option Definition) (r : Rewrite) (trees : List (List (Def Span))) → AllByRecursion (IsNew new) r.added → EachFrom (GoesAs r old) 0 trees →
      EachFrom (λ k. SetBecomes (change_in r k)) 0 trees → Matched (Keeps static ds ds') old new (definitions_of trees) (definitions_of (rewritten_from r 0 trees))
  sets_matched old new r trees come leave become =
      documents_matched (Keeps static ds ds') old new r 0 trees come leave (each_map (λ k. SetBecomes (change_in r k)) (λ k. FragmentBecomes (Keeps static ds ds') old new (change_in r k)) here 0 trees become)
    where
      here : (k : ℕ) (d : Def Span) → SetBecomes (change_in r k) d → FragmentBecomes (Keeps static ds ds') old new (change_in r k) d
      here k (operation kind name variables directives set braces place) h = tt
      here k (fragment name on directives set braces place) h = (refl, h)
      here k (type_system definition) h = tt

-- Rewritten documents, where each set becomes another that stands for it.
pub restated : (static : Static) (roots : OperationKind → Text) (trees : List (List (Def Span))) (r : Rewrite) (old : Option Text) (new : Option Definition) → AllByRecursion (IsNew new) r.added → EachFrom (GoesAs r old) 0 trees →
    ((f : Text) → old ≡ Some f → find_definition (definitions_of (rewritten_from r 0 trees)) f ≡ None) → ((n : Definition) → new ≡ Some n → find_definition (definitions_of trees) n.name ≡ None) →
    EachFrom (λ k. SetBecomes static (definitions_of trees) (definitions_of (rewritten_from r 0 trees)) roots (change_in r k)) 0 trees → Restates static roots trees (rewritten_from r 0 trees)
restated static roots trees r old new come leave absent free become = record {
  fragments = all_kept static (definitions_of trees) (definitions_of (rewritten_from r 0 trees)) old new
      (sets_matched static (definitions_of trees) (definitions_of (rewritten_from r 0 trees)) roots old new r trees come leave become) absent free;
  operations = documents_zipped static (definitions_of trees) (definitions_of (rewritten_from r 0 trees)) roots old new r 0 trees come leave become;
}
