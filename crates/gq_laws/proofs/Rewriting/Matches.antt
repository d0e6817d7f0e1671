-- The fragments of documents, and those of the rewritten ones.
use Rattle.std.proofs.Common.{◌≡◌, ◌⊎◌, inl, inr, ℕ, suc, Bool, true, false, cond, List, [], ◌∷◌, ◌++◌, Option, Some, None, map, filter, refl, sym, ap, ◌∙◌, subst, nat_eq}
use Rattle.std.specs.Prelude.{if◌then◌else◌}
use Rattle.std.specs.List.{AllByRecursion}
use Rattle.std.specs.Str.{bytes_eq}
use Rattle.gq_text.specs.declared.place.Span.{Span}
use Rattle.gq_tree.specs.Plain.{Sels, Def, operation, fragment, type_system, no_place, place_def, erase_all}
use Rattle.gq_meaning.specs.Values.{Text}
use Rattle.gq_meaning.specs.Selected.{set_of}
use Rattle.gq_meaning.specs.Expand.{Definition, find_definition}
use Rattle.gq_meaning.specs.Thin.{IsIn}
use Rattle.gq_meaning.proofs.TextLemmas.{same_text, text_same}
use Rattle.gq_rewritten.specs.Rewrites.{Bare, Rewrite, with_set, is_kept, rewritten_document, rewritten_from}
use Rattle.gq_laws.specs.Rewriting.Documents.{definitions_in, definitions_of, EachFrom, change_in}
use Rattle.gq_laws.specs.Rewriting.Edits.{IsNamed, GoesAs}
use Rattle.gq_laws.proofs.Rewriting.Conditions.{IsNew}

module _ (Becomes : Definition → Definition → Type 0) (old : Option Text) (new : Option Definition) where
  -- Definitions in order: what each becomes, those of a name that goes left out, and a new one put in.
  pub data Matched : List Definition → List Definition → Type 0 where
    no_more : Matched [] []
    both : {d d' : Definition} {ds ds' : List Definition} → d.name ≡ d'.name → Becomes d d' → Matched ds ds' → Matched (d ∷ ds) (d' ∷ ds')
    goes : {d : Definition} {ds ds' : List Definition} → old ≡ Some d.name → Matched ds ds' → Matched (d ∷ ds) ds'
    comes : {d' : Definition} {ds ds' : List Definition} → new ≡ Some d' → Matched ds ds' → Matched ds (d' ∷ ds')

  pub matched_append : {xs xs' ys ys' : List Definition} → Matched xs xs' → Matched ys ys' → Matched (xs ++ ys) (xs' ++ ys')
  matched_append no_more k = k
  matched_append (both n b h) k = both n b (matched_append h k)
  matched_append (goes g h) k = goes g (matched_append h k)
  matched_append (comes c h) k = comes c (matched_append h k)

  found_cons : (f : Text) (d : Definition) (ds : List Definition) (b : Bool) → bytes_eq f d.name ≡ b → find_definition (d ∷ ds) f ≡ (if b then Some d else find_definition ds f)
  found_cons f d ds b e = ap (λ z. if z then Some d else find_definition ds f) e

  pub record Counterpart (ds' : List Definition) (f : Text) (d : Definition) : Type 0 where
    pub definition : Definition
    pub is_found : find_definition ds' f ≡ Some definition
    pub becomes : Becomes d definition

  -- What is found before is found after, if it neither goes nor is as the new one is called.
  pub counterpart : {ds ds' : List Definition} (f : Text) (d : Definition) → Matched ds ds' → find_definition ds f ≡ Some d → (old ≡ Some f → ⊥) → ((n : Definition) → new ≡ Some n → n.name ≡ f → ⊥) → Counterpart ds' f d
  counterpart f d no_more e g n = cc
  counterpart f d (both {d = x} {d' = x'} {ds} {ds'} same b h) e g n = by (bytes_eq f x.name) refl (λ k. counterpart f d h k g n)
    where
      by : (t : Bool) → bytes_eq f x.name ≡ t → (find_definition ds f ≡ Some d → Counterpart ds' f d) → Counterpart (x' ∷ ds') f d
      by true h1 next =
          let found : Some x ≡ Some d = sym (found_cons f x ds true h1) ∙ e in
          let is : x ≡ d = cc in
          record { definition = x'; is_found = found_cons f x' ds' true (subst (λ z. bytes_eq f z ≡ true) same h1); becomes = subst (λ z. Becomes z x') is b }
      by false h1 next =
          let i = next (sym (found_cons f x ds false h1) ∙ e) in
          record { definition = i.definition; is_found = found_cons f x' ds' false (subst (λ z. bytes_eq f z ≡ false) same h1) ∙ i.is_found; becomes = i.becomes }
  counterpart f d (goes {d = x} {ds} {ds'} leaves h) e g n = by (bytes_eq f x.name) refl (λ k. counterpart f d h k g n)
    where
      by : (t : Bool) → bytes_eq f x.name ≡ t → (find_definition ds f ≡ Some d → Counterpart ds' f d) → Counterpart ds' f d
      by true h1 next = absurd (g (leaves ∙ ap Some (sym (same_text f x.name h1))))
      by false h1 next = next (sym (found_cons f x ds false h1) ∙ e)
  counterpart f d (comes {d' = x'} {ds} {ds'} arrives h) e g n = by (bytes_eq f x'.name) refl (counterpart f d h e g n)
    where
      by : (t : Bool) → bytes_eq f x'.name ≡ t → Counterpart ds' f d → Counterpart (x' ∷ ds') f d
      by true h1 i = absurd (n x' arrives (sym (same_text f x'.name h1)))
      by false h1 i = record { definition = i.definition; is_found = found_cons f x' ds' false h1 ∙ i.is_found; becomes = i.becomes }

  -- The new one is found after, if none before is called so.
  pub new_found : {ds ds' : List Definition} (n : Definition) → Matched ds ds' → new ≡ Some n → find_definition ds n.name ≡ None → IsIn n ds' → find_definition ds' n.name ≡ Some n
  new_found n no_more is e m = absurd m
  new_found n (both {d = x} {d' = x'} {ds} {ds'} same b h) is e m = by (bytes_eq n.name x.name) refl m (λ k i. new_found n h is k i)
    where
      by : (t : Bool) → bytes_eq n.name x.name ≡ t → (n ≡ x') ⊎ IsIn n ds' → (find_definition ds n.name ≡ None → IsIn n ds' → find_definition ds' n.name ≡ Some n) → find_definition (x' ∷ ds') n.name ≡ Some n
      by true h1 where_is next = let found = sym (found_cons n.name x ds true h1) ∙ e in cc
      by false h1 (inl q) next =
          let other : bytes_eq n.name x'.name ≡ false = subst (λ z. bytes_eq n.name z ≡ false) same h1 in
          let t : bytes_eq n.name x'.name ≡ true = text_same n.name x'.name (ap (λ z. z.name) q) in cc
      by false h1 (inr i) next =
          found_cons n.name x' ds' false (subst (λ z. bytes_eq n.name z ≡ false) same h1) ∙ next (sym (found_cons n.name x ds false h1) ∙ e) i
  new_found n (goes {d = x} {ds} {ds'} leaves h) is e m = by (bytes_eq n.name x.name) refl (λ k. new_found n h is k m)
    where
      by : (t : Bool) → bytes_eq n.name x.name ≡ t → (find_definition ds n.name ≡ None → find_definition ds' n.name ≡ Some n) → find_definition ds' n.name ≡ Some n
      by true h1 next = let found = sym (found_cons n.name x ds true h1) ∙ e in cc
      by false h1 next = next (sym (found_cons n.name x ds false h1) ∙ e)
  new_found n (comes {d' = x'} {ds} {ds'} arrives h) is e m =
      let same : n ≡ x' = cc in
      found_cons n.name x' ds' true (text_same n.name x'.name (ap (λ z. z.name) same)) ∙ ap Some (sym same)

module _ (Becomes : Definition → Definition → Type 0) (old : Option Text) (new : Option Definition) where
  abbrev Pairs : List Definition → List Definition → Type 0
  Pairs = Matched Becomes old new

  -- a fragment and the same with its selections changed
  abbrev pub FragmentBecomes : (Sels Span → Bare) → Def Span → Type 0
  FragmentBecomes change (operation kind name variables directives set braces place) = Unit {0}
  FragmentBecomes change (fragment name on directives set braces place) =
      Becomes (record { name = name.text; on = on.text; set = set_of set }) (record { name = name.text; on = on.text; set = set_of (change set) })
  FragmentBecomes change (type_system definition) = Unit {0}

  added_come : (added : List (Def (Unit {0}))) → AllByRecursion (IsNew new) added → Pairs [] (definitions_in added)
  added_come [] all = no_more
  added_come (operation kind name variables directives set braces place ∷ added) all = absurd all.0
  added_come (fragment name on directives set braces place ∷ added) all = comes all.0 (added_come added all.1)
  added_come (type_system definition ∷ added) all = absurd all.0

  pub row_matched : (change : Sels Span → Bare) (keep : Def Span → Bool) (added : List (Def (Unit {0}))) → AllByRecursion (IsNew new) added → (tree : List (Def Span)) →
      AllByRecursion (λ d. keep d ≡ false → IsNamed old d) tree → AllByRecursion (FragmentBecomes change) tree → Pairs (definitions_in tree) (definitions_in (map (with_set change) (filter keep tree) ++ added))
  row_matched change keep added come [] leave become = added_come added come
  row_matched change keep added come (d ∷ tree) leave become = by d (keep d) leave.0 become.0 (row_matched change keep added come tree leave.1 become.1)
    where
      by : (x : Def Span) (b : Bool) → (b ≡ false → IsNamed old x) → FragmentBecomes change x → Pairs (definitions_in tree) (definitions_in (map (with_set change) (filter keep tree) ++ added)) →
          Pairs (definitions_in (x ∷ tree)) (definitions_in (map (with_set change) (cond b (x ∷ filter keep tree) (filter keep tree)) ++ added))
      by (operation kind name variables directives set braces place) true l b next = next
      by (operation kind name variables directives set braces place) false l b next = next
      by (fragment name on directives set braces place) true l b next = both refl b next
      by (fragment name on directives set braces place) false l b next = goes (l refl) next
      by (type_system definition) true l b next = next
      by (type_system definition) false l b next = next

  pub kept_with : (ds : List (Def Span)) → map (place_def no_place) ds ≡ map (with_set erase_all) ds ++ []
  kept_with [] = refl
  kept_with (operation kind name variables directives set braces place ∷ ds) = ap (λ z. place_def no_place (operation kind name variables directives set braces place) ∷ z) (kept_with ds)
  kept_with (fragment name on directives set braces place ∷ ds) = ap (λ z. place_def no_place (fragment name on directives set braces place) ∷ z) (kept_with ds)
  kept_with (type_system definition ∷ ds) = ap (λ z. place_def no_place (type_system definition) ∷ z) (kept_with ds)

  document_matched : (r : Rewrite) (file : ℕ) (tree : List (Def Span)) → AllByRecursion (IsNew new) r.added → AllByRecursion (GoesAs r old file) tree → AllByRecursion (FragmentBecomes (change_in r file)) tree →
      Pairs (definitions_in tree) (definitions_in (rewritten_document r file tree))
  document_matched r file tree come leave become = by (nat_eq r.file file) become
    where
      leaving : (ds : List (Def Span)) → AllByRecursion (GoesAs r old file) ds → AllByRecursion (λ d. is_kept r.dropped file d ≡ false → IsNamed old d) ds
      leaving [] all = tt
      leaving (d ∷ ds) all = (all.0.0, leaving ds all.1)

      by : (b : Bool) → AllByRecursion (FragmentBecomes (if b then r.change else erase_all)) tree →
          Pairs (definitions_in tree) (definitions_in (if b then map (with_set r.change) (filter (is_kept r.dropped file) tree) ++ r.added else map (place_def no_place) (filter (is_kept r.dropped file) tree)))
      by true become = row_matched r.change (is_kept r.dropped file) r.added come tree (leaving tree leave) become
      by false become =
          subst (λ z. Pairs (definitions_in tree) (definitions_in z)) (sym (kept_with (filter (is_kept r.dropped file) tree))) (row_matched erase_all (is_kept r.dropped file) [] tt tree (leaving tree leave) become)

  pub documents_matched : (r : Rewrite) (file : ℕ) (trees : List (List (Def Span))) → AllByRecursion (IsNew new) r.added → EachFrom (GoesAs r old) file trees → EachFrom (λ k. FragmentBecomes (change_in r k)) file trees →
      Pairs (definitions_of trees) (definitions_of (rewritten_from r file trees))
  documents_matched r file [] come leave become = no_more
  documents_matched r file (tree ∷ trees) come leave become =
      matched_append Becomes old new (document_matched r file tree come leave.0 become.0) (documents_matched r (suc file) trees come leave.1 become.1)
