-- A project in one document of which selections change and keep their places, and at the end of which definitions may be added.
use Rattle.std.proofs.Common.{◌≡◌, ℕ, suc, ◌+◌, Bool, true, false, List, [], ◌∷◌, ◌++◌, map, flat_map, refl, sym, ap, ◌∙◌, arith}
use Rattle.std.specs.Prelude.{nat_eq, filter, None, if◌then◌else◌}
use Rattle.std.specs.List.{enumerate_from}
use Rattle.std.proofs.lemmas.List.{append-nil, append_assoc, map-append, map-id}
use Rattle.gq_text.specs.declared.place.Span.{Span}
use Rattle.gq_tree.specs.Plain.{Sels, Def, operation, fragment, type_system, no_place, place_def, erase_all, erase_document}
use Rattle.gq_tree.specs.Readings.{ParsedOf, tree, definitions_read, in_document}
use Rattle.gq_document.specs.Definitions.{OperationOf, FragmentOf, operation_in, fragment_in, entry_in, operations_of, fragments_of, entries_of}
use Rattle.gq_rewritten.specs.Rewrites.{Bare, Rewrite, with_set, is_kept, rewritten_document, rewritten_from}
use Rattle.gq_laws.specs.Placing.Places.{erase_read}

-- a definition with its selections changed
abbrev pub with_selections : (Sels Span → Sels Span) → Def Span → Def Span
with_selections change (operation kind name variables directives set braces place) = operation kind name variables directives (change set) braces place
with_selections change (fragment name on directives set braces place) = fragment name on directives (change set) braces place
with_selections change (type_system definition) = type_system definition

abbrev pub with_operation_set : OperationOf → Sels Span → OperationOf
with_operation_set o set = record { file = o.file; kind = o.kind; name = o.name; variables = o.variables; directives = o.directives; set = set; braces = o.braces; place = o.place }

abbrev pub with_fragment_set : FragmentOf → Sels Span → FragmentOf
with_fragment_set f set = record { file = f.file; name = f.name; on = f.on; directives = f.directives; set = set; braces = f.braces; place = f.place }

module _ (file : ℕ) (change : Sels Span → Sels Span) (added : List (Def Span)) where
  abbrev pub changed_document : ℕ → List (Def Span) → List (Def Span)
  changed_document n ds = if nat_eq file n then map (with_selections change) ds ++ added else ds

  -- the readings, the first of which has the number n
  abbrev pub changed_from : ℕ → List ParsedOf → List ParsedOf
  changed_from n [] = []
  changed_from n (r ∷ rs) = tree (changed_document n (definitions_read r)) ∷ changed_from (n + 1) rs

-- the selections in the document of that number
abbrev pub changed_at : ℕ → (Sels Span → Sels Span) → ℕ → Sels Span → Sels Span
changed_at file change n set = if nat_eq file n then change set else set

abbrev pub changed_operation : ℕ → (Sels Span → Sels Span) → OperationOf → OperationOf
changed_operation file change o = with_operation_set o (changed_at file change o.file o.set)

abbrev pub changed_fragment : ℕ → (Sels Span → Sels Span) → FragmentOf → FragmentOf
changed_fragment file change f = with_fragment_set f (changed_at file change f.file f.set)

-- what the documents have of one kind
module _ {A : Type 0} (file : ℕ) (change : Sels Span → Sels Span) (added : List (Def Span)) (what : ℕ → Def Span → List A) (becomes : A → A) (new : ℕ → List A) where
  pub record IsChanged : Type 0 where
    pub changed : (n : ℕ) → nat_eq file n ≡ true → (d : Def Span) → what n (with_selections change d) ≡ map becomes (what n d)
    pub stays : (n : ℕ) → nat_eq file n ≡ false → (d : Def Span) → what n d ≡ map becomes (what n d)
    pub news : (n : ℕ) → nat_eq file n ≡ true → flat_map (what n) added ≡ new n
    pub no_news : (n : ℕ) → nat_eq file n ≡ false → [] ≡ new n

  module _ (is : IsChanged) where
    of_changed : (n : ℕ) → nat_eq file n ≡ true → (ds : List (Def Span)) → flat_map (what n) (map (with_selections change) ds ++ added) ≡ map becomes (flat_map (what n) ds) ++ new n
    of_changed n e [] = is.news n e
    of_changed n e (d ∷ ds) =
        ap (λ z. z ++ flat_map (what n) (map (with_selections change) ds ++ added)) (is.changed n e d)
        ∙ ap (λ z. map becomes (what n d) ++ z) (of_changed n e ds)
        ∙ sym (append_assoc (map becomes (what n d)) (map becomes (flat_map (what n) ds)) (new n))
        ∙ ap (λ z. z ++ new n) (sym (map-append becomes (what n d) (flat_map (what n) ds)))

    of_same : (n : ℕ) → nat_eq file n ≡ false → (ds : List (Def Span)) → flat_map (what n) ds ≡ map becomes (flat_map (what n) ds)
    of_same n e [] = refl
    of_same n e (d ∷ ds) =
        ap (λ z. z ++ flat_map (what n) ds) (is.stays n e d) ∙ ap (λ z. map becomes (what n d) ++ z) (of_same n e ds) ∙ sym (map-append becomes (what n d) (flat_map (what n) ds))

    of_document : (n : ℕ) (b : Bool) → nat_eq file n ≡ b → (ds : List (Def Span)) →
        flat_map (what n) (if b then map (with_selections change) ds ++ added else ds) ≡ map becomes (flat_map (what n) ds) ++ new n
    of_document n true e ds = of_changed n e ds
    of_document n false e ds = of_same n e ds ∙ sym (append-nil (map becomes (flat_map (what n) ds))) ∙ ap (λ z. map becomes (flat_map (what n) ds) ++ z) (is.no_news n e)

    pub of_documents : (n : ℕ) (rs : List ParsedOf) →
        flat_map (λ r. in_document what r.0 r.1) (enumerate_from n (changed_from file change added n rs)) ≡
        flat_map (λ r. map becomes (in_document what r.0 r.1) ++ new r.0) (enumerate_from n rs)
    of_documents n [] = refl
    of_documents n (r ∷ rs) =
        ap (λ z. z ++ flat_map (λ r. in_document what r.0 r.1) (enumerate_from (n + 1) (changed_from file change added (n + 1) rs))) (of_document n (nat_eq file n) refl (definitions_read r))
        ∙ ap (λ z. (map becomes (in_document what n r) ++ new n) ++ z) (of_documents (n + 1) rs)

-- nothing is new
pub without_such : {X A : Type 0} (f : X → List A) (new : X → List A) (becomes : A → A) (xs : List X) → ((x : X) → new x ≡ []) →
    flat_map (λ x. map becomes (f x) ++ new x) xs ≡ map becomes (flat_map f xs)
without_such f new becomes [] nothing = refl
without_such f new becomes (x ∷ xs) nothing =
    ap (λ z. (map becomes (f x) ++ z) ++ flat_map (λ x. map becomes (f x) ++ new x) xs) (nothing x) ∙ ap (λ z. z ++ flat_map (λ x. map becomes (f x) ++ new x) xs) (append-nil (map becomes (f x)))
    ∙ ap (λ z. map becomes (f x) ++ z) (without_such f new becomes xs nothing) ∙ sym (map-append becomes (f x) (flat_map f xs))

module _ (file : ℕ) (change : Sels Span → Sels Span) (added : List (Def Span)) where
  chosen : (n : ℕ) (b : Bool) → nat_eq file n ≡ b → (set : Sels Span) → changed_at file change n set ≡ (if b then change set else set)
  chosen n b e set = ap (λ z. if z then change set else set) e

  operation_changed : (n : ℕ) → nat_eq file n ≡ true → (d : Def Span) → operation_in n (with_selections change d) ≡ map (changed_operation file change) (operation_in n d)
  operation_changed n e (operation kind name variables directives set braces place) =
      ap (λ z. record { file = n; kind = kind; name = name; variables = variables; directives = directives; set = z; braces = braces; place = place } ∷ []) (sym (chosen n true e set))
  operation_changed n e (fragment name on directives set braces place) = refl
  operation_changed n e (type_system definition) = refl

  operation_stays : (n : ℕ) → nat_eq file n ≡ false → (d : Def Span) → operation_in n d ≡ map (changed_operation file change) (operation_in n d)
  operation_stays n e (operation kind name variables directives set braces place) =
      ap (λ z. record { file = n; kind = kind; name = name; variables = variables; directives = directives; set = z; braces = braces; place = place } ∷ []) (sym (chosen n false e set))
  operation_stays n e (fragment name on directives set braces place) = refl
  operation_stays n e (type_system definition) = refl

  fragment_changed : (n : ℕ) → nat_eq file n ≡ true → (d : Def Span) → fragment_in n (with_selections change d) ≡ map (changed_fragment file change) (fragment_in n d)
  fragment_changed n e (operation kind name variables directives set braces place) = refl
  fragment_changed n e (fragment name on directives set braces place) =
      ap (λ z. record { file = n; name = name; on = on; directives = directives; set = z; braces = braces; place = place } ∷ []) (sym (chosen n true e set))
  fragment_changed n e (type_system definition) = refl

  fragment_stays : (n : ℕ) → nat_eq file n ≡ false → (d : Def Span) → fragment_in n d ≡ map (changed_fragment file change) (fragment_in n d)
  fragment_stays n e (operation kind name variables directives set braces place) = refl
  fragment_stays n e (fragment name on directives set braces place) =
      ap (λ z. record { file = n; name = name; on = on; directives = directives; set = z; braces = braces; place = place } ∷ []) (sym (chosen n false e set))
  fragment_stays n e (type_system definition) = refl

  entry_changed : (n : ℕ) (d : Def Span) → entry_in n (with_selections change d) ≡ map (λ e. e) (entry_in n d)
  entry_changed n (operation kind name variables directives set braces place) = refl
  entry_changed n (fragment name on directives set braces place) = refl
  entry_changed n (type_system definition) = refl

  pub operations_changed : ((n : ℕ) → flat_map (operation_in n) added ≡ []) → (rs : List ParsedOf) →
      operations_of (changed_from file change added 0 rs) ≡ map (changed_operation file change) (operations_of rs)
  operations_changed nothing rs =
      of_documents file change added operation_in (changed_operation file change) (λ n. [])
      (record { changed = operation_changed; stays = operation_stays; news = λ n e. nothing n; no_news = λ n e. refl }) 0 rs
      ∙ without_such (λ r. in_document operation_in r.0 r.1) (λ r. []) (changed_operation file change) (enumerate_from 0 rs) (λ r. refl)

  pub entries_changed : ((n : ℕ) → flat_map (entry_in n) added ≡ []) → (rs : List ParsedOf) → entries_of (changed_from file change added 0 rs) ≡ entries_of rs
  entries_changed nothing rs =
      of_documents file change added entry_in (λ e. e) (λ n. [])
      (record { changed = λ n e. entry_changed n; stays = λ n e d. sym (map-id (entry_in n d)); news = λ n e. nothing n; no_news = λ n e. refl }) 0 rs
      ∙ without_such (λ r. in_document entry_in r.0 r.1) (λ r. []) (λ e. e) (enumerate_from 0 rs) (λ r. refl)
      ∙ map-id (entries_of rs)

  -- the fragments that are added in the document of that number
  abbrev pub new_fragments : ℕ → List FragmentOf
  new_fragments n = if nat_eq file n then flat_map (fragment_in n) added else []

  pub fragments_changed : (rs : List ParsedOf) → fragments_of (changed_from file change added 0 rs) ≡ flat_map
      (λ r. map (changed_fragment file change) (in_document fragment_in r.0 r.1) ++ new_fragments r.0) (enumerate_from 0 rs)
  fragments_changed rs =
      of_documents file change added fragment_in (changed_fragment file change) new_fragments (record {
        changed = fragment_changed;
        stays = fragment_stays;
        news = λ n e. ap (λ z. if z then flat_map (fragment_in n) added else []) (sym e);
        no_news = λ n e. ap (λ z. if z then flat_map (fragment_in n) added else []) (sym e);
      }) 0 rs

  -- The trees without places are those of the rewrite.
  module _ (bare : Sels Span → Bare) (bare_added : List (Def (Unit {0}))) (same : (ss : Sels Span) → erase_all (change ss) ≡ bare ss) (same_added : erase_document added ≡ bare_added) where
    abbrev pub bare_rewrite : Rewrite
    bare_rewrite = record { file = file; change = bare; added = bare_added; dropped = None }

    all_kept : (n : ℕ) (ds : List (Def Span)) → filter (is_kept None n) ds ≡ ds
    all_kept n [] = refl
    all_kept n (d ∷ ds) = ap (λ z. d ∷ z) (all_kept n ds)

    definition_erased : (d : Def Span) → place_def no_place (with_selections change d) ≡ with_set bare d
    definition_erased (operation kind name variables directives set braces place) = ap (λ z. place_with_set (operation kind name variables directives set braces place) z) (same set)
      where
        place_with_set : Def Span → Bare → Def (Unit {0})
        place_with_set d z = with_set (λ s. z) d
    definition_erased (fragment name on directives set braces place) = ap (λ z. with_set (λ s. z) (fragment name on directives set braces place)) (same set)
    definition_erased (type_system definition) = refl

    document_erased : (ds : List (Def Span)) → erase_document (map (with_selections change) ds ++ added) ≡ map (with_set bare) ds ++ bare_added
    document_erased [] = same_added
    document_erased (d ∷ ds) = ap (λ z. z ∷ erase_document (map (with_selections change) ds ++ added)) (definition_erased d) ∙ ap (λ z. with_set bare d ∷ z) (document_erased ds)

    one_erased : (n : ℕ) (b : Bool) (ds : List (Def Span)) →
        erase_document (if b then map (with_selections change) ds ++ added else ds) ≡ (if b then map (with_set bare) ds ++ bare_added else map (place_def no_place) ds)
    one_erased n true ds = document_erased ds
    one_erased n false ds = refl

    changed_erased : (n : ℕ) (rs : List ParsedOf) → map erase_read (changed_from file change added n rs) ≡ rewritten_from bare_rewrite n (map definitions_read rs)
    changed_erased n [] = refl
    changed_erased n (r ∷ rs) =
        let next : n + 1 ≡ suc n = omega arith in
        ap (λ z. z ∷ map erase_read (changed_from file change added (n + 1) rs)) (one_erased n (nat_eq file n) (definitions_read r)
        ∙ ap (λ z. if nat_eq file n then map (with_set bare) z ++ bare_added else map (place_def no_place) z) (sym (all_kept n (definitions_read r))))
        ∙ ap (λ z. rewritten_document bare_rewrite n (definitions_read r) ∷ z) (changed_erased (n + 1) rs ∙ ap (λ z. rewritten_from bare_rewrite z (map definitions_read rs)) next)

    pub changed_is_rewritten : (rs : List ParsedOf) → map erase_read (changed_from file change added 0 rs) ≡ rewritten_from bare_rewrite 0 (map definitions_read rs)
    changed_is_rewritten rs = changed_erased 0 rs
