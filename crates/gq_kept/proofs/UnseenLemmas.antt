-- What stays known where the type system becomes another one in fields that are not selected.
use Rattle.std.proofs.Common.{◌≡◌, ⊎_elim, ℕ, Bool, true, false, List, [], ◌∷◌, Vec, Global, Contains, Some, Option, None, map, flat_map, set, refl, sym, ◌∙◌, ap, subst}
use Rattle.std.specs.Prelude.{◌&&◌, ◌||◌, IfSome, is_some, not}
use Rattle.std.specs.Borrow.{Bor}
use Rattle.std.specs.List.{list_any}
use Rattle.gq_text.specs.declared.place.Span.{Span}
use Rattle.gq_tree.specs.declared.tree.Name.{Name}
use Rattle.gq_tree.specs.Plain.{Sels, Def, TypeSystemOf, operation, fragment, type_system}
use Rattle.gq_tree.specs.Readings.{ParsedOf, definitions_read}
use Rattle.gq_types.specs.Entries.{Text, EntryOf}
use Rattle.gq_types.specs.Look.{types_view}
use Rattle.gq_types.proofs.Gathered.{nothing_in, cases_cons}
use Rattle.gq_rules.specs.RuleFaults.{IsRuleFault}
use Rattle.gq_by_file.specs.OneFile.Laws.{AreAlikeToRules}
use Rattle.gq_by_file.specs.Unseen.{AreAlikeUnseen, SeeNothing, sets_in}
use Rattle.gq_by_file.specs.ByFile.{AreByFile}
use Rattle.gq_by_file.specs.declared.by_file.ByFile.{ByFile}
use Rattle.gq_kept.specs.Helping.Texts.{texts_at}
use Rattle.gq_laws.specs.Placing.OtherFields.{OtherFieldsDoNotMatter, SelectNone, TypesLookAlikeBut, erase_without, has_selected, selects_one_of}
use Rattle.gq_kept.specs.declared.by_document.ByDocument.{ByDocument}
use Rattle.gq_kept.specs.declared.field_lists.FieldLists.{FieldLists}
use Rattle.gq_kept.specs.declared.typed.Typed.{Typed}
use Rattle.gq_kept.specs.Helping.ByDocument.{AreByDocument}
use Rattle.gq_kept.specs.Helping.Selected.{AreMarkedFor, AreSelected}
use Rattle.gq_kept.specs.Helping.Unseen.{AreMarkedBy}

or_parts : (a b : Bool) → (a || b) ≡ false → (a ≡ false) × (b ≡ false)
or_parts true b e = absurd (cc)
or_parts false b e = (refl, e)

-- no selections of definitions that select no field of those names select one
sets_none : (names : List Text) (ds : List (Def Span)) → list_any (has_selected names) ds ≡ false → (set : Sels Span) → Contains (flat_map sets_in ds) set → selects_one_of names set ≡ false
sets_none names [] none set c = nothing_in set c
sets_none names (operation kind name variables directives s braces place ∷ ds) none set c =
    let parts = or_parts (selects_one_of names s) (list_any (has_selected names) ds) none in
    ⊎_elim (λ (e : s ≡ set). subst (λ (z : Sels Span). selects_one_of names z ≡ false) e parts.0) (λ d. sets_none names ds parts.1 set d) (cases_cons s set (flat_map sets_in ds) c)
sets_none names (fragment name on directives s braces place ∷ ds) none set c =
    let parts = or_parts (selects_one_of names s) (list_any (has_selected names) ds) none in
    ⊎_elim (λ (e : s ≡ set). subst (λ (z : Sels Span). selects_one_of names z ≡ false) e parts.0) (λ d. sets_none names ds parts.1 set d) (cases_cons s set (flat_map sets_in ds) c)
sets_none names (type_system definition ∷ ds) none set c = sets_none names ds none set c

module _ (looks : TypesLookAlikeBut) (rules : OtherFieldsDoNotMatter IsRuleFault) (es us : List EntryOf) (rs : List ParsedOf) (marks : List Bool) (marked : AreMarkedBy es us rs marks) where
  abbrev names : List Text
  names = marked.names

  alike : AreAlikeUnseen (selects_one_of names) es us
  alike os gs no_operation no_fragment f =
      let none : SelectNone names os gs = record { operations = no_operation; fragments = no_fragment } in
      (rules names es us (looks names es us marked.same) os gs none f, rules names us es (looks names us es (sym marked.same)) os gs none f)

  unseen : SeeNothing (selects_one_of names) rs marks
  unseen n r stands free set c = sets_none names (definitions_read r) (marked.are n r stands free) set c

  -- what is known of documents without a mark stays
  pub known_on : (found left : ByFile) → ((sees : Sels Span → Bool) (es us : List EntryOf) (rs : List ParsedOf) → AreAlikeUnseen sees es us → SeeNothing sees rs marks → AreByFile es rs found → AreByFile us rs left)
      → AreByFile es rs found → AreByFile us rs left
  known_on found left keeps are = keeps (selects_one_of names) es us rs alike unseen are

-- what holds where something is there, which is there
pub some_of : {A : Type 0} (P : A → Type 0) (o : Option A) (x : A) → o ≡ Some x → IfSome o P → P x
some_of {A} P o x e h = subst (λ (z : Option A). IfSome z P) e h

-- marks by names that are lent
pub marked_by : (es us old new : List EntryOf) (rs : List ParsedOf) (found given : List (Bor Name)) (marks : List Bool) → old ≡ es → new ≡ us → given ≡ found
    → map (erase_without (texts_at found)) old ≡ map (erase_without (texts_at found)) new → AreMarkedFor (texts_at given) rs marks → AreMarkedBy es us rs marks
marked_by es us old new rs found given marks were are is same told =
    let erase : List EntryOf → List (TypeSystemOf (Unit {0})) = λ xs. map (erase_without (texts_at given)) xs in
    let one : erase old ≡ erase new = subst (λ (ns : List (Bor Name)). map (erase_without (texts_at ns)) old ≡ map (erase_without (texts_at ns)) new) (sym is) same in
    record { names = texts_at given; same = ap erase (sym were) ∙ one ∙ ap erase are; are = told }

-- what is known of documents, where more is known of the fields that are selected
abbrev pub with_fields : ByDocument → FieldLists → ByDocument
with_fields found fields = record { faults = found.faults; fields = fields; parts = found.parts }

pub fields_on : (found : ByDocument) (fields : FieldLists) (es : List EntryOf) (rs : List ParsedOf) → (AreSelected rs found.fields.lists.items → AreSelected rs fields.lists.items) →
    AreByDocument es rs found → AreByDocument es rs (with_fields found fields)
fields_on found fields es rs kept are = record { faults = are.faults; fields = kept are.fields; parts = are.parts }

-- where documents are marked, what is known stays over the type system that is made
pub unseen_on : (found middle : ByDocument) (fields : FieldLists) (old made : Typed) (rs : List ParsedOf) (marks : Option (Vec Bool Global)) (unseen : Bool) → unseen ≡ is_some marks →
    (AreSelected rs found.fields.lists.items → AreSelected rs fields.lists.items) →
    IfSome marks (λ some. AreSelected rs found.fields.lists.items → AreMarkedBy (types_view old.types) (types_view made.types) rs some.items) →
    (unseen ≡ true → (es us : List EntryOf) (qs : List ParsedOf) → IfSome marks (λ some. AreMarkedBy es us qs some.items) → AreByDocument es qs (with_fields found fields) → AreByDocument us qs middle) →
    unseen ≡ true → AreByDocument (types_view old.types) rs found → AreByDocument (types_view made.types) rs middle
unseen_on found middle fields old made rs None is_unseen is kept marked keeps told are = absurd (cc)
unseen_on found middle fields old made rs (Some some) is_unseen is kept marked keeps told are =
    keeps told (types_view old.types) (types_view made.types) rs (marked are.fields) (fields_on found fields (types_view old.types) rs kept are)

-- where none is marked, it stays over any
pub seen_on : (found middle : ByDocument) (fields : FieldLists) (rs : List ParsedOf) (unseen : Bool) → (AreSelected rs found.fields.lists.items → AreSelected rs fields.lists.items) →
    (unseen ≡ false → middle ≡ with_fields found fields) → unseen ≡ false → (es : List EntryOf) → AreByDocument es rs found → AreByDocument es rs middle
seen_on found middle fields rs is_unseen kept stays told es are = subst (AreByDocument es rs) (sym (stays told)) (fields_on found fields es rs kept are)

-- ---- a document is replaced

not_both : (a b : Bool) → b ≡ false → (a && not b) ≡ false → a ≡ false
not_both true true e h = absurd (cc)
not_both true false e h = absurd (cc)
not_both false b e h = refl

-- what is known of documents, one of which is replaced: the type system is the old one to the rules, or what is known stays where it becomes the new one
pub replaced_on : (found middle left : ByDocument) (old made : Typed) (rs : List ParsedOf) (at : ℕ) (r : ParsedOf) (changes unseen : Bool)
    → (unseen ≡ true → AreByDocument (types_view old.types) rs found → AreByDocument (types_view made.types) rs middle)
    → (unseen ≡ false → (es : List EntryOf) → AreByDocument es rs found → AreByDocument es rs middle)
    → ((es us : List EntryOf) (qs : List ParsedOf) → ((changes && not unseen) ≡ false → AreAlikeToRules es us) → AreByDocument es qs middle → AreByDocument us (set qs at r) left)
    → (changes ≡ false → AreAlikeToRules (types_view old.types) (types_view made.types))
    → AreByDocument (types_view old.types) rs found → AreByDocument (types_view made.types) (set rs at r) left
replaced_on found middle left old made rs at r changes unseen kept same goes alike are = by unseen refl
  where
    by : (b : Bool) → unseen ≡ b → AreByDocument (types_view made.types) (set rs at r) left
    by true e = goes (types_view made.types) (types_view made.types) rs (λ h os gs fault. (λ z. z, λ z. z)) (kept e are)
    by false e = goes (types_view old.types) (types_view made.types) rs (λ h. alike (not_both changes unseen e h)) (same e (types_view old.types) are)
