-- What a project becomes has each of its sets from one before.
use Rattle.std.proofs.Common.{◌≡◌, ◌⊎◌, inl, inr, List, [], ◌∷◌, ◌++◌, Some, map, Contains, refl, sym, ap, ◌∙◌, subst}
use Rattle.std.specs.List.{AllZip}
use Rattle.gq_text.specs.declared.place.Span.{Span}
use Rattle.gq_tree.specs.Plain.{erase_all, erase_document}
use Rattle.gq_tree.specs.Readings.{ParsedOf}
use Rattle.gq_types.specs.BuiltIn.{built_in}
use Rattle.gq_types.specs.Entries.{Text, EntryOf}
use Rattle.gq_types.specs.Roots.{root_of}
use Rattle.gq_document.specs.Definitions.{OperationOf, FragmentOf, operations_of, fragments_of}
use Rattle.gq_document.specs.Executable.{ExecutableOf}
use Rattle.gq_document.specs.FieldSets.{operation_set, fragment_set, InSet}
use Rattle.gq_document.specs.FieldSets as sets
use Rattle.gq_meaning.specs.Thin.{IsIn}
use Rattle.gq_meaning.specs.Selected.{set_of}
use Rattle.gq_meaning.specs.Expand.{Definition, find_definition}
use Rattle.gq_meaning.specs.Rewritten.{Rewritten, AreKept}
use Rattle.gq_meaning.proofs.ExpandLemmas as expanding
use Rattle.gq_meaning.proofs.Places.{set_forgets}
use Rattle.gq_rules.specs.Project.{type_system_of, executable_of}
use Rattle.gq_laws.specs.Rewriting.Documents as documents
use Rattle.gq_laws.specs.Rewriting.Documents.{Operation, OperationBecomes, Restates, definitions_of}
use Rattle.gq_laws.specs.Rewriting.Statics.{static_of, roots_in, seen_fragment, seen_operation}
use Rattle.gq_laws.proofs.Rewriting.Executables.{trees_read, fragments_seen, operations_seen, is_in, contains, root_is}
use Rattle.gq_laws.proofs.Rewriting.After.{erase_operation, fragments_after, operations_after}
use Rattle.gq_laws.specs.Merging.Rewritten.{HasOrigin, IsRewritten}
use Rattle.gq_laws.specs.Merging.Restated.{StoodBefore, RestatedProjectsMerge}
use Rattle.gq_laws.proofs.Merging.Rewritten.{fragment_in, rewritten_fields_merge}

-- what goes with an item of the second list
zip_from : {A B C D : Type 0} (R : C → D → Type 0) (f : A → C) (h : B → D) (xs : List A) (ys : List B) → AllZip R (map f xs) (map h ys) → (y : B) → IsIn y ys → (x : A) × IsIn x xs × R (f x) (h y)
zip_from R f h [] [] all y m = absurd m
zip_from R f h [] (b ∷ ys) all y m = absurd all
zip_from R f h (a ∷ xs) [] all y m = absurd m
zip_from R f h (a ∷ xs) (b ∷ ys) all y (inl e) = (a, inl refl, subst (λ z. R (f a) (h z)) (sym e) all.0)
zip_from R f h (a ∷ xs) (b ∷ ys) all y (inr m) = let r = zip_from R f h xs ys all.1 y m in (r.0, inr r.1, r.2)

module _ (es us : List EntryOf) (bs rs : List ParsedOf) (same : us ≡ es) (restates : Restates (static_of es) (roots_in es) (trees_read bs) (map erase_document (trees_read rs))) where
  abbrev before : ExecutableOf
  before = record { entries = es; operations = operations_of bs; fragments = fragments_of bs }

  abbrev after : ExecutableOf
  after = record { entries = us; operations = operations_of rs; fragments = fragments_of rs }

  abbrev old : List Definition
  old = map seen_fragment (fragments_of bs)

  abbrev new : List Definition
  new = map seen_fragment (fragments_of rs)

  kept : AreKept (static_of es) old new
  kept =
      subst (λ ds. AreKept (static_of es) ds new) (fragments_seen bs)
      (subst (λ ds. AreKept (static_of es) (definitions_of (trees_read bs)) ds) (fragments_seen rs) (fragments_after (static_of es) (roots_in es) (trees_read bs) (trees_read rs) restates))

  abbrev Becomes : List Definition → List Definition → Operation Span → Operation Span → Type 0
  Becomes ds ds' o p = OperationBecomes (static_of es) ds ds' (roots_in es) o (erase_operation p)

  one_to_one : AllZip (Becomes old new) (map seen_operation (operations_of bs)) (map seen_operation (operations_of rs))
  one_to_one =
      subst (λ z. AllZip (Becomes old new) z (map seen_operation (operations_of rs))) (operations_seen bs)
      (subst (λ z. AllZip (Becomes old new) (documents.operations_of (trees_read bs)) z) (operations_seen rs)
      (subst (λ ds. AllZip (Becomes ds new) (documents.operations_of (trees_read bs)) (documents.operations_of (trees_read rs))) (fragments_seen bs)
      (subst (λ ds. AllZip (Becomes (definitions_of (trees_read bs)) ds) (documents.operations_of (trees_read bs)) (documents.operations_of (trees_read rs))) (fragments_seen rs)
      (operations_after (static_of es) (roots_in es) (trees_read bs) (trees_read rs) restates))))

  operation_origin : ((o : OperationOf) → Contains (operations_of bs) o → (t : Text) × (root_of es o.kind ≡ Some t)) → (p : OperationOf) → Contains (operations_of rs) p → (root : Text) × (root_of us p.kind ≡ Some root) × HasOrigin before after root p.set
  operation_origin rooted p c =
      let w = zip_from (Becomes old new) seen_operation seen_operation (operations_of bs) (operations_of rs) one_to_one p (is_in p (operations_of rs) c) in
      let o = w.0 in
      let stood = contains o (operations_of bs) w.1 in
      let t = rooted o stood in
      let kinds : o.kind ≡ p.kind = w.2.kind in
      let at_root : Rewritten (static_of es) old new t.0 (set_of o.set) (set_of (erase_all p.set)) = subst (λ z. Rewritten (static_of es) old new z (set_of o.set) (set_of (erase_all p.set))) (root_is bs es o.kind t.0 t.1) w.2.set in (
        t.0,
        ap (λ z. root_of z p.kind) same ∙ ap (root_of es) (sym kinds) ∙ t.1,
        record {
          old = o.set;
          set = operation_set es o;
          stands = sets.of_operation stood;
          each = λ a i. subst (λ z. InSet before (record { file = o.file; parent = z; selections = o.set }) a) (sym t.1) i;
          stand_for = subst (λ z. Rewritten (static_of es) old new t.0 (set_of o.set) z) (set_forgets p.set) at_root;
        },
      )

  fragment_origin : (g : FragmentOf) → find_definition new g.name.text ≡ Some (seen_fragment g) → StoodBefore bs g ⊎ HasOrigin before after g.on.text g.set → HasOrigin before after g.on.text g.set
  fragment_origin g found (inr origin) = origin
  fragment_origin g found (inl stood) =
      let d = stood.0 in
      let f = fragment_in (fragments_of bs) d (expanding.found old g.name.text d stood.1).1 in
      let ons : f.0.on.text ≡ g.on.text = ap (λ z. z.on) (sym f.2) ∙ stood.2 in
      let becomes = kept.each g.name.text d (seen_fragment g) stood.1 found stood.2 in
      record {
        old = f.0.set;
        set = fragment_set f.0;
        stands = sets.of_fragment f.1;
        each = λ a i. subst (λ z. InSet before (record { file = f.0.file; parent = Some z; selections = f.0.set }) a) (sym ons) i;
        stand_for = subst (λ z. Rewritten (static_of es) old new z (set_of f.0.set) (set_of g.set)) stood.2 (subst (λ z. Rewritten (static_of es) old new d.on z (set_of g.set)) (ap (λ z. z.set) f.2) becomes);
      }

pub restated_projects_merge : RestatedProjectsMerge
restated_projects_merge bs rs is all =
    let same : type_system_of rs ≡ type_system_of bs = ap (λ z. built_in ++ z) (sym is.entries) in
    let rewritten : IsRewritten (executable_of bs) (executable_of rs) = record {
      entries = same;
      operations = operation_origin (type_system_of bs) (type_system_of rs) bs rs same is.restates is.rooted;
      fragments = λ g c. fragment_origin (type_system_of bs) (type_system_of rs) bs rs same is.restates g (is.found g c) (is.fragments g c);
      found = is.found;
      kept = kept (type_system_of bs) (type_system_of rs) bs rs same is.restates;
    } in
    rewritten_fields_merge (executable_of bs) (executable_of rs) rewritten all
