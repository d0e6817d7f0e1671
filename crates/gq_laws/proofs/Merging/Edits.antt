-- Each fragment of documents that are rewritten stood before, where none is added.
use Rattle.std.proofs.Common.{◌≡◌, ◌⊎◌, ⊎_elim, inl, inr, Bool, true, false, List, [], ◌∷◌, Option, Some, None, map, refl, sym, ap, ◌∙◌, subst}
use Rattle.std.specs.Prelude.{if◌then◌else◌}
use Rattle.std.specs.List.{AllByRecursion}
use Rattle.std.specs.Str.{bytes_eq}
use Rattle.gq_tree.specs.Readings.{ParsedOf}
use Rattle.gq_types.specs.Entries.{Text}
use Rattle.gq_document.specs.Definitions.{FragmentOf, fragments_of}
use Rattle.gq_meaning.specs.Expand.{Definition, find_definition}
use Rattle.gq_meaning.proofs.TextLemmas.{same_text}
use Rattle.gq_rewritten.specs.Rewrites.{Rewrite, rewritten_from}
use Rattle.gq_merging.specs.FieldsMerge.{IsMergingFault}
use Rattle.gq_rules.specs.Project.{type_system_of, executable_of}
use Rattle.gq_laws.specs.Rewriting.Documents.{definitions_of, EachFrom, Restates}
use Rattle.gq_laws.specs.Rewriting.Edits.{inlining, removal, GoesAs}
use Rattle.gq_laws.specs.Rewriting.Statics.{static_of, roots_in, seen_fragment}
use Rattle.gq_laws.proofs.Rewriting.After.{definitions_forget}
use Rattle.gq_laws.proofs.Rewriting.Conditions.{IsNew}
use Rattle.gq_laws.proofs.Rewriting.Each.{each_always}
use Rattle.gq_laws.proofs.Rewriting.Edits.{all_stay}
use Rattle.gq_laws.proofs.Rewriting.Executables.{trees_read, fragments_seen}
use Rattle.gq_laws.proofs.Rewriting.Located.{inline_restates, remove_restates}
use Rattle.gq_laws.proofs.Rewriting.Matches.{Matched, no_more, both, goes, comes}
use Rattle.gq_laws.proofs.Rewriting.Restating.{SameCondition, conditions_matched, gone_absent}
use Rattle.gq_laws.specs.Placing.Types.{IsFaultless}
use Rattle.gq_laws.specs.Merging.Restated.{StoodBefore}
use Rattle.gq_laws.specs.Merging.Edits.{IsMadeBy, InlinedFieldsMerge, FieldsOutOfBracesMerge}
use Rattle.gq_laws.proofs.Merging.Restated.{restated_projects_merge}

found_cons : (f : Text) (d : Definition) (ds : List Definition) (b : Bool) → bytes_eq f d.name ≡ b → find_definition (d ∷ ds) f ≡ (if b then Some d else find_definition ds f)
found_cons f d ds b e = ap (λ z. if z then Some d else find_definition ds f) e

abbrev Stood : List Definition → Text → Definition → Type 0
Stood ds f d' = (d : Definition) × (find_definition ds f ≡ Some d) × (d.on ≡ d'.on)

-- what is found after was found before, or is new
stood : (new : Option Definition) (departing : Option Text) {ds ds' : List Definition} (f : Text) (d' : Definition) → Matched SameCondition departing new ds ds' → find_definition ds' f ≡ Some d' → (departing ≡ Some f → ⊥) → Stood ds f d' ⊎ (new ≡ Some d')
stood new departing f d' no_more e g = absurd (cc)
stood new departing f d' (both {d = x} {d' = x'} {ds} {ds'} same b h) e g = by (bytes_eq f x'.name) refl (λ k. stood new departing f d' h k g)
  where
    by : (t : Bool) → bytes_eq f x'.name ≡ t → (find_definition ds' f ≡ Some d' → Stood ds f d' ⊎ (new ≡ Some d')) → Stood (x ∷ ds) f d' ⊎ (new ≡ Some d')
    by true h1 next =
        let found : Some x' ≡ Some d' = sym (found_cons f x' ds' true h1) ∙ e in
        let is : x' ≡ d' = cc in
        inl (x, found_cons f x ds true (subst (λ z. bytes_eq f z ≡ true) (sym same) h1), subst (λ z. x.on ≡ z.on) is b)
    by false h1 next =
        ⊎_elim (λ q. inl (q.0, found_cons f x ds false (subst (λ z. bytes_eq f z ≡ false) (sym same) h1) ∙ q.1, q.2)) (λ q. inr q) (next (sym (found_cons f x' ds' false h1) ∙ e))
stood new departing f d' (goes {d = x} {ds} {ds'} leaves h) e g = by (bytes_eq f x.name) refl (stood new departing f d' h e g)
  where
    by : (t : Bool) → bytes_eq f x.name ≡ t → Stood ds f d' ⊎ (new ≡ Some d') → Stood (x ∷ ds) f d' ⊎ (new ≡ Some d')
    by true h1 next = absurd (g (leaves ∙ ap Some (sym (same_text f x.name h1))))
    by false h1 next = ⊎_elim (λ q. inl (q.0, found_cons f x ds false h1 ∙ q.1, q.2)) (λ q. inr q) next
stood new departing f d' (comes {d' = x'} {ds} {ds'} arrives h) e g = by (bytes_eq f x'.name) refl (λ k. stood new departing f d' h k g)
  where
    by : (t : Bool) → bytes_eq f x'.name ≡ t → (find_definition ds' f ≡ Some d' → Stood ds f d' ⊎ (new ≡ Some d')) → Stood ds f d' ⊎ (new ≡ Some d')
    by true h1 next =
        let found : Some x' ≡ Some d' = sym (found_cons f x' ds' true h1) ∙ e in
        inr (arrives ∙ found)
    by false h1 next = next (sym (found_cons f x' ds' false h1) ∙ e)

-- an edit that adds no fragment
made : (bs rs : List ParsedOf) (r : Rewrite) (gone : Option Text) → IsMadeBy r bs rs → AllByRecursion (IsNew None) r.added → r.added ≡ [] → EachFrom (GoesAs r gone) 0 (trees_read bs) →
    Restates (static_of (type_system_of bs)) (roots_in (type_system_of bs)) (trees_read bs) (rewritten_from r 0 (trees_read bs)) → IsFaultless IsMergingFault (executable_of bs) → IsFaultless IsMergingFault (executable_of rs)
made bs rs r gone m come nothing leave restates all =
    restated_projects_merge bs rs (record {
      entries = m.entries;
      restates = subst (λ z. Restates (static_of (type_system_of bs)) (roots_in (type_system_of bs)) (trees_read bs) z) (sym m.is) restates;
      rooted = m.rooted;
      found = m.found;
      fragments = λ g c. inl (before_too g (m.found g c));
    }) all
  where
    old : List Definition
    old = map seen_fragment (fragments_of bs)

    new : List Definition
    new = map seen_fragment (fragments_of rs)

    news : definitions_of (rewritten_from r 0 (trees_read bs)) ≡ new
    news = ap (λ z. definitions_of z) (sym m.is) ∙ definitions_forget (trees_read rs) ∙ fragments_seen rs

    matched : Matched SameCondition gone None old new
    matched =
        subst (λ z. Matched SameCondition gone None z new) (fragments_seen bs) (subst (λ z. Matched SameCondition gone None (definitions_of (trees_read bs)) z) news (conditions_matched gone None r 0 (trees_read bs) come leave))

    stays : (g : FragmentOf) → find_definition new g.name.text ≡ Some (seen_fragment g) → gone ≡ Some g.name.text → ⊥
    stays g found e =
        let none : find_definition new g.name.text ≡ None = ap (λ z. find_definition z g.name.text) (sym news) ∙ gone_absent gone g.name.text e r nothing 0 (trees_read bs) leave in
        let both_are : Some (seen_fragment g) ≡ None = sym found ∙ none in
        cc

    before_too : (g : FragmentOf) → find_definition new g.name.text ≡ Some (seen_fragment g) → StoodBefore bs g
    before_too g found = ⊎_elim (λ q. q) (λ q. absurd (cc)) (stood None gone g.name.text (seen_fragment g) matched found (stays g found))

pub inlined_fields_merge : InlinedFieldsMerge
inlined_fields_merge bs rs old s m sound can all =
    made bs rs (inlining s) old m tt refl can.goes (inline_restates (static_of (type_system_of bs)) (roots_in (type_system_of bs)) (trees_read bs) old s sound can) all

pub fields_out_of_braces_merge : FieldsOutOfBracesMerge
fields_out_of_braces_merge bs rs file place m sound can all =
    made bs rs (removal file place) None m tt refl (each_always (GoesAs (removal file place) None) (all_stay (removal file place) refl) 0 (trees_read bs))
    (remove_restates (static_of (type_system_of bs)) (roots_in (type_system_of bs)) (trees_read bs) file place sound can) all
