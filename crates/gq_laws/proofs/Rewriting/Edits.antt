-- Documents in which selections are extracted, inlined or opened.
use Rattle.std.proofs.Common.{◌≡◌, inl, ℕ, Bool, true, false, List, Option, Some, None, refl, sym, ap, ◌∙◌, subst, arith, nat_eq}
use Rattle.std.specs.Prelude.{◌&&◌, if◌then◌else◌}
use Rattle.std.specs.List.{AllByRecursion}
use Rattle.gq_text.specs.declared.place.Span.{Span}
use Rattle.gq_tree.specs.declared.tree.OperationKind.{OperationKind}
use Rattle.gq_tree.specs.Forest.{row}
use Rattle.gq_tree.specs.Plain as tree
use Rattle.gq_tree.specs.Plain.{Head, Sel, Sels, Def, operation, fragment, type_system, erase_all}
use Rattle.gq_meaning.specs.Values.{Text}
use Rattle.gq_meaning.specs.Selected.{set_of}
use Rattle.gq_meaning.specs.Expand.{Definition, find_definition}
use Rattle.gq_meaning.specs.Rewritten.{Static, Rewritten}
use Rattle.gq_rewritten.specs.Rewrites.{Rewrite, head_place, same_place, is_kept, with_extracted, with_inlined, rewritten_from}
use Rattle.gq_laws.specs.Rewriting.KnownBefore.{Each, IsTyped, IsFound, IsSpreadFound, IsKnown}
use Rattle.gq_laws.specs.Rewriting.Documents.{definitions_of, EachFrom, OfSet, change_in, Restates, IsSpreadDefined, AreSound}
use Rattle.gq_laws.specs.Rewriting.Edits.{RunAt, extraction, SpreadAt, inlining, GoesAs, IsSpreadOther, removal}
use Rattle.gq_laws.proofs.Rewriting.Conditions.{IsInlinedOrFound, OnlyNothingAt, IsNew, HoldsOrAvoids, holds, avoids, MayExtract, IsInlinedOrOther, MayInline, MayRemove}
use Rattle.gq_laws.proofs.Rewriting.Heads.{known_stays}
use Rattle.gq_laws.proofs.Rewriting.Nests.{outside}
use Rattle.gq_laws.proofs.Rewriting.Sets.{each_map as deep_map}
use Rattle.gq_laws.proofs.Rewriting.Extracts.{outside_stays, IsRunOf, extract_becomes}
use Rattle.gq_laws.proofs.Rewriting.Inlines.{inline_becomes}
use Rattle.gq_laws.proofs.Rewriting.Removes.{remove_becomes}
use Rattle.gq_laws.proofs.Rewriting.Each.{each_two, each_always, deep_two, set_two}
use Rattle.gq_laws.proofs.Rewriting.Matches.{new_found}
use Rattle.gq_laws.proofs.Rewriting.Restating.{SameCondition, SetBecomes, still_found, conditions_matched, gone_absent, new_stands, restated}

-- the fragment of a spread, before and after
spread_found : (ds ds' : List Definition) (old : Option Text) → ((f : Text) (d : Definition) → find_definition ds f ≡ Some d → (old ≡ Some f → ⊥) → IsFound ds ds' f) → (h : Head Span) → IsSpreadDefined ds h → IsSpreadOther old h → IsSpreadFound ds ds' h
spread_found ds ds' old found (tree.field alias name arguments directives braces place) d o = tt
spread_found ds ds' old found (tree.spread name directives place) d o = found name.text d.0 d.1 o
spread_found ds ds' old found (tree.inline on directives braces place) d o = tt

pub none_goes : (h : Head Span) → IsSpreadOther None h
none_goes (tree.field alias name arguments directives braces place) = tt
none_goes (tree.spread name directives place) = λ e. cc
none_goes (tree.inline on directives braces place) = tt

-- nothing is dropped
pub all_stay : (r : Rewrite) → r.dropped ≡ None → (k : ℕ) (d : Def Span) → GoesAs r None k d
all_stay r nothing k (operation kind name variables directives set braces place) =
    ((λ e. let kept = ap (λ z. is_kept z k (operation kind name variables directives set braces place)) nothing in let none : false ≡ true = sym e ∙ kept in cc), (λ h. absurd h))
all_stay r nothing k (fragment name on directives set braces place) =
    ((λ e. let kept = ap (λ z. is_kept z k (fragment name on directives set braces place)) nothing in let none : false ≡ true = sym e ∙ kept in cc), (λ h. cc))
all_stay r nothing k (type_system definition) =
    ((λ e. let kept = ap (λ z. is_kept z k (type_system definition)) nothing in let none : false ≡ true = sym e ∙ kept in cc), (λ h. absurd h))

module _ (static : Static) (roots : OperationKind → Text) (trees : List (List (Def Span))) (sound : AreSound static roots trees) where
  abbrev before : List Definition
  before = definitions_of trees

  -- what is known of each set, where all spreads are of fragments that stay
  all_known : (after : List Definition) → ((h : Head Span) → IsSpreadDefined before h → IsSpreadFound before after h) → EachFrom (λ k d. OfSet roots (IsKnown static before after) d) 0 trees
  all_known after found =
      each_two (λ k d. OfSet roots (λ t set. IsTyped static t (set_of set)) d) (λ k d. OfSet roots (λ t set. Each (IsSpreadDefined before) set) d) (λ k d. OfSet roots (IsKnown static before after) d)
      (λ k d. set_two roots (λ t set. IsTyped static t (set_of set)) (λ t set. Each (IsSpreadDefined before) set) (IsKnown static before after)
      (λ t set typed defined. record { typed = typed; found = deep_map (IsSpreadDefined before) (IsSpreadFound before after) found set defined }) d)
      0 trees sound.typed sound.defined

  -- the document in question, and the others
  in_file : (after : List Definition) (r : Rewrite) (k : ℕ) (set : Sels Span) (t : Text) → IsKnown static before after t set → (nat_eq r.file k ≡ true → Rewritten static before after t (set_of set) (set_of (r.change set))) →
      Rewritten static before after t (set_of set) (set_of (change_in r k set))
  in_file after r k set t known here = by (nat_eq r.file k) refl
    where
      by : (b : Bool) → nat_eq r.file k ≡ b → Rewritten static before after t (set_of set) (set_of ((if nat_eq r.file k then r.change else erase_all) set))
      by true e = subst (λ b. Rewritten static before after t (set_of set) (set_of ((if b then r.change else erase_all) set))) (sym e) (here e)
      by false e = subst (λ b. Rewritten static before after t (set_of set) (set_of ((if b then r.change else erase_all) set))) (sym e) (known_stays static before after t set known)

  module _ (e : RunAt) (may : MayExtract static roots trees e) where
    abbrev extracted_after : List Definition
    extracted_after = definitions_of (rewritten_from (extraction e) 0 trees)

    abbrev fresh : Definition
    fresh = record { name = e.name; on = e.on; set = set_of (erase_all (row e.run)) }

    is_free : (n : Definition) → Some fresh ≡ Some n → find_definition before n.name ≡ None
    is_free n q = let same : fresh ≡ n = cc in subst (λ z. find_definition before z.name ≡ None) same may.free

    extraction_set : (k : ℕ) (t : Text) (set : Sels Span) → IsKnown static before extracted_after t set → (nat_eq e.file k ≡ true → HoldsOrAvoids static e.start e.end e.on e.run t set) → IsRunOf static before extracted_after e.start e.end e.name e.run may.first may.last e.on →
        Rewritten static before extracted_after t (set_of set) (set_of (change_in (extraction e) k set))
    extraction_set k t set known stands run = in_file extracted_after (extraction e) k set t known (λ here. by (stands here))
      where
        by : HoldsOrAvoids static e.start e.end e.on e.run t set → Rewritten static before extracted_after t (set_of set) (set_of (with_extracted e.start e.end e.name set))
        by (holds from to nested others ends) = extract_becomes static before extracted_after e.start e.end e.name e.run may.first may.last from to others ends nested run known
        by (avoids from to nested beside) =
            subst (λ z. Rewritten static before extracted_after t (set_of set) (set_of z)) (sym (outside_stays e.start e.end e.name set (outside e.start e.end from to may.is_some beside set nested))) (known_stays static before extracted_after t set known)

    pub extracts : Restates static roots trees (rewritten_from (extraction e) 0 trees)
    extracts =
        let leave = each_always (GoesAs (extraction e) None) (all_stay (extraction e) refl) 0 trees in
        let come : AllByRecursion (IsNew (Some fresh)) (extraction e).added = (refl, tt) in
        let matched = conditions_matched None (Some fresh) (extraction e) 0 trees come leave in
        let found = still_found before extracted_after None (Some fresh) matched is_free in
        let stands = new_found SameCondition None (Some fresh) fresh matched refl may.free (new_stands fresh (extraction e) (inl refl) 0 trees (omega arith) (omega (arith, may.in_range))) in
        let run : IsRunOf static before extracted_after e.start e.end e.name e.run may.first may.last e.on = record { definition = fresh; is_found = stands; is_on = refl; selects = refl } in
        let known = all_known extracted_after (λ h d. spread_found before extracted_after None found h d (none_goes h)) in
        restated static roots trees (extraction e) None (Some fresh) come leave (λ f q. cc) is_free
        (each_two (λ k d. OfSet roots (IsKnown static before extracted_after) d) (λ k d. nat_eq e.file k ≡ true → OfSet roots (HoldsOrAvoids static e.start e.end e.on e.run) d)
        (λ k. SetBecomes static before extracted_after roots (change_in (extraction e) k)) (λ k d. each_set k d run) 0 trees known may.stands)
      where
        each_set : (k : ℕ) (d : Def Span) → IsRunOf static before extracted_after e.start e.end e.name e.run may.first may.last e.on → OfSet roots (IsKnown static before extracted_after) d →
            (nat_eq e.file k ≡ true → OfSet roots (HoldsOrAvoids static e.start e.end e.on e.run) d) → SetBecomes static before extracted_after roots (change_in (extraction e) k) d
        each_set k (operation kind name variables directives set braces place) run known stands = extraction_set k (roots kind) set known stands run
        each_set k (fragment name on directives set braces place) run known stands = extraction_set k on.text set known stands run
        each_set k (type_system definition) run known stands = tt

  module _ (file : ℕ) (place : Span) (may : MayRemove static roots trees file place) where
    abbrev removed_after : List Definition
    removed_after = definitions_of (rewritten_from (removal file place) 0 trees)

    pub removes : Restates static roots trees (rewritten_from (removal file place) 0 trees)
    removes =
        let leave = each_always (GoesAs (removal file place) None) (all_stay (removal file place) refl) 0 trees in
        let matched = conditions_matched None None (removal file place) 0 trees tt leave in
        let found = still_found before removed_after None None matched (λ n q. cc) in
        let known = all_known removed_after (λ h d. spread_found before removed_after None found h d (none_goes h)) in
        restated static roots trees (removal file place) None None tt leave (λ f q. cc) (λ n q. cc)
        (each_two (λ k d. OfSet roots (IsKnown static before removed_after) d) (λ k d. nat_eq file k ≡ true → OfSet roots (OnlyNothingAt static place) d)
        (λ k. SetBecomes static before removed_after roots (change_in (removal file place) k)) each_set 0 trees known may)
      where
        removal_set : (k : ℕ) (t : Text) (set : Sels Span) → IsKnown static before removed_after t set → (nat_eq file k ≡ true → OnlyNothingAt static place t set) →
            Rewritten static before removed_after t (set_of set) (set_of (change_in (removal file place) k set))
        removal_set k t set known only = in_file removed_after (removal file place) k set t known (λ here. remove_becomes static before removed_after place t set known (only here))

        each_set : (k : ℕ) (d : Def Span) → OfSet roots (IsKnown static before removed_after) d → (nat_eq file k ≡ true → OfSet roots (OnlyNothingAt static place) d) → SetBecomes static before removed_after roots (change_in (removal file place) k) d
        each_set k (operation kind name variables directives set braces p) known only = removal_set k (roots kind) set known only
        each_set k (fragment name on directives set braces p) known only = removal_set k on.text set known only
        each_set k (type_system definition) known only = tt

  module _ (old : Option Text) (s : SpreadAt) (may : MayInline static roots trees old s) where
    abbrev inlined_after : List Definition
    inlined_after = definitions_of (rewritten_from (inlining s) 0 trees)

    absent : (f : Text) → old ≡ Some f → find_definition inlined_after f ≡ None
    absent f q = gone_absent old f q (inlining s) refl 0 trees may.goes

    found : (f : Text) (d : Definition) → find_definition before f ≡ Some d → (old ≡ Some f → ⊥) → IsFound before inlined_after f
    found = still_found before inlined_after old None (conditions_matched old None (inlining s) 0 trees tt may.goes) (λ n q. cc)

    set_known : IsKnown static before inlined_after s.on s.set
    set_known = record {
      typed = may.typed;
      found = deep_two (IsSpreadDefined before) (IsSpreadOther old) (IsSpreadFound before inlined_after) (spread_found before inlined_after old found) s.set may.defined may.other;
    }

    -- a spread in the document in question, and one in another document
    in_it : (k : ℕ) → nat_eq s.file k ≡ true → (h : Head Span) → IsSpreadDefined before h → IsInlinedOrOther before old s k h → IsInlinedOrFound before inlined_after s.place s.on s.set h
    in_it k e h d o = record {
      at_place = λ q. o.at_place (ap (λ b. b && same_place (head_place h) s.place) e ∙ q);
      elsewhere = λ q. spread_found before inlined_after old found h d (o.elsewhere (ap (λ b. b && same_place (head_place h) s.place) e ∙ q));
    }

    in_another : (k : ℕ) → nat_eq s.file k ≡ false → (h : Head Span) → IsSpreadDefined before h → IsInlinedOrOther before old s k h → IsSpreadFound before inlined_after h
    in_another k e h d o = spread_found before inlined_after old found h d (o.elsewhere (ap (λ b. b && same_place (head_place h) s.place) e))

    inlined_set : (k : ℕ) (t : Text) (set : Sels Span) → IsTyped static t (set_of set) → Each (IsSpreadDefined before) set → Each (IsInlinedOrOther before old s k) set →
        Rewritten static before inlined_after t (set_of set) (set_of (change_in (inlining s) k set))
    inlined_set k t set typed defined spreads = by (nat_eq s.file k) refl
      where
        by : (b : Bool) → nat_eq s.file k ≡ b → Rewritten static before inlined_after t (set_of set) (set_of ((if nat_eq s.file k then with_inlined s.place s.on (erase_all s.set) else erase_all) set))
        by true e =
            subst (λ b. Rewritten static before inlined_after t (set_of set) (set_of ((if b then with_inlined s.place s.on (erase_all s.set) else erase_all) set))) (sym e)
            (inline_becomes static before inlined_after s.place s.on s.set set_known t set typed
            (deep_two (IsSpreadDefined before) (IsInlinedOrOther before old s k) (IsInlinedOrFound before inlined_after s.place s.on s.set) (in_it k e) set defined spreads))
        by false e =
            subst (λ b. Rewritten static before inlined_after t (set_of set) (set_of ((if b then with_inlined s.place s.on (erase_all s.set) else erase_all) set))) (sym e)
            (known_stays static before inlined_after t set (record {
              typed = typed;
              found = deep_two (IsSpreadDefined before) (IsInlinedOrOther before old s k) (IsSpreadFound before inlined_after) (in_another k e) set defined spreads;
            }))

    pub inlines : Restates static roots trees (rewritten_from (inlining s) 0 trees)
    inlines =
        restated static roots trees (inlining s) old None tt may.goes absent (λ n q. cc)
        (each_two (λ k d. OfSet roots (λ t set. IsTyped static t (set_of set)) d) (λ k d. OfSet roots (λ t set. Each (IsSpreadDefined before) set × Each (IsInlinedOrOther before old s k) set) d)
        (λ k. SetBecomes static before inlined_after roots (change_in (inlining s) k)) each_set 0 trees sound.typed
        (each_two (λ k d. OfSet roots (λ t set. Each (IsSpreadDefined before) set) d) (λ k d. OfSet roots (λ t set. Each (IsInlinedOrOther before old s k) set) d)
        (λ k d. OfSet roots (λ t set. Each (IsSpreadDefined before) set × Each (IsInlinedOrOther before old s k) set) d) both_sets 0 trees sound.defined may.spreads))
      where
        both_sets : (k : ℕ) (d : Def Span) → OfSet roots (λ t set. Each (IsSpreadDefined before) set) d → OfSet roots (λ t set. Each (IsInlinedOrOther before old s k) set) d →
            OfSet roots (λ t set. Each (IsSpreadDefined before) set × Each (IsInlinedOrOther before old s k) set) d
        both_sets k (operation kind name variables directives set braces p) defined spreads = (defined, spreads)
        both_sets k (fragment name on directives set braces p) defined spreads = (defined, spreads)
        both_sets k (type_system definition) defined spreads = tt

        each_set : (k : ℕ) (d : Def Span) → OfSet roots (λ t set. IsTyped static t (set_of set)) d → OfSet roots (λ t set. Each (IsSpreadDefined before) set × Each (IsInlinedOrOther before old s k) set) d →
            SetBecomes static before inlined_after roots (change_in (inlining s) k) d
        each_set k (operation kind name variables directives set braces p) typed both = inlined_set k (roots kind) set typed both.0 both.1
        each_set k (fragment name on directives set braces p) typed both = inlined_set k on.text set typed both.0 both.1
        each_set k (type_system definition) typed both = tt
