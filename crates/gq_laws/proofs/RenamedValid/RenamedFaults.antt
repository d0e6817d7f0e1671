-- A variable that is renamed in its group brings no fault of variables.
use Rattle.std.proofs.Common.{◌≡◌, ℕ, Bool, true, false, List, [], ◌∷◌, map, flat_map, refl, sym, ap, ◌∙◌, subst, Contains}
use Rattle.std.specs.Prelude.{if◌then◌else◌}
use Rattle.gq_text.specs.declared.place.Span.{Span}
use Rattle.gq_fault.specs.declared.fault.Fault.{Fault}
use Rattle.gq_tree.specs.Forest.{labels}
use Rattle.gq_tree.specs.Names.{spread_name}
use Rattle.gq_tree.specs.Plain.{VariableOf, Head, field, spread, inline, Sels, Def, operation, fragment, type_system}
use Rattle.gq_tree.specs.Readings.{ParsedOf}
use Rattle.gq_tree.proofs.ForestLemmas.{relabel_labels}
use Rattle.gq_types.specs.Entries.{Text, EntryOf}
use Rattle.gq_types.proofs.Gathered.{nothing_in, first, only, from_flat}
use Rattle.gq_renamed.specs.Renamings.{Renaming, renamed_text}
use Rattle.gq_renamed.specs.Renamed.{rename_head, rename_selections, rename_def}
use Rattle.gq_document.specs.Definitions.{OperationOf, FragmentOf, operation_in, fragment_in, operations_of, fragments_of}
use Rattle.gq_document.specs.Executable.{ExecutableOf}
use Rattle.gq_document.specs.Reaches.{Reaches}
use Rattle.gq_spreads.proofs.ReachLemmas.{reached_stands}
use Rattle.gq_spreads.proofs.RowLemmas.{stands, number_of}
use Rattle.gq_variables.specs.Uses.{UseOf}
use Rattle.gq_variables.specs.ReachedUses.{ReachesUse}
use Rattle.gq_variables.specs.VariableFaults.{IsFaultOfOperation, IsVariableFault}
use Rattle.gq_index.specs.Occurrences.{DefinitionOf, executables}
use Rattle.gq_index.specs.VariableGroups.{IsOperationAt, IsFragmentAt}
use Rattle.gq_rules.specs.Files.{together}
use Rattle.gq_laws.specs.Placing.Names.{ChangesNoFragment}
use Rattle.gq_laws.proofs.Placing.Forgetting.{all_three}
use Rattle.gq_laws.proofs.Placing.SpreadNames.{spread_texts, spreads_fragment, reaches_by}
use Rattle.gq_laws.proofs.Placing.SpreadPlaces.{fragments_spread}
use Rattle.gq_laws.proofs.Renaming.ExecutableLemmas.{operation_stands, fragment_stands, fragment_there}
use Rattle.gq_laws.proofs.Renaming.PairedLemmas.{operations_are, fragments_are}
use Rattle.gq_laws.proofs.RenamedValid.RenamedReading.{renamed_readings, renamed_trees, definition_from, definition_to}
use Rattle.gq_laws.proofs.RenamedValid.RenamedUses.{rename_operation, rename_uses, IsConstant}
use Rattle.gq_laws.proofs.RenamedValid.RenamedVariables.{Agree, IsReached, StaysReached, fault_before}

-- what a definition is, renamed
module _ (r : Renaming) (new : Text) (file : ℕ) where
  operation_renamed : (d : Def Span) (p : OperationOf) → Contains (operation_in file (rename_def r new d)) p → (o : OperationOf) × (operation_in file d ≡ o ∷ []) × (p ≡ rename_operation r new o)
  operation_renamed (operation kind name variables directives set braces place) p c =
      let o : OperationOf = record { file = file; kind = kind; name = name; variables = variables; directives = directives; set = set; braces = braces; place = place } in
      (o, refl, only (rename_operation r new o) p c)
  operation_renamed (fragment name on directives set braces place) p c = nothing_in p c
  operation_renamed (type_system definition) p c = nothing_in p c

  fragment_renamed : (d : Def Span) (g : FragmentOf) → Contains (fragment_in file (rename_def r new d)) g → (f : FragmentOf) × (fragment_in file d ≡ f ∷ []) × (g ≡ rename_uses r new f)
  fragment_renamed (fragment name on directives set braces place) g c =
      let f : FragmentOf = record { file = file; name = name; on = on; directives = directives; set = set; braces = braces; place = place } in
      (f, refl, only (rename_uses r new f) g c)
  fragment_renamed (operation kind name variables directives set braces place) g c = nothing_in g c
  fragment_renamed (type_system definition) g c = nothing_in g c

  fragment_after : (d : Def Span) (f : FragmentOf) → fragment_in file d ≡ f ∷ [] → fragment_in file (rename_def r new d) ≡ rename_uses r new f ∷ []
  fragment_after (fragment name on directives set braces place) f e =
      let own : FragmentOf = record { file = file; name = name; on = on; directives = directives; set = set; braces = braces; place = place } in
      let same : own ≡ f = cc in
      ap (λ z. rename_uses r new z ∷ []) same
  fragment_after (operation kind name variables directives set braces place) f e = absurd (cc)
  fragment_after (type_system definition) f e = absurd (cc)

  fragment_of : (d : Def Span) (f : FragmentOf) → Contains (fragment_in file d) f → fragment_in file d ≡ f ∷ []
  fragment_of (fragment name on directives set braces place) f c =
      let own : FragmentOf = record { file = file; name = name; on = on; directives = directives; set = set; braces = braces; place = place } in
      ap (λ z. z ∷ []) (sym (only own f c))
  fragment_of (operation kind name variables directives set braces place) f c = nothing_in f c
  fragment_of (type_system definition) f c = nothing_in f c

module _ (es : List EntryOf) (before : List ParsedOf) (rule : ℕ → Renaming) (new : Text) (stay : ChangesNoFragment rule) where
  abbrev ds : List DefinitionOf
  ds = executables before

  abbrev after : List ParsedOf
  after = renamed_readings rule new before

  abbrev x : ExecutableOf
  x = together es before

  abbrev y : ExecutableOf
  y = together es after

  -- an operation and a fragment afterwards, and what it was
  pub record WasOperation (p : OperationOf) : Type 0 where
    pub number : ℕ
    pub was : OperationOf
    pub at : IsOperationAt ds number was
    pub is : p ≡ rename_operation (rule number) new was

  pub record WasFragment (g : FragmentOf) : Type 0 where
    pub number : ℕ
    pub was : FragmentOf
    pub at : IsFragmentAt ds number was
    pub is : g ≡ rename_uses (rule number) new was

  pub was_operation : (p : OperationOf) → Contains (operations_of after) p → WasOperation p
  was_operation p c =
      let e = from_flat (λ (d : DefinitionOf). operation_in d.file d.definition) (executables after) p (subst (λ (ps : List OperationOf). Contains ps p) (operations_are after) c) in
      let k = number_of (executables after) e.0 e.1 in
      let d = definition_from rule new before k.0 e.0 k.1 in
      let w = operation_renamed (rule k.0) new d.0.file d.0.definition p (subst (λ (z : DefinitionOf). Contains (operation_in z.file z.definition) p) d.2 e.2) in
      record { number = k.0; was = w.0; at = record { definition = d.0; at = d.1; is = w.1 }; is = w.2 }

  pub was_fragment : (g : FragmentOf) → Contains (fragments_of after) g → WasFragment g
  was_fragment g c =
      let e = from_flat (λ (d : DefinitionOf). fragment_in d.file d.definition) (executables after) g (subst (λ (gs : List FragmentOf). Contains gs g) (fragments_are after) c) in
      let k = number_of (executables after) e.0 e.1 in
      let d = definition_from rule new before k.0 e.0 k.1 in
      let w = fragment_renamed (rule k.0) new d.0.file d.0.definition g (subst (λ (z : DefinitionOf). Contains (fragment_in z.file z.definition) g) d.2 e.2) in
      record { number = k.0; was = w.0; at = record { definition = d.0; at = d.1; is = w.1 }; is = w.2 }

  stays_fragment : (k : ℕ) (f : FragmentOf) → IsFragmentAt ds k f → Contains (fragments_of after) (rename_uses (rule k) new f)
  stays_fragment k f at =
      let d : DefinitionOf = record { file = at.definition.file; definition = rename_def (rule k) new at.definition.definition } in
      let there = stands (executables after) k d (definition_to rule new before k at.definition at.at) in
      let is = fragment_after (rule k) new d.file at.definition.definition f at.is in
      let g = rename_uses (rule k) new f in
      fragment_there after d there g (subst (λ (gs : List FragmentOf). Contains gs g) (sym is) (first g g [] refl))

  -- the number of a fragment
  numbered : (f : FragmentOf) → Contains (fragments_of before) f → (k : ℕ) × IsFragmentAt ds k f
  numbered f c =
      let e = from_flat (λ (d : DefinitionOf). fragment_in d.file d.definition) ds f (subst (λ (fs : List FragmentOf). Contains fs f) (fragments_are before) c) in
      let k = number_of ds e.0 e.1 in
      (k.0, record { definition = e.0; at = k.1; is = fragment_of (rule k.0) new e.0.file e.0.definition f e.2 })

  -- spreads are what they were
  pub text_stays : (n : ℕ) (text : Text) → renamed_text (rule n).fragments new text ≡ text
  text_stays n text = by ((rule n).fragments text) (stay n text)
    where
      by : (b : Bool) → b ≡ false → (if b then new else text) ≡ text
      by true e = absurd (cc)
      by false e = refl

  heads_stay : (n : ℕ) (hs : List (Head Span)) → map (λ m. m.text) (flat_map spread_name (map (rename_head (rule n) new) hs)) ≡ map (λ m. m.text) (flat_map spread_name hs)
  heads_stay n [] = refl
  heads_stay n (field alias name arguments directives braces place ∷ hs) = heads_stay n hs
  heads_stay n (spread name directives place ∷ hs) =
      ap (λ z. z ∷ map (λ m. m.text) (flat_map spread_name (map (rename_head (rule n) new) hs))) (text_stays n name.text) ∙ ap (λ z. name.text ∷ z) (heads_stay n hs)
  heads_stay n (inline on directives braces place ∷ hs) = heads_stay n hs

  set_stays : (n : ℕ) (ss : Sels Span) → spread_texts (rename_selections (rule n) new ss) ≡ spread_texts ss
  set_stays n ss = ap (λ z. map (λ m. m.text) (flat_map spread_name z)) (relabel_labels (rename_head (rule n) new) ss) ∙ heads_stay n (labels ss)

  fragment_stays : (k : ℕ) (f : FragmentOf) → spreads_fragment (rename_uses (rule k) new f) ≡ spreads_fragment f
  fragment_stays k f = all_three refl (text_stays k f.name.text) (set_stays k f.set)

  fragments_stay : map spreads_fragment (fragments_of after) ≡ map spreads_fragment (fragments_of before)
  fragments_stay = fragments_spread rule new stay before after (renamed_trees rule new before)

  module _ (agree : (n k : ℕ) (o : OperationOf) (f : FragmentOf) → IsOperationAt ds n o → IsFragmentAt ds k f → Reaches (fragments_of before) o.set f → Agree es f new (rule k) (rule n)) where
    reach_from : (n : ℕ) (o : OperationOf) → IsOperationAt ds n o → (g : FragmentOf) → Reaches (fragments_of after) (rename_selections (rule n) new o.set) g →
        IsReached es (fragments_of before) o new (rule n) g
    reach_from n o at g way =
        let w = was_fragment g (reached_stands (fragments_of after) (rename_selections (rule n) new o.set) g way) in
        let same : spreads_fragment g ≡ spreads_fragment w.was = ap spreads_fragment w.is ∙ fragment_stays w.number w.was in
        let reached = reaches_by (fragments_of after) (fragments_of before) fragments_stay way o.set (set_stays n o.set) w.was (fragment_stands before w.number w.was w.at) same in
        record { fragment = w.was; rule = rule w.number; reached = reached; is = w.is; agrees = agree n w.number o w.was at w.at reached }

    reach_to : (n : ℕ) (o : OperationOf) → IsOperationAt ds n o → (f : FragmentOf) → Reaches (fragments_of before) o.set f → StaysReached es (fragments_of after) o new (rule n) f
    reach_to n o at f way =
        let k = numbered f (reached_stands (fragments_of before) o.set f way) in record {
          rule = rule k.0;
          reached = reaches_by (fragments_of before) (fragments_of after) (sym fragments_stay) way (rename_selections (rule n) new o.set) (sym (set_stays n o.set)) (rename_uses (rule k.0) new f)
              (stays_fragment k.0 f k.1) (sym (fragment_stays k.0 f));
          agrees = agree n k.0 o f at k.1 way;
        }

    pub fault_was : ((n : ℕ) (o : OperationOf) → IsOperationAt ds n o → IsConstant es o) →
        ((o : OperationOf) → Contains (operations_of before) o → (u : UseOf) → ReachesUse x o u → (v : VariableOf Span) × Contains o.variables v × (v.name.text ≡ u.name.text)) →
        ((n : ℕ) (o : OperationOf) → IsOperationAt ds n o → (v w : VariableOf Span) → Contains o.variables v → Contains o.variables w →
        renamed_text (rule n).variables new v.name.text ≡ renamed_text (rule n).variables new w.name.text → v.name.text ≡ w.name.text) →
        (f : Fault) → IsVariableFault y f → (g : Fault) × IsVariableFault x g
    fault_was constant defined apart f h =
        let w = was_operation h.operation h.stands in
        let there = operation_stands before w.number w.was w.at in
        let fault : IsFaultOfOperation y (rename_operation (rule w.number) new w.was) f = subst (λ z. IsFaultOfOperation y z f) w.is h.fault in
        let g = fault_before es (operations_of before) (operations_of after) (fragments_of before) (fragments_of after) (rule w.number) new w.was (constant w.number w.was w.at)
        (reach_from w.number w.was w.at) (reach_to w.number w.was w.at) (defined w.was there) (apart w.number w.was w.at) f fault in
        (g.0, record { operation = w.was; stands = there; fault = g.1 })
