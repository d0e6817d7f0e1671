-- A variable that is renamed in its group brings no fault of fields that merge, where each fragment is reached by an operation.
use Rattle.std.proofs.Common.{◌≡◌, ℕ, List, refl, sym, ap, ◌∙◌, subst, Contains}
use Rattle.gq_text.specs.declared.place.Span.{Span}
use Rattle.gq_fault.specs.declared.fault.Fault.{Fault}
use Rattle.gq_tree.specs.Plain.{NameOf}
use Rattle.gq_tree.specs.Readings.{ParsedOf}
use Rattle.gq_types.specs.Entries.{Text, EntryOf}
use Rattle.gq_renamed.specs.Renamings.{Renaming, renamed_text}
use Rattle.gq_renamed.specs.Renamed.{rename_fragment}
use Rattle.gq_document.specs.Definitions.{OperationOf, FragmentOf, operations_of, fragments_of}
use Rattle.gq_document.specs.Reaches.{Reaches}
use Rattle.gq_merging.specs.FieldsMerge.{IsMergingFault}
use Rattle.gq_index.specs.VariableNames.{used_variables}
use Rattle.gq_index.specs.Occurrences.{executables}
use Rattle.gq_index.specs.VariableGroups.{IsOperationAt, IsFragmentAt}
use Rattle.gq_rules.specs.Files.{together}
use Rattle.gq_laws.specs.Placing.Names.{ChangesNoFragment}
use Rattle.gq_laws.proofs.Renaming.ExecutableLemmas.{operation_stands, fragment_stands}
use Rattle.gq_laws.proofs.RenamedValid.EachReached.{EachFragmentIsReached}
use Rattle.gq_laws.proofs.RenamedValid.RenamedReading.{renamed_readings}
use Rattle.gq_laws.proofs.RenamedValid.RenamedUses.{rename_uses}
use Rattle.gq_laws.proofs.RenamedValid.RenamedFaults.{was_operation, was_fragment, text_stays}
use Rattle.gq_laws.proofs.RenamedValid.RenamedMerging.{WasSpread, merging_was}
use Rattle.gq_laws.proofs.RenamedValid.RulesAgree.{definition_agrees}

module _ (es : List EntryOf) (before : List ParsedOf) (rule : ℕ → Renaming) (new : Text) (stay : ChangesNoFragment rule)
    (agree : (n k : ℕ) (o : OperationOf) (f : FragmentOf) → IsOperationAt (executables before) n o → (at : IsFragmentAt (executables before) k f) → Reaches (fragments_of before) o.set f →
    (name : NameOf Span) → Contains (used_variables at.definition.definition) name → renamed_text (rule k).variables new name.text ≡ renamed_text (rule n).variables new name.text) where
  abbrev after : List ParsedOf
  after = renamed_readings rule new before

  record IsItsRule (o : OperationOf) (r : Renaming) : Type 0 where
    number : ℕ
    at : IsOperationAt (executables before) number o
    is : r ≡ rule number

  stays_by : (o : OperationOf) (r : Renaming) → IsItsRule o r → (name : NameOf Span) → (rename_fragment r new name).text ≡ name.text
  stays_by o r q name = subst (λ z. (rename_fragment z new name).text ≡ name.text) (sym q.is) (text_stays es before rule new stay q.number name.text)

  one_fragment : (n k : ℕ) (o : OperationOf) (f : FragmentOf) → IsOperationAt (executables before) n o → IsFragmentAt (executables before) k f → Reaches (fragments_of before) o.set f →
      rename_uses (rule k) new f ≡ rename_uses (rule n) new f
  one_fragment n k o f at_o at_f way =
      definition_agrees (rule k) (rule n) new (λ t. text_stays es before rule new stay k t ∙ sym (text_stays es before rule new stay n t))
      at_f.definition.file at_f.definition.definition f at_f.is (agree n k o f at_o at_f way)

  was_spread : (o : OperationOf) (r : Renaming) → IsItsRule o r → WasSpread es (operations_of before) (operations_of after) (fragments_of before) (fragments_of after) new o r
  was_spread o r q name g c e reached =
      let w = was_fragment es before rule new stay g c in
      let there = fragment_stands before w.number w.was w.at in
      let named : name.text ≡ w.was.name.text = e ∙ ap (λ z. z.name.text) w.is ∙ text_stays es before rule new stay w.number w.was.name.text in
      let is : g ≡ rename_uses r new w.was =
      w.is ∙ one_fragment q.number w.number o w.was q.at w.at (reached w.was there named) ∙ ap (λ z. rename_uses z new w.was) (sym q.is) in
      (w.was, there, named, is)

  pub merging_stays : EachFragmentIsReached before → (f : Fault) → IsMergingFault (together es after) f → IsMergingFault (together es before) f
  merging_stays all f h =
      merging_was es (operations_of before) (operations_of after) (fragments_of before) (fragments_of after) new IsItsRule stays_by was_spread
      (λ p c.
      let w = was_operation es before rule new stay p c in
      (w.was, rule w.number, record { number = w.number; at = w.at; is = refl }, operation_stands before w.number w.was w.at, w.is))
      (λ g c.
      let w = was_fragment es before rule new stay g c in
      let there = fragment_stands before w.number w.was w.at in
      let k = all w.was there in
      let is = w.is ∙ one_fragment k.number w.number k.operation w.was k.at w.at k.reached in
      (k.operation, rule k.number, record { number = k.number; at = k.at; is = refl }, (w.was, there, k.reached, is)))
      f h
