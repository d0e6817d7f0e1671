-- The rename of a variable in its group: an operation and the fragments that it reaches are renamed alike.
use Rattle.std.proofs.Common.{◌≡◌, ℕ, Bool, true, false, List, refl, sym, subst, Contains}
use Rattle.std.specs.Prelude.{◌↔◌, ◌==◌, if◌then◌else◌}
use Rattle.std.specs.List.{list_any}
use Rattle.std.specs.Str.{bytes_eq}
use Rattle.std.proofs.lemmas.Slice.Eq.{bytes_eq-Decides}
use Rattle.gq_text.specs.declared.place.Span.{Span}
use Rattle.gq_tree.specs.Plain.{NameOf, VariableOf}
use Rattle.gq_tree.specs.Readings.{ParsedOf}
use Rattle.gq_project.specs.declared.document.Doc.{Doc}
use Rattle.gq_parse.specs.Parsed.{AreParsed}
use Rattle.gq_types.specs.Entries.{Text, EntryOf}
use Rattle.gq_renamed.specs.Renamings.{variable_called, nothing_renamed, renamed_text}
use Rattle.gq_document.specs.Definitions.{OperationOf, FragmentOf, fragments_of}
use Rattle.gq_document.specs.Reaches.{Reaches}
use Rattle.gq_spreads.proofs.RowLemmas.{stands}
use Rattle.gq_index.specs.VariableNames.{used_variables}
use Rattle.gq_index.specs.Occurrences.{executables}
use Rattle.gq_index.specs.VariableGroups.{VariableGroup, with_operation, with_fragment, ReachesUser, IsOperationAt, IsFragmentAt}
use Rattle.gq_cut.specs.Cut.{variable_in}
use Rattle.gq_laws.proofs.Placing.Renames.{apart}
use Rattle.gq_laws.specs.Renaming.Uses.{UsesAreThoseOfTheRules}
use Rattle.gq_laws.proofs.Renaming.ExecutableLemmas.{fragments_same}
use Rattle.gq_laws.proofs.Renaming.VariableKept.{is_member, no_member}
use Rattle.gq_laws.proofs.RenamedValid.RenamedVariables.{Agree}

module _ (before : List ParsedOf) (old new : Text) (definition : ℕ) (group : List ℕ)
    (members : (n : ℕ) → Contains group n ↔ VariableGroup (executables before) old definition n) where
  abbrev InGroup : ℕ → Type 0
  InGroup n = VariableGroup (executables before) old definition n

  member : (n : ℕ) → list_any (λ m. m == n) group ≡ true → InGroup n
  member n e = is_member old new definition group (executables before) members n e

  outside : (n : ℕ) → list_any (λ m. m == n) group ≡ false → InGroup n → ⊥
  outside n e h = no_member old new definition group (executables before) members n e h

  -- the names of an operation's variables stay apart
  pub names_apart : ((n : ℕ) (o : OperationOf) → InGroup n → IsOperationAt (executables before) n o → (v : VariableOf Span) → Contains o.variables v → v.name.text ≡ new → ⊥) →
      (n : ℕ) (o : OperationOf) → IsOperationAt (executables before) n o → (v w : VariableOf Span) → Contains o.variables v → Contains o.variables w →
      renamed_text (variable_in group old n).variables new v.name.text ≡ renamed_text (variable_in group old n).variables new w.name.text → v.name.text ≡ w.name.text
  names_apart free n o at v w c d e = by (list_any (λ m. m == n) group) refl e
    where
      by : (b : Bool) → list_any (λ m. m == n) group ≡ b →
          renamed_text (if b then variable_called old else nothing_renamed).variables new v.name.text ≡ renamed_text (if b then variable_called old else nothing_renamed).variables new w.name.text →
          v.name.text ≡ w.name.text
      by true h same = apart old new v.name.text w.name.text (free n o (member n h) at v c) (free n o (member n h) at w d) same
      by false h same = same

  module _ (n k : ℕ) (o : OperationOf) (f : FragmentOf) (at_o : IsOperationAt (executables before) n o) (at_f : IsFragmentAt (executables before) k f)
      (way : Reaches (fragments_of before) o.set f) (name : NameOf Span) (used : Contains (used_variables at_f.definition.definition) name) where
    -- where the fragment uses the variable
    reaches_user : old ≡ name.text → ReachesUser (executables before) old n k
    reaches_user same = record {
      operation = o;
      fragment = f;
      is_operation = at_o;
      is_fragment = at_f;
      reached = subst (λ fs. Reaches fs o.set f) (sym (fragments_same before)) way;
      uses = record { definition = at_f.definition; at = at_f.at; name = name; used = used; same = same };
    }

    -- both are in the group, or neither is, or the name is another one
    pub names_agree : renamed_text (variable_in group old k).variables new name.text ≡ renamed_text (variable_in group old n).variables new name.text
    names_agree = by (list_any (λ m. m == k) group) (list_any (λ m. m == n) group) refl refl
      where
        is_old : bytes_eq name.text old ≡ true → old ≡ name.text
        is_old e = sym ((bytes_eq-Decides name.text old).0 e)

        into : (InGroup n → ⊥) → InGroup k → (s : Bool) → bytes_eq name.text old ≡ s → (if s then new else name.text) ≡ name.text
        into not_n in_k true e = absurd (not_n (with_fragment in_k (reaches_user (is_old e))))
        into not_n in_k false e = refl

        out : (InGroup k → ⊥) → InGroup n → (s : Bool) → bytes_eq name.text old ≡ s → name.text ≡ (if s then new else name.text)
        out not_k in_n true e = absurd (not_k (with_operation in_n (reaches_user (is_old e))))
        out not_k in_n false e = refl

        by : (a b : Bool) → list_any (λ m. m == k) group ≡ a → list_any (λ m. m == n) group ≡ b →
            renamed_text (if a then variable_called old else nothing_renamed).variables new name.text ≡ renamed_text (if b then variable_called old else nothing_renamed).variables new name.text
        by true true p q = refl
        by true false p q = into (outside n q) (member k p) (bytes_eq name.text old) refl
        by false true p q = out (outside k p) (member n q) (bytes_eq name.text old) refl
        by false false p q = refl

  -- the same of uses by the rules
  pub rules_agree : (documents : List Doc) → AreParsed documents before → UsesAreThoseOfTheRules → (es : List EntryOf) (n k : ℕ) (o : OperationOf) (f : FragmentOf) →
      IsOperationAt (executables before) n o → IsFragmentAt (executables before) k f → Reaches (fragments_of before) o.set f → Agree es f new (variable_in group old k) (variable_in group old n)
  rules_agree documents are uses es n k o f at_o at_f way u used =
      let d = at_f.definition in
      let law = uses documents (executables before) (record { readings = before; are_readings = are; is = refl }) d (stands (executables before) k d at_f.at) es u.name in
      names_agree n k o f at_o at_f way u.name ((law.of_fragment f at_f.is).1 (record { use_of = u; is = used; named = refl }))
