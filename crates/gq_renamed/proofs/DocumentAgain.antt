-- Where tokens are a document, the same tokens with names changed are the document with those names changed.
use Rattle.std.proofs.Common.{◌≡◌, ℕ, List, [], ◌∷◌, None, refl, sym, ap, subst, ◌∙◌}
use Rattle.gq_text.specs.declared.place.Span.{Span}
use Rattle.gq_tree.specs.declared.tree.OperationKind.TheVariants.{Query}
use Rattle.gq_tree.specs.Plain.{Def, operation, fragment, type_system, place_def, no_place, erase_document}
use Rattle.gq_parse.specs.Grammar.{Tokens, covered, IsOperationDefinition, bare, typed, IsFragmentDefinition, fragment_on}
use Rattle.gq_parse.specs.Documents.{IsDefinition, an_operation, a_fragment, a_type_system_definition, IsDocument, at_end, definition}
use Rattle.gq_renamed.specs.Renamings.{Renaming, renamed_text, MayName}
use Rattle.gq_renamed.specs.Renamed.{rename_def, next_number, rename_document}
use Rattle.gq_renamed.specs.Changed.{changed_in_def, changed_in_document}
use Rattle.gq_renamed.proofs.Regrammar.{Again, BeginsUnmarked, joined, joined_begins, changed, changed_begins, nothing, kept_again, kept_begins, operation_type_begins, set_begins, operation_type_again, optional_name_again, variables_again, directives_again, set_again, fragment_name_again, condition_again}
use Rattle.gq_renamed.proofs.TypeSystemAgain.{AgainText, StartsUnmarked, lifted, lifted_starts, changed_text, changed_starts, then_text, then_starts, nameless, type_system_again}

abbrev pub plain_def : Def Span → Def (Unit {0})
plain_def d = place_def no_place d

-- a definition with names changed
abbrev pub DefRenamed : Renaming → List ℕ → Def Span → Tokens → Tokens → Type 0
DefRenamed r new d x y = (d' : Def Span) × IsDefinition d' x y × (plain_def d' ≡ rename_def r new (plain_def d))

operation_again : {new : List ℕ} (r : Renaming) {d : Def Span} {tokens rest : Tokens} → MayName r new → IsOperationDefinition d tokens rest → Again new (changed_in_def r d) (DefRenamed r new d) tokens rest
operation_again r may (bare set) =
    changed (λ x y q. (operation Query None [] [] q.0 (covered x y) (covered x y), an_operation (bare q.1), let e = q.2 in cc)) (set_again r may set)
operation_again {new} r may (typed {type = type} {name = name} {variables = vs} {directives = ds} {ss = ss} a b c d word n vars dirs set) =
    changed (λ x y q.
    let q1 = q.2 in
    let q2 = q1.2 in
    let q3 = q2.2 in
    let s = q3.2 in (
      operation type q1.1.0 q2.1.0 q3.1.0 s.0 (covered q3.0 y) (covered x y),
      an_operation (typed q.0 q1.0 q2.0 q3.0 q.1 q1.1.1 q2.1.1 q3.1.1 s.1),
      let e1 = q1.1.2 in let e2 = q2.1.2 in let e3 = q3.1.2 in let e4 = s.2 in cc,
    ))
    (joined (operation_type_again word) (joined (optional_name_again n) (joined (variables_again r vars) (joined (directives_again r dirs) (set_again r may set)))))

fragment_again : {new : List ℕ} (r : Renaming) {d : Def Span} {tokens rest : Tokens} → MayName r new → IsFragmentDefinition d tokens rest → Again new (changed_in_def r d) (DefRenamed r new d) tokens rest
fragment_again {new} r may (fragment_on {name = name} {on = on} {directives = ds} {ss = ss} a b c d first word n cond dirs set) =
    changed (λ x y q.
    let q1 = q.2 in
    let q2 = q1.2 in
    let q3 = q2.2 in
    let s = q3.2 in (
      fragment (record { text = renamed_text r.fragments new name.text; place = q1.1.0 }) q2.1.0 q3.1.0 s.0 (covered q3.0 y) (covered x y),
      a_fragment (fragment_on q.0 q1.0 q2.0 q3.0 q.1.0 q.1.1 q1.1.1 q2.1.1 q3.1.1 s.1),
      let e1 = q2.1.2 in let e2 = q3.1.2 in let e3 = s.2 in cc,
    ))
    (joined (kept_again word) (joined (fragment_name_again r may n) (joined (condition_again cond) (joined (directives_again r dirs) (set_again r may set)))))

definition_again : {new : List ℕ} (r : Renaming) {d : Def Span} {tokens rest : Tokens} → MayName r new → IsDefinition d tokens rest → AgainText new (changed_in_def r d) (DefRenamed r new d) tokens rest
definition_again r may (an_operation h) = lifted (operation_again r may h)
definition_again r may (a_fragment h) = lifted (fragment_again r may h)
definition_again r may (a_type_system_definition h) = changed_text (λ x y q. (type_system q.0, a_type_system_definition q.1, let e = q.2 in cc)) (type_system_again h)

-- the definitions behind are numbered alike
pub number_kept : (d : Def Span) (k : ℕ) → next_number (plain_def d) k ≡ next_number d k
number_kept (operation kind name variables directives set braces place) k = refl
number_kept (fragment name on directives set braces place) k = refl
number_kept (type_system one) k = refl

-- a document with names changed
abbrev pub DocumentRenamed : (ℕ → Renaming) → ℕ → List ℕ → List (Def Span) → Tokens → Tokens → Type 0
DocumentRenamed rule k new ds x y = y ≡ [] → (ds' : List (Def Span)) × IsDocument ds' x × (erase_document ds' ≡ rename_document rule k new (erase_document ds))

-- the first token of a definition is not marked
operation_begins : {d : Def Span} {tokens rest : Tokens} (new : List ℕ) (r : Renaming) (may : MayName r new) (h : IsOperationDefinition d tokens rest) → BeginsUnmarked (operation_again {new = new} r may h).front
unfolding operation_again
operation_begins new r may (bare set) = changed_begins _ _ (set_begins new r may set)
operation_begins new r may (typed a b c d word n vars dirs set) = changed_begins _ _ (joined_begins _ _ (operation_type_begins new word))

fragment_begins : {d : Def Span} {tokens rest : Tokens} (new : List ℕ) (r : Renaming) (may : MayName r new) (h : IsFragmentDefinition d tokens rest) → BeginsUnmarked (fragment_again {new = new} r may h).front
unfolding fragment_again
fragment_begins new r may (fragment_on a b c d first word n cond dirs set) = changed_begins _ _ (joined_begins _ _ (kept_begins new word))

definition_starts : {d : Def Span} {tokens rest : Tokens} (new : List ℕ) (r : Renaming) (may : MayName r new) (h : IsDefinition d tokens rest) → StartsUnmarked (definition_again {new = new} r may h).front
unfolding definition_again
definition_starts new r may (an_operation h) = lifted_starts _ (operation_begins new r may h)
definition_starts new r may (a_fragment h) = lifted_starts _ (fragment_begins new r may h)
definition_starts new r may (a_type_system_definition h) = changed_starts _ _ (nameless (type_system_again {new = new} h))

-- a document again, which begins with no marked token
record Document (rule : ℕ → Renaming) (k : ℕ) (new : List ℕ) (ds : List (Def Span)) (tokens : Tokens) : Type 0 where
  again : AgainText new (changed_in_document rule k ds) (DocumentRenamed rule k new ds) tokens []
  starts : StartsUnmarked again.front

document : {new : List ℕ} (rule : ℕ → Renaming) (k : ℕ) {ds : List (Def Span)} {tokens : Tokens} → ((n : ℕ) → MayName (rule n) new) → IsDocument ds tokens → Document rule k new ds tokens
document {new} rule k may at_end =
    let here : AgainText new [] (DocumentRenamed rule k new []) [] [] = lifted (changed (λ x y q e. let P : Tokens → Type 0 = λ l. IsDocument [] l in ([], subst P (sym (q ∙ e)) at_end, refl)) (nothing {new = new})) in
    record { again = here; starts = nameless here }
document {new} rule k may (definition {d = d} {ds = ds} a one others) =
    let others_again = document {new = new} rule (next_number d k) may others in
    let first = definition_again {new = new} (rule k) (may k) one in
    record {
      again = changed_text (λ x y q e.
          let t = q.2 e in (
            q.1.0 ∷ t.0,
            definition q.0 q.1.1 t.1,
            let e1 = q.1.2 in let e2 = t.2 ∙ ap (λ (n : ℕ). rename_document rule n new (erase_document ds)) (sym (number_kept d k)) in cc,
          ))
          (then_text first others_again.again others_again.starts);
      starts = changed_starts _ _ (then_starts first others_again.again others_again.starts (definition_starts new (rule k) (may k) one));
    }

pub document_again : {new : List ℕ} (rule : ℕ → Renaming) (k : ℕ) {ds : List (Def Span)} {tokens : Tokens} → ((n : ℕ) → MayName (rule n) new) → IsDocument ds tokens → AgainText new (changed_in_document rule k ds) (DocumentRenamed rule k new ds) tokens []
document_again rule k may h = (document rule k may h).again
