use Rattle.std.proofs.Common.{rules, ◌≡◌, ◌++◌, ◌∷◌, [], length, sym, ap, subst, ◌∙◌, arith}
use Rattle.std.proofs.lemmas.Bool.Decides.{nat_tests}
use Rattle.std.proofs.lemmas.List.{map-append, length-map, nil_from_length}
use Rattle.gq_tree.specs.Forest.{none}
use Rattle.gq_tree.specs.Views.{sels_view}
use Rattle.gq_types.specs.Look.{types_view}
use Rattle.gq_document.specs.FieldSets.{SetOf}
use Rattle.gq_merging.specs.Helping.SetTables.{IsEmptyAt}
use Rattle.gq_merging.specs.Helping.Views.{field_at, set_at, sets_at}
use Rattle.gq_merging.proofs.Numbered.{empty_here, empty_longer, put_shared}
use Rattle.gq_merging.proofs.rows.put_set.Goals as goal
use Rattle.gq_merging.proofs.rows.put_set.Goals.{then-is_empty+in_default, else-is_empty}

pub returns-in-Some-clause-put : goal.returns-in-Some-clause-put
returns-in-Some-clause-put c =
    let nothing : c.selections_below.result.now ≡ [] = nil_from_length _ (grind (arith, nat_tests)) in
    let leaf : (field_at c.args.field).below ≡ none = sym c.selections_below.ensures ∙ ap sels_view nothing in
    put_shared (types_view c.args.types.now) (field_at c.args.field) (sets_at c.args.sets.now.items) c.in-Some.shared c.args.empty.now c.in-Some.is c.requires.empty leaf

pub returns-clause-empty : goal.returns-clause-empty
returns-clause-empty c =
    let grown : sets_at c.push.new.self.items ≡ sets_at c.args.sets.now.items ++ set_at c.field_set.result ∷ [] =
    ap sets_at c.in_ok-push.ensures.items ∙ map-append set_at c.args.sets.now.items (c.field_set.result ∷ []) in
    elim c.if-is_empty.branch [
      | then-is_empty+in_default w ↦
          let no_selections : c.selections_below.result.now ≡ [] = nil_from_length _ (grind (arith, nat_tests)) in
          let leaf : (field_at c.args.field).below ≡ none = sym c.selections_below.ensures ∙ ap sels_view no_selections in
          let count : c.len-number.result ≡ length c.args.sets.now.items = search rules in
          let number : c.len-number.result ≡ length (sets_at c.args.sets.now.items) = count ∙ sym (length-map c.args.sets.now.items set_at) in
          let nothing : (set_at c.field_set.result).selections ≡ none = ap (λ (s : SetOf). s.selections) c.field_set.ensures ∙ leaf in
          subst (λ ss. IsEmptyAt ss c.if-is_empty.empty) (sym grown)
          (subst (IsEmptyAt (sets_at c.args.sets.now.items ++ set_at c.field_set.result ∷ [])) (sym w.empty-is) (empty_here (sets_at c.args.sets.now.items) (set_at c.field_set.result) c.len-number.result number nothing))
      | else-is_empty w ↦
          subst (λ ss. IsEmptyAt ss c.if-is_empty.empty) (sym grown)
          (subst (IsEmptyAt (sets_at c.args.sets.now.items ++ set_at c.field_set.result ∷ [])) (sym w.empty-is)
          (empty_longer (sets_at c.args.sets.now.items) (set_at c.field_set.result ∷ []) c.args.empty.now c.requires.empty))
    ]
