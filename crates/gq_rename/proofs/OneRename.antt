-- A rename has one answer, however the documents are read.
use Rattle.std.proofs.Common.{◌≡◌, ℕ, List, Some, sym, ap, subst, ◌∙◌}
use Rattle.std.specs.Option.{option_map}
use Rattle.gq_text.specs.declared.place.Span.{Span}
use Rattle.gq_tree.specs.Plain.{Def}
use Rattle.gq_tree.specs.Readings.{ParsedOf}
use Rattle.gq_project.specs.declared.document.Doc.{Doc}
use Rattle.gq_parse.specs.Parsed.{AreParsed}
use Rattle.gq_parse.proofs.OneReading.{OneTree, same_in_documents, same_trees}
use Rattle.gq_edit.specs.declared.edit.DocumentEdit.{DocumentEdit}
use Rattle.gq_edit.specs.Edits.{after_edit}
use Rattle.gq_index.specs.Occurrences.{DefinitionOf, executable_in, executables}
use Rattle.gq_renamed.specs.Projects.{rename_edits}
use Rattle.gq_renamed.specs.Renamings.{Renaming}
use Rattle.gq_rules.specs.Validity.{IsValid}
use Rattle.gq_mentions.specs.declared.target.Target.{Target}
use Rattle.gq_rename.specs.declared.refusal.Refusal.{Refusal}
use Rattle.gq_rename.specs.declared.refusal.Refusal.TheVariants.{ProjectInvalid, NothingHere, BadName, SameName, NameTaken, DirectiveInWay, NoPossibleType, NotSiblings, NotRedundant, TooLarge, SelfCheck, NoMemory}
use Rattle.gq_rename.specs.Asks.{RenameAsk, trees_of, target_of, MayBeCalled, IsTaken, Changes}
use Rattle.gq_rename.specs.Determined.{RenamesAreDetermined, PreparedNamesAreDetermined}
use Rattle.gq_rename.specs.Offers.{IsOffer}
use Rattle.gq_rename.specs.Rename.{Renames, AtTarget, IsTooLarge, ReadsAsRenamed, Refuses, IsCut}
use Rattle.gq_rename.proofs.Groups.{one_rule}
use Rattle.gq_rename.proofs.OneOffer.{one_offer, offer_carried}
use Rattle.gq_rename.proofs.Trees.{same_target}

module _ (one_tree : OneTree) (documents : List Doc) (ask : RenameAsk) (xs ys : List ParsedOf) (p : AreParsed documents xs) (q : AreParsed documents ys) where
  same_at : target_of documents xs ask.key ask.offset ≡ target_of documents ys ask.key ask.offset
  same_at = same_target one_tree documents xs ys ask.key ask.offset p q

  same_list : executables xs ≡ executables ys
  same_list = same_in_documents one_tree executable_in documents xs ys p q

  same_texts : trees_of xs ≡ trees_of ys
  same_texts = same_trees one_tree documents xs ys p q

  at_target : (Holds Holds' : Target → Type 0) → ((t : Target) → Holds t → Holds' t) → AtTarget documents xs ask Holds → AtTarget documents ys ask Holds'
  at_target Holds Holds' to a = record { target = a.target; here = sym same_at ∙ a.here; holds = to a.target a.holds }

  carried : Renames documents xs ask → Renames documents ys ask
  carried r = record {
    target = r.target;
    here = sym same_at ∙ r.here;
    rule = r.rule;
    changes = subst (λ (ds : List DefinitionOf). Changes ds r.target.name.text r.target.definition r.target.kind r.rule) same_list r.changes;
  }

  cut_carried : (edits : List DocumentEdit) → IsCut documents xs ask edits → IsCut documents ys ask edits
  unfolding carried
  cut_carried edits c = (carried c.0, c.1 ∙ ap (rename_edits c.0.rule 0 ask.new documents) same_texts)

  refusal_carried : (why : Refusal) → Refuses documents xs ask why → Refuses documents ys ask why
  unfolding carried
  refusal_carried ProjectInvalid h = h
  refusal_carried NothingHere h = sym same_at ∙ h
  refusal_carried BadName h = at_target (λ t. MayBeCalled t.kind ask.new → ⊥) (λ t. MayBeCalled t.kind ask.new → ⊥) (λ t k. k) h
  refusal_carried SameName h = at_target (λ t. t.name.text ≡ ask.new) (λ t. t.name.text ≡ ask.new) (λ t k. k) h
  refusal_carried NameTaken h =
      at_target (λ t. IsTaken (executables xs) t.kind t.name.text t.definition ask.new) (λ t. IsTaken (executables ys) t.kind t.name.text t.definition ask.new)
      (λ t k. subst (λ (ds : List DefinitionOf). IsTaken ds t.kind t.name.text t.definition ask.new) same_list k) h
  refusal_carried DirectiveInWay h = h
  refusal_carried NoPossibleType h = h
  refusal_carried NotSiblings h = h
  refusal_carried NotRedundant h = h
  refusal_carried TooLarge h = (carried h.0, subst (λ (ts : List (List (Def Span))). IsTooLarge documents (rename_edits h.0.rule 0 ask.new documents ts)) same_texts h.1)
  refusal_carried SelfCheck h =
      let Passes : List (List (Def Span)) → Type 0 = λ ts. ReadsAsRenamed documents ts h.0.rule ask.new (rename_edits h.0.rule 0 ask.new documents ts) × IsValid (after_edit (rename_edits h.0.rule 0 ask.new documents ts) documents) in
      (carried h.0, subst (λ (ts : List (List (Def Span))). Passes ts → ⊥) same_texts h.1)
  refusal_carried NoMemory h = h

-- over one reading there is one cut
one_cut : (documents : List Doc) (rs : List ParsedOf) (ask : RenameAsk) (a b : List DocumentEdit) → IsCut documents rs ask a → IsCut documents rs ask b → a ≡ b
one_cut documents rs ask a b p q =
    let r = p.0 in
    let s = q.0 in
    let found : Some s.target ≡ Some r.target = sym s.here ∙ r.here in
    let same : s.target ≡ r.target = cc in
    let C : Target → Type 0 = λ t. Changes (executables rs) t.name.text t.definition t.kind s.rule in
    let rules : r.rule ≡ s.rule = one_rule r.changes (subst C same s.changes) in
    p.1 ∙ ap (λ (f : ℕ → Renaming). rename_edits f 0 ask.new documents (trees_of rs)) rules ∙ sym q.1

pub renames_are_determined : OneTree → RenamesAreDetermined
renames_are_determined one_tree documents key offset new a b p q =
    let ask : RenameAsk = record { key = key; offset = offset; new = new } in
    let here : IsOffer (Refuses documents q.readings ask) (IsCut documents q.readings ask) a =
    offer_carried (Refuses documents p.readings ask) (Refuses documents q.readings ask) (IsCut documents p.readings ask) (IsCut documents q.readings ask)
    (refusal_carried one_tree documents ask p.readings q.readings p.are_readings q.are_readings) (refusal_carried one_tree documents ask q.readings p.readings q.are_readings p.are_readings)
    (cut_carried one_tree documents ask p.readings q.readings p.are_readings q.are_readings) a p.offer in
    one_offer (Refuses documents q.readings ask) (IsCut documents q.readings ask) (λ x y c d. one_cut documents q.readings ask x y c.1 d.1) a b here q.offer

pub prepared_names_are_determined : OneTree → PreparedNamesAreDetermined
prepared_names_are_determined one_tree documents key offset a b p q =
    p.is_token ∙ ap (option_map (λ (t : Target). t.name.span)) (same_target one_tree documents p.readings q.readings key offset p.are_readings q.are_readings) ∙ sym q.is_token
