-- Where no refusal holds only if something is cut, an ask cannot be without an answer.
use Rattle.std.proofs.Common.{◌≡◌, ◌<◌, ℕ, zero, suc, List, Option, Some, None, Result, Ok, Err, refl, arith}
use Rattle.gq_tree.specs.Readings.{ParsedOf}
use Rattle.gq_project.specs.declared.document.Doc.{Doc}
use Rattle.gq_edit.specs.declared.edit.DocumentEdit.{DocumentEdit}
use Rattle.gq_index.specs.Occurrences.{DefinitionOf, executables}
use Rattle.gq_renamed.specs.Renamings.{Renaming, fragment_called}
use Rattle.gq_cut.specs.Cut.{variable_in}
use Rattle.gq_mentions.specs.declared.target.Target.{Target}
use Rattle.gq_mentions.specs.declared.target.TargetKind.{TargetKind}
use Rattle.gq_mentions.specs.declared.target.TargetKind.TheVariants as kind
use Rattle.gq_rename.specs.declared.refusal.Refusal.{Refusal}
use Rattle.gq_rename.specs.declared.refusal.Refusal.TheVariants.{NothingHere}
use Rattle.gq_rename.specs.Asks.{RenameAsk, target_of, Changes, fragments, variables}
use Rattle.gq_rename.specs.Determined.{RenamesAreThere}
use Rattle.gq_rename.specs.Offers.{IsOffer}
use Rattle.gq_rename.specs.Refusals.{number_of}
use Rattle.gq_rename.specs.Rename.{Renames, cut, Refuses, IsCut}
use Rattle.gq_rename.proofs.SomeGroup.{some_group}

module _ {A : Type 0} (Holds : Refusal → Type 0) (IsCut : A → Type 0) where
  -- the least refusal that holds would be an answer
  refuted : ((r : Result A Refusal) → IsOffer Holds IsCut r → ⊥) → (n : ℕ) (why : Refusal) → number_of why < n → Holds why → ⊥
  refuted none zero why less h = absurd (omega (arith, less))
  refuted none (suc n) why less h = none (Err why) (h, λ earlier before k. refuted none n earlier (omega (arith, less, before)) k)

  pub some_offer : (((why : Refusal) → Holds why → ⊥) → ((x : A) → IsCut x → ⊥) → ⊥) → ((r : Result A Refusal) → IsOffer Holds IsCut r → ⊥) → ⊥
  some_offer made none =
      let refused : (why : Refusal) → Holds why → ⊥ = λ why h. refuted none (suc (number_of why)) why (omega arith) h in
      made refused (λ x is. none (Ok x) (refused, is))

-- a target has a rename
some_rule : (ds : List DefinitionOf) (old : List ℕ) (definition : ℕ) (of : TargetKind) → ((rule : ℕ → Renaming) → Changes ds old definition of rule → ⊥) → ⊥
some_rule ds old definition kind.Fragment none = none (λ n. fragment_called old) fragments
some_rule ds old definition kind.Variable none = some_group ds old definition (λ group is. none (variable_in group old) (variables is))

module _ (documents : List Doc) (rs : List ParsedOf) (ask : RenameAsk) where
  some_cut : (o : Option Target) → target_of documents rs ask.key ask.offset ≡ o → ((why : Refusal) → Refuses documents rs ask why → ⊥) → ((x : List DocumentEdit) → IsCut documents rs ask x → ⊥) → ⊥
  some_cut None e refused uncut = refused NothingHere e
  some_cut (Some t) e refused uncut =
      some_rule (executables rs) t.name.text t.definition t.kind
      (λ rule changes. let r : Renames documents rs ask = record { target = t; here = e; rule = rule; changes = changes } in uncut (cut r) (r, refl))

pub renames_are_there : RenamesAreThere
renames_are_there documents rs are key offset new none =
    let ask : RenameAsk = record { key = key; offset = offset; new = new } in
    some_offer (Refuses documents rs ask) (IsCut documents rs ask) (λ refused uncut. some_cut documents rs ask (target_of documents rs key offset) refl refused uncut)
    (λ r offer. none r (record { readings = rs; are_readings = are; offer = offer }))
