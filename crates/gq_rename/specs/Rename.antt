-- The answer to a rename.
use Rattle.std.specs.Prelude.{◌≡◌, ℕ, ◌<◌, ◌^◌, List, Contains, Some, None, length, map, Result, ◌⊎◌}
use Rattle.gq_text.specs.declared.place.Span.{Span}
use Rattle.gq_tree.specs.Plain.{Def, erase_document}
use Rattle.gq_parse.specs.Limits.{PassesLimitAt}
use Rattle.gq_project.specs.declared.document.Doc.{Doc}
use Rattle.gq_edit.specs.declared.edit.DocumentEdit.{DocumentEdit}
use Rattle.gq_edit.specs.Edits.{document_of, edited_text, after_edit}
use Rattle.gq_tree.specs.Readings.{ParsedOf}
use Rattle.gq_parse.specs.Parsed.{AreParsed}
use Rattle.gq_index.specs.Occurrences.{executables}
use Rattle.gq_renamed.specs.Renamings.{Renaming}
use Rattle.gq_renamed.specs.Projects.{AreTrees, rename_edits, rename_trees}
use Rattle.gq_rules.specs.Validity.{IsValid}
use Rattle.gq_mentions.specs.declared.target.Target.{Target}
use Rattle.gq_rename.specs.declared.refusal.Refusal.{Refusal}
use Rattle.gq_rename.specs.declared.refusal.Refusal.TheVariants.{ProjectInvalid, NothingHere, BadName, SameName, NameTaken, DirectiveInWay, NoPossibleType, NotSiblings, NotRedundant, TooLarge, SelfCheck, NoMemory}
use Rattle.gq_rename.specs.Offers.{IsOffer}
use Rattle.gq_rename.specs.Asks.{RenameAsk, trees_of, target_of, MayBeCalled, IsTaken, Changes}

-- What a rename would do to documents that are read so: the target that the ask means, which names change, and the edit
-- that changes them.
pub record Renames (documents : List Doc) (readings : List ParsedOf) (ask : RenameAsk) : Type 0 where
  pub target : Target
  pub here : target_of documents readings ask.key ask.offset ≡ Some target
  pub rule : ℕ → Renaming
  pub changes : Changes (executables readings) target.name.text target.definition target.kind rule

-- the exact edit: in each document the name tokens that change, each replaced by the new name
abbrev pub cut : {documents : List Doc} {readings : List ParsedOf} {ask : RenameAsk} → Renames documents readings ask → List DocumentEdit
cut {documents} {readings} {ask} r = rename_edits r.rule 0 ask.new documents (trees_of readings)

-- the target that the ask means, of which something holds
pub record AtTarget (documents : List Doc) (readings : List ParsedOf) (ask : RenameAsk) (Holds : Target → Type 0) : Type 0 where
  pub target : Target
  pub here : target_of documents readings ask.key ask.offset ≡ Some target
  pub holds : Holds target

-- the text has more than 4 MiB, too many tokens, or too deep a nesting
abbrev pub PassesLimit : List ℕ → Type 0
PassesLimit text = (2 ^ 22 < length text) ⊎ ((place : ℕ) × PassesLimitAt text place)

-- an edited text passes a limit
pub record IsTooLarge (documents : List Doc) (edits : List DocumentEdit) : Type 0 where
  pub edit : DocumentEdit
  pub stands : Contains edits edit
  pub document : Doc
  pub of : document_of documents edit ≡ Some document
  pub passes : PassesLimit (edited_text edit document)

-- The edited texts read as the trees with the names changed, places forgotten.
pub record ReadsAsRenamed (documents : List Doc) (trees : List (List (Def Span))) (rule : ℕ → Renaming) (new : List ℕ) (edits : List DocumentEdit) : Type 0 where
  pub after : List (List (Def Span))
  pub are_trees : AreTrees (after_edit edits documents) after
  pub renamed : map erase_document after ≡ rename_trees rule 0 new (map erase_document trees)

-- the edited texts read so, and the edited project is valid
abbrev pub PassesCheck : {documents : List Doc} {readings : List ParsedOf} {ask : RenameAsk} → Renames documents readings ask → Type 0
PassesCheck {documents} {readings} {ask} r = ReadsAsRenamed documents (trees_of readings) r.rule ask.new (cut r) × IsValid (after_edit (cut r) documents)

-- the condition of each refusal
abbrev pub Refuses : List Doc → List ParsedOf → RenameAsk → Refusal → Type 0
Refuses documents readings ask ProjectInvalid = IsValid documents → ⊥
Refuses documents readings ask NothingHere = target_of documents readings ask.key ask.offset ≡ None
Refuses documents readings ask BadName = AtTarget documents readings ask (λ t. MayBeCalled t.kind ask.new → ⊥)
Refuses documents readings ask SameName = AtTarget documents readings ask (λ t. t.name.text ≡ ask.new)
Refuses documents readings ask NameTaken = AtTarget documents readings ask (λ t. IsTaken (executables readings) t.kind t.name.text t.definition ask.new)
Refuses documents readings ask DirectiveInWay = ⊥
Refuses documents readings ask NoPossibleType = ⊥
Refuses documents readings ask NotSiblings = ⊥
Refuses documents readings ask NotRedundant = ⊥
Refuses documents readings ask TooLarge = (r : Renames documents readings ask) × IsTooLarge documents (cut r)
Refuses documents readings ask SelfCheck = (r : Renames documents readings ask) × (PassesCheck r → ⊥)
Refuses documents readings ask NoMemory = ⊥

abbrev pub IsCut : List Doc → List ParsedOf → RenameAsk → List DocumentEdit → Type 0
IsCut documents readings ask edits = (r : Renames documents readings ask) × (edits ≡ cut r)

-- The answer to a rename in any documents: the first refusal whose condition holds, else the exact edit.
pub record IsRenameAnswer (documents : List Doc) (key : List ℕ) (offset : ℕ) (new : List ℕ) (result : Result (List DocumentEdit) Refusal) : Type 0 where
  pub readings : List ParsedOf
  pub are_readings : AreParsed documents readings
  pub offer : (let ask : RenameAsk = record { key = key; offset = offset; new = new } in IsOffer (Refuses documents readings ask) (IsCut documents readings ask) result)

-- What an edit of a rename does: the edited texts read as the trees with the names of the target changed.
pub record KeepsTrees (documents : List Doc) (key : List ℕ) (offset : ℕ) (new : List ℕ) (edits : List DocumentEdit) : Type 0 where
  pub readings : List ParsedOf
  pub are_readings : AreParsed documents readings
  pub renames : Renames documents readings (record { key = key; offset = offset; new = new })
  pub reads : ReadsAsRenamed documents (trees_of readings) renames.rule new edits
