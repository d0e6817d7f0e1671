-- Tokens of which any that are alike are a document, and texts that derive its tree.
use Rattle.std.proofs.Common.{◌≡◌, ℕ, List}
use Rattle.gq_text.specs.declared.place.Span.{Span}
use Rattle.gq_tree.specs.Plain.{Def, erase_document}
use Rattle.gq_parse.specs.Derives.{Derives}
use Rattle.gq_parse.specs.Documents.{IsDocument}
use Rattle.gq_parse.specs.Grammar.{Tokens}
use Rattle.gq_laws.proofs.Cutting.Alike.{AreAlike}

-- tokens that are alike these are a document whose tree, places forgotten, is this
abbrev pub AreTreeOf : List (Def (Unit {0})) → Tokens → Type 0
AreTreeOf new tokens = (zs : Tokens) → AreAlike tokens zs → (ds : List (Def Span)) × IsDocument ds zs × (erase_document ds ≡ new)

-- the text has a tree, and that is this, places forgotten
pub record DerivesAs (text : List ℕ) (new : List (Def (Unit {0}))) : Type 0 where
  pub tree : List (Def Span)
  pub derives : Derives text tree
  pub is : erase_document tree ≡ new
