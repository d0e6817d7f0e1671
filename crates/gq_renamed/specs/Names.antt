-- How the names of fragments are spelled.
use Rattle.std.specs.Prelude.{◌≢◌, ℕ, List, [], codes}
use Rattle.gq_lex.specs.declared.token.Kind.TheVariants as kind
use Rattle.gq_lex.specs.Tokens.{IsToken}

-- Name (section 2.1.9)
abbrev pub IsNameText : List ℕ → Type 0
IsNameText text = IsToken kind.Name text []

-- FragmentName : Name but not `on` (section 2.8)
pub record IsFragmentNameText (text : List ℕ) : Type 0 where
  pub is_name : IsNameText text
  pub not_on : text ≢ codes "on"
