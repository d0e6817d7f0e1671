-- Which names a rename changes.
use Rattle.std.specs.Prelude.{◌≡◌, ◌≢◌, ℕ, Bool, true, false, List, codes, if◌then◌else◌}
use Rattle.std.specs.Str.{bytes_eq}

-- The texts of the names that are changed: of fragments, at their definitions and spreads, and of variables, at their definitions and uses.
pub record Renaming : Type 0 where
  pub fragments : List ℕ → Bool
  pub variables : List ℕ → Bool

-- the fragments of one name, the variables of one name, and nothing
abbrev pub fragment_called : List ℕ → Renaming
fragment_called old = record { fragments = λ text. bytes_eq text old; variables = λ text. false }

abbrev pub variable_called : List ℕ → Renaming
variable_called old = record { fragments = λ text. false; variables = λ text. bytes_eq text old }

abbrev pub nothing_renamed : Renaming
nothing_renamed = record { fragments = λ text. false; variables = λ text. false }

-- the text of a name afterwards
abbrev pub renamed_text : (List ℕ → Bool) → List ℕ → List ℕ → List ℕ
renamed_text is_renamed new text = if is_renamed text then new else text

-- The new text may stand for a fragment where one is renamed (FragmentName : Name but not `on`, section 2.8).
abbrev pub MayName : Renaming → List ℕ → Type 0
MayName renaming new = (text : List ℕ) → renaming.fragments text ≡ true → new ≢ codes "on"
