-- What the set that an offset stands in means.
use Rattle.std.specs.Prelude.{◌≡◌, ℕ, true, false, List, Some, Contains}
use Rattle.gq_text.specs.declared.place.Span.{Span}
use Rattle.gq_tree.specs.Plain.{Def}
use Rattle.gq_types.specs.Entries.{EntryOf}
use Rattle.gq_document.specs.Sets.{SetOf, sets_among}
use Rattle.gq_completion.specs.Sets.{encloses, innermost}

-- its braces enclose the offset, and those of no set in it do
pub record EnclosesAlone (es : List EntryOf) (i : ℕ) (set : SetOf) : Type 0 where
  pub it_does : encloses i set ≡ true
  pub none_in_it : (other : SetOf) → Contains (sets_among es set.parent set.selections) other → encloses i other ≡ false

abbrev pub InnermostEnclosesAlone : Type 0
InnermostEnclosesAlone = (es : List EntryOf) (i : ℕ) (document : List (Def Span)) (set : SetOf) → innermost es i document ≡ Some set → EnclosesAlone es i set
