-- Fields that merge (section 5.3.2), where they stand at other places. A fault stands at the later field of two that differ, and
-- which one is later may change with the places: then the fault of the other project is that of the other field. It is in the
-- same document, since fields of two documents are in the order of these.
use Rattle.std.specs.Prelude.{◌≡◌, ℕ, zero, suc, List}
use Rattle.gq_tree.specs.Plain.{erase_values}
use Rattle.gq_types.specs.Entries.{EntryOf}
use Rattle.gq_document.specs.Executable.{ExecutableOf}
use Rattle.gq_document.specs.FieldSets.{SetOf, FieldAt, key, field_set, InSet, Stands}
use Rattle.gq_merging.specs.declared.purpose.Purpose.{Purpose}
use Rattle.gq_merging.specs.FieldsMerge.{Meet, Differ, IsMergingFault}
use Rattle.gq_laws.specs.Placing.Types.{IsFaultless}

-- Which of two fields comes first does not matter to whether they meet, and to whether they differ.
abbrev pub MeetingIsSymmetric : Type 0
MeetingIsSymmetric = (x : ExecutableOf) (purpose : Purpose) (a b : FieldAt) → Meet x purpose a b → Meet x purpose b a

abbrev pub DifferingIsSymmetric : Type 0
DifferingIsSymmetric = (es : List EntryOf) (purpose : Purpose) (a b : FieldAt) → Differ es purpose a b → Differ es purpose b a

-- one type of the parent, one response key, one name, and arguments that are equal but for their places
pub record SayTheSame (a b : FieldAt) : Type 0 where
  pub parent : a.parent ≡ b.parent
  pub one_key : key a ≡ key b
  pub text : a.name.text ≡ b.name.text
  pub same_arguments : erase_values a.arguments ≡ erase_values b.arguments

-- Each field of the first set has one in the second that says the same, and so have those in its braces, to that depth.
abbrev pub HasFieldsTo : ℕ → (x y : ExecutableOf) → SetOf → SetOf → Type 0
HasFieldsTo zero x y s t = Unit {0}
HasFieldsTo (suc depth) x y s t =
    (a : FieldAt) → InSet x s a → (b : FieldAt) × InSet y t b × SayTheSame a b × HasFieldsTo depth x y (field_set x.entries a) (field_set y.entries b)

-- Each selection set that stands in x, in whatever document and fragment, has its fields, at any depth, in one that stands in y.
abbrev pub HasSets : (x y : ExecutableOf) → Type 0
HasSets x y = (s : SetOf) → Stands x s → (depth : ℕ) → (t : SetOf) × Stands y t × HasFieldsTo depth x y s t

-- Then, if all fields merge in y, they merge in x.
abbrev pub FieldsThatAreKeptMerge : Type 0
FieldsThatAreKeptMerge = (x y : ExecutableOf) → x.entries ≡ y.entries → HasSets x y → IsFaultless IsMergingFault y → IsFaultless IsMergingFault x
