-- Identical sets of arguments (section 5.3.2): each name and value of the one is in the other. Numbers are identical by
-- their spelling, strings by their value, variables, enum values and Booleans by what they say, lists item by item, and
-- input objects as sets of names and values.
use Rattle.std.specs.Prelude.{◌≡◌, List, Bool, Some, Contains}
use Rattle.gq_text.specs.declared.place.Span.{Span}
use Rattle.gq_tree.specs.Forest.{none, more}
use Rattle.gq_tree.specs.Plain.{NameOf, Says, Part, Val, Vals, variable, int, float, string, boolean, null, enum, list, object}
use Rattle.gq_types.specs.Entries.{Text}
use Rattle.gq_lex.specs.Values.{IsStringValue, IsBlockStringValue}

-- what the spelling of a string or block string stands for
pub data StandsFor (spelling value : Text) : Type 0 where
  as_string : IsStringValue spelling value → StandsFor spelling value
  as_block_string : IsBlockStringValue spelling value → StandsFor spelling value

pub data AreSameStrings (a b : Text) : Type 0 where
  one_spelling : a ≡ b → AreSameStrings a b
  one_value : (value : Text) → StandsFor a value → StandsFor b value → AreSameStrings a b

-- one that is neither a list nor an input object
pub data AreSame : Says Span → Says Span → Type 0 where
  variables : {n m : NameOf Span} {p q : Span} → n.text ≡ m.text → AreSame (variable n p) (variable m q)
  ints : {s t : Text} {p q : Span} → s ≡ t → AreSame (int s p) (int t q)
  floats : {s t : Text} {p q : Span} → s ≡ t → AreSame (float s p) (float t q)
  strings : {s t : Text} {p q : Span} → AreSameStrings s t → AreSame (string s p) (string t q)
  booleans : {a b : Bool} {p q : Span} → a ≡ b → AreSame (boolean a p) (boolean b q)
  nulls : {p q : Span} → AreSame (null p) (null q)
  enums : {n m : NameOf Span} → n.text ≡ m.text → AreSame (enum n) (enum m)

mutual
  -- two values
  pub data AreIdentical : Says Span → Vals Span → Says Span → Vals Span → Type 0 where
    same : {s t : Says Span} {b c : Vals Span} → AreSame s t → AreIdentical s b t c
    lists : {p q : Span} {b c : Vals Span} → AreInOrder b c → AreIdentical (list p) b (list q) c
    objects : {p q : Span} {b c : Vals Span} → EachIsIn b c → EachHas b c → AreIdentical (object p) b (object q) c

  -- values in a row, each identical to the other's at its place
  pub data AreInOrder : Vals Span → Vals Span → Type 0 where
    no_more : AreInOrder none none
    one_more : {l m : Part Span} {b c r s : Vals Span} → AreIdentical l.says b m.says c → AreInOrder r s → AreInOrder (more l b r) (more m c s)

  -- each entry of the first is in the second
  pub data EachIsIn : Vals Span → Vals Span → Type 0 where
    none_is : {c : Vals Span} → EachIsIn none c
    next_is : {l : Part Span} {b r c : Vals Span} → IsIn l b c → EachIsIn r c → EachIsIn (more l b r) c

  -- each entry of the second is in the first
  pub data EachHas : Vals Span → Vals Span → Type 0 where
    none_has : {b : Vals Span} → EachHas b none
    next_has : {m : Part Span} {b c s : Vals Span} → HasOne b m c → EachHas b s → EachHas b (more m c s)

  -- an entry is one of the second
  pub data IsIn : Part Span → Vals Span → Vals Span → Type 0 where
    is_first : {k n : NameOf Span} {l m : Says Span} {b c s : Vals Span} → k.text ≡ n.text → AreIdentical l b m c →
        IsIn (record { key = Some k; says = l }) b (more (record { key = Some n; says = m }) c s)
    is_later : {l m : Part Span} {b c s : Vals Span} → IsIn l b s → IsIn l b (more m c s)

  -- an entry of the second is one of the first
  pub data HasOne : Vals Span → Part Span → Vals Span → Type 0 where
    has_first : {k n : NameOf Span} {l m : Says Span} {b c r : Vals Span} → k.text ≡ n.text → AreIdentical l b m c →
        HasOne (more (record { key = Some k; says = l }) b r) (record { key = Some n; says = m }) c
    has_later : {l m : Part Span} {b c r : Vals Span} → HasOne r m c → HasOne (more l b r) m c

-- one argument is that of the other's name and value
pub record IsArgument (a b : Val Span) : Type 0 where
  pub name : NameOf Span
  pub other : NameOf Span
  pub is : a.label.key ≡ Some name
  pub other_is : b.label.key ≡ Some other
  pub one_name : name.text ≡ other.text
  pub one_value : AreIdentical a.label.says a.below b.label.says b.below

pub record SameArguments (left right : List (Val Span)) : Type 0 where
  pub given : (a : Val Span) → Contains left a → (b : Val Span) × Contains right b × IsArgument a b
  pub others : (b : Val Span) → Contains right b → (a : Val Span) × Contains left a × IsArgument a b
