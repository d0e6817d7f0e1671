-- Trees in a row: the plain form of everything in a document that nests.
use Rattle.std.specs.Prelude.{Bool, true, false, List, [], ◌∷◌, ◌++◌, ◌&&◌}

-- Trees in a row: what the first one says, the trees below it, and the trees after it.
pub data Forest (L : Type 0) : Type 0 where
  none : Forest L
  more : (label : L) → (below rest : Forest L) → Forest L

-- one tree: what it says, and the trees below it
pub record Tree (L : Type 0) : Type 0 where
  pub label : L
  pub below : Forest L

-- the trees of a list in a row
abbrev pub row : {L : Type 0} → List (Tree L) → Forest L
row [] = none
row (t ∷ ts) = more t.label t.below (row ts)

-- each label changed
abbrev pub relabel : {L M : Type 0} → (L → M) → Forest L → Forest M
relabel f none = none
relabel f (more l b r) = more (f l) (relabel f b) (relabel f r)

abbrev pub relabel_tree : {L M : Type 0} → (L → M) → Tree L → Tree M
relabel_tree f t = record { label = f t.label; below = relabel f t.below }

-- all labels, each before those below it
abbrev pub labels : {L : Type 0} → Forest L → List L
labels none = []
labels (more l b r) = l ∷ (labels b ++ labels r)

abbrev pub labels_in : {L : Type 0} → Tree L → List L
labels_in t = t.label ∷ labels t.below

-- whether the two are of one shape, with labels that agree
abbrev pub agree : {L M : Type 0} → (L → M → Bool) → Forest L → Forest M → Bool
agree e none none = true
agree e none (more m c s) = false
agree e (more l b r) none = false
agree e (more l b r) (more m c s) = e l m && agree e b c && agree e r s

abbrev pub agree_trees : {L M : Type 0} → (L → M → Bool) → Tree L → Tree M → Bool
agree_trees e s t = e s.label t.label && agree e s.below t.below
