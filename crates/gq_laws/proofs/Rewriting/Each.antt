-- What is so of each definition of some documents.
use Rattle.std.proofs.Common.{ℕ, suc, List, [], ◌∷◌}
use Rattle.std.specs.List.{AllByRecursion}
use Rattle.gq_text.specs.declared.place.Span.{Span}
use Rattle.gq_tree.specs.declared.tree.OperationKind.{OperationKind}
use Rattle.gq_tree.specs.Forest as forest
use Rattle.gq_tree.specs.Forest.{Forest}
use Rattle.gq_tree.specs.Plain.{Sels, Def, operation, fragment, type_system}
use Rattle.gq_meaning.specs.Values.{Text}
use Rattle.gq_laws.specs.Rewriting.KnownBefore.{Each}
use Rattle.gq_laws.specs.Rewriting.Documents.{EachFrom, OfSet}

pub all_map : {D : Type 0} (A B : D → Type 0) → ((d : D) → A d → B d) → (ds : List D) → AllByRecursion A ds → AllByRecursion B ds
all_map A B g [] h = tt
all_map A B g (d ∷ ds) h = (g d h.0, all_map A B g ds h.1)

pub all_two : {D : Type 0} (A B C : D → Type 0) → ((d : D) → A d → B d → C d) → (ds : List D) → AllByRecursion A ds → AllByRecursion B ds → AllByRecursion C ds
all_two A B C g [] h k = tt
all_two A B C g (d ∷ ds) h k = (g d h.0 k.0, all_two A B C g ds h.1 k.1)

pub each_map : {D : Type 0} (A B : ℕ → D → Type 0) → ((k : ℕ) (d : D) → A k d → B k d) → (file : ℕ) (trees : List (List D)) → EachFrom A file trees → EachFrom B file trees
each_map A B g file [] h = tt
each_map A B g file (tree ∷ trees) h = (all_map (A file) (B file) (g file) tree h.0, each_map A B g (suc file) trees h.1)

pub each_two : {D : Type 0} (A B C : ℕ → D → Type 0) → ((k : ℕ) (d : D) → A k d → B k d → C k d) → (file : ℕ) (trees : List (List D)) → EachFrom A file trees → EachFrom B file trees → EachFrom C file trees
each_two A B C g file [] h k = tt
each_two A B C g file (tree ∷ trees) h k = (all_two (A file) (B file) (C file) (g file) tree h.0 k.0, each_two A B C g (suc file) trees h.1 k.1)

pub all_always : {D : Type 0} (A : D → Type 0) → ((d : D) → A d) → (ds : List D) → AllByRecursion A ds
all_always A g [] = tt
all_always A g (d ∷ ds) = (g d, all_always A g ds)

pub each_always : {D : Type 0} (A : ℕ → D → Type 0) → ((k : ℕ) (d : D) → A k d) → (file : ℕ) (trees : List (List D)) → EachFrom A file trees
each_always A g file [] = tt
each_always A g file (tree ∷ trees) = (all_always (A file) (g file) tree, each_always A g (suc file) trees)

-- selections at any depth
pub deep_two : {L : Type 0} (A B C : L → Type 0) → ((l : L) → A l → B l → C l) → (f : Forest L) → Each A f → Each B f → Each C f
deep_two A B C g forest.none h k = tt
deep_two A B C g (forest.more l b r) h k = (g l h.0 k.0, deep_two A B C g b h.1 k.1, deep_two A B C g r h.2 k.2)

-- the sets of definitions
pub set_map : (roots : OperationKind → Text) (A B : Text → Sels Span → Type 0) → ((t : Text) (set : Sels Span) → A t set → B t set) → (d : Def Span) → OfSet roots A d → OfSet roots B d
set_map roots A B g (operation kind name variables directives set braces place) h = g (roots kind) set h
set_map roots A B g (fragment name on directives set braces place) h = g on.text set h
set_map roots A B g (type_system definition) h = tt

pub set_two : (roots : OperationKind → Text) (A B C : Text → Sels Span → Type 0) → ((t : Text) (set : Sels Span) → A t set → B t set → C t set) → (d : Def Span) → OfSet roots A d → OfSet roots B d → OfSet roots C d
set_two roots A B C g (operation kind name variables directives set braces place) h k = g (roots kind) set h k
set_two roots A B C g (fragment name on directives set braces place) h k = g on.text set h k
set_two roots A B C g (type_system definition) h k = tt

-- what is always so
pub deep_always : {L : Type 0} (A : L → Type 0) → ((l : L) → A l) → (f : Forest L) → Each A f
deep_always A g forest.none = tt
deep_always A g (forest.more l b r) = (g l, deep_always A g b, deep_always A g r)

pub set_always : (roots : OperationKind → Text) (A : Text → Sels Span → Type 0) → ((t : Text) (set : Sels Span) → A t set) → (d : Def Span) → OfSet roots A d
set_always roots A g (operation kind name variables directives set braces place) = g (roots kind) set
set_always roots A g (fragment name on directives set braces place) = g on.text set
set_always roots A g (type_system definition) = tt
