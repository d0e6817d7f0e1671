-- Laws of trees in a row.
use Rattle.std.proofs.Common.{◌≡◌, List, [], ◌∷◌, ◌++◌, map, refl, ap, sym, ◌∙◌}
use Rattle.std.proofs.lemmas.List.{map-append}
use Rattle.gq_tree.specs.Forest.{Forest, Tree, none, more, row, labels, relabel, relabel_tree}

-- the trees of a row, each changed
pub relabel_row : {L M : Type 0} (f : L → M) (ts : List (Tree L)) → relabel f (row ts) ≡ row (map (relabel_tree f) ts)
relabel_row f [] = refl
relabel_row f (t ∷ ts) = ap (λ r. more (f t.label) (relabel f t.below) r) (relabel_row f ts)

-- the labels of changed trees are the changed labels
pub relabel_labels : {L M : Type 0} (f : L → M) (s : Forest L) → labels (relabel f s) ≡ map f (labels s)
relabel_labels f none = refl
relabel_labels {L} {M} f (more l b r) =
    ap (λ (x : List M). f l ∷ (x ++ labels (relabel f r))) (relabel_labels f b) ∙ ap (λ (x : List M). f l ∷ (map f (labels b) ++ x)) (relabel_labels f r)
    ∙ ap (λ (x : List M). f l ∷ x) (sym (map-append f (labels b) (labels r)))

-- two changes are one
pub relabel_twice : {L M N : Type 0} (g : M → N) (f : L → M) (s : Forest L) → relabel g (relabel f s) ≡ relabel (λ l. g (f l)) s
relabel_twice g f none = refl
relabel_twice g f (more l b r) = ap (λ x. more (g (f l)) x (relabel g (relabel f r))) (relabel_twice g f b) ∙ ap (λ x. more (g (f l)) (relabel (λ l. g (f l)) b) x) (relabel_twice g f r)
