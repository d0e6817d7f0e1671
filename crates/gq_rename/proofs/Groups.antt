-- A variable has one group, so a target has one rename.
use Rattle.std.proofs.Common.{◌≡◌, ℕ, suc, ◌+◌, ◌<◌, List, [], ◌∷◌, Contains, refl, sym, ap, subst, ◌∙◌, arith, ⊎_elim}
use Rattle.std.specs.Prelude.{slice_index}
use Rattle.std.specs.List.Sorted.{IsStrictlyIncreasing}
use Rattle.gq_types.proofs.Gathered.{nothing_in, first, later, cases_cons}
use Rattle.gq_index.specs.Occurrences.{DefinitionOf}
use Rattle.gq_renamed.specs.Renamings.{Renaming}
use Rattle.gq_cut.specs.Cut.{variable_in}
use Rattle.gq_mentions.specs.declared.target.TargetKind.{TargetKind}
use Rattle.gq_rename.specs.Asks.{IsGroup, Changes, fragments, variables}

tail_increases : (x : ℕ) (xs : List ℕ) → IsStrictlyIncreasing (x ∷ xs) → IsStrictlyIncreasing xs
tail_increases x xs h = λ j b.
    let e : suc j + 1 ≡ suc (j + 1) = omega arith in
    let P : ℕ → Type 0 = λ i. slice_index (x ∷ xs) (suc j) < slice_index (x ∷ xs) i in
    subst P e (h (suc j) (omega arith))

head_below : (x : ℕ) (xs : List ℕ) → IsStrictlyIncreasing (x ∷ xs) → (z : ℕ) → Contains xs z → x < z
head_below x [] h z c = nothing_in z c
head_below x (y ∷ ys) h z c =
    let less : x < y = h 0 (omega arith) in
    ⊎_elim
    (λ e. omega (arith, less, e))
    (λ d. let more = head_below y ys (tail_increases x (y ∷ ys) h) z d in omega (arith, less, more))
    (cases_cons y z ys c)

behind : (x y : ℕ) (xs ys : List ℕ) → x ≡ y → IsStrictlyIncreasing (x ∷ xs) → ((z : ℕ) → Contains (x ∷ xs) z → Contains (y ∷ ys) z) → (z : ℕ) → Contains xs z → Contains ys z
behind x y xs ys e h f z c =
    ⊎_elim
    (λ same. let less = head_below x xs h z c in absurd (omega (arith, e, same, less)))
    (λ d. d)
    (cases_cons y z ys (f z (later x z xs c)))

same_head : (x y : ℕ) (xs ys : List ℕ) → IsStrictlyIncreasing (x ∷ xs) → IsStrictlyIncreasing (y ∷ ys) → Contains (y ∷ ys) x → Contains (x ∷ xs) y → x ≡ y
same_head x y xs ys h g a b =
    ⊎_elim
    (λ e. sym e)
    (λ c.
    ⊎_elim
    (λ e. e)
    (λ d. let below = head_below x xs h y d in let above = head_below y ys g x c in absurd (omega (arith, below, above)))
    (cases_cons x y xs b))
    (cases_cons y x ys a)

-- increasing lists with the same members are one
one_list : (xs ys : List ℕ) → IsStrictlyIncreasing xs → IsStrictlyIncreasing ys → ((z : ℕ) → Contains xs z → Contains ys z) → ((z : ℕ) → Contains ys z → Contains xs z) → xs ≡ ys
one_list [] [] h g f b = refl
one_list [] (y ∷ ys) h g f b = nothing_in y (b y (first y y ys refl))
one_list (x ∷ xs) [] h g f b = nothing_in x (f x (first x x xs refl))
one_list (x ∷ xs) (y ∷ ys) h g f b =
    let e = same_head x y xs ys h g (f x (first x x xs refl)) (b y (first y y ys refl)) in
    let rest = one_list xs ys (tail_increases x xs h) (tail_increases y ys g) (behind x y xs ys e h f) (behind y x ys xs (sym e) g b) in
    ap (λ (z : ℕ). z ∷ xs) e ∙ ap (λ (zs : List ℕ). y ∷ zs) rest

one_group : (ds : List DefinitionOf) (old : List ℕ) (definition : ℕ) (a b : List ℕ) → IsGroup ds old definition a → IsGroup ds old definition b → a ≡ b
one_group ds old definition a b p q = one_list a b p.ascending q.ascending (λ z c. (q.members z).1 ((p.members z).0 c)) (λ z c. (p.members z).1 ((q.members z).0 c))

pub one_rule : {ds : List DefinitionOf} {old : List ℕ} {definition : ℕ} {of : TargetKind} {f g : ℕ → Renaming} → Changes ds old definition of f → Changes ds old definition of g → f ≡ g
one_rule fragments fragments = refl
one_rule {ds} {old} {definition} (variables {group = a} p) (variables {group = b} q) = ap (λ (group : List ℕ). variable_in group old) (one_group ds old definition a b p q)
