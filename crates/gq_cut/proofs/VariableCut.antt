-- Where a variable stands in the definitions of a group, by an index, are the names that its rename changes.
use Rattle.std.proofs.Common.{◌≡◌, ◌≢◌, ℕ, zero, suc, ◌+◌, ◌-◌, ◌<◌, ◌≤◌, Bool, true, false, ◌||◌, List, [], ◌∷◌, ◌++◌, length, Option, Some, None, refl, sym, ap, subst, ◌∙◌, map, flat_map, append-nil, append_assoc, if◌then◌else◌, arith}
use Rattle.std.specs.Prelude.{◌==◌, slice_get, slice_index, codes}
use Rattle.std.specs.List.{enumerate_from, filter, list_any, AllByRecursion}
use Rattle.std.specs.List.Sorted.{IsStrictlyIncreasing}
use Rattle.std.specs.Option.{option_map_or}
use Rattle.std.specs.Str.{bytes_eq}
use Rattle.std.proofs.lemmas.Bool.Decides.{nat_tests}
use Rattle.std.proofs.lemmas.Grind.{flat_map-append}
use Rattle.std.proofs.lemmas.List.{map-append}
use Rattle.std.proofs.lemmas.List.Elements.{filter-append}
use Rattle.gq_text.specs.declared.place.Span.{Span}
use Rattle.gq_tree.specs.Forest.{labels, labels_in}
use Rattle.gq_tree.specs.Plain.{NameOf, Says, Part, Val, DirectiveOf, VariableOf, Head, Sels, Def, variable, int, float, string, boolean, null, enum, list, object, field, spread, inline, operation, fragment, type_system}
use Rattle.gq_project.specs.declared.document.Doc.{Doc}
use Rattle.gq_parse.specs.Parsed.{AreParsed}
use Rattle.gq_parse.specs.Parsed as readings
use Rattle.gq_tree.specs.Readings.{ParsedOf, in_document}
use Rattle.gq_index.specs.declared.occurrence.Occurrence.{Occurrence}
use Rattle.gq_index.specs.VariableNames.{says_variable, part_variable, value_variables, argument_variables, directive_variables, head_variables, selection_variables, used_variables, defined_variables}
use Rattle.gq_index.specs.Occurrences.{DefinitionOf, AreExecutables, executable_in, places_called, definitions_in, uses_in}
use Rattle.gq_renamed.specs.Renamings.{Renaming, variable_called, nothing_renamed, MayName}
use Rattle.gq_renamed.specs.Renamed.{next_number}
use Rattle.gq_renamed.specs.Changed.{changed_name, changed_in_says, changed_in_part, changed_in_value, changed_in_arguments, changed_in_directives, changed_in_head, changed_in_selections, changed_in_def, changed_in_document}
use Rattle.gq_renamed.specs.Projects.{AreTrees, none, more, number_behind}
use Rattle.gq_renamed.proofs.Regrammar.{nothing_in, nothing_in_arguments, nothing_in_directives}
use Rattle.gq_cut.specs.Cut.{variable_in}
use Rattle.gq_cut.specs.Helping.Runs.{occurrences_at, changed_occurrences, variable_occurrences, group_occurrences}
use Rattle.gq_cut.proofs.Constant.{IsConstant, document_constant}
use Rattle.gq_cut.proofs.FragmentCut.{tree_read, same_test, filter_alike, executables_from}

abbrev named : List ℕ → NameOf Span → Bool
named old n = bytes_eq n.text old

filtered : {A B : Type 0} (p : B → Bool) (f g : A → List B) → ((x : A) → f x ≡ filter p (g x)) → (xs : List A) → flat_map f xs ≡ filter p (flat_map g xs)
filtered p f g h [] = refl
filtered {A} {B} p f g h (x ∷ xs) =
    ap (λ (l : List B). l ++ flat_map f xs) (h x) ∙ ap (λ (l : List B). filter p (g x) ++ l) (filtered p f g h xs) ∙ sym (filter-append p (g x) (flat_map g xs))

-- the names that the rename changes are those of the variable
part_called : (old : List ℕ) (p : Part Span) → changed_in_part (variable_called old) p ≡ filter (named old) (part_variable p)
part_called old p = by p.says
  where
    by : (s : Says Span) → changed_in_says (variable_called old) s ≡ filter (named old) (says_variable s)
    by (variable name place) = refl
    by (int text place) = refl
    by (float text place) = refl
    by (string text place) = refl
    by (boolean value place) = refl
    by (null place) = refl
    by (enum name) = refl
    by (list place) = refl
    by (object place) = refl

value_called : (old : List ℕ) (v : Val Span) → changed_in_value (variable_called old) v ≡ filter (named old) (value_variables v)
value_called old v = filtered (named old) (changed_in_part (variable_called old)) part_variable (part_called old) (labels_in v)

arguments_called : (old : List ℕ) (vs : List (Val Span)) → changed_in_arguments (variable_called old) vs ≡ filter (named old) (argument_variables vs)
arguments_called old vs = filtered (named old) (changed_in_value (variable_called old)) value_variables (value_called old) vs

directives_called : (old : List ℕ) (ds : List (DirectiveOf Span)) → changed_in_directives (variable_called old) ds ≡ filter (named old) (directive_variables ds)
directives_called old ds = filtered (named old) (λ (d : DirectiveOf Span). changed_in_arguments (variable_called old) d.arguments) (λ (d : DirectiveOf Span). argument_variables d.arguments) (λ d. arguments_called old d.arguments) ds

head_called : (old : List ℕ) (h : Head Span) → changed_in_head (variable_called old) h ≡ filter (named old) (head_variables h)
head_called old (field alias name arguments directives braces place) =
    ap (λ (l : List (NameOf Span)). l ++ changed_in_directives (variable_called old) directives) (arguments_called old arguments)
    ∙ ap (λ (l : List (NameOf Span)). filter (named old) (argument_variables arguments) ++ l) (directives_called old directives)
    ∙ sym (filter-append (named old) (argument_variables arguments) (directive_variables directives))
head_called old (spread name directives place) = directives_called old directives
head_called old (inline on directives braces place) = directives_called old directives

selections_called : (old : List ℕ) (ss : Sels Span) → changed_in_selections (variable_called old) ss ≡ filter (named old) (selection_variables ss)
selections_called old ss = filtered (named old) (changed_in_head (variable_called old)) head_variables (head_called old) (labels ss)

both_called : (old : List ℕ) (ds : List (DirectiveOf Span)) (ss : Sels Span) → changed_in_directives (variable_called old) ds ++ changed_in_selections (variable_called old) ss ≡ filter (named old) (directive_variables ds ++ selection_variables ss)
both_called old ds ss =
    ap (λ (l : List (NameOf Span)). l ++ changed_in_selections (variable_called old) ss) (directives_called old ds)
    ∙ ap (λ (l : List (NameOf Span)). filter (named old) (directive_variables ds) ++ l) (selections_called old ss)
    ∙ sym (filter-append (named old) (directive_variables ds) (selection_variables ss))

defined_called : (old : List ℕ) (vs : List (VariableOf Span)) → flat_map (λ (v : VariableOf Span). changed_name (variable_called old).variables v.name) vs ≡ filter (named old) (map (λ (v : VariableOf Span). v.name) vs)
defined_called old [] = refl
defined_called old (v ∷ vs) =
    ap (λ (l : List (NameOf Span)). changed_name (variable_called old).variables v.name ++ l) (defined_called old vs)
    ∙ sym (filter-append (named old) (v.name ∷ []) (map (λ (v : VariableOf Span). v.name) vs))

def_called : (old : List ℕ) (d : Def Span) → IsConstant d → changed_in_def (variable_called old) d ≡ filter (named old) (defined_variables d) ++ filter (named old) (used_variables d)
def_called old (operation kind name variables directives set braces place) constant =
    ap (λ (l : List (NameOf Span)). l ++ (changed_in_directives (variable_called old) directives ++ changed_in_selections (variable_called old) set)) (defined_called old variables)
    ∙ ap (λ (l : List (NameOf Span)). filter (named old) (map (λ (v : VariableOf Span). v.name) variables) ++ l) (both_called old directives set)
    ∙ ap (λ (l : List (NameOf Span)). filter (named old) (map (λ (v : VariableOf Span). v.name) variables) ++ filter (named old) (l ++ (directive_variables directives ++ selection_variables set))) (sym constant)
def_called old (fragment name on directives set braces place) constant = both_called old directives set
def_called old (type_system one) constant = refl

-- the places of a variable in a definition
abbrev own : List ℕ → DefinitionOf → List Occurrence
own old d = occurrences_at d.file (changed_in_def (variable_called old) d.definition)

places_are : (old : List ℕ) (file : ℕ) (names : List (NameOf Span)) → map (λ (s : Span). let o : Occurrence = record { file = file; span = s } in o) (places_called old names) ≡ occurrences_at file (filter (named old) names)
places_are old file names = placed (filter (λ (n : NameOf Span). bytes_eq old n.text) names) ∙ ap (occurrences_at file) (filter_alike (λ (n : NameOf Span). bytes_eq old n.text) (named old) (λ n. same_test old n.text) names)
  where
    placed : (ns : List (NameOf Span)) → map (λ (s : Span). let o : Occurrence = record { file = file; span = s } in o) (map (λ (n : NameOf Span). n.place) ns) ≡ occurrences_at file ns
    placed [] = refl
    placed (n ∷ ns) = ap (λ (os : List Occurrence). let o : Occurrence = record { file = file; span = n.place } in o ∷ os) (placed ns)

variable_stands : (old : List ℕ) (d : DefinitionOf) → IsConstant d.definition → variable_occurrences d old ≡ own old d
variable_stands old d constant =
    map-append (λ (s : Span). let o : Occurrence = record { file = d.file; span = s } in o) (definitions_in d.definition old) (uses_in d.definition old)
    ∙ ap (λ (os : List Occurrence). os ++ map (λ (s : Span). let o : Occurrence = record { file = d.file; span = s } in o) (uses_in d.definition old)) (places_are old d.file (defined_variables d.definition))
    ∙ ap (λ (os : List Occurrence). occurrences_at d.file (filter (named old) (defined_variables d.definition)) ++ os) (places_are old d.file (used_variables d.definition))
    ∙ sym (map-append (λ (n : NameOf Span). let o : Occurrence = record { file = d.file; span = n.place } in o) (filter (named old) (defined_variables d.definition)) (filter (named old) (used_variables d.definition)))
    ∙ ap (occurrences_at d.file) (sym (def_called old d.definition constant))

-- where nothing is renamed
kept : (text : List ℕ) → nothing_renamed.variables text ≡ false
kept text = refl

nothing_in_head : (h : Head Span) → changed_in_head nothing_renamed h ≡ []
nothing_in_head (field alias name arguments directives braces place) =
    ap (λ (l : List (NameOf Span)). l ++ changed_in_directives nothing_renamed directives) (nothing_in_arguments nothing_renamed kept arguments) ∙ nothing_in_directives nothing_renamed kept directives
nothing_in_head (spread name directives place) = nothing_in_directives nothing_renamed kept directives
nothing_in_head (inline on directives braces place) = nothing_in_directives nothing_renamed kept directives

nothing_in_both : (ds : List (DirectiveOf Span)) (ss : Sels Span) → changed_in_directives nothing_renamed ds ++ changed_in_selections nothing_renamed ss ≡ []
nothing_in_both ds ss =
    ap (λ (l : List (NameOf Span)). l ++ changed_in_selections nothing_renamed ss) (nothing_in_directives nothing_renamed kept ds) ∙ nothing_in (changed_in_head nothing_renamed) nothing_in_head (labels ss)

nothing_changed : (d : Def Span) → changed_in_def nothing_renamed d ≡ []
nothing_changed (operation kind name variables directives set braces place) =
    ap (λ (l : List (NameOf Span)). l ++ (changed_in_directives nothing_renamed directives ++ changed_in_selections nothing_renamed set)) (nothing_in (λ (v : VariableOf Span). changed_name nothing_renamed.variables v.name) (λ v. refl) variables)
    ∙ nothing_in_both directives set
nothing_changed (fragment name on directives set braces place) = nothing_in_both directives set
nothing_changed (type_system one) = refl

-- the places of the names that a rule changes, definition by definition
abbrev numbered : (ℕ → Renaming) → ℕ → List DefinitionOf → List Occurrence
numbered rule k [] = []
numbered rule k (d ∷ ds) = occurrences_at d.file (changed_in_def (rule k) d.definition) ++ numbered rule (k + 1) ds

numbered_alike : (f g : ℕ → Renaming) (k : ℕ) (ds : List DefinitionOf) → ((n : ℕ) → k ≤ n → f n ≡ g n) → numbered f k ds ≡ numbered g k ds
numbered_alike f g k [] h = refl
numbered_alike f g k (d ∷ ds) h =
    ap (λ (r : Renaming). occurrences_at d.file (changed_in_def r d.definition) ++ numbered f (k + 1) ds) (h k (omega arith))
    ∙ ap (λ (os : List Occurrence). occurrences_at d.file (changed_in_def (g k) d.definition) ++ os) (numbered_alike f g (k + 1) ds (λ n b. h n (omega arith)))

-- one definition of a document, and the others behind it
step : (rule : ℕ → Renaming) (k file : ℕ) (d : Def Span) (rest : List DefinitionOf) → numbered rule k (executable_in file d ++ rest) ≡ occurrences_at file (changed_in_def (rule k) d) ++ numbered rule (next_number d k) rest
step rule k file (operation kind name variables directives set braces place) rest = refl
step rule k file (fragment name on directives set braces place) rest = refl
step rule k file (type_system one) rest = refl

tree_numbered : (rule : ℕ → Renaming) (k file : ℕ) (tree : List (Def Span)) (rest : List DefinitionOf) → numbered rule k (flat_map (executable_in file) tree ++ rest) ≡ occurrences_at file (changed_in_document rule k tree) ++ numbered rule (number_behind tree k) rest
tree_numbered rule k file [] rest = refl
tree_numbered rule k file (d ∷ ds) rest =
    let n : ℕ = next_number d k in
    ap (numbered rule k) (append_assoc (executable_in file d) (flat_map (executable_in file) ds) rest)
    ∙ step rule k file d (flat_map (executable_in file) ds ++ rest)
    ∙ ap (λ (os : List Occurrence). occurrences_at file (changed_in_def (rule k) d) ++ os) (tree_numbered rule n file ds rest)
    ∙ sym (append_assoc (occurrences_at file (changed_in_def (rule k) d)) (occurrences_at file (changed_in_document rule n ds)) (numbered rule (number_behind ds n) rest))
    ∙ ap (λ (os : List Occurrence). os ++ numbered rule (number_behind ds n) rest) (sym (map-append (λ (m : NameOf Span). let o : Occurrence = record { file = file; span = m.place } in o) (changed_in_def (rule k) d) (changed_in_document rule n ds)))

project_numbered : (rule : ℕ → Renaming) (k file : ℕ) (documents : List Doc) (rs : List ParsedOf) (trees : List (List (Def Span))) → AreParsed documents rs → AreTrees documents trees →
    numbered rule k (executables_from file rs) ≡ changed_occurrences rule k file trees
project_numbered rule k file [] [] [] readings.none none = refl
project_numbered rule k file [] [] (tree ∷ trees) p q = elim q [ ]
project_numbered rule k file [] (r ∷ rs) trees p q = elim p [ ]
project_numbered rule k file (document ∷ documents) [] trees p q = elim p [ ]
project_numbered rule k file (document ∷ documents) (r ∷ rs) [] p q = elim q [ ]
project_numbered rule k file (document ∷ documents) (r ∷ rs) (tree ∷ trees) (readings.more p ps) (more q qs) =
    ap (λ (ds : List (Def Span)). numbered rule k (flat_map (executable_in file) ds ++ executables_from (file + 1) rs)) (tree_read document.text r tree p q)
    ∙ tree_numbered rule k file tree (executables_from (file + 1) rs)
    ∙ ap (λ (os : List Occurrence). occurrences_at file (changed_in_document rule k tree) ++ os) (project_numbered rule (number_behind tree k) (file + 1) documents rs trees ps qs)

-- the executable definitions of trees hold no variable in the directives of variables' definitions
constant_in : (file : ℕ) (d : Def Span) → IsConstant d → AllByRecursion (λ e. IsConstant e.definition) (executable_in file d)
constant_in file (operation kind name variables directives set braces place) h = (h, tt)
constant_in file (fragment name on directives set braces place) h = (tt, tt)
constant_in file (type_system one) h = tt

all_append : {A : Type 0} (P : A → Type 0) (xs ys : List A) → AllByRecursion P xs → AllByRecursion P ys → AllByRecursion P (xs ++ ys)
all_append P [] ys h g = g
all_append P (x ∷ xs) ys h g = (h.0, all_append P xs ys h.1 g)

tree_constant : (file : ℕ) (tree : List (Def Span)) → AllByRecursion IsConstant tree → AllByRecursion (λ e. IsConstant e.definition) (flat_map (executable_in file) tree)
tree_constant file [] h = tt
tree_constant file (d ∷ ds) h = all_append (λ e. IsConstant e.definition) (executable_in file d) (flat_map (executable_in file) ds) (constant_in file d h.0) (tree_constant file ds h.1)

pub project_constant : (file : ℕ) (documents : List Doc) (rs : List ParsedOf) (trees : List (List (Def Span))) → AreParsed documents rs → AreTrees documents trees → AllByRecursion (λ e. IsConstant e.definition) (executables_from file rs)
project_constant file [] [] [] readings.none none = tt
project_constant file [] [] (tree ∷ trees) p q = elim q [ ]
project_constant file [] (r ∷ rs) trees p q = elim p [ ]
project_constant file (document ∷ documents) [] trees p q = elim p [ ]
project_constant file (document ∷ documents) (r ∷ rs) [] p q = elim q [ ]
project_constant file (document ∷ documents) (r ∷ rs) (tree ∷ trees) (readings.more p ps) (more q qs) =
    let C : List (Def Span) → Type 0 = λ ds. AllByRecursion (λ e. IsConstant e.definition) (flat_map (executable_in file) ds) in
    all_append (λ e. IsConstant e.definition) (in_document executable_in file r) (executables_from (file + 1) rs)
    (subst C (sym (tree_read document.text r tree p q)) (tree_constant file tree (document_constant q.derived)))
    (project_constant (file + 1) documents rs trees ps qs)

-- numbers that rise, the first at `k` or above
abbrev Rises : ℕ → List ℕ → Type 0
Rises k [] = Unit {0}
Rises k (n ∷ ns) = (k ≤ n) × Rises (n + 1) ns

rises_lower : (j k : ℕ) (ns : List ℕ) → k ≤ j → Rises j ns → Rises k ns
rises_lower j k [] b h = tt
rises_lower j k (n ∷ ns) b h = let a = h.0 in (omega arith, h.1)

rises_of : (k : ℕ) (ns : List ℕ) → IsStrictlyIncreasing ns → (0 < length ns → k ≤ slice_index ns 0) → Rises k ns
rises_of k [] increasing h = tt
rises_of k (n ∷ ns) increasing h =
    let tail : IsStrictlyIncreasing ns = λ j b.
    let e : suc j + 1 ≡ suc (j + 1) = omega arith in
    let P : ℕ → Type 0 = λ i. slice_index (n ∷ ns) (suc j) < slice_index (n ∷ ns) i in
    subst P e (increasing (suc j) (omega arith)) in
    (h (omega arith), rises_of (n + 1) ns tail (λ some. let a : n < slice_index ns 0 = increasing 0 (omega arith) in omega arith))

not_among : (k j : ℕ) (group : List ℕ) → k < j → Rises j group → list_any (λ m. m == k) group ≡ false
not_among k j [] less h = refl
not_among k j (n ∷ ns) less h =
    let a = h.0 in
    let e : (n == k) ≡ false = grind (arith, nat_tests) in
    ap (λ (b : Bool). b || list_any (λ m. m == k) ns) e ∙ not_among k (n + 1) ns (omega arith) h.1

-- what stands at the definition of a number, the first of them having the number `k`
abbrev at_number : List ℕ → ℕ → List DefinitionOf → ℕ → List Occurrence
at_number old k ds n = option_map_or (own old) (slice_get ds (n - k)) []

shifted : (old : List ℕ) (k : ℕ) (d : DefinitionOf) (ds : List DefinitionOf) (group : List ℕ) → Rises (k + 1) group → flat_map (at_number old k (d ∷ ds)) group ≡ flat_map (at_number old (k + 1) ds) group
shifted old k d ds [] h = refl
shifted old k d ds (n ∷ ns) h =
    let a = h.0 in
    let e : n - k ≡ suc (n - (k + 1)) = omega arith in
    ap (λ (i : ℕ). option_map_or (own old) (slice_get (d ∷ ds) i) [] ++ flat_map (at_number old k (d ∷ ds)) ns) e
    ∙ ap (λ (os : List Occurrence). at_number old (k + 1) ds n ++ os) (shifted old k d ds ns (rises_lower (n + 1) (k + 1) ns (omega arith) h.1))

-- a definition of the group
taken : (old : List ℕ) (k n : ℕ) (d : DefinitionOf) (ds : List DefinitionOf) (ns : List ℕ) → n ≡ k → flat_map (at_number old (k + 1) ds) ns ≡ numbered (variable_in ns old) (k + 1) ds → Rises (k + 1) ns →
    flat_map (at_number old k (d ∷ ds)) (n ∷ ns) ≡ numbered (variable_in (n ∷ ns) old) k (d ∷ ds)
taken old k n d ds ns same behind rises =
    let zero_is : n - k ≡ 0 = omega arith in
    let here : (n == k) ≡ true = grind (arith, nat_tests) in
    let later : (j : ℕ) → k + 1 ≤ j → variable_in ns old j ≡ variable_in (n ∷ ns) old j = λ j b.
    let e : (n == j) ≡ false = grind (arith, nat_tests) in
    ap (λ (t : Bool). if t || list_any (λ m. m == j) ns then variable_called old else nothing_renamed) (sym e) in
    ap (λ (i : ℕ). option_map_or (own old) (slice_get (d ∷ ds) i) [] ++ flat_map (at_number old k (d ∷ ds)) ns) zero_is
    ∙ ap (λ (os : List Occurrence). own old d ++ os) (shifted old k d ds ns rises ∙ behind ∙ numbered_alike (variable_in ns old) (variable_in (n ∷ ns) old) (k + 1) ds later)
    ∙ ap (λ (t : Bool). occurrences_at d.file (changed_in_def (if t || list_any (λ m. m == k) ns then variable_called old else nothing_renamed) d.definition) ++ numbered (variable_in (n ∷ ns) old) (k + 1) ds) (sym here)

-- a definition outside of it
passed : (old : List ℕ) (k : ℕ) (d : DefinitionOf) (ds : List DefinitionOf) (group : List ℕ) → flat_map (at_number old (k + 1) ds) group ≡ numbered (variable_in group old) (k + 1) ds → Rises (k + 1) group →
    flat_map (at_number old k (d ∷ ds)) group ≡ numbered (variable_in group old) k (d ∷ ds)
passed old k d ds group behind rises =
    shifted old k d ds group rises
    ∙ behind
    ∙ ap (λ (ns : List (NameOf Span)). occurrences_at d.file ns ++ numbered (variable_in group old) (k + 1) ds) (sym (nothing_changed d.definition))
    ∙ ap (λ (t : Bool). occurrences_at d.file (changed_in_def (if t then variable_called old else nothing_renamed) d.definition) ++ numbered (variable_in group old) (k + 1) ds) (sym (not_among k (k + 1) group (omega arith) rises))

sweep : (old : List ℕ) (k : ℕ) (ds : List DefinitionOf) (group : List ℕ) → Rises k group → flat_map (at_number old k ds) group ≡ numbered (variable_in group old) k ds
sweep old k [] group h = nothing_in (at_number old k []) (λ n. refl) group
sweep old k (d ∷ ds) [] h = passed old k d ds [] (sweep old (k + 1) ds [] tt) tt
sweep old k (d ∷ ds) (n ∷ ns) h =
    by (n == k) refl
    (λ b. sweep old (k + 1) ds ns (let R : ℕ → Type 0 = λ j. Rises (j + 1) ns in subst R b h.1))
    (λ rises. sweep old (k + 1) ds (n ∷ ns) rises)
  where
    by : (b : Bool) → (n == k) ≡ b → (n ≡ k → flat_map (at_number old (k + 1) ds) ns ≡ numbered (variable_in ns old) (k + 1) ds) → (Rises (k + 1) (n ∷ ns) → flat_map (at_number old (k + 1) ds) (n ∷ ns) ≡ numbered (variable_in (n ∷ ns) old) (k + 1) ds) →
        flat_map (at_number old k (d ∷ ds)) (n ∷ ns) ≡ numbered (variable_in (n ∷ ns) old) k (d ∷ ds)
    by true e in_group outside =
        let same : n ≡ k = grind (arith, nat_tests) in
        taken old k n d ds ns same (in_group same) (let R : ℕ → Type 0 = λ j. Rises (j + 1) ns in subst R same h.1)
    by false e in_group outside =
        let a = h.0 in
        let less : k < n = grind (arith, nat_tests) in
        let rises : Rises (k + 1) (n ∷ ns) = (omega arith, h.1) in
        passed old k d ds (n ∷ ns) (outside rises) rises

at_is : (old : List ℕ) (ds : List DefinitionOf) (n : ℕ) → AllByRecursion (λ e. IsConstant e.definition) ds → option_map_or (λ d. variable_occurrences d old) (slice_get ds n) [] ≡ option_map_or (own old) (slice_get ds n) []
at_is old [] n h = refl
at_is old (d ∷ ds) zero h = variable_stands old d h.0
at_is old (d ∷ ds) (suc n) h = at_is old ds n h.1

group_is : (old : List ℕ) (ds : List DefinitionOf) (group : List ℕ) → AllByRecursion (λ e. IsConstant e.definition) ds → group_occurrences ds group old ≡ flat_map (at_number old 0 ds) group
group_is old ds [] h = refl
group_is old ds (n ∷ ns) h =
    let e : n - 0 ≡ n = omega arith in
    ap (λ (os : List Occurrence). os ++ group_occurrences ds ns old) (at_is old ds n h ∙ ap (λ (i : ℕ). option_map_or (own old) (slice_get ds i) []) (sym e))
    ∙ ap (λ (os : List Occurrence). at_number old 0 ds n ++ os) (group_is old ds ns h)

-- the places that an index of the documents tells of the group are those of the names that the rename changes
pub group_changes : (old : List ℕ) (group : List ℕ) (documents : List Doc) (ds : List DefinitionOf) (trees : List (List (Def Span))) → IsStrictlyIncreasing group → AreExecutables documents ds → AreTrees documents trees →
    group_occurrences ds group old ≡ changed_occurrences (variable_in group old) 0 0 trees
group_changes old group documents ds trees increasing x are_trees =
    let all : List DefinitionOf = executables_from 0 x.readings in
    ap (λ (es : List DefinitionOf). group_occurrences es group old) x.is
    ∙ group_is old all group (project_constant 0 documents x.readings trees x.are_readings are_trees)
    ∙ sweep old 0 all group (rises_of 0 group increasing (λ some. omega arith))
    ∙ project_numbered (variable_in group old) 0 0 documents x.readings trees x.are_readings are_trees

-- no fragment is renamed, so the new name may be any
pub may_name : (group old new : List ℕ) (n : ℕ) → MayName (variable_in group old n) new
may_name group old new n text = by (list_any (λ m. m == n) group)
  where
    by : (b : Bool) → (if b then variable_called old else nothing_renamed).fragments text ≡ true → new ≢ codes "on"
    by true e = absurd (cc)
    by false e = absurd (cc)
