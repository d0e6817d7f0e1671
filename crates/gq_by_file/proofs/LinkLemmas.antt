-- Links between files: they stay among the files, they lead where spreads do, and what they reach is closed.
use Rattle.std.proofs.Common.{◌≡◌, ℕ, zero, suc, ◌+◌, ◌<◌, true, List, [], ◌∷◌, ◌++◌, Some, Vec, Global, Contains, All, get_or, slice_get, length, map, flat_map, refl, sym, ap, ap₂, ◌∙◌, subst, ⊎_elim, arith}
use Rattle.std.specs.Str.{bytes_eq}
use Rattle.std.specs.Cmp.Lexicographic.{nat_list_eq_equiv}
use Rattle.std.proofs.lemmas.List.{length-map}
use Rattle.std.proofs.lemmas.List.Elements.{All-contains, Contains-append_left, Contains-append_right, Contains-append_cases, Contains-get_or}
use Rattle.std.proofs.lemmas.Option.{none-some, same_Some, slice_get_within}
use Rattle.gq_text.specs.declared.place.Span.{Span}
use Rattle.gq_tree.specs.Names.{spread_names}
use Rattle.gq_tree.specs.Plain.{NameOf, Def, operation, fragment, type_system}
use Rattle.gq_tree.specs.Readings.{ParsedOf, definitions_read, in_document}
use Rattle.gq_names.specs.UnderNames.{UnderNames, items_under, one_if}
use Rattle.gq_graph.specs.Reach.{Reach, InRange, row, start, step}
use Rattle.gq_types.specs.Entries.{Text, EntryOf}
use Rattle.gq_types.proofs.Gathered.{nothing_in, first, only, cases_cons, from_flat, to_flat, from_map, to_map, from_if, to_if}
use Rattle.gq_document.specs.Definitions.{OperationOf, FragmentOf, operation_in, fragment_in}
use Rattle.gq_document.specs.Executable.{ExecutableOf}
use Rattle.gq_spreads.specs.Helping.Rows.{row_items}
use Rattle.gq_spreads.proofs.RowLemmas.{number_of, stands}
use Rattle.gq_rules.specs.Files.{together}
use Rattle.gq_by_file.proofs.OneFile.Numbers.{from_documents, to_documents, operation_moves, fragment_moves}
use Rattle.gq_by_file.specs.Closed.Closed.{IsClosed, StandsInFile, of_operation, of_fragment}
use Rattle.gq_by_file.specs.Closed.Laws.{spreads_in, spreads_read}
use Rattle.gq_by_file.specs.Names.{AreNames, fragment_names_in, fragments_read, texts_of}
use Rattle.gq_by_file.specs.declared.names.FileNames.{FileNames}
use Rattle.gq_by_file.specs.Helping.ByNames.{AreSpreadsOf, IsSpreadText, all_spreads}
use Rattle.gq_by_file.specs.Helping.ByNames as by_names
use Rattle.gq_by_file.specs.Links.{AreLinks}
use Rattle.gq_by_file.specs.Helping.Links.{files_from, linked_by, linked_in, links_among, named_in}
use Rattle.gq_by_file.proofs.NameLemmas.{names_count, names_there, reading_there}

all_of : {X : Type 0} (P : X → Type 0) (xs : List X) → ((x : X) → Contains xs x → P x) → All P xs
all_of P xs h = λ k d below. h (get_or xs k d) (Contains-get_or xs k d below)

-- rows by what they are computed from
row_is : (rows : List (Vec ℕ Global)) (n : ℕ) → row rows n ≡ get_or (row_items rows) n []
row_is [] n = refl
row_is (v ∷ vs) zero = refl
row_is (v ∷ vs) (suc n) = row_is vs n

map_at : {X : Type 0} (f : X → List ℕ) (xs : List X) (n : ℕ) (x : X) → slice_get xs n ≡ Some x → get_or (map f xs) n [] ≡ f x
map_at f [] n x at = absurd (none-some x at)
map_at f (y ∷ ys) zero x at = ap f (same_Some y x at)
map_at f (y ∷ ys) (suc n) x at = map_at f ys n x at

row_of : (rows : List (Vec ℕ Global)) (names : List FileNames) → row_items rows ≡ links_among names → (n : ℕ) (one : FileNames) → slice_get names n ≡ Some one → row rows n ≡ linked_in names one
row_of rows names is n one at = row_is rows n ∙ ap (λ ns. get_or ns n []) is ∙ map_at (linked_in names) names n one at

pub rows_count : (rows : List (Vec ℕ Global)) (names : List FileNames) → row_items rows ≡ links_among names → length rows ≡ length names
rows_count rows names is = sym (length-map rows (λ v. v.items)) ∙ ap length is ∙ length-map names (linked_in names)

-- the files with fragments of a name
from_named : (k : ℕ) (text : Text) (fs : List Text) (n : ℕ) → Contains (named_in k text fs) n → n ≡ k
from_named k text [] n c = nothing_in n c
from_named k text (f ∷ fs) n c = ⊎_elim
    (λ a. (from_if (bytes_eq text f) k n a).1)
    (λ b. from_named k text fs n b)
    (Contains-append_cases (one_if (bytes_eq text f) k) (named_in k text fs) n c)

pub same_bytes : (a b : Text) → a ≡ b → bytes_eq a b ≡ true
same_bytes a b e = subst (λ (u : Text). bytes_eq a u ≡ true) e (nat_list_eq_equiv.refl a)

to_named : (k : ℕ) (text : Text) (fs : List Text) → Contains fs text → Contains (named_in k text fs) k
to_named k text [] c = nothing_in text c
to_named k text (f ∷ fs) c = ⊎_elim
    (λ e. Contains-append_left (one_if (bytes_eq text f) k) (named_in k text fs) k (to_if (bytes_eq text f) k k (same_bytes text f (sym e)) refl))
    (λ d. Contains-append_right (one_if (bytes_eq text f) k) (named_in k text fs) k (to_named k text fs d))
    (cases_cons f text fs c)

files_below : (k : ℕ) (text : Text) (names : List FileNames) (n : ℕ) → Contains (files_from k text names) n → n < k + length names
files_below k text [] n c = nothing_in n c
files_below k text (one ∷ names) n c = ⊎_elim
    (λ a. let e = from_named k text one.fragments.items n a in omega (arith, e))
    (λ b. let h = files_below (k + 1) text names n b in omega (arith, h))
    (Contains-append_cases (named_in k text one.fragments.items) (files_from (k + 1) text names) n c)

to_files : (k : ℕ) (text : Text) (names : List FileNames) (n : ℕ) (one : FileNames) → slice_get names n ≡ Some one → Contains one.fragments.items text → Contains (files_from k text names) (k + n)
to_files k text [] n one at c = absurd (none-some one at)
to_files k text (other ∷ names) zero one at c =
    let here : Contains other.fragments.items text = subst (λ (z : FileNames). Contains z.fragments.items text) (sym (same_Some other one at)) c in
    let number : k ≡ k + 0 = omega arith in
    subst (λ m. Contains (files_from k text (other ∷ names)) m) number (Contains-append_left (named_in k text other.fragments.items) (files_from (k + 1) text names) k (to_named k text other.fragments.items here))
to_files k text (other ∷ names) (suc n) one at c =
    let number : k + 1 + n ≡ k + suc n = omega arith in
    Contains-append_right (named_in k text other.fragments.items) (files_from (k + 1) text names) (k + suc n) (subst (λ m. Contains (files_from (k + 1) text names) m) number (to_files (k + 1) text names n one at c))

-- by a table of them
module _ (table : UnderNames ℕ) (names : List FileNames) (are : (text : Text) → items_under table text ≡ files_from 0 text names) where
  linked_texts : (texts : List Text) → flat_map (λ (text : Text). items_under table text) texts ≡ flat_map (λ (text : Text). files_from 0 text names) texts
  linked_texts [] = refl
  linked_texts (text ∷ texts) = ap₂ (λ (a b : List ℕ). a ++ b) (are text) (linked_texts texts)

  pub linked_all : (some : List FileNames) → map (linked_by table) some ≡ map (linked_in names) some
  linked_all [] = refl
  linked_all (one ∷ some) = ap₂ (λ (a : List ℕ) (b : List (List ℕ)). a ∷ b) (linked_texts one.spreads.items) (linked_all some)

-- links lead to files alone
pub rows_in_range : (names : List FileNames) (rows : List (Vec ℕ Global)) → row_items rows ≡ links_among names → InRange rows
rows_in_range names rows is = all_of (λ (v : Vec ℕ Global). All (λ n. n < length rows) v.items) rows (λ v c. all_of (λ n. n < length rows) v.items (below v c))
  where
    below : (v : Vec ℕ Global) → Contains rows v → (n : ℕ) → Contains v.items n → n < length rows
    below v c n d =
        let there : Contains (links_among names) v.items = subst (λ (ls : List (List ℕ)). Contains ls v.items) is (to_map (λ (w : Vec ℕ Global). w.items) rows v c) in
        let p = from_map (linked_in names) names v.items there in
        let q = from_flat (λ (text : Text). files_from 0 text names) p.0.spreads.items n (subst (λ (ns : List ℕ). Contains ns n) (sym p.2) d) in
        let h = files_below 0 q.0 names n q.2 in
        let count = rows_count rows names is in
        omega (arith, h, count)

-- the spreads and the names of definitions are those of their document
operation_spreads : (n : ℕ) (d : Def Span) (o : OperationOf) → Contains (operation_in n d) o → spreads_in d ≡ spread_names o.set
operation_spreads n (operation kind name variables directives set braces place) o c = ap (λ (z : OperationOf). spread_names z.set) (sym (only _ o c))
operation_spreads n (fragment name on directives set braces place) o c = nothing_in o c
operation_spreads n (type_system definition) o c = nothing_in o c

fragment_spreads : (n : ℕ) (d : Def Span) (g : FragmentOf) → Contains (fragment_in n d) g → spreads_in d ≡ spread_names g.set
fragment_spreads n (operation kind name variables directives set braces place) g c = nothing_in g c
fragment_spreads n (fragment name on directives set braces place) g c = ap (λ (z : FragmentOf). spread_names z.set) (sym (only _ g c))
fragment_spreads n (type_system definition) g c = nothing_in g c

fragment_name : (n : ℕ) (d : Def Span) (g : FragmentOf) → Contains (fragment_in n d) g → Contains (fragment_names_in d) g.name
fragment_name n (operation kind name variables directives set braces place) g c = nothing_in g c
fragment_name n (fragment name on directives set braces place) g c = first name g.name [] (ap (λ (z : FragmentOf). z.name) (sym (only _ g c)))
fragment_name n (type_system definition) g c = nothing_in g c

pub text_in : (ns : List (NameOf Span)) (name : NameOf Span) → Contains ns name → Contains (texts_of ns) name.text
text_in ns name c = to_map (λ (z : NameOf Span). z.text) ns name c

spread_of_operation : (n : ℕ) (r : ParsedOf) (o : OperationOf) (name : NameOf Span) → Contains (in_document operation_in n r) o → Contains (spread_names o.set) name → Contains (texts_of (spreads_read r)) name.text
spread_of_operation n r o name c s =
    let p = from_flat (operation_in n) (definitions_read r) o c in
    text_in (spreads_read r) name (to_flat spreads_in (definitions_read r) p.0 name p.1 (subst (λ (ns : List (NameOf Span)). Contains ns name) (sym (operation_spreads n p.0 o p.2)) s))

spread_of_fragment : (n : ℕ) (r : ParsedOf) (g : FragmentOf) (name : NameOf Span) → Contains (in_document fragment_in n r) g → Contains (spread_names g.set) name → Contains (texts_of (spreads_read r)) name.text
spread_of_fragment n r g name c s =
    let p = from_flat (fragment_in n) (definitions_read r) g c in
    text_in (spreads_read r) name (to_flat spreads_in (definitions_read r) p.0 name p.1 (subst (λ (ns : List (NameOf Span)). Contains ns name) (sym (fragment_spreads n p.0 g p.2)) s))

pub name_of_fragment : (n : ℕ) (r : ParsedOf) (g : FragmentOf) → Contains (in_document fragment_in n r) g → Contains (texts_of (fragments_read r)) g.name.text
name_of_fragment n r g c =
    let p = from_flat (fragment_in n) (definitions_read r) g c in
    text_in (fragments_read r) g.name (to_flat fragment_names_in (definitions_read r) p.0 g.name p.1 (fragment_name n p.0 g p.2))

-- where one of a project stands
module _ (es : List EntryOf) (rs : List ParsedOf) where
  operation_stands : (o : OperationOf) → Contains (together es rs).operations o → (r : ParsedOf) × (slice_get rs o.file ≡ Some r) × Contains (in_document operation_in o.file r) o
  operation_stands o c =
      let s = from_documents operation_in rs o c in
      let e : s.file ≡ o.file = sym (operation_moves s.file s.reading o s.stands).0 in
      (s.reading, subst (λ n. slice_get rs n ≡ Some s.reading) e s.there, subst (λ n. Contains (in_document operation_in n s.reading) o) e s.stands)

  fragment_stands : (g : FragmentOf) → Contains (together es rs).fragments g → (r : ParsedOf) × (slice_get rs g.file ≡ Some r) × Contains (in_document fragment_in g.file r) g
  fragment_stands g c =
      let s = from_documents fragment_in rs g c in
      let e : s.file ≡ g.file = sym (fragment_moves s.file s.reading g s.stands).0 in
      (s.reading, subst (λ n. slice_get rs n ≡ Some s.reading) e s.there, subst (λ n. Contains (in_document fragment_in n s.reading) g) e s.stands)

-- links lead from each file to the files with fragments that are spread in it
module _ (es : List EntryOf) (rs : List ParsedOf) (names : List FileNames) (rows : List (Vec ℕ Global)) (are : AreNames rs names) (is : row_items rows ≡ links_among names) where
  leads : (n m : ℕ) (r q : ParsedOf) (text : Text) → slice_get rs n ≡ Some r → slice_get rs m ≡ Some q → Contains (texts_of (spreads_read r)) text → Contains (texts_of (fragments_read q)) text → Contains (row rows n) m
  leads n m r q text read_n read_m spread defined =
      let one = names_there n r read_n are in
      let two = names_there m q read_m are in
      let a : Contains one.0.spreads.items text = subst (λ (ts : List Text). Contains ts text) (sym one.2.spreads) spread in
      let b : Contains two.0.fragments.items text = subst (λ (ts : List Text). Contains ts text) (sym two.2.fragments) defined in
      let number : 0 + m ≡ m = omega arith in
      let c : Contains (files_from 0 text names) m = subst (λ k. Contains (files_from 0 text names) k) number (to_files 0 text names m two.0 two.1 b) in
      subst (λ (ns : List ℕ). Contains ns m) (sym (row_of rows names is n one.0 one.1)) (to_flat (λ (t : Text). files_from 0 t names) one.0.spreads.items text m a c)

  below : (n : ℕ) (r : ParsedOf) → slice_get rs n ≡ Some r → n < length rows
  below n r at =
      let h = slice_get_within rs n r at in
      let a = names_count are in
      let b = rows_count rows names is in
      omega (arith, h, a, b)

  stands_below : (n : ℕ) → StandsInFile (together es rs) n → n < length rows
  stands_below n (of_operation {o = o} c e) = let s = operation_stands es rs o c in let h = below o.file s.0 s.1 in omega (arith, e, h)
  stands_below n (of_fragment {f = g} c e) = let s = fragment_stands es rs g c in let h = below g.file s.0 s.1 in omega (arith, e, h)

  to_target : (n : ℕ) (r : ParsedOf) (f : FragmentOf) (text : Text) → slice_get rs n ≡ Some r → Contains (texts_of (spreads_read r)) text → Contains (together es rs).fragments f → text ≡ f.name.text → Contains (row rows n) f.file
  to_target n r f text at spread d e =
      let t = fragment_stands es rs f d in
      leads n f.file r t.0 text at t.1 spread (subst (λ (z : Text). Contains (texts_of (fragments_read t.0)) z) (sym e) (name_of_fragment f.file t.0 f t.2))

  links_are : AreLinks (together es rs) rows
  links_are = record {
    in_range = stands_below;
    of_operations = λ o c f d h. let s = operation_stands es rs o c in to_target o.file s.0 f h.name.text s.1 (spread_of_operation o.file s.0 o h.name s.2 h.stands) d h.names;
    of_fragments = λ g c f d h. let s = fragment_stands es rs g c in to_target g.file s.0 f h.name.text s.1 (spread_of_fragment g.file s.0 g h.name s.2 h.stands) d h.names;
  }

pub are_links : (es : List EntryOf) (rs : List ParsedOf) (names : List FileNames) (rows : List (Vec ℕ Global)) → AreNames rs names → row_items rows ≡ links_among names → AreLinks (together es rs) rows
are_links es rs names rows are is = links_are es rs names rows are is

-- what links reach is closed
pub closed_by_links : (x : ExecutableOf) (rows : List (Vec ℕ Global)) (starts files : List ℕ) → AreLinks x rows → All (λ n. Reach starts (row rows) n) files →
    ((n : ℕ) → Reach starts (row rows) n → Contains files n) → IsClosed files x
closed_by_links x rows starts files links reached complete = record {
  of_operations = λ o c i f d h. complete f.file (step (All-contains (λ n. Reach starts (row rows) n) files o.file reached i) (links.of_operations o c f d h));
  of_fragments = λ g c i f d h. complete f.file (step (All-contains (λ n. Reach starts (row rows) n) files g.file reached i) (links.of_fragments g c f d h));
}

pub starts_reached : (rows : List (Vec ℕ Global)) (starts files : List ℕ) → ((n : ℕ) → Reach starts (row rows) n → Contains files n) → (n : ℕ) → Contains starts n → Contains files n
starts_reached rows starts files complete n c = complete n (start c)

pub reach_more : (rows : List (Vec ℕ Global)) (few many : List ℕ) → ((n : ℕ) → Contains few n → Contains many n) → (n : ℕ) → Reach few (row rows) n → Reach many (row rows) n
reach_more rows few many more n (start c) = start (more n c)
reach_more rows few many more n (step {m = m} r c) = step (reach_more rows few many more m r) c

-- the names of spreads are those in all files
module _ (es : List EntryOf) (rs : List ParsedOf) (names : List FileNames) (are : AreNames rs names) where
  spread_in : (text : Text) (n : ℕ) (r : ParsedOf) → slice_get rs n ≡ Some r → (name : NameOf Span) (d : Def Span) → Contains (definitions_read r) d → Contains (spreads_in d) name → name.text ≡ text →
      IsSpreadText (together es rs) text
  spread_in text n r at name (operation kind own variables directives set braces place) c s e =
      let d : Def Span = operation kind own variables directives set braces place in
      let o : OperationOf = record { file = n; kind = kind; name = own; variables = variables; directives = directives; set = set; braces = braces; place = place } in
      by_names.of_operation {o = o} (to_documents operation_in rs n r o at (to_flat (operation_in n) (definitions_read r) d o c (first o o [] refl))) s e
  spread_in text n r at name (fragment own on directives set braces place) c s e =
      let d : Def Span = fragment own on directives set braces place in
      let g : FragmentOf = record { file = n; name = own; on = on; directives = directives; set = set; braces = braces; place = place } in
      by_names.of_fragment {g = g} (to_documents fragment_in rs n r g at (to_flat (fragment_in n) (definitions_read r) d g c (first g g [] refl))) s e
  spread_in text n r at name (type_system definition) c s e = nothing_in name s

  from_spreads : (text : Text) → Contains (all_spreads names) text → IsSpreadText (together es rs) text
  from_spreads text c =
      let p = from_flat (λ (one : FileNames). one.spreads.items) names text c in
      let k = number_of names p.0 p.1 in
      let t = reading_there k.0 p.0 k.1 are in
      let q = from_map (λ (z : NameOf Span). z.text) (spreads_read t.0) text (subst (λ (ts : List Text). Contains ts text) t.2.spreads p.2) in
      let d = from_flat spreads_in (definitions_read t.0) q.0 q.1 in
      spread_in text k.0 t.0 t.1 q.0 d.0 d.1 d.2 q.2

  to_spreads : (text : Text) (n : ℕ) (r : ParsedOf) → slice_get rs n ≡ Some r → Contains (texts_of (spreads_read r)) text → Contains (all_spreads names) text
  to_spreads text n r at c =
      let one = names_there n r at are in
      to_flat (λ (z : FileNames). z.spreads.items) names one.0 text (stands names n one.0 one.1) (subst (λ (ts : List Text). Contains ts text) (sym one.2.spreads) c)

  back : (text : Text) → IsSpreadText (together es rs) text → Contains (all_spreads names) text
  back text (by_names.of_operation {o = o} {name = name} c s e) =
      let h = operation_stands es rs o c in
      to_spreads text o.file h.0 h.1 (subst (λ (z : Text). Contains (texts_of (spreads_read h.0)) z) e (spread_of_operation o.file h.0 o name h.2 s))
  back text (by_names.of_fragment {g = g} {name = name} c s e) =
      let h = fragment_stands es rs g c in
      to_spreads text g.file h.0 h.1 (subst (λ (z : Text). Contains (texts_of (spreads_read h.0)) z) e (spread_of_fragment g.file h.0 g name h.2 s))

pub spreads_are : (es : List EntryOf) (rs : List ParsedOf) (names : List FileNames) → AreNames rs names → AreSpreadsOf (together es rs) (all_spreads names)
spreads_are es rs names are text = (from_spreads es rs names are text, back es rs names are text)
