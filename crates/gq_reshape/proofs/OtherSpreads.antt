-- Where a project has not exactly one spread of a fragment, another one than that at a place stands.
use Rattle.std.proofs.Common.{◌≡◌, ◌⊎◌, inl, inr, ℕ, suc, ◌+◌, ◌<◌, ◌≤◌, Bool, true, false, ◌&&◌, nat_eq, List, [], ◌∷◌, ◌++◌, Option, Some, length, flat_map, Contains, refl, sym, ap, ◌∙◌, arith}
use Rattle.std.specs.Prelude.{if◌then◌else◌}
use Rattle.std.specs.List.{enumerate_from}
use Rattle.std.specs.Str.{bytes_eq}
use Rattle.std.proofs.lemmas.List.{length-append, length-map}
use Rattle.std.proofs.lemmas.List.Concat.{flat_map-append}
use Rattle.std.proofs.lemmas.List.Elements.{Contains-append_left, Contains-append_right}
use Rattle.gq_text.specs.declared.place.Span.{Span}
use Rattle.gq_tree.specs.Forest.{none, more, labels}
use Rattle.gq_tree.specs.Names.{spread_name}
use Rattle.gq_tree.specs.Plain as tree
use Rattle.gq_tree.specs.Plain.{NameOf, Head, Sel, Sels, Def, operation, fragment, type_system}
use Rattle.gq_tree.specs.Readings.{ParsedOf, definitions_read, in_document}
use Rattle.gq_project.specs.declared.document.Doc.{Doc}
use Rattle.gq_parse.specs.Parsed as readings
use Rattle.gq_parse.specs.Parsed.{AreParsed}
use Rattle.gq_types.specs.Entries.{Text}
use Rattle.gq_types.specs.Roots.{root_of}
use Rattle.gq_types.proofs.Gathered.{nothing_in, first, later, and_parts}
use Rattle.gq_document.specs.Definitions.{OperationOf, FragmentOf, operation_in, fragment_in}
use Rattle.gq_document.specs.Executable.{ExecutableOf, Selects}
use Rattle.gq_document.specs.Selections.{parent_below, IsSelectionWithin, here, within, after, of_operation, of_fragment}
use Rattle.gq_index.specs.declared.occurrence.Occurrence.{Occurrence}
use Rattle.gq_index.specs.Occurrences.{DefinitionOf, executable_in, executables, spreads_in, called, occurrences_of, fragment_spreads}
use Rattle.gq_meaning.proofs.TextLemmas.{same_text}
use Rattle.gq_rewritten.specs.Rewrites.{head_place, same_place}
use Rattle.gq_rules.specs.Project.{executable_of}
use Rattle.gq_laws.specs.Rewriting.Edits.{SpreadAt}
use Rattle.gq_laws.specs.Rewriting.Places.{AreNested, AreInPlace}
use Rattle.gq_laws.proofs.Rewriting.Located.{same_start}
use Rattle.gq_laws.proofs.Rewriting.Projects.{project_in_place}
use Rattle.gq_laws.specs.RewrittenValid.InlinedSpread.{IsSpreadElsewhere}
use Rattle.gq_reshape.proofs.RunStands.{same_number}

-- what is found in one of three parts, or what is so of all of them
one_of : {E A B C D : Type 0} → E ⊎ A → E ⊎ B → E ⊎ C → (A → B → C → D) → E ⊎ D
one_of (inl e) b c f = inl e
one_of (inr a) (inl e) c f = inl e
one_of (inr a) (inr b) (inl e) f = inl e
one_of (inr a) (inr b) (inr c) f = inr (f a b c)

either_of : {E B C D : Type 0} → E ⊎ B → E ⊎ C → (B → C → D) → E ⊎ D
either_of (inl e) c f = inl e
either_of (inr b) (inl e) f = inl e
either_of (inr b) (inr c) f = inr (f b c)

zero_more : (n : ℕ) → n ≡ 0 + n
zero_more n = omega arith

sums : (n m a x y z : ℕ) → n ≡ a + m → m ≡ y + z → x ≡ a + y → n ≡ x + z
sums n m a x y z p q r = omega (arith, p, q, r)

sums_below : (n m a y z : ℕ) → n ≡ a + m → m ≡ y + z → n ≡ a + (y + z)
sums_below n m a y z p q = omega (arith, p, q)

module _ (x : ExecutableOf) (text : Text) (s : SpreadAt) where
  abbrev Elsewhere : Type 0
  Elsewhere = IsSpreadElsewhere x text s

  -- how many spreads of that name there are among selections
  abbrev hits : List (Head Span) → ℕ
  hits heads = length (called text (flat_map spread_name heads))

  abbrev hit : Head Span → ℕ
  hit (tree.field alias name arguments directives braces place) = 0
  hit (tree.spread name directives place) = if bytes_eq text name.text then 1 else 0
  hit (tree.inline on directives braces place) = 0

  hits_cons : (h : Head Span) (hs : List (Head Span)) → hits (h ∷ hs) ≡ hit h + hits hs
  hits_cons (tree.field alias name arguments directives braces place) hs = zero_more (hits hs)
  hits_cons (tree.inline on directives braces place) hs = zero_more (hits hs)
  hits_cons (tree.spread name directives place) hs = by (bytes_eq text name.text)
    where
      by : (b : Bool) → length (if b then name ∷ called text (flat_map spread_name hs) else called text (flat_map spread_name hs)) ≡ (if b then 1 else 0) + hits hs
      by true = let e : suc (hits hs) ≡ 1 + hits hs = omega arith in e
      by false = zero_more (hits hs)

  hits_more : (xs ys : List (Head Span)) → hits (xs ++ ys) ≡ hits xs + hits ys
  hits_more [] ys = zero_more (hits ys)
  hits_more (h ∷ xs) ys = sums (hits (h ∷ (xs ++ ys))) (hits (xs ++ ys)) (hit h) (hits (h ∷ xs)) (hits xs) (hits ys) (hits_cons h (xs ++ ys)) (hits_more xs ys) (hits_cons h xs)

  -- there is none, or it is the one at the place, which stands between two bounds of that document
  abbrev AtMost : (file from to n : ℕ) → Type 0
  AtMost file from to n = (n ≡ 0) ⊎ ((n ≡ 1) × (s.file ≡ file) × (from ≤ s.place.start) × (s.place.start < to))

  abbrev AtMostBehind : (file from n : ℕ) → Type 0
  AtMostBehind file from n = (n ≡ 0) ⊎ ((n ≡ 1) × (s.file ≡ file) × (from ≤ s.place.start))

  abbrev AtMostFrom : (file n : ℕ) → Type 0
  AtMostFrom file n = (n ≡ 0) ⊎ ((n ≡ 1) × (file ≤ s.file))

  abbrev Own : (file start n : ℕ) → Type 0
  Own file start n = (n ≡ 0) ⊎ ((n ≡ 1) × (s.file ≡ file) × (start ≡ s.place.start))

  in_selection : (file from to start end a b c n : ℕ) → n ≡ a + (b + c) → from ≤ start → start < end → end ≤ to → Own file start a → AtMost file (start + 1) end b → AtMost file end to c →
      AtMost file from to n
  in_selection file from to start end a b c n sum low some high (inl p) (inl q) (inl r) = inl (omega (arith, sum, p, q, r))
  in_selection file from to start end a b c n sum low some high (inl p) (inl q) (inr r) = inr (let z = r.0 in let l = r.2 in (omega (arith, sum, p, q, z), r.1, omega (arith, low, some, l), r.3))
  in_selection file from to start end a b c n sum low some high (inl p) (inr q) (inl r) =
      inr (let z = q.0 in let l = q.2 in let h = q.3 in (omega (arith, sum, p, z, r), q.1, omega (arith, low, l), omega (arith, high, h)))
  in_selection file from to start end a b c n sum low some high (inl p) (inr q) (inr r) = absurd (let h = q.3 in let l = r.2 in omega (arith, h, l))
  in_selection file from to start end a b c n sum low some high (inr p) (inl q) (inl r) =
      inr (let z = p.0 in let e = p.2 in (omega (arith, sum, z, q, r), p.1, omega (arith, low, e), omega (arith, some, high, e)))
  in_selection file from to start end a b c n sum low some high (inr p) (inl q) (inr r) = absurd (let e = p.2 in let l = r.2 in omega (arith, some, e, l))
  in_selection file from to start end a b c n sum low some high (inr p) (inr q) r = absurd (let e = p.2 in let l = q.2 in omega (arith, e, l))

  in_definition : (file from start end b c n : ℕ) → n ≡ b + c → from ≤ start → start < end → AtMost file start end b → AtMostBehind file end c → AtMostBehind file from n
  in_definition file from start end b c n sum low some (inl q) (inl r) = inl (omega (arith, sum, q, r))
  in_definition file from start end b c n sum low some (inl q) (inr r) = inr (let z = r.0 in let l = r.2 in (omega (arith, sum, q, z), r.1, omega (arith, low, some, l)))
  in_definition file from start end b c n sum low some (inr q) (inl r) = inr (let z = q.0 in let l = q.2 in (omega (arith, sum, z, r), q.1, omega (arith, low, l)))
  in_definition file from start end b c n sum low some (inr q) (inr r) = absurd (let h = q.3 in let l = r.2 in omega (arith, h, l))

  in_one_document : (file b c n : ℕ) → n ≡ b + c → AtMostBehind file 0 b → AtMostFrom (file + 1) c → AtMostFrom file n
  in_one_document file b c n sum (inl q) (inl r) = inl (omega (arith, sum, q, r))
  in_one_document file b c n sum (inl q) (inr r) = inr (let z = r.0 in let l = r.1 in (omega (arith, sum, q, z), omega (arith, l)))
  in_one_document file b c n sum (inr q) (inl r) = inr (let z = q.0 in let e = q.1 in (omega (arith, sum, z, r), omega (arith, e)))
  in_one_document file b c n sum (inr q) (inr r) = absurd (let e = q.1 in let l = r.1 in omega (arith, e, l))

  -- the selection itself
  own : (file : ℕ) (parent : Option Text) (h : Head Span) (below : Sels Span) → Selects x (record { file = file; parent = parent; selection = record { label = h; below = below } }) →
      Elsewhere ⊎ Own file (head_place h).start (hit h)
  own file parent (tree.field alias name arguments directives braces place) below selects = inr (inl refl)
  own file parent (tree.inline on directives braces place) below selects = inr (inl refl)
  own file parent (tree.spread name directives place) below selects = by (bytes_eq text name.text) (nat_eq s.file file && same_place place s.place) refl refl
    where
      by : (b c : Bool) → bytes_eq text name.text ≡ b → (nat_eq s.file file && same_place place s.place) ≡ c → Elsewhere ⊎ Own file place.start (if b then 1 else 0)
      by false c e q = inr (inl refl)
      by true true e q = let both = and_parts (nat_eq s.file file) (same_place place s.place) q in inr (inr (refl, same_number s.file file both.0, same_start place s.place both.1))
      by true false e q = inl (record {
        selected = record { file = file; parent = parent; selection = record { label = tree.spread name directives place; below = below } };
        stands = selects;
        name = name;
        directives = directives;
        place = place;
        is_spread = refl;
        is_named = sym (same_text text name.text e);
        is_another = q;
      })

  search_set : (file : ℕ) (parent : Option Text) (from to : ℕ) (set : Sels Span) → AreNested from to set →
      ((inner : Option Text) (selection : Sel Span) → IsSelectionWithin x.entries parent set inner selection → Selects x (record { file = file; parent = inner; selection = selection })) →
      Elsewhere ⊎ AtMost file from to (hits (labels set))
  search_set file parent from to none nested selects = inr (inl refl)
  search_set file parent from to (more h b r) nested selects =
      one_of (own file parent h b (selects parent (record { label = h; below = b }) here))
      (search_set file (parent_below x.entries parent h) ((head_place h).start + 1) (head_place h).end b nested.3 (λ inner selection w. selects inner selection (within w)))
      (search_set file parent (head_place h).end to r nested.4 (λ inner selection w. selects inner selection (after w)))
      (in_selection file from to (head_place h).start (head_place h).end (hit h) (hits (labels b)) (hits (labels r)) (hits (h ∷ (labels b ++ labels r)))
      (sums_below (hits (h ∷ (labels b ++ labels r))) (hits (labels b ++ labels r)) (hit h) (hits (labels b)) (hits (labels r)) (hits_cons h (labels b ++ labels r))
      (hits_more (labels b) (labels r))) nested.0 nested.1 nested.2)

  -- in definitions of one document
  abbrev spreads_of : DefinitionOf → List Occurrence
  spreads_of d = occurrences_of d.file text (spreads_in d.definition)

  abbrev count_in : ℕ → List (Def Span) → ℕ
  count_in file ds = length (flat_map spreads_of (flat_map (executable_in file) ds))

  counted : (file : ℕ) (names : List (NameOf Span)) (others : List Occurrence) → length (occurrences_of file text names ++ others) ≡ length (called text names) + length others
  counted file names others =
      length-append (occurrences_of file text names) others ∙ ap (λ (n : ℕ). n + length others)
      (length-map (called text names) (λ (n : NameOf Span). let o : Occurrence = record { file = file; span = n.place } in o))

  search_tree : (file from : ℕ) (ds : List (Def Span)) → AreInPlace from ds → ((o : OperationOf) → Contains (flat_map (operation_in file) ds) o → Contains x.operations o) →
      ((f : FragmentOf) → Contains (flat_map (fragment_in file) ds) f → Contains x.fragments f) →
      Elsewhere ⊎ AtMostBehind file from (count_in file ds)
  search_tree file from [] all operations fragments = inr (inl refl)
  search_tree file from (type_system definition ∷ ds) all operations fragments = search_tree file from ds all operations fragments
  search_tree file from (operation kind name variables directives set braces place ∷ ds) all operations fragments =
      let o : OperationOf = record { file = file; kind = kind; name = name; variables = variables; directives = directives; set = set; braces = braces; place = place } in
      either_of (search_set file (root_of x.entries kind) place.start place.end set all.2
      (λ inner selection w. of_operation (operations o (first o o (flat_map (operation_in file) ds) refl)) (refl, w)))
      (search_tree file place.end ds all.3 (λ p c. operations p (later o p (flat_map (operation_in file) ds) c)) fragments)
      (in_definition file from place.start place.end (hits (labels set)) (count_in file ds) (count_in file (operation kind name variables directives set braces place ∷ ds))
      (counted file (flat_map spread_name (labels set)) (flat_map spreads_of (flat_map (executable_in file) ds))) all.0 all.1)
  search_tree file from (fragment name on directives set braces place ∷ ds) all operations fragments =
      let f : FragmentOf = record { file = file; name = name; on = on; directives = directives; set = set; braces = braces; place = place } in
      either_of (search_set file (Some on.text) place.start place.end set all.2 (λ inner selection w. of_fragment (fragments f (first f f (flat_map (fragment_in file) ds) refl)) (refl, w)))
      (search_tree file place.end ds all.3 operations (λ p c. fragments p (later f p (flat_map (fragment_in file) ds) c)))
      (in_definition file from place.start place.end (hits (labels set)) (count_in file ds) (count_in file (fragment name on directives set braces place ∷ ds))
      (counted file (flat_map spread_name (labels set)) (flat_map spreads_of (flat_map (executable_in file) ds))) all.0 all.1)

  -- in all documents, the first of which has that number
  abbrev count_from : ℕ → List ParsedOf → ℕ
  count_from n rs = length (flat_map spreads_of (flat_map (λ r. in_document executable_in r.0 r.1) (enumerate_from n rs)))

  abbrev operations_from : ℕ → List ParsedOf → List OperationOf
  operations_from n rs = flat_map (λ r. in_document operation_in r.0 r.1) (enumerate_from n rs)

  abbrev fragments_from : ℕ → List ParsedOf → List FragmentOf
  fragments_from n rs = flat_map (λ r. in_document fragment_in r.0 r.1) (enumerate_from n rs)

  search_documents : (n : ℕ) (documents : List Doc) (rs : List ParsedOf) → AreParsed documents rs → ((o : OperationOf) → Contains (operations_from n rs) o → Contains x.operations o) →
      ((f : FragmentOf) → Contains (fragments_from n rs) f → Contains x.fragments f) →
      Elsewhere ⊎ AtMostFrom n (count_from n rs)
  search_documents n documents [] are operations fragments = inr (inl refl)
  search_documents n [] (r ∷ rs) are operations fragments = elim are [ ]
  search_documents n (d ∷ documents) (r ∷ rs) (readings.more p ps) operations fragments =
      let in_place : AreInPlace 0 (definitions_read r) = project_in_place (readings.more {document = d} {one = r} p readings.none) 0 (definitions_read r) refl in
      let sum : count_from n (r ∷ rs) ≡ count_in n (definitions_read r) + count_from (n + 1) rs =
      ap (λ (os : List Occurrence). length os) (flat_map-append spreads_of (in_document executable_in n r) (flat_map (λ r. in_document executable_in r.0 r.1) (enumerate_from (n + 1) rs)))
      ∙ length-append (flat_map spreads_of (in_document executable_in n r)) (flat_map spreads_of (flat_map (λ r. in_document executable_in r.0 r.1) (enumerate_from (n + 1) rs))) in
      either_of (search_tree n 0 (definitions_read r) in_place
      (λ o c. operations o (Contains-append_left (in_document operation_in n r) (operations_from (n + 1) rs) o c))
      (λ f c. fragments f (Contains-append_left (in_document fragment_in n r) (fragments_from (n + 1) rs) f c)))
      (search_documents (n + 1) documents rs ps
      (λ o c. operations o (Contains-append_right (in_document operation_in n r) (operations_from (n + 1) rs) o c))
      (λ f c. fragments f (Contains-append_right (in_document fragment_in n r) (fragments_from (n + 1) rs) f c)))
      (in_one_document n (count_in n (definitions_read r)) (count_from (n + 1) rs) (count_from n (r ∷ rs)) sum)

some_there : {X : Type 0} (xs : List X) (z : X) → Contains xs z → length xs ≡ 0 → ⊥
some_there [] z c e = nothing_in z c
some_there (y ∷ ys) z c e = absurd (omega (arith, e))

-- Where there is one, and not one alone, another stands.
pub another_stands : (documents : List Doc) (rs : List ParsedOf) → AreParsed documents rs → (text : Text) (s : SpreadAt) (o : Occurrence) → Contains (fragment_spreads (executables rs) text) o →
    nat_eq (length (fragment_spreads (executables rs) text)) 1 ≡ false →
    IsSpreadElsewhere (executable_of rs) text s
another_stands documents rs are text s o there many = by (search_documents (executable_of rs) text s 0 documents rs are (λ p c. c) (λ f c. c))
  where
    by : IsSpreadElsewhere (executable_of rs) text s ⊎ ((length (fragment_spreads (executables rs) text) ≡ 0) ⊎ ((length (fragment_spreads (executables rs) text) ≡ 1) × (0 ≤ s.file))) →
        IsSpreadElsewhere (executable_of rs) text s
    by (inl found) = found
    by (inr (inl nowhere)) = absurd (some_there (fragment_spreads (executables rs) text) o there nowhere)
    by (inr (inr one)) = absurd (let t : nat_eq (length (fragment_spreads (executables rs) text)) 1 ≡ true = ap (λ (n : ℕ). nat_eq n 1) one.0 in let bad : true ≡ false = sym t ∙ many in cc)
