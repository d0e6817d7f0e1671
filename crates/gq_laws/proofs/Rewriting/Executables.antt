-- The definitions of a project as it is read.
use Rattle.std.proofs.Common.{◌≡◌, ◌⊎◌, inl, inr, ℕ, zero, suc, ◌+◌, List, [], ◌∷◌, ◌++◌, Option, Some, map, flat_map, slice_get, Contains, unwrap_or, refl, sym, ap, ◌∙◌, subst, arith}
use Rattle.std.specs.List.{enumerate_from}
use Rattle.std.proofs.lemmas.List.{map-append}
use Rattle.gq_text.specs.declared.place.Span.{Span}
use Rattle.gq_tree.specs.declared.tree.OperationKind.{OperationKind}
use Rattle.gq_tree.specs.Plain.{Sels, Def, operation, fragment, type_system}
use Rattle.gq_types.specs.Entries.{Text, EntryOf}
use Rattle.gq_types.specs.Roots.{root_of}
use Rattle.gq_types.proofs.Gathered.{first, later, cases_cons, from_flat, to_flat}
use Rattle.gq_tree.specs.Readings.{ParsedOf, definitions_read, in_document}
use Rattle.gq_document.specs.Definitions.{OperationOf, FragmentOf, operation_in, fragment_in, operations_of, fragments_of}
use Rattle.gq_document.specs.Selections.{SelectedOf, IsSelectionWithin, IsSelected, of_operation, of_fragment}
use Rattle.gq_meaning.specs.Selected.{set_of}
use Rattle.gq_meaning.specs.Thin.{IsIn}
use Rattle.gq_laws.specs.Rewriting.KnownBefore.{Each, IsTyped}
use Rattle.gq_laws.specs.Rewriting.Documents as documents
use Rattle.gq_laws.specs.Rewriting.Documents.{Operation, EachFrom, OfSet, IsSetOf, EndsSetIn, IsSpreadDefined, AreTyped, AreDefined}
use Rattle.gq_laws.specs.Rewriting.Edits.{SpreadAt, IsLastSpread}
use Rattle.gq_laws.proofs.Rewriting.Located.{in_all}
use Rattle.gq_laws.proofs.Rewriting.Parents.{each_standing, typed_parents}
use Rattle.gq_laws.specs.Rewriting.Statics.{static_of, roots_in, seen_fragment, seen_operation}

abbrev pub trees_read : List ParsedOf → List (List (Def Span))
trees_read readings = map definitions_read readings

-- the fragments and the operations
fragments_here : (file : ℕ) (ds : List (Def Span)) → documents.definitions_in ds ≡ map seen_fragment (flat_map (fragment_in file) ds)
fragments_here file [] = refl
fragments_here file (operation kind name variables directives set braces place ∷ ds) = fragments_here file ds
fragments_here file (fragment name on directives set braces place ∷ ds) = ap (λ z. record { name = name.text; on = on.text; set = set_of set } ∷ z) (fragments_here file ds)
fragments_here file (type_system definition ∷ ds) = fragments_here file ds

fragments_from : (file : ℕ) (rs : List ParsedOf) → documents.definitions_of (trees_read rs) ≡ map seen_fragment (flat_map (λ r. in_document fragment_in r.0 r.1) (enumerate_from file rs))
fragments_from file [] = refl
fragments_from file (r ∷ rs) =
    ap (λ z. z ++ documents.definitions_of (trees_read rs)) (fragments_here file (definitions_read r))
    ∙ ap (λ z. map seen_fragment (in_document fragment_in file r) ++ z) (fragments_from (file + 1) rs)
    ∙ sym (map-append seen_fragment (in_document fragment_in file r) (flat_map (λ x. in_document fragment_in x.0 x.1) (enumerate_from (file + 1) rs)))

pub fragments_seen : (readings : List ParsedOf) → documents.definitions_of (trees_read readings) ≡ map seen_fragment (fragments_of readings)
fragments_seen readings = fragments_from 0 readings

operations_here : (file : ℕ) (ds : List (Def Span)) → documents.operations_in ds ≡ map seen_operation (flat_map (operation_in file) ds)
operations_here file [] = refl
operations_here file (operation kind name variables directives set braces place ∷ ds) =
    ap (λ z. record { kind = kind; name = name; variables = variables; directives = directives; set = set } ∷ z) (operations_here file ds)
operations_here file (fragment name on directives set braces place ∷ ds) = operations_here file ds
operations_here file (type_system definition ∷ ds) = operations_here file ds

operations_from : (file : ℕ) (rs : List ParsedOf) → documents.operations_of (trees_read rs) ≡ map seen_operation (flat_map (λ r. in_document operation_in r.0 r.1) (enumerate_from file rs))
operations_from file [] = refl
operations_from file (r ∷ rs) =
    ap (λ z. z ++ documents.operations_of (trees_read rs)) (operations_here file (definitions_read r))
    ∙ ap (λ z. map seen_operation (in_document operation_in file r) ++ z) (operations_from (file + 1) rs)
    ∙ sym (map-append seen_operation (in_document operation_in file r) (flat_map (λ x. in_document operation_in x.0 x.1) (enumerate_from (file + 1) rs)))

pub operations_seen : (readings : List ParsedOf) → documents.operations_of (trees_read readings) ≡ map seen_operation (operations_of readings)
operations_seen readings = operations_from 0 readings

-- a reading by its number
pub is_in : {A : Type 0} (x : A) (xs : List A) → Contains xs x → IsIn x xs
is_in x [] c = absurd (omega (arith, c.1))
is_in x (y ∷ ys) c = by (cases_cons y x ys c) (λ d. is_in x ys d)
  where
    by : (y ≡ x) ⊎ Contains ys x → (Contains ys x → IsIn x ys) → IsIn x (y ∷ ys)
    by (inl e) next = inl (sym e)
    by (inr d) next = inr (next d)

pub contains : {A : Type 0} (x : A) (xs : List A) → IsIn x xs → Contains xs x
contains x [] m = absurd m
contains x (y ∷ ys) (inl e) = first y x ys (sym e)
contains x (y ∷ ys) (inr m) = later y x ys (contains x ys m)

record Numbered (n : ℕ) (rs : List ParsedOf) (p : ℕ × ParsedOf) : Type 0 where
  index : ℕ
  number : p.0 ≡ n + index
  there : slice_get rs index ≡ Some p.1

numbered : (n : ℕ) (rs : List ParsedOf) (p : ℕ × ParsedOf) → IsIn p (enumerate_from n rs) → Numbered n rs p
numbered n [] p m = absurd m
numbered n (r ∷ rs) p (inl e) = record { index = 0; number = let q : p.0 ≡ n = ap (λ z. z.0) e in omega (arith, q); there = ap (λ z. Some z.1) (sym e) }
numbered n (r ∷ rs) p (inr m) = let i = numbered (n + 1) rs p m in record { index = suc i.index; number = omega (arith, i.number); there = i.there }

pub in_numbers : (n : ℕ) (rs : List ParsedOf) (k : ℕ) (r : ParsedOf) → slice_get rs k ≡ Some r → Contains (enumerate_from n rs) (n + k, r)
in_numbers n [] k r e = cc
in_numbers n (x ∷ rs) zero r e =
    let same : x ≡ r = cc in
    let number : n ≡ n + 0 = omega arith in
    first (n, x) (n + 0, r) (enumerate_from (n + 1) rs) (ap (λ z. (n, z)) same ∙ ap (λ z. (z, r)) number)
in_numbers n (x ∷ rs) (suc k) r e =
    let number : n + 1 + k ≡ n + suc k = omega arith in
    later (n, x) (n + suc k, r) (enumerate_from (n + 1) rs) (subst (λ z. Contains (enumerate_from (n + 1) rs) (z, r)) number (in_numbers (n + 1) rs k r e))

map_at : (rs : List ParsedOf) (k : ℕ) (r : ParsedOf) → slice_get rs k ≡ Some r → slice_get (trees_read rs) k ≡ Some (definitions_read r)
map_at [] k r e = cc
map_at (x ∷ rs) zero r e = let same : x ≡ r = cc in ap (λ z. Some (definitions_read z)) same
map_at (x ∷ rs) (suc k) r e = map_at rs k r e

pub record ReadAs (rs : List ParsedOf) (k : ℕ) (tree : List (Def Span)) : Type 0 where
  pub reading : ParsedOf
  pub there : slice_get rs k ≡ Some reading
  pub is : definitions_read reading ≡ tree

pub read_as : (rs : List ParsedOf) (k : ℕ) (tree : List (Def Span)) → slice_get (trees_read rs) k ≡ Some tree → ReadAs rs k tree
read_as [] k tree e = cc
read_as (x ∷ rs) zero tree e = record { reading = x; there = refl; is = cc }
read_as (x ∷ rs) (suc k) tree e = let i = read_as rs k tree e in record { reading = i.reading; there = i.there; is = i.is }

-- A definition stands in the document of its number.
pub record StandsIn (trees : List (List (Def Span))) (file : ℕ) (d : Def Span) : Type 0 where
  pub tree : List (Def Span)
  pub is_tree : slice_get trees file ≡ Some tree
  pub stands : IsIn d tree

abbrev pub operation_def : OperationOf → Def Span
operation_def o = operation o.kind o.name o.variables o.directives o.set o.braces o.place

abbrev pub fragment_def : FragmentOf → Def Span
fragment_def f = fragment f.name f.on f.directives f.set f.braces f.place

fragment_from : (file : ℕ) (d : Def Span) (f : FragmentOf) → IsIn f (fragment_in file d) → (f.file ≡ file) × (fragment_def f ≡ d)
fragment_from file (operation kind name variables directives set braces place) f m = absurd m
fragment_from file (fragment name on directives set braces place) f (inl e) = (ap (λ z. z.file) e, ap fragment_def e)
fragment_from file (fragment name on directives set braces place) f (inr m) = absurd m
fragment_from file (type_system definition) f m = absurd m

operation_from : (file : ℕ) (d : Def Span) (o : OperationOf) → IsIn o (operation_in file d) → (o.file ≡ file) × (operation_def o ≡ d)
operation_from file (operation kind name variables directives set braces place) o (inl e) =
    (ap (λ z. z.file) e, ap operation_def e)
operation_from file (operation kind name variables directives set braces place) o (inr m) = absurd m
operation_from file (fragment name on directives set braces place) o m = absurd m
operation_from file (type_system definition) o m = absurd m

module _ (readings : List ParsedOf) where
  -- what the documents define stands in their trees
  fragment_in_document : (f : FragmentOf) (p : ℕ × ParsedOf) (d : Def Span) → Contains (enumerate_from 0 readings) p → Contains (definitions_read p.1) d → Contains (fragment_in p.0 d) f → StandsIn (trees_read readings) f.file (fragment_def f)
  fragment_in_document f p d a b c =
      let i = numbered 0 readings p (is_in p (enumerate_from 0 readings) a) in
      let q = fragment_from p.0 d f (is_in f (fragment_in p.0 d) c) in
      let number : i.index ≡ f.file = let n = i.number in let m = q.0 in omega (arith, n, m) in
      record {
        tree = definitions_read p.1;
        is_tree = subst (λ k. slice_get (trees_read readings) k ≡ Some (definitions_read p.1)) number (map_at readings i.index p.1 i.there);
        stands = subst (λ z. IsIn z (definitions_read p.1)) (sym q.1) (is_in d (definitions_read p.1) b);
      }

  pub fragment_stands : (f : FragmentOf) → Contains (fragments_of readings) f → StandsIn (trees_read readings) f.file (fragment_def f)
  fragment_stands f c =
      let a = from_flat (λ (r : ℕ × ParsedOf). in_document fragment_in r.0 r.1) (enumerate_from 0 readings) f c in
      let b = from_flat (fragment_in a.0.0) (definitions_read a.0.1) f a.2 in
      fragment_in_document f a.0 b.0 a.1 b.1 b.2

  operation_in_document : (o : OperationOf) (p : ℕ × ParsedOf) (d : Def Span) → Contains (enumerate_from 0 readings) p → Contains (definitions_read p.1) d → Contains (operation_in p.0 d) o → StandsIn (trees_read readings) o.file (operation_def o)
  operation_in_document o p d a b c =
      let i = numbered 0 readings p (is_in p (enumerate_from 0 readings) a) in
      let q = operation_from p.0 d o (is_in o (operation_in p.0 d) c) in
      let number : i.index ≡ o.file = let n = i.number in let m = q.0 in omega (arith, n, m) in
      record {
        tree = definitions_read p.1;
        is_tree = subst (λ k. slice_get (trees_read readings) k ≡ Some (definitions_read p.1)) number (map_at readings i.index p.1 i.there);
        stands = subst (λ z. IsIn z (definitions_read p.1)) (sym q.1) (is_in d (definitions_read p.1) b);
      }

  pub operation_stands : (o : OperationOf) → Contains (operations_of readings) o → StandsIn (trees_read readings) o.file (operation_def o)
  operation_stands o c =
      let a = from_flat (λ (r : ℕ × ParsedOf). in_document operation_in r.0 r.1) (enumerate_from 0 readings) o c in
      let b = from_flat (operation_in a.0.0) (definitions_read a.0.1) o a.2 in
      operation_in_document o a.0 b.0 a.1 b.1 b.2

  pub each_at : {D : Type 0} (IsSo : ℕ → D → Type 0) (file : ℕ) (trees : List (List D)) → ((k : ℕ) (tree : List D) (d : D) → slice_get trees k ≡ Some tree → IsIn d tree → IsSo (file + k) d) → EachFrom IsSo file trees
  each_at IsSo file [] all = tt
  each_at IsSo file (tree ∷ trees) all =
      let here : file + 0 ≡ file = omega arith in (
        in_all (IsSo file) tree (λ d m. subst (λ n. IsSo n d) here (all 0 tree d refl m)),
        each_at IsSo (suc file) trees (λ k x d e m. let number : file + suc k ≡ suc file + k = omega arith in subst (λ n. IsSo n d) number (all (suc k) x d e m)),
      )

  -- What is so of the set of each operation and of each fragment, is so of each definition.
  pub each_set : (roots : OperationKind → Text) (IsSo : ℕ → Text → Sels Span → Type 0) → ((o : OperationOf) → Contains (operations_of readings) o → IsSo o.file (roots o.kind) o.set) → ((f : FragmentOf) → Contains (fragments_of readings) f → IsSo f.file f.on.text f.set) →
      EachFrom (λ k d. OfSet roots (IsSo k) d) 0 (trees_read readings)
  each_set roots IsSo operations fragments =
      each_at (λ k d. OfSet roots (IsSo k) d) 0 (trees_read readings) (λ k tree d e m.
      let r = read_as readings k tree e in
      by k r.reading d (in_numbers 0 readings k r.reading r.there) (contains d (definitions_read r.reading) (subst (IsIn d) (sym r.is) m)))
    where
      by : (k : ℕ) (r : ParsedOf) (d : Def Span) → Contains (enumerate_from 0 readings) (0 + k, r) → Contains (definitions_read r) d → OfSet roots (IsSo (0 + k)) d
      by k r (operation kind name variables directives set braces place) a b =
          let o : OperationOf = record { file = 0 + k; kind = kind; name = name; variables = variables; directives = directives; set = set; braces = braces; place = place } in
          operations o (to_flat (λ (x : ℕ × ParsedOf). in_document operation_in x.0 x.1) (enumerate_from 0 readings) (0 + k, r) o a
          (to_flat (operation_in (0 + k)) (definitions_read r) (operation kind name variables directives set braces place) o b (first o o [] refl)))
      by k r (fragment name on directives set braces place) a b =
          let f : FragmentOf = record { file = 0 + k; name = name; on = on; directives = directives; set = set; braces = braces; place = place } in
          fragments f (to_flat (λ (x : ℕ × ParsedOf). in_document fragment_in x.0 x.1) (enumerate_from 0 readings) (0 + k, r) f a
          (to_flat (fragment_in (0 + k)) (definitions_read r) (fragment name on directives set braces place) f b (first f f [] refl)))
      by k r (type_system definition) a b = tt

  module _ (es : List EntryOf) where
    abbrev pub Selected : SelectedOf → Type 0
    Selected = IsSelected es (operations_of readings) (fragments_of readings)

    abbrev pub Rooted : Type 0
    Rooted = (o : OperationOf) → Contains (operations_of readings) o → (t : Text) × (root_of es o.kind ≡ Some t)

    pub root_is : (kind : OperationKind) (t : Text) → root_of es kind ≡ Some t → roots_in es kind ≡ t
    root_is kind t e = ap (λ z. unwrap_or z []) e

    -- Where the parent of each selection is known, the documents are typed.
    pub are_typed : Rooted → ((s : SelectedOf) → Selected s → (p : Text) × (s.parent ≡ Some p)) → AreTyped (static_of es) (roots_in es) (trees_read readings)
    are_typed rooted known =
        each_set (roots_in es) (λ k t set. IsTyped (static_of es) t (set_of set))
        (λ o c. let t = rooted o c in
        typed_parents es (roots_in es o.kind) o.set (λ inner s w. known (record { file = o.file; parent = inner; selection = s })
        (of_operation c (refl, subst (λ z. IsSelectionWithin es z o.set inner s) (ap Some (root_is o.kind t.0 t.1) ∙ sym t.1) w))))
        (λ f c. typed_parents es f.on.text f.set (λ inner s w. known (record { file = f.file; parent = inner; selection = s }) (of_fragment c (refl, w))))

    -- Where the fragment of each spread stands, the documents spread only such.
    pub are_defined : ((s : SelectedOf) → Selected s → IsSpreadDefined (documents.definitions_of (trees_read readings)) s.selection.label) → AreDefined (roots_in es) (trees_read readings)
    are_defined defined =
        each_set (roots_in es) (λ k t set. Each (IsSpreadDefined (documents.definitions_of (trees_read readings))) set)
        (λ o c. each_standing es (root_of es o.kind) o.set (IsSpreadDefined (documents.definitions_of (trees_read readings))) (λ inner s w. defined (record { file = o.file; parent = inner; selection = s }) (of_operation c (refl, w))))
        (λ f c. each_standing es (Some f.on.text) f.set (IsSpreadDefined (documents.definitions_of (trees_read readings))) (λ inner s w. defined (record { file = f.file; parent = inner; selection = s }) (of_fragment c (refl, w))))

    -- Where each spread of a fragment that goes is the one that is inlined, so it is in the documents.
    pub are_last : (old : Option Text) (at : SpreadAt) → ((s : SelectedOf) → Selected s → IsLastSpread old at s.file s.selection.label) → EachFrom (λ k d. OfSet (roots_in es) (λ t set. Each (IsLastSpread old at k) set) d) 0 (trees_read readings)
    are_last old at last =
        each_set (roots_in es) (λ k t set. Each (IsLastSpread old at k) set)
        (λ o c. each_standing es (root_of es o.kind) o.set (IsLastSpread old at o.file) (λ inner s w. last (record { file = o.file; parent = inner; selection = s }) (of_operation c (refl, w))))
        (λ f c. each_standing es (Some f.on.text) f.set (IsLastSpread old at f.file) (λ inner s w. last (record { file = f.file; parent = inner; selection = s }) (of_fragment c (refl, w))))
