-- Where a file outside a set of files is replaced: nothing of it is seen in the set, and the set stays closed if no fragment of
-- the new file is spread in it.
use Rattle.std.proofs.Common.{◌≡◌, ◌⊎◌, ⊎_elim, inl, inr, ℕ, zero, suc, ◌+◌, Bool, true, false, cond, List, [], ◌∷◌, ◌++◌, Some, slice_get, slice_set, Contains, filter, flat_map, refl, sym, ap, ◌∙◌, subst, arith}
use Rattle.std.proofs.lemmas.List.Elements.{filter-append}
use Rattle.std.specs.List.{enumerate_from}
use Rattle.gq_text.specs.declared.place.Span.{Span}
use Rattle.gq_tree.specs.Names.{spread_names}
use Rattle.gq_tree.specs.Plain.{NameOf, Def, operation, fragment, type_system}
use Rattle.gq_tree.specs.Readings.{ParsedOf, definitions_read, in_document, in_documents}
use Rattle.gq_types.specs.Entries.{EntryOf}
use Rattle.gq_types.proofs.Gathered.{nothing_in, first, later, only, from_flat, to_flat}
use Rattle.gq_document.specs.Definitions.{OperationOf, FragmentOf, operation_in, fragment_in, operations_of, fragments_of}
use Rattle.gq_document.specs.Executable.{ExecutableOf}
use Rattle.gq_rules.specs.Files.{together}
use Rattle.gq_by_file.proofs.OneFile.Numbers.{fragment_to, from_documents, to_documents, operation_moves, fragment_moves}
use Rattle.gq_by_file.specs.Closed.Closed.{is_among, within, IsClosed}
use Rattle.gq_by_file.specs.Closed.Laws.{OtherFilesAreUnseen, spreads_in, spreads_read, AreNotSpread, ClosedSetsStay}
use Rattle.gq_by_file.proofs.Closed.Within.{from_among}

not_among : (files : List ℕ) (n : ℕ) → (Contains files n → ⊥) → is_among files n ≡ false
not_among files n outside = by (is_among files n) refl
  where
    by : (b : Bool) → is_among files n ≡ b → is_among files n ≡ false
    by true e = absurd (outside (from_among files n e))
    by false e = e

filter_none : {A : Type 0} (test : A → Bool) (xs : List A) → ((x : A) → Contains xs x → test x ≡ false) → filter test xs ≡ []
filter_none test [] fails = refl
filter_none test (x ∷ xs) fails =
    ap (λ b. cond b (x ∷ filter test xs) (filter test xs)) (fails x (first x x xs refl)) ∙ filter_none test xs (λ z c. fails z (later x z xs c))

-- what documents hold, each thing with the number of its document, by a filter that lets only some numbers through
module _ {A : Type 0} (what : ℕ → Def Span → List A) (number : A → ℕ) (numbers : (n : ℕ) (r : ParsedOf) (a : A) → Contains (in_document what n r) a → number a ≡ n) (files : List ℕ) where
  abbrev passes : A → Bool
  passes a = is_among files (number a)

  abbrev held : ℕ × ParsedOf → List A
  held z = in_document what z.0 z.1

  pub none_here : (n : ℕ) (r : ParsedOf) → (Contains files n → ⊥) → filter passes (in_document what n r) ≡ []
  none_here n r outside = filter_none passes (in_document what n r) (λ a c. ap (is_among files) (numbers n r a c) ∙ not_among files n outside)

  -- from a document of the number k on
  unseen_from : (k : ℕ) (rs : List ParsedOf) (at : ℕ) (r : ParsedOf) → (Contains files (k + at) → ⊥) →
      filter passes (flat_map held (enumerate_from k (slice_set rs at r)))
      ≡ filter passes (flat_map held (enumerate_from k rs))
  unseen_from k [] at r outside = refl
  unseen_from k (x ∷ rs) zero r outside =
      let outside_here : Contains files k → ⊥ = λ c. outside (let e : k ≡ k + 0 = omega arith in subst (Contains files) e c) in
      let rest : List A = flat_map held (enumerate_from (k + 1) rs) in
      filter-append passes (in_document what k r) rest
      ∙ ap (λ (l : List A). l ++ filter passes rest) (none_here k r outside_here ∙ sym (none_here k x outside_here))
      ∙ sym (filter-append passes (in_document what k x) rest)
  unseen_from k (x ∷ rs) (suc at) r outside =
      let later_outside : Contains files (k + 1 + at) → ⊥ = λ c. outside (let e : k + 1 + at ≡ k + suc at = omega arith in subst (Contains files) e c) in
      filter-append passes (in_document what k x) (flat_map held (enumerate_from (k + 1) (slice_set rs at r)))
      ∙ ap (λ (l : List A). filter passes (in_document what k x) ++ l) (unseen_from (k + 1) rs at r later_outside)
      ∙ sym (filter-append passes (in_document what k x) (flat_map held (enumerate_from (k + 1) rs)))

  unseen : (rs : List ParsedOf) (at : ℕ) (r : ParsedOf) → (Contains files at → ⊥) →
      filter passes (in_documents what (slice_set rs at r)) ≡ filter passes (in_documents what rs)
  unseen rs at r outside = unseen_from 0 rs at r (λ c. outside (let e : 0 + at ≡ at = omega arith in subst (Contains files) e c))

pub operation_number : (n : ℕ) (r : ParsedOf) (o : OperationOf) → Contains (in_document operation_in n r) o → o.file ≡ n
operation_number n r o c = (operation_moves n r o c).0

pub fragment_number : (n : ℕ) (r : ParsedOf) (f : FragmentOf) → Contains (in_document fragment_in n r) f → f.file ≡ n
fragment_number n r f c = (fragment_moves n r f c).0

pub others_unseen : OtherFilesAreUnseen
others_unseen es rs at r files outside =
    let is : ExecutableOf = within files (together es (slice_set rs at r)) in
    let was : ExecutableOf = within files (together es rs) in
    ap (λ (os : List OperationOf). record { entries = es; operations = os; fragments = is.fragments }) (unseen operation_in (λ (o : OperationOf). o.file) operation_number files rs at r outside)
    ∙ ap (λ (gs : List FragmentOf). record { entries = es; operations = was.operations; fragments = gs }) (unseen fragment_in (λ (g : FragmentOf). g.file) fragment_number files rs at r outside)

-- where one of a list is replaced, each is one of before or the new one
get_set : {A : Type 0} (rs : List A) (at : ℕ) (r : A) (k : ℕ) (q : A) → slice_get (slice_set rs at r) k ≡ Some q → (slice_get rs k ≡ Some q) ⊎ ((k ≡ at) × (r ≡ q))
get_set [] at r k q e = inl e
get_set (x ∷ rs) zero r zero q e = inr (refl, cc)
get_set (x ∷ rs) zero r (suc k) q e = inl e
get_set (x ∷ rs) (suc at) r zero q e = inl e
get_set (x ∷ rs) (suc at) r (suc k) q e = ⊎_elim (λ h. inl h) (λ h. inr (ap suc h.0, h.1)) (get_set rs at r k q e)

-- the document that a thing stands in, if it is not the new one
pub record StandsBefore {A : Type 0} (what : ℕ → Def Span → List A) (rs : List ParsedOf) (n : ℕ) (a : A) : Type 0 where
  pub reading : ParsedOf
  pub there : slice_get rs n ≡ Some reading
  pub stands : Contains (in_document what n reading) a

stood : {A : Type 0} (what : ℕ → Def Span → List A) (number : A → ℕ) (numbers : (n : ℕ) (r : ParsedOf) (a : A) → Contains (in_document what n r) a → number a ≡ n)
    (rs : List ParsedOf) (at : ℕ) (r : ParsedOf) (a : A) → Contains (in_documents what (slice_set rs at r)) a → StandsBefore what rs (number a) a ⊎ ((number a ≡ at) × Contains (in_document what at r) a)
stood what number numbers rs at r a c =
    let d = from_documents what (slice_set rs at r) a c in
    let n : number a ≡ d.file = numbers d.file d.reading a d.stands in
    ⊎_elim
    (λ e. inl (record {
      reading = d.reading;
      there = subst (λ k. slice_get rs k ≡ Some d.reading) (sym n) e;
      stands = subst (λ k. Contains (in_document what k d.reading) a) (sym n) d.stands;
    }))
    (λ h. inr (n ∙ h.0, subst (λ k. Contains (in_document what k r) a) h.0 (subst (λ (q : ParsedOf). Contains (in_document what d.file q) a) (sym h.1) d.stands)))
    (get_set rs at r d.file d.reading d.there)

-- the names of the spreads of an operation or a fragment are among those of its document
operation_spreads : (n : ℕ) (d : Def Span) (o : OperationOf) (name : NameOf Span) → Contains (operation_in n d) o → Contains (spread_names o.set) name → Contains (spreads_in d) name
operation_spreads n (operation kind of_name variables directives set braces place) o name c s = let e = only _ o c in subst (λ (z : OperationOf). Contains (spread_names z.set) name) e s
operation_spreads n (fragment of_name on directives set braces place) o name c s = nothing_in o c
operation_spreads n (type_system definition) o name c s = nothing_in o c

fragment_spreads : (n : ℕ) (d : Def Span) (g : FragmentOf) (name : NameOf Span) → Contains (fragment_in n d) g → Contains (spread_names g.set) name → Contains (spreads_in d) name
fragment_spreads n (operation kind of_name variables directives set braces place) g name c s = nothing_in g c
fragment_spreads n (fragment of_name on directives set braces place) g name c s = let e = only _ g c in subst (λ (z : FragmentOf). Contains (spread_names z.set) name) e s
fragment_spreads n (type_system definition) g name c s = nothing_in g c

pub operation_reads : (n : ℕ) (q : ParsedOf) (o : OperationOf) (name : NameOf Span) → Contains (in_document operation_in n q) o → Contains (spread_names o.set) name → Contains (spreads_read q) name
operation_reads n q o name c s =
    let p = from_flat (operation_in n) (definitions_read q) o c in
    to_flat spreads_in (definitions_read q) p.0 name p.1 (operation_spreads n p.0 o name p.2 s)

pub fragment_reads : (n : ℕ) (q : ParsedOf) (g : FragmentOf) (name : NameOf Span) → Contains (in_document fragment_in n q) g → Contains (spread_names g.set) name → Contains (spreads_read q) name
fragment_reads n q g name c s =
    let p = from_flat (fragment_in n) (definitions_read q) g c in
    to_flat spreads_in (definitions_read q) p.0 name p.1 (fragment_spreads n p.0 g name p.2 s)

module _ (es : List EntryOf) (rs : List ParsedOf) (at : ℕ) (r : ParsedOf) (files : List ℕ) (outside : Contains files at → ⊥) (apart : AreNotSpread rs files r)
    (closed : IsClosed files (together es rs)) where
  -- what stands inside stood there before
  operation_stood : (o : OperationOf) → Contains (operations_of (slice_set rs at r)) o → Contains files o.file → StandsBefore operation_in rs o.file o
  operation_stood o c i = ⊎_elim (λ b. b) (λ h. absurd (outside (subst (Contains files) h.0 i))) (stood operation_in (λ (z : OperationOf). z.file) operation_number rs at r o c)

  fragment_stood : (g : FragmentOf) → Contains (fragments_of (slice_set rs at r)) g → Contains files g.file → StandsBefore fragment_in rs g.file g
  fragment_stood g c i = ⊎_elim (λ b. b) (λ h. absurd (outside (subst (Contains files) h.0 i))) (stood fragment_in (λ (z : FragmentOf). z.file) fragment_number rs at r g c)

  -- what is spread in a document of the set is no fragment of the new one
  new_refused : (n : ℕ) (q : ParsedOf) → Contains files n → slice_get rs n ≡ Some q → (name : NameOf Span) → Contains (spreads_read q) name →
      (f : FragmentOf) → Contains (in_document fragment_in at r) f → name.text ≡ f.name.text → ⊥
  new_refused n q i there name s f c e = apart n q i there name s (fragment_to 0 f) ((fragment_moves at r f c).1 0) e

  -- so it stood in the project before
  spread_stood : (n : ℕ) (q : ParsedOf) → Contains files n → slice_get rs n ≡ Some q → (name : NameOf Span) → Contains (spreads_read q) name →
      (f : FragmentOf) → Contains (fragments_of (slice_set rs at r)) f → name.text ≡ f.name.text → Contains (fragments_of rs) f
  spread_stood n q i there name s f c e = ⊎_elim
      (λ b. to_documents fragment_in rs f.file b.reading f b.there b.stands)
      (λ h. absurd (new_refused n q i there name s f h.1 e))
      (stood fragment_in (λ (z : FragmentOf). z.file) fragment_number rs at r f c)

  stays : IsClosed files (together es (slice_set rs at r))
  stays = record {
    of_operations = λ o c i f d s.
        let b = operation_stood o c i in
        closed.of_operations o (to_documents operation_in rs o.file b.reading o b.there b.stands) i f
        (spread_stood o.file b.reading i b.there s.name (operation_reads o.file b.reading o s.name b.stands s.stands) f d s.names) s;
    of_fragments = λ g c i f d s.
        let b = fragment_stood g c i in
        closed.of_fragments g (to_documents fragment_in rs g.file b.reading g b.there b.stands) i f
        (spread_stood g.file b.reading i b.there s.name (fragment_reads g.file b.reading g s.name b.stands s.stands) f d s.names) s;
  }

pub closed_stays : ClosedSetsStay
closed_stays es rs at r files outside apart closed = stays es rs at r files outside apart closed
