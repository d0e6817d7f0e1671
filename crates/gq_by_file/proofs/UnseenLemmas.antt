-- What is known of files without a mark stays, where the type system becomes another one in what no operation and no fragment
-- of these sees.
use Rattle.std.proofs.Common.{◌≡◌, ◌⊎◌, ℕ, zero, suc, ◌+◌, ◌<◌, ◌≤◌, Bool, true, false, List, [], ◌∷◌, Option, Some, None, Contains, filter, length, set, slice_get, slice_index_or, ⊎_elim, inl, inr, refl, sym, ap, ◌∙◌, subst, length-set, arith}
use Rattle.std.specs.Prelude.{not}
use Rattle.std.specs.List.{list_any}
use Rattle.std.proofs.lemmas.Option.{slice_get_within}
use Rattle.gq_text.specs.declared.place.Span.{Span}
use Rattle.gq_tree.specs.Plain.{Sels, Def, operation, fragment, type_system}
use Rattle.gq_tree.specs.Readings.{ParsedOf, definitions_read, in_document}
use Rattle.gq_types.specs.Entries.{EntryOf}
use Rattle.gq_types.proofs.Gathered.{nothing_in, first, only, from_filter, from_flat, to_flat, not_true}
use Rattle.gq_fault.specs.declared.fault.Fault.{Fault}
use Rattle.gq_document.specs.Definitions.{OperationOf, FragmentOf, operation_in, fragment_in, operations_of, fragments_of}
use Rattle.gq_document.specs.Executable.{ExecutableOf}
use Rattle.gq_rules.specs.Files.{alone, together}
use Rattle.gq_by_file.specs.Unseen.{AreAlikeUnseen, SeeNothing, SeesNothing, sets_in}
use Rattle.gq_by_file.specs.Closed.Closed.{within}
use Rattle.gq_by_file.specs.declared.covers.Cover.{Cover}
use Rattle.gq_by_file.specs.Across.{AreCovers, IsCover}
use Rattle.gq_by_file.specs.Own.{AreOwn, IsOwn, none, more}
use Rattle.gq_by_file.proofs.OneFile.Numbers.{from_documents}
use Rattle.gq_by_file.proofs.Closed.Replaced.{operation_number, fragment_number}
use Rattle.gq_by_file.proofs.Closed.Within.{operation_from, fragment_from}
use Rattle.gq_by_file.proofs.AcrossLemmas.{is_no}
use Rattle.gq_by_file.proofs.CoverLemmas.{none_of}
use Rattle.gq_by_file.proofs.KnownOwnLemmas.{Own}

-- the selections of an operation and of a fragment are those of a definition
operation_set : (n : ℕ) (d : Def Span) (o : OperationOf) → Contains (operation_in n d) o → Contains (sets_in d) o.set
operation_set n (operation kind name variables directives set braces place) o c = first set o.set [] (ap (λ (z : OperationOf). z.set) (sym (only _ o c)))
operation_set n (fragment name on directives set braces place) o c = nothing_in o c
operation_set n (type_system definition) o c = nothing_in o c

fragment_set : (n : ℕ) (d : Def Span) (g : FragmentOf) → Contains (fragment_in n d) g → Contains (sets_in d) g.set
fragment_set n (operation kind name variables directives set braces place) g c = nothing_in g c
fragment_set n (fragment name on directives set braces place) g c = first set g.set [] (ap (λ (z : FragmentOf). z.set) (sym (only _ g c)))
fragment_set n (type_system definition) g c = nothing_in g c

-- nothing is known any more of the files with a mark before that place
abbrev pub AreForgotten : ℕ → List Bool → Own → Type 0
AreForgotten k marks own = (n : ℕ) (one : Option (List Fault)) → n < k → slice_index_or marks n false ≡ true → slice_get own n ≡ Some one → one ≡ None

-- of one file nothing is known any more
own_forgets : (es : List EntryOf) (at : ℕ) {rs : List ParsedOf} {own : Own} → AreOwn es rs own → AreOwn es rs (set own at None)
own_forgets es at none = none
own_forgets es zero (more q qs) = more tt qs
own_forgets es (suc at) (more q qs) = more q (own_forgets es at qs)

-- what is noted of a file was noted of it before, unless it is this one
get_set : (own : Own) (at n : ℕ) (one : Option (List Fault)) → slice_get (set own at None) n ≡ Some one → (one ≡ None) ⊎ ((slice_get own n ≡ Some one) × (n ≡ at → ⊥))
get_set [] at n one e = absurd (cc)
get_set (x ∷ own) zero zero one e = inl (cc)
get_set (x ∷ own) zero (suc n) one e = inr (e, λ z. omega (arith, z))
get_set (x ∷ own) (suc at) zero one e = inr (e, λ z. omega (arith, z))
get_set (x ∷ own) (suc at) (suc n) one e = ⊎_elim (λ h. inl h) (λ h. inr (h.0, λ z. h.1 (omega (arith, z)))) (get_set own at n one e)

below_or_at : (n k : ℕ) → n < k + 1 → (n < k) ⊎ (n ≡ k)
below_or_at zero zero h = inr refl
below_or_at zero (suc k) h = inl (omega arith)
below_or_at (suc n) zero h = absurd (omega (arith, h))
below_or_at (suc n) (suc k) h = ⊎_elim (λ l. inl (omega (arith, l))) (λ e. inr (ap suc e)) (below_or_at n k (omega (arith, h)))

-- what was known stays known of the files from that place on, and of those before it without a mark
pub record AreKept (marks : List Bool) (before : Own) (k : ℕ) (own : Own) : Type 0 where
  pub count : length own ≡ length before
  pub stays : (es : List EntryOf) (rs : List ParsedOf) → AreOwn es rs before → AreOwn es rs own
  pub forgotten : AreForgotten k marks own

pub kept_first : (marks : List Bool) (own : Own) → AreKept marks own 0 own
kept_first marks own = record { count = refl; stays = λ es rs are. are; forgotten = λ n one below. absurd (omega (arith, below)) }

-- the file at that place has a mark, or none
pub kept_marked : (marks : List Bool) (before own : Own) (k : ℕ) → AreKept marks before k own → AreKept marks before (k + 1) (set own k None)
kept_marked marks before own k kept = record {
  count = length-set own k None ∙ kept.count;
  stays = λ es rs are. own_forgets es k (kept.stays es rs are);
  forgotten = λ n one below mark e.
      ⊎_elim (λ h. h) (λ h. ⊎_elim (λ l. kept.forgotten n one l mark h.0) (λ s. absurd (h.1 s)) (below_or_at n k below)) (get_set own k n one e);
}

pub kept_unmarked : (marks : List Bool) (before own : Own) (k : ℕ) → slice_index_or marks k false ≡ false → AreKept marks before k own → AreKept marks before (k + 1) own
kept_unmarked marks before own k bare kept = record {
  count = kept.count;
  stays = kept.stays;
  forgotten = λ n one below mark e. ⊎_elim
      (λ l. kept.forgotten n one l mark e)
      (λ s. absurd (let here : slice_index_or marks k false ≡ true = subst (λ m. slice_index_or marks m false ≡ true) s mark in cc))
      (below_or_at n k below);
}

module _ (sees : Sels Span → Bool) where
  operation_unseen : (n : ℕ) (r : ParsedOf) → SeesNothing sees r → (o : OperationOf) → Contains (in_document operation_in n r) o → sees o.set ≡ false
  operation_unseen n r nothing o c =
      let p = from_flat (operation_in n) (definitions_read r) o c in
      nothing o.set (to_flat sets_in (definitions_read r) p.0 o.set p.1 (operation_set n p.0 o p.2))

  fragment_unseen : (n : ℕ) (r : ParsedOf) → SeesNothing sees r → (g : FragmentOf) → Contains (in_document fragment_in n r) g → sees g.set ≡ false
  fragment_unseen n r nothing g c =
      let p = from_flat (fragment_in n) (definitions_read r) g c in
      nothing g.set (to_flat sets_in (definitions_read r) p.0 g.set p.1 (fragment_set n p.0 g p.2))

  module _ (rs : List ParsedOf) (marks : List Bool) (see : SeeNothing sees rs marks) where
    operation_unmarked : (o : OperationOf) → Contains (operations_of rs) o → slice_index_or marks o.file false ≡ false → sees o.set ≡ false
    operation_unmarked o c open_at =
        let d = from_documents operation_in rs o c in
        let number : o.file ≡ d.file = operation_number d.file d.reading o d.stands in
        operation_unseen d.file d.reading (see d.file d.reading d.there (subst (λ k. slice_index_or marks k false ≡ false) number open_at)) o d.stands

    fragment_unmarked : (g : FragmentOf) → Contains (fragments_of rs) g → slice_index_or marks g.file false ≡ false → sees g.set ≡ false
    fragment_unmarked g c open_at =
        let d = from_documents fragment_in rs g c in
        let number : g.file ≡ d.file = fragment_number d.file d.reading g d.stands in
        fragment_unseen d.file d.reading (see d.file d.reading d.there (subst (λ k. slice_index_or marks k false ≡ false) number open_at)) g d.stands

-- no rule tells the type systems apart where nothing is seen
module _ (sees : Sels Span → Bool) (es us : List EntryOf) (alike : AreAlikeUnseen sees es us) where
  other_file : (r : ParsedOf) → SeesNothing sees r → (one : Option (List Fault)) → IsOwn es r one → IsOwn us r one
  other_file r nothing None q = tt
  other_file r nothing (Some faults) q = λ f.
      let u = alike (alone es 0 r).operations (alone es 0 r).fragments (operation_unseen sees 0 r nothing) (fragment_unseen sees 0 r nothing) f in (
        (λ c. let l = (q f).0 c in (l.0, u.0 l.1)),
        (λ l. (q f).1 (l.0, u.1 l.1)),
      )

  own_marked : (marked : ℕ → Bool) {rs : List ParsedOf} {own : Own} → ((n : ℕ) (r : ParsedOf) → slice_get rs n ≡ Some r → marked n ≡ false → SeesNothing sees r) →
      ((n : ℕ) (one : Option (List Fault)) → marked n ≡ true → slice_get own n ≡ Some one → one ≡ None) → AreOwn es rs own → AreOwn us rs own
  own_marked marked see forgotten none = none
  own_marked marked see forgotten (more {r = r} {one = one} q qs) = more (here (marked 0) refl) (own_marked (λ n. marked (suc n)) (λ n. see (suc n)) (λ n. forgotten (suc n)) qs)
    where
      here : (b : Bool) → marked 0 ≡ b → IsOwn us r one
      here true e = subst (IsOwn us r) (sym (forgotten 0 one e refl)) tt
      here false e = other_file r (see 0 r refl e) one q

  module _ (rs : List ParsedOf) (marks : List Bool) (see : SeeNothing sees rs marks) where
    pub own_unseen : (before own : Own) (k : ℕ) → length before ≤ k → AreKept marks before k own → AreOwn es rs before → AreOwn us rs own
    own_unseen before own k all kept are =
        own_marked (λ n. slice_index_or marks n false) see
        (λ n one mark there. let inside = slice_get_within own n one there in let count = kept.count in kept.forgotten n one (omega (arith, inside, count, all)) mark there)
        (kept.stays es rs are)

    module _ (c : Cover) (clean : list_any (λ n. slice_index_or marks n false) c.files.items ≡ false) where
      abbrev x : ExecutableOf
      x = together es rs

      abbrev w : ExecutableOf
      w = within c.files.items x

      no_mark : (n : ℕ) → Contains c.files.items n → slice_index_or marks n false ≡ false
      no_mark n i = is_no (slice_index_or marks n false) (none_of (λ k. slice_index_or marks k false) c.files.items n clean i)

      operation_here : (o : OperationOf) → Contains w.operations o → sees o.set ≡ false
      operation_here o i = let t = operation_from c.files.items x o i in operation_unmarked sees rs marks see o t.0 (no_mark o.file t.1)

      fragment_here : (g : FragmentOf) → Contains w.fragments g → sees g.set ≡ false
      fragment_here g i = let t = fragment_from c.files.items x g i in fragment_unmarked sees rs marks see g t.0 (no_mark g.file t.1)

      cover_unseen : IsCover x c → IsCover (together us rs) c
      cover_unseen is = record {
        closed = record { of_operations = is.closed.of_operations; of_fragments = is.closed.of_fragments };
        exact = λ f.
            let u = alike w.operations w.fragments operation_here fragment_here f in (
              (λ h. let t = (is.exact f).0 h in (t.0, t.1, u.0 t.2)),
              (λ h. (is.exact f).1 (h.0, h.1, u.1 h.2)),
            );
      }

    pub covers_unseen : (covers : List Cover) → AreCovers (together es rs) covers →
        AreCovers (together us rs) (filter (λ (c : Cover). not (list_any (λ n. slice_index_or marks n false) c.files.items)) covers)
    covers_unseen covers are c stands =
        let t = from_filter (λ (d : Cover). not (list_any (λ n. slice_index_or marks n false) d.files.items)) covers c stands in
        cover_unseen c (not_true (list_any (λ n. slice_index_or marks n false) c.files.items) t.1) (are c t.0)
