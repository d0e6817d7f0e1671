-- Where a file has no mark, no fragment of the new file is spread in it; and none is spread in a closed set without the file
-- whose names it keeps.
use Rattle.std.proofs.Common.{◌≡◌, ℕ, zero, suc, Bool, true, false, List, [], ◌∷◌, Some, Contains, map, set, slice_get, slice_index_or, ◌<◌, length, refl, sym, ap, ◌∙◌, subst, arith}
use Rattle.std.specs.List.{list_any}
use Rattle.std.specs.Str.{bytes_eq}
use Rattle.gq_text.specs.declared.place.Span.{Span}
use Rattle.gq_tree.specs.Plain.{NameOf, Def, operation, fragment, type_system}
use Rattle.gq_tree.specs.Readings.{ParsedOf, definitions_read}
use Rattle.gq_types.specs.Entries.{Text, EntryOf}
use Rattle.gq_types.proofs.Gathered.{first, from_flat, from_map, nothing_in, only, to_flat}
use Rattle.gq_document.specs.Definitions.{OperationOf, FragmentOf, operation_in, fragment_in}
use Rattle.gq_rules.specs.Files.{together}
use Rattle.gq_by_file.proofs.OneFile.Numbers.{to_documents}
use Rattle.gq_by_file.specs.Closed.Closed.{IsClosed}
use Rattle.gq_by_file.specs.Closed.Laws.{AreNotSpread, spreads_in, spreads_read}
use Rattle.gq_by_file.specs.declared.names.FileNames.{FileNames}
use Rattle.gq_by_file.specs.Names.{AreNames, AreNamesIn, fragment_names_in, fragments_read}
use Rattle.gq_by_file.specs.Helping.Covers.{has_one_of}
use Rattle.gq_by_file.proofs.CoverLemmas.{any_of}
use Rattle.gq_by_file.proofs.LinkLemmas.{name_of_fragment, same_bytes, text_in}
use Rattle.gq_by_file.proofs.NameLemmas.{names_there, reading_there}

-- a mark that is set
set_here : (marks : List Bool) (at n : ℕ) → slice_index_or (set marks at true) n false ≡ false → slice_index_or marks n false ≡ false
set_here [] at n e = e
set_here (m ∷ marks) zero zero e = absurd (cc)
set_here (m ∷ marks) zero (suc n) e = e
set_here (m ∷ marks) (suc at) zero e = e
set_here (m ∷ marks) (suc at) (suc n) e = set_here marks at n e

pub set_there : (marks : List Bool) (at : ℕ) → at < length marks → slice_index_or (set marks at true) at false ≡ true
set_there [] at h = absurd (omega (arith, h))
set_there (m ∷ marks) zero h = refl
set_there (m ∷ marks) (suc at) h = set_there marks at (omega (arith, h))

mark_of : (p : FileNames → Bool) (names : List FileNames) (n : ℕ) (one : FileNames) → slice_get names n ≡ Some one → slice_index_or (map p names) n false ≡ p one
mark_of p [] n one e = absurd (cc)
mark_of p (x ∷ names) zero one e = let same : x ≡ one = cc in ap p same
mark_of p (x ∷ names) (suc n) one e = mark_of p names n one e

module _ (rs : List ParsedOf) (names : List FileNames) (are : AreNames rs names) (r : ParsedOf) (new : FileNames) (is : AreNamesIn r new) where
  abbrev marks : List Bool
  marks = map (λ (one : FileNames). has_one_of new.fragments.items one.spreads.items) names

  pub not_spread : (n : ℕ) → slice_index_or marks n false ≡ false → AreNotSpread rs (n ∷ []) r
  not_spread n clean k q inside read name stands g defined same =
      let here : k ≡ n = only n k inside in
      let t = names_there k q read are in
      let spread : Contains t.0.spreads.items name.text = subst (λ (ts : List Text). Contains ts name.text) (sym t.2.spreads) (text_in (spreads_read q) name stands) in
      let there : Contains new.fragments.items g.name.text = subst (λ (ts : List Text). Contains ts g.name.text) (sym is.fragments) (name_of_fragment 0 r g defined) in
      let one : list_any (bytes_eq name.text) new.fragments.items ≡ true = any_of (bytes_eq name.text) new.fragments.items g.name.text there (same_bytes name.text g.name.text same) in
      let found : has_one_of new.fragments.items t.0.spreads.items ≡ true = any_of (λ (text : Text). list_any (bytes_eq text) new.fragments.items) t.0.spreads.items name.text spread one in
      let marked : slice_index_or marks k false ≡ has_one_of new.fragments.items t.0.spreads.items =
      mark_of (λ (one : FileNames). has_one_of new.fragments.items one.spreads.items) names k t.0 t.1 in
      let at_k : slice_index_or marks k false ≡ false = subst (λ z. slice_index_or marks z false ≡ false) (sym here) clean in
      absurd (let e = sym at_k ∙ marked ∙ found in cc)

  -- nor is one where another mark was set
  pub not_spread_elsewhere : (at n : ℕ) → slice_index_or (set marks at true) n false ≡ false → AreNotSpread rs (n ∷ []) r
  not_spread_elsewhere at n clean = not_spread n (set_here marks at n clean)

-- a closed set of files
module _ (es : List EntryOf) (rs : List ParsedOf) (files : List ℕ) (closed : IsClosed files (together es rs)) where
  -- the fragment that a name is of
  fragment_of : (at : ℕ) (p : ParsedOf) → slice_get rs at ≡ Some p → (name : NameOf Span) (d : Def Span) → Contains (definitions_read p) d → Contains (fragment_names_in d) name →
      (f : FragmentOf) × Contains (together es rs).fragments f × (f.file ≡ at) × (f.name ≡ name)
  fragment_of at p there name (operation kind own variables directives set braces place) c s = nothing_in name s
  fragment_of at p there name (fragment own on directives set braces place) c s =
      let d : Def Span = fragment own on directives set braces place in
      let f : FragmentOf = record { file = at; name = own; on = on; directives = directives; set = set; braces = braces; place = place } in
      (f, to_documents fragment_in rs at p f there (to_flat (fragment_in at) (definitions_read p) d f c (first f f [] refl)), refl, sym (only own name s))
  fragment_of at p there name (type_system definition) c s = nothing_in name s

  -- what is spread in the set stands in it
  stays_in : (n : ℕ) (q : ParsedOf) → Contains files n → slice_get rs n ≡ Some q → (name : NameOf Span) (d : Def Span) → Contains (definitions_read q) d → Contains (spreads_in d) name →
      (f : FragmentOf) → Contains (together es rs).fragments f → name.text ≡ f.name.text → Contains files f.file
  stays_in n q inside there name (operation kind own variables directives set braces place) c s f stands same =
      let d : Def Span = operation kind own variables directives set braces place in
      let o : OperationOf = record { file = n; kind = kind; name = own; variables = variables; directives = directives; set = set; braces = braces; place = place } in
      closed.of_operations o (to_documents operation_in rs n q o there (to_flat (operation_in n) (definitions_read q) d o c (first o o [] refl))) inside f stands (record { name = name; stands = s; names = same })
  stays_in n q inside there name (fragment own on directives set braces place) c s f stands same =
      let d : Def Span = fragment own on directives set braces place in
      let g : FragmentOf = record { file = n; name = own; on = on; directives = directives; set = set; braces = braces; place = place } in
      closed.of_fragments g (to_documents fragment_in rs n q g there (to_flat (fragment_in n) (definitions_read q) d g c (first g g [] refl))) inside f stands (record { name = name; stands = s; names = same })
  stays_in n q inside there name (type_system definition) c s f stands same = nothing_in name s

  module _ (names : List FileNames) (are : AreNames rs names) (at : ℕ) (outside : Contains files at → ⊥) (one : FileNames) (there : slice_get names at ≡ Some one) where
    not_outside : (text : Text) → Contains one.fragments.items text → (n : ℕ) (q : ParsedOf) → Contains files n → slice_get rs n ≡ Some q → (name : NameOf Span) → Contains (spreads_read q) name → name.text ≡ text → ⊥
    not_outside text defined n q inside read name spread same =
        let p = reading_there at one there are in
        let own = from_map (λ (z : NameOf Span). z.text) (fragments_read p.0) text (subst (λ (ts : List Text). Contains ts text) p.2.fragments defined) in
        let d = from_flat fragment_names_in (definitions_read p.0) own.0 own.1 in
        let f = fragment_of at p.0 p.1 own.0 d.0 d.1 d.2 in
        let e = from_flat spreads_in (definitions_read q) name spread in
        let named : name.text ≡ f.0.name.text = same ∙ sym own.2 ∙ ap (λ (z : NameOf Span). z.text) (sym f.3) in
        outside (subst (λ m. Contains files m) f.2 (stays_in n q inside read name e.0 e.1 e.2 f.0 f.1 named))

    pub same_not_spread : (r : ParsedOf) → AreNamesIn r one → AreNotSpread rs files r
    same_not_spread r is n q inside read name spread g defined same =
        not_outside g.name.text (subst (λ (ts : List Text). Contains ts g.name.text) (sym is.fragments) (name_of_fragment 0 r g defined)) n q inside read name spread same
