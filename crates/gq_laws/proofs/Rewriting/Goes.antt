-- The definition of a fragment that goes with its last spread.
use Rattle.std.proofs.Common.{◌≡◌, ◌↔◌, inl, inr, ℕ, ◌+◌, ◌≤◌, Bool, true, false, List, [], ◌∷◌, Option, Some, Contains, slice_get, refl, sym, ap, ◌∙◌, subst, arith, nat_eq}
use Rattle.std.specs.Prelude.{◌&&◌, ◌==◌, not}
use Rattle.std.specs.List.{enumerate_from}
use Rattle.std.proofs.lemmas.Bool.Decides.{nat_tests}
use Rattle.gq_text.specs.declared.place.Span.{Span}
use Rattle.gq_tree.specs.declared.tree.OperationKind.{OperationKind}
use Rattle.gq_tree.specs.Forest as forest
use Rattle.gq_tree.specs.Plain as tree
use Rattle.gq_tree.specs.Plain.{Sels, Def, operation, fragment, type_system}
use Rattle.gq_types.proofs.Gathered.{first, to_flat}
use Rattle.gq_types.specs.Entries.{Text}
use Rattle.gq_tree.specs.Readings.{ParsedOf, definitions_read, in_document}
use Rattle.gq_document.specs.Definitions.{FragmentOf, fragment_in, fragments_of}
use Rattle.gq_meaning.specs.Selected.{set_of}
use Rattle.gq_meaning.specs.Acyclic.{SpreadsBelow}
use Rattle.gq_meaning.specs.Thin.{IsIn}
use Rattle.gq_rewritten.specs.Rewrites.{head_place, same_place, executable_place, is_kept, DefinitionPlace}
use Rattle.gq_laws.specs.Rewriting.KnownBefore.{Each}
use Rattle.gq_laws.specs.Rewriting.Places.{HoldsNone, AreNested, AreInPlace}
use Rattle.gq_laws.specs.Rewriting.Documents.{EachFrom}
use Rattle.gq_laws.specs.Rewriting.Edits.{HasDocument, SpreadAt, inlining, IsNamed, GoesAs, IsSpreadOther}
use Rattle.gq_laws.proofs.Rewriting.Once.{parts}
use Rattle.gq_laws.proofs.Rewriting.Located.{same_start}
use Rattle.gq_laws.proofs.Rewriting.Executables.{trees_read, fragment_def, fragment_stands, contains, read_as, in_numbers, each_at}

-- where a definition begins
place_low : (roots : OperationKind → Text) (from : ℕ) (tree : List (Def Span)) → AreInPlace from tree → (d : Def Span) → IsIn d tree → (p : Span) → executable_place d ≡ Some p → from ≤ p.start
place_low roots from [] all d m p e = absurd m
place_low roots from (x ∷ tree) all d (inl q) p e = ((parts roots from x tree all).begins p (ap executable_place (sym q) ∙ e)).0
place_low roots from (x ∷ tree) all d (inr m) p e =
    let i = parts roots from x tree all in let low = place_low roots i.next tree i.rest d m p e in let rises = i.rises in omega (arith, low, rises)

-- Two definitions that begin at one place are one.
pub same_definition : (roots : OperationKind → Text) (from : ℕ) (tree : List (Def Span)) → AreInPlace from tree → (d d' : Def Span) → IsIn d tree → IsIn d' tree → (p q : Span) → executable_place d ≡ Some p → executable_place d' ≡ Some q → p.start ≡ q.start → d ≡ d'
same_definition roots from [] all d d' m m' p q e e' same = absurd m
same_definition roots from (x ∷ tree) all d d' (inl a) (inl b) p q e e' same = a ∙ sym b
same_definition roots from (x ∷ tree) all d d' (inl a) (inr b) p q e e' same =
    let i = parts roots from x tree all in
    let high = (i.begins p (ap executable_place (sym a) ∙ e)).1 in
    let low = place_low roots i.next tree i.rest d' b q e' in
    absurd (omega (arith, same, high, low))
same_definition roots from (x ∷ tree) all d d' (inr a) (inl b) p q e e' same =
    let i = parts roots from x tree all in
    let high = (i.begins q (ap executable_place (sym b) ∙ e')).1 in
    let low = place_low roots i.next tree i.rest d a p e in
    absurd (omega (arith, same, high, low))
same_definition roots from (x ∷ tree) all d d' (inr a) (inr b) p q e e' same =
    let i = parts roots from x tree all in same_definition roots i.next tree i.rest d d' a b p q e e' same

place_itself : (p : Span) → same_place p p ≡ true
place_itself p = by p.start p.end
  where
    by : (m n : ℕ) → (m == m && n == n) ≡ true
    by m n = grind (arith, nat_tests)

number_itself : (k : ℕ) → nat_eq k k ≡ true
number_itself k = grind (arith, nat_tests)

-- what does not stay stands in that document at that place
goes_there : (b c : Bool) → not (b && c) ≡ false → (b ≡ true) × (c ≡ true)
goes_there true true e = (refl, refl)
goes_there true false e = cc
goes_there false c e = cc

same_number : (m n : ℕ) → nat_eq m n ≡ true → m ≡ n
same_number m n e = grind (arith, nat_tests)

module _ (readings : List ParsedOf) (roots : OperationKind → Text) (f : FragmentOf) (stands : Contains (fragments_of readings) f) (document : HasDocument (trees_read readings) f.file)
    (unique : (g : FragmentOf) → Contains (fragments_of readings) g → g.name.text ≡ f.name.text → g ≡ f) where
  abbrev dropped : Option DefinitionPlace
  dropped = Some (record { file = f.file; place = f.place })

  abbrev name_gone : Option Text
  name_gone = Some f.name.text

  there : IsIn (fragment_def f) document.tree
  there =
      let s = fragment_stands readings f stands in
      let same : s.tree ≡ document.tree = let e : Some document.tree ≡ Some s.tree = sym document.is_tree ∙ s.is_tree in cc in
      subst (IsIn (fragment_def f)) same s.stands

  -- what stands at the place of the fragment is the fragment
  is_fragment : (k : ℕ) (tree : List (Def Span)) (d : Def Span) → slice_get (trees_read readings) k ≡ Some tree → IsIn d tree → (p : Span) → executable_place d ≡ Some p → nat_eq f.file k ≡ true → same_place f.place p ≡ true → fragment_def f ≡ d
  is_fragment k tree d e m p q n s =
      let number : f.file ≡ k = same_number f.file k n in
      let same : tree ≡ document.tree = let x : Some document.tree ≡ Some tree = sym document.is_tree ∙ ap (slice_get (trees_read readings)) number ∙ e in cc in
      same_definition roots 0 document.tree document.in_place (fragment_def f) d there (subst (IsIn d) same m) f.place p refl q (same_start f.place p s)

  leaves : (k : ℕ) (tree : List (Def Span)) (d : Def Span) → slice_get (trees_read readings) k ≡ Some tree → IsIn d tree → is_kept dropped k d ≡ false → IsNamed name_gone d
  leaves k tree (operation kind name variables directives set braces place) e m h =
      let g = goes_there (nat_eq f.file k) (same_place f.place place) h in
      let same = is_fragment k tree (operation kind name variables directives set braces place) e m place refl g.0 g.1 in cc
  leaves k tree (fragment name on directives set braces place) e m h =
      let g = goes_there (nat_eq f.file k) (same_place f.place place) h in
      let same = is_fragment k tree (fragment name on directives set braces place) e m place refl g.0 g.1 in
      let named : f.name ≡ name = cc in ap (λ z. Some z.text) named
  leaves k tree (type_system definition) e m h = let q : not (nat_eq f.file k && false) ≡ false = h in absurd (no_more (nat_eq f.file k) q)
    where
      no_more : (b : Bool) → not (b && false) ≡ false → ⊥
      no_more true q = cc
      no_more false q = cc

  comes_back : (k : ℕ) (tree : List (Def Span)) (d : Def Span) → slice_get (trees_read readings) k ≡ Some tree → IsIn d tree → IsNamed name_gone d → is_kept dropped k d ≡ false
  comes_back k tree (operation kind name variables directives set braces place) e m h = absurd h
  comes_back k tree (fragment name on directives set braces place) e m h =
      let r = read_as readings k tree e in
      let g : FragmentOf = record { file = 0 + k; name = name; on = on; directives = directives; set = set; braces = braces; place = place } in
      let c = to_flat (λ (x : ℕ × ParsedOf). in_document fragment_in x.0 x.1) (enumerate_from 0 readings) (0 + k, r.reading) g (in_numbers 0 readings k r.reading r.there)
      (to_flat (fragment_in (0 + k)) (definitions_read r.reading) (fragment name on directives set braces place) g
      (contains (fragment name on directives set braces place) (definitions_read r.reading) (subst (IsIn (fragment name on directives set braces place)) (sym r.is) m)) (first g g [] refl)) in
      let named : name.text ≡ f.name.text = cc in
      let same = unique g c named in
      let number : f.file ≡ k = let z : 0 + k ≡ f.file = ap (λ x. x.file) same in omega (arith, z) in
      let at : f.place ≡ place = sym (ap (λ x. x.place) same) in
      subst (λ p. not (nat_eq f.file k && same_place f.place p) ≡ false) at
      (subst (λ n. not (nat_eq f.file n && same_place f.place f.place) ≡ false) number
      (ap (λ b. not (b && same_place f.place f.place)) (number_itself f.file) ∙ ap (λ b. not b) (place_itself f.place)))
  comes_back k tree (type_system definition) e m h = absurd h

  -- The fragment is what goes, and it alone has its name.
  pub goes : (at : SpreadAt) → at.dropped ≡ dropped → EachFrom (GoesAs (inlining at) name_gone) 0 (trees_read readings)
  goes at e =
      each_at readings (GoesAs (inlining at) name_gone) 0 (trees_read readings) (λ k tree d t m.
      let number : k ≡ 0 + k = omega arith in
      subst (λ n. GoesAs (inlining at) name_gone n d) number
      (subst (λ z. (is_kept z k d ≡ false) ↔ IsNamed name_gone d) (sym e) (leaves k tree d t m, comes_back k tree d t m)))

-- In a fragment that is ranked above what it spreads, no spread is of it.
pub ranked_other : (rank : Text → ℕ) (f : Text) (from to : ℕ) (set : Sels Span) → SpreadsBelow rank (rank f) (set_of set) → AreNested from to set → Each (IsSpreadOther (Some f)) set
ranked_other rank f from to forest.none low nested = tt
ranked_other rank f from to (forest.more h b r) low nested = by h low nested.5 (λ k. ranked_other rank f ((head_place h).start + 1) (head_place h).end b k nested.3) (λ k. ranked_other rank f (head_place h).end to r k nested.4)
  where
    by : (head : tree.Head Span) → SpreadsBelow rank (rank f) (set_of (forest.more head b r)) → HoldsNone head b → (SpreadsBelow rank (rank f) (set_of b) → Each (IsSpreadOther (Some f)) b) → (SpreadsBelow rank (rank f) (set_of r) → Each (IsSpreadOther (Some f)) r) →
        Each (IsSpreadOther (Some f)) (forest.more head b r)
    by (tree.field alias name arguments directives braces place) k holds below rest = (tt, below k.0, rest k.1)
    by (tree.spread name directives place) k holds below rest =
        ((λ q. let same : f ≡ name.text = cc in let l = k.0 in let e : rank f ≡ rank name.text = ap rank same in omega (arith, l, e)), subst (Each (IsSpreadOther (Some f))) (sym holds) tt, rest k.1)
    by (tree.inline on directives braces place) k holds below rest = (tt, below k.0, rest k.1)
