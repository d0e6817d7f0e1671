-- Selections that stand in one document of a project, extracted, inlined or opened.
use Rattle.std.proofs.Common.{◌≡◌, ◌⊎◌, inl, inr, ℕ, zero, suc, ◌+◌, ◌<◌, Bool, true, false, List, [], ◌∷◌, Option, Some, None, length, slice_get, refl, sym, ap, ◌∙◌, subst, arith, nat_eq}
use Rattle.std.specs.Prelude.{◌&&◌, ◌==◌}
use Rattle.std.specs.List.{AllByRecursion}
use Rattle.std.proofs.lemmas.Bool.Decides.{nat_tests}
use Rattle.gq_text.specs.declared.place.Span.{Span}
use Rattle.gq_tree.specs.declared.tree.OperationKind.{OperationKind}
use Rattle.gq_tree.specs.Forest.{none, more}
use Rattle.gq_tree.specs.Plain as tree
use Rattle.gq_tree.specs.Plain.{Head, Sel, Sels, Def, operation, fragment, type_system}
use Rattle.gq_meaning.specs.Values.{Text}
use Rattle.gq_meaning.specs.Selected.{set_of}
use Rattle.gq_meaning.specs.Selected as selected
use Rattle.gq_meaning.specs.Expand.{Definition}
use Rattle.gq_meaning.specs.Thin.{IsIn}
use Rattle.gq_meaning.specs.Rewritten.{Static}
use Rattle.gq_rewritten.specs.Rewrites.{head_place, same_place}
use Rattle.gq_laws.specs.Rewriting.KnownBefore.{Each, IsTyped, type_below, EndsSet, ends_here, ends_within, ends_after, SaysNothing}
use Rattle.gq_laws.specs.Rewriting.Places.{HoldsNone, AreNested, AreInPlace}
use Rattle.gq_laws.specs.Rewriting.Documents.{definitions_of, EachFrom, OfSet, IsSetOf, of_operation, of_fragment, EndsSetIn, IsSpreadDefined, AreSound}
use Rattle.gq_laws.specs.Rewriting.Edits.{RunAt, CanExtract, SpreadAt, IsSpreadOther, IsLastSpread, CanInline, CanRemove, ExtractRestates, InlineRestates, RemoveRestates}
use Rattle.gq_laws.proofs.Rewriting.Conditions.{IsInlinable, OnlyNothingAt, MayExtract, IsInlinedOrOther, MayInline, MayRemove}
use Rattle.gq_laws.proofs.Rewriting.Sets.{nothing_in, typed_after, each_map as deep_map}
use Rattle.gq_laws.proofs.Rewriting.Each.{all_map, each_two, deep_two}
use Rattle.gq_laws.proofs.Rewriting.Once.{IsSame, parts, same_selection, run_in}
use Rattle.gq_laws.proofs.Rewriting.Edits.{extracts, removes, inlines}

-- a document by its number
pub number_below : {A : Type 0} (xs : List A) (k : ℕ) (x : A) → slice_get xs k ≡ Some x → k < length xs
number_below [] k x e = cc
number_below (y ∷ ys) zero x e = omega arith
number_below (y ∷ ys) (suc k) x e = let i = number_below ys k x e in omega (arith, i)

pub number_in : {A : Type 0} (xs : List A) (k : ℕ) (x : A) → slice_get xs k ≡ Some x → IsIn x xs
number_in [] k x e = cc
number_in (y ∷ ys) zero x e = inl cc
number_in (y ∷ ys) (suc k) x e = inr (number_in ys k x e)

-- what is so of each definition
all_in : {D : Type 0} (IsSo : D → Type 0) (ds : List D) → AllByRecursion IsSo ds → (d : D) → IsIn d ds → IsSo d
all_in IsSo [] all d m = absurd m
all_in IsSo (x ∷ ds) all d (inl e) = subst IsSo (sym e) all.0
all_in IsSo (x ∷ ds) all d (inr m) = all_in IsSo ds all.1 d m

pub each_in : {D : Type 0} (IsSo : D → Type 0) (file : ℕ) (trees : List (List D)) → EachFrom (λ k. IsSo) file trees → (tree : List D) → IsIn tree trees → (d : D) → IsIn d tree → IsSo d
each_in IsSo file [] all tree m d n = absurd m
each_in IsSo file (x ∷ trees) all tree (inl e) d n = all_in IsSo x all.0 d (subst (IsIn d) e n)
each_in IsSo file (x ∷ trees) all tree (inr m) d n = each_in IsSo (suc file) trees all.1 tree m d n

pub in_all : {D : Type 0} (IsSo : D → Type 0) (ds : List D) → ((d : D) → IsIn d ds → IsSo d) → AllByRecursion IsSo ds
in_all IsSo [] h = tt
in_all IsSo (d ∷ ds) h = (h d (inl refl), in_all IsSo ds (λ x m. h x (inr m)))

not_before : {D : Type 0} (IsSo : D → Type 0) (n file : ℕ) (trees : List (List D)) → n < file → EachFrom (λ k d. nat_eq n k ≡ true → IsSo d) file trees
not_before IsSo n file [] l = tt
not_before IsSo n file (tree ∷ trees) l =
    let other : nat_eq n file ≡ false = grind (arith, nat_tests) in
    (in_all (λ d. nat_eq n file ≡ true → IsSo d) tree (λ d m e. cc), not_before IsSo n (suc file) trees (omega (arith, l)))

-- what is so in one document
pub only_in : {D : Type 0} (IsSo : D → Type 0) (n file : ℕ) (trees : List (List D)) (k : ℕ) (tree : List D) → n ≡ file + k → slice_get trees k ≡ Some tree → AllByRecursion IsSo tree → EachFrom (λ j d. nat_eq n j ≡ true → IsSo d) file trees
only_in IsSo n file [] k tree q e all = tt
only_in IsSo n file (x ∷ trees) zero tree q e all =
    let same : x ≡ tree = cc in
    (all_map IsSo (λ d. nat_eq n file ≡ true → IsSo d) (λ d h t. h) x (subst (AllByRecursion IsSo) (sym same) all), not_before IsSo n (suc file) trees (omega (arith, q)))
only_in IsSo n file (x ∷ trees) (suc k) tree q e all =
    let other : nat_eq n file ≡ false = grind (arith, nat_tests) in
    (in_all (λ d. nat_eq n file ≡ true → IsSo d) x (λ d m t. cc), only_in IsSo n (suc file) trees k tree (omega (arith, q)) e all)

-- the set of a definition
pub set_at : (roots : OperationKind → Text) (IsSo : Text → Sels Span → Type 0) (d : Def Span) {t : Text} {set : Sels Span} → IsSetOf roots d t set → OfSet roots IsSo d → IsSo t set
set_at roots IsSo d of_operation h = h
set_at roots IsSo d of_fragment h = h

pub at_set : (roots : OperationKind → Text) (IsSo : Text → Sels Span → Type 0) (d : Def Span) → ((t : Text) (set : Sels Span) → IsSetOf roots d t set → IsSo t set) → OfSet roots IsSo d
at_set roots IsSo (operation kind name variables directives set braces place) h = h (roots kind) set of_operation
at_set roots IsSo (fragment name on directives set braces place) h = h on.text set of_fragment
at_set roots IsSo (type_system definition) h = tt

-- places
pub same_start : (a b : Span) → same_place a b ≡ true → a.start ≡ b.start
same_start a b e = starts a.start b.start a.end b.end e
  where
    starts : (m n i j : ℕ) → (m == n && i == j) ≡ true → m ≡ n
    starts m n i j e = grind (arith, nat_tests)

-- All labels, from the ends of sets.
each_from_ends : (static : Static) (IsSo : Head Span → Type 0) (t : Text) (from to : ℕ) (sels : Sels Span) → IsTyped static t (set_of sels) → AreNested from to sels →
    ((u : Text) (h : Head Span) (b r : Sels Span) → EndsSet static t sels u (more h b r) → IsSo h) → Each IsSo sels
each_from_ends static IsSo t from to none typed nested all = tt
each_from_ends static IsSo t from to (more h b r) typed nested all = (
  all t h b r ends_here,
  below h typed nested.5 (λ c i k. each_from_ends static IsSo c ((head_place h).start + 1) (head_place h).end b k nested.3 (λ u head b' r' e. all u head b' r' (ends_within i e))),
  each_from_ends static IsSo t (head_place h).end to r (typed_after static t h b r typed) nested.4 (λ u head b' r' e. all u head b' r' (ends_after e)),
)
  where
    nothing : b ≡ none → Each IsSo b
    nothing e = subst (Each IsSo) (sym e) tt

    below : (head : Head Span) → IsTyped static t (set_of (more head b r)) → HoldsNone head b → ((c : Text) → type_below static t head ≡ Some c → IsTyped static c (set_of b) → Each IsSo b) → Each IsSo b
    below (tree.field alias name arguments directives braces place) k holds next = by k.0
      where
        by : (set_of b ≡ selected.none) ⊎ ((c : Text) × (static t name.text ≡ Some c) × IsTyped static c (set_of b)) → Each IsSo b
        by (inl e) = nothing (nothing_in b e)
        by (inr q) = next q.0 q.1 q.2
    below (tree.spread name directives place) k holds next = nothing holds
    below (tree.inline None directives braces place) k holds next = next t refl k.0
    below (tree.inline (Some on) directives braces place) k holds next = next on.text refl k.0

-- the bounds of a set
pub record Bounds (set : Sels Span) : Type 0 where
  pub from : ℕ
  pub to : ℕ
  pub nested : AreNested from to set

pub bounds : (roots : OperationKind → Text) (from : ℕ) (tree : List (Def Span)) → AreInPlace from tree → (d : Def Span) → IsIn d tree → {t : Text} {set : Sels Span} → IsSetOf roots d t set → Bounds set
bounds roots from [] all d m is_set = absurd m
bounds roots from (x ∷ tree) all d (inl e) {t} {set} is_set =
    let p = parts roots from x tree all in record { from = from; to = p.next; nested = p.own t set (subst (λ z. IsSetOf roots z t set) e is_set) }
bounds roots from (x ∷ tree) all d (inr m) is_set = let p = parts roots from x tree all in bounds roots p.next tree p.rest d m is_set

module _ (static : Static) (roots : OperationKind → Text) (trees : List (List (Def Span))) where
  -- each selection of a document that begins where a given one does is that one
  module _ (tree : List (Def Span)) (in_place : AreInPlace 0 tree) {parent : Text} {head : Head Span} {below rest : Sels Span} (ends : EndsSetIn static roots tree parent (more head below rest)) (place : Span) (at : head_place head ≡ place) where
    is_it : (d : Def Span) → IsIn d tree → (t : Text) (set : Sels Span) → IsSetOf roots d t set → (u : Text) (h : Head Span) (b r : Sels Span) → EndsSet static t set u (more h b r) → same_place (head_place h) place ≡ true → IsSame parent u head h below b
    is_it d m t set is_set u h b r e same =
        same_selection static roots 0 tree in_place ends (record { definition = d; stands = m; root = t; set = set; is_set = is_set; ends = e })
        (ap (λ z. z.start) at ∙ sym (same_start (head_place h) place same))

    pub only_nothing : SaysNothing parent head → AllByRecursion (OfSet roots (OnlyNothingAt static place)) tree
    only_nothing says = in_all (OfSet roots (OnlyNothingAt static place)) tree (λ d m. at_set roots (OnlyNothingAt static place) d (λ t set is_set u h b r e same.
        let i = is_it d m t set is_set u h b r e same in subst (λ z. SaysNothing z h) i.type_name (subst (SaysNothing parent) i.head says)))

    pub only_such : (IsSo : Head Span → Type 0) → IsSo head → ((d : Def Span) → IsIn d tree → OfSet roots (λ t set. IsTyped static t (set_of set)) d) → AllByRecursion (OfSet roots (λ t set. Each (λ h. same_place (head_place h) place ≡ true → IsSo h) set)) tree
    only_such IsSo so typed = in_all (OfSet roots (λ t set. Each (λ h. same_place (head_place h) place ≡ true → IsSo h) set)) tree (λ d m. at_set roots (λ t set. Each (λ h. same_place (head_place h) place ≡ true → IsSo h) set) d (λ t set is_set.
        let b = bounds roots 0 tree in_place d m is_set in
        each_from_ends static (λ h. same_place (head_place h) place ≡ true → IsSo h) t b.from b.to set (set_at roots (λ t set. IsTyped static t (set_of set)) d is_set (typed d m)) b.nested
        (λ u h b r e same. let i = is_it d m t set is_set u h b r e same in subst IsSo i.head so)))

  can_extract : (e : RunAt) → CanExtract static roots trees e → MayExtract static roots trees e
  can_extract e can =
      let fits = run_in static roots e.start e.end e.on e.run can.first can.last 0 can.document.tree can.document.in_place can.others can.ends in
      record {
        in_range = number_below trees e.file can.document.tree can.document.is_tree;
        is_some = fits.is_some;
        first = can.first;
        last = can.last;
        free = can.free;
        stands = only_in _ e.file 0 trees e.file can.document.tree (omega arith) can.document.is_tree fits.fit;
      }

  can_remove : (file : ℕ) (place : Span) → CanRemove static roots trees file place → MayRemove static roots trees file place
  can_remove file place can =
      only_in _ file 0 trees file can.document.tree (omega arith) can.document.is_tree (only_nothing can.document.tree can.document.in_place can.ends place can.at can.says)

  abbrev before : List Definition
  before = definitions_of trees

  -- a spread of what goes is the one at the place
  elsewhere : (old : Option Text) (s : SpreadAt) (k : ℕ) (h : Head Span) → IsLastSpread old s k h → (nat_eq s.file k && same_place (head_place h) s.place) ≡ false → IsSpreadOther old h
  elsewhere old s k (tree.field alias name arguments directives braces place) last e = tt
  elsewhere old s k (tree.spread name directives place) last e = λ q. let there = last q in cc
  elsewhere old s k (tree.inline on directives braces place) last e = tt

  both_parts : (a b : Bool) → (a && b) ≡ true → (a ≡ true) × (b ≡ true)
  both_parts true b e = (refl, e)
  both_parts false b e = cc

  abbrev InIt : SpreadAt → Head Span → Type 0
  InIt s h = same_place (head_place h) s.place ≡ true → IsInlinable before s.on s.set h

  in_set : (old : Option Text) (s : SpreadAt) (k : ℕ) (set : Sels Span) → Each (IsLastSpread old s k) set → (nat_eq s.file k ≡ true → Each (InIt s) set) → Each (IsInlinedOrOther before old s k) set
  in_set old s k set last here = by (nat_eq s.file k) refl
    where
      by : (b : Bool) → nat_eq s.file k ≡ b → Each (IsInlinedOrOther before old s k) set
      by true e = deep_two (IsLastSpread old s k) (InIt s) (IsInlinedOrOther before old s k) (λ h l i. record { at_place = λ q. i (both_parts (nat_eq s.file k) (same_place (head_place h) s.place) q).1; elsewhere = elsewhere old s k h l }) set last (here e)
      by false e = deep_map (IsLastSpread old s k) (IsInlinedOrOther before old s k)
          (λ h l. record { at_place = λ q. let t = (both_parts (nat_eq s.file k) (same_place (head_place h) s.place) q).0 in cc; elsewhere = elsewhere old s k h l }) set last

  can_inline : (old : Option Text) (s : SpreadAt) → AreSound static roots trees → CanInline static roots trees old s → MayInline static roots trees old s
  can_inline old s sound can = record {
    goes = can.goes;
    typed = set_at roots (λ t set. IsTyped static t (set_of set)) can.definition can.is_set (each_in (OfSet roots (λ t set. IsTyped static t (set_of set))) 0 trees sound.typed can.home can.is_home can.definition can.stands);
    defined = set_at roots (λ t set. Each (IsSpreadDefined before) set) can.definition can.is_set (each_in (OfSet roots (λ t set. Each (IsSpreadDefined before) set)) 0 trees sound.defined can.home can.is_home can.definition can.stands);
    other = can.other;
    spreads = each_two (λ k d. OfSet roots (λ t set. Each (IsLastSpread old s k) set) d) (λ k d. nat_eq s.file k ≡ true → OfSet roots (λ t set. Each (InIt s) set) d)
        (λ k d. OfSet roots (λ t set. Each (IsInlinedOrOther before old s k) set) d) in_definition 0 trees can.last
        (only_in _ s.file 0 trees s.file can.document.tree (omega arith) can.document.is_tree
        (only_such can.document.tree can.document.in_place can.ends s.place refl (IsInlinable before s.on s.set) can.is_of
        (each_in (OfSet roots (λ t set. IsTyped static t (set_of set))) 0 trees sound.typed can.document.tree (number_in trees s.file can.document.tree can.document.is_tree))));
  }
    where
      in_definition : (k : ℕ) (d : Def Span) → OfSet roots (λ t set. Each (IsLastSpread old s k) set) d → (nat_eq s.file k ≡ true → OfSet roots (λ t set. Each (InIt s) set) d) → OfSet roots (λ t set. Each (IsInlinedOrOther before old s k) set) d
      in_definition k (operation kind name variables directives set braces place) last here = in_set old s k set last here
      in_definition k (fragment name on directives set braces place) last here = in_set old s k set last here
      in_definition k (type_system definition) last here = tt

pub extract_restates : ExtractRestates
extract_restates static roots trees e sound can = extracts static roots trees sound e (can_extract static roots trees e can)

pub remove_restates : RemoveRestates
remove_restates static roots trees file place sound can = removes static roots trees sound file place (can_remove static roots trees file place can)

pub inline_restates : InlineRestates
inline_restates static roots trees old s sound can = inlines static roots trees sound old s (can_inline static roots trees old s sound can)
