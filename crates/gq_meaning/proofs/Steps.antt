-- The steps of a collection, and how far it has yet to go.
use Rattle.std.proofs.Common.{◌≡◌, inl, inr, ℕ, zero, suc, ◌+◌, ◌*◌, ◌<◌, ◌≤◌, Bool, true, false, List, [], ◌∷◌, ◌++◌, length, get_or, drop, Option, Some, None, refl, sym, ap, ◌∙◌, subst, arith, max, mul-le-mul_right, add-one, drop-cons, map}
use Rattle.std.proofs.Math.ListN.{drop_of_length-le}
use Rattle.std.specs.Prelude.{if◌then◌else◌}
use Rattle.std.specs.List.{list_any}
use Rattle.std.specs.Option.{option_map}
use Rattle.std.specs.Str.{bytes_eq}
use Rattle.gq_text.specs.declared.place.Span.{Span}
use Rattle.gq_tree.specs.declared.tree.Field.{Field}
use Rattle.gq_tree.specs.declared.tree.Spread.{Spread}
use Rattle.gq_tree.specs.declared.tree.InlineFragment.{InlineFragment}
use Rattle.gq_tree.specs.declared.tree.Selection.{Selection}
use Rattle.gq_tree.specs.declared.tree.Selection.TheVariants as variant
use Rattle.gq_tree.specs.declared.tree.Selection.TheViews.{out-Field}
use Rattle.gq_tree.specs.Plain as tree
use Rattle.gq_tree.specs.Views.{name_of, alias_of, argument_view, directive_view, sel_view, below_of}
use Rattle.gq_tree.proofs.Trees.{view_field, view_spread, view_inline}
use Rattle.gq_meaning.specs.Values.{Text}
use Rattle.gq_meaning.specs.Selected.{Directives, Arguments, Set, none, field, spread, inline, bare, key_of, put_before, set_of, join}
use Rattle.gq_meaning.specs.Expand.{Asked, Definition, Setting, fits_condition, find_definition}
use Rattle.gq_meaning.specs.Thin.{IsIn, IsWithin}
use Rattle.gq_meaning.specs.Helping.Gathers.{Gathers, Continues, at_end, field_skipped, field_taken, spread_skipped, spread_again, spread_unknown, spread_apart, spread_entered, inline_skipped, inline_apart, inline_entered}
use Rattle.gq_meaning.specs.Views.{before, set_in}
use Rattle.gq_meaning.proofs.NameLemmas.{in_from_test, test_from_in}
use Rattle.gq_meaning.proofs.ExpandLemmas.{found}
use Rattle.gq_meaning.proofs.ThinLemmas.{in_right, within_refl, within_trans, within_left}

-- one selection of the tree
abbrev before_of : tree.Sel Span → Set → Set
before_of t rest = put_before t.label (set_of t.below) rest

pub field_is : (sel : Selection) (f : Field) (rest : Set) → sel ≡ variant.Field f →
    before sel rest ≡ field (bare (map directive_view (out-Field f).directives.items)) (key_of (alias_of (out-Field f).alias) (name_of (out-Field f).name)) (out-Field f).name.text
    (tree.erase_values (map argument_view (out-Field f).arguments.items)) (set_of (below_of (out-Field f).set)) rest
field_is sel f rest e = ap (λ z. before_of z rest) (ap sel_view e ∙ view_field f)

pub spread_is : (sel : Selection) (f : Spread) (rest : Set) → sel ≡ variant.Spread f → before sel rest ≡ spread (bare (map directive_view f.directives.items)) f.name.text rest
spread_is sel f rest e = ap (λ z. before_of z rest) (ap sel_view e ∙ view_spread f)

pub inline_is : (sel : Selection) (i : InlineFragment) (rest : Set) → sel ≡ variant.Inline i →
    before sel rest ≡ inline (bare (map directive_view i.directives.items)) (option_map (λ n. n.text) (option_map name_of i.on)) (set_in i.set.items.items) rest
inline_is sel i rest e = ap (λ z. before_of z rest) (ap sel_view e ∙ view_inline i)

-- how deep the inline fragments lie
abbrev pub depth : Set → ℕ
depth none = 0
depth (field w k n a set rest) = depth rest
depth (spread w f rest) = depth rest
depth (inline w on set rest) = max (suc (depth set)) (depth rest)

abbrev pub deepest : List Definition → ℕ
deepest [] = 0
deepest (d ∷ ds) = max (depth d.set) (deepest ds)

-- how many definitions have a name that was not visited
abbrev pub unvisited : List Definition → List Text → ℕ
unvisited [] v = 0
unvisited (d ∷ ds) v = (if list_any (bytes_eq d.name) v then 0 else 1) + unvisited ds v

-- how much a collection has yet to go through
abbrev pub way : List Definition → List Text → Set → ℕ
way ds v set = unvisited ds v * suc (deepest ds) + depth set

if_less : (a b : Bool) → (b ≡ true → a ≡ true) → ◌≤◌ (if a then 0 else 1) (if b then 0 else 1)
if_less true true h = omega arith
if_less true false h = omega arith
if_less false true h = absurd (let e : false ≡ true = h refl in cc)
if_less false false h = omega arith

seen_more : (v v' : List Text) (f : Text) → IsWithin v v' → list_any (bytes_eq f) v ≡ true → list_any (bytes_eq f) v' ≡ true
seen_more v v' f w e = test_from_in v' f (w.each f (in_from_test v f e))

pub fewer : (ds : List Definition) (v v' : List Text) → IsWithin v v' → unvisited ds v' ≤ unvisited ds v
fewer [] v v' w = omega arith
fewer (d ∷ ds) v v' w =
    let a = fewer ds v v' w in
    let b = if_less (list_any (bytes_eq d.name) v') (list_any (bytes_eq d.name) v) (seen_more v v' d.name w) in
    omega arith

pub fewer_one : (ds : List Definition) (v v' : List Text) (d : Definition) → IsWithin v v' → IsIn d ds → list_any (bytes_eq d.name) v ≡ false → IsIn d.name v' → unvisited ds v' < unvisited ds v
fewer_one [] v v' d w m n i = absurd m
fewer_one (b ∷ ds) v v' d w (inl e) n i =
    let n' : list_any (bytes_eq b.name) v ≡ false = subst (λ z. list_any (bytes_eq z.name) v ≡ false) e n in
    let t' : list_any (bytes_eq b.name) v' ≡ true = subst (λ z. list_any (bytes_eq z.name) v' ≡ true) e (test_from_in v' d.name i) in
    let a = fewer ds v v' w in
    rw (n', t') (omega arith)
fewer_one (b ∷ ds) v v' d w (inr m) n i =
    let a = fewer_one ds v v' d w m n i in
    let c = if_less (list_any (bytes_eq b.name) v') (list_any (bytes_eq b.name) v) (seen_more v v' b.name w) in
    omega arith

pub depth_in : (ds : List Definition) (d : Definition) → IsIn d ds → depth d.set ≤ deepest ds
depth_in [] d m = absurd m
depth_in (b ∷ ds) d (inl e) = rw e (omega arith)
depth_in (b ∷ ds) d (inr m) = let a = depth_in ds d m in omega arith

pub way_down : (ds : List Definition) (v v' : List Text) (set set' : Set) → IsWithin v v' → depth set' < depth set → way ds v' set' < way ds v set
way_down ds v v' set set' w l =
    let a = mul-le-mul_right (suc (deepest ds)) (fewer ds v v' w) in omega arith

pub way_enter : (ds : List Definition) (v v' : List Text) (d : Definition) (set : Set) → IsWithin v v' → IsIn d ds → list_any (bytes_eq d.name) v ≡ false → IsIn d.name v' → way ds v' d.set < way ds v set
way_enter ds v v' d set w m n i =
    let f = fewer_one ds v v' d w m n i in
    let a = mul-le-mul_right {m = suc (unvisited ds v')} {n = unvisited ds v} (suc (deepest ds)) (omega arith) in
    let b = depth_in ds d m in
    omega arith

pub entering : (ds : List Definition) (v v1 : List Text) (f : Text) (d : Definition) (set set' : Set) → v1 ≡ v ++ f ∷ [] → list_any (bytes_eq f) v ≡ false → find_definition ds f ≡ Some d → set' ≡ d.set → way ds v1 set' < way ds v set
entering ds v v1 f d set set' e n h q =
    let p = found ds f d h in
    let w : IsWithin v v1 = subst (λ z. IsWithin v z) (sym e) (within_left v (f ∷ [])) in
    let i : IsIn d.name v1 = subst (λ z. IsIn d.name z) (sym e) (in_right d.name v (f ∷ []) (inl p.0)) in
    let n' : list_any (bytes_eq d.name) v ≡ false = subst (λ z. list_any (bytes_eq z) v ≡ false) (sym p.0) n in
    subst (λ z. way ds v1 z < way ds v set) (sym q) (way_enter ds v v1 d set w p.1 n' i)

depth_of : (h : tree.Head Span) (inner rest : Set) → ◌≡◌ {A = ℕ} (depth (put_before h inner rest)) (max (depth (put_before h inner none)) (depth rest))
depth_of (tree.field alias name arguments directives braces place) inner rest = omega arith
depth_of (tree.spread name directives place) inner rest = omega arith
depth_of (tree.inline on directives braces place) inner rest = omega arith

-- a selection is no deeper than its set
depth_at : (set : List Selection) (i : ℕ) (sel : Selection) → i < length set → sel ≡ get_or set i sel → depth (before sel none) ≤ depth (set_in set)
depth_at [] i sel l e = absurd (omega arith)
depth_at (x ∷ set) zero sel l e = let a = depth_of (sel_view x).label (set_of (sel_view x).below) (set_in set) in subst (λ z. depth (before z none) ≤ depth (set_in (x ∷ set))) (sym e) (omega arith)
depth_at (x ∷ set) (suc i) sel l e = let a = depth_of (sel_view x).label (set_of (sel_view x).below) (set_in set) in let h = depth_at set i sel (omega arith) e in omega arith

pub way_one : (ds : List Definition) (v v' : List Text) (set : List Selection) (i : ℕ) (sel : Selection) → IsWithin v v' → i < length set → sel ≡ get_or set i sel → way ds v' (before sel none) ≤ way ds v (set_in set)
way_one ds v v' set i sel w l e =
    let a = mul-le-mul_right (suc (deepest ds)) (fewer ds v v' w) in
    let b = depth_at set i sel l e in
    omega arith

pub way_inner : (ds : List Definition) (v : List Text) (sel : Selection) (i : InlineFragment) → sel ≡ variant.Inline i → way ds v (set_in i.set.items.items) < way ds v (before sel none)
way_inner ds v sel i e = subst (λ z. way ds v (set_in i.set.items.items) < way ds v z) (sym (inline_is sel i none e)) (omega arith)

module _ (s : Setting) (ds : List Definition) where
  -- Names that were visited stay so.
  pub gathers_within : {set : Set} {v v' : List Text} {o o' : List Asked} → Gathers s ds set v o v' o' → IsWithin v v'
  gathers_within {set} {v} at_end = within_refl v
  gathers_within (field_skipped t g) = gathers_within g
  gathers_within (field_taken t g) = gathers_within g
  gathers_within (spread_skipped t g) = gathers_within g
  gathers_within (spread_again t i g) = gathers_within g
  gathers_within {set} {v} (spread_unknown {f} t e g) = within_trans (within_left v (f ∷ [])) (gathers_within g)
  gathers_within {set} {v} (spread_apart {f} t e a g) = within_trans (within_left v (f ∷ [])) (gathers_within g)
  gathers_within {set} {v} (spread_entered {f} t e a g k) = within_trans (within_left v (f ∷ [])) (within_trans (gathers_within g) (gathers_within k))
  gathers_within (inline_skipped t g) = gathers_within g
  gathers_within (inline_apart t a g) = gathers_within g
  gathers_within (inline_entered t a g k) = within_trans (gathers_within g) (gathers_within k)

  abbrev Goes : Selection → (v : List Text) (o : List Asked) (v' : List Text) (o' : List Asked) → Type 0
  Goes sel v o v' o' = (rest : Set) → Continues s ds (before sel rest) rest v o v' o'

  at : (whole whole' rest : Set) (v : List Text) (o : List Asked) (v' : List Text) (o' : List Asked) → whole ≡ whole' → Continues s ds whole' rest v o v' o' → Continues s ds whole rest v o v' o'
  at whole whole' rest v o v' o' e c = subst (λ z. Continues s ds z rest v o v' o') (sym e) c

  abbrev Is : Selection → (Set → Set) → Type 0
  Is sel f = (rest : Set) → before sel rest ≡ f rest

  pub field_skips : (sel : Selection) (w : Directives) (k n : Text) (a : Arguments) (set : Set) (v : List Text) (o : List Asked) → Is sel (field w k n a set) → s.takes w ≡ false → Goes sel v o v o
  field_skips sel w k n a set v o e t rest = at _ _ rest v o v o (e rest) (record { within = within_refl v; by = λ v' o' g. field_skipped t g })

  pub field_takes : (sel : Selection) (w : Directives) (k n : Text) (a : Arguments) (set : Set) (v : List Text) (o o' : List Asked) → Is sel (field w k n a set) → s.takes w ≡ true →
      o' ≡ o ++ record { key = k; name = n; arguments = a; set = set } ∷ [] → Goes sel v o v o'
  field_takes sel w k n a set v o o' e t x rest = at _ _ rest v o v o' (e rest) (record { within = within_refl v; by = λ v1 o1 g. field_taken t (subst (λ z. Gathers s ds rest v z v1 o1) x g) })

  pub spread_skips : (sel : Selection) (w : Directives) (f : Text) (v : List Text) (o : List Asked) → Is sel (spread w f) → s.takes w ≡ false → Goes sel v o v o
  spread_skips sel w f v o e t rest = at _ _ rest v o v o (e rest) (record { within = within_refl v; by = λ v' o' g. spread_skipped t g })

  pub spread_repeats : (sel : Selection) (w : Directives) (f : Text) (v : List Text) (o : List Asked) → Is sel (spread w f) → s.takes w ≡ true → list_any (bytes_eq f) v ≡ true → Goes sel v o v o
  spread_repeats sel w f v o e t i rest = at _ _ rest v o v o (e rest) (record { within = within_refl v; by = λ v' o' g. spread_again t (in_from_test v f i) g })

  pub spread_fails : (sel : Selection) (w : Directives) (f : Text) (v v' : List Text) (o : List Asked) → Is sel (spread w f) → s.takes w ≡ true → v' ≡ v ++ f ∷ [] → find_definition ds f ≡ None → Goes sel v o v' o
  spread_fails sel w f v v' o e t x n rest =
      at _ _ rest v o v' o (e rest) (record { within = subst (λ z. IsWithin v z) (sym x) (within_left v (f ∷ [])); by = λ v1 o1 g. spread_unknown t n (subst (λ z. Gathers s ds rest z o v1 o1) x g) })

  pub spread_misses : (sel : Selection) (w : Directives) (f : Text) (v v' : List Text) (o : List Asked) (d : Definition) → Is sel (spread w f) → s.takes w ≡ true → v' ≡ v ++ f ∷ [] → find_definition ds f ≡ Some d → s.applies d.on ≡ false → Goes sel v o v' o
  spread_misses sel w f v v' o d e t x n a rest =
      at _ _ rest v o v' o (e rest) (record { within = subst (λ z. IsWithin v z) (sym x) (within_left v (f ∷ [])); by = λ v1 o1 g. spread_apart t n a (subst (λ z. Gathers s ds rest z o v1 o1) x g) })

  pub spread_enters : (sel : Selection) (w : Directives) (f : Text) (v v1 v' : List Text) (o o' : List Asked) (d : Definition) → Is sel (spread w f) → s.takes w ≡ true → v1 ≡ v ++ f ∷ [] → find_definition ds f ≡ Some d → s.applies d.on ≡ true →
      Gathers s ds d.set v1 o v' o' → Goes sel v o v' o'
  spread_enters sel w f v v1 v' o o' d e t x n a g rest =
      at _ _ rest v o v' o' (e rest) (record {
        within = within_trans (subst (λ z. IsWithin v z) (sym x) (within_left v (f ∷ []))) (gathers_within g);
        by = λ v2 o2 k. spread_entered t n a (subst (λ z. Gathers s ds d.set z o v' o') x g) k;
      })

  pub inline_skips : (sel : Selection) (w : Directives) (on : Option Text) (set : Set) (v : List Text) (o : List Asked) → Is sel (inline w on set) → s.takes w ≡ false → Goes sel v o v o
  inline_skips sel w on set v o e t rest = at _ _ rest v o v o (e rest) (record { within = within_refl v; by = λ v' o' g. inline_skipped t g })

  pub inline_misses : (sel : Selection) (w : Directives) (on : Option Text) (set : Set) (v : List Text) (o : List Asked) → Is sel (inline w on set) → s.takes w ≡ true → fits_condition s on ≡ false → Goes sel v o v o
  inline_misses sel w on set v o e t a rest = at _ _ rest v o v o (e rest) (record { within = within_refl v; by = λ v' o' g. inline_apart t a g })

  pub inline_enters : (sel : Selection) (w : Directives) (on : Option Text) (set : Set) (v v' : List Text) (o o' : List Asked) → Is sel (inline w on set) → s.takes w ≡ true → fits_condition s on ≡ true → Gathers s ds set v o v' o' → Goes sel v o v' o'
  inline_enters sel w on set v v' o o' e t a g rest = at _ _ rest v o v' o' (e rest) (record { within = gathers_within g; by = λ v2 o2 k. inline_entered t a g k })

  -- the list of selections, one after another
  sels_next : (set : List Selection) (i : ℕ) (sel : Selection) → i < length set → sel ≡ get_or set i sel → set_in (drop i set) ≡ before sel (set_in (drop (i + 1) set))
  sels_next set i sel l e = ap set_in (drop-cons set i sel l) ∙ ap (λ z. before z (set_in (drop (suc i) set))) (sym e) ∙ ap (λ z. before sel (set_in (drop z set))) (sym (add-one i))

  pub continues_first : (set : List Selection) (v : List Text) (o : List Asked) → Continues s ds (set_in set) (set_in (drop 0 set)) v o v o
  continues_first set v o = record { within = within_refl v; by = λ v' o' g. g }

  pub continues_next : (set : List Selection) (i : ℕ) (sel : Selection) (v v1 v' : List Text) (o o1 o' : List Asked) → i < length set → sel ≡ get_or set i sel →
      Continues s ds (set_in set) (set_in (drop i set)) v o v1 o1 → Goes sel v1 o1 v' o' → Continues s ds (set_in set) (set_in (drop (i + 1) set)) v o v' o'
  continues_next set i sel v v1 v' o o1 o' l e c g =
      let step = g (set_in (drop (i + 1) set)) in
      record { within = within_trans c.within step.within; by = λ v2 o2 k. c.by v2 o2 (subst (λ z. Gathers s ds z v1 o1 v2 o2) (sym (sels_next set i sel l e)) (step.by v2 o2 k)) }

  pub continues_last : (set : List Selection) (i : ℕ) (v v' : List Text) (o o' : List Asked) → length set ≤ i → Continues s ds (set_in set) (set_in (drop i set)) v o v' o' → Gathers s ds (set_in set) v o v' o'
  continues_last set i v v' o o' l c = c.by v' o' (subst (λ z. Gathers s ds z v' o' v' o') (sym (ap set_in (drop_of_length-le set l))) at_end)

  -- What a set gathers is gathered before what is joined to it.
  pub gathers_first : {set : Set} {v v' : List Text} {o o' : List Asked} (more : Set) → Gathers s ds set v o v' o' → (v2 : List Text) (o2 : List Asked) → Gathers s ds more v' o' v2 o2 → Gathers s ds (join set more) v o v2 o2
  gathers_first more at_end v2 o2 k = k
  gathers_first more (field_skipped t g) v2 o2 k = field_skipped t (gathers_first more g v2 o2 k)
  gathers_first more (field_taken t g) v2 o2 k = field_taken t (gathers_first more g v2 o2 k)
  gathers_first more (spread_skipped t g) v2 o2 k = spread_skipped t (gathers_first more g v2 o2 k)
  gathers_first more (spread_again t i g) v2 o2 k = spread_again t i (gathers_first more g v2 o2 k)
  gathers_first more (spread_unknown t e g) v2 o2 k = spread_unknown t e (gathers_first more g v2 o2 k)
  gathers_first more (spread_apart t e a g) v2 o2 k = spread_apart t e a (gathers_first more g v2 o2 k)
  gathers_first more (spread_entered t e a g h) v2 o2 k = spread_entered t e a g (gathers_first more h v2 o2 k)
  gathers_first more (inline_skipped t g) v2 o2 k = inline_skipped t (gathers_first more g v2 o2 k)
  gathers_first more (inline_apart t a g) v2 o2 k = inline_apart t a (gathers_first more g v2 o2 k)
  gathers_first more (inline_entered t a g h) v2 o2 k = inline_entered t a g (gathers_first more h v2 o2 k)
