-- Selections that are put into a new fragment.
use Rattle.std.proofs.Common.{◌≡◌, inl, inr, ℕ, ◌+◌, ◌<◌, ◌≤◌, Bool, true, false, List, [], ◌∷◌, ◌++◌, Some, refl, sym, ap, ◌∙◌, subst, arith, nat_le}
use Rattle.std.specs.Prelude.{◌==◌, ◌&&◌, if◌then◌else◌}
use Rattle.std.proofs.lemmas.Bool.Decides.{nat_tests}
use Rattle.gq_text.specs.declared.place.Span.{Span}
use Rattle.gq_tree.specs.Forest.{none, more, row}
use Rattle.gq_tree.specs.Plain.{Head, spread, Sel, Sels, no_place, place_head, erase_all}
use Rattle.gq_meaning.specs.Values.{Text}
use Rattle.gq_meaning.specs.Selected.{Set, set_of, join}
use Rattle.gq_meaning.specs.Expand.{Definition, find_definition}
use Rattle.gq_meaning.specs.Rewritten.{Static, Rewritten, extracted}
use Rattle.gq_rewritten.specs.Rewrites.{Bare, bare_name, head_place, with_extracted}
use Rattle.gq_laws.specs.Rewriting.KnownBefore.{Each, IsTyped, IsSpreadFound, IsKnown, EndsSet, ends_here, ends_within, ends_after}
use Rattle.gq_laws.specs.Rewriting.Places.{AreNested, run_start, run_end}
use Rattle.gq_laws.proofs.Rewriting.Sets.{set_append, typed_join, each_append}
use Rattle.gq_laws.proofs.Rewriting.Heads.{head_stays, known_stays}
use Rattle.gq_laws.proofs.Rewriting.Nests.{IsOutside, outside, end_after, end_is, rises, run_stands}

module _ (start end : ℕ) (name : Text) where
  abbrev changed : Sels Span → Bare
  changed = with_extracted start end name

  abbrev a_spread : Head (Unit {0})
  a_spread = spread (bare_name name) [] tt

  both_tests : (h : Head Span) (below rest : Sels Span) (b c : Bool) → ((head_place h).start == start) ≡ b → (nat_le start (head_place h).start && nat_le (head_place h).end end) ≡ c →
      changed (more h below rest) ≡ (if b then more a_spread none (changed rest) else if c then changed rest else more (place_head no_place h) (changed below) (changed rest))
  both_tests h below rest b c d e =
      ap (λ z. if z then more a_spread none (changed rest) else if nat_le start (head_place h).start && nat_le (head_place h).end end then changed rest else more (place_head no_place h) (changed below) (changed rest)) d
      ∙ ap (λ z. if b then more a_spread none (changed rest) else if z then changed rest else more (place_head no_place h) (changed below) (changed rest)) e

  -- the first selection of the run, another one of it, and one outside
  at_first : (h : Head Span) (below rest : Sels Span) → (head_place h).start ≡ start → changed (more h below rest) ≡ more a_spread none (changed rest)
  at_first h below rest e =
      let same : ((head_place h).start == start) ≡ true = grind (arith, nat_tests) in
      both_tests h below rest true (nat_le start (head_place h).start && nat_le (head_place h).end end) same refl

  at_other : (h : Head Span) (below rest : Sels Span) → ((head_place h).start ≡ start → ⊥) → start ≤ (head_place h).start → (head_place h).end ≤ end → changed (more h below rest) ≡ changed rest
  at_other h below rest n l m =
      let other : ((head_place h).start == start) ≡ false = grind (arith, nat_tests) in
      let inside : (nat_le start (head_place h).start && nat_le (head_place h).end end) ≡ true = grind (arith, nat_tests) in
      both_tests h below rest false true other inside

  at_outside : (h : Head Span) (below rest : Sels Span) → IsOutside start end h → changed (more h below rest) ≡ more (place_head no_place h) (changed below) (changed rest)
  at_outside h below rest o =
      let other : ((head_place h).start == start) ≡ false = no_first (head_place h).start o.begins_elsewhere in
      let beside : (nat_le start (head_place h).start && nat_le (head_place h).end end) ≡ false = no_inside (head_place h).start (head_place h).end o.lies_elsewhere in
      both_tests h below rest false false other beside
    where
      no_first : (a : ℕ) → (a ≡ start → ⊥) → (a == start) ≡ false
      no_first a n = grind (arith, nat_tests)

      no_inside : (a b : ℕ) → (start ≤ a → b ≤ end → ⊥) → (nat_le start a && nat_le b end) ≡ false
      no_inside a b n = grind (arith, nat_tests)

  -- Selections outside of the range stay.
  pub outside_stays : (sels : Sels Span) → Each (IsOutside start end) sels → changed sels ≡ erase_all sels
  outside_stays none all = refl
  outside_stays (more h below rest) all =
      at_outside h below rest all.0
      ∙ ap (λ z. more (place_head no_place h) z (changed rest)) (outside_stays below all.1)
      ∙ ap (λ z. more (place_head no_place h) (erase_all below) z) (outside_stays rest all.2)

  -- behind the first one of the run
  others_go : (from to : ℕ) (ss others : List (Sel Span)) → AreNested from to (row (ss ++ others)) → start < from → end_after from ss ≡ end → changed (row (ss ++ others)) ≡ erase_all (row others)
  others_go from to [] others nested l e =
      outside_stays (row others) (outside start end from to (omega (arith, l, e)) (inr (omega (arith, e))) (row others) nested)
  others_go from to (s ∷ ss) others nested l e =
      let rise = rises (head_place s.label).end to ss others nested.4 in
      at_other s.label s.below (row (ss ++ others)) (λ q. omega (arith, q, l, nested.0)) (omega (arith, l, nested.0)) (omega (arith, rise, e))
      ∙ others_go (head_place s.label).end to ss others nested.4 (omega (arith, l, nested.0, nested.1)) e

  pub run_goes : (from to : ℕ) (run others : List (Sel Span)) → run_start run ≡ Some start → run_end run ≡ Some end → AreNested from to (row (run ++ others)) →
      changed (row (run ++ others)) ≡ more a_spread none (erase_all (row others))
  run_goes from to [] others first last nested = cc
  run_goes from to (s ∷ ss) others first last nested =
      let begin : (head_place s.label).start ≡ start = cc in
      at_first s.label s.below (row (ss ++ others)) begin
      ∙ ap (more a_spread none) (others_go (head_place s.label).end to ss others nested.4 (omega (arith, begin, nested.1)) (end_is s ss end last))

module _ (static : Static) (ds ds' : List Definition) (start end : ℕ) (name : Text) (run : List (Sel Span)) (first : run_start run ≡ Some start) (last : run_end run ≡ Some end) where
  abbrev Becomes : Text → Set → Set → Type 0
  Becomes = Rewritten static ds ds'

  abbrev after : Sels Span → Bare
  after = with_extracted start end name

  -- a fragment after the edit that selects what the run does
  pub record IsRunOf (u : Text) : Type 0 where
    pub definition : Definition
    pub is_found : find_definition ds' name ≡ Some definition
    pub is_on : definition.on ≡ u
    pub selects : definition.set ≡ set_of (erase_all (row run))

  at_run : (t : Text) (from to : ℕ) (others : List (Sel Span)) → AreNested from to (row (run ++ others)) → IsRunOf t → IsTyped static t (set_of (row (run ++ others))) →
      Each (IsSpreadFound ds ds') (row (run ++ others)) → Becomes t (set_of (row (run ++ others))) (set_of (after (row (run ++ others))))
  at_run t from to others nested r typed found =
      let typed_others = typed_join static t (set_of (row run)) (set_of (row others)) (subst (IsTyped static t) (set_append run others) typed) in
      let found_others = each_append (IsSpreadFound ds ds') run others found in
      subst (λ z. Becomes t z (set_of (after (row (run ++ others))))) (sym (set_append run others))
      (subst (λ z. Becomes t (join (set_of (row run)) (set_of (row others))) (set_of z)) (sym (run_goes start end name from to run others first last nested))
      (extracted name r.definition r.is_found r.is_on
      (subst (Becomes t (set_of (row run))) (sym r.selects) (known_stays static ds ds' t (row run) (record { typed = typed_others.0; found = found_others.0 }))) (known_stays static ds ds' t (row others) (record { typed = typed_others.1; found = found_others.1 }))))

  extracts : (from to : ℕ) {t u : Text} {sels tail : Sels Span} (others : List (Sel Span)) → EndsSet static t sels u tail → tail ≡ row (run ++ others) → AreNested from to sels → IsRunOf u →
      IsTyped static t (set_of sels) → Each (IsSpreadFound ds ds') sels → Becomes t (set_of sels) (set_of (after sels))
  extracts from to {t} others ends_here e nested r typed found =
      subst (λ z. Becomes t (set_of z) (set_of (after z))) (sym e)
      (at_run t from to others (subst (AreNested from to) e nested) r (subst (λ z. IsTyped static t (set_of z)) e typed) (subst (Each (IsSpreadFound ds ds')) e found))
  extracts from to {t} {u} others (ends_within {c} {head} {below} {rest} {last = tail} k ends) e nested r typed found =
      let place = run_stands static start end ((head_place head).start + 1) (head_place head).end run others ends e first last nested.3 in
      let is_outside : IsOutside start end head = record { begins_elsewhere = λ q. omega (arith, q, place.begins); lies_elsewhere = λ a b. omega (arith, a, place.begins) } in
      let behind = outside_stays start end name rest (outside start end (head_place head).end to place.is_some (inr place.ends) rest nested.4) in
      subst (λ z. Becomes t (set_of (more head below rest)) (set_of z)) (sym (at_outside start end name head below rest is_outside))
      (subst (λ z. Becomes t (set_of (more head below rest)) (set_of (more (place_head no_place head) (after below) z))) (sym behind)
      (head_stays static ds ds' t head below rest (after below) (erase_all rest) typed found.0
      (λ v i typed_below. let same : c ≡ v = cc in subst (λ z. Becomes z (set_of below) (set_of (after below))) same
      (extracts ((head_place head).start + 1) (head_place head).end others ends e nested.3 r (subst (λ z. IsTyped static z (set_of below)) (sym same) typed_below) found.1))
      (λ q. ap after q)
      (λ typed_rest. known_stays static ds ds' t rest (record { typed = typed_rest; found = found.2 }))))
  extracts from to {t} {u} others (ends_after {head} {below} {rest} ends) e nested r typed found =
      let place = run_stands static start end (head_place head).end to run others ends e first last nested.4 in
      let is_outside : IsOutside start end head = record { begins_elsewhere = λ q. omega (arith, q, place.begins, nested.1); lies_elsewhere = λ a b. omega (arith, a, place.begins, nested.1) } in
      let before = outside_stays start end name below (outside start end ((head_place head).start + 1) (head_place head).end place.is_some (inl place.begins) below nested.3) in
      subst (λ z. Becomes t (set_of (more head below rest)) (set_of z)) (sym (at_outside start end name head below rest is_outside))
      (subst (λ z. Becomes t (set_of (more head below rest)) (set_of (more (place_head no_place head) z (after rest)))) (sym before)
      (head_stays static ds ds' t head below rest (erase_all below) (after rest) typed found.0
      (λ v i typed_below. known_stays static ds ds' v below (record { typed = typed_below; found = found.1 }))
      (λ q. ap erase_all q)
      (λ typed_rest. extracts (head_place head).end to others ends e nested.4 r typed_rest found.2)))

  -- A run that stands in selections is put into a fragment.
  pub extract_becomes : (from to : ℕ) {t u : Text} {sels : Sels Span} (others : List (Sel Span)) → EndsSet static t sels u (row (run ++ others)) → AreNested from to sels → IsRunOf u →
      IsKnown static ds ds' t sels → Becomes t (set_of sels) (set_of (after sels))
  extract_becomes from to others ends nested r known = extracts from to others ends refl nested r known.typed known.found
