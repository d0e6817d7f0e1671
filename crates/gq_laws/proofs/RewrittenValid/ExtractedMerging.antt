-- All fields merge in a project in which a run of selections was put into a new fragment, where they did before.
use Rattle.std.proofs.Common.{◌≡◌, ◌≢◌, ◌⊎◌, ⊎_elim, inl, inr, ℕ, zero, suc, List, [], Option, Some, None, Contains, refl, sym, ap, ◌∙◌, subst}
use Rattle.std.proofs.lemmas.List.Elements.{Contains-append_right}
use Rattle.gq_text.specs.declared.place.Span.{Span}
use Rattle.gq_tree.specs.Forest.{none, more}
use Rattle.gq_tree.specs.Plain.{NameOf, DirectiveOf, Val, Head, Sels, field, spread, inline}
use Rattle.gq_tree.specs.Names.{spread_names}
use Rattle.gq_types.specs.Entries.{Text, EntryOf}
use Rattle.gq_types.proofs.Gathered.{first, from_map}
use Rattle.gq_document.specs.Definitions.{OperationOf, FragmentOf}
use Rattle.gq_document.specs.Selections.{parent_below}
use Rattle.gq_document.specs.Executable.{ExecutableOf}
use Rattle.gq_document.specs.FieldSets.{SetOf, FieldAt, operation_set, fragment_set, field_set, narrowed, InSet, here, within, through, after, Stands}
use Rattle.gq_document.specs.FieldSets as sets
use Rattle.gq_rewritten.specs.Rewrites.{followed_by}
use Rattle.gq_laws.specs.Placing.Merging.{SayTheSame, HasFieldsTo, HasSets}
use Rattle.gq_laws.proofs.RewrittenValid.Opened.{names_followed}
use Rattle.gq_laws.proofs.RewrittenValid.Moved.{IsMoved, at_run, below_head, behind_head, IsNoSpread, a_spread, names_head, names_below, names_rest}
use Rattle.gq_laws.proofs.RewrittenValid.Extracted as extracted
use Rattle.gq_laws.proofs.RewrittenValid.Extracted.{IsExtracted, Holder, an_operation, a_fragment}

-- the fields of sets one after another
pub fields_first : (x : ExecutableOf) {s : SetOf} {a : FieldAt} (ts : Sels Span) → InSet x s a → InSet x (record { file = s.file; parent = s.parent; selections = followed_by s.selections ts }) a
fields_first x ts here = here
fields_first x ts (within i) = within i
fields_first x ts (through c e i) = through c e i
fields_first x ts (after i) = after (fields_first x ts i)

pub fields_second : (x : ExecutableOf) {n : ℕ} {parent : Option Text} {a : FieldAt} (ss ts : Sels Span) → InSet x (record { file = n; parent = parent; selections = ts }) a →
    InSet x (record { file = n; parent = parent; selections = followed_by ss ts }) a
fields_second x none ts i = i
fields_second x (more h b r) ts i = after (fields_second x r ts i)

module _ (es : List EntryOf) (os : List OperationOf) (fs gs : List FragmentOf) (file : ℕ) (change : Sels Span → Sels Span) (on : Text) (run : Sels Span) (name : Text) (at : Span)
    (is : IsExtracted es os fs gs file change on run name at) where
  abbrev pub x : ExecutableOf
  x = record { entries = es; operations = os; fragments = fs }

  abbrev pub y : ExecutableOf
  y = extracted.y es os fs gs file change on run name at

  abbrev new : FragmentOf
  new = extracted.new es os fs gs file change on run name at

  abbrev becomes_fragment : FragmentOf → FragmentOf
  becomes_fragment = extracted.becomes_fragment es os fs gs file change on run name at

  abbrev becomes_operation : OperationOf → OperationOf
  becomes_operation = extracted.becomes_operation es os fs gs file change on run name at

  abbrev Moved : Option Text → Sels Span → Sels Span → Type 0
  Moved = IsMoved es on run name at

  abbrev MovedOrSame : Option Text → Sels Span → Sels Span → Type 0
  MovedOrSame parent set set' = Moved parent set set' ⊎ (set' ≡ set)

  abbrev NotNamed : Sels Span → Type 0
  NotNamed set = (m : NameOf Span) → Contains (spread_names set) m → m.text ≢ name

  -- what a set was that has a first selection now
  data First (parent : Option Text) (set : Sels Span) (h : Head Span) (b r : Sels Span) : Type 0 where
    at_spread : parent ≡ Some on → set ≡ followed_by run r → h ≡ a_spread name at → First parent set h b r
    in_braces : (b0 : Sels Span) → set ≡ more h b0 r → IsNoSpread h → Moved (parent_below es parent h) b0 b → First parent set h b r
    in_rest : (r0 : Sels Span) → set ≡ more h b r0 → MovedOrSame parent r0 r → First parent set h b r

  first_is : {parent : Option Text} {set ts : Sels Span} (h : Head Span) (b r : Sels Span) → Moved parent set ts → ts ≡ more h b r → First parent set h b r
  first_is {set} h b r (at_run rest p q t) e =
      let all : more (a_spread name at) none rest ≡ more h b r = sym t ∙ e in
      let heads : a_spread name at ≡ h = cc in
      let rests : rest ≡ r = cc in
      at_spread p (q ∙ ap (followed_by run) rests) (sym heads)
  first_is {parent} h b r (below_head {head} {below} {below'} {rest} g m) e =
      let heads : head ≡ h = cc in
      let belows : below' ≡ b = cc in
      let rests : rest ≡ r = cc in
      in_braces below (ap (λ z. more z below rest) heads ∙ ap (more h below) rests) (subst IsNoSpread heads g)
      (subst (λ z. Moved (parent_below es parent z) below b) heads (subst (λ z. Moved (parent_below es parent head) below z) belows m))
  first_is {parent} h b r (behind_head {head} {below} {rest} {rest'} m) e =
      let heads : head ≡ h = cc in
      let belows : below ≡ b = cc in
      let rests : rest' ≡ r = cc in
      in_rest rest (ap (λ z. more z below rest) heads ∙ ap (λ z. more h z rest) belows) (inl (subst (λ z. Moved parent rest z) rests m))

  first_of : {parent : Option Text} {set : Sels Span} (h : Head Span) (b r : Sels Span) → MovedOrSame parent set (more h b r) → First parent set h b r
  first_of h b r (inl m) = first_is h b r m refl
  first_of h b r (inr e) = in_rest r (sym e) (inr refl)

  names_second : (ss ts : Sels Span) (m : NameOf Span) → Contains (spread_names ts) m → Contains (spread_names (followed_by ss ts)) m
  names_second ss ts m c = subst (λ z. Contains z m) (sym (names_followed ss ts)) (Contains-append_right (spread_names ss) (spread_names ts) m c)

  -- the two sets have one type of the parent, and the first is what became of the second
  record AreRelated (s t : SetOf) : Type 0 where
    pub parent : s.parent ≡ t.parent
    pub set : MovedOrSame s.parent t.selections s.selections
    pub others : NotNamed t.selections

  -- A field was in a set before, and so were those in its braces.
  record WasField (t : SetOf) (a : FieldAt) : Type 0 where
    pub old : FieldAt
    pub stands : InSet x t old
    pub same : SayTheSame a old
    pub below : AreRelated (field_set es a) (field_set es old)

  wider : {t u : SetOf} {a : FieldAt} → ((b : FieldAt) → InSet x t b → InSet x u b) → WasField t a → WasField u a
  wider f w = record { old = w.old; stands = f w.old w.stands; same = w.same; below = w.below }

  abbrev set_of : ℕ → Option Text → Sels Span → SetOf
  set_of n parent set = record { file = n; parent = parent; selections = set }

  others_below : (h : Head Span) (b r : Sels Span) → NotNamed (more h b r) → NotNamed b
  others_below h b r others m c = others m (names_below h b r m c)

  others_rest : (h : Head Span) (b r : Sels Span) → NotNamed (more h b r) → NotNamed r
  others_rest h b r others m c = others m (names_rest h b r m c)

  narrowed_is : (parent : Option Text) (condition : Option (NameOf Span)) (directives : List (DirectiveOf Span)) (braces place : Span) →
      parent_below es parent (inline condition directives braces place) ≡ narrowed condition parent
  narrowed_is parent None directives braces place = refl
  narrowed_is parent (Some condition) directives braces place = refl

  -- the field itself
  it_was : (n : ℕ) (file' : ℕ) (parent : Option Text) (alias : Option (NameOf Span)) (m : NameOf Span) (arguments : List (Val Span)) (directives : List (DirectiveOf Span)) (braces : Option Span)
      (place : Span) (b b0 r : Sels Span) →
      MovedOrSame (parent_below es parent (field alias m arguments directives braces place)) b0 b → NotNamed b0 →
      WasField (set_of n parent (more (field alias m arguments directives braces place) b0 r))
      (record { file = file'; parent = parent; alias = alias; name = m; arguments = arguments; place = place; below = b })
  it_was n file' parent alias m arguments directives braces place b b0 r moved others = record {
    old = record { file = n; parent = parent; alias = alias; name = m; arguments = arguments; place = place; below = b0 };
    stands = here;
    same = record { parent = refl; one_key = refl; text = refl; same_arguments = refl };
    below = record { parent = refl; set = moved; others = others };
  }

  abbrev InFragment : FragmentOf → FieldAt → Type 0
  InFragment g a = (k : ℕ) (b : Sels Span) → MovedOrSame (Some g.on.text) b g.set → NotNamed b → WasField (set_of k (Some g.on.text) b) a

  was_field : {s : SetOf} {a : FieldAt} → InSet y s a → (n : ℕ) (set : Sels Span) → MovedOrSame s.parent set s.selections → NotNamed set → WasField (set_of n s.parent set) a
  was_field (here {file = file'} {parent} {alias} {name = m} {arguments} {directives} {braces} {place} {below} {rest}) n set moved others = by
      (first_of (field alias m arguments directives braces place) below rest moved)
    where
      by : First parent set (field alias m arguments directives braces place) below rest →
          WasField (set_of n parent set) (record { file = file'; parent = parent; alias = alias; name = m; arguments = arguments; place = place; below = below })
      by (at_spread p q e) = absurd (cc)
      by (in_braces b0 e g k) =
          subst (λ z. WasField (set_of n parent z) (record { file = file'; parent = parent; alias = alias; name = m; arguments = arguments; place = place; below = below })) (sym e)
          (it_was n file' parent alias m arguments directives braces place below b0 rest (inl k) (others_below (field alias m arguments directives braces place) b0 rest (subst NotNamed e others)))
      by (in_rest r0 e k) =
          subst (λ z. WasField (set_of n parent z) (record { file = file'; parent = parent; alias = alias; name = m; arguments = arguments; place = place; below = below })) (sym e)
          (it_was n file' parent alias m arguments directives braces place below below r0 (inr refl)
          (others_below (field alias m arguments directives braces place) below r0 (subst NotNamed e others)))
  was_field (within {parent} {on = condition} {directives} {braces} {place} {below} {rest} {f = a} i) n set moved others =
      by (first_of (inline condition directives braces place) below rest moved) (λ b k l. was_field i n b k l)
    where
      in_it : (b r : Sels Span) → WasField (set_of n (narrowed condition parent) b) a → WasField (set_of n parent (more (inline condition directives braces place) b r)) a
      in_it b r w = wider (λ f j. within j) w

      by : First parent set (inline condition directives braces place) below rest → ((b : Sels Span) → MovedOrSame (narrowed condition parent) b below → NotNamed b →
          WasField (set_of n (narrowed condition parent) b) a) → WasField (set_of n parent set) a
      by (at_spread p q e) next = absurd (cc)
      by (in_braces b0 e g k) next =
          subst (λ z. WasField (set_of n parent z) a) (sym e)
          (in_it b0 rest (next b0 (inl (subst (λ z. Moved z b0 below) (narrowed_is parent condition directives braces place) k))
          (others_below (inline condition directives braces place) b0 rest (subst NotNamed e others))))
      by (in_rest r0 e k) next =
          subst (λ z. WasField (set_of n parent z) a) (sym e) (in_it below r0 (next below (inr refl) (others_below (inline condition directives braces place) below r0 (subst NotNamed e others))))
  was_field (through {parent} {name = m} {directives} {place} {below} {rest} {fragment = g} {f = a} c same i) n set moved others =
      by (first_of (spread m directives place) below rest moved) (extracted.new_or_old es os fs gs file change on run name at is g c) (λ k b p l. was_field i k b p l)
    where
      of_old : (r0 : Sels Span) → NotNamed (more (spread m directives place) below r0) → (new ≡ g) ⊎ ((f : FragmentOf) × Contains fs f × (becomes_fragment f ≡ g)) → InFragment g a →
          WasField (set_of n parent (more (spread m directives place) below r0)) a
      of_old r0 names (inl e) next = absurd (names m (names_head (spread m directives place) below r0 m (first m m [] refl)) (same ∙ ap (λ z. z.name.text) (sym e)))
      of_old r0 names (inr d) next =
          let state = ⊎_elim (λ h. inl h.1) (λ e. inr e) (is.fragment d.0 d.1) in
          let w = next d.0.file d.0.set (subst (λ z. MovedOrSame (Some z.on.text) d.0.set z.set) d.2 state) (extracted.in_fragment es os fs gs file change on run name at is d.0 d.1) in
          wider (λ f j. through d.1 (same ∙ ap (λ z. z.name.text) (sym d.2)) j) (subst (λ z. WasField (set_of d.0.file (Some z.on.text) d.0.set) a) (sym d.2) w)

      by : First parent set (spread m directives place) below rest → (new ≡ g) ⊎ ((f : FragmentOf) × Contains fs f × (becomes_fragment f ≡ g)) → InFragment g a → WasField (set_of n parent set) a
      by (at_spread p q e) (inl k) next =
          let w = next n run (inr (ap (λ z. z.set) (sym k))) (extracted.run_others es os fs gs file change on run name at is) in
          let types : Some g.on.text ≡ parent = ap (λ z. Some z.on.text) (sym k) ∙ sym p in
          subst (λ z. WasField (set_of n parent z) a) (sym q) (wider (λ f j. fields_first x rest j) (subst (λ z. WasField (set_of n z run) a) types w))
      by (at_spread p q e) (inr d) next =
          let names : m ≡ record { text = name; place = at } = cc in
          absurd (is.fresh d.0 d.1 (ap (λ z. z.name.text) d.2 ∙ sym same ∙ ap (λ z. z.text) names))
      by (in_braces b0 e plain k) which next = absurd (cc)
      by (in_rest r0 e k) which next = subst (λ z. WasField (set_of n parent z) a) (sym e) (of_old r0 (subst NotNamed e others) which next)
  was_field (after {parent} {head} {below} {rest} {f = a} i) n set moved others =
      by (first_of head below rest moved) (λ r k l. was_field i n r k l)
    where
      by : First parent set head below rest → ((r : Sels Span) → MovedOrSame parent r rest → NotNamed r → WasField (set_of n parent r) a) → WasField (set_of n parent set) a
      by (at_spread p q e) next =
          subst (λ z. WasField (set_of n parent z) a) (sym q) (wider (λ f j. fields_second x run rest j) (next rest (inr refl) (rest_others q)))
        where
          rest_others : set ≡ followed_by run rest → NotNamed rest
          rest_others q m c = others m (subst (λ z. Contains (spread_names z) m) (sym q) (names_second run rest m c))
      by (in_braces b0 e g k) next = subst (λ z. WasField (set_of n parent z) a) (sym e) (wider (λ f j. after j) (next rest (inr refl) (others_rest head b0 rest (subst NotNamed e others))))
      by (in_rest r0 e k) next = subst (λ z. WasField (set_of n parent z) a) (sym e) (wider (λ f j. after j) (next r0 k (others_rest head below r0 (subst NotNamed e others))))

  related_fields : (s t : SetOf) → AreRelated s t → (a : FieldAt) → InSet y s a → WasField t a
  related_fields s t r a i =
      let w = was_field i t.file t.selections r.set r.others in subst (λ z. WasField (set_of t.file z t.selections) a) r.parent w

  -- at any depth
  to_depth : (depth : ℕ) (s t : SetOf) → ((a : FieldAt) → InSet y s a → WasField t a) → HasFieldsTo depth y x s t
  to_depth zero s t all = tt
  to_depth (suc depth) s t all = λ a i.
      let w = all a i in (w.old, w.stands, w.same, to_depth depth (field_set es a) (field_set es w.old) (λ b j. related_fields (field_set es a) (field_set es w.old) w.below b j))

  -- A set that stands has its fields from one before.
  record WasSet (s : SetOf) : Type 0 where
    pub old : SetOf
    pub stands : Stands x old
    pub fields : (a : FieldAt) → InSet y s a → WasField old a

  -- the set in which the run stands itself
  record HasRun : Type 0 where
    pub set : SetOf
    pub stands : Stands x set
    pub fields : (a : FieldAt) → InSet x (set_of set.file (Some on) run) a → InSet x set a

  run_in : {parent : Option Text} {ss ts : Sels Span} → Moved parent ss ts → (t : SetOf) → Stands x t → ((a : FieldAt) → InSet x (set_of t.file parent ss) a → InSet x t a) → HasRun
  run_in {parent} (at_run rest p q e) t there all = record {
    set = t;
    stands = there;
    fields = λ a i. all a (subst (λ z. InSet x (set_of t.file parent z) a) (sym q) (fields_first x rest (subst (λ z. InSet x (set_of t.file z run) a) (sym p) i)));
  }
  run_in {parent} (below_head {head} {below} {rest} g m) t there all = by head g all (λ u k f. run_in m u k f)
    where
      by : (h : Head Span) → IsNoSpread h → ((a : FieldAt) → InSet x (set_of t.file parent (more h below rest)) a → InSet x t a) →
          ((u : SetOf) → Stands x u → ((a : FieldAt) → InSet x (set_of u.file (parent_below es parent h) below) a → InSet x u a) → HasRun) → HasRun
      by (field alias text arguments directives braces place) plain fields next =
          let f : FieldAt = record { file = t.file; parent = parent; alias = alias; name = text; arguments = arguments; place = place; below = below } in
          next (field_set es f) (sets.of_field {set = t} {f = f} there (fields f here)) (λ a i. i)
      by (spread text directives place) plain fields next = absurd (cc)
      by (inline condition directives braces place) plain fields next =
          next t there (λ a i. fields a (within (subst (λ z. InSet x (set_of t.file z below) a) (narrowed_is parent condition directives braces place) i)))
  run_in {parent} (behind_head {head} {below} m) t there all = run_in m t there (λ a i. all a (after i))

  has_run : Holder es os fs gs file change on run name at → HasRun
  has_run (an_operation o c h) = run_in h.1 (operation_set es o) (sets.of_operation {o = o} c) (λ a i. i)
  has_run (a_fragment f c h) = run_in h.1 (fragment_set f) (sets.of_fragment {f = f} c) (λ a i. i)

  of_new : WasSet (fragment_set new)
  of_new =
      let h = has_run is.holder in
      record { old = h.set; stands = h.stands; fields = λ a i. wider h.fields (was_field i h.set.file run (inr refl) (extracted.run_others es os fs gs file change on run name at is)) }

  of_operation : (o : OperationOf) → Contains os o → WasSet (operation_set es (becomes_operation o))
  of_operation o c = record {
    old = operation_set es o;
    stands = sets.of_operation {o = o} c;
    fields = related_fields (operation_set es (becomes_operation o)) (operation_set es o) (record {
      parent = refl;
      set = ⊎_elim (λ h. inl h.1) (λ e. inr e) (is.operation o c);
      others = extracted.in_operation es os fs gs file change on run name at is o c;
    });
  }

  of_fragment : (f : FragmentOf) → Contains fs f → WasSet (fragment_set (becomes_fragment f))
  of_fragment f c = record {
    old = fragment_set f;
    stands = sets.of_fragment {f = f} c;
    fields = related_fields (fragment_set (becomes_fragment f)) (fragment_set f) (record {
      parent = refl;
      set = ⊎_elim (λ h. inl h.1) (λ e. inr e) (is.fragment f c);
      others = extracted.in_fragment es os fs gs file change on run name at is f c;
    });
  }

  set_was : {s : SetOf} → Stands y s → WasSet s
  set_was (sets.of_operation {o = p} c) = let d = from_map becomes_operation os p c in subst (λ z. WasSet (operation_set es z)) d.2 (of_operation d.0 d.1)
  set_was (sets.of_fragment {f = g} c) = by (extracted.new_or_old es os fs gs file change on run name at is g c)
    where
      by : (new ≡ g) ⊎ ((f : FragmentOf) × Contains fs f × (becomes_fragment f ≡ g)) → WasSet (fragment_set g)
      by (inl e) = subst (λ z. WasSet (fragment_set z)) e of_new
      by (inr d) = subst (λ z. WasSet (fragment_set z)) d.2 (of_fragment d.0 d.1)
  set_was (sets.of_field {set} {f = a} there i) =
      let k = set_was there in
      let w = k.fields a i in
      record { old = field_set es w.old; stands = sets.of_field {set = k.old} {f = w.old} k.stands w.stands; fields = related_fields (field_set es a) (field_set es w.old) w.below }

  -- Each set that stands has its fields, at any depth, from one that stood.
  pub has_sets : HasSets y x
  has_sets s there depth = let w = set_was there in (w.old, w.stands, to_depth depth s w.old w.fields)
