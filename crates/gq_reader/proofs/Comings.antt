-- What has come to a desk, step after step.
use Rattle.std.proofs.Common.{◌≡◌, ◌⊎◌, inl, inr, ℕ, List, [], ◌∷◌, ◌++◌, map, Bool, true, false, cond, Option, Some, None, ap, sym, refl, ◌∙◌, subst, append-nil, append_assoc, length, ◌≤◌}
use Rattle.std.specs.Iterator.{Yields}
use Rattle.std.specs.Io.KnownBytes.{Consumes}
use Rattle.gq_rpc.specs.Frames.{Cuts, scan_of}
use Rattle.gq_rpc.specs.declared.header.Scan.TheVariants.{Partial}
use Rattle.gq_rpc.specs.Decoding.{message_of}
use Rattle.gq_rpc.proofs.Sends.{Consumes-nil}
use Rattle.gq_events.specs.declared.event.Event.{Event}
use Rattle.gq_events.specs.declared.event.Event.TheVariants as event
use Rattle.gq_events.specs.declared.event.LoadedContent.{LoadedContent}
use Rattle.gq_reader.specs.Inputs.{Input, Body, File, load_of, closed_by, files_at, files_behind, inputs_of}
use Rattle.gq_reader.specs.Reading.{SourceAfter, piece_max}
use Rattle.gq_reader.specs.Reader.{View, unread, with_bodies}
use Rattle.gq_reader.specs.Coming.{Box, GivesLoad, GivesMessage, Comes, ComesSo}
use Rattle.gq_reader.proofs.Readers.{Stands, At, At-start, At-given, At-body, not_failed}
use Rattle.gq_reader.proofs.Taken.{EventsTo, one_body, one_file, inputs_of-append}
use Rattle.std.proofs.lemmas.List.{map-append}

-- ---- what was taken, and what is left

-- what stands in the bytes of all reads but the last one, and came of it: it is among what was surely answered
pub record EarlyOf (has : List ℕ → Bool) (keys : List (List ℕ)) (sure : List Input) (read : List ℕ) : Type 0 where
  pub earlier : List ℕ
  pub piece : List ℕ
  pub bodies : List (List ℕ)
  pub rest : List ℕ
  pub more : List Input
  pub whole : read ≡ earlier ++ piece
  pub short : length piece ≤ piece_max
  pub cuts : Cuts earlier bodies rest
  pub partial : scan_of rest ≡ Partial
  pub begins : sure ≡ (map File keys ++ inputs_of has bodies) ++ more

-- The bytes read, the bodies in them, and what is to be taken of the files and these: some of it was taken, and the others are left.
pub record Ground (has : List ℕ → Bool) (keys : List (List ℕ)) (start left : Option (List ℕ)) (sure taken behind : List Input) : Type 0 where
  pub read : List ℕ
  pub bodies : List (List ℕ)
  pub rest : List ℕ
  pub took : Consumes start left read
  pub cuts : Cuts read bodies rest
  pub all : map File keys ++ inputs_of has bodies ≡ taken ++ behind
  pub early : (read ≡ []) ⊎ EarlyOf has keys sure read

module _ (has : List ℕ → Bool) (keys : List (List ℕ)) (start left : Option (List ℕ)) where
  pub begins_so : (given early later : List (List ℕ)) (more sure : List Input) → given ≡ early ++ later → sure ≡ map File keys ++ (inputs_of has given ++ more)
      → sure ≡ (map File keys ++ inputs_of has early) ++ (inputs_of has later ++ more)
  begins_so given early later more sure split is =
      is
      ∙ (ap (λ (l : List Input). map File keys ++ (l ++ more)) (ap (inputs_of has) split ∙ inputs_of-append has early later)
      ∙ (ap (λ (l : List Input). map File keys ++ l) (append_assoc (inputs_of has early) (inputs_of has later) more)
      ∙ sym (append_assoc (map File keys) (inputs_of has early) (inputs_of has later ++ more))))

  -- of bodies that stand so, and what came of those that were given
  abbrev pub ground_of : (given behind : List (List ℕ)) (rest : List ℕ) (more sure taken after : List Input) → Stands start left given behind rest → sure ≡ map File keys ++ (inputs_of has given ++ more)
      → map File keys ++ inputs_of has (given ++ behind) ≡ taken ++ after → Ground has keys start left sure taken after
  ground_of given behind rest more sure taken after st is all = record {
    read = st.earlier ++ st.piece;
    bodies = given ++ behind;
    rest = rest;
    took = st.took;
    cuts = st.cuts;
    all = all;
    early = inr (record {
      earlier = st.earlier;
      piece = st.piece;
      bodies = st.early;
      rest = st.early_rest;
      more = inputs_of has st.later ++ more;
      whole = refl;
      short = st.short;
      cuts = st.early_cuts;
      partial = st.partial;
      begins = begins_so given st.early st.later more sure st.begins is;
    });
  }

  -- before anything was read
  pub ground_first : (sure taken after : List Input) → left ≡ start → map File keys ≡ taken ++ after → Ground has keys start left sure taken after
  ground_first sure taken after same all = record {
    read = [];
    bodies = [];
    rest = [];
    took = subst (λ (o : Option (List ℕ)). Consumes start o []) (sym same) (Consumes-nil start);
    cuts = refl;
    all = append-nil (map File keys) ∙ all;
    early = inl refl;
  }

  -- the first of what is left is taken
  pub one_taken : (taken after : List Input) (input : Input) → Ground has keys start left taken taken (input ∷ after) → Ground has keys start left taken (taken ++ input ∷ []) after
  one_taken taken after input g =
      record { read = g.read; bodies = g.bodies; rest = g.rest; took = g.took; cuts = g.cuts; all = g.all ∙ sym (append_assoc taken (input ∷ []) after); early = g.early }

-- ---- boxes

-- a file that is due is that of the last message
files_cases : (has : List ℕ → Bool) (closed : Option (List ℕ)) → (files_at has closed ≡ []) ⊎ ((key : List ℕ) × (files_at has closed ≡ key ∷ []))
files_cases has None = inl refl
files_cases has (Some key) = elim (has key) as (λ b. (cond b (key ∷ []) [] ≡ []) ⊎ ((k : List ℕ) × (cond b (key ∷ []) [] ≡ k ∷ []))) [
  | true ↦ inr (key, refl)
  | false ↦ inl refl
]

same_files_at : (f g : List ℕ → Bool) → ((key : List ℕ) → f key ≡ g key) → (closed : Option (List ℕ)) → files_at f closed ≡ files_at g closed
same_files_at f g same None = refl
same_files_at f g same (Some key) = ap (λ (b : Bool). cond b (key ∷ []) []) (same key)

-- what never changes
pub record Keeps {F : Type 0} (failed : F → Bool) (has_of : F → List ℕ → Bool) (has : List ℕ → Bool) (b : Box F) : Type 0 where
  pub same_has : (key : List ℕ) → has_of b.files key ≡ has key
  pub untold : b.told ≡ None
  pub sound : failed b.files ≡ false

pub keeps_on : {F : Type 0} (failed : F → Bool) (has_of : F → List ℕ → Bool) (has : List ℕ → Bool) (a b : Box F) → Keeps failed has_of has a → b.told ≡ a.told → failed b.files ≡ failed a.files
    → ((key : List ℕ) → has_of b.files key ≡ has_of a.files key) → Keeps failed has_of has b
keeps_on failed has_of has a b k told same_failed same_has = record { same_has = λ key. same_has key ∙ k.same_has key; untold = told ∙ k.untold; sound = same_failed ∙ k.sound }

module _ {F : Type 0} (reads : F → List ℕ → LoadedContent → F → Type 0) (failed : F → Bool) (has_of : F → List ℕ → Bool) (folder : F) (keys : List (List ℕ)) (start : SourceAfter) (sound : start.failed ≡ false) where
  abbrev pub has : List ℕ → Bool
  has = has_of folder

  -- not all files were loaded
  pub record Waits (taken : List Input) (b : Box F) : Type 0 where
    pub loaded : List (List ℕ)
    pub key : List ℕ
    pub more : List (List ℕ)
    pub all_keys : keys ≡ loaded ++ key ∷ more
    pub is_due : b.due ≡ key ∷ more
    pub same_view : b.view ≡ unread start
    pub all : taken ≡ map File loaded

  -- all that came of the messages that were given was taken
  pub record Clean (taken : List Input) (b : Box F) : Type 0 where
    pub given : List (List ℕ)
    pub at : At start.left given b.view
    pub none_due : b.due ≡ []
    pub all : taken ≡ map File keys ++ inputs_of has given

  -- or all but the file behind the last of them
  pub record Owes (taken : List Input) (b : Box F) : Type 0 where
    pub given : List (List ℕ)
    pub body : List ℕ
    pub key : List ℕ
    pub at : At start.left given (with_bodies b.view (body ∷ b.view.bodies))
    pub is_due : b.due ≡ key ∷ []
    pub behind : files_behind has body ≡ key ∷ []
    pub all : taken ≡ map File keys ++ (inputs_of has given ++ Body body ∷ [])

  pub data Stage (taken : List Input) (b : Box F) : Type 0 where
    waits : Waits taken b → Stage taken b
    clean : Clean taken b → Stage taken b
    owes : Owes taken b → Stage taken b

  -- these events came of what was taken
  pub record Came (taken : List Input) (events : List Event) (b : Box F) : Type 0 where
    pub to : EventsTo reads folder taken events b.files
    pub stage : Stage taken b
    pub keeps : Keeps failed has_of has b

  -- ---- what comes of a message

  -- with nothing behind it
  alone_of : (body : List ℕ) (more : List (List ℕ)) → files_behind has body ≡ [] → inputs_of has (body ∷ more) ≡ Body body ∷ inputs_of has more
  alone_of body more none = ap (λ (l : List (List ℕ)). Body body ∷ (map File l ++ inputs_of has more)) none

  -- with a file behind it
  pair_of : (body key : List ℕ) (more : List (List ℕ)) → files_behind has body ≡ key ∷ [] → inputs_of has (body ∷ more) ≡ Body body ∷ File key ∷ inputs_of has more
  pair_of body key more one = ap (λ (l : List (List ℕ)). Body body ∷ (map File l ++ inputs_of has more)) one

  given_alone : (given : List (List ℕ)) (body : List ℕ) → files_behind has body ≡ [] → inputs_of has given ++ Body body ∷ [] ≡ inputs_of has (given ++ body ∷ [])
  given_alone given body none = sym (inputs_of-append has given (body ∷ []) ∙ ap (λ (l : List Input). inputs_of has given ++ l) (alone_of body [] none))

  given_pair : (given : List (List ℕ)) (body key : List ℕ) → files_behind has body ≡ key ∷ [] → (inputs_of has given ++ Body body ∷ []) ++ File key ∷ [] ≡ inputs_of has (given ++ body ∷ [])
  given_pair given body key one =
      append_assoc (inputs_of has given) (Body body ∷ []) (File key ∷ [])
      ∙ sym (inputs_of-append has given (body ∷ []) ∙ ap (λ (l : List Input). inputs_of has given ++ l) (pair_of body key [] one))

  -- one more behind the files
  behind_keys : (taken some : List Input) (input : Input) → taken ≡ map File keys ++ some → taken ++ input ∷ [] ≡ map File keys ++ (some ++ input ∷ [])
  behind_keys taken some input is = ap (λ (l : List Input). l ++ input ∷ []) is ∙ append_assoc (map File keys) some (input ∷ [])

  -- what is left behind what was taken
  pub given_all : (given more : List (List ℕ)) (taken : List Input) → taken ≡ map File keys ++ inputs_of has given → map File keys ++ inputs_of has (given ++ more) ≡ taken ++ inputs_of has more
  given_all given more taken is =
      ap (λ (l : List Input). map File keys ++ l) (inputs_of-append has given more)
      ∙ (sym (append_assoc (map File keys) (inputs_of has given) (inputs_of has more)) ∙ ap (λ (l : List Input). l ++ inputs_of has more) (sym is))

  pub nothing_more : (given : List (List ℕ)) (taken : List Input) → taken ≡ map File keys ++ inputs_of has given → taken ≡ map File keys ++ (inputs_of has given ++ [])
  nothing_more given taken is = is ∙ ap (λ (l : List Input). map File keys ++ l) (sym (append-nil (inputs_of has given)))

  abbrev pub clean_ground : (left : Option (List ℕ)) (taken : List Input) (given bodies : List (List ℕ)) (rest : List ℕ) → taken ≡ map File keys ++ inputs_of has given → Stands start.left left given bodies rest
      → Ground has keys start.left left taken taken (inputs_of has bodies)
  clean_ground left taken given bodies rest is st = ground_of has keys start.left left given bodies rest [] taken taken (inputs_of has bodies) st (nothing_more given taken is) (given_all given bodies taken is)

  owed_all : (given : List (List ℕ)) (body key : List ℕ) (more : List (List ℕ)) (taken : List Input) → files_behind has body ≡ key ∷ [] → taken ≡ map File keys ++ (inputs_of has given ++ Body body ∷ [])
      → map File keys ++ inputs_of has (given ++ body ∷ more) ≡ taken ++ File key ∷ inputs_of has more
  owed_all given body key more taken one is =
      let left = File key ∷ inputs_of has more in
      let both : inputs_of has (given ++ body ∷ more) ≡ (inputs_of has given ++ Body body ∷ []) ++ left =
      inputs_of-append has given (body ∷ more) ∙ (ap (λ (l : List Input). inputs_of has given ++ l) (pair_of body key more one) ∙ sym (append_assoc (inputs_of has given) (Body body ∷ []) left)) in
      ap (λ (l : List Input). map File keys ++ l) both
      ∙ (sym (append_assoc (map File keys) (inputs_of has given ++ Body body ∷ []) left) ∙ ap (λ (l : List Input). l ++ left) (sym is))

  pub owed_ground : (taken : List Input) (b : Box F) → (o : Owes taken b) → Ground has keys start.left b.view.source.left taken taken (File o.key ∷ inputs_of has b.view.bodies)
  owed_ground taken b o =
      ground_of has keys start.left b.view.source.left o.given (o.body ∷ b.view.bodies) o.at.rest (Body o.body ∷ []) taken taken (File o.key ∷ inputs_of has b.view.bodies) o.at.stands o.all
      (owed_all o.given o.body o.key b.view.bodies taken o.behind o.all)

  pub waits_ground : (taken : List Input) (b : Box F) → (w : Waits taken b) → Ground has keys start.left b.view.source.left taken taken (map File (w.key ∷ w.more))
  waits_ground taken b w =
      ground_first has keys start.left b.view.source.left taken taken (map File (w.key ∷ w.more)) (ap (λ (v : View). v.source.left) w.same_view)
      (ap (map File) w.all_keys ∙ (map-append File w.loaded (w.key ∷ w.more) ∙ ap (λ (l : List Input). l ++ map File (w.key ∷ w.more)) (sym w.all)))

  staged_ground : (taken : List Input) (b : Box F) → Stage taken b → (left : List Input) × Ground has keys start.left b.view.source.left taken taken left
  staged_ground taken b (waits w) = (map File (w.key ∷ w.more), waits_ground taken b w)
  staged_ground taken b (clean c) = (inputs_of has b.view.bodies, clean_ground b.view.source.left taken c.given b.view.bodies c.at.rest c.all c.at.stands)
  staged_ground taken b (owes o) = (File o.key ∷ inputs_of has b.view.bodies, owed_ground taken b o)

  pub came_ground : (taken : List Input) (events : List Event) (b : Box F) → Came taken events b → (left : List Input) × Ground has keys start.left b.view.source.left taken taken left
  came_ground taken events b m = staged_ground taken b m.stage

  -- ---- one step

  -- what a step took, with what is left behind it, and how it stands then
  pub record Takes (taken : List Input) (events : List Event) (e : Event) (b : Box F) : Type 0 where
    pub input : Input
    pub came : Came (taken ++ input ∷ []) (events ++ e ∷ []) b
    pub left : List Input
    pub ground : Ground has keys start.left b.view.source.left taken taken (input ∷ left)
    pub sound_then : b.view.source.failed ≡ false
    pub untold : b.view.told ≡ None

  -- a file is the next
  loads_waiting : (taken : List Input) (b : Box F) (loaded : List (List ℕ)) (key : List ℕ) (more : List (List ℕ)) → keys ≡ loaded ++ key ∷ more → b.due ≡ more → b.view ≡ unread start → taken ≡ map File loaded
      → Stage (taken ++ File key ∷ []) b
  loads_waiting taken b loaded key [] all_keys due same is = clean (record {
    given = [];
    at = subst (λ (v : View). At start.left [] v) (sym same) (At-start start sound);
    none_due = due;
    all = ap (λ (l : List Input). l ++ File key ∷ []) is ∙ (sym (map-append File loaded (key ∷ [])) ∙ (ap (map File) (sym all_keys) ∙ sym (append-nil (map File keys))));
  })
  loads_waiting taken b loaded key (next ∷ more) all_keys due same is = waits (record {
    loaded = loaded ++ key ∷ [];
    key = next;
    more = more;
    all_keys = all_keys ∙ sym (append_assoc loaded (key ∷ []) (next ∷ more));
    is_due = due;
    same_view = same;
    all = ap (λ (l : List Input). l ++ File key ∷ []) is ∙ sym (map-append File loaded (key ∷ []));
  })

  one_loaded : (taken : List Input) (events : List Event) (a : Box F) (e : Event) (b : Box F) (key : List ℕ) → EventsTo reads folder taken events a.files → (g : GivesLoad reads failed has_of a e b) → g.key ≡ key
      → EventsTo reads folder (taken ++ File key ∷ []) (events ++ e ∷ []) b.files
  one_loaded taken events a e b key to g same =
      one_file reads folder taken events a.files key g.content e b.files to (g.is ∙ ap (λ (k : List ℕ). load_of k g.content) same) (subst (λ (k : List ℕ). reads a.files k g.content b.files) same g.read)

  loads_first : (taken : List Input) (events : List Event) (a : Box F) (e : Event) (b : Box F) → EventsTo reads folder taken events a.files → Keeps failed has_of has b → Waits taken a → GivesLoad reads failed has_of a e b
      → Takes taken events e b
  loads_first taken events a e b to k w g =
      let both : w.key ∷ w.more ≡ g.key ∷ b.due = sym w.is_due ∙ g.due in
      let same_key : g.key ≡ w.key = cc in
      let due : b.due ≡ w.more = cc in
      let view : b.view ≡ unread start = g.same_view ∙ w.same_view in
      let w_then : Waits taken (record { view = b.view; files = b.files; due = w.key ∷ w.more; told = b.told }) = record {
        loaded = w.loaded;
        key = w.key;
        more = w.more;
        all_keys = w.all_keys;
        is_due = refl;
        same_view = view;
        all = w.all;
      } in
      record {
        input = File w.key;
        came = record { to = one_loaded taken events a e b w.key to g same_key; stage = loads_waiting taken b w.loaded w.key w.more w.all_keys due view w.all; keeps = k };
        left = map File w.more;
        ground = waits_ground taken _ w_then;
        sound_then = ap (λ (v : View). v.source.failed) view ∙ sound;
        untold = ap (λ (v : View). v.told) view;
      }

  same_view_at : (given : List (List ℕ)) (body : List ℕ) (v w : View) → w ≡ v → At start.left given (with_bodies v (body ∷ v.bodies)) → At start.left given (with_bodies w (body ∷ w.bodies))
  same_view_at given body v w same at = subst (λ (x : View). At start.left given (with_bodies x (body ∷ x.bodies))) (sym same) at

  loads_owed : (taken : List Input) (events : List Event) (a : Box F) (e : Event) (b : Box F) → EventsTo reads folder taken events a.files → Keeps failed has_of has b → Owes taken a → GivesLoad reads failed has_of a e b
      → Takes taken events e b
  loads_owed taken events a e b to k o g =
      let both : o.key ∷ [] ≡ g.key ∷ b.due = sym o.is_due ∙ g.due in
      let same_key : g.key ≡ o.key = cc in
      let none : b.due ≡ [] = cc in
      let at = same_view_at o.given o.body a.view b.view g.same_view o.at in
      let o_then : Owes taken (record { view = b.view; files = b.files; due = o.key ∷ []; told = b.told }) = record {
        given = o.given;
        body = o.body;
        key = o.key;
        at = at;
        is_due = refl;
        behind = o.behind;
        all = o.all;
      } in
      record {
        input = File o.key;
        came = record {
          to = one_loaded taken events a e b o.key to g same_key;
          stage = clean (record {
            given = o.given ++ o.body ∷ [];
            at = At-given start.left o.given o.body b.view at;
            none_due = none;
            all = behind_keys taken (inputs_of has o.given ++ Body o.body ∷ []) (File o.key) o.all ∙ ap (λ (l : List Input). map File keys ++ l) (given_pair o.given o.body o.key o.behind);
          });
          keeps = k;
        };
        left = inputs_of has b.view.bodies;
        ground = owed_ground taken _ o_then;
        sound_then = not_failed b.view.no_more at.rest b.view.source o.body b.view.bodies at.finds;
        untold = at.untold;
      }

  -- where the next box stands at a message
  at_message : (taken : List Input) (given : List (List ℕ)) (body : List ℕ) (b : Box F) → taken ≡ map File keys ++ inputs_of has given → At start.left given (with_bodies b.view (body ∷ b.view.bodies)) → b.due ≡ files_behind has body
      → (files_behind has body ≡ []) ⊎ ((key : List ℕ) × (files_behind has body ≡ key ∷ [])) → Stage (taken ++ Body body ∷ []) b
  at_message taken given body b all at due (inl none) = clean (record {
    given = given ++ body ∷ [];
    at = At-given start.left given body b.view at;
    none_due = due ∙ none;
    all = behind_keys taken (inputs_of has given) (Body body) all ∙ ap (λ (l : List Input). map File keys ++ l) (given_alone given body none);
  })
  at_message taken given body b all at due (inr one) =
      owes (record { given = given; body = body; key = one.0; at = at; is_due = due ∙ one.1; behind = one.1; all = behind_keys taken (inputs_of has given) (Body body) all })

  message_given : (taken : List Input) (events : List Event) (a : Box F) (e : Event) (b : Box F) → EventsTo reads folder taken events a.files → Keeps failed has_of has a → Keeps failed has_of has b → Clean taken a
      → GivesMessage reads failed has_of a e b → Takes taken events e b
  message_given taken events a e b to ka k c g =
      let body = g.gives.body in
      let at = At-body start.left c.given a.view g.message b.view c.at g.gives in
      let due : b.due ≡ files_behind has body =
      g.due ∙ (same_files_at (has_of a.files) has ka.same_has (closed_by g.message) ∙ ap (λ m. files_at has (closed_by m)) g.gives.is) in
      record {
        input = Body body;
        came = record {
          to = one_body reads folder taken events a.files body e b.files to (g.is ∙ ap event.Message g.gives.is) g.same_files;
          stage = at_message taken c.given body b c.all at due (files_cases has (closed_by (message_of body)));
          keeps = k;
        };
        left = map File (files_behind has body) ++ inputs_of has b.view.bodies;
        ground = clean_ground b.view.source.left taken c.given (body ∷ b.view.bodies) at.rest c.all at.stands;
        sound_then = not_failed b.view.no_more at.rest b.view.source body b.view.bodies at.finds;
        untold = at.untold;
      }

  load_keeps : (a : Box F) (e : Event) (b : Box F) → Keeps failed has_of has a → ((key : List ℕ) → has_of b.files key ≡ has_of a.files key) → GivesLoad reads failed has_of a e b → Keeps failed has_of has b
  load_keeps a e b k same_has g = keeps_on failed has_of has a b k g.same_told g.same_failed same_has

  message_keeps : (a : Box F) (e : Event) (b : Box F) → Keeps failed has_of has a → ((key : List ℕ) → has_of b.files key ≡ has_of a.files key) → GivesMessage reads failed has_of a e b → Keeps failed has_of has b
  message_keeps a e b k same_has g = keeps_on failed has_of has a b k g.same_told (ap failed g.same_files) same_has

  takes_so : (taken : List Input) (events : List Event) (a : Box F) (e : Event) (b : Box F) → EventsTo reads folder taken events a.files → Keeps failed has_of has a → Stage taken a
      → ((key : List ℕ) → has_of b.files key ≡ has_of a.files key) → ComesSo reads failed has_of a (Some e) b → Takes taken events e b
  takes_so taken events a e b to k (waits w) same_has (inl g) = loads_first taken events a e b to (load_keeps a e b k same_has g) w g
  takes_so taken events a e b to k (waits w) same_has (inr g) = let bad = w.is_due in let due = g.none_due in absurd (cc)
  takes_so taken events a e b to k (clean c) same_has (inl g) = let bad = c.none_due in let due = g.due in absurd (cc)
  takes_so taken events a e b to k (clean c) same_has (inr g) = message_given taken events a e b to k (message_keeps a e b k same_has g) c g
  takes_so taken events a e b to k (owes o) same_has (inl g) = loads_owed taken events a e b to (load_keeps a e b k same_has g) o g
  takes_so taken events a e b to k (owes o) same_has (inr g) = let bad = o.is_due in let due = g.none_due in absurd (cc)

  pub takes : (taken : List Input) (events : List Event) (a : Box F) (e : Event) (b : Box F) → Came taken events a → Comes reads failed has_of a (Some e) b → Takes taken events e b
  takes taken events a e b m s = takes_so taken events a e b m.to m.keeps m.stage s.same_has s.so

  -- ---- many steps

  pub record Took (events : List Event) (b : Box F) : Type 0 where
    pub inputs : List Input
    pub came : Came inputs events b

  took_on : (taken : List Input) (past : List Event) (a : Box F) (events : List Event) (b : Box F) → Came taken past a → Yields (Comes reads failed has_of) a events b → Took (past ++ events) b
  took_on taken past a [] b m h = record { inputs = taken; came = subst (λ (l : List Event). Came taken l b) (sym (append-nil past)) (subst (Came taken past) h m) }
  took_on taken past a (e ∷ events) b m h =
      let t = takes taken past a e h.0 m h.1 in
      subst (λ (l : List Event). Took l b) (append_assoc past (e ∷ []) events) (took_on (taken ++ t.input ∷ []) (past ++ e ∷ []) h.0 events b t.came h.2)

  begins_in : (b : Box F) (due : List (List ℕ)) → keys ≡ due → b.due ≡ due → b.view ≡ unread start → Stage [] b
  begins_in b [] none is same = clean (record {
    given = [];
    at = subst (λ (v : View). At start.left [] v) (sym same) (At-start start sound);
    none_due = is;
    all = sym (ap (λ (l : List (List ℕ)). map File l ++ []) none);
  })
  begins_in b (key ∷ more) some is same = waits (record { loaded = []; key = key; more = more; all_keys = some; is_due = is; same_view = same; all = refl })

  pub took_all : (it : Box F) (events : List Event) (b : Box F) → it.files ≡ folder → it.view ≡ unread start → it.due ≡ keys → it.told ≡ None → failed it.files ≡ false → Yields (Comes reads failed has_of) it events b → Took events b
  took_all it events b in_folder begins due untold good y =
      took_on [] [] it events b (record {
        to = in_folder;
        stage = begins_in it keys refl due begins;
        keeps = record { same_has = λ key. ap (λ x. has_of x key) in_folder; untold = untold; sound = good };
      }) y
