-- What a reader posted, from the steps by which it came.
use Rattle.std.proofs.Common.{◌≡◌, inl, inr, ℕ, Bool, true, false, List, [], ◌∷◌, ◌++◌, map, length, Option, Some, None, ap, sym, refl, ◌∙◌, subst, append-nil, append_assoc, length-append, ◌+◌, arith}
use Rattle.std.specs.Iterator.{Yields}
use Rattle.std.specs.Option.{option_or}
use mathlib.Core.List.{IsPrefix}
use Rattle.gq_events.specs.declared.event.Event.{Event}
use Rattle.gq_events.specs.declared.event.Event.TheVariants as event
use Rattle.gq_events.specs.declared.event.InputEnd.TheVariants.{Border, Fault}
use Rattle.gq_events.specs.declared.event.LoadedContent.{LoadedContent}
use Rattle.gq_desk.specs.Driving.{events_max}
use Rattle.gq_reader.specs.declared.fault.RunFault.{RunFault}
use Rattle.gq_reader.specs.declared.fault.RunFault.TheVariants as fault
use Rattle.gq_reader.specs.declared.reader.NoMore.{NoMore}
use Rattle.gq_reader.specs.declared.reader.NoMore.TheVariants as no_more
use Rattle.gq_reader.specs.Inputs.{Input, File, inputs_of}
use Rattle.gq_reader.specs.Reading.{SourceAfter, FilesAfter}
use Rattle.gq_reader.specs.Reader.{View, unread, with_bodies, with_told, Finds, Tells, fault_of}
use Rattle.gq_reader.specs.Loads.{IsToldOf}
use Rattle.gq_reader.specs.Coming.{Box, Comes, ComesSo, LacksLoad, LacksKey, LacksMessage}
use Rattle.gq_reader.proofs.Readers.{Stands, At-fills, At-body}
use Rattle.gq_reader.proofs.Taken.{events_are}
use Rattle.gq_reader.proofs.Comings.{Ground, Stage, waits, clean, owes, Waits, Clean, Owes, Came, took_all, clean_ground, owed_ground, waits_ground, came_ground}
use Rattle.gq_crew.specs.Crew.{IsReadFault, EndsReading, Posts}
use Rattle.gq_crew.specs.declared.reader_side.Posting.{Posting}
use Rattle.gq_crew.specs.declared.reader_side.Posting.TheVariants.{Stopped, Ended, TooMany}
use Rattle.gq_crew.specs.Helping.Posting.{PostsOne, PostsAll, end_by}
use Rattle.gq_crew.proofs.Desking.{yields_more}
use Rattle.gq_crew.proofs.Driven.{sees_all}

prefix_all : (xs : List Event) → IsPrefix xs xs
prefix_all xs = ([], append-nil xs)

-- one more was posted, or not
pub posts_one : (events : List Event) (e : Event) (b : Bool) (posted : List Event) → PostsOne e b events posted → IsPrefix posted (events ++ e ∷ [])
posts_one events e true posted p = subst (λ (l : List Event). IsPrefix l (events ++ e ∷ [])) (sym p) (prefix_all (events ++ e ∷ []))
posts_one events e false posted p = (e ∷ [], ap (λ (l : List Event). l ++ e ∷ []) p)

-- ---- one event more

module _ {X : Type 0} (steps : X → Option Event → X → Type 0) (a : X) (posted : List Event) where
  -- the events so far came, and were posted
  abbrev pub Came_so_far : ℕ → X → List Event → Type 0
  Came_so_far n b posted' = (events : List Event) × Yields steps a events b × (posted' ≡ posted ++ events) × (length events ≡ n)

  -- one more came, and it was posted, or not
  pub stops_after : (n : ℕ) (mid : X) (before : List Event) (e : Event) (b : X) (taken : Bool) (after : List Event) → Came_so_far n mid before → steps mid (Some e) b → PostsOne e taken before after → PostsAll steps a posted Stopped b after
  stops_after n mid before e b taken after c s one =
      let p = posts_one (posted ++ c.0) e taken after (subst (λ (l : List Event). PostsOne e taken l after) c.2 one) in
      (c.0 ++ e ∷ [], yields_more steps a c.0 mid e b c.1 s, subst (IsPrefix after) (append_assoc posted c.0 (e ∷ [])) p)

  pub goes_on : (n : ℕ) (mid : X) (before : List Event) (e : Event) (b : X) (after : List Event) → Came_so_far n mid before → steps mid (Some e) b → after ≡ before ++ e ∷ [] → Came_so_far (n + 1) b after
  goes_on n mid before e b after c s one =
      (c.0 ++ e ∷ [], yields_more steps a c.0 mid e b c.1 s, one ∙ (ap (λ (l : List Event). l ++ e ∷ []) c.2 ∙ append_assoc posted c.0 (e ∷ [])), omega (arith, length-append c.0 (e ∷ []), c.3))

module _ {F : Type 0} (reads : F → List ℕ → LoadedContent → F → Type 0) (failed : F → Bool) (has_of : F → List ℕ → Bool) (folder : F) (keys : List (List ℕ)) (start : SourceAfter) (sound : start.failed ≡ false)
    (it : Box F) (in_folder : it.files ≡ folder) (begins : it.view ≡ unread start) (all_due : it.due ≡ keys) (untold : it.told ≡ None) (good : failed it.files ≡ false)
    (it' : Box F) (files : FilesAfter) (files_after : files.failed ≡ failed it'.files) where
  abbrev has : List ℕ → Bool
  has = has_of folder

  abbrev after : SourceAfter
  after = it'.view.source

  abbrev Came_so : List Input → List Event → Box F → Type 0
  Came_so taken events b = Came reads failed has_of folder keys start sound taken events b

  abbrev Posts_so : Option RunFault → List Event → Type 0
  Posts_so told posted = Posts reads has folder keys files start.left after told posted

  -- of what was read
  posts_of : (taken left : List Input) (events ending posted : List Event) (told : Option RunFault) (b : Box F) → (g : Ground has keys start.left after.left taken taken left) → Came_so taken events b
      → EndsReading ending told left g.rest after files events → IsPrefix posted (events ++ ending) → Posts_so told posted
  posts_of taken left events ending posted told b g came ends p = record {
    read = g.read;
    bodies = g.bodies;
    rest = g.rest;
    inputs = taken;
    left = left;
    events = events;
    ending = ending;
    took = g.took;
    cuts = g.cuts;
    all = g.all;
    are_events = events_are reads folder taken events b.files came.to;
    ends = ends;
    posts = p;
  }

  -- ---- posting stopped, or as many came as there may be

  pub stopped : (events posted : List Event) → Yields (Comes reads failed has_of) it events it' → IsPrefix posted events → Posts_so None posted
  stopped events posted y p =
      let m = took_all reads failed has_of folder keys start sound it events it' in_folder begins all_due untold good y in
      let g = came_ground reads failed has_of folder keys start sound m.inputs events it' m.came in
      posts_of m.inputs g.0 events [] posted None it' g.1 m.came (inl refl) (subst (IsPrefix posted) (sym (append-nil events)) p)

  pub too_many : (events posted : List Event) → Yields (Comes reads failed has_of) it events it' → length events ≡ events_max → IsPrefix posted (events ++ event.End Fault ∷ []) → Posts_so (Some fault.Device) posted
  too_many events posted y many p =
      let m = took_all reads failed has_of folder keys start sound it events it' in_folder begins all_due untold good y in
      let g = came_ground reads failed has_of folder keys start sound m.inputs events it' m.came in
      posts_of m.inputs g.0 events (event.End Fault ∷ []) posted (Some fault.Device) it' g.1 m.came (refl, inr (inr many)) p

  -- ---- nothing more came

  abbrev pub told_then : Option RunFault
  told_then = option_or it'.told it'.view.told

  module _ (events posted : List Event) (mid : Box F) (taken : List Input) (came : Came_so taken events mid) (p : IsPrefix posted (events ++ event.End (end_by told_then) ∷ [])) where
    -- at a fault that was told
    at_fault : (why : RunFault) (left : List Input) → (g : Ground has keys start.left after.left taken taken left) → told_then ≡ Some why → IsReadFault why left g.rest after files events → Posts_so told_then posted
    at_fault why left g told is =
        subst (λ (t : Option RunFault). Posts_so t posted) (sym told)
        (posts_of taken left events (event.End Fault ∷ []) posted (Some why) mid g came (refl, is) (subst (λ (t : Option RunFault). IsPrefix posted (events ++ event.End (end_by t) ∷ [])) told p))

    -- a ground that is seen so is seen so now
    seen_now : (left : List Input) → it'.view ≡ mid.view → Ground has keys start.left mid.view.source.left taken taken left → Ground has keys start.left after.left taken taken left
    seen_now left same g = subst (λ (w : View). Ground has keys start.left w.source.left taken taken left) (sym same) g

    told_by_files : (why : RunFault) → it'.told ≡ Some why → told_then ≡ Some why
    told_by_files why is = ap (λ (o : Option RunFault). option_or o it'.view.told) is

    lost : (left : List Input) → Ground has keys start.left after.left taken taken left → (before : Bool) → IsToldOf it'.told before (failed it'.files) → Posts_so told_then posted
    lost left g before (inl t) = at_fault fault.Device left g (told_by_files fault.Device t.0) (inr (inl (files_after ∙ t.1)))
    lost left g before (inr t) = at_fault fault.NoMemory left g (told_by_files fault.NoMemory t.0) tt

    waits_on : Waits reads failed has_of folder keys start sound taken mid → LacksLoad reads failed has_of mid it' → Posts_so told_then posted
    waits_on w x = lost (map File (w.key ∷ w.more)) (seen_now (map File (w.key ∷ w.more)) x.same_view (waits_ground reads failed has_of folder keys start sound taken mid w)) (failed mid.files) x.told

    owes_on : Owes reads failed has_of folder keys start sound taken mid → LacksLoad reads failed has_of mid it' → Posts_so told_then posted
    owes_on o x =
        let left = File o.key ∷ inputs_of has mid.view.bodies in
        lost left (seen_now left x.same_view (owed_ground reads failed has_of folder keys start sound taken mid o)) (failed mid.files) x.told

    abbrev ground_at : (given bodies : List (List ℕ)) (rest : List ℕ) → taken ≡ map File keys ++ inputs_of has given → Stands start.left after.left given bodies rest → Ground has keys start.left after.left taken taken (inputs_of has bodies)
    ground_at given bodies rest all st = clean_ground reads failed has_of folder keys start sound after.left taken given bodies rest all st

    lacks_key : Clean reads failed has_of folder keys start sound taken mid → LacksKey reads failed has_of mid it' → Posts_so told_then posted
    lacks_key c x =
        let body = x.gives.body in
        let at = At-body start.left c.given mid.view x.message it'.view c.at x.gives in
        at_fault fault.NoMemory (inputs_of has (body ∷ it'.view.bodies)) (ground_at c.given (body ∷ it'.view.bodies) at.rest c.all at.stands) (told_by_files fault.NoMemory x.told) tt

    at_end : (given : List (List ℕ)) (rest : List ℕ) (why : NoMore) → taken ≡ map File keys ++ inputs_of has given → Stands start.left after.left given [] rest → Finds (Some why) rest after [] → told_then ≡ fault_of why → Posts_so told_then posted
    at_end given rest no_more.End all st f told =
        subst (λ (t : Option RunFault). Posts_so t posted) (sym told)
        (posts_of taken [] events (event.End Border ∷ []) posted None mid (ground_at given [] rest all st) came (inr (refl, record { none_left = refl; no_rest = f.2; tells = f.3 }))
        (subst (λ (t : Option RunFault). IsPrefix posted (events ++ event.End (end_by t) ∷ [])) told p))
    at_end given rest (no_more.Fault (fault.Frame why)) all st f told = at_fault (fault.Frame why) [] (ground_at given [] rest all st) told (refl, f.1)
    at_end given rest (no_more.Fault fault.Device) all st f told = at_fault fault.Device [] (ground_at given [] rest all st) told (inl f.0)
    at_end given rest (no_more.Fault fault.NoMemory) all st f told = absurd f
    at_end given rest (no_more.Fault fault.TooDeep) all st f told = absurd f
    at_end given rest (no_more.Fault fault.TooMany) all st f told = absurd f
    at_end given rest (no_more.Fault fault.Closed) all st f told = absurd f
    at_end given rest (no_more.Fault fault.NoPlace) all st f told = absurd f
    at_end given rest (no_more.Fault fault.NoThread) all st f told = absurd f

    told_by : (given bodies : List (List ℕ)) (rest : List ℕ) (why : Option NoMore) (told : Option RunFault) → taken ≡ map File keys ++ inputs_of has given → Stands start.left after.left given bodies rest → Finds why rest after bodies
        → Tells bodies why told → told_then ≡ told → Posts_so told_then posted
    told_by given [] rest why told all st finds tells same =
        at_end given rest tells.0 all st (subst (λ (o : Option NoMore). Finds o rest after []) tells.1 finds) (same ∙ tells.2)
    told_by given (body ∷ bodies) rest why told all st finds tells same = at_fault fault.NoMemory (inputs_of has (body ∷ bodies)) (ground_at given (body ∷ bodies) rest all st) (same ∙ tells) tt

    lacks_message : Clean reads failed has_of folder keys start sound taken mid → LacksMessage reads failed has_of mid it' → Posts_so told_then posted
    lacks_message c x =
        let n = x.gives in
        let at = At-fills start.left c.given mid.view (with_told (with_bodies it'.view n.bodies) mid.view.told) c.at n.fills in
        told_by c.given n.bodies at.rest it'.view.no_more it'.view.told c.all at.stands at.finds n.tells (ap (λ (o : Option RunFault). option_or o it'.view.told) (x.same_told ∙ came.keeps.untold))

    ended_by : Stage reads failed has_of folder keys start sound taken mid → ComesSo reads failed has_of mid None it' → Posts_so told_then posted
    ended_by (waits w) (inl x) = waits_on w x
    ended_by (waits w) (inr (inl x)) = let none = x.none_due in let due = w.is_due in absurd (cc)
    ended_by (waits w) (inr (inr x)) = let none = x.none_due in let due = w.is_due in absurd (cc)
    ended_by (clean c) (inl x) = let none = c.none_due in let due = x.due in absurd (cc)
    ended_by (clean c) (inr (inl x)) = lacks_key c x
    ended_by (clean c) (inr (inr x)) = lacks_message c x
    ended_by (owes o) (inl x) = owes_on o x
    ended_by (owes o) (inr (inl x)) = let none = x.none_due in let due = o.is_due in absurd (cc)
    ended_by (owes o) (inr (inr x)) = let none = x.none_due in let due = o.is_due in absurd (cc)

  pub ended : (events posted : List Event) (mid : Box F) → Yields (Comes reads failed has_of) it events mid → Comes reads failed has_of mid None it' → IsPrefix posted (events ++ event.End (end_by told_then) ∷ []) → Posts_so told_then posted
  ended events posted mid y s p =
      let m = took_all reads failed has_of folder keys start sound it events mid in_folder begins all_due untold good y in
      ended_by events posted mid m.inputs m.came p m.came.stage s.so

-- the same of a reader, whose steps are known by what they are of its plain data
module _ {X N F : Type 0} (reads : F → List ℕ → LoadedContent → F → Type 0) (failed : F → Bool) (has_of : F → List ℕ → Bool) (steps : X → Option Event → X → Type 0) (box : X → Box F) (name : X → N)
    (sees : (a : X) (r : Option Event) (b : X) → steps a r b → (name b ≡ name a) × Comes reads failed has_of (box a) r (box b))
    (folder : F) (keys : List (List ℕ)) (start : SourceAfter) (sound : start.failed ≡ false)
    (it it' : X) (in_folder : (box it).files ≡ folder) (begins : (box it).view ≡ unread start) (all_due : (box it).due ≡ keys) (untold : (box it).told ≡ None) (good : failed (box it).files ≡ false)
    (files : FilesAfter) (files_after : files.failed ≡ failed (box it').files) where
  abbrev Posts_in : Option RunFault → List Event → Type 0
  Posts_in told posted = Posts reads (has_of folder) folder keys files start.left (box it').view.source told posted

  abbrev pub told_last : Option RunFault
  told_last = option_or (box it').told (box it').view.told

  abbrev Posted_so : Posting → List Event → Type 0
  Posted_so posting posted = PostsAll steps it [] posting it' posted

  pub stopped_in : (posted : List Event) → Posted_so Stopped posted → Posts_in None posted
  stopped_in posted p =
      stopped reads failed has_of folder keys start sound (box it) in_folder begins all_due untold good (box it') files files_after p.0 posted (sees_all reads failed has_of steps box name sees it p.0 it' p.1).1 p.2

  pub ended_in : (before posted : List Event) (b : Bool) → Posted_so Ended before → PostsOne (event.End (end_by told_last)) b before posted → Posts_in told_last posted
  ended_in before posted b p one =
      let y = sees_all reads failed has_of steps box name sees it p.0 p.1.0 p.1.1 in
      ended reads failed has_of folder keys start sound (box it) in_folder begins all_due untold good (box it') files files_after p.0 posted (box p.1.0) y.1 (sees p.1.0 None it' p.1.2).1
      (posts_one p.0 (event.End (end_by told_last)) b posted (subst (λ (l : List Event). PostsOne (event.End (end_by told_last)) b l posted) p.2 one))

  pub too_many_in : (before posted : List Event) (b : Bool) → Posted_so TooMany before → PostsOne (event.End Fault) b before posted → Posts_in (Some fault.Device) posted
  too_many_in before posted b p one =
      too_many reads failed has_of folder keys start sound (box it) in_folder begins all_due untold good (box it') files files_after p.0 posted (sees_all reads failed has_of steps box name sees it p.0 it' p.1).1 p.3
      (posts_one p.0 (event.End Fault) b posted (subst (λ (l : List Event). PostsOne (event.End Fault) b l posted) p.2 one))
