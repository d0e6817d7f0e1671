-- What fragments that are spread together reach, kept by keys; and the fields of a group, which are its sets' own and those.
use Rattle.std.proofs.Common.{◌≡◌, ◌↔◌, ◌⊎◌, ⊎_elim, inl, inr, ℕ, ◌+◌, ◌<◌, List, [], ◌∷◌, ◌++◌, append-nil, Some, None, All, Contains, length, map, take, get_or, refl, sym, ◌∙◌, ap, subst, Vec, Global}
use Rattle.std.specs.List.{slice_get, flat_map}
use Rattle.std.specs.Option.{option_map}
use Rattle.std.proofs.lemmas.List.{length-map, map-append, take_more}
use Rattle.std.proofs.lemmas.List.Elements.{All-contains, Contains-append_left, Contains-append_right, Contains-append_cases, Contains-push, Contains-push_cases}
use Rattle.std.proofs.lemmas.Option.{none-some, same_Some, slice_get-map, slice_get_within, slice_get_read}
use Rattle.gq_names.proofs.RepeatLemmas.{contains_none}
use Rattle.gq_graph.specs.Reach.{Reach, row}
use Rattle.gq_fault.specs.declared.fault.Fault.{Fault}
use Rattle.gq_types.specs.Entries.{Text}
use Rattle.gq_document.specs.FieldSets.{key}
use Rattle.gq_merging.specs.Helping.SetTables.{MemberOf, RowOf, members_at, spreads_at}
use Rattle.gq_merging.specs.Helping.GroupTables.{IsOfGroup}
use Rattle.gq_merging.specs.Helping.PairTables.{MetOf, LookOf, AreMet}
use Rattle.gq_merging.specs.Helping.NameTables.{ByNameOf, by_name_view, fields_with, AreByKey}
use Rattle.gq_merging.specs.Helping.SearchTables.{AreInGroup, AreOfOneKey, AreMetInOne, Searched}
use Rattle.gq_merging.specs.Helping.KeptTables.{KeptOf, AreByTheirKeys, IsTableOf, IsKept, AreKept, IsTableAt, ArePut, AreMetBeside, AreMetBesideOne, table_view, tables_view}
use Rattle.gq_merging.specs.Helping.PartTables.{AreSplit}
use Rattle.gq_merging.specs.Helping.Views.{member_view, members_view, rows_view}
use Rattle.gq_merging.specs.declared.rows.Member.{Member}
use Rattle.gq_merging.specs.declared.rows.Row.{Row}
use Rattle.gq_merging.specs.declared.kept.Table.{Table}
use Rattle.gq_merging.proofs.ClassSearch.{seen, seen_tell, list_of_member}
use Rattle.gq_merging.proofs.MemberLemmas.{get_contains}
use Rattle.gq_merging.proofs.Worklist.{get_seam}
use Rattle.gq_merging.proofs.MemberSteps.{alike, reach_alike}
use Rattle.gq_merging.proofs.GrowLemmas.{searched_as, searched_both, searched_nowhere, still_in_one}
use Rattle.gq_types.proofs.Gathered.{from_flat, to_flat}

-- the fields of a group are those of all that it reaches
module _ (rows : List Row) (table : List (Vec ℕ Global)) (same : map (λ v. v.items) table ≡ map (λ r. r.spreads.items) rows) (group found : List ℕ) (ms : List MemberOf)
    (sound : All (λ n. Reach group (row table) n) found) (complete : (n : ℕ) → Reach group (row table) n → Contains found n) (is : ms ≡ flat_map (members_at (rows_view rows)) found) where
  members_of_group : (m : MemberOf) → Contains ms m ↔ IsOfGroup (rows_view rows) group m
  members_of_group m = (
    (λ c. let q = from_flat (members_at (rows_view rows)) found m (subst (λ ls. Contains ls m) is c) in
        record {
          reached = q.0;
          reach = reach_alike (row table) (spreads_at (rows_view rows)) group (alike rows table same) q.0 (All-contains (λ n. Reach group (row table) n) found q.0 sound q.1);
          stands = q.2;
        }),
    (λ h. subst (λ ls. Contains ls m) (sym is)
        (to_flat (members_at (rows_view rows)) found h.reached m
        (complete h.reached (reach_alike (spreads_at (rows_view rows)) (row table) group (λ n. sym (alike rows table same n)) h.reached h.reach)) h.stands)),
  )

  -- by keys they are the table of the group
  pub group_table : (t : ByNameOf) → AreByKey t ms → IsTableOf (rows_view rows) group t
  group_table t by_key = record {
    each = λ text m. (
      (λ c. let h = (by_key.each text m).0 c in ((members_of_group m).0 h.0, h.1)),
      (λ h. (by_key.each text m).1 ((members_of_group m).1 h.0, h.1)),
    );
  }

  -- what is found in the lists by key is found in the group
  pub group_searched : (w : LookOf) (vs : List (Vec Member Global)) (t : ByNameOf) → t.lists ≡ map seen vs → AreByKey t ms → (faults faults' : List Fault) (old new : List (List ℕ)) →
      Searched w (AreMetInOne (map seen vs)) faults faults' old new → Searched w (AreInGroup (rows_view rows) group) faults faults' old new
  group_searched w vs t are by_key faults faults' old new s =
      searched_as w (AreMetInOne (map seen vs)) (AreInGroup (rows_view rows) group) faults faults' old new
      (λ p.
      let tell = seen_tell vs t are ms by_key p in (
        (λ h. let m = tell.0 h in record { left = (members_of_group p.left).0 m.stands_left; right = (members_of_group p.right).0 m.stands_right; one_key = m.one_key }),
        (λ h. tell.1 (record { stands_left = (members_of_group p.left).1 h.left; stands_right = (members_of_group p.right).1 h.right; one_key = h.one_key })),
      )) s

-- the fields of a table are under their keys
pub by_their_keys : (rows : List RowOf) (fragments : List ℕ) (t : ByNameOf) → IsTableOf rows fragments t → AreByTheirKeys t
by_their_keys rows fragments t is = record { each = λ text m c. ((is.each text m).0 c).1 }

-- a list of one key with those that a table has for it
module _ (list : List MemberOf) (one_key : AreOfOneKey list) (t : ByNameOf) (keys : AreByTheirKeys t) (first : MemberOf) (stands : Contains list first) (others : List MemberOf)
    (are : others ≡ fields_with t (key first.field_at)) where
  its_key : (m : MemberOf) → Contains (list ++ others) m → key first.field_at ≡ key m.field_at
  its_key m c = ⊎_elim (λ l. one_key.each first m stands l) (λ o. sym (keys.each (key first.field_at) m (subst (λ ms. Contains ms m) are o))) (Contains-append_cases list others m c)

  pub beside_of_one_key : AreOfOneKey (list ++ others)
  beside_of_one_key = record { each = λ a b ca cb. sym (its_key a ca) ∙ its_key b cb }

  the_others : (p : MetOf) → key first.field_at ≡ key p.left.field_at → list ++ fields_with t (key p.left.field_at) ≡ list ++ others
  the_others p e = ap (λ k. list ++ fields_with t k) (sym e) ∙ ap (λ ms. list ++ ms) (sym are)

  pub beside_told : (p : MetOf) → AreMet (list ++ others) (list ++ others) p ↔ AreMetBeside list t p
  beside_told p = (
    (λ m.
        let e = its_key p.left m.stands_left in
        record {
          one = first;
          stands = stands;
          same = e;
          left = subst (λ ms. Contains ms p.left) (sym (the_others p e)) m.stands_left;
          right = subst (λ ms. Contains ms p.right) (sym (the_others p e)) m.stands_right;
          one_key = m.one_key;
        }),
    (λ m.
        let e = one_key.each first m.one stands m.stands ∙ m.same in
        record {
          stands_left = subst (λ ms. Contains ms p.left) (the_others p e) m.left;
          stands_right = subst (λ ms. Contains ms p.right) (the_others p e) m.right;
          one_key = m.one_key;
        }),
  )

  pub beside_searched : (w : LookOf) (faults faults' : List Fault) (old new : List (List ℕ)) → Searched w (AreMet (list ++ others) (list ++ others)) faults faults' old new →
      Searched w (AreMetBeside list t) faults faults' old new
  beside_searched w faults faults' old new s = searched_as w (AreMet (list ++ others) (list ++ others)) (AreMetBeside list t) faults faults' old new beside_told s

-- the table has none for it
pub alone_searched : (list : List MemberOf) → AreOfOneKey list → (t : ByNameOf) → AreByTheirKeys t → (first : MemberOf) → Contains list first → fields_with t (key first.field_at) ≡ [] →
    (w : LookOf) (faults faults' : List Fault) (old new : List (List ℕ)) → Searched w (AreMet list list) faults faults' old new → Searched w (AreMetBeside list t) faults faults' old new
alone_searched list one_key t keys first stands none w faults faults' old new s =
    beside_searched list one_key t keys first stands [] (sym none) w faults faults' old new (subst (λ ms. Searched w (AreMet ms ms) faults faults' old new) (sym (append-nil list)) s)

-- the first of a list
pub first_none : (ms : List Member) → slice_get ms 0 ≡ None → members_view ms ≡ []
first_none [] e = refl
first_none (m ∷ ms) e = absurd (none-some m (sym e))

pub first_there : (ms : List Member) (m : Member) → slice_get ms 0 ≡ Some m → Contains (members_view ms) (member_view m)
first_there ms m e = get_contains (members_view ms) 0 (member_view m) (slice_get-map member_view ms 0 ∙ ap (option_map member_view) e)

-- no field stands in it
pub none_beside : (list : List MemberOf) (t : ByNameOf) → list ≡ [] → (w : LookOf) (faults : List Fault) (old : List (List ℕ)) → Searched w (AreMetBeside list t) faults faults old old
none_beside list t none w faults old = searched_nowhere w (AreMetBeside list t) faults old (λ p m. contains_none m.one (subst (λ ms. Contains ms m.one) none m.stands))

-- one list more
besides_more : (ls : List (List MemberOf)) (l : List MemberOf) (t : ByNameOf) (p : MetOf) → (AreMetBesideOne ls t p ⊎ AreMetBeside l t p) ↔ AreMetBesideOne (ls ++ l ∷ []) t p
besides_more ls l t p = (
  (λ s. ⊎_elim
      (λ h. record { list = h.list; is_list = Contains-append_left ls (l ∷ []) h.list h.is_list; met = h.met })
      (λ m. record { list = l; is_list = Contains-push ls l; met = m }) s),
  (λ h. ⊎_elim
      (λ c. inl (record { list = h.list; is_list = c; met = h.met }))
      (λ e. inr (subst (λ k. AreMetBeside k t p) (sym e) h.met)) (Contains-push_cases ls l h.list h.is_list)),
)

module _ (w : LookOf) (t : ByNameOf) where
  pub lists_more_beside : (vs : List (Vec Member Global)) (i : ℕ) (d : Vec Member Global) (faults middle faults' : List Fault) (old between new : List (List ℕ)) → i < length vs → get_or vs i d ≡ d →
      Searched w (AreMetBesideOne (map seen (take i vs)) t) faults middle old between → Searched w (AreMetBeside (seen d) t) middle faults' between new →
      Searched w (AreMetBesideOne (map seen (take (i + 1) vs)) t) faults faults' old new
  lists_more_beside vs i d faults middle faults' old between new l e a b =
      let front = map seen (take i vs) in
      let more : map seen (take (i + 1) vs) ≡ front ++ seen d ∷ [] = ap (map seen) (take_more vs i d l) ∙ map-append seen (take i vs) (get_or vs i d ∷ []) ∙ ap (λ y. front ++ seen y ∷ []) e in
      subst (λ ls. Searched w (AreMetBesideOne ls t) faults faults' old new) (sym more)
      (searched_as w (λ p. AreMetBesideOne front t p ⊎ AreMetBeside (seen d) t p) (AreMetBesideOne (front ++ seen d ∷ []) t) faults faults' old new (besides_more front (seen d) t)
      (searched_both w (AreMetBesideOne front t) (AreMetBeside (seen d) t) faults middle faults' old between new a b))

  pub no_lists_beside : (faults : List Fault) (old : List (List ℕ)) → Searched w (AreMetBesideOne [] t) faults faults old old
  no_lists_beside faults old = searched_nowhere w (AreMetBesideOne [] t) faults old (λ p h. contains_none h.list h.is_list)

-- Of two fields of one key in a group both are among those that the fragments reach, or one of them is among the others.
module _ (rows : List RowOf) (group : List ℕ) (own : List MemberOf) (fragments : List ℕ) (split : AreSplit rows group own fragments) (vs : List (Vec Member Global)) (o : ByNameOf) (are : o.lists ≡ map seen vs)
    (by_key : AreByKey o own) (t : ByNameOf) (is : IsTableOf rows fragments t) where
  -- a field of the group that has the key of one of its own stands in the list of that, or with those that the table has for it
  in_list_or_table : (list : List MemberOf) → (m : MemberOf) → ((v : MemberOf) → Contains own v → key v.field_at ≡ key m.field_at → Contains list v) →
      (text : Text) → key m.field_at ≡ text → IsOfGroup rows group m → Contains (list ++ fields_with t text) m
  in_list_or_table list m holds text e h = ⊎_elim
      (λ c. Contains-append_left list (fields_with t text) m (holds m c refl))
      (λ r. Contains-append_right list (fields_with t text) m ((is.each text m).1 (r, e)))
      ((split.each m).0 h)

  of_the_group : (list : List MemberOf) → Contains o.lists list → (text : Text) (m : MemberOf) → Contains (list ++ fields_with t text) m → IsOfGroup rows group m
  of_the_group list c text m h = ⊎_elim
      (λ l. (split.each m).1 (inl ((list_of_member o own by_key).0 list c m l)))
      (λ r. (split.each m).1 (inr ((is.each text m).0 r).0))
      (Contains-append_cases list (fields_with t text) m h)

  -- one of its own fields, with all that have its key
  with_own : (p : MetOf) → AreInGroup rows group p → (m : MemberOf) → Contains own m → key m.field_at ≡ key p.left.field_at → AreMetBesideOne o.lists t p
  with_own p h m c e =
      let q = (list_of_member o own by_key).1 m c in
      record {
        list = q.0;
        is_list = q.1;
        met = record {
          one = m;
          stands = q.2 m c refl;
          same = e;
          left = in_list_or_table q.0 p.left (λ v d k. q.2 v d (k ∙ sym e)) (key p.left.field_at) refl h.left;
          right = in_list_or_table q.0 p.right (λ v d k. q.2 v d (k ∙ sym h.one_key ∙ sym e)) (key p.left.field_at) (sym h.one_key) h.right;
          one_key = h.one_key;
        };
      }

  own_or_kept : (p : MetOf) → (AreInGroup rows fragments p ⊎ AreMetBesideOne o.lists t p) ↔ AreInGroup rows group p
  own_or_kept p = (
    (λ s. ⊎_elim
        (λ k. record { left = (split.each p.left).1 (inr k.left); right = (split.each p.right).1 (inr k.right); one_key = k.one_key })
        (λ b. record {
          left = of_the_group b.list b.is_list (key p.left.field_at) p.left b.met.left;
          right = of_the_group b.list b.is_list (key p.left.field_at) p.right b.met.right;
          one_key = b.met.one_key;
        }) s),
    (λ h. ⊎_elim
        (λ c. inr (with_own p h p.left c refl))
        (λ l. ⊎_elim
        (λ c. inr (with_own p h p.right c (sym h.one_key)))
        (λ r. inl (record { left = l; right = r; one_key = h.one_key }))
        ((split.each p.right).0 h.right))
        ((split.each p.left).0 h.left)),
  )

  pub group_told : (w : LookOf) (faults middle faults' : List Fault) (old between new : List (List ℕ)) →
      Searched w (AreInGroup rows fragments) faults middle old between → Searched w (AreMetBesideOne (map seen vs) t) middle faults' between new →
      Searched w (AreInGroup rows group) faults faults' old new
  group_told w faults middle faults' old between new a b =
      searched_as w (λ p. AreInGroup rows fragments p ⊎ AreMetBesideOne o.lists t p) (AreInGroup rows group) faults faults' old new own_or_kept
      (searched_both w (AreInGroup rows fragments) (AreMetBesideOne o.lists t) faults middle faults' old between new a
      (subst (λ ls. Searched w (AreMetBesideOne ls t) middle faults' between new) (sym are) b))

-- the code's tables
pub table_at : (ts : List Table) (place : ℕ) (t : Table) (fragments : List ℕ) → slice_get ts place ≡ Some t → t.fragments.items ≡ fragments → IsTableAt (tables_view ts) place fragments
table_at ts place t fragments e is = record { table = table_view t; at = slice_get-map table_view ts place ∙ ap (option_map table_view) e; is = is }

pub table_put : (old middle new : List Table) (place : ℕ) (t : Table) → ((j : KeptOf) → Contains (tables_view middle) j → Contains (tables_view old) j) → new ≡ middle ++ t ∷ [] → place ≡ length middle →
    ArePut (tables_view old) (tables_view new) place (table_view t)
table_put old middle new place t keeps e last =
    let pushed : tables_view new ≡ tables_view middle ++ table_view t ∷ [] = ap tables_view e ∙ map-append table_view middle (t ∷ []) in
    record {
      at = ap (slice_get (tables_view new)) (last ∙ sym (length-map middle table_view)) ∙ ap (λ ks. slice_get ks (length (tables_view middle))) pushed ∙ get_seam (tables_view middle) (table_view t) [];
      others = λ j c. ⊎_elim (λ o. inl (keeps j o)) (λ q. inr (sym q)) (Contains-push_cases (tables_view middle) (table_view t) j (subst (λ ks. Contains ks j) pushed c));
    }

-- tables that are kept
module _ (w : LookOf) where
  -- what was looked at is looked at where there is more
  pub searched_still : (A : MetOf → Type 0) (faults faults' : List Fault) (groups groups' added : List (List ℕ)) → ((fault : Fault) → Contains faults fault → Contains faults' fault) → groups' ≡ groups ++ added →
      Searched w A faults faults groups groups → Searched w A faults' faults' groups' groups'
  searched_still A faults faults' groups groups' added keeps e s = record {
    tells = λ fault. (inl, (λ c. ⊎_elim (λ d. d) (λ g. keeps fault ((s.tells fault).1 (inr g))) c));
    grows = record {
      added = [];
      is = sym (append-nil groups');
      taken = λ q h. absurd (contains_none h.group h.is_group);
      holds = λ q i. still_in_one w.rows groups groups' added e q (s.grows.holds q i);
    };
  }

  pub kept_still : (faults faults' : List Fault) (groups groups' added : List (List ℕ)) (ks : List KeptOf) → ((fault : Fault) → Contains faults fault → Contains faults' fault) → groups' ≡ groups ++ added →
      AreKept w faults groups ks → AreKept w faults' groups' ks
  kept_still faults faults' groups groups' added ks keeps e are k c =
      let i = are k c in
      record { table = i.table; searched = searched_still (AreInGroup w.rows k.fragments) faults faults' groups groups' added keeps e i.searched }

  -- what was looked at just now
  pub searched_now : (A : MetOf → Type 0) (faults faults' : List Fault) (groups groups' : List (List ℕ)) → Searched w A faults faults' groups groups' → Searched w A faults' faults' groups' groups'
  searched_now A faults faults' groups groups' s = record {
    tells = λ fault. (inl, (λ c. ⊎_elim (λ d. d) (λ g. (s.tells fault).1 (inr g)) c));
    grows = record {
      added = [];
      is = sym (append-nil groups');
      taken = λ q h. absurd (contains_none h.group h.is_group);
      holds = λ q i. s.grows.holds q i;
    };
  }

  pub kept_on : (A : MetOf → Type 0) (faults faults' : List Fault) (groups groups' : List (List ℕ)) (ks : List KeptOf) → Searched w A faults faults' groups groups' →
      AreKept w faults groups ks → AreKept w faults' groups' ks
  kept_on A faults faults' groups groups' ks s are =
      kept_still faults faults' groups groups' s.grows.added ks (λ fault c. (s.tells fault).1 (inl c)) s.grows.is are

  -- one table more
  pub kept_put : (old new : List KeptOf) (place : ℕ) (k : KeptOf) (faults faults' : List Fault) (groups groups' : List (List ℕ)) → ArePut old new place k →
      IsTableOf w.rows k.fragments k.fields → Searched w (AreInGroup w.rows k.fragments) faults faults' groups groups' → AreKept w faults groups old → AreKept w faults' groups' new
  kept_put old new place k faults faults' groups groups' put is s are j c = ⊎_elim
      (λ d. kept_on (AreInGroup w.rows k.fragments) faults faults' groups groups' old s are j d)
      (λ e. subst (IsKept w faults' groups') (sym e) (record { table = is; searched = searched_now (AreInGroup w.rows k.fragments) faults faults' groups groups' s }))
      (put.others j c)

  pub none_kept : (faults : List Fault) (groups : List (List ℕ)) (ks : List KeptOf) → ks ≡ [] → AreKept w faults groups ks
  none_kept faults groups ks e k c = absurd (contains_none k (subst (λ js. Contains js k) e c))

  -- the table at a place
  pub table_there : (faults : List Fault) (groups : List (List ℕ)) (ks : List KeptOf) (place : ℕ) (fragments : List ℕ) → IsTableAt ks place fragments → AreKept w faults groups ks →
      (k : KeptOf) × (slice_get ks place ≡ Some k) × IsTableOf w.rows fragments k.fields × Searched w (AreInGroup w.rows fragments) faults faults groups groups
  table_there faults groups ks place fragments h are =
      let i = are h.table (get_contains ks place h.table h.at) in (
        h.table,
        h.at,
        subst (λ ns. IsTableOf w.rows ns h.table.fields) h.is i.table,
        subst (λ ns. Searched w (AreInGroup w.rows ns) faults faults groups groups) h.is i.searched,
      )

  pub table_within : (ts : List Table) (place : ℕ) (fragments : List ℕ) → IsTableAt (tables_view ts) place fragments → place < length ts
  table_within ts place fragments h = subst (λ k. place < k) (length-map ts table_view) (slice_get_within (tables_view ts) place h.table h.at)

  pub table_here : (faults : List Fault) (groups : List (List ℕ)) (ts : List Table) (place : ℕ) (t : Table) (fragments : List ℕ) → t ≡ get_or ts place t → IsTableAt (tables_view ts) place fragments →
      AreKept w faults groups (tables_view ts) → IsTableOf w.rows fragments (by_name_view t.fields)
  table_here faults groups ts place t fragments is h are =
      let k = table_there faults groups (tables_view ts) place fragments h are in
      let read : slice_get ts place ≡ Some t = slice_get_read ts (length ts) place t refl (table_within ts place fragments h) is in
      let same : k.0 ≡ table_view t = same_Some k.0 (table_view t) (sym k.1 ∙ slice_get-map table_view ts place ∙ ap (option_map table_view) read) in
      subst (λ (j : KeptOf). IsTableOf w.rows fragments j.fields) same k.2
