-- Faults of directives and of default values, in type systems that are equal but for their places.
use Rattle.std.proofs.Common.{◌≡◌, ℕ, List, [], ◌∷◌, ◌++◌, Option, Some, None, map, flat_map, refl, sym, ap, ◌∙◌, subst, Contains}
use Rattle.std.specs.Prelude.{not, nat_eq}
use Rattle.std.specs.Option.{option_map, option_map_or}
use Rattle.std.proofs.lemmas.List.{map-append}
use Rattle.std.proofs.lemmas.List.Elements.{Contains-append_right}
use Rattle.gq_text.specs.declared.place.Span.{Span}
use Rattle.gq_fault.specs.declared.fault.Fault.{Fault}
use Rattle.gq_tree.specs.declared.type_system.DirectiveLocation.{DirectiveLocation}
use Rattle.gq_tree.specs.declared.type_system.DirectiveLocation.TheVariants as location
use Rattle.gq_tree.specs.Plain.{Val, DirectiveOf, InputOf, FieldDefinitionOf, BodyOf, scalar_type, object_type, interface_type, union_type, enum_type, input_type, TypeSystemOf, schema, type_definition, directive_definition, place_value, place_directive, place_input, place_field, place_enum_value, place_body, place_type_system, no_place}
use Rattle.gq_types.specs.Entries.{Text, EntryOf, Numbered, numbered}
use Rattle.gq_types.specs.BuiltIn.{defines_built_in}
use Rattle.gq_types.specs.Joined.{fields_in_body, values_in_body, inputs_in_body, owner, joined, judged}
use Rattle.gq_types.proofs.Gathered.{first, from_filter, to_filter}
use Rattle.gq_values.specs.Literals.{default_at}
use Rattle.gq_values.specs.LiteralFaults.{IsLiteralFault}
use Rattle.gq_values.specs.DirectiveFaults.{IsDirectiveFault}
use Rattle.gq_type_system.specs.DirectivesAndDefaults.{Site, argument_site, field_sites, value_site, input_field_site, sites_in_body, sites_in, type_location, own_site, directive_names, own_names, all_inputs, told, IsBadDirectiveOrDefault, in_site, in_entry, in_default}
use Rattle.gq_rules.specs.Files.{in_file}
use Rattle.gq_laws.specs.Placing.Names.{forgotten, bare_value, bare_directive}
use Rattle.gq_laws.specs.Placing.OtherFields.{LooksAlikeBut}
use Rattle.gq_types.proofs.Placing.Alike.{back, seen, contains}
use Rattle.gq_types.proofs.Placing.Lists.{gathered, weaken}
use Rattle.gq_laws.proofs.Placing.Literals.{erase_expected, default_alike, literal_too}
use Rattle.gq_laws.proofs.Placing.Arguments.{option_too, texts_alike, directive_too}
use Rattle.gq_laws.proofs.Placing.Lookups.{all_fields, defaults, literal, directive}
use Rattle.gq_laws.proofs.Placing.Bare.{value_placed, directive_placed}
use Rattle.gq_laws.proofs.Placing.Elsewhere.{literal_elsewhere, directive_elsewhere}
use Rattle.gq_laws.proofs.Placing.Judged.{erase_marked, HasAlike, erase_judged, built_in_alike, entries_too, judged_too, joined_marked}
use Rattle.gq_types.proofs.Placing.Entries.{fields_alike, values_alike, inputs_alike, owners}
use Rattle.gq_laws.proofs.Placing.Entries.{looks_alike}

-- what is equal but for places is equal but for places and the names of variables
value_alike : (v w : Val Span) → place_value no_place v ≡ place_value no_place w → bare_value v ≡ bare_value w
value_alike v w e = sym (value_placed forgotten no_place v) ∙ ap (λ z. bare_value z) e ∙ value_placed forgotten no_place w

directive_of_alike : (d u : DirectiveOf Span) → place_directive no_place d ≡ place_directive no_place u → bare_directive d ≡ bare_directive u
directive_of_alike d u e = sym (directive_placed forgotten no_place d) ∙ ap (λ z. bare_directive z) e ∙ directive_placed forgotten no_place u

-- places that may have directives, where their spans are forgotten
abbrev erase_directives : List (DirectiveOf Span) → List (DirectiveOf (Unit {0}))
erase_directives ds = map (place_directive no_place) ds

abbrev erase_site : Site → DirectiveLocation × List (DirectiveOf (Unit {0}))
erase_site s = (s.location, erase_directives s.directives)

site_alike : (s t : Site) → erase_site s ≡ erase_site t → map bare_directive s.directives ≡ map bare_directive t.directives
site_alike s t e = weaken (place_directive no_place) bare_directive directive_of_alike s.directives t.directives (ap (λ z. z.1) e)

each_site : {A K : Type 0} (h : A → K) (site : A → Site) → ((a b : A) → h a ≡ h b → erase_site (site a) ≡ erase_site (site b)) →
    (xs ys : List A) → map h xs ≡ map h ys → map erase_site (map site xs) ≡ map erase_site (map site ys)
each_site h site each [] [] e = refl
each_site h site each [] (b ∷ ys) e = absurd (cc)
each_site h site each (a ∷ xs) [] e = absurd (cc)
each_site h site each (a ∷ xs) (b ∷ ys) e =
    let one : h a ≡ h b = cc in
    let rest : map h xs ≡ map h ys = cc in
    ap (λ z. z ∷ map erase_site (map site xs)) (each a b one) ∙ ap (λ z. erase_site (site b) ∷ z) (each_site h site each xs ys rest)

argument_sites_alike : (xs ys : List (InputOf Span)) → map (place_input no_place) xs ≡ map (place_input no_place) ys → map erase_site (map argument_site xs) ≡ map erase_site (map argument_site ys)
argument_sites_alike xs ys e = each_site (place_input no_place) argument_site (λ a b h. ap (λ z. (location.ArgumentDefinition, z.directives)) h) xs ys e

field_sites_alike : (f g : FieldDefinitionOf Span) → place_field no_place f ≡ place_field no_place g → map erase_site (field_sites f) ≡ map erase_site (field_sites g)
field_sites_alike f g e =
    ap (λ z. (location.FieldDefinition, z.directives) ∷ map erase_site (map argument_site f.arguments)) e
    ∙ ap (λ z. (location.FieldDefinition, erase_directives g.directives) ∷ z) (argument_sites_alike f.arguments g.arguments (ap (λ z. z.arguments) e))

both : {A K : Type 0} (h : A → K) (xs ys zs ws : List A) → map h xs ≡ map h ys → map h zs ≡ map h ws → map h (xs ++ zs) ≡ map h (ys ++ ws)
both h xs ys zs ws e f = map-append h xs zs ∙ ap (λ z. z ++ map h zs) e ∙ ap (λ z. map h ys ++ z) f ∙ sym (map-append h ys ws)

body_sites_alike : (b c : BodyOf Span) → place_body no_place b ≡ place_body no_place c → map erase_site (sites_in_body b) ≡ map erase_site (sites_in_body c)
body_sites_alike b c e =
    both erase_site (flat_map field_sites (fields_in_body b) ++ map value_site (values_in_body b)) (flat_map field_sites (fields_in_body c) ++ map value_site (values_in_body c))
    (map input_field_site (inputs_in_body b)) (map input_field_site (inputs_in_body c))
    (both erase_site (flat_map field_sites (fields_in_body b)) (flat_map field_sites (fields_in_body c)) (map value_site (values_in_body b)) (map value_site (values_in_body c))
    (gathered (place_field no_place) erase_site field_sites field_sites_alike (fields_in_body b) (fields_in_body c) (fields_alike b c e))
    (each_site (place_enum_value no_place) value_site (λ v w h. ap (λ z. (location.EnumValue, z.directives)) h) (values_in_body b) (values_in_body c) (values_alike b c e)))
    (each_site (place_input no_place) input_field_site (λ i j h. ap (λ z. (location.InputFieldDefinition, z.directives)) h) (inputs_in_body b) (inputs_in_body c) (inputs_alike b c e))

sites_alike : (d u : TypeSystemOf Span) → place_type_system no_place d ≡ place_type_system no_place u → map erase_site (sites_in d) ≡ map erase_site (sites_in u)
sites_alike (schema a b c d e) (schema a2 b2 c2 d2 e2) h = refl
sites_alike (type_definition a b c d e g) (type_definition a2 b2 c2 d2 e2 g2) h =
    let bodies : place_body no_place e ≡ place_body no_place e2 = cc in
    body_sites_alike e e2 bodies
sites_alike (directive_definition a b c d e g) (directive_definition a2 b2 c2 d2 e2 g2) h =
    let those : map (place_input no_place) c ≡ map (place_input no_place) c2 = cc in
    argument_sites_alike c c2 those
sites_alike _ _ h = absurd (cc)

-- a definition or extension itself
location_erased : (b : BodyOf Span) → type_location b ≡ type_location (place_body back (place_body no_place b))
location_erased scalar_type = refl
location_erased (object_type interfaces fields) = refl
location_erased (interface_type interfaces fields) = refl
location_erased (union_type members) = refl
location_erased (enum_type values) = refl
location_erased (input_type fields) = refl

own_site_alike : (d u : TypeSystemOf Span) → place_type_system no_place d ≡ place_type_system no_place u → option_map erase_site (own_site d) ≡ option_map erase_site (own_site u)
own_site_alike (schema a b c d e) (schema a2 b2 c2 d2 e2) h =
    let those : erase_directives c ≡ erase_directives c2 = cc in
    ap (λ z. Some (location.Schema, z)) those
own_site_alike (type_definition a b c d e g) (type_definition a2 b2 c2 d2 e2 g2) h =
    let those : erase_directives d ≡ erase_directives d2 = cc in
    let bodies : place_body no_place e ≡ place_body no_place e2 = cc in
    let locations : type_location e ≡ type_location e2 = seen (place_body no_place) (place_body back) type_location location_erased e e2 bodies in
    cc
own_site_alike (directive_definition a b c d e g) (directive_definition a2 b2 c2 d2 e2 g2) h = refl
own_site_alike _ _ h = absurd (cc)

names_step : (o u : Option Site) → option_map erase_site o ≡ option_map erase_site u → option_map_or directive_names o [] ≡ option_map_or directive_names u []
names_step None None e = refl
names_step None (Some t) e = absurd (cc)
names_step (Some s) None e = absurd (cc)
names_step (Some s) (Some t) e =
    let sites : erase_site s ≡ erase_site t = cc in
    texts_alike s.directives t.directives (site_alike s t sites)

abbrev names_of : List Numbered → List Text
names_of ns = flat_map (λ m. own_names m.entry) ns

module _ {M : Type 0} (mark : ℕ → M) where
  own_names_alike : (n m : Numbered) → erase_judged mark n ≡ erase_judged mark m → own_names n.entry ≡ own_names m.entry
  own_names_alike n m e = names_step (own_site n.entry.definition) (own_site m.entry.definition) (own_site_alike n.entry.definition m.entry.definition (ap (λ z. z.1.1) e))

  names_before_alike : (ns ms : List Numbered) → map (erase_judged mark) ns ≡ map (erase_judged mark) ms → names_of ns ≡ names_of ms
  names_before_alike [] [] e = refl
  names_before_alike [] (m ∷ ms) e = absurd (cc)
  names_before_alike (n ∷ ns) [] e = absurd (cc)
  names_before_alike (n ∷ ns) (m ∷ ms) e =
      let one : erase_judged mark n ≡ erase_judged mark m = cc in
      let rest : map (erase_judged mark) ns ≡ map (erase_judged mark) ms = cc in
      ap (λ z. z ++ names_of ns) (own_names_alike n m one) ∙ ap (λ z. own_names m.entry ++ z) (names_before_alike ns ms rest)

-- the arguments and input fields of a definition
arguments_alike : (fs gs : List (FieldDefinitionOf Span)) → map (place_field no_place) fs ≡ map (place_field no_place) gs →
    map (place_input no_place) (flat_map (λ f. f.arguments) fs) ≡ map (place_input no_place) (flat_map (λ f. f.arguments) gs)
arguments_alike fs gs e = gathered (place_field no_place) (place_input no_place) (λ f. f.arguments) (λ f g h. ap (λ z. z.arguments) h) fs gs e

all_inputs_alike : (d u : TypeSystemOf Span) → place_type_system no_place d ≡ place_type_system no_place u → map (place_input no_place) (all_inputs d) ≡ map (place_input no_place) (all_inputs u)
all_inputs_alike (schema a b c d e) (schema a2 b2 c2 d2 e2) h = refl
all_inputs_alike (type_definition a b c d e g) (type_definition a2 b2 c2 d2 e2 g2) h =
    let bodies : place_body no_place e ≡ place_body no_place e2 = cc in
    both (place_input no_place) (flat_map (λ f. f.arguments) (fields_in_body e)) (flat_map (λ f. f.arguments) (fields_in_body e2)) (inputs_in_body e) (inputs_in_body e2)
    (arguments_alike (fields_in_body e) (fields_in_body e2) (fields_alike e e2 bodies)) (inputs_alike e e2 bodies)
all_inputs_alike (directive_definition a b c d e g) (directive_definition a2 b2 c2 d2 e2 g2) h = cc
all_inputs_alike _ _ h = absurd (cc)

-- a list that is split, and one that is equal where something is forgotten
record SplitToo {A K : Type 0} (h : A → K) (before : List A) (x : A) (ys : List A) : Type 0 where
  earlier : List A
  one : A
  later : List A
  are : ys ≡ earlier ++ one ∷ later
  same_earlier : map h before ≡ map h earlier
  same_one : h x ≡ h one

split_step : {A K : Type 0} (h : A → K) (b y : A) (before : List A) (x : A) (ys : List A) → h b ≡ h y → SplitToo h before x ys → SplitToo h (b ∷ before) x (y ∷ ys)
split_step h b y before x ys e r = record {
  earlier = y ∷ r.earlier;
  one = r.one;
  later = r.later;
  are = ap (λ z. y ∷ z) r.are;
  same_earlier = ap (λ z. z ∷ map h before) e ∙ ap (λ z. h y ∷ z) r.same_earlier;
  same_one = r.same_one;
}

split_too : {A K : Type 0} (h : A → K) (before : List A) (x : A) (after ys : List A) → map h (before ++ x ∷ after) ≡ map h ys → SplitToo h before x ys
split_too h [] x after [] e = absurd (cc)
split_too h [] x after (y ∷ ys) e = record { earlier = []; one = y; later = ys; are = refl; same_earlier = refl; same_one = cc }
split_too h (b ∷ before) x after [] e = absurd (cc)
split_too h (b ∷ before) x after (y ∷ ys) e =
    let head : h b ≡ h y = cc in
    let rest : map h (before ++ x ∷ after) ≡ map h ys = cc in
    split_step h b y before x ys head (split_too h before x after ys rest)

module _ {M : Type 0} (mark : ℕ → M) (es us : List EntryOf) (same : map (erase_marked mark) es ≡ map (erase_marked mark) us) where
  looks : LooksAlikeBut [] es us
  looks = all_fields es us (looks_alike es us (entries_too mark es us same))

  -- the same faults of directives and of literals, but for their places and for the numbers of their documents
  directives_too : (f : Fault) (file file2 : ℕ) (s t : Site) (names names2 : List Text) → mark file2 ≡ mark file → erase_site s ≡ erase_site t → names ≡ names2 →
      IsDirectiveFault es file s.location names s.directives f → HasAlike mark (IsDirectiveFault us file2 t.location names2 t.directives) f
  directives_too f file file2 s t names names2 files sites before h =
      let g = directive_too us file f s.location names s.directives t.directives (site_alike s t sites) (directive [] es us looks h) in
      let at_location = subst (λ l. IsDirectiveFault us file l names t.directives g.0) (ap (λ z. z.0) sites) g.1 in
      let at_names = subst (λ l. IsDirectiveFault us file t.location l t.directives g.0) before at_location in
      (in_file file2 g.0, (directive_elsewhere at_names).1 file2, files ∙ ap mark (sym (directive_elsewhere h).0), g.3)

  default_too : (f : Fault) (file file2 : ℕ) (i j : InputOf Span) (v w : Val Span) → mark file2 ≡ mark file → place_input no_place i ≡ place_input no_place j →
      place_value no_place v ≡ place_value no_place w → IsLiteralFault es file (default_at es i.type_ref) v f → HasAlike mark (IsLiteralFault us file2 (default_at us j.type_ref) w) f
  default_too f file file2 i j v w files inputs values h =
      let expected = default_alike es i.type_ref j.type_ref (ap (λ z. z.type_ref) inputs) ∙ ap erase_expected (defaults [] es us looks j.type_ref) in
      let there = literal [] es us looks (default_at us j.type_ref) expected h in
      let g = literal_too us file f (default_at us j.type_ref) (default_at us j.type_ref) v w refl (value_alike v w values) there in
      (in_file file2 g.0, (literal_elsewhere g.1).1 file2, files ∙ ap mark (sym (literal_elsewhere h).0), g.3)

  -- an entry that is judged among those that belong to the same, of the one and of the other
  abbrev EntryToo : (before : List Numbered) → Numbered → Type 0
  EntryToo before n =
      (earlier : List Numbered) × (m : Numbered) × (later : List Numbered) × Contains (judged us) m
      × (joined us (owner us m) ≡ earlier ++ m ∷ later) × (map (erase_judged mark) before ≡ map (erase_judged mark) earlier) × (erase_judged mark n ≡ erase_judged mark m)

  entry_too : (before : List Numbered) (n : Numbered) (after : List Numbered) → Contains (judged es) n → joined es (owner es n) ≡ before ++ n ∷ after → EntryToo before n
  entry_too before n after c are =
      let r = split_too (erase_judged mark) before n after (joined us (owner es n)) (ap (map (erase_judged mark)) (sym are) ∙ joined_marked mark es us same (owner es n)) in
      let stands = subst (λ z. Contains z r.one) (sym r.are) (Contains-append_right r.earlier (r.one ∷ r.later) r.one (first r.one r.one r.later refl)) in
      let there = from_filter (λ m. nat_eq (owner us m) (owner es n)) (numbered us) r.one stands in
      let passes = from_filter (λ n. not (defines_built_in n.entry.definition)) (numbered es) n c in
      let is_judged = to_filter (λ n. not (defines_built_in n.entry.definition)) (numbered us) r.one there.0 (sym (built_in_alike mark n r.one r.same_one) ∙ passes.1) in
      let belongs = owners es us (entries_too mark es us same) n r.one (ap (λ z. (z.0, z.1.1)) r.same_one) in
      (r.earlier, r.one, r.later, is_judged, ap (joined us) (sym belongs) ∙ r.are, r.same_earlier, r.same_one)

  pub bad_directive_or_default_too : (f : Fault) → IsBadDirectiveOrDefault es f → HasAlike mark (IsBadDirectiveOrDefault us) f
  bad_directive_or_default_too f (in_site {n = n} {site = site} {fault = fault} c s h is) =
      let m = judged_too mark es us same n c in
      let t = contains erase_site (sites_in n.entry.definition) (sites_in m.0.entry.definition) (sites_alike n.entry.definition m.0.entry.definition m.4) site s in
      let g = directives_too fault n.entry.file m.0.entry.file site t.0 [] [] m.3 t.2 refl h in
      (told g.0, in_site {n = m.0} {site = t.0} {fault = g.0} m.1 t.1 g.1 refl, g.2 ∙ ap (λ z. mark z.file) (sym is), ap (λ z. z.code) (sym is))
  bad_directive_or_default_too f (in_entry before n after {site = site} {fault = fault} c are own h is) =
      let r = entry_too before n after c are in
      let m = r.1 in
      let t = option_too erase_site (own_site m.entry.definition) site (ap (option_map erase_site) (sym own) ∙ own_site_alike n.entry.definition m.entry.definition (ap (λ z. z.1.1) r.6)) in
      let names = names_before_alike mark before r.0 r.5 in
      let g = directives_too fault n.entry.file m.entry.file site t.0 (names_of before) (names_of r.0) (ap (λ z. z.1.0) (sym r.6)) t.2 names h in
      (told g.0, in_entry r.0 m r.2 {site = t.0} {fault = g.0} r.3 r.4 t.1 g.1 refl, g.2 ∙ ap (λ z. mark z.file) (sym is), ap (λ z. z.code) (sym is))
  bad_directive_or_default_too f (in_default {n = n} {input = input} {default = default} {fault = fault} c s d h is) =
      let m = judged_too mark es us same n c in
      let i = contains (place_input no_place) (all_inputs n.entry.definition) (all_inputs m.0.entry.definition) (all_inputs_alike n.entry.definition m.0.entry.definition m.4) input s in
      let v = option_too (place_value no_place) i.0.default default (ap (option_map (place_value no_place)) (sym d) ∙ ap (λ z. z.default) i.2) in
      let g = default_too fault n.entry.file m.0.entry.file input i.0 default v.0 m.3 i.2 v.2 h in
      (told g.0, in_default {n = m.0} {input = i.0} {default = v.0} {fault = g.0} m.1 i.1 v.1 g.1 refl, g.2 ∙ ap (λ z. mark z.file) (sym is), ap (λ z. z.code) (sym is))
