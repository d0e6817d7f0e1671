-- No type has a number past the last entry: nothing with such a number has fields or interfaces.
use Rattle.std.proofs.Common.{◌≡◌, ℕ, ◌<◌, ◌≤◌, Bool, true, false, cond, List, [], ◌∷◌, ◌++◌, Option, Some, None, length, refl, ◌∙◌, ap, arith, nat_eq, IfSome, ⊎_elim}
use Rattle.std.specs.Prelude.{filter, flat_map, find, slice_get, unwrap_or, if◌then◌else◌}
use Rattle.std.specs.Option.{option_map, option_map_or}
use Rattle.std.specs.List.{list_any}
use Rattle.std.specs.Str.{bytes_eq}
use Rattle.std.proofs.lemmas.Bool.Decides.{Decides-eqb}
use Rattle.std.proofs.lemmas.Option.{slice_get_within, slice_get_cases}
use Rattle.gq_text.specs.declared.place.Span.{Span}
use Rattle.gq_tree.specs.Plain.{BodyOf, scalar_type, TypeSystemOf, schema, type_definition, directive_definition}
use Rattle.gq_types.specs.Entries.{Text, EntryOf, Numbered, numbered}
use Rattle.gq_types.specs.Joined.{put_in, parts_in, parts_of, body_in, owner, owner_of, type_number, kind_named, is_type_named, fields_in_body, interfaces_in_body}
use Rattle.gq_types.specs.Kinds.{kind_of, same_kind}
use Rattle.gq_types.specs.LookUps.{field_in, declares_in}
use Rattle.gq_types.proofs.PartLookups.{Stand, numbered_stand}
use Rattle.gq_types.proofs.Searches.{position_within}

-- what is extended, or the extension itself, stands among so many entries
extended_within : (b : Bool) (o : Option ℕ) (number count : ℕ) → IfSome o (λ i. i < count) → number < count → (if b then unwrap_or o number else number) < count
extended_within true None number count first within = within
extended_within true (Some i) number count first within = first
extended_within false o number count first within = within

module _ {A : Type 0} (parts : BodyOf Span → List A) (none : parts scalar_type ≡ []) (es : List EntryOf) (number : ℕ) (past : length es ≤ number) where
  -- an entry that belongs to such a number is a schema extension
  without : (k file : ℕ) (d : TypeSystemOf Span) → k < length es → owner_of es k d ≡ number → put_in file (parts (body_in d)) ≡ []
  without k file (schema extends description directives roots place) within is = ap (λ xs. put_in file xs) none
  without k file (type_definition true description name directives body place) within is =
      let inside = extended_within (option_map_or (same_kind (kind_of body)) (kind_named es name.text) false) (type_number es name.text) k (length es) (position_within (λ e. is_type_named name.text e.definition) es) within in
      absurd (omega (arith, inside, is, past))
  without k file (type_definition false description name directives body place) within is = absurd (omega (arith, within, is, past))
  without k file (directive_definition description name arguments repeatable locations place) within is = ap (λ xs. put_in file xs) none

  one : (n : Numbered) (ns : List Numbered) → n.number < length es → (b : Bool) → nat_eq (owner es n) number ≡ b
      → flat_map (λ n. parts_in parts n.entry) (filter (λ n. nat_eq (owner es n) number) ns) ≡ []
      → flat_map (λ n. parts_in parts n.entry) (cond b (n ∷ filter (λ n. nat_eq (owner es n) number) ns) (filter (λ n. nat_eq (owner es n) number) ns)) ≡ []
  one n ns within true is rest =
      ap (λ xs. xs ++ flat_map (λ n. parts_in parts n.entry) (filter (λ n. nat_eq (owner es n) number) ns)) (without n.number n.entry.file n.entry.definition within ((Decides-eqb (owner es n) number).0 is)) ∙ rest
  one n ns within false is rest = rest

  none_joined : (ns : List Numbered) → Stand es ns → flat_map (λ n. parts_in parts n.entry) (filter (λ n. nat_eq (owner es n) number) ns) ≡ []
  none_joined [] stand = refl
  none_joined (n ∷ ns) stand = one n ns (slice_get_within es n.number n.entry stand.0) (nat_eq (owner es n) number) refl (none_joined ns stand.1)

  no_parts : parts_of parts es number ≡ []
  no_parts = none_joined (numbered es) (numbered_stand es)

pub no_field : (es : List EntryOf) (number : ℕ) (text : Text) → length es ≤ number → field_in es number text ≡ None
no_field es number text past = ap (λ fs. option_map (λ f. f.it) (find (λ f. bytes_eq text f.it.name.text) fs)) (no_parts fields_in_body refl es number past)

-- a number at which nothing stands
nothing_at : {P : Type 0} (p : P) (o : Option EntryOf) → ◌≡◌ {A = Option P} None (option_map (λ e. p) o) → o ≡ None
nothing_at p None h = refl
nothing_at p (Some e) h = absurd (cc)

module _ {P : Type 0} (es : List EntryOf) (number : ℕ) (text : Text) (p : P) (nothing : ◌≡◌ {A = Option P} None (option_map (λ e. p) (slice_get es number))) where
  past_last : length es ≤ number
  past_last = ⊎_elim (λ there. let none = nothing_at p (slice_get es number) nothing in let some = there.2 in absurd (cc)) (λ past. past.0) (slice_get_cases es number).1

  pub no_interface : declares_in es number text ≡ false
  no_interface = ap (λ is. list_any (λ i. bytes_eq text i.it.text) is) (no_parts interfaces_in_body refl es number past_last)
