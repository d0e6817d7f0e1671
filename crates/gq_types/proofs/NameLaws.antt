-- The first definition of a name.
use Rattle.std.proofs.Common.{◌≡◌, ℕ, ◌<◌, true, Option, Some, None, List, length, get_or, is_some, IfSome, refl, sym, ◌∙◌, ap, subst}
use Rattle.std.proofs.lemmas.List.Quantifiers.{position-Some}
use Rattle.std.proofs.lemmas.Option.{get_or_from_slice_get}
use Rattle.gq_text.specs.declared.place.Span.{Span}
use Rattle.gq_tree.specs.Plain.{TypeSystemOf, schema, type_definition, directive_definition}
use Rattle.gq_types.specs.Entries.{Text, EntryOf}
use Rattle.gq_types.specs.Joined.{is_type_named, kind_in, type_number, kind_named}
use Rattle.gq_types.specs.Laws.{TypesHaveKinds, NumbersDefineTypes}
use Rattle.gq_types.proofs.JoinedLemmas.{split_at}
use Rattle.gq_types.proofs.Searches.{position_within}
use Rattle.gq_types.proofs.TableLemmas.{no_kind, kind_at}

pub numbers_define : NumbersDefineTypes
numbers_define es text number is =
    let inside : number < length es = subst (λ o. IfSome o (λ i. i < length es)) is (position_within (λ e. is_type_named text e.definition) es) in
    let here = split_at es number inside in
    let named : is_type_named text (get_or es number here.0).definition ≡ true = (position-Some (λ e. is_type_named text e.definition) es number here.0 is).1 in
    record {
      entry = here.0;
      stands = here.1;
      is_named = ap (λ e. is_type_named text e.definition) (sym (get_or_from_slice_get es number here.0 here.0 here.1)) ∙ named;
      has_kind = kind_at text es number here.0 is here.1;
    }

has_kind : (text : Text) (d : TypeSystemOf Span) → is_type_named text d ≡ true → is_some (kind_in d) ≡ true
has_kind text (schema extends description directives roots place) h = absurd (cc)
has_kind text (type_definition extends description name directives body place) h = refl
has_kind text (directive_definition description name arguments repeatable locations place) h = absurd (cc)

by_number : (es : List EntryOf) (text : Text) (o : Option ℕ) → type_number es text ≡ o → is_some o ≡ is_some (kind_named es text)
by_number es text None is = sym (ap (λ o. is_some o) (no_kind text es is))
by_number es text (Some number) is =
    let defines = numbers_define es text number is in
    sym (ap (λ o. is_some o) defines.has_kind ∙ has_kind text defines.entry.definition defines.is_named)

pub types_have : TypesHaveKinds
types_have es text = by_number es text (type_number es text) refl
