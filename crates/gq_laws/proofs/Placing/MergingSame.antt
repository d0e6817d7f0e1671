-- Fields that say the same meet and differ alike.
use Rattle.std.proofs.Common.{◌≡◌, List, refl, sym, ap, ◌∙◌}
use Rattle.gq_text.specs.declared.place.Span.{Span}
use Rattle.gq_tree.specs.Plain.{TypeOf}
use Rattle.gq_types.specs.Entries.{EntryOf}
use Rattle.gq_document.specs.Selections.{selected_field}
use Rattle.gq_document.specs.FieldSets.{FieldAt}
use Rattle.gq_merging.specs.declared.purpose.Purpose.{Purpose}
use Rattle.gq_merging.specs.declared.purpose.Purpose.TheVariants.{Shapes, Names}
use Rattle.gq_merging.specs.FieldsMerge.{can_coincide, leads_on, HasType, IsSameCall, Differ, in_shape, in_call}
use Rattle.gq_laws.specs.Placing.Merging.{SayTheSame}
use Rattle.gq_laws.proofs.Placing.MergingValues.{arguments_alike}

has_type : {es : List EntryOf} {a : FieldAt} {t : TypeOf Span} (b : FieldAt) → SayTheSame a b → HasType es a t → HasType es b t
has_type {es} {a} {t} b e h = record {
  definition = h.definition;
  is_known = sym (ap (λ z. selected_field es z a.name.text) e.parent ∙ ap (λ z. selected_field es b.parent z) e.text) ∙ h.is_known;
  is = h.is;
  end_is_known = h.end_is_known;
}

same_call : (a b c d : FieldAt) → SayTheSame a c → SayTheSame b d → IsSameCall c d → IsSameCall a b
same_call a b c d e f h = record {
  one_name = e.text ∙ h.one_name ∙ sym f.text;
  same_arguments = arguments_alike c.arguments d.arguments a.arguments b.arguments (sym e.same_arguments) (sym f.same_arguments) h.same_arguments;
}

coincide_alike : (es : List EntryOf) (a b c d : FieldAt) → SayTheSame a c → SayTheSame b d → can_coincide es a.parent b.parent ≡ can_coincide es c.parent d.parent
coincide_alike es a b c d e f = ap (λ z. can_coincide es z b.parent) e.parent ∙ ap (λ z. can_coincide es c.parent z) f.parent

pub leads_alike : (es : List EntryOf) (purpose : Purpose) (a b c d : FieldAt) → SayTheSame a c → SayTheSame b d → leads_on es purpose a b ≡ leads_on es purpose c d
leads_alike es Shapes a b c d e f = refl
leads_alike es Names a b c d e f = coincide_alike es a b c d e f

pub differ_alike : {es : List EntryOf} {purpose : Purpose} {a b : FieldAt} (c d : FieldAt) → SayTheSame a c → SayTheSame b d → Differ es purpose a b → Differ es purpose c d
differ_alike c d e f (in_shape left right h k apart) = in_shape left right (has_type c e h) (has_type d f k) apart
differ_alike {es} c d e f (in_call {a = a} {b = b} can apart) = in_call (sym (coincide_alike es a b c d e f) ∙ can) (λ s. apart (same_call a b c d e f s))
