-- What a schema tells, and places alone.
use Rattle.std.proofs.Common.{◌≡◌, true, false, List, [], ◌∷◌, Option, Some, None, refl, sym, ap, subst, ◌∙◌}
use Rattle.std.specs.Prelude.{option_and_then}
use Rattle.gq_project.specs.declared.document.Doc.{Doc}
use Rattle.gq_types.specs.Entries.{EntryOf}
use Rattle.gq_types.proofs.Gathered.{first, only}
use Rattle.gq_tree.specs.Readings.{readings_view}
use Rattle.gq_types.specs.Look.{types_view}
use Rattle.gq_schema.specs.SchemaOf.{IsTypeSystemOf, HasNoFault}
use Rattle.gq_known.specs.declared.known.Known.{Known}
use Rattle.gq_known.specs.Known.{IsKnown}
use Rattle.gq_index.specs.declared.occurrence.Occurrence.{Occurrence}
use Rattle.gq_query.specs.Order.{AreExactly}
use Rattle.gq_query.specs.Schemas.{BySchema, of_schema, of_none}
use Rattle.gq_query.proofs.Exact.{exactly_none, exactly_same, sorted_one}

-- the documents have one type system
abbrev pub OneTypeSystem : List Doc → Type 0
OneTypeSystem documents = (xs ys : List EntryOf) → IsTypeSystemOf documents xs → IsTypeSystemOf documents ys → xs ≡ ys

type_system_known : (known : Known) → IsKnown known → IsTypeSystemOf known.project.now (types_view known.types.now)
type_system_known known is = record { readings = readings_view known.readings.now; are_readings = is.are_readings; is = is.is_type_system }

pub one_told : {A : Type 0} (documents : List Doc) (tells : List EntryOf → Option A) (a b : Option A) → OneTypeSystem documents → BySchema documents tells a → BySchema documents tells b → a ≡ b
one_told documents tells a b one (of_schema {es = xs} s h e) (of_schema {es = ys} t i f) = e ∙ ap tells (one xs ys s t) ∙ sym f
one_told documents tells a b one (of_schema {es = xs} s h e) (of_none none f) = absurd (none xs s h)
one_told documents tells a b one (of_none none e) (of_schema {es = ys} t i f) = absurd (none ys t i)
one_told documents tells a b one (of_none none e) (of_none without f) = e ∙ sym f

pub exactly_told : (documents : List Doc) (tells : List EntryOf → Option Occurrence) (place : Option Occurrence) (found : List Occurrence) → OneTypeSystem documents → BySchema documents tells place → AreExactly (λ o. place ≡ Some o) found → AreExactly (λ o. BySchema documents tells (Some o)) found
exactly_told documents tells place found one told e =
    exactly_same (λ o. BySchema documents tells (Some o)) (λ o. place ≡ Some o) found
    (λ o. ((λ same. subst (λ p. BySchema documents tells p) same told), (λ there. one_told documents tells place (Some o) one told there)))
    e

same_place : (a b : Occurrence) → ◌≡◌ {A = Option Occurrence} (Some a) (Some b) → a ≡ b
same_place a b e = cc

pub exactly_one : (p : Occurrence) → AreExactly (λ o. ◌≡◌ {A = Option Occurrence} (Some p) (Some o)) (p ∷ [])
exactly_one p = record { sorted = sorted_one p; exact = λ o. ((λ c. ap Some (sym (only p o c))), (λ e. first p o [] (same_place p o e))) }

pub exactly_no : AreExactly (λ o. ◌≡◌ {A = Option Occurrence} None (Some o)) []
exactly_no = exactly_none (λ o. ◌≡◌ {A = Option Occurrence} None (Some o)) (λ o e. absurd (cc))

-- the type system that is known tells where no rule of it is broken, and else nothing is told
pub schema_known : (known : Known) → IsKnown known → known.has_schema ≡ true → BySchema known.project.now (λ (es : List EntryOf). Some es) (Some (types_view known.types.now))
schema_known known is sound = of_schema (type_system_known known is) (is.sound sound) refl

pub no_schema_known : (known : Known) → OneTypeSystem known.project.now → IsKnown known → known.has_schema ≡ false → BySchema known.project.now (λ (es : List EntryOf). Some es) None
no_schema_known known one is faulty = of_none
    (λ es own sound. is.faulty faulty (subst (λ (l : List EntryOf). HasNoFault l) (one es (types_view known.types.now) own (type_system_known known is)) sound))
    refl

pub told_by : {A : Type 0} (documents : List Doc) (tells : List EntryOf → Option A) (schema : Option (List EntryOf)) (told : Option A) → BySchema documents (λ (es : List EntryOf). Some es) schema → told ≡ option_and_then tells schema →
    BySchema documents tells told
told_by documents tells schema told (of_schema is none e) t = of_schema is none (t ∙ ap (option_and_then tells) e)
told_by documents tells schema told (of_none none e) t = of_none none (t ∙ ap (option_and_then tells) e)
